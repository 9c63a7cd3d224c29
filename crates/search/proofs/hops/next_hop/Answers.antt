-- `next_hop` meets its contract: the next hop from edge i on is the next from p on. Assumes
-- nothing.
use mathlib.Core.Path.{◌≡◌, refl, sym, ◌∙◌}
use native.Mathlib.Omega.{arith}
use Rattle.search.proofs.HopLaws.{next_more, next_here, next_end}
use Rattle.search.proofs.hops.next_hop.Goals as goal

pub loop-i-init : goal.loop-i-init
loop-i-init c = (refl, λ h. refl)

pub returns-then-worth-lt16 : goal.returns-then-worth-lt16
returns-then-worth-lt16 c = record {
  answer = next_here _ _ _ _ _ (omega (arith, c.edges_end-end.ensures.answer)) (rw (c.worth.ensures.answer, c.edge_at.ensures.answer) at c.if-worth-lt16.true)
      ∙ sym c.loop-i.invariant.0;
}

pub loop-i-preserved : goal.loop-i-preserved
loop-i-preserved c = (
  c.loop-i.invariant.0
      ∙ next_more _ _ _ _ _ (omega (arith, c.edges_end-end.ensures.answer)) (rw (c.worth.ensures.answer, c.edge_at.ensures.answer) at c.if-worth-lt16.false),
  λ h. absurd (omega (arith, h)),
)

pub returns : goal.returns
returns c =
    let e : c.max.result ≡ c.loop-i.i = grind (arith, c.max.ensures, c.loop-i.invariant.1) in
    record { answer = e ∙ next_end _ _ _ _ _ (omega (arith, c.edges_end-end.ensures.answer)) ∙ sym c.loop-i.invariant.0 }
