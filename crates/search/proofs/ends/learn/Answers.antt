-- `learn` meets its contract: no end that the loop has passed is both preferred and led to
-- (proofs/CutEnds). Assumes nothing.
use Prim.Native.Nat.{ℕ, ◌+◌}
use mathlib.Core.Path.{◌≡◌, refl, sym, ◌∙◌}
use mathlib.Core.Bool.{true, false}
use native.Mathlib.Omega.{arith}
use borrow.Author.Count.{below_more}
use Rattle.block.specs.Block.{pair_flag}
use Rattle.block.specs.Sets.{has_scope}
use Rattle.block.proofs.SetLaws.{scope_in}
use Rattle.search.specs.Tables.{table_board}
use Rattle.search.proofs.CutEnds.{behind, cut_yes, cut_none, cut_past, cut_known, known_yes, known_no, left_preferred, left_not, left_none}
use Rattle.search.proofs.ends.learn.Goals as goal

pub returns-then-c-gt8 : goal.returns-then-c-gt8
returns-then-c-gt8 c = record { known = c.requires.known; cut = sym (cut_past (table_board c.args.block.now c.args.goal) c.args.block.now c.args.n.left (has_scope c.args.n.free) c.args.n.scope c.args.n.state c.args.c (omega arith)) }

pub returns-then-known-first-ne0 : goal.returns-then-known-first-ne0
returns-then-known-first-ne0 c = record { known = c.requires.known; cut = sym (cut_known c.args.block.now c.args.goal c.args.n c.args.known c.args.c c.better-first.result c.requires.known c.better-first.ensures.answer (omega arith) (omega arith) c.if-known-first-ne0.true) }

pub returns-then-ask-eq0 : goal.returns-then-ask-eq0
returns-then-ask-eq0 c = record { known = c.requires.known; cut = sym (left_none c.args.block.now c.args.goal c.args.n c.args.known c.args.c c.better-first.result c.requires.known c.better-first.ensures.answer c.if-ask-eq0.true) }

pub loop-a-init : goal.loop-a-init
loop-a-init c = (c.requires.known, λ k h. absurd (omega arith))

pub loop-a-preserved-then-not-has : goal.loop-a-preserved-then-not-has
loop-a-preserved-then-not-has c = (
  c.loop-a.invariant.0,
  below_more (λ (k : ℕ). pair_flag c.args.block.now k c.args.c ≡ true → behind c.args.block.now c.args.goal c.args.n k ≡ false) c.loop-a.a c.loop-a.invariant.1
      (λ e. left_not c.args.block.now c.args.goal c.args.n c.args.known c.args.c c.better-first.result c.requires.known c.better-first.ensures.answer c.loop-a.a (omega arith)
      (sym (scope_in _ c.loop-a.a (omega arith)) ∙ sym c.has.ensures.answer ∙ c.if-not-has.true) e),
)

pub end_leads-requires : goal.end_leads-requires
end_leads-requires c = record { bounds = c.requires.bounds; table = c.requires.table; inside = c.requires.inside; live = c.requires.live; end = omega arith }

pub returns-then-end_leads : goal.returns-then-end_leads
returns-then-end_leads c = let leads : behind c.args.block.now c.args.goal c.args.n c.loop-a.a ≡ true = sym c.end_leads.ensures.answer ∙ c.if-end_leads.true in record {
  known = known_yes c.args.block.now c.args.goal c.args.n c.loop-a.out c.loop-a.a c.single.result c.loop-a.a c.loop-a.invariant.0 (omega arith) c.single.ensures.answer refl leads;
  cut = sym (cut_yes (table_board c.args.block.now c.args.goal) c.args.block.now c.args.n.left (has_scope c.args.n.free) c.args.n.scope c.args.n.state c.args.c c.loop-a.a (omega arith)
      (left_preferred c.args.block.now c.args.goal c.args.n c.args.known c.args.c c.better-first.result c.requires.known c.better-first.ensures.answer c.loop-a.a
      (sym (scope_in _ c.loop-a.a (omega arith)) ∙ sym c.has.ensures.answer ∙ c.if-not-has.false)) leads);
}

pub loop-a-preserved : goal.loop-a-preserved
loop-a-preserved c = let leads_not : behind c.args.block.now c.args.goal c.args.n c.loop-a.a ≡ false = sym c.end_leads.ensures.answer ∙ c.if-end_leads.false in (
  known_no c.args.block.now c.args.goal c.args.n c.loop-a.out c.loop-a.a c.single-out.result (16 + c.loop-a.a) c.loop-a.invariant.0 (omega arith) c.single-out.ensures.answer refl leads_not,
  below_more (λ (k : ℕ). pair_flag c.args.block.now k c.args.c ≡ true → behind c.args.block.now c.args.goal c.args.n k ≡ false) c.loop-a.a c.loop-a.invariant.1 (λ e. leads_not),
)

pub returns : goal.returns
returns c = record { known = c.loop-a.invariant.0; cut = sym (cut_none (table_board c.args.block.now c.args.goal) c.args.block.now c.args.n.left (has_scope c.args.n.free) c.args.n.scope c.args.n.state c.args.c (λ k h. c.loop-a.invariant.1 k (omega arith))) }
