-- `worth` meets its contract: one law for each way the tests go. Assumes nothing.
use mathlib.Core.Path.{sym, ◌∙◌}
use native.Mathlib.Omega.{arith}
use Rattle.block.specs.Block.{hop_of}
use Rattle.block.proofs.SetLaws.{label_in_lem}
use Rattle.search.proofs.HopLaws.{hop_yes, hop_unasked, hop_taken, hop_dead}
use Rattle.search.proofs.hops.worth.Goals as goal

pub returns-then-not-has : goal.returns-then-not-has
unfolding hop_of
returns-then-not-has c = record { answer = sym (hop_taken _ _ _ _ _ (hop_of c.args.x) (rw c.edge_scope-to.ensures.answer at (sym c.has.ensures.answer ∙ c.if-not-has.true))) }

pub returns-then-not-has-2 : goal.returns-then-not-has-2
unfolding hop_of
returns-then-not-has-2 c = record { answer = sym (hop_unasked _ _ _ _ _ (hop_of c.args.x) (label_in_lem _ _ (omega arith) ∙ rw c.edge_label-label.ensures.answer at (sym c.has-2.ensures.answer ∙ c.if-not-has-2.true))) }

pub returns-then-place : goal.returns-then-place
unfolding hop_of
returns-then-place c = record {
  answer = let next = rw c.edge_label-label.ensures.answer at c.next_state-r.ensures.answer in
      next
      ∙ sym (hop_yes _ _ _ _ _ (hop_of c.args.x) (label_in_lem _ _ (omega arith) ∙ rw c.edge_label-label.ensures.answer at (sym c.has-2.ensures.answer ∙ c.if-not-has-2.false))
      (rw c.edge_scope-to.ensures.answer at (sym c.has.ensures.answer ∙ c.if-not-has.false)) (rw (next, c.edge_scope-to.ensures.answer) at (sym c.place.ensures.answer ∙ c.if-place.true)));
}

pub returns-else-place : goal.returns-else-place
unfolding hop_of
returns-else-place c = record {
  answer = let next = rw c.edge_label-label.ensures.answer at c.next_state-r.ensures.answer in
      sym (hop_dead _ _ _ _ _ (hop_of c.args.x) (rw (next, c.edge_scope-to.ensures.answer) at (sym c.place.ensures.answer ∙ c.if-place.false)));
}
