-- `is_later` meets its contract. Assumes nothing.
use mathlib.Core.Path.{sym, ap₂, ◌∙◌}
use Prim.Native.Nat.{ℕ}
use lib.Dec.{ltb}
use borrow.Author.Tests.{ne_eqb}
use Rattle.block.proofs.EdgeLaws.{later_apart, later_turns}
use Rattle.block.proofs.edges.is_later.Goals as goal

pub returns-then-edge_label : goal.returns-then-edge_label
returns-then-edge_label c = record {
  answer = let s = c.args in
      ap₂ (λ (a b : ℕ). ltb a b) c.edge_turn.ensures.answer c.edge_turn-then-edge_label.ensures.answer
      ∙ sym (later_turns s.x s.y (sym c.edge_label.ensures.answer ∙ c.if-edge_label.true ∙ c.edge_label-2.ensures.answer));
}

pub returns-else-edge_label : goal.returns-else-edge_label
returns-else-edge_label c = record {
  answer = let s = c.args in
      ne_eqb _ _ c.if-edge_label.false ∙ sym (later_apart s.x s.y (λ e. c.if-edge_label.false (c.edge_label.ensures.answer ∙ e ∙ sym c.edge_label-2.ensures.answer)));
}
