-- `pair` meets its contract. Assumes nothing.
use mathlib.Core.Path.{sym, ◌∙◌}
use borrow.Author.Tests.{le-ltb}
use Rattle.block.specs.Sets.{has_bit}
use Rattle.block.proofs.BlockLaws.{pair_in, pair_no_first, pair_no_second}
use native.Mathlib.Omega.{arith}
use Rattle.block.proofs.pair.Goals.{then-a-lt9, else-a-lt9}
use Rattle.block.proofs.pair.Goals as goal

pub returns-then-c-lt9 : goal.returns-then-c-lt9
unfolding has_bit
returns-then-c-lt9 c = record { answer = sym (pair_in _ _ _ c.if-c-lt9.true.0 c.if-c-lt9.true.1) }

pub returns-else-c-lt9 : goal.returns-else-c-lt9
returns-else-c-lt9 c = record {
  answer = elim c.if-a-lt9.branch [
    | then-a-lt9 w ↦ w.t-5-is ∙ le-ltb _ _ (omega (arith, c.if-c-lt9.either, w.if-a-lt9.true)) ∙ sym (pair_no_second _ _ _ (omega (arith, c.if-c-lt9.either, w.if-a-lt9.true)))
    | else-a-lt9 w ↦ w.t-5-is ∙ le-ltb _ _ w.if-a-lt9.false ∙ sym (pair_no_first _ _ _ w.if-a-lt9.false)
  ];
}
