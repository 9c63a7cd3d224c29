use Prim.Native.Nat.{ℕ, ◌+◌}
use mathlib.Core.Path.{ap}
use lib.ListN.{length-replicate}
use Rattle.board.proofs.Fill.{filled_none, filled_next}
use Rattle.graph_table.proofs.Leading.{passed, looking_rows, looking_place, looking_next}
use native.Mathlib.Omega.{arith}
use Rattle.board.proofs.sections.places.Goals as goal

pub loop-k-init : goal.loop-k-init
loop-k-init g c = record { filled = filled_none _ _ _ (omega arith); looking = looking_rows _ c.args.rows.now }

pub rows_from-p-requires : goal.rows_from-p-requires
rows_from-p-requires g c = record { column = c.requires.column; within = c.loop-k.invariant.looking.within }

pub overflow_add-place : goal.overflow_add-place
overflow_add-place g c = let w = (looking_next _ _ _ _ _ _ c.loop-k.invariant.looking c.rows_from-p.ensures.answer).within in omega arith

pub loop-k-preserved : goal.loop-k-preserved
unfolding passed
loop-k-preserved g c = record {
  filled = filled_next _ _ _ _ _ c.loop-k.invariant.filled (omega (arith, length-replicate {A = ℕ} g.row.N 0)) (ap (λ n. c.args.from + n) (looking_place _ _ _ _ _ _ c.loop-k.invariant.looking c.rows_from-p.ensures.answer));
  looking = looking_next _ _ _ _ _ _ c.loop-k.invariant.looking c.rows_from-p.ensures.answer;
}
