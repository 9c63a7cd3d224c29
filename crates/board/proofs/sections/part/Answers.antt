use mathlib.Core.Path.{◌∙◌}
use lib.ListN.{drop, length-drop}
use lib.Seq.{get_or-take, get_or-drop, length-take-le}
use native.Mathlib.Omega.{arith}
use Rattle.board.proofs.sections.part.Goals as goal

pub slice_bounds-rows_at-end : goal.slice_bounds-rows_at-end
slice_bounds-rows_at-end c = omega arith

pub rows_at-requires : goal.rows_at-requires
rows_at-requires c = record {
  places = record {
    size = length-take-le 10 (drop 156 c.args.block.now) (omega (arith, length-drop 156 c.args.block.now));
    places = λ k h. get_or-take 10 (drop 156 c.args.block.now) k 0 h ∙ get_or-drop 156 c.args.block.now k 0 ∙ c.requires.made.starts k h;
  };
  section = c.requires.section;
}
