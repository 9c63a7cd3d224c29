use Prim.Native.Nat.{ℕ}
use mathlib.Core.Path.{ap, subst, ◌∙◌}
use mathlib.Core.List.{List}
use lib.ListN.{length}
use borrow.Rule.Slice.PartMut.{put_mid}
use Rattle.graph_table.specs.Sections.{start_of}
use Rattle.block.specs.Layout.{START, DECL}
use Rattle.board.specs.Tables.{tabulate}
use Rattle.board.specs.Edges.{EdgesPut}
use Rattle.board.specs.Marks.{declared_cell}
use Rattle.graph_table.proofs.Leading.{part_within}
use Rattle.board.proofs.CellLaws.{copied}
use Rattle.board.proofs.FillLaws.{graph_put}
use native.Mathlib.Omega.{arith}
use Rattle.board.proofs.making.put_graph.Goals as goal

pub declared_table-declared-requires : goal.declared_table-declared-requires
declared_table-declared-requires c = record {
  room = let e = c.requires.places.places 6 (omega arith) in
      let s = ap length c.rows_at-2.ensures.answer in
      let w = part_within 6 c.args.table.now in omega arith;
}

pub returns : goal.returns
returns c = record {
  put = let table = c.args.table.now in
      let b1 : List ℕ = put_mid START 10 c.args.block.now c.copy_from_slice.new.self in
      let b2 = c.put_edges-turn.new.block in
      let turn = c.put_edges-turn.result in
      let starts = copied c.args.block.now START 10 _ c.args.at.now c.copy_from_slice.ensures.after (omega arith) (omega arith) in
      let edges = subst (λ (x : List ℕ). EdgesPut x b1 b2 turn) c.rows_at.ensures.answer c.put_edges-turn.ensures.put in
      let declared = copied b2 DECL 65 _ c.declared_table-declared.result c.copy_from_slice-2.ensures.after (omega arith) (omega arith) in
      rw declared
      (graph_put table c.args.block.now b1 b2 c.args.at.now c.declared_table-declared.result turn c.told-block c.requires.places starts edges
      (c.declared_table-declared.ensures.answer
      ∙ ap (λ (n : ℕ). tabulate (declared_cell n c.rows_at-2.result.now) 65) (c.requires.places.places 6 (omega arith))
      ∙ ap (λ (x : List ℕ). tabulate (declared_cell (start_of 6 table) x) 65) c.rows_at-2.ensures.answer));
}
