use Prim.Native.Nat.{◌+◌}
use native.Mathlib.Numerals.{add-one}
use Rattle.graph_table.specs.Sections.{part_of}
use Rattle.graph_table.proofs.Leading.{start_within, start_ascends}
use native.Mathlib.Omega.{arith}
use Rattle.board.proofs.sections.rows_at.Goals as goal

pub offset_bounds-table-from : goal.offset_bounds-table-from
offset_bounds-table-from c = let s0 = c.requires.places.places c.args.k (omega arith) in
    let s1 = c.requires.places.places (c.args.k + 1) (omega arith) in
    let up = start_ascends c.args.k c.args.table.now in
    let w = start_within (c.args.k + 1) c.args.table.now in omega arith

pub slice_bounds-result-count : goal.slice_bounds-result-count
slice_bounds-result-count c = let s0 = c.requires.places.places c.args.k (omega arith) in
    let s1 = c.requires.places.places (c.args.k + 1) (omega arith) in
    let up = start_ascends c.args.k c.args.table.now in
    let w = start_within (c.args.k + 1) c.args.table.now in omega arith

pub slice_bounds-result-start : goal.slice_bounds-result-start
slice_bounds-result-start c = let s0 = c.requires.places.places c.args.k (omega arith) in
    let s1 = c.requires.places.places (c.args.k + 1) (omega arith) in
    let up = start_ascends c.args.k c.args.table.now in
    let w = start_within (c.args.k + 1) c.args.table.now in omega arith

pub slice_bounds-result-end : goal.slice_bounds-result-end
slice_bounds-result-end c = let s0 = c.requires.places.places c.args.k (omega arith) in
    let s1 = c.requires.places.places (c.args.k + 1) (omega arith) in
    let up = start_ascends c.args.k c.args.table.now in
    let w = start_within (c.args.k + 1) c.args.table.now in omega arith

pub returns : goal.returns
unfolding part_of
returns c = record {
  answer = let s0 = c.requires.places.places c.args.k (omega arith) in
      let s1 = c.requires.places.places (c.args.k + 1) (omega arith) in
      rw (s1, s0, add-one c.args.k);
}
