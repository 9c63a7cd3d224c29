-- `put_edges` meets its contract. The loop's invariant: writing the lines of the rows from here on
-- completes the lines of all. Assumes nothing.
use Prim.Native.Nat.{◌+◌, ◌*◌}
use mathlib.Core.Path.{◌≡◌}
use lib.ListN.{length, drop}
use native.Mathlib.Omega.{arith}
use Rattle.text_field.proofs.WritingLaws.{left_start, left_step, left_end}
use Rattle.graph_table.proofs.Parts.{rows_count}
use Rattle.dot.specs.Rows.{edge_lines}
use Rattle.dot.proofs.Texts.{edges_first, edges_none}
use Rattle.dot.proofs.lines.put_edges.Goals as goal

pub loop-i-init : goal.loop-i-init
loop-i-init c = left_start _ _

pub overflow_mul-i : goal.overflow_mul-i
overflow_mul-i c = let n = rows_count (length c.args.edges.now) c.args.edges.now (omega arith) in omega arith

pub edge_row-edge-requires : goal.edge_row-edge-requires
edge_row-edge-requires c = let n = rows_count (length c.args.edges.now) c.args.edges.now (omega arith) in record { whole = omega arith }

pub loop-i-preserved : goal.loop-i-preserved
loop-i-preserved c =
    let n = rows_count (length c.args.edges.now) c.args.edges.now (omega arith) in
    let next : 6 * (c.loop-i.i + 1) ≡ 6 * c.loop-i.i + 6 = omega arith in
    rw next
    (left_step (edge_lines c.args.labels.now (drop (6 * c.loop-i.i + 6) c.args.edges.now)) c.loop-i.invariant
    (edges_first c.args.labels.now c.args.edges.now (6 * c.loop-i.i) (omega arith) _ c.edge_row-edge.ensures.answer _ c.letter_byte.ensures.answer) c.put_edge.ensures.wrote)

pub returns : goal.returns
returns c =
    let n = rows_count (length c.args.edges.now) c.args.edges.now (omega arith) in
    record { wrote = left_end c.loop-i.invariant (edges_none c.args.labels.now c.args.edges.now (6 * c.loop-i.i) (omega arith)) }
