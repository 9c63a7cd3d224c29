use Prim.Native.Nat.{◌+◌, ◌*◌}
use mathlib.Core.Path.{◌≡◌, sym, ◌∙◌}
use native.Mathlib.Omega.{arith}
use Rattle.graph_change.proofs.EdgeLaws.{among_next}
use Rattle.graph_change.proofs.edges.has_edge.Goals as goal

pub loop-i-preserved : goal.loop-i-preserved
loop-i-preserved c =
    let first = c.first_row-first.result in
    let next : first + (c.loop-i.i + 1) * 6 ≡ first + c.loop-i.i * 6 + 6 = omega arith in
    rw next (among_next c.args.row c.args.cells.now (first + c.loop-i.i * 6) (omega arith) (sym c.is_edge.ensures.answer ∙ c.if-is_edge.false) ∙ c.loop-i.invariant)
