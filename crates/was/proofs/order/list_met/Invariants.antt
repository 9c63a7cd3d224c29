use Prim.Native.Nat.{◌-◌}
use Rattle.graph_rows.specs.Format.{most_scopes}
use Rattle.was.specs.Cells.{scopes_by}
use Rattle.was.proofs.Walking.{Queue}
use Rattle.was.proofs.order.list_met.Given as goal

abbrev pub invariant-loop-next : goal.invariant-loop-next
invariant-loop-next l = Queue (scopes_by l.edges) l.start l.initial.met.list l.met.list l.met.count l.next

abbrev pub decreases-loop-next : goal.decreases-loop-next
decreases-loop-next l = most_scopes - l.next
