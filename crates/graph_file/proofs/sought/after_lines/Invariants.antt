use Prim.Native.Nat.{◌-◌}
use mathlib.Core.Path.{◌≡◌}
use lib.ListN.{drop}
use Rattle.graph_file.specs.NameSought.{after_lines}
use Rattle.graph_file.proofs.sought.after_lines.Given as goal

abbrev pub invariant-loop : goal.invariant-loop
invariant-loop l = after_lines (l.lines - l.counter) (drop l.at l.text) ≡ after_lines l.lines l.text
