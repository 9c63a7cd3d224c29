use Prim.Native.Nat.{◌+◌, ◌-◌}
use mathlib.Core.Path.{◌≡◌}
use lib.ListN.{length}
use Rattle.resolution.proofs.Counts.{Counted}
use Rattle.printing.specs.Printed.{lent, table_text, Due}
use Rattle.printing.proofs.Laws.{parts_text}
use Rattle.printing.proofs.print_parts.Given as goal

abbrev pub invariant-loop-i : goal.invariant-loop-i
invariant-loop-i l = (length l.out ≡ lent) × Counted l.table l.i l.c × (l.place + length (parts_text lent l.table (l.n + 1 - l.i) l.i) ≡ l.sent + length (table_text l.table)) × Due l.text l.place (parts_text lent l.table (l.n + 1 - l.i) l.i)
