use mathlib.Core.Path.{◌≡◌}
use lib.ListN.{drop}
use Rattle.graph_rows.specs.Decode.{queries_of}
use Rattle.told.specs.Apart.{told_from, told_of}
use Rattle.told.specs.Steps.{is_done}
use Rattle.told.proofs.whole.in_form.Given as goal

abbrev pub invariant-loop-i : goal.invariant-loop-i
invariant-loop-i l =
    is_done (told_from l.table (drop l.i (queries_of l.table)) (drop l.at l.lists)) ≡ is_done (told_of l.table l.lists)
