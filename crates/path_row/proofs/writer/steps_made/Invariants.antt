use mathlib.Core.Path.{◌≡◌}
use mathlib.Core.List.{◌++◌}
use lib.ListN.{length, take}
use Rattle.path_row.specs.Form.{steps_made}
use Rattle.path_row.proofs.WriterLaws.{steps_from}
use Rattle.path_row.proofs.writer.steps_made.Given as goal

abbrev pub invariant-loop-i : goal.invariant-loop-i
invariant-loop-i l = record {
  room : length l.steps ≡ 63;
  makes : take l.i l.steps ++ steps_from l.letters l.scopes l.count l.i ≡ steps_made l.count l.letters l.scopes;
}
