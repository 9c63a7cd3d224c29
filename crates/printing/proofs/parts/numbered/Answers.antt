-- `printing::parts::numbered` tells a refusal by its number. Assumes nothing.
use mathlib.Core.Path.{refl, ap}
use Rattle.std.specs.declared.result.Result.TheVariants.{Err}
use Rattle.printing.specs.Parts.{numbered}
use Rattle.printing.proofs.parts.numbered.Goals as goal

pub returns-in-Ok : goal.returns-in-Ok
unfolding numbered
returns-in-Ok c = record { answer = rw c.in-Ok.is }

pub returns-in-Err : goal.returns-in-Err
unfolding numbered
returns-in-Err c = record { answer = rw (c.in-Err.is, c.number.ensures.answer) }
