-- `path_row::form::first_step` meets its contract. Assumes nothing.
use Rattle.path_row.proofs.RowReads.{first_none, first_some}
use Rattle.path_row.proofs.form.first_step.Goals as goal

pub returns-in-None : goal.returns-in-None
returns-in-None c = record { answer = first_none _ _ c.read_head.ensures.answer c.in-None.is }

pub returns-in-Some : goal.returns-in-Some
returns-in-Some c = record { answer = first_some _ _ _ _ _ c.read_head.ensures.answer c.in-Some.is }
