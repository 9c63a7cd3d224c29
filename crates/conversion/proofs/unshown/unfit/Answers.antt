-- `unfit` meets its contract: by the form. Assumes nothing.
use Rattle.conversion.proofs.Rows.{unfit_old, unfit_kinds}
use Rattle.conversion.proofs.unshown.unfit.Goals as goal

pub returns-in-Old : goal.returns-in-Old
returns-in-Old c = record { answer = unfit_old _ _ c.in-Old.is _ c.unshown.ensures.answer }

pub returns-in-Kinds : goal.returns-in-Kinds
returns-in-Kinds c = record { answer = unfit_kinds _ _ c.in-Kinds.is }
