-- `is_less` meets its contract: the format's key is the section's. Assumes nothing.
use native.Mathlib.Omega.{arith}
use Rattle.graph_change.proofs.KeyLaws.{before_given}
use Rattle.graph_change.proofs.key.is_less.Goals as goal

pub returns : goal.returns
returns c = record { answer = before_given c.args.k _ c.args.row _ (omega arith) c.row_cells.ensures.answer c.key_place.ensures.answer _ _ c.key_less.ensures.answer }
