-- `found_of` meets its contract. Assumes nothing.
use mathlib.Core.Path.{sym, ap}
use Rattle.follow.specs.Tally.{State}
use Rattle.resolution.proofs.walks.found_of.Goals as goal

pub found_by-requires : goal.found_by-requires
found_by-requires c = record { ready = c.requires.ready; tallied = (_, sym (ap (λ (s : State). s.1) c.take_entries-t.ensures.taken)) }

pub returns : goal.returns
returns c = record { answer = c.found_by.ensures.answer }
