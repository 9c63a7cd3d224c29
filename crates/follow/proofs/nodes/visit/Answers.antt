-- `visit` meets its contract: passed over or not, then by the task. Assumes nothing.
use mathlib.Core.Path.{◌∙◌}
use Rattle.follow.proofs.TallyLaws.{rows_none, rows_one, rows_as}
use Rattle.follow.proofs.FollowLaws.{own_passed, own_place_lem, own_entries}
use Rattle.follow.proofs.nodes.visit.Goals as goal

pub returns-then-passed : goal.returns-then-passed
returns-then-passed c = record { taken = rows_none _ _ _ (own_passed _ _ _ _ _ _ _ c.if-passed.true) }

pub put_place-requires : goal.put_place-requires
put_place-requires c = record { no_room = c.requires.room c.in-Place.is }

pub returns-in-Entries : goal.returns-in-Entries
returns-in-Entries c = record { taken = rows_as _ _ _ _ _ c.put_entries.ensures.taken (own_entries _ _ _ _ _ _ _ c.if-passed.false c.in-Entries.is) }

pub returns-in-Place : goal.returns-in-Place
returns-in-Place c = record { taken = rows_as _ _ _ _ _ (c.put_place.ensures.counted _ ∙ rows_one _ _ _) (own_place_lem _ _ _ _ _ _ _ c.if-passed.false c.in-Place.is) }
