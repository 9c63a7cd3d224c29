-- `walk_of` meets its contract. Assumes nothing.
use Rattle.path_rules.proofs.Ends.{found_fits}
use Rattle.path_rules.proofs.walk_of.Goals as goal

pub sets-requires : goal.sets-requires
sets-requires c = record { held = found_fits _ _ _ c.find_vectors.ensures.found }
