-- The value of specs/Promises: all that is promised of the search holds. Assumes nothing.
use Rattle.search.specs.Promises.{Promises}
use Rattle.search.proofs.Rules.{entries_are_hits, followed_is_hit, reached_is, standing_is}
use Rattle.search.proofs.Closed.{closed_exists, closed_hits}
use Rattle.search.proofs.Parts.{part_followed}

pub promises : Promises
promises = record {
  answers = λ L laws g q range starts all full. record {
    entries_are = entries_are_hits L laws g q range starts all full;
    pair_is = followed_is_hit L laws g q range starts all full;
    path_is = reached_is L laws g q range starts all full;
    standing_is = standing_is L laws g q range starts all full;
  };
  skipping = λ b free live. record {
    none_reached = closed_exists b free live;
    none_followed = closed_hits b free live;
  };
  parts = part_followed;
}
