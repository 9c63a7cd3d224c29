-- The values of specs/Promises. Assumes nothing.
use Rattle.beginnings.specs.Promises.{Promises}
use Rattle.beginnings.proofs.Listed.{beginnings_are, each_once, few}
use Rattle.beginnings.proofs.Texts.{capped_is, counted_right, count_refused}
use Rattle.beginnings.proofs.Calls.{followed_is}
use Rattle.beginnings.proofs.Examples.{example_counts}

pub promises : Promises
promises = record {
  capped_is = capped_is;
  beginnings_are = beginnings_are;
  each_once = each_once;
  few = few;
  counted_right = counted_right;
  count_refused = count_refused;
  followed_is = followed_is;
  example_counts = example_counts;
}
