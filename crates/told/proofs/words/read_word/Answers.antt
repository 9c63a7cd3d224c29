-- `read_word` meets its contract. Assumes nothing.
use mathlib.Core.Path.{sym}
use lib.ListN.{drop}
use Rattle.resolution.specs.Asked.{found_meaning}
use Rattle.told.specs.Steps.{word_meaning}
use Rattle.told.proofs.FixedBytes.{place_at, place_none}
use Rattle.told.proofs.WordLaws.{word_none, word_some}
use Rattle.told.proofs.words.read_word.Goals as goal

pub returns-in_err-past : goal.returns-in_err-past
unfolding word_meaning
returns-in_err-past c = record { answer = rw c.from_residual.ensures (sym (word_none _ (drop c.args.at c.args.s.now) (place_none c.args.s.now _ _ _ (rw c.requires.word at c.past.ensures.answer) c.in_err-past.was))) }

pub returns : goal.returns
unfolding word_meaning
returns c = record { answer = sym (word_some (found_meaning c.args.found) (drop c.args.at c.args.s.now) _ (place_at c.args.s.now _ _ _ (rw c.requires.word at c.past.ensures.answer) _ c.in_ok-past.was)) }
