-- `gym::words::last_command` looks for the word in their sequence. Assumes nothing.
use mathlib.Core.Path.{sym, ◌∙◌}
use mathlib.Core.Bool.{true, false}
use Rattle.gym.specs.Words.{back_asked, undot_asked, renumber_word, was_word, back_word, dot_word, undot_word, help_word}
use Rattle.gym.specs.Handed.{meaning, reply_meaning}
use Rattle.gym.proofs.WordLaws.{same_told, none_given, one_given, as_renumber, as_was, as_back, as_dot, as_undot, as_help, as_unknown}
use Rattle.gym.proofs.words.last_command.Goals as goal

pub returns-then-eq : goal.returns-then-eq
unfolding meaning reply_meaning renumber_word
returns-then-eq c = record { answer = λ x b. c.given.ensures.answer x b ∙ none_given x b c.args.count _ ∙ sym (as_renumber c.args.name.now _ (same_told _ _ _ true _ c.as_slice.ensures c.if-eq.true c.eq.ensures)) }

pub returns-then-eq-2 : goal.returns-then-eq-2
unfolding meaning reply_meaning renumber_word was_word
returns-then-eq-2 c = record { answer = λ x b. c.given-then-eq-2.ensures.answer x b ∙ none_given x b c.args.count _ ∙ sym (as_was c.args.name.now _ (same_told _ _ _ false _ c.as_slice.ensures c.if-eq.false c.eq.ensures) (same_told _ _ _ true _ c.as_slice-2.ensures c.if-eq-2.true c.eq-2.ensures)) }

pub returns-then-eq-3 : goal.returns-then-eq-3
unfolding meaning reply_meaning back_asked renumber_word was_word back_word
returns-then-eq-3 c = record { answer = λ x b. c.given-then-eq-3.ensures.answer x b ∙ one_given x b c.args.count back_asked ∙ sym (as_back c.args.name.now _ (same_told _ _ _ false _ c.as_slice.ensures c.if-eq.false c.eq.ensures) (same_told _ _ _ false _ c.as_slice-2.ensures c.if-eq-2.false c.eq-2.ensures) (same_told _ _ _ true _ c.as_slice-3.ensures c.if-eq-3.true c.eq-3.ensures)) }

pub returns-then-eq-4 : goal.returns-then-eq-4
unfolding meaning reply_meaning renumber_word was_word back_word dot_word
returns-then-eq-4 c = record { answer = λ x b. c.given-then-eq-4.ensures.answer x b ∙ none_given x b c.args.count _ ∙ sym (as_dot c.args.name.now _ (same_told _ _ _ false _ c.as_slice.ensures c.if-eq.false c.eq.ensures) (same_told _ _ _ false _ c.as_slice-2.ensures c.if-eq-2.false c.eq-2.ensures) (same_told _ _ _ false _ c.as_slice-3.ensures c.if-eq-3.false c.eq-3.ensures) (same_told _ _ _ true _ c.as_slice-4.ensures c.if-eq-4.true c.eq-4.ensures)) }

pub returns-then-eq-5 : goal.returns-then-eq-5
unfolding meaning reply_meaning undot_asked renumber_word was_word back_word dot_word undot_word
returns-then-eq-5 c = record { answer = λ x b. c.given-then-eq-5.ensures.answer x b ∙ one_given x b c.args.count undot_asked ∙ sym (as_undot c.args.name.now _ (same_told _ _ _ false _ c.as_slice.ensures c.if-eq.false c.eq.ensures) (same_told _ _ _ false _ c.as_slice-2.ensures c.if-eq-2.false c.eq-2.ensures) (same_told _ _ _ false _ c.as_slice-3.ensures c.if-eq-3.false c.eq-3.ensures) (same_told _ _ _ false _ c.as_slice-4.ensures c.if-eq-4.false c.eq-4.ensures) (same_told _ _ _ true _ c.as_slice-5.ensures c.if-eq-5.true c.eq-5.ensures)) }

pub returns-then-eq-6 : goal.returns-then-eq-6
unfolding meaning reply_meaning renumber_word was_word back_word dot_word undot_word help_word
returns-then-eq-6 c = record { answer = λ x b. c.given-then-eq-6.ensures.answer x b ∙ none_given x b c.args.count _ ∙ sym (as_help c.args.name.now _ (same_told _ _ _ false _ c.as_slice.ensures c.if-eq.false c.eq.ensures) (same_told _ _ _ false _ c.as_slice-2.ensures c.if-eq-2.false c.eq-2.ensures) (same_told _ _ _ false _ c.as_slice-3.ensures c.if-eq-3.false c.eq-3.ensures) (same_told _ _ _ false _ c.as_slice-4.ensures c.if-eq-4.false c.eq-4.ensures) (same_told _ _ _ false _ c.as_slice-5.ensures c.if-eq-5.false c.eq-5.ensures) (same_told _ _ _ true _ c.as_slice-6.ensures c.if-eq-6.true c.eq-6.ensures)) }

pub returns : goal.returns
unfolding meaning reply_meaning renumber_word was_word back_word dot_word undot_word help_word
returns c = record { answer = λ x b. sym (as_unknown c.args.name.now _ (same_told _ _ _ false _ c.as_slice.ensures c.if-eq.false c.eq.ensures) (same_told _ _ _ false _ c.as_slice-2.ensures c.if-eq-2.false c.eq-2.ensures) (same_told _ _ _ false _ c.as_slice-3.ensures c.if-eq-3.false c.eq-3.ensures) (same_told _ _ _ false _ c.as_slice-4.ensures c.if-eq-4.false c.eq-4.ensures) (same_told _ _ _ false _ c.as_slice-5.ensures c.if-eq-5.false c.eq-5.ensures) (same_told _ _ _ false _ c.as_slice-6.ensures c.if-eq-6.false c.eq-6.ensures)) }
