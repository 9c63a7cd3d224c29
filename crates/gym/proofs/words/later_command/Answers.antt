-- `gym::words::later_command` looks for the word in their sequence. Assumes nothing.
use mathlib.Core.Path.{refl, sym, ap, ◌∙◌}
use mathlib.Core.Bool.{true, false}
use Rattle.gym.specs.declared.words.Reply.TheVariants.{Count, Readers}
use Rattle.gym.specs.Words.{count, readers, rules, count_asked, readers_asked, rules_word, count_word, readers_word}
use Rattle.gym.specs.Handed.{meaning, reply_meaning, with_so_many}
use Rattle.gym.proofs.WordLaws.{same_told, one_given, query_asks, as_rules, as_count, as_readers, as_last}
use Rattle.gym.proofs.words.later_command.Goals as goal

pub returns-then-eq : goal.returns-then-eq
unfolding meaning reply_meaning rules_word
returns-then-eq c = record { answer = λ b. c.given.ensures.answer c.args.first.now b ∙ one_given c.args.first.now b c.args.count rules ∙ sym (as_rules c.args.name.now _ (same_told _ _ _ true _ c.as_slice.ensures c.if-eq.true c.eq.ensures)) }

pub returns-then-eq-2 : goal.returns-then-eq-2
unfolding reply_meaning count_asked rules_word count_word
returns-then-eq-2 c = record {
  answer = λ b.
      c.given-then-eq-2.ensures.answer c.args.first.now b
      ∙ ap (with_so_many c.args.count 1) (query_asks Count count c.args.first.now b _ _ c.map_or-reply.ensures (λ i. refl) ∙ c.query_of.ensures.answer count)
      ∙ one_given c.args.first.now b c.args.count count_asked
      ∙ sym (as_count c.args.name.now _ (same_told _ _ _ false _ c.as_slice.ensures c.if-eq.false c.eq.ensures) (same_told _ _ _ true _ c.as_slice-2.ensures c.if-eq-2.true c.eq-2.ensures));
}

pub returns-then-eq-3 : goal.returns-then-eq-3
unfolding reply_meaning readers_asked rules_word count_word readers_word
returns-then-eq-3 c = record {
  answer = λ b.
      c.given-then-eq-3.ensures.answer c.args.first.now b
      ∙ ap (with_so_many c.args.count 1) (query_asks Readers readers c.args.first.now b _ _ c.map_or-reply-then-eq-3.ensures (λ i. refl) ∙ c.query_of-then-eq-3.ensures.answer readers)
      ∙ one_given c.args.first.now b c.args.count readers_asked
      ∙ sym (as_readers c.args.name.now _ (same_told _ _ _ false _ c.as_slice.ensures c.if-eq.false c.eq.ensures) (same_told _ _ _ false _ c.as_slice-2.ensures c.if-eq-2.false c.eq-2.ensures) (same_told _ _ _ true _ c.as_slice-3.ensures c.if-eq-3.true c.eq-3.ensures));
}

pub returns : goal.returns
unfolding rules_word count_word readers_word
returns c = record { answer = λ b. c.last_command.ensures.answer c.args.first.now b ∙ sym (as_last c.args.name.now _ (same_told _ _ _ false _ c.as_slice.ensures c.if-eq.false c.eq.ensures) (same_told _ _ _ false _ c.as_slice-2.ensures c.if-eq-2.false c.eq-2.ensures) (same_told _ _ _ false _ c.as_slice-3.ensures c.if-eq-3.false c.eq-3.ensures)) }
