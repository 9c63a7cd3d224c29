-- `gym::words::command_of` looks for the word in their sequence. Assumes nothing.
use mathlib.Core.Path.{refl, sym, ap, ◌∙◌}
use Prim.Native.Nat.{◌-◌}
use mathlib.Core.Bool.{true, false}
use native.Mathlib.Omega.{arith}
use Rattle.gym.specs.declared.words.Reply.TheVariants.{Judge}
use Rattle.gym.specs.Words.{judge, compare, judge_asked, list_word, old_word, new_word, judge_word, compare_word}
use Rattle.gym.specs.Handed.{meaning, reply_meaning, with_so_many}
use Rattle.gym.proofs.WordLaws.{same_told, none_given, two_given, query_asks, as_none, as_list, as_old, as_new, as_judge, as_compare, as_later}
use Rattle.gym.proofs.words.command_of.Goals as goal

pub returns-then-count-eq0 : goal.returns-then-count-eq0
unfolding meaning reply_meaning
returns-then-count-eq0 c = record { answer = λ b. sym (as_none c.args.count c.args.name.now c.args.first.now b (omega arith)) }

pub returns-then-eq : goal.returns-then-eq
unfolding meaning reply_meaning list_word
returns-then-eq c = record { answer = λ b. c.given.ensures.answer c.args.first.now b ∙ none_given c.args.first.now b (c.args.count - 1) _ ∙ sym (as_list c.args.count c.args.name.now c.args.first.now b (λ z. omega arith) (same_told _ _ _ true _ c.as_slice.ensures c.if-eq.true c.eq.ensures)) }

pub returns-then-eq-2 : goal.returns-then-eq-2
unfolding meaning reply_meaning list_word old_word
returns-then-eq-2 c = record { answer = λ b. c.given-then-eq-2.ensures.answer c.args.first.now b ∙ none_given c.args.first.now b (c.args.count - 1) _ ∙ sym (as_old c.args.count c.args.name.now c.args.first.now b (λ z. omega arith) (same_told _ _ _ false _ c.as_slice.ensures c.if-eq.false c.eq.ensures) (same_told _ _ _ true _ c.as_slice-2.ensures c.if-eq-2.true c.eq-2.ensures)) }

pub returns-then-eq-3 : goal.returns-then-eq-3
unfolding meaning reply_meaning list_word old_word new_word
returns-then-eq-3 c = record { answer = λ b. c.given-then-eq-3.ensures.answer c.args.first.now b ∙ none_given c.args.first.now b (c.args.count - 1) _ ∙ sym (as_new c.args.count c.args.name.now c.args.first.now b (λ z. omega arith) (same_told _ _ _ false _ c.as_slice.ensures c.if-eq.false c.eq.ensures) (same_told _ _ _ false _ c.as_slice-2.ensures c.if-eq-2.false c.eq-2.ensures) (same_told _ _ _ true _ c.as_slice-3.ensures c.if-eq-3.true c.eq-3.ensures)) }

pub returns-then-eq-4 : goal.returns-then-eq-4
unfolding reply_meaning judge_asked list_word old_word new_word judge_word
returns-then-eq-4 c = record {
  answer = λ b.
      c.given-then-eq-4.ensures.answer c.args.first.now b
      ∙ ap (with_so_many (c.args.count - 1) 2) (query_asks Judge (λ i. judge i b) c.args.first.now b _ _ c.map_or-reply.ensures (λ i. refl) ∙ c.query_of.ensures.answer (λ i. judge i b))
      ∙ two_given c.args.first.now b (c.args.count - 1) judge_asked
      ∙ sym (as_judge c.args.count c.args.name.now c.args.first.now b (λ z. omega arith) (same_told _ _ _ false _ c.as_slice.ensures c.if-eq.false c.eq.ensures) (same_told _ _ _ false _ c.as_slice-2.ensures c.if-eq-2.false c.eq-2.ensures) (same_told _ _ _ false _ c.as_slice-3.ensures c.if-eq-3.false c.eq-3.ensures) (same_told _ _ _ true _ c.as_slice-4.ensures c.if-eq-4.true c.eq-4.ensures));
}

pub returns-then-eq-5 : goal.returns-then-eq-5
unfolding meaning reply_meaning list_word old_word new_word judge_word compare_word
returns-then-eq-5 c = record { answer = λ b. c.given-then-eq-5.ensures.answer c.args.first.now b ∙ two_given c.args.first.now b (c.args.count - 1) compare ∙ sym (as_compare c.args.count c.args.name.now c.args.first.now b (λ z. omega arith) (same_told _ _ _ false _ c.as_slice.ensures c.if-eq.false c.eq.ensures) (same_told _ _ _ false _ c.as_slice-2.ensures c.if-eq-2.false c.eq-2.ensures) (same_told _ _ _ false _ c.as_slice-3.ensures c.if-eq-3.false c.eq-3.ensures) (same_told _ _ _ false _ c.as_slice-4.ensures c.if-eq-4.false c.eq-4.ensures) (same_told _ _ _ true _ c.as_slice-5.ensures c.if-eq-5.true c.eq-5.ensures)) }

pub returns : goal.returns
unfolding list_word old_word new_word judge_word compare_word
returns c = record { answer = λ b. c.later_command.ensures.answer b ∙ sym (as_later c.args.count c.args.name.now c.args.first.now b (λ z. omega arith) (same_told _ _ _ false _ c.as_slice.ensures c.if-eq.false c.eq.ensures) (same_told _ _ _ false _ c.as_slice-2.ensures c.if-eq-2.false c.eq-2.ensures) (same_told _ _ _ false _ c.as_slice-3.ensures c.if-eq-3.false c.eq-3.ensures) (same_told _ _ _ false _ c.as_slice-4.ensures c.if-eq-4.false c.eq-4.ensures) (same_told _ _ _ false _ c.as_slice-5.ensures c.if-eq-5.false c.eq-5.ensures)) }
