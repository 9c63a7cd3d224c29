-- `gym::replies::put_usage` puts the usage text, which is made of the words. Assumes nothing.
use mathlib.Core.List.{flat_map}
use Rattle.gym.specs.Text.{spaces, padded}
use Rattle.gym.specs.Words.{list_word, old_word, new_word, judge_word, compare_word, rules_word, count_word, readers_word, renumber_word, was_word, back_word, dot_word, undot_word, help_word, last_words, later_words, words}
use Rattle.gym.specs.Said.{usage_line, usage_text}
use Rattle.gym.proofs.ReplyLaws.{usage_replied}
use Rattle.gym.proofs.replies.put_usage.Goals as goal

pub returns : goal.returns
unfolding usage_text flat_map words usage_line padded spaces list_word old_word new_word judge_word compare_word rules_word count_word readers_word renumber_word was_word back_word dot_word undot_word help_word last_words later_words
returns c = record { written = usage_replied _ _ _ c.put_bytes.ensures.written }
