-- `gym::replies::stream_of`: the usage text that was not asked for is a complaint. Assumes nothing.
use mathlib.Core.Path.{sym, ap}
use Rattle.gym.specs.declared.words.Reply.{Reply}
use Rattle.gym.specs.Said.{answered}
use Rattle.gym.specs.Handed.{reply_meaning}
use Rattle.gym.proofs.ReplyLaws.{others_out}
use Rattle.gym.proofs.replies.stream_of.Goals as goal

pub returns-in-Usage : goal.returns-in-Usage
unfolding answered reply_meaning
returns-in-Usage c = record { answer = λ a b text more. sym (ap (λ (q : Reply). (answered (reply_meaning q a b) text more).on) c.in-Usage.is) }

pub returns-in_default : goal.returns-in_default
returns-in_default c = record { answer = others_out c.args.q c.in_default.not-Usage }
