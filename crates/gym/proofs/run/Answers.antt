-- `gym::run` says what the words ask for. Assumes nothing.
use mathlib.Core.Path.{sym, ap, ◌∙◌}
use lib.ListN.{length}
use Rattle.gym.specs.Said.{Said, answered}
use Rattle.gym.specs.Handed.{handed, meaning}
use Rattle.gym.proofs.ReplyLaws.{said_is}
use Rattle.gym.proofs.run.Goals as goal

pub returns-in-Listings : goal.returns-in-Listings
unfolding meaning answered
returns-in-Listings c = record { answer = c.print_for.ensures.answer ∙ sym (ap (λ (s : Said). length s.text) (said_is (handed c.args.count c.args.name.now c.args.given.first.now c.args.given.second.now) c.args.given.text.now c.args.given.more.now c.args.given.first.now c.args.given.second.now _ _ c.in-Listings.is (c.command_of.ensures.answer c.args.given.second.now))) }

pub returns-in-One : goal.returns-in-One
unfolding meaning answered
returns-in-One c = record { answer = c.print_reply.ensures.answer ∙ sym (ap (λ (s : Said). length s.text) (said_is (handed c.args.count c.args.name.now c.args.given.first.now c.args.given.second.now) c.args.given.text.now c.args.given.more.now c.args.given.first.now c.args.given.second.now _ _ c.in-One.is (c.command_of.ensures.answer c.args.given.second.now))) }
