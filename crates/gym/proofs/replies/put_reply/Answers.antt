-- `gym::replies::put_reply` puts each reply. Assumes nothing.
use mathlib.Core.Logic.{⊎_elim}
use Rattle.gym.specs.declared.words.Reply.TheVariants.{Old, New, Judge, Compare, Rules, Count, Readers, Renumber, Was, Back, Dot, Undot, Help, Usage}
use Rattle.conversion.specs.Conversion.{old_of, new_of}
use Rattle.ruled.specs.Ruled.{ruled_of}
use Rattle.readers.specs.Readers.{readers_for}
use Rattle.renumbering.specs.Renumbering.{back_for}
use Rattle.dot.specs.Drawing.{dot_of}
use Rattle.undot.specs.Undrawn.{undot_of}
use Rattle.gym.specs.Said.{answered}
use Rattle.gym.specs.Handed.{reply_meaning}
use Rattle.gym.proofs.ReplyLaws.{reply_is}
use Rattle.gym.proofs.replies.put_reply.Goals as goal

pub returns-in-Old : goal.returns-in-Old
unfolding answered reply_meaning
returns-in-Old c = record { written = reply_is _ _ _ c.args.q Old c.args.given c.in-Old.is (c.put_made.ensures.written (old_of c.args.given.text.now) c.args.out.now c.requires.room c.to_old.ensures.answer c.to_old.ensures.memory) }

pub returns-in-New : goal.returns-in-New
unfolding answered reply_meaning
returns-in-New c = record { written = reply_is _ _ _ c.args.q New c.args.given c.in-New.is (c.put_made-in-New.ensures.written (new_of c.args.given.text.now) c.args.out.now c.requires.room c.to_new.ensures.answer c.to_new.ensures.memory) }

pub returns-in-Judge : goal.returns-in-Judge
unfolding answered reply_meaning
returns-in-Judge c = record { written = reply_is _ _ _ c.args.q (Judge _) c.args.given c.in-Judge.is c.put_judged.ensures.written }

pub returns-in-Compare : goal.returns-in-Compare
unfolding answered reply_meaning
returns-in-Compare c = record { written = reply_is _ _ _ c.args.q Compare c.args.given c.in-Compare.is c.put_compared.ensures.written }

pub returns-in-Rules : goal.returns-in-Rules
unfolding answered reply_meaning
returns-in-Rules c = record { written = reply_is _ _ _ c.args.q Rules c.args.given c.in-Rules.is (c.put_made-in-Rules.ensures.written (ruled_of c.args.given.first.now c.args.given.text.now) c.args.out.now c.requires.room c.rules.ensures.answer c.rules.ensures.memory) }

pub returns-in-Count : goal.returns-in-Count
unfolding answered reply_meaning
returns-in-Count c = record { written = reply_is _ _ _ c.args.q (Count _) c.args.given c.in-Count.is c.put_count.ensures.written }

pub returns-in-Readers : goal.returns-in-Readers
unfolding answered reply_meaning
returns-in-Readers c = record { written = reply_is _ _ _ c.args.q (Readers _) c.args.given c.in-Readers.is (c.put_made-in-Readers.ensures.written (readers_for c.args.given.text.now c.in-Readers.place) c.args.out.now c.requires.room c.readers.ensures.answer c.readers.ensures.memory) }

pub returns-in-Renumber : goal.returns-in-Renumber
unfolding answered reply_meaning
returns-in-Renumber c = record { written = reply_is _ _ _ c.args.q Renumber c.args.given c.in-Renumber.is c.put_renumbered.ensures.written }

pub returns-in-Was : goal.returns-in-Was
unfolding answered reply_meaning
returns-in-Was c = record { written = reply_is _ _ _ c.args.q Was c.args.given c.in-Was.is c.put_was.ensures.written }

pub returns-in-Back : goal.returns-in-Back
unfolding answered reply_meaning
returns-in-Back c = record { written = reply_is _ _ _ c.args.q Back c.args.given c.in-Back.is (c.put_made-in-Back.ensures.written (back_for c.args.given.text.now c.args.given.more.now) c.args.out.now c.requires.room c.back.ensures.answer c.back.ensures.memory) }

pub returns-in-Dot : goal.returns-in-Dot
unfolding answered reply_meaning
returns-in-Dot c = record { written = reply_is _ _ _ c.args.q Dot c.args.given c.in-Dot.is (c.put_made-in-Dot.ensures.written (dot_of c.args.given.text.now) c.args.out.now c.requires.room c.dot.ensures.answer c.dot.ensures.memory) }

pub returns-in-Undot : goal.returns-in-Undot
unfolding answered reply_meaning
returns-in-Undot c = record { written = reply_is _ _ _ c.args.q Undot c.args.given c.in-Undot.is (c.put_made-in-Undot.ensures.written (undot_of c.args.given.text.now c.args.given.more.now) c.args.out.now c.requires.room c.undot.ensures.answer c.undot.ensures.memory) }

-- both for who asks for help and for who has to be told
pub returns-in-Help : goal.returns-in-Help
unfolding answered reply_meaning
returns-in-Help c = record {
  written = ⊎_elim (λ e. reply_is _ _ _ c.args.q Help c.args.given e c.put_usage.ensures.written)
      (λ e. reply_is _ _ _ c.args.q Usage c.args.given e c.put_usage.ensures.written) c.in-Help.is;
}
