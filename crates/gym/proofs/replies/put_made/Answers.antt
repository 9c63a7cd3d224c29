-- `gym::replies::put_made` leaves what was made, or puts the line of its refusal. Assumes nothing.
use Prim.Native.Nat.{ℕ}
use mathlib.Core.Path.{ap, ◌∙◌}
use Rattle.std.specs.declared.result.Result.{Result}
use Rattle.printing.specs.Parts.{answered}
use Rattle.gym.proofs.ReplyLaws.{answer_replied}
use Rattle.gym.proofs.replies.put_made.Goals as goal

pub returns : goal.returns
returns c = record { written = λ o lent room e l. answer_replied o c.args.made lent _ _ _ room e l (c.put_answer.ensures.written ∙ ap (λ (a : Result ℕ ℕ). answered a c.args.out.now) c.numbered.ensures.answer) }
