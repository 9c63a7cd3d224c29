-- `gym::replies::put_comparison` puts the line of each case. Assumes nothing.
use native.Mathlib.Omega.{arith}
use Rattle.comparison.specs.Compare.{first, second, neither, as_told, told_in}
use Rattle.gym.specs.Said.{counted, which_name, comparison_name}
use Rattle.gym.proofs.ReplyLaws.{short_replied, comparison_short}
use Rattle.gym.proofs.replies.put_comparison.Goals as goal

pub returns-in-First : goal.returns-in-First
unfolding told_in counted which_name comparison_name
returns-in-First c = rw c.in-First.is (record { written = short_replied (comparison_name (as_told first c.in-First.n)) _ _ _ (comparison_short first c.in-First.n (omega arith)) c.put_counted.ensures.written })

pub returns-in-Second : goal.returns-in-Second
unfolding told_in counted which_name comparison_name
returns-in-Second c = rw c.in-Second.is (record { written = short_replied (comparison_name (as_told second c.in-Second.n)) _ _ _ (comparison_short second c.in-Second.n (omega arith)) c.put_counted-in-Second.ensures.written })

pub returns-in-Neither : goal.returns-in-Neither
unfolding told_in counted which_name comparison_name
returns-in-Neither c = rw c.in-Neither.is (record { written = short_replied (comparison_name (as_told neither c.in-Neither.n)) _ _ _ (comparison_short neither c.in-Neither.n (omega arith)) c.put_counted-in-Neither.ensures.written })
