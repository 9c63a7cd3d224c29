-- `gym::replies::put_standing` puts the line of each case. Assumes nothing.
use native.Mathlib.Omega.{arith}
use Rattle.judge.specs.Judge.{standing_in}
use Rattle.scope_graph.specs.Agree.{as_visible, as_shadowed, as_unreached}
use Rattle.gym.specs.Said.{counted, standing_name}
use Rattle.gym.proofs.ReplyLaws.{short_replied, visible_short, shadowed_short, unreached_short}
use Rattle.gym.proofs.replies.put_standing.Goals as goal

pub returns-in-Visible : goal.returns-in-Visible
unfolding standing_in standing_name
returns-in-Visible c = rw c.in-Visible.is (record { written = short_replied (standing_name as_visible) _ _ _ visible_short c.put_bytes.ensures.written })

pub returns-in-Shadowed : goal.returns-in-Shadowed
unfolding standing_in counted standing_name
returns-in-Shadowed c = rw c.in-Shadowed.is (record { written = short_replied (standing_name (as_shadowed c.in-Shadowed.n)) _ _ _ (shadowed_short c.in-Shadowed.n (omega arith)) c.put_counted.ensures.written })

pub returns-in-Unreached : goal.returns-in-Unreached
unfolding standing_in standing_name
returns-in-Unreached c = rw c.in-Unreached.is (record { written = short_replied (standing_name as_unreached) _ _ _ unreached_short c.put_bytes-in-Unreached.ensures.written })
