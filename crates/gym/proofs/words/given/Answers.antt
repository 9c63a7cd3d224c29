-- `gym::words::given`: as many arguments as are wanted, or the usage text. Assumes nothing.
use mathlib.Core.Path.{sym}
use native.Mathlib.Omega.{arith}
use Rattle.gym.specs.Handed.{meaning, reply_meaning}
use Rattle.gym.proofs.WordLaws.{so_many, not_so_many}
use Rattle.gym.proofs.words.given.Goals as goal

pub returns-then-count-wanted : goal.returns-then-count-wanted
unfolding meaning reply_meaning
returns-then-count-wanted c = record { answer = λ a b. sym (not_so_many c.args.count c.args.wanted _ (λ z. omega arith)) }

pub returns : goal.returns
returns c = record { answer = λ a b. sym (so_many c.args.count c.args.wanted _ (omega arith)) }
