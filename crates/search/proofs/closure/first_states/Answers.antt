-- `first_states` meets its contract. Assumes nothing.
use native.Mathlib.Omega.{arith}
use lib.Pow.{pow_pos}
use Rattle.block.proofs.SetLaws.{one_shifted, states_all}
use Rattle.search.proofs.Closing.{states_first}
use Rattle.search.proofs.closure.first_states.Goals as goal

pub overflow_sub-result : goal.overflow_sub-result
overflow_sub-result c = omega (arith, one_shifted c.args.n (omega arith), pow_pos c.args.n)

pub returns-then-n-lt16 : goal.returns-then-n-lt16
returns-then-n-lt16 c = record { answer = λ q h k. states_first c.args.n q c.if-n-lt16.true k }

pub returns-else-n-lt16 : goal.returns-else-n-lt16
returns-else-n-lt16 c = record { answer = λ q h k. states_all q h }
