-- `number_size` meets its contract: digit by digit. Assumes nothing.
use Rattle.text_field.proofs.NumberLaws.{length_short, length_long}
use native.Mathlib.Omega.{arith}
use Prim.Native.Nat.{◌/◌}
use Rattle.follow.proofs.rows.number_size.Goals as goal

pub returns-then-v-lt10 : goal.returns-then-v-lt10
returns-then-v-lt10 c = record { digits = omega (arith, length_short c.args.v (omega arith)) }

pub returns-then-v-lt100 : goal.returns-then-v-lt100
returns-then-v-lt100 c = record { digits = omega (arith, length_long c.args.v (omega arith), length_short (c.args.v / 10) (omega arith)) }

pub returns-then-v-lt1000 : goal.returns-then-v-lt1000
returns-then-v-lt1000 c = record { digits = omega (arith, length_long c.args.v (omega arith), length_long (c.args.v / 10) (omega arith), length_short (c.args.v / 10 / 10) (omega arith)) }

pub returns-then-v-lt10000 : goal.returns-then-v-lt10000
returns-then-v-lt10000 c = record { digits = omega (arith, length_long c.args.v (omega arith), length_long (c.args.v / 10) (omega arith), length_long (c.args.v / 10 / 10) (omega arith), length_short (c.args.v / 10 / 10 / 10) (omega arith)) }
