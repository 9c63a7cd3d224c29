-- `label_count` meets its contract. Assumes nothing.
use Prim.Native.Nat.{◌-◌, ◌/◌}
use mathlib.Core.Path.{ap, ◌∙◌}
use Rattle.ruled.specs.Letters.{label_count}
use Rattle.ruled.proofs.Places.{start_at}
use Rattle.ruled.proofs.letters.label_count.Goals as goal

pub returns : goal.returns
unfolding label_count
returns c = record { answer = ap (λ v. (v - 1) / 6) (c.rows_from.ensures.answer ∙ start_at 1 c.args.table.now c.requires.some) }
