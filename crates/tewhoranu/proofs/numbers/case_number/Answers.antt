use mathlib.Core.Path.{refl}
use Rattle.tewhoranu.specs.Numbers.{case_number, steps_number}
use Rattle.tewhoranu.proofs.numbers.case_number.Goals as goal

pub returns : goal.returns
unfolding case_number steps_number
returns c = record { answer = refl }
