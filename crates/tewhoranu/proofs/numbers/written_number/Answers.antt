use mathlib.Core.Path.{subst}
use native.Mathlib.Omega.{arith}
use borrow.Author.Rules.{rules}
use Prim.Native.Nat.{ℕ}
use Rattle.std.specs.declared.result.Result.{Result}
use Rattle.text_field.specs.declared.refusal.Refusal.{Refusal}
use Rattle.text_field.specs.Answer.{answer_of}
use Rattle.tewhoranu.specs.Numbers.{told, amount_number, written, Sized}
use Rattle.tewhoranu.proofs.numbers.written_number.Goals as goal

pub overflow_add-result : goal.overflow_add-result
unfolding answer_of Sized amount_number
overflow_add-result c = let sized = subst (λ (x : Result ℕ Refusal). Sized (answer_of x)) c.in-Ok.is c.requires.sized
    in record { fits = omega (arith, sized) }

pub returns-in-Err : goal.returns-in-Err
unfolding answer_of written told
returns-in-Err c = search rules

pub returns-in-Ok : goal.returns-in-Ok
unfolding answer_of written told amount_number
returns-in-Ok c = search rules
