-- Laws of what the host is told and given. Assumes nothing.
use Prim.Native.Nat.{ℕ, ◌≤◌, ◌<◌}
use mathlib.Core.Path.{◌≡◌, ap, ◌∙◌}
use mathlib.Core.List.{List}
use native.Mathlib.Omega.{arith}
use native.Mathlib.Nat.{zero-add}
use borrow.Author.Tests.{lt-ltb, le-ltb}
use lib.ListN.{length}
use Rattle.std.specs.declared.result.Result.{Result}
use Rattle.std.specs.declared.result.Result.TheVariants.{Ok, Err}
use Rattle.text_field.specs.Buffer.{Buf, puts}
use Rattle.text_field.specs.Outcome.{Outcome, refused, done, and_then, refuse_if}
use Rattle.text_field.specs.declared.refusal.Refusal.{Refusal}
use Rattle.text_field.specs.Refusal.{number_of}
use Rattle.text_field.specs.Answer.{answer_of, answer, written, leaves}
use Rattle.text_field.proofs.BufferLaws.{puts_fits}

-- what a result says, once its variant is known
module _ {A : Type 0} (x : Result A Refusal) where
  pub answer_ok : (a : A) → x ≡ Ok a → answer_of x ≡ done a
  unfolding answer_of
  answer_ok a e = ap answer_of e

  pub answer_err : (r : Refusal) → x ≡ Err r → answer_of x ≡ refused (number_of r)
  unfolding answer_of
  answer_err r e = ap answer_of e

-- a refusal
pub answer_refused : (o : Outcome (List ℕ)) (n room : ℕ) → o ≡ refused n → refused n ≡ answer o room
unfolding answer and_then
answer_refused o n room e = rw e

pub leaves_refused : (o : Outcome (List ℕ)) (n : ℕ) (lent : List ℕ) → o ≡ refused n → lent ≡ leaves o lent
unfolding leaves
leaves_refused o n lent e = rw e

-- too little room, and room enough
module _ (o : Outcome (List ℕ)) (out : List ℕ) (e : o ≡ done out) where
  pub answer_short : (room : ℕ) → room < length out → refused 9 ≡ answer o room
  unfolding answer and_then refuse_if
  answer_short room h = rw (e, lt-ltb room (length out) h)

  pub leaves_short : (lent : List ℕ) → length lent < length out → lent ≡ leaves o lent
  unfolding leaves written
  leaves_short lent h = rw (e, lt-ltb (length lent) (length out) h)

  pub answer_fits : (room n : ℕ) → length out ≡ n → n ≤ room → done n ≡ answer o room
  unfolding answer and_then refuse_if
  answer_fits room n l h = rw (e, l, le-ltb room n h)

  pub leaves_fits : (lent left : List ℕ) (p : ℕ) → length out ≤ length lent → ◌≡◌ {A = Buf} (left, p) (puts (lent, 0) out) → left ≡ leaves o lent
  unfolding leaves written
  leaves_fits lent left p h q =
      ap (λ (b : Buf). b.0) (q ∙ puts_fits lent 0 out (omega arith)) ∙ rw (e, le-ltb (length lent) (length out) h, zero-add (length out))
