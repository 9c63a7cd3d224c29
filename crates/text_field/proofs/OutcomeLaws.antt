-- What an outcome that was not refused tells of the steps it came by. Assumes nothing.
use Prim.Native.Nat.{ℕ}
use mathlib.Core.Path.{◌≡◌, refl}
use mathlib.Core.Bool.{Bool, true, false}
use native.Mathlib.Omega.{arith}
use Rattle.text_field.specs.Outcome.{Outcome, refused, done, and_then, refuse_if}

pub done_same : {A : Type 0} (a b : A) → done a ≡ done b → a ≡ b
done_same a b e = cc

pub not_done : {A : Type 0} (n : ℕ) (a : A) → refused n ≡ done a → ⊥
not_done n a e = let z : ◌≡◌ {A = ℕ} 0 1 = cc in omega arith

-- both steps were gone
pub record Went {A B : Type 0} (o : Outcome A) (next : A → Outcome B) (b : B) : Type 0 where
  pub gained : A
  pub before : o ≡ done gained
  pub after : next gained ≡ done b

pub went : {A B : Type 0} (o : Outcome A) (next : A → Outcome B) (b : B) → and_then o next ≡ done b → Went o next b
unfolding and_then
went (refused n) next b e = absurd (not_done n b e)
went (done a) next b e = record { gained = a; before = refl; after = e }

-- the test did not hold
pub passed : {A : Type 0} (t : Bool) (n : ℕ) (o : Outcome A) (a : A) → refuse_if t n o ≡ done a → (t ≡ false) × (o ≡ done a)
unfolding refuse_if
passed true n o a e = absurd (not_done n a e)
passed false n o a e = (refl, e)
