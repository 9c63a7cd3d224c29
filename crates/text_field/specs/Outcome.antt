-- What a reading or a writing comes to. Assumes nothing: these are definitions.
use Rattle.std.specs.Prelude.{ℕ, Bool, true, false}

-- a refusal, by its number in document 01 or 02, or what was asked for
pub data Outcome (A : Type 0) : Type 0 where
  refused : ℕ → Outcome A
  done : A → Outcome A

-- go on with what was gained, unless it was refused
unfoldable pub and_then : {A B : Type 0} → Outcome A → (A → Outcome B) → Outcome B
and_then (refused n) next = refused n
and_then (done a) next = next a

-- refused by n where the test holds, and else the outcome given
unfoldable pub refuse_if : {A : Type 0} → Bool → ℕ → Outcome A → Outcome A
refuse_if true n o = refused n
refuse_if false n o = o
