-- What a host is told of an output, and what its lent memory holds afterwards (document 01, "Who
-- can cause a refusal"). Assumes nothing: these are definitions.
use Rattle.std.specs.Prelude.{ℕ, List, ◌++◌, Bool, true, false, ltb, length, drop}
use Rattle.std.specs.declared.result.Result.{Result}
use Rattle.std.specs.declared.result.Result.TheVariants.{Ok, Err}
use Rattle.text_field.specs.declared.refusal.Refusal.{Refusal}
use Rattle.text_field.specs.Refusal.{number_of}
use Rattle.text_field.specs.Outcome.{Outcome, refused, done, and_then, refuse_if}

-- what a result says: what was asked for, as how much was written, or a refusal by its number
unfoldable pub answer_of : {A : Type 0} → Result A Refusal → Outcome A
answer_of (Ok a) = done a
answer_of (Err r) = refused (number_of r)

-- the number of the refusal; 0 if there is none
unfoldable pub fault_of : {A : Type 0} → Result A Refusal → ℕ
fault_of (Ok a) = 0
fault_of (Err r) = number_of r

-- What the host is told for an output and the room lent for it: how much was written, or the
-- refusal; 9, too little room, comes last.
unfoldable pub answer : Outcome (List ℕ) → ℕ → Outcome ℕ
answer o room = and_then o (λ out. refuse_if (ltb room (length out)) 9 (done (length out)))

unfoldable pub written : Bool → List ℕ → List ℕ → List ℕ
written true out lent = lent
written false out lent = out ++ drop (length out) lent

-- What the lent memory holds afterwards: the output and behind it what was there; after a refusal,
-- what was there.
unfoldable pub leaves : Outcome (List ℕ) → List ℕ → List ℕ
leaves (refused n) lent = lent
leaves (done out) lent = written (ltb (length lent) (length out)) out lent
