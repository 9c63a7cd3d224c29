-- The file or the list alone, for who hands them over apart. Assumes nothing: these are definitions.
use Rattle.std.specs.Prelude.{ℕ}
use Rattle.std.specs.declared.result.Result.{Result}
use Rattle.std.specs.declared.result.Result.TheVariants.{Ok, Err}
use Rattle.text_field.specs.Outcome.{Outcome, refused, done, and_then}
use Rattle.renumbering.specs.Renumbering.{Sizes}

-- how many bytes the file has
unfoldable pub file_size : Outcome Sizes → Outcome ℕ
file_size o = and_then o (λ s. done s.file)

-- how many bytes the list has
unfoldable pub list_size : Outcome Sizes → Outcome ℕ
list_size o = and_then o (λ s. done s.list)

-- What a result says, where a function tells the number of whatever was refused: what was asked for,
-- or a refusal by that number. Of a `Refusal` and its `number_of` it is `answer_of`.
unfoldable pub told_by : {A E : Type 0} → (E → ℕ) → Result A E → Outcome A
told_by number (Ok a) = done a
told_by number (Err e) = refused (number e)

-- the same of both sizes: of a `Refusal` and its `number_of` it is `numbered_of`
unfoldable pub sizes_by : {E : Type 0} → (E → ℕ) → Result (ℕ × ℕ) E → Outcome Sizes
sizes_by number (Ok (file, list)) = done (record { file = file; list = list })
sizes_by number (Err e) = refused (number e)
