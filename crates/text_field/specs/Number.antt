-- Numbers as text (document 01, "The gym file"): decimal, five digits at most, and 0 first in no
-- number but 0. Assumes nothing: these are definitions.
use Rattle.std.specs.Prelude.{List, [], ◌∷◌, ◌++◌, Bool, true, false, not, ◌&&◌, ℕ, zero, suc, ◌+◌, ◌-◌, ◌*◌, ◌/◌, ◌%◌, eqb, leb, ltb}
use Rattle.text_field.specs.Bytes.{is_digit}
use Rattle.text_field.specs.Outcome.{Outcome, refused, done}
use Rattle.std.specs.declared.option.Option.TheVariants.{Some, None}
use Rattle.std.specs.declared.option.Option.{Option}

-- a number in a text: its value, and the place after it
pub record NumberFound : Type 0 where
  pub value : ℕ
  pub next : ℕ

-- What the reader of a number answers, by document 01's number: where none stands the text is not
-- of its form. That is 2 in a gym file and 8 in a path row, so the reader of the text says which.
unfoldable pub number_meaning : ℕ → Option (ℕ × ℕ) → Outcome NumberFound
number_meaning refusal (Some (v, next)) = done (record { value = v; next = next })
number_meaning refusal None = refused refusal

-- the decimal digits of v, of which at most `fuel` stand before the last
unfoldable pub digits_of : ℕ → ℕ → List ℕ
digits_of zero v = (48 + v % 10) ∷ []
digits_of (suc fuel) v =
    elim (ltb v 10) [ true ↦ (48 + v) ∷ [] | false ↦ digits_of fuel (v / 10) ++ ((48 + v % 10) ∷ []) ]

-- v in decimal, and 0 as `0`. Before its last digit v has at most v others, so v is fuel enough
unfoldable pub number_text : ℕ → List ℕ
number_text v = digits_of v v

-- a number that is v so far may have a further digit: it is not 0, and five digits are not passed
unfoldable pub growing : ℕ → Bool
growing v = not (eqb v 0) && leb v 9999

-- v was read in `width` bytes: what the bytes that follow make of it
unfoldable pub digits_from : ℕ → ℕ → List ℕ → Option (ℕ × ℕ)
digits_from v width [] = Some (v, width)
digits_from v width (x ∷ rest) =
    elim (is_digit x && growing v) [ true ↦ digits_from (v * 10 + (x - 48)) (width + 1) rest | false ↦ Some (v, width) ]

-- the number at the start of the bytes, and how many bytes it takes: as many as its form allows
unfoldable pub number_here : List ℕ → Option (ℕ × ℕ)
number_here [] = None
number_here (x ∷ rest) = elim (is_digit x) [ true ↦ digits_from (x - 48) 1 rest | false ↦ None ]

-- a number read from place `at` on: the bytes it takes become the place after it
unfoldable pub number_placed : ℕ → Option (ℕ × ℕ) → Option (ℕ × ℕ)
number_placed at (Some (v, width)) = Some (v, at + width)
number_placed at None = None
