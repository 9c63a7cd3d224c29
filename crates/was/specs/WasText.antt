-- The list as a text, and the reading of such a text (02, K13): the line `was`, then one number a
-- line. Assumes nothing: these are definitions.
use Rattle.std.specs.Prelude.{ℕ, zero, suc, ◌+◌, Bool, true, false, not, ◌&&◌, ◌||◌, eqb, leb, drop}
use mathlib.Core.List.{List, [], ◌∷◌, ◌++◌, flat_map}
use Rattle.text_field.specs.Number.{number_text, number_here, number_meaning}
use Rattle.text_field.specs.Outcome.{Outcome, done, and_then, refuse_if}
use Rattle.std.specs.declared.option.Option.{Option}
use Rattle.std.specs.declared.option.Option.TheVariants.{Some, None}
use Rattle.graph_rows.specs.Way.{starts_with, is_empty}
use Rattle.was.specs.Order.{is_listed}

-- `was` and its LF
abbrev pub was_line : List ℕ
was_line = 119 ∷ 97 ∷ 115 ∷ 10 ∷ []

-- a number on a line of its own
unfoldable pub number_line : ℕ → List ℕ
number_line v = number_text v ++ (10 ∷ [])

unfoldable pub was_text : List ℕ → List ℕ
was_text list = was_line ++ flat_map number_line list

-- Reading. Does the text begin with these bytes?
unfoldable pub begins_with : List ℕ → List ℕ → Bool
begins_with [] text = true
begins_with (x ∷ names) [] = false
begins_with (x ∷ names) (y ∷ text) = eqb y x && begins_with names text

-- a number that was read at the start of the bytes, if an LF ends it: how many bytes it takes with
-- the LF
unfoldable pub ended_by : List ℕ → Option (ℕ × ℕ) → Option (ℕ × ℕ)
ended_by text (Some (v, width)) = elim (starts_with 10 (drop width text)) [ true ↦ Some (v, (width + 1)) | false ↦ None ]
ended_by text None = None

-- the number on the line at the start of the bytes: a number of the file's form and nothing else
unfoldable pub line_number : List ℕ → Option (ℕ × ℕ)
line_number text = ended_by text (number_here text)

-- the refusal of a text that is no such list
abbrev pub not_a_list : ℕ
not_a_list = 17

-- `left` more numbers below n, after those that are listed: each on its line, none twice, and then
-- the text ends
unfoldable pub numbers_after : ℕ → ℕ → List ℕ → List ℕ → Outcome (List ℕ)
numbers_after n zero listed text = refuse_if (not (is_empty text)) not_a_list (done listed)
numbers_after n (suc left) listed text =
    and_then (number_meaning not_a_list (line_number text))
    (λ f. refuse_if (leb n f.value || is_listed f.value listed) not_a_list
    (numbers_after n left (listed ++ (f.value ∷ [])) (drop f.next text)))

-- the list of n scopes that a text holds, or 17
unfoldable pub read_was : ℕ → List ℕ → Outcome (List ℕ)
read_was n text = refuse_if (not (begins_with was_line text)) not_a_list (numbers_after n n [] (drop 4 text))
