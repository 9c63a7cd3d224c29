-- The form of a path row, read and written (document 01, "Paths", the row `mark path`). Assumes
-- nothing: these are definitions.
use Rattle.std.specs.Prelude.{ℕ, zero, suc, ◌+◌, ◌-◌, List, [], ◌∷◌, ◌++◌, map, Bool, true, false, not, ◌&&◌, leb, ltb, length, get_or, take, drop, replicate}
use Rattle.std.specs.declared.option.Option.{Option}
use Rattle.std.specs.declared.option.Option.TheVariants.{Some, None}
use Rattle.text_field.specs.Bytes.{is_capital}
use Rattle.text_field.specs.Number.{number_text, number_here, number_placed, number_meaning}
use Rattle.text_field.specs.Outcome.{Outcome, refused, done, and_then, refuse_if}
use Rattle.graph_rows.specs.Way.{starts_with, is_empty}
use Rattle.path_row.specs.declared.form.Step.{Step}
use Rattle.path_row.specs.declared.taken.Steps.{Steps}

-- A path row taken apart. A step is a label's letter and the scope that it comes to.
pub record PathRow : Type 0 where
  pub mark : ℕ
  pub start : ℕ
  pub steps : List Step

-- its limits (01, "Paths"): the greatest mark and scope, the most steps and bytes
abbrev pub most_mark : ℕ
most_mark = 65535

abbrev pub most_scope : ℕ
most_scope = 63

abbrev pub most_steps : ℕ
most_steps = 63

abbrev pub most_bytes : ℕ
most_bytes = 256

-- a number that was read, unless it is past the greatest
unfoldable pub at_most : ℕ → Option (ℕ × ℕ) → Option (ℕ × ℕ)
at_most most (Some (v, width)) = elim (ltb most v) [ true ↦ None | false ↦ Some (v, width) ]
at_most most None = None

-- the number at the front, and how many bytes it takes, if it is at most `most`
unfoldable pub number_up_to : ℕ → List ℕ → Option (ℕ × ℕ)
number_up_to most s = at_most most (number_here s)

-- a step, by its letter and what is read after it
unfoldable pub step_by : ℕ → Option (ℕ × ℕ) → Option (Step × ℕ)
step_by x (Some (v, width)) = Some (record { label = x; scope = v }, suc width)
step_by x None = None

-- the step at the front, and how many bytes it takes: one letter A to Z, listed or not, and a scope
unfoldable pub step_here : List ℕ → Option (Step × ℕ)
step_here [] = None
step_here (x ∷ rest) = elim (is_capital x) [ true ↦ step_by x (number_up_to most_scope rest) | false ↦ None ]

-- the steps at the front, at most n of them
unfoldable pub steps_of : ℕ → List ℕ → List Step
steps_of zero s = []
steps_of (suc n) s = elim (step_here s) [ Some p ↦ p.0 ∷ steps_of n (drop p.1 s) | None ↦ [] ]

-- and what stands after them
unfoldable pub after_steps : ℕ → List ℕ → List ℕ
after_steps zero s = s
after_steps (suc n) s = elim (step_here s) [ Some p ↦ after_steps n (drop p.1 s) | None ↦ s ]

-- and where they end: how many bytes they take
unfoldable pub steps_width : ℕ → List ℕ → ℕ
steps_width zero s = 0
steps_width (suc n) s = elim (step_here s) [ Some p ↦ p.1 + steps_width n (drop p.1 s) | None ↦ 0 ]

-- A row's front: its mark, a space and its start, and how many bytes these take, which is the place
-- of the first step.
pub record Front : Type 0 where
  pub mark : ℕ
  pub start : ℕ
  pub width : ℕ

abbrev pub front : ℕ → ℕ → ℕ → Front
front m v width = record { mark = m; start = v; width = width }

-- what the answer of the front's reader means (01, "Where each language form goes"): these values,
-- or refusal 8
unfoldable pub head_meaning : Option (ℕ × ℕ × ℕ) → Outcome Front
head_meaning (Some (m, v, width)) = done (front m v width)
head_meaning None = refused 8

-- A row's front, by its mark, the bytes before its start, and what is read there: in a path row a
-- number that is not there is refusal 8.
unfoldable pub start_by : ℕ → ℕ → Option (ℕ × ℕ) → Outcome Front
start_by m before r = and_then (number_meaning 8 (number_placed before r)) (λ f. done (front m f.value f.next))

-- by its mark and the place after that, where a space stands, or refusal 8
unfoldable pub space_by : ℕ → ℕ → List ℕ → Outcome Front
space_by m next s =
    elim (starts_with 32 (drop next s)) [ true ↦ start_by m (next + 1) (number_up_to most_scope (drop (next + 1) s)) | false ↦ refused 8 ]

-- and by what is read as its mark
unfoldable pub mark_by : Option (ℕ × ℕ) → List ℕ → Outcome Front
mark_by r s = and_then (number_meaning 8 r) (λ f. space_by f.value f.next s)

-- the front of a text, or refusal 8
unfoldable pub head_here : List ℕ → Outcome Front
head_here s = mark_by (number_up_to most_mark s) s

-- where the steps begin: behind the front, and at the end of a text that has none
unfoldable pub behind_front : Outcome Front → List ℕ → ℕ
behind_front (done h) s = h.width
behind_front (refused n) s = length s

-- of a whole text
unfoldable pub first_step : List ℕ → ℕ
first_step s = behind_front (head_here s) s

-- a row, by its front: refusal 8 where something stands after the steps
unfoldable pub row_by : Front → List ℕ → Outcome PathRow
row_by h s =
    refuse_if (not (is_empty (after_steps most_steps (drop h.width s)))) 8
    (done (record { mark = h.mark; start = h.start; steps = steps_of most_steps (drop h.width s) }))

-- A path row, or refusal 8 (01, "Who can cause a refusal"): too many bytes, no mark and start at
-- its front, or something after its steps.
unfoldable pub row_here : List ℕ → Outcome PathRow
row_here s = refuse_if (ltb most_bytes (length s)) 8 (and_then (head_here s) (λ h. row_by h s))

-- a row in the large: its mark, its start, and how many steps it has
pub record InLarge : Type 0 where
  pub mark : ℕ
  pub start : ℕ
  pub count : ℕ

abbrev pub in_large : PathRow → InLarge
in_large r = record { mark = r.mark; start = r.start; count = length r.steps }

unfoldable pub row_in_large : List ℕ → Outcome InLarge
row_in_large s = and_then (row_here s) (λ r. done (in_large r))

-- what the answer of the row's reader means (01, "Where each language form goes"): these values, or
-- refusal 8
unfoldable pub row_meaning : Option (ℕ × ℕ × ℕ) → Outcome InLarge
row_meaning (Some (mark, start, count)) = done (record { mark = mark; start = start; count = count })
row_meaning None = refused 8

-- The steps that stand behind a text's front, as far as they are of their form. Of a path row these
-- are its steps, all of them; a text without a front has none.
unfoldable pub steps_after : Outcome Front → List ℕ → List Step
steps_after (done h) s = steps_of most_steps (drop h.width s)
steps_after (refused n) s = []

-- of a whole text
unfoldable pub steps_in : List ℕ → List Step
steps_in s = steps_after (head_here s) s

-- past the last step
abbrev pub no_step : Step
no_step = record { label = 0; scope = 0 }

-- what is read from place `at` on: the bytes it takes become the place after it
unfoldable pub step_placed : ℕ → Option (Step × ℕ) → Option (Step × ℕ)
step_placed at (Some (s, width)) = Some (s, at + width)
step_placed at None = None

-- a step in a text: the label's letter, the scope that it comes to, and the place after it
pub record StepFound : Type 0 where
  pub label : ℕ
  pub scope : ℕ
  pub next : ℕ

-- What the answer of the step's reader means (01, "Where each language form goes"): these values, or
-- that no step stands there. By itself that is no refusal, since a row may end there: `row_by` tells
-- where it is refusal 8.
unfoldable pub step_meaning : Option (Step × ℕ) → Option StepFound
step_meaning (Some (s, next)) = Some (record { label = s.label; scope = s.scope; next = next })
step_meaning None = None

-- the step at a place of a text, if one stands there
abbrev pub step_from : ℕ → List ℕ → Option StepFound
step_from at s = step_meaning (step_placed at (step_here (drop at s)))

-- The text of a row, a listing's too: mark, space and start, then each step, the label's letter and
-- the scope.
unfoldable pub front_text : ℕ → ℕ → List ℕ
front_text mark start = number_text mark ++ (32 ∷ number_text start)

unfoldable pub step_text : ℕ → ℕ → List ℕ
step_text letter scope = letter ∷ number_text scope

unfoldable pub steps_text : List Step → List ℕ
steps_text [] = []
steps_text (s ∷ ss) = step_text s.label s.scope ++ steps_text ss

unfoldable pub row_text : PathRow → List ℕ
row_text r = front_text r.mark r.start ++ steps_text r.steps

-- a row from its parts: `count` steps, whose letters and scopes stand in two lists; past their ends
-- stands 0
unfoldable pub steps_made : ℕ → List ℕ → List ℕ → List Step
steps_made zero letters scopes = []
steps_made (suc count) letters scopes = record { label = get_or letters 0 0; scope = get_or scopes 0 0 } ∷ steps_made count (drop 1 letters) (drop 1 scopes)

-- the letters and the scopes of steps
abbrev pub letters_in : List Step → List ℕ
letters_in steps = map (λ (s : Step). s.label) steps

abbrev pub scopes_in : List Step → List ℕ
scopes_in steps = map (λ (s : Step). s.scope) steps

-- The steps that a value of the code's `Steps` holds: as many as it counts, and past those that
-- stand in it steps of zeros. A row is judged and compared by such a value, and the lent table gets
-- its steps from the same one (01, "Paths").
unfoldable pub steps_taken : Steps → List Step
steps_taken t = take t.count (t.steps ++ replicate t.count no_step)

-- Those of them that stand in it: as many as it counts, or all where it counts more.
unfoldable pub steps_at_hand : Steps → List Step
steps_at_hand t = take t.count t.steps

-- The one value that is made of steps, 63 at most: the steps, steps of zeros behind them, and their
-- number.
unfoldable pub padded : List Step → List Step
padded steps = steps ++ replicate (most_steps - length steps) no_step

abbrev pub steps_held : List Step → Steps
steps_held steps = record { steps = padded steps; count = length steps }

-- a row of a mark, a start and steps
abbrev pub row_of : ℕ → ℕ → List Step → PathRow
row_of mark start steps = record { mark = mark; start = start; steps = steps }

-- with a mark and a start
unfoldable pub row_made : ℕ → ℕ → ℕ → List ℕ → List ℕ → PathRow
row_made mark start count letters scopes = row_of mark start (steps_made count letters scopes)

-- Can it be written in this form?
unfoldable pub are_steps : List Step → Bool
are_steps [] = true
are_steps (s ∷ ss) = is_capital s.label && (leb s.scope most_scope && are_steps ss)

unfoldable pub is_row : PathRow → Bool
is_row r = leb r.mark most_mark && (leb r.start most_scope && (leb (length r.steps) most_steps && are_steps r.steps))

-- The text of a row, or refusal 8 (01, "Who can cause a refusal") if it has not the form.
unfoldable pub row_outcome : PathRow → Outcome (List ℕ)
row_outcome r = refuse_if (not (is_row r)) 8 (done (row_text r))

-- The text of a row that is made from its parts, or refusal 8: parts that make no row of the form.
unfoldable pub row_written : ℕ → ℕ → ℕ → List ℕ → List ℕ → Outcome (List ℕ)
row_written mark start count letters scopes = row_outcome (row_made mark start count letters scopes)
