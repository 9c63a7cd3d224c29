-- The number that a C or Rust host gets for each answer: below 64 it is a refusal, by its own
-- number; any other answer has 64 or more. Assumes nothing: these are definitions.
use Rattle.std.specs.Prelude.{ℕ, ◌+◌, ◌*◌, ◌%◌, ◌<◌, List, true, false, eqb, length}
use Rattle.scope_graph.specs.Agree.{Judgement, as_visible, as_shadowed, as_unreached}
use Rattle.text_field.specs.Outcome.{Outcome, refused, done}
use Rattle.graph_file.specs.NameSought.{name_sought, place_sought}
use Rattle.comparison.specs.Compare.{Comparison, first, second, neither, Told}
use Rattle.renumbering.specs.Renumbering.{Sizes}

-- the version of the interface, as include/tewhoranu.h has it
abbrev pub interface_version : ℕ
interface_version = 1

-- A refusal is told by its number (01, "Who can cause a refusal"; 11, 02, K5; 12 and 13, K6; 14,
-- K9; 17, K13; 18 and 19, K14), any other answer by the number that is given for it.
unfoldable pub told : {A : Type 0} → (A → ℕ) → Outcome A → ℕ
told number (refused n) = n
told number (done a) = number a

-- how many cells or bytes were written, upward from 64
unfoldable pub amount_number : ℕ → ℕ
amount_number n = 64 + n

-- A case and a number of steps, which is 63 at most as a path has no more (document 01, "Paths"):
-- the cases are 64 apart.
unfoldable pub case_number : ℕ → ℕ → ℕ
case_number case steps = 64 * (1 + case) + steps

-- The steps as they go into the number, which has room for 63 behind each case. Listed says that no
-- answer has more, so that nothing is lost.
unfoldable pub steps_number : ℕ → ℕ
steps_number n = n % 64

-- an output, by how many cells or bytes were written
unfoldable pub written : Outcome ℕ → ℕ
written o = told amount_number o

-- a comparison (document 01, "Paths"): which of the two rows is more specific, and how many of
-- their steps are equal (02, K7)
unfoldable pub which_case : Comparison → ℕ
which_case first = 0
which_case second = 1
which_case neither = 2

unfoldable pub comparison_case : Told → ℕ
comparison_case t = which_case t.which

unfoldable pub comparison_steps : Told → ℕ
comparison_steps t = t.steps

unfoldable pub compared : Outcome Told → ℕ
compared o = told (λ t. case_number (comparison_case t) (steps_number (comparison_steps t))) o

-- a standing (document 01, "Paths"), and the steps that *shadowed* carries (02, K7)
unfoldable pub standing_case : Judgement → ℕ
standing_case as_visible = 0
standing_case (as_shadowed n) = 1
standing_case as_unreached = 2

unfoldable pub standing_steps : Judgement → ℕ
standing_steps as_visible = 0
standing_steps (as_shadowed n) = n
standing_steps as_unreached = 0

unfoldable pub judged : Outcome Judgement → ℕ
judged o = told (λ s. case_number (standing_case s) (steps_number (standing_steps s))) o

-- What the number lent for the place of the name sought holds afterwards (document 01, "The gym
-- file", its end): the place of the name's first byte in the text; where there is no name, what it
-- held.
unfoldable pub place_left : List ℕ → ℕ → ℕ → ℕ
place_left text query lent = elim (eqb (length (name_sought text query)) 0) [ true ↦ lent | false ↦ (place_sought text query).from ]

-- What the number lent for the size of a renumbered file's list holds afterwards (02, K13; the file's
-- own size is told as any output's is): after a refusal, what it held.
unfoldable pub listed_left : Outcome Sizes → ℕ → ℕ
listed_left (refused n) lent = lent
listed_left (done s) lent = s.list

-- the number of what was written has 64 bits
unfoldable pub Sized : Outcome ℕ → Type 0
Sized (refused n) = Unit {0}
Sized (done n) = amount_number n < 18446744073709551616
