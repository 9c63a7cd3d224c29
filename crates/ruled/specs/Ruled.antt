-- The text of a gym file whose path rules are those of an expression (02, K6). Assumes nothing:
-- these are definitions.
use Rattle.std.specs.Prelude.{ℕ, zero, suc, ◌/◌, ◌%◌, Bool, false, ◌&&◌, List, [], ◌∷◌, ◌++◌, ltb, length, get_or}
use Rattle.std.specs.declared.result.Result.{Result}
use Rattle.text_field.specs.Outcome.{Outcome, and_then}
use Rattle.text_field.specs.Answer.{answer_of}
use Rattle.text_field.specs.declared.refusal.Refusal.{Refusal}
use Rattle.graph_rows.specs.Format.{label_section, transition_section, accept_section, state_count}
use Rattle.graph_rows.specs.Admission.{Row}
use Rattle.graph_file.specs.File.{read_cells, write_text}
use Rattle.graph_rows.specs.Tested.{form_in}
use Rattle.graph_rows.specs.Decode.{kept_if, rows_in, letters_of}
use Rattle.graph_rows.specs.Formed.{table_of, replaced}
use Rattle.path_rules.specs.Rules.{rules_of}
use Rattle.path_rules.specs.declared.Rules.{Rules}

-- the rows f 0, f 1, .. up to n, without f n
unfoldable pub rows_to : (ℕ → List Row) → ℕ → List Row
rows_to f zero = []
rows_to f (suc n) = rows_to f n ++ f n

-- The row of cell k of the table, state k / 8 and label k % 8, which leads to a state: `state label
-- next`. None where it leads nowhere, or where there is no such state or label.
unfoldable pub is_transition : ℕ → ℕ → ℕ → ℕ → Bool
is_transition states labels k to = ltb (k / 8) states && (ltb (k % 8) labels && ltb to state_count)

unfoldable pub transition_at : ℕ → ℕ → ℕ → ℕ → List Row
transition_at states labels k to = kept_if (is_transition states labels k to) (k / 8 ∷ k % 8 ∷ to ∷ 0 ∷ 0 ∷ []) []

-- the row of state q, if it accepts: `accept`
unfoldable pub is_accepting : ℕ → ℕ → Bool → Bool
is_accepting states q accepts = ltb q states && accepts

unfoldable pub accept_at : ℕ → ℕ → Bool → List Row
accept_at states q accepts = kept_if (is_accepting states q accepts) (q ∷ 0 ∷ 0 ∷ 0 ∷ 0 ∷ []) []

-- the rows of the first n cells, which have their own sequence: by state, then by label
unfoldable pub transitions_to : List ℕ → ℕ → ℕ → ℕ → List Row
transitions_to next states labels n = rows_to (λ k. transition_at states labels k (get_or next k 0)) n

unfoldable pub accepts_to : List Bool → ℕ → ℕ → List Row
accepts_to accepts states n = rows_to (λ q. accept_at states q (get_or accepts q false)) n

-- the rows that an expression becomes
unfoldable pub transition_rows : Rules → ℕ → List Row
transition_rows r labels = transitions_to r.next r.states labels 128

unfoldable pub accept_rows : Rules → List Row
accept_rows r = accepts_to r.accepts r.states 16

-- the rows of all sections, those two replaced
unfoldable pub ruled_rows : Rules → (ℕ → List Row) → ℕ → List Row
ruled_rows r rows =
    replaced accept_section (accept_rows r) (replaced transition_section (transition_rows r (length (rows label_section))) rows)

-- the graph table, of the same form
unfoldable pub ruled_cells : Rules → List ℕ → List ℕ
ruled_cells r cells = table_of (form_in cells) (ruled_rows r (λ k. rows_in k cells))

-- its text, unless the expression was refused: 12 or 13
unfoldable pub ruled_text : Result Rules Refusal → List ℕ → Outcome (List ℕ)
ruled_text r cells = and_then (answer_of r) (λ rules. write_text (ruled_cells rules cells))

-- the expression is over the letters of the file
unfoldable pub text_by : List ℕ → List ℕ → Outcome (List ℕ)
text_by expression cells = ruled_text (rules_of (letters_of cells) expression) cells

-- for a text: its refusals 1 to 6 first
unfoldable pub ruled_of : List ℕ → List ℕ → Outcome (List ℕ)
ruled_of expression text = and_then (read_cells text) (text_by expression)
