-- What is promised of a file with the path rules of an expression (02, K6). These are the
-- statements; their values are in proofs/Promises.antt. Assumes nothing.
use Rattle.std.specs.Prelude.{ℕ, ◌*◌, ◌/◌, ◌%◌, ◌≤◌, ◌<◌, ◌≡◌, true, ◌⊎◌, ◌↔◌, List, length}
use Rattle.std.proofs.Math.Option.{Option, some, none}
use Rattle.scope_graph.specs.Rows.{language}
use Rattle.text_field.specs.Outcome.{refused, done}
use Rattle.text_field.specs.Answer.{answer}
use Rattle.graph_rows.specs.Format.{transition_section, accept_section, text_bytes}
use Rattle.graph_file.specs.File.{read_cells}
use Rattle.graph_rows.specs.Tested.{form_in}
use Rattle.graph_rows.specs.Decode.{rows_in, letters_of, rules_of}
use Rattle.path_rules.specs.Expression.{Expr, In}
use Rattle.path_rules.specs.Grammar.{Expression}
use Rattle.path_rules.specs.Parts.{tabulate}
use Rattle.path_rules.specs.Table.{Decides, Met}
use Rattle.path_rules.specs.Promises.{AtLeast}
use Rattle.ruled.specs.Ruled.{ruled_of}

-- some expression over the file's letters has this text
abbrev pub IsExpression : List ℕ → List ℕ → Type 0
IsExpression cells expression = (e : Expr) × Expression (letters_of cells) e expression

-- The refusals. What is refused by 1 to 6 is refused by that number. Of a file that is read, 12
-- refuses exactly what is no expression over its labels, 13 an expression exactly if every table of
-- its language needs more than 16 states, and then nothing but 9 refuses, with less room than a
-- file has bytes at most.
pub record Refusals : Type 0 where
  pub reading : (expression text : List ℕ) (n : ℕ) → read_cells text ≡ refused n → ruled_of expression text ≡ refused n
  pub twelve : (expression text cells : List ℕ) → read_cells text ≡ done cells
      → (ruled_of expression text ≡ refused 12) ↔ (¬ IsExpression cells expression)
  pub thirteen : (expression text cells : List ℕ) (e : Expr) → read_cells text ≡ done cells → Expression (letters_of cells) e expression
      → (ruled_of expression text ≡ refused 13) ↔ AtLeast (length (letters_of cells)) (In e) 17
  pub others : (expression text cells : List ℕ) → read_cells text ≡ done cells → (room n : ℕ) → answer (ruled_of expression text) room ≡ refused n
      → (n ≡ 12) ⊎ ((n ≡ 13) ⊎ ((n ≡ 9) × (room < text_bytes)))

-- where an automaton leads, by the cells state * 8 + label, 16 for nowhere
unfoldable pub cell_of : Option ℕ → ℕ
cell_of none = 16
cell_of (some r) = r

unfoldable pub cells_in : (ℕ → ℕ → Option ℕ) → ℕ → List ℕ
cells_in next states = tabulate (λ k. cell_of (next (k / 8) (k % 8))) (states * 8)

-- A table that has the rules of an expression: of the words over the labels its automaton leads to
-- an accepting state on those of the expression's language and on no other, by states below
-- `states`; no table that does has fewer, and a breadth-first walk by label number over this
-- automaton meets them in the sequence of their numbers, 0 first. It has no row of another state:
-- none goes on from one, and none accepts.
pub record HasRules (cells : List ℕ) (e : Expr) (states : ℕ) : Type 0 where
  pub decides : Decides (length (letters_of cells)) (In e) states (language (rules_of cells)).next (language (rules_of cells)).accepts
  pub fewest : AtLeast (length (letters_of cells)) (In e) states
  pub few : states ≤ 16
  pub numbered : Met (cells_in (language (rules_of cells)).next states) states
  pub met_goes_on : (q l r : ℕ) → (language (rules_of cells)).next q l ≡ some r → q < states
  pub met_accepts : (q : ℕ) → (language (rules_of cells)).accepts q ≡ true → q < states

-- what is put out is read as a table of the same form, with the same rows in all other sections,
-- that has the rules of the expression
abbrev pub PutOut : Type 0
PutOut = (expression text cells other : List ℕ) → read_cells text ≡ done cells → ruled_of expression text ≡ done other
    → (after : List ℕ) × (read_cells other ≡ done after) × (form_in after ≡ form_in cells)
    × ((k : ℕ) → k < 9 → ¬ (k ≡ transition_section) → ¬ (k ≡ accept_section) → rows_in k after ≡ rows_in k cells)
    × ((e : Expr) × Expression (letters_of cells) e expression × ((states : ℕ) × HasRules after e states))
