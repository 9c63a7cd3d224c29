-- What is proved of a row's first step, of the value that holds its steps, of labels' numbers and of
-- turns (document 01, "Paths"; 02, K12). These are the statements; their proofs are in proofs/Promises. Assumes
-- nothing: these are definitions.
use Rattle.std.specs.Prelude.{ℕ, ◌+◌, ◌≤◌, ◌<◌, ◌≡◌, false, ◌↔◌, List, length, get_or, drop}
use Rattle.std.proofs.Math.Option.{some, none}
use Rattle.text_field.specs.Number.{number_text}
use Rattle.text_field.specs.Outcome.{refused, done}
use Rattle.graph_file.specs.File.{read_cells}
use Rattle.graph_rows.specs.Decode.{letters_of, rules_of, graph_of}
use Rattle.scope_graph.specs.Language.{◌∈◌, End, by}
use Rattle.scope_graph.specs.Turns.{Turned}
use Rattle.scope_graph.specs.Rows.{language}
use Rattle.path_row.specs.Form.{PathRow, Front, most_steps, steps_of, head_here, first_step, steps_in, letters_in, scopes_in, steps_taken, steps_at_hand, steps_held}
use Rattle.path_row.specs.Numbering.{label_number, hop_in, path_in}
use Rattle.path_row.specs.declared.form.Step.{Step}

-- The place of the first step: behind the bytes of the mark, a space and the bytes of the start; at
-- the end of a text that does not begin so.
pub record FirstStepIs (s : List ℕ) : Type 0 where
  pub behind : (h : Front) → head_here s ≡ done h → first_step s ≡ length (number_text h.mark) + 1 + length (number_text h.start)
  pub at_end : head_here s ≡ refused 8 → first_step s ≡ length s
  -- from there on the steps are read that the text shows
  pub steps : steps_of most_steps (drop (first_step s) s) ≡ steps_in s

abbrev pub FirstSteps : Type 0
FirstSteps = (s : List ℕ) → FirstStepIs s

-- the numbers of letters in a file
pub record Numbers (cells : List ℕ) : Type 0 where
  -- a listed letter has the number of a label, and it is that label's letter
  pub listed : (x : ℕ) → x ∈ letters_of cells → (label_number (letters_of cells) x < (rules_of cells).labels) × (get_or (letters_of cells) (label_number (letters_of cells) x) 0 ≡ x)
  -- no other letter has the number of a label
  pub past : (x : ℕ) → ¬ (x ∈ letters_of cells) → (rules_of cells).labels ≤ label_number (letters_of cells) x
  -- no edge row goes by it, so a step by it has no turn
  pub unturned : (t : Step) → ¬ (t.label ∈ letters_of cells) → (s : ℕ) → (hop_in cells s t).step.turn ≡ none
  -- so it is preferred to no end, and no end to it
  pub never_less : (t : Step) → ¬ (t.label ∈ letters_of cells) → (s : ℕ) (e : End Turned) → (language (rules_of cells)).prefers (by (hop_in cells s t).step) e ≡ false
  pub never_more : (t : Step) → ¬ (t.label ∈ letters_of cells) → (s : ℕ) (e : End Turned) → (language (rules_of cells)).prefers e (by (hop_in cells s t).step) ≡ false
  -- two letters, listed or not, have two numbers
  pub apart : (x y : ℕ) → ¬ (x ≡ y) → ¬ (label_number (letters_of cells) x ≡ label_number (letters_of cells) y)

abbrev pub LettersNumbered : Type 0
LettersNumbered = (text cells : List ℕ) → read_cells text ≡ done cells → Numbers cells

-- A step's turn comes from where it leaves, its letter and its scope alone (02, K12): two rows with
-- one start, the same letters and the same scopes have one path, with the same turns.
abbrev pub TurnsLookedUp : Type 0
TurnsLookedUp = (cells : List ℕ) (p q : PathRow) → p.start ≡ q.start → letters_in p.steps ≡ letters_in q.steps
    → scopes_in p.steps ≡ scopes_in q.steps → path_in cells p ≡ path_in cells q

-- What the turn that is looked up is (02, K12): a step has turn n exactly if an edge row goes from
-- the scope that it leaves, by its label, to its scope, at turn n. So a step along no edge row has
-- none, and one along an edge row has that row's.
abbrev pub TurnOfRow : Type 0
TurnOfRow = (text cells : List ℕ) → read_cells text ≡ done cells → (s : ℕ) (t : Step) (n : ℕ)
    → ((hop_in cells s t).step.turn ≡ some n)
    ↔ (record { from = s; step = record { label = label_number (letters_of cells) t.label; turn = some n }; to = t.scope } ∈ (graph_of cells).edges)

-- what is held of steps is those steps again
abbrev pub HeldAreTaken : Type 0
HeldAreTaken = (steps : List Step) → steps_taken (steps_held steps) ≡ steps

-- and all of them are at hand: those that a row is judged and compared by
abbrev pub HeldAreAtHand : Type 0
HeldAreAtHand = (steps : List Step) → steps_at_hand (steps_held steps) ≡ steps
