-- What is proved of comparing two rows (document 01, "Paths"). This is the statement; its proof is
-- in proofs/Promises. Assumes nothing: these are definitions.
use Rattle.std.specs.Prelude.{ℕ, suc, ◌≤◌, ◌≡◌, ◌↔◌, List, [], ◌∷◌, Bool, true, false, ◌&&◌, eqb, length, take}
use Rattle.text_field.specs.Outcome.{Outcome, refused, done}
use Rattle.graph_file.specs.File.{read_cells}
use Rattle.graph_rows.specs.Decode.{rules_of}
use Rattle.scope_graph.specs.Rows.{language}
use Rattle.scope_graph.specs.Path.{MoreSpecific}
use Rattle.path_row.specs.declared.form.Step.{Step}
use Rattle.path_row.specs.Form.{PathRow, row_here}
use Rattle.path_row.specs.Numbering.{path_in}
use Rattle.scope_graph.specs.Agree.{agree}
use Rattle.comparison.specs.Compare.{Comparison, first, second, neither, Told, compare_answer}

-- the answer says which row is more specific, as the rules have the term: each answer is given
-- exactly where it holds
pub record SaysWhich (cells : List ℕ) (p q : PathRow) (answer : Outcome Comparison) : Type 0 where
  pub first_is : (answer ≡ done first) ↔ MoreSpecific (language (rules_of cells)) (path_in cells p) (path_in cells q)
  pub second_is : (answer ≡ done second) ↔ MoreSpecific (language (rules_of cells)) (path_in cells q) (path_in cells p)
  pub neither_is : (answer ≡ done neither)
      ↔ ((¬ MoreSpecific (language (rules_of cells)) (path_in cells p) (path_in cells q)) × (¬ MoreSpecific (language (rules_of cells)) (path_in cells q) (path_in cells p)))

-- the answer without its number
unfoldable pub which_in : Outcome Told → Outcome Comparison
which_in (refused n) = refused n
which_in (done t) = done t.which

-- for a text that is read, and two texts that are path rows whose steps fit into the records lent
-- for them
abbrev pub CompareIs : Type 0
CompareIs = (text cells a b : List ℕ) (room_a room_b : ℕ) (p q : PathRow) → read_cells text ≡ done cells → row_here a ≡ done p → row_here b ≡ done q
    → length p.steps ≤ room_a → length q.steps ≤ room_b → SaysWhich cells p q (which_in (compare_answer text a b room_a room_b))

-- is it the same step, by the letter and the scope that the row shows?
abbrev pub same_shown : Step → Step → Bool
same_shown t u = eqb t.label u.label && eqb t.scope u.scope

-- how many steps the rows share from the front on, as they show them (02, K7)
unfoldable pub agree_steps : List Step → List Step → ℕ
agree_steps [] us = 0
agree_steps (t ∷ ts) [] = 0
agree_steps (t ∷ ts) (u ∷ us) = elim (same_shown t u) [ true ↦ suc (agree_steps ts us) | false ↦ 0 ]

-- The answer's number is how far the rows' paths agree by the rules. From one start it is told by
-- letters and scopes alone, and so many first steps of the paths are the same, looked-up turns
-- included; from different starts it is 0.
pub record SaysHowFar (cells : List ℕ) (p q : PathRow) (n : ℕ) : Type 0 where
  pub by_rules : n ≡ agree (language (rules_of cells)) (path_in cells p) (path_in cells q)
  pub by_letters : p.start ≡ q.start → n ≡ agree_steps p.steps q.steps
  pub turns_same : p.start ≡ q.start → take n (path_in cells p).hops ≡ take n (path_in cells q).hops
  pub apart : ¬ (p.start ≡ q.start) → n ≡ 0

abbrev pub AgreeIs : Type 0
AgreeIs = (text cells a b : List ℕ) (room_a room_b : ℕ) (p q : PathRow) → read_cells text ≡ done cells → row_here a ≡ done p → row_here b ≡ done q
    → length p.steps ≤ room_a → length q.steps ≤ room_b → (t : Told) → compare_answer text a b room_a room_b ≡ done t → SaysHowFar cells p q t.steps
