-- What is promised of K13's list and of its text. These are the statements; their values are in
-- proofs/Promises.antt. Assumes nothing: these are definitions.
use Rattle.std.specs.Prelude.{ℕ, ◌≤◌, ◌<◌, ◌≡◌, ◌↔◌, List, [], ◌∷◌, ◌++◌, length, get_or}
use Rattle.scope_graph.specs.Language.{◌∈◌}
use Rattle.scope_graph.specs.Path.{Distinct}
use Rattle.scope_graph.specs.Rows.{language}
use Rattle.scope_graph.specs.Listing.{Pairwise}
use Rattle.text_field.specs.Outcome.{refused, done}
use Rattle.graph_rows.specs.Format.{most_scopes}
use Rattle.graph_rows.specs.Decode.{rules_of, scopes_of, graph_of, queries_of}
use Rattle.graph_file.specs.File.{read_cells, WasRead}
use Rattle.board.specs.Example.{example_text}
use Rattle.was.specs.Order.{scopes_after, met_from, gathered, start_in, was_list}
use Rattle.was.specs.WasText.{was_text, read_was}

-- the list has every number below n and no other, and none twice
pub record HoldsEach (n : ℕ) (list : List ℕ) : Type 0 where
  pub are : (x : ℕ) → (x ∈ list) ↔ (x < n)
  pub once : Distinct list

-- Which list it is. First come the scopes that are met. They are what they themselves meet: the
-- start, then all scopes that their edges lead to, from the first of them on and at each in row
-- sequence, every one at its first meeting. None of them is met by itself alone or by later ones:
-- each after the start is met from those before it. The scopes that are not met stand last,
-- ascending.
pub record ByMeetings (after : ℕ → List ℕ) (start : ℕ) (list : List ℕ) : Type 0 where
  pub reached : List ℕ
  pub others : List ℕ
  pub parts : list ≡ reached ++ others
  pub at_first_meeting : reached ≡ gathered (start ∷ []) (met_from after reached)
  pub from_before : (before rest : List ℕ) (t : ℕ) → reached ≡ (start ∷ before) ++ (t ∷ rest) → t ∈ met_from after (start ∷ before)
  pub ascend : Pairwise ◌<◌ others

-- of the lists that have each number below n there is only one such list
abbrev pub OnlyOne : Type 0
OnlyOne = (after : ℕ → List ℕ) (start n : ℕ) (list other : List ℕ) → HoldsEach n list → HoldsEach n other
    → ByMeetings after start list → ByMeetings after start other → list ≡ other

-- of every table that was read: each scope once, the start first, breadth-first
pub record ListRight (cells : List ℕ) : Type 0 where
  pub each : HoldsEach (scopes_of cells) (was_list cells)
  pub size : length (was_list cells) ≡ scopes_of cells
  pub first : get_or (was_list cells) 0 0 ≡ start_in (queries_of cells)
  pub by_meetings : ByMeetings (scopes_after (language (rules_of cells)) (graph_of cells).edges) (start_in (queries_of cells)) (was_list cells)
  pub text_short : length (was_text (was_list cells)) ≤ 196

abbrev pub ListsRight : Type 0
ListsRight = (cells : List ℕ) → WasRead cells → ListRight cells

-- a text is read as a list exactly if it is the list's text and the list has each number once, and
-- nothing but 17 refuses it; no file has more than 64 scopes
pub record ReadRight (n : ℕ) (text : List ℕ) : Type 0 where
  pub exactly : (list : List ℕ) → (read_was n text ≡ done list) ↔ ((text ≡ was_text list) × HoldsEach n list)
  pub refusal : (k : ℕ) → read_was n text ≡ refused k → k ≡ 17

abbrev pub ReadsRight : Type 0
ReadsRight = (n : ℕ) (text : List ℕ) → n ≤ most_scopes → ReadRight n text

-- Document 01's example. Its first query starts at lane 2, whose edges lead to the profile 4 and
-- the wall 1; the wall leads to the site 0; lane 3 is not met.
abbrev pub ExampleListed : Type 0
ExampleListed = (cells : List ℕ) → read_cells example_text ≡ done cells → was_list cells ≡ 2 ∷ 4 ∷ 1 ∷ 0 ∷ 3 ∷ []

pub record Promises : Type 0 where
  pub lists : ListsRight
  pub only_one : OnlyOne
  pub reads : ReadsRight
  pub example : ExampleListed
