-- What is promised of renumbering and of the way back (02, K13). These are the statements; their
-- values are in proofs/Promises.antt. Assumes nothing.
use Rattle.std.specs.Prelude.{ℕ, ◌<◌, ◌≡◌, ◌⊎◌, ◌↔◌, List, map, length}
use Rattle.std.proofs.Math.Option.{none}
use Rattle.scope_graph.specs.Language.{◌∈◌}
use Rattle.scope_graph.specs.Graph.{Query}
use Rattle.scope_graph.specs.Rows.{language}
use Rattle.scope_graph.specs.Computed.{awaits}
use Rattle.scope_graph.specs.Renamed.{new_number, old_number, query_under, RenamedPromises}
use Rattle.text_field.specs.Outcome.{refused, done}
use Rattle.text_field.specs.Answer.{answer}
use Rattle.graph_rows.specs.Format.{text_bytes}
use Rattle.graph_rows.specs.Decode.{rules_of, scopes_of, graph_in, opens_in, queries_in}
use Rattle.graph_file.specs.File.{read_cells}
use Rattle.renumbered.specs.Renumbered.{back_of}
use Rattle.renumbered.specs.Promises.{StillFormed}
use Rattle.was.specs.Order.{was_list}
use Rattle.was.specs.WasText.{was_text}
use Rattle.was.specs.Promises.{HoldsEach, ListRight}
use Rattle.renumbering.specs.Renumbering.{Renumbering, renumber_of, room_for, back_for}

-- of a text that is read there is always a renumbering; its list is the breadth-first one, with
-- each scope once
abbrev pub Renumbered : Type 0
Renumbered = (text cells : List ℕ) → read_cells text ≡ done cells
    → (r : Renumbering) × (renumber_of text ≡ done r) × (r.list ≡ was_text (was_list cells)) × ListRight cells

-- the way back from what is put out is the first file, byte for byte
abbrev pub ThereAndBack : Type 0
ThereAndBack = (text : List ℕ) (r : Renumbering) → renumber_of text ≡ done r → back_for r.file r.list ≡ done text

-- Two tables that see the same under a list. The second has the form of the first, and all its rows
-- that name no scope. Its queries are those of the first under the new numbers, in the same
-- sequence. Each sees the entries of its counterpart, renumbered; both have one `found`, and
-- neither is settled without the other (`RenamedPromises`), so `awaits` is `-` in both or in
-- neither.
pub record SameSeen (was cells after : List ℕ) : Type 0 where
  pub stays : StillFormed cells after
  pub queries : queries_in (rules_of cells) after ≡ map (query_under (language (rules_of cells)) (new_number was)) (queries_in (rules_of cells) cells)
  pub seen : (q : Query (language (rules_of cells))) → q ∈ queries_in (rules_of cells) cells
      → RenamedPromises (language (rules_of cells)) (new_number was) (old_number was) (graph_in (rules_of cells) cells) (graph_in (rules_of cells) after)
      (opens_in (rules_of cells) cells) (opens_in (rules_of cells) after) q
  pub awaits_none : (q : Query (language (rules_of cells))) → q ∈ queries_in (rules_of cells) cells
      → (awaits (language (rules_of cells)) (graph_in (rules_of cells) cells) q (opens_in (rules_of cells) cells) ≡ none)
      ↔ (awaits (language (rules_of cells)) (graph_in (rules_of cells) after) (query_under (language (rules_of cells)) (new_number was) q) (opens_in (rules_of cells) after) ≡ none)

-- so it is with a text and the file that it becomes
abbrev pub StillSeen : Type 0
StillSeen = (text cells : List ℕ) (r : Renumbering) → read_cells text ≡ done cells → renumber_of text ≡ done r
    → (after : List ℕ) × (read_cells r.file ≡ done after) × SameSeen (was_list cells) cells after

-- The way back takes any file and any list of its scopes, breadth-first or not, and what comes of
-- the file sees the same too, under the numbers that the list tells.
abbrev pub AnyList : Type 0
AnyList = (text cells list : List ℕ) → read_cells text ≡ done cells → HoldsEach (scopes_of cells) list
    → (file : List ℕ) × (after : List ℕ) × (back_for text (was_text list) ≡ done file) × (read_cells file ≡ done after)
    × SameSeen (back_of list) cells after

-- Which refusals there are. What is refused by 1 to 6 is refused by that number. Of a file that is
-- read nothing but 9 refuses the renumbering, exactly if either buffer is too short; a buffer of
-- the longest file's length and one of 196 bytes are not. On the way back 17 refuses exactly a text
-- that is no list of the file's scopes, and nothing but 9 comes beside it.
pub record Refusals : Type 0 where
  pub reading : (text : List ℕ) (n : ℕ) → read_cells text ≡ refused n → (renumber_of text ≡ refused n) × ((was : List ℕ) → back_for text was ≡ refused n)
  pub renumbering : (text cells : List ℕ) → read_cells text ≡ done cells → (out lines n : ℕ) → room_for out lines (renumber_of text) ≡ refused n
      → (n ≡ 9) × ((out < text_bytes) ⊎ (lines < 196))
  pub nine : (text : List ℕ) (r : Renumbering) → renumber_of text ≡ done r → (out lines : ℕ)
      → (room_for out lines (renumber_of text) ≡ refused 9) ↔ ((out < length r.file) ⊎ (lines < length r.list))
  pub seventeen : (text cells was : List ℕ) → read_cells text ≡ done cells
      → (back_for text was ≡ refused 17) ↔ ¬ ((list : List ℕ) × (was ≡ was_text list) × HoldsEach (scopes_of cells) list)
  pub back : (text cells was : List ℕ) → read_cells text ≡ done cells → (room n : ℕ) → answer (back_for text was) room ≡ refused n
      → (n ≡ 17) ⊎ ((n ≡ 9) × (room < text_bytes))

pub record Promises : Type 0 where
  pub renumbered : Renumbered
  pub there_and_back : ThereAndBack
  pub still_seen : StillSeen
  pub any_list : AnyList
  pub refusals : Refusals
