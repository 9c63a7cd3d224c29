-- What is promised of a file in the other form (02, K9 and K12). These are the statements; their
-- values are in proofs/Promises.antt. Assumes nothing.
use Rattle.std.specs.Prelude.{ℕ, ◌<◌, ◌≡◌, ◌⊎◌, ◌↔◌, true, List, length}
use Rattle.std.proofs.Math.Option.{some}
use Rattle.scope_graph.specs.Language.{◌∈◌}
use Rattle.scope_graph.specs.Graph.{Edge, Declaration, Query}
use Rattle.scope_graph.specs.Rows.{language}
use Rattle.scope_graph.specs.Computed.{awaits}
use Rattle.text_field.specs.Outcome.{refused, done}
use Rattle.text_field.specs.Answer.{answer}
use Rattle.graph_rows.specs.Format.{plain_kind, old_form, kind_form, turn_form, has_kinds, text_bytes}
use Rattle.graph_file.specs.File.{form_of, read_cells}
use Rattle.graph_rows.specs.Decode.{rows_in, rules_of, graph_of, opens_of, queries_of}
use Rattle.graph_rows.specs.Formed.{in_form}
use Rattle.graph_table.specs.Sections.{form_number}
use Rattle.graph_table.specs.declared.sections.Form.TheVariants.{Kinds}
use Rattle.board.specs.Queries.{query_at}
use Rattle.resolution.specs.Listing.{awaits_text, found_for, entries_text}
use Rattle.conversion.specs.Conversion.{old_of, new_of}

-- a text that is not refused by 1 to 6, in a form
pub record FileIn (form : ℕ) (text : List ℕ) : Type 0 where
  pub cells : List ℕ
  pub read : read_cells text ≡ done cells
  pub form_is : form_of text ≡ form

-- a file that has the wanted form is not changed; one with turns shows kinds, so it is as it should
-- be where kinds are wanted
pub record Already : Type 0 where
  pub old : (text : List ℕ) → FileIn old_form text → old_of text ≡ done text
  pub new : (text : List ℕ) → FileIn kind_form text → new_of text ≡ done text
  pub turned : (text : List ℕ) → FileIn turn_form text → new_of text ≡ done text

-- What comes of a file is one, in the wanted form: the old one, or one that shows kinds, which is
-- the file's own where that does and else the form with kinds alone.
pub record InForm : Type 0 where
  pub old : (text other : List ℕ) → old_of text ≡ done other → FileIn old_form other
  pub new : (text other : List ℕ) → new_of text ≡ done other → FileIn (form_number Kinds (form_of text)) other
  pub shown : (text other : List ℕ) → new_of text ≡ done other → has_kinds (form_of other) ≡ true

-- Who goes to the other form and back has the bytes that were there before, where the edge line is
-- the old one. From the old form the way is always open; `Refusals` tells when it is from the
-- other.
abbrev pub OldNewOld : Type 0
OldNewOld = (text : List ℕ) → FileIn old_form text → (other : List ℕ) × (new_of text ≡ done other) × (old_of other ≡ done text)

abbrev pub NewOldNew : Type 0
NewOldNew = (text other : List ℕ) → FileIn kind_form text → old_of text ≡ done other → new_of other ≡ done text

-- A column of zero turns is dropped, and the way back does not restore it (02, K12): what comes of
-- going there and back is the file without that column, the same table in the form with kinds
-- alone.
abbrev pub TurnsDropped : Type 0
TurnsDropped = (text other : List ℕ) (f : FileIn turn_form text) → old_of text ≡ done other
    → (third : List ℕ) × (new_of other ≡ done third) × (read_cells third ≡ done (in_form kind_form f.cells))

-- Two tables that mean the same and whose queries are answered alike: every section has the same
-- rows, so rules, graph, open pairs and queries are the same; there are as many queries, each with
-- its start and its name, kind included, and of each the rows of its entries, `found` and `awaits`
-- are the same.
pub record SameListings (cells after : List ℕ) : Type 0 where
  pub rows : (k : ℕ) → rows_in k after ≡ rows_in k cells
  pub count : length (queries_of after) ≡ length (queries_of cells)
  pub start : (i : ℕ) → (query_at after i).start ≡ (query_at cells i).start
  pub name : (i : ℕ) → (query_at after i).name ≡ (query_at cells i).name
  pub entries : (i : ℕ) → entries_text after (query_at after i) ≡ entries_text cells (query_at cells i)
  pub found : (i : ℕ) → found_for after (query_at after i) ≡ found_for cells (query_at cells i)
  pub awaits : (i : ℕ)
      → awaits_text after (awaits (language (rules_of after)) (graph_of after) (query_at after i) (opens_of after))
      ≡ awaits_text cells (awaits (language (rules_of cells)) (graph_of cells) (query_at cells i) (opens_of cells))

-- what comes of a file has the same listings, but for the columns that its form has
abbrev pub SameSeen : Type 0
SameSeen = (text other cells : List ℕ) → read_cells text ≡ done cells → (old_of text ≡ done other) ⊎ (new_of text ≡ done other)
    → (after : List ℕ) × (read_cells other ≡ done after) × SameListings cells after

-- The graph has something that the old form cannot show: a declaration or a query of another kind
-- than `v`, or an edge of another turn than 0.
pub data Unshown (cells : List ℕ) : Type 0 where
  declared : (d : Declaration (language (rules_of cells))) → d ∈ (graph_of cells).declarations → ¬ (d.name.kind ≡ plain_kind) → Unshown cells
  sought : (q : Query (language (rules_of cells))) → q ∈ queries_of cells → ¬ (q.name.kind ≡ plain_kind) → Unshown cells
  turned : (e : Edge (language (rules_of cells))) → e ∈ (graph_of cells).edges → ¬ (e.step.turn ≡ some 0) → Unshown cells

-- Which refusals there are. What is refused by 1 to 6 is refused by that number; of a file that is
-- read nothing but 9 refuses the new form, with less room than a file has bytes at most; the old
-- form is refused by 14 exactly if it cannot show what the graph has, else by nothing but 9.
pub record Refusals : Type 0 where
  pub reading : (text : List ℕ) (n : ℕ) → read_cells text ≡ refused n → (old_of text ≡ refused n) × (new_of text ≡ refused n)
  pub new : (text cells : List ℕ) → read_cells text ≡ done cells → (room n : ℕ) → answer (new_of text) room ≡ refused n
      → (n ≡ 9) × (room < text_bytes)
  pub old : (text cells : List ℕ) → read_cells text ≡ done cells → (room n : ℕ) → answer (old_of text) room ≡ refused n
      → ((n ≡ 14) × Unshown cells) ⊎ ((n ≡ 9) × (room < text_bytes) × ¬ Unshown cells)
  pub fourteen : (text cells : List ℕ) → read_cells text ≡ done cells → (old_of text ≡ refused 14) ↔ Unshown cells
