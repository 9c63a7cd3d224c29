-- What is promised of a file that a drawing was put into (02, K14). These are the statements; their
-- values are in proofs/Promises.antt. Assumes nothing: these are definitions.
use Rattle.std.specs.Prelude.{ℕ, ◌<◌, ◌≡◌, ◌↔◌, List, [], ◌∷◌, ◌++◌, map, length}
use Rattle.scope_graph.specs.Language.{◌∈◌}
use Rattle.scope_graph.specs.Path.{Distinct}
use Rattle.text_field.specs.Outcome.{refused, done}
use Rattle.text_field.specs.Answer.{answer}
use Rattle.graph_rows.specs.Format.{edge_section, section_at, text_bytes}
use Rattle.graph_rows.specs.Admission.{Row}
use Rattle.graph_rows.specs.Tested.{form_in}
use Rattle.graph_rows.specs.Decode.{rows_in, letters_of, scopes_of}
use Rattle.graph_file.specs.File.{read_cells}
use Rattle.graph_change.specs.Promises.{Ascending}
use Rattle.dot_text.specs.Grammar.{DrawnEdge, Drawing, Drawn}
use Rattle.undot.specs.Edges.{edge_row}
use Rattle.undot.specs.Undrawn.{undot_of}

-- the scopes drawn are those below the count, each once
pub record SameScopes (count : ℕ) (scopes : List ℕ) : Type 0 where
  pub once : Distinct scopes
  pub all : (s : ℕ) → (s ∈ scopes) ↔ (s < count)

-- the file lacks a scope or the letter of the edge
abbrev pub Unknown : List ℕ → DrawnEdge → Type 0
Unknown cells e = ¬ ((e.from < scopes_of cells) × ((e.letter ∈ letters_of cells) × (e.to < scopes_of cells)))

-- The edge's fault, among the edges above it: it comes after as many as a file may have; or it is
-- unknown to the file; or it was drawn before.
pub data Fault (cells : List ℕ) (above : List DrawnEdge) (e : DrawnEdge) : ℕ → Type 0 where
  past : ¬ (length above < (section_at edge_section).most) → Fault cells above e 5
  unknown : length above < (section_at edge_section).most → Unknown cells e → Fault cells above e 3
  again : length above < (section_at edge_section).most → ¬ Unknown cells e → e ∈ above → Fault cells above e 4

-- the edge has none
pub record Faultless (cells : List ℕ) (above : List DrawnEdge) (e : DrawnEdge) : Type 0 where
  pub few : length above < (section_at edge_section).most
  pub known : ¬ Unknown cells e
  pub new : ¬ (e ∈ above)

-- no edge has one: each is held against those above it
abbrev pub FaultlessAfter : List ℕ → List DrawnEdge → List DrawnEdge → Type 0
FaultlessAfter cells above [] = Unit {0}
FaultlessAfter cells above (e ∷ edges) = Faultless cells above e × FaultlessAfter cells (above ++ (e ∷ [])) edges

abbrev pub AllFaultless : List ℕ → List DrawnEdge → Type 0
AllFaultless cells edges = FaultlessAfter cells [] edges

-- the first edge with a fault, in the text's sequence
pub record FirstFault (cells : List ℕ) (edges : List DrawnEdge) (n : ℕ) : Type 0 where
  pub above : List DrawnEdge
  pub edge : DrawnEdge
  pub below : List DrawnEdge
  pub whole : edges ≡ above ++ (edge ∷ below)
  pub good : AllFaultless cells above
  pub fault : Fault cells above edge n

-- Which refusals there are, and in which sequence. What is refused by 1 to 6 is refused by that
-- number. Of a file that is read, 18 refuses exactly the texts that draw nothing; of a drawing, 19
-- refuses exactly one whose scopes are others than the file's; else the first edge with a fault
-- refuses, by 5, 3 or 4; and then nothing but 9, with less room than a file has bytes at most.
pub record Refusals : Type 0 where
  pub reading : (text dot : List ℕ) (n : ℕ) → read_cells text ≡ refused n → undot_of text dot ≡ refused n
  pub eighteen : (text dot cells : List ℕ) → read_cells text ≡ done cells
      → (undot_of text dot ≡ refused 18) ↔ ((d : Drawing) → ¬ Drawn dot d)
  pub nineteen : (text dot cells : List ℕ) (d : Drawing) → read_cells text ≡ done cells → Drawn dot d
      → (undot_of text dot ≡ refused 19) ↔ (¬ SameScopes (scopes_of cells) d.scopes)
  pub edges : (text dot cells : List ℕ) (d : Drawing) (n : ℕ) → read_cells text ≡ done cells → Drawn dot d
      → SameScopes (scopes_of cells) d.scopes
      → (undot_of text dot ≡ refused n) ↔ FirstFault cells d.edges n
  pub others : (text dot cells : List ℕ) (d : Drawing) → read_cells text ≡ done cells → Drawn dot d
      → SameScopes (scopes_of cells) d.scopes → AllFaultless cells d.edges → (room n : ℕ) → answer (undot_of text dot) room ≡ refused n
      → (n ≡ 9) × (room < text_bytes)

-- What is put out, for a file that is read as `cells` and a drawing of these edges: it is read as a
-- table whose edge rows are those of the edges drawn, ascending; its form and all other rows are
-- the file's.
pub record PutOut (cells : List ℕ) (edges : List DrawnEdge) (out : List ℕ) : Type 0 where
  pub after : List ℕ
  pub read : read_cells out ≡ done after
  pub form : form_in after ≡ form_in cells
  pub others : (k : ℕ) → k < 9 → ¬ (k ≡ edge_section) → rows_in k after ≡ rows_in k cells
  pub has : (row : Row) → (row ∈ rows_in edge_section after) ↔ (row ∈ map (edge_row (letters_of cells)) edges)
  pub count : length (rows_in edge_section after) ≡ length edges
  pub ascends : Ascending (section_at edge_section).key (rows_in edge_section after)

-- A drawing is put into a file exactly if its scopes are the file's and no edge has a fault, and
-- then this comes of it.
abbrev pub Taken : Type 0
Taken = (text dot cells : List ℕ) (d : Drawing) → read_cells text ≡ done cells → Drawn dot d
    → ((out : List ℕ) × (undot_of text dot ≡ done out)) ↔ (SameScopes (scopes_of cells) d.scopes × AllFaultless cells d.edges)

abbrev pub IsPutOut : Type 0
IsPutOut = (text dot cells out : List ℕ) (d : Drawing) → read_cells text ≡ done cells → Drawn dot d → undot_of text dot ≡ done out
    → PutOut cells d.edges out
