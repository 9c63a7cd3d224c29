-- What the steps of the code answer: a row judged, rows counted, a pair looked for. Assumes nothing:
-- these are definitions.
use Rattle.std.specs.Prelude.{ℕ, ◌<◌, ◌≡◌, Bool, true, false, ◌&&◌, List, eqb, length}
use Rattle.scope_graph.specs.Graph.{Query}
use Rattle.scope_graph.specs.Rows.{language, any_of}
use Rattle.scope_graph.specs.Computed.{Found, entries}
use Rattle.text_field.specs.Outcome.{Outcome, refused, done}
use Rattle.graph_rows.specs.Admission.{Row, value}
use Rattle.graph_rows.specs.Decode.{rules_of, graph_of}
use Rattle.path_row.specs.Form.{PathRow, row_here, row_text}
use Rattle.resolution.specs.Listing.{found_for, entries_text}
use Rattle.accepting.specs.Tests.{same_bytes, row_visible}

-- a row's text is a path row and the judge calls it visible
unfoldable pub visible_by : (cells : List ℕ) → Query (language (rules_of cells)) → Outcome PathRow → Bool
visible_by cells q (refused n) = false
visible_by cells q (done r) = row_visible cells q r

abbrev pub text_visible : (cells : List ℕ) → Query (language (rules_of cells)) → List ℕ → Bool
text_visible cells q row = visible_by cells q (row_here row)

-- the text is that of one of the rows
unfoldable pub text_among : List ℕ → List PathRow → Bool
text_among text rows = any_of (λ p. same_bytes text (row_text p)) rows

-- The count of rows that take so many bytes, and the word, held against the query's own: what a
-- yes and a no tell. Past as many bytes our own rows are not counted to the end.
pub record CountTold (cells : List ℕ) (q : Query (language (rules_of cells))) (f : Found) (count bytes : ℕ) (r : Bool) : Type 0 where
  pub yes : r ≡ true → (count ≡ length (entries (language (rules_of cells)) (graph_of cells) q)) × (found_for cells q ≡ f)
  pub no : r ≡ false → count ≡ length (entries (language (rules_of cells)) (graph_of cells) q) → found_for cells q ≡ f → bytes < length (entries_text cells q)

-- an open row has this scope and this end's number
unfoldable pub has_open : ℕ → ℕ → List Row → Bool
has_open at end rows = any_of (λ (row : Row). eqb (value row 0) at && eqb (value row 1) end) rows
