-- A query's listing and the summary, for a graph table and for a text (01, "The listing" and "Who
-- can cause a refusal"; by the file's form, 02, K8). Assumes nothing: these are definitions.
use Rattle.std.specs.Prelude.{ℕ, true, false, leb, length}
use Rattle.std.proofs.Math.Option.{Option, some, none}
use mathlib.Core.List.{List, [], ◌∷◌, ◌++◌, map, flat_map}
use Rattle.scope_graph.specs.Graph.{Query, OpenPair}
use Rattle.scope_graph.specs.Path.{PathRow}
use Rattle.scope_graph.specs.Rows.{PackedName, language}
use Rattle.scope_graph.specs.Computed.{Found, found_none, entries, found, awaits}
use Rattle.text_field.specs.Number.{number_text}
use Rattle.text_field.specs.Outcome.{Outcome, done, and_then, refuse_if}
use Rattle.graph_file.specs.File.{read_cells}
use Rattle.graph_rows.specs.Decode.{rules_of, graph_of, opens_of, queries_of, letters_of}
use Rattle.graph_table.specs.declared.sections.Form.{Form}
use Rattle.graph_table.specs.Sections.{table_form}
use Rattle.follow.specs.Text.{head_line, seek_columns, rows_line, found_text, row_text, end_text}
use Rattle.board.specs.Queries.{query_at}
use Rattle.resolution.specs.Summary.{summary_by}

-- A listing's text, by what it shows: two lines with the query and its `found` and `awaits`, the
-- line above the rows, and the rows. What this crate writes and what `told` takes apart (02, K3) is
-- this one form.
abbrev pub listing_by : Form → ℕ → PackedName → Found → List ℕ → List ℕ → List ℕ
listing_by form start name f awaited rows =
    head_line form
    ++ (number_text start
    ++ (32 ∷ (seek_columns form name
    ++ (32 ∷ (found_text f
    ++ (32 ∷ (awaited
    ++ (10 ∷ (rows_line ++ rows)))))))))

-- `-`, or the open pair's scope and end
unfoldable pub awaits_text : (cells : List ℕ) → Option (OpenPair (language (rules_of cells))) → List ℕ
awaits_text cells none = 45 ∷ []
awaits_text cells (some o) = number_text o.at ++ (end_text (letters_of cells) o.end ∷ [])

module _ (cells : List ℕ) where
  -- an entry's row
  abbrev pub entry_text : PathRow (language (rules_of cells)) → List ℕ
  entry_text r = row_text (letters_of cells) r.mark r.path.start r.path.hops

  -- A listing's text, by what it shows: two lines with the query and its `found` and `awaits`, the
  -- line above the entries, and the entries' rows.
  unfoldable pub shown_text : Query (language (rules_of cells)) → Found → Option (OpenPair (language (rules_of cells))) → List (PathRow (language (rules_of cells))) → List ℕ
  shown_text q f o rows =
      head_line (table_form cells)
      ++ (number_text q.start
      ++ (32 ∷ (seek_columns (table_form cells) q.name
      ++ (32 ∷ (found_text f
      ++ (32 ∷ (awaits_text cells o
      ++ (10 ∷ (rows_line ++ flat_map entry_text rows)))))))))

  -- what is shown of a query of the table: `found`, the rows of all entries, and the whole listing
  unfoldable pub found_for : Query (language (rules_of cells)) → Found
  found_for q = found (language (rules_of cells)) (graph_of cells) q

  unfoldable pub entries_text : Query (language (rules_of cells)) → List ℕ
  entries_text q = flat_map entry_text (entries (language (rules_of cells)) (graph_of cells) q)

  unfoldable pub listing_text : Query (language (rules_of cells)) → List ℕ
  listing_text q =
      shown_text q (found_for q) (awaits (language (rules_of cells)) (graph_of cells) q (opens_of cells))
      (entries (language (rules_of cells)) (graph_of cells) q)

  -- query i's listing; 7 if there is no such query
  unfoldable pub listing_of : ℕ → Outcome (List ℕ)
  listing_of i = refuse_if (leb (length (queries_of cells)) i) 7 (done (listing_text (query_at cells i)))

  -- query i's `found`; `none` if there is no such query
  unfoldable pub found_at : ℕ → Found
  found_at i = elim (leb (length (queries_of cells)) i) [ true ↦ found_none | false ↦ found_for (query_at cells i) ]

  -- the summary of all queries
  unfoldable pub summary_of : List ℕ
  summary_of = summary_by (map found_for (queries_of cells))

-- for a text: its refusals 1 to 6 first
unfoldable pub listing_for : List ℕ → ℕ → Outcome (List ℕ)
listing_for text i = and_then (read_cells text) (λ cells. listing_of cells i)

unfoldable pub summary_for : List ℕ → Outcome (List ℕ)
summary_for text = and_then (read_cells text) (λ cells. done (summary_of cells))
