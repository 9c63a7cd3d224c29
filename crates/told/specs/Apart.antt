-- The text of listings taken apart (02, K3): for each query in its turn the lines above the rows, and
-- then the rows as far as they go. What is not of the printed form is refused by 10. That this is
-- the printed form and no other says Promises. Assumes nothing: these are definitions.
use Rattle.std.specs.Prelude.{ℕ, zero, suc, true, false, not, List, [], ◌∷◌, ◌++◌, eqb, length, take, drop}
use Rattle.std.proofs.Math.Option.{Option, some, none}
use Rattle.scope_graph.specs.Graph.{Query}
use Rattle.scope_graph.specs.Rows.{PackedName, language}
use Rattle.scope_graph.specs.Computed.{Found, found_none, found_one, found_several}
use Rattle.std.specs.declared.option.Option.{Option as Maybe}
use Rattle.std.specs.declared.option.Option.TheVariants.{Some, None as Nothing}
use Rattle.text_field.specs.Lines.{line_here}
use Rattle.text_field.specs.Number.{number_text}
use Rattle.text_field.specs.Outcome.{Outcome, refused, done, and_then, refuse_if}
use Rattle.graph_rows.specs.Way.{is_empty}
use Rattle.graph_rows.specs.Decode.{rules_of, queries_of}
use Rattle.graph_table.specs.declared.sections.Form.{Form}
use Rattle.graph_table.specs.Sections.{table_form}
use Rattle.path_row.specs.Form.{PathRow, most_scope, number_up_to, row_here}
use Rattle.follow.specs.Text.{head_line, seek_columns, rows_line, found_text}
use Rattle.told.specs.Delivered.{NamedPair, Delivered, is_end}

-- a part of the text that was read, and what stands after it
abbrev pub Read : Type 0 → Type 0
Read A = Outcome (A × List ℕ)

-- what stands after a beginning that the text must have, or 10
unfoldable pub after : List ℕ → List ℕ → Outcome (List ℕ)
after [] s = done s
after (x ∷ p) [] = refused 10
after (x ∷ p) (y ∷ s) = elim (eqb x y) [ true ↦ after p s | false ↦ refused 10 ]

-- the first of two readings that is not refused
unfoldable pub or_else : {A : Type 0} → Outcome A → Outcome A → Outcome A
or_else (refused n) o = o
or_else (done a) o = done a

-- `found`: one of the three words
unfoldable pub word_here : Found → List ℕ → Read Found
word_here f s = and_then (after (found_text f) s) (λ rest. done (f, rest))

unfoldable pub found_here : List ℕ → Read Found
found_here s = or_else (word_here found_none s) (or_else (word_here found_one s) (word_here found_several s))

-- an open pair: its scope, then its end
unfoldable pub end_by : ℕ → List ℕ → Read (Option NamedPair)
end_by at [] = refused 10
end_by at (x ∷ rest) = elim (is_end x) [ true ↦ done (some (record { at = at; end = x }), rest) | false ↦ refused 10 ]

unfoldable pub pair_by : Maybe (ℕ × ℕ) → List ℕ → Read (Option NamedPair)
pair_by (Some (v, width)) s = end_by v (drop width s)
pair_by Nothing s = refused 10

-- `awaits`: `-` or an open pair
unfoldable pub dash_here : List ℕ → Read (Option NamedPair)
dash_here s = and_then (after (45 ∷ []) s) (λ rest. done (none, rest))

unfoldable pub awaits_here : List ℕ → Read (Option NamedPair)
awaits_here s = or_else (dash_here s) (pair_by (number_up_to most_scope s) s)

-- the line at the start of the text as a path row, and what stands after it; none if it is none
unfoldable pub row_by : Outcome PathRow → List ℕ → Option (PathRow × List ℕ)
row_by (refused n) rest = none
row_by (done r) rest = some (r, rest)

unfoldable pub row_of_line : Maybe (ℕ × ℕ) → List ℕ → Option (PathRow × List ℕ)
row_of_line (Some (end, next)) s = row_by (row_here (take end s)) (drop next s)
row_of_line Nothing s = none

unfoldable pub first_row : List ℕ → Option (PathRow × List ℕ)
first_row s = row_of_line (line_here s) s

-- the rows at the start of the text, at most n of them, and what stands after them
unfoldable pub rows_from : ℕ → List ℕ → List PathRow × List ℕ
rows_from zero s = ([], s)
rows_from (suc n) s = elim (first_row s) [ none ↦ ([], s) | some r ↦ (r.0 ∷ (rows_from n r.1).0, (rows_from n r.1).1) ]

-- all of them: a text has no more rows than bytes
unfoldable pub rows_in : List ℕ → List PathRow × List ℕ
rows_in s = rows_from (length s) s

-- what stands before `found` in the query's line: its start and what it seeks
unfoldable pub query_columns : Form → ℕ → PackedName → List ℕ
query_columns form start name = number_text start ++ (32 ∷ (seek_columns form name ++ (32 ∷ [])))

-- the listing at the start of the text, for a query by its start and its name
unfoldable pub listing_here : Form → ℕ → PackedName → List ℕ → Read Delivered
listing_here form start name s =
    and_then (after (head_line form) s) (λ columns.
    and_then (after (query_columns form start name) columns) (λ word.
    and_then (found_here word) (λ f.
    and_then (after (32 ∷ []) f.1) (λ awaited.
    and_then (awaits_here awaited) (λ a.
    and_then (after (10 ∷ rows_line) a.1) (λ rows.
    done (record { found = f.0; awaits = a.0; rows = (rows_in rows).0 }, (rows_in rows).1)))))))

module _ (cells : List ℕ) where
  -- one listing for each query, and nothing after the last
  unfoldable pub told_from : List (Query (language (rules_of cells))) → List ℕ → Outcome (List Delivered)
  told_from [] s = refuse_if (not (is_empty s)) 10 (done [])
  told_from (q ∷ qs) s =
      and_then (listing_here (table_form cells) q.start q.name s) (λ d.
      and_then (told_from qs d.1) (λ ds.
      done (d.0 ∷ ds)))

  -- the listings of all queries of a table, or 10
  unfoldable pub told_of : List ℕ → Outcome (List Delivered)
  told_of lists = told_from (queries_of cells) lists
