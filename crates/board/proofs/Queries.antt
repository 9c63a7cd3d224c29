-- The queries of a table that was read: how many there are, and each by its row. Assumes nothing.
use Prim.Native.Nat.{ℕ, zero, suc, ◌+◌, ◌*◌, ◌≤◌, ◌<◌}
use mathlib.Core.Path.{◌≡◌, sym, ap, ◌∙◌, subst}
use mathlib.Core.List.{List, [], ◌∷◌}
use native.Mathlib.Omega.{arith}
use lib.ListN.{length, get_or, drop, length-map, get_or-map}
use Rattle.scope_graph.specs.Language.{◌∈◌}
use Rattle.scope_graph.specs.Graph.{Query}
use Rattle.scope_graph.specs.Rows.{language}
use Rattle.scope_graph.proofs.Lists.{here, there}
use Rattle.graph_rows.specs.Format.{query_section}
use Rattle.graph_rows.specs.Admission.{Row, row_of, blank}
use Rattle.graph_rows.specs.Decode.{rows_in, rules_of, scopes_of, name_at, query_of, queries_of}
use Rattle.graph_file.specs.File.{WasRead}
use Rattle.graph_rows.specs.Accepted.{AcceptedTable}
use Rattle.graph_file.proofs.Promises.{read_accepted}
use Rattle.graph_table.specs.declared.rows.QueryRow.{QueryRow}
use Rattle.graph_table.specs.Sections.{part_of, rows_of}
use Rattle.graph_table.specs.Values.{query_row}
use Rattle.board.specs.Queries.{query_at, query_on, Asked}
use Rattle.board.specs.Promises.{Sound}
use Rattle.graph_table.proofs.Parts.{rows_count, row_at}
use Rattle.graph_table.proofs.RowLaws.{row_query, query_cells}
use Rattle.board.proofs.SectionLaws.{rows_in_part}
use Rattle.board.proofs.Accepted.{read_sound}
use Rattle.board.proofs.KindBytes.{query_kinds}

-- an element that stands at a place of a list is in it
pub get_d_in : {A : Type 0} (l : List A) (i : ℕ) (d : A) → i < length l → get_or l i d ∈ l
get_d_in [] i d h = absurd (omega arith)
get_d_in (x ∷ l) zero d h = here
get_d_in (x ∷ l) (suc i) d h = there (get_d_in l i d (omega arith))

-- a row of a number is whole
pub row_whole : (t : List ℕ) (i : ℕ) → i < length (rows_of t) → 6 * i + 6 ≤ length t
row_whole t i h = let c = rows_count (length t) t (omega arith) in omega arith

-- what a table that was read gives
module _ (cells : List ℕ) (was : WasRead cells) where
  pub accepted : AcceptedTable cells
  accepted = read_accepted was.0 cells was.1

  pub sound : Sound cells
  sound = read_sound was.0 cells was.1

  pub rows_are : (k : ℕ) → rows_of (part_of k cells) ≡ rows_in k cells
  rows_are k = sym (rows_in_part cells sound.ascend k)

  module _ (queries : List ℕ) (part : queries ≡ part_of query_section cells) (i n : ℕ)
      (counted : n ≡ length (rows_of queries)) where
    rows_is : rows_of queries ≡ rows_in query_section cells
    rows_is = ap rows_of part ∙ rows_are query_section

    pub count_is : n ≡ length (queries_of cells)
    unfolding queries_of
    count_is =
        counted ∙ ap (λ (l : List Row). length l) rows_is
        ∙ sym (length-map (rows_in query_section cells) (query_of (rules_of cells)))

    pub query_below : i < length (queries_of cells) → i < n
    query_below h = let c = count_is in omega arith

    module _ (h : i < n) where
      pub query_whole : 6 * i + 6 ≤ length queries
      query_whole = row_whole queries i (omega arith)

      row_here_lem : get_or (rows_in query_section cells) i blank ≡ row_of (drop (6 * i) queries)
      row_here_lem =
          let c = rows_count (length queries) queries (omega arith) in
          ap (λ (rows : List Row). get_or rows i blank) (sym rows_is) ∙ row_at queries i (omega arith)

      module _ (q : QueryRow) (p : ℕ) (placed : p ≡ 6 * i) (e : q ≡ query_row queries p) where
        by_row : q ≡ row_query (get_or (rows_in query_section cells) i blank)
        by_row = e ∙ ap (query_row queries) placed ∙ query_cells queries (6 * i) ∙ ap row_query (sym row_here_lem)

        pub query_is : query_on cells q ≡ query_at cells i
        unfolding query_at queries_of query_of name_at
        query_is = ap (query_on cells) by_row ∙ sym (get_or-map (query_of (rules_of cells)) (rows_in query_section cells) i blank)

        pub query_asked_lem : Asked cells (query_on cells q)
        unfolding query_at queries_of
        query_asked_lem =
            let c = count_is in
            let n = length-map (rows_in query_section cells) (query_of (rules_of cells)) in
            record {
              read = was;
              starts =
                  subst (λ (z : Query (language (rules_of cells))). z.start < scopes_of cells) (sym query_is)
                  (accepted.starts (query_at cells i) (get_d_in (queries_of cells) i _ (omega arith)));
              kind =
                  subst (λ (z : QueryRow). z.name.kind < 256) (sym by_row)
                  (query_kinds was.0 cells was.1 _ (get_d_in (rows_in query_section cells) i blank (omega arith)));
            }
