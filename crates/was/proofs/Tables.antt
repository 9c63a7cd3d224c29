-- What the list is made of, for a table that was read: where it starts, and the scopes that edges
-- lead to. Assumes nothing.
use Prim.Native.Nat.{ℕ, ◌≤◌, ◌<◌}
use mathlib.Core.Path.{◌≡◌, refl, sym, ap, ◌∙◌, subst}
use mathlib.Core.List.{List, [], ◌∷◌, ◌++◌, map}
use native.Mathlib.Omega.{arith}
use lib.ListN.{length, get_or, take, replicate, length-append, length-replicate}
use Rattle.scope_graph.specs.Language.{◌∈◌, Language}
use Rattle.scope_graph.specs.Graph.{Edge, Query, InRange}
use Rattle.scope_graph.specs.Path.{Hop, tos}
use Rattle.scope_graph.specs.Rows.{Rules, language}
use Rattle.scope_graph.specs.Computed.{keep, hops_at}
use Rattle.scope_graph.proofs.Lists.{here, keep_elim, map_elim}
use Rattle.scope_graph.specs.Readers.{numbers_below}
use Rattle.graph_rows.specs.Format.{most_scopes, edge_section, query_section}
use Rattle.graph_rows.specs.Admission.{Row, value, blank}
use Rattle.graph_rows.specs.Decode.{rows_in, rules_of, edge_of, query_of, scopes_of, graph_of, queries_of}
use Rattle.graph_rows.specs.Accepted.{AcceptedTable}
use Rattle.graph_file.specs.File.{WasRead}
use Rattle.graph_table.specs.Sections.{part_of, rows_of}
use Rattle.board.proofs.SectionLaws.{all_hops_lem}
use Rattle.board.proofs.Accepted.{edges_found}
use Rattle.board.proofs.Queries.{accepted, rows_are}
use Rattle.was.specs.Order.{scopes_after, gathered, met_all, unmet, breadth_first, start_in, was_list}
use Rattle.was.specs.Cells.{at_front, in_cells, scopes_by, Scopes, Begins}
use Rattle.was.proofs.Growing.{scopes_size, gathered_unmet}
use Rattle.was.proofs.CellLaws.{front_size, front_take, front_front}
use Rattle.was.proofs.Meeting.{met_scopes}

tos_map : (L : Language) (hs : List (Hop L)) → map (λ h. h.to) hs ≡ tos L hs
tos_map L [] = refl
tos_map L (h ∷ hs) = ap (λ (l : List ℕ). h.to ∷ l) (tos_map L hs)

-- a scope that an edge of s leads to is an edge's
after_in : (L : Language) (edges : List (Edge L)) (s t : ℕ) → t ∈ scopes_after L edges s → (e : Edge L) × (e ∈ edges) × (t ≡ e.to)
unfolding hops_at
after_in L edges s t m =
    let h = map_elim (λ h. h.to) (hops_at L edges s) (subst (λ (l : List ℕ). t ∈ l) (sym (tos_map L (hops_at L edges s))) m) in
    let e = map_elim (λ e. record { step = e.step; to = e.to }) (keep _ edges) h.1 in
    (e.0, (keep_elim _ edges e.1).0, h.2 ∙ ap (λ (z : Hop L). z.to) e.2)

start_of : (r : Rules) (rows : List Row) → value (get_or rows 0 blank) 0 ≡ start_in (map (query_of r) rows)
unfolding start_in query_of
start_of r [] = refl
start_of r (row ∷ rows) = refl

start_in_lem : (L : Language) (n : ℕ) (queries : List (Query L)) → 1 ≤ n → ((q : Query L) → q ∈ queries → q.start < n) → start_in queries < n
unfolding start_in
start_in_lem L n [] h k = h
start_in_lem L n (q ∷ queries) h k = k q here

module _ (cells : List ℕ) (was : WasRead cells) where
  abbrev L : Language
  L = language (rules_of cells)

  abbrev edges : List (Edge L)
  edges = (graph_of cells).edges

  a : AcceptedTable cells
  a = accepted cells was

  pub scopes_most : scopes_of cells ≤ most_scopes
  scopes_most = a.scopes_most

  -- where it starts
  pub start_is : (v : ℕ) → v ≡ value (get_or (rows_of (part_of query_section cells)) 0 blank) 0 → v ≡ start_in (queries_of cells)
  unfolding queries_of
  start_is v e =
      e ∙ ap (λ (rows : List Row). value (get_or rows 0 blank) 0) (rows_are cells was query_section)
      ∙ start_of (rules_of cells) (rows_in query_section cells)

  pub start_below : start_in (queries_of cells) < scopes_of cells
  start_below = start_in_lem L (scopes_of cells) (queries_of cells) a.scopes_least a.starts

  -- where the edges lead
  in_range : InRange L (graph_of cells)
  in_range = let least = a.scopes_least in (a.accepted (record { start = 0; name = record { kind = 0; high = 0; low = 0 } }) (omega arith)).in_range

  pub after_below : (s t : ℕ) → t ∈ scopes_after L edges s → t < scopes_of cells
  unfolding graph_of
  after_below s t m = let e = after_in L edges s t m in rw e.2 (in_range.to_scope e.0 e.1)

  pub after_is : (s : ℕ) → scopes_by (part_of edge_section cells) s ≡ scopes_after L edges s
  unfolding scopes_by graph_of
  after_is s =
      ap (map (λ h. h.to))
      (edges_found was.0 cells was.1 s
      ∙ all_hops_lem (rules_of cells) (part_of edge_section cells) s
      ∙ ap (λ (rows : List Row). hops_at L (map (edge_of (rules_of cells)) rows) s) (rows_are cells was edge_section))
      ∙ tos_map L (hops_at L edges s)

  -- the edges' part of the table, as it was found
  module _ (part : List ℕ) (found : part ≡ part_of edge_section cells) where
    pub part_below : (s t : ℕ) → t ∈ scopes_by part s → t < most_scopes
    part_below s t m =
        let most = scopes_most in
        let k = after_below s t (subst (λ (l : List ℕ). t ∈ l) (ap (λ (p : List ℕ). scopes_by p s) found ∙ after_is s) m) in
        omega arith

    part_met : (v : ℕ) → v ≡ start_in (queries_of cells) → met_all (scopes_by part) v ≡ met_all (scopes_after L edges) (start_in (queries_of cells))
    part_met v e =
        ap (λ (p : List ℕ). met_all (scopes_by p) v) found ∙ ap (met_all (scopes_by (part_of edge_section cells))) e
        ∙ λ i. met_all (λ s. after_is s i) (start_in (queries_of cells))

    -- the cells after the scopes that are met were listed
    module _ (v : ℕ) (start : v ≡ start_in (queries_of cells)) (list : List ℕ) (n : ℕ) (count : n ≡ length (met_all (scopes_by part) v))
        (put : list ≡ at_front (met_all (scopes_by part) v) (replicate most_scopes 0)) where
      scopes : Scopes most_scopes (met_all (scopes_by part) v)
      scopes = met_scopes (scopes_by part) most_scopes part_below v (let most = scopes_most in let b = start_below in omega arith)

      is : take n list ≡ met_all (scopes_by part) v
      is = ap (take n) put ∙ ap (λ (k : ℕ). take k (at_front (met_all (scopes_by part) v) (replicate most_scopes 0))) count ∙ front_take (met_all (scopes_by part) v) (replicate most_scopes 0)

      pub met_begins : Begins list n
      met_begins =
          let fits = scopes_size most_scopes (met_all (scopes_by part) v) scopes in
          let zeros : length {A = ℕ} (replicate most_scopes 0) ≡ most_scopes = length-replicate {A = ℕ} most_scopes 0 in
          record {
            size = ap length put ∙ front_size (met_all (scopes_by part) v) (replicate most_scopes 0) (omega arith) ∙ zeros;
            most = omega arith;
            scopes = subst (λ (l : List ℕ). Scopes most_scopes l) (sym is) scopes;
          }

      pub list_is : (m : ℕ) (last : List ℕ) → m ≡ scopes_of cells → last ≡ at_front (gathered (take n list) (numbers_below m)) list → last ≡ in_cells (was_list cells)
      unfolding in_cells was_list breadth_first
      list_is m last all e =
          let both : gathered (take n list) (numbers_below m) ≡ breadth_first (scopes_after L edges) (scopes_of cells) (start_in (queries_of cells)) =
          gathered_unmet m (take n list) ∙ ap (λ (l : List ℕ). l ++ unmet m l) (is ∙ part_met v start)
          ∙ ap (λ (k : ℕ). met_all (scopes_after L edges) (start_in (queries_of cells)) ++ unmet k (met_all (scopes_after L edges) (start_in (queries_of cells)))) all in
          let size = length-append (met_all (scopes_after L edges) (start_in (queries_of cells))) (unmet (scopes_of cells) (met_all (scopes_after L edges) (start_in (queries_of cells)))) in
          let same = ap length (part_met v start) in
          e ∙ ap (λ (l : List ℕ). at_front l list) both ∙ ap (at_front (was_list cells)) put
          ∙ front_front (met_all (scopes_by part) v) (was_list cells) (replicate most_scopes 0) (omega arith)
