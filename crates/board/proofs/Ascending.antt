-- The edge rows of an admitted table stand by ascending scope, and so do the declarations: the key
-- of each begins with its scope. Assumes nothing.
use Prim.Native.Nat.{ℕ, ◌≤◌}
use mathlib.Core.Logic.{⊎_elim}
use mathlib.Core.List.{List, [], ◌∷◌}
use native.Mathlib.Omega.{arith}
use lib.ListN.{drop}
use Rattle.scope_graph.specs.Language.{◌∈◌}
use Rattle.scope_graph.specs.Listing.{Pairwise}
use Rattle.scope_graph.proofs.Lists.{here, pairwise_weaken}
use Rattle.graph_rows.specs.Format.{edges, declarations, sections, section_at, edge_section, declaration_section}
use Rattle.graph_rows.specs.Admission.{Row, value}
use Rattle.graph_rows.specs.Decode.{rows_in}
use Rattle.graph_rows.proofs.DecodeWay.{AdmittedTable}
use Rattle.graph_rows.proofs.KeyLaws.{KeyBefore}
use Rattle.graph_rows.proofs.DecodeTable.{table_ascends}
use Rattle.graph_table.specs.Rows.{RowsAscend}
use Rattle.graph_table.specs.Sections.{part_of, rows_of, SectionsAscend}
use Rattle.board.proofs.SectionLaws.{rows_in_part}

-- rows by ascending first value
abbrev FirstUp : Row → Row → Type 0
FirstUp a b = value a 0 ≤ value b 0

rows_up : (least : ℕ) (l : List ℕ) → ((row : Row) → row ∈ rows_of l → least ≤ value row 0) → Pairwise FirstUp (rows_of l) → RowsAscend least l
unfolding rows_of
rows_up least [] h p = tt
rows_up least (s ∷ []) h p = tt
rows_up least (s ∷ a ∷ []) h p = tt
rows_up least (s ∷ a ∷ b ∷ []) h p = tt
rows_up least (s ∷ a ∷ b ∷ c ∷ []) h p = tt
rows_up least (s ∷ a ∷ b ∷ c ∷ d ∷ []) h p = tt
rows_up least (s ∷ a ∷ b ∷ c ∷ d ∷ e ∷ l) h p = (h (a ∷ b ∷ c ∷ d ∷ e ∷ []) here, rows_up a l p.0 p.1)

-- a key that begins with the first value
first_up : (key : List ℕ) (a b : Row) → KeyBefore (0 ∷ key) a b → FirstUp a b
first_up key a b k = ⊎_elim (λ l. omega arith) (λ e. let same = e.0 in omega arith) k

module _ (cells : List ℕ) (t : AdmittedTable cells) (up : SectionsAscend 0 (drop 1 cells)) where
  -- the rows of a section that is sorted by its first value first
  section_up : (k : ℕ) → Pairwise FirstUp (rows_in k cells) → RowsAscend 0 (part_of k cells)
  section_up k p = rows_up 0 (part_of k cells) (λ row m. omega arith) (rw (rows_in_part cells up k) at p)

  edges_up : Pairwise FirstUp (rows_in edge_section cells)
  unfolding section_at sections edges
  edges_up =
      pairwise_weaken (KeyBefore (section_at edge_section).key) FirstUp (rows_in edge_section cells) (λ a b m n k. first_up (1 ∷ 3 ∷ 2 ∷ []) a b k)
      (table_ascends cells t edge_section (omega arith) tt)

  pub admitted_edges : RowsAscend 0 (part_of edge_section cells)
  admitted_edges = section_up edge_section edges_up

  declarations_up : Pairwise FirstUp (rows_in declaration_section cells)
  unfolding section_at sections declarations
  declarations_up =
      pairwise_weaken (KeyBefore (section_at declaration_section).key) FirstUp (rows_in declaration_section cells)
      (λ a b m n k. first_up (1 ∷ 2 ∷ 3 ∷ 4 ∷ []) a b k) (table_ascends cells t declaration_section (omega arith) tt)

  pub admitted_declarations : RowsAscend 0 (part_of declaration_section cells)
  admitted_declarations = section_up declaration_section declarations_up
