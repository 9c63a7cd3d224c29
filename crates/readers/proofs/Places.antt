-- A declaration of a table by its place among the rows. Assumes nothing.
use Prim.Native.Nat.{ℕ, ◌+◌, ◌*◌, ◌≤◌, ◌<◌}
use mathlib.Core.Path.{◌≡◌, refl, sym, ap, ◌∙◌, subst}
use mathlib.Core.List.{List}
use native.Mathlib.Omega.{arith}
use lib.ListN.{length, get_or, drop, length-map, get_or-map}
use Rattle.scope_graph.specs.Language.{◌∈◌}
use Rattle.scope_graph.specs.Graph.{Declaration}
use Rattle.scope_graph.specs.Rows.{language}
use Rattle.graph_rows.specs.Format.{declaration_section}
use Rattle.graph_rows.specs.Admission.{Row, row_of, blank}
use Rattle.graph_rows.specs.Decode.{rows_in, rules_of, name_at, declaration_of, graph_of}
use Rattle.graph_file.specs.File.{WasRead}
use Rattle.graph_table.specs.declared.rows.DeclarationRow.{DeclarationRow}
use Rattle.graph_table.specs.Sections.{part_of, rows_of}
use Rattle.graph_table.specs.Values.{declaration_row, row_declared}
use Rattle.graph_table.proofs.Parts.{rows_count, row_at}
use Rattle.graph_table.proofs.RowLaws.{declaration_cells}
use Rattle.board.specs.Made.{Made}
use Rattle.board.proofs.Queries.{get_d_in, row_whole, rows_are}
use Rattle.readers.specs.Readers.{declaration_at}
use Rattle.readers.specs.Given.{declaration_on, Stands}

module _ (cells : List ℕ) (was : WasRead cells) (rows : List ℕ) (part : rows ≡ part_of declaration_section cells) where
  rows_is : rows_of rows ≡ rows_in declaration_section cells
  rows_is = ap rows_of part ∙ rows_are cells was declaration_section

  pub count_is : (n : ℕ) → n ≡ length (rows_of rows) → n ≡ length (graph_of cells).declarations
  unfolding graph_of
  count_is n e =
      e ∙ ap (λ (l : List Row). length l) rows_is ∙ sym (length-map (rows_in declaration_section cells) (declaration_of (rules_of cells)))

  module _ (i : ℕ) (h : i < length (graph_of cells).declarations) where
    below : i < length (rows_of rows)
    below = let c = count_is (length (rows_of rows)) refl in omega arith

    pub row_fits : 6 * i + 6 ≤ length rows
    row_fits = row_whole rows i below

    row_here_lem : get_or (rows_in declaration_section cells) i blank ≡ row_of (drop (6 * i) rows)
    row_here_lem =
        let c = rows_count (length rows) rows (omega arith) in
        let b = below in
        ap (λ (l : List Row). get_or l i blank) (sym rows_is) ∙ row_at rows i (omega arith)

    pub declaration_is : (d : DeclarationRow) (p : ℕ) → p ≡ 6 * i → d ≡ declaration_row rows p → declaration_on cells d ≡ declaration_at cells i
    unfolding declaration_at graph_of declaration_of name_at
    declaration_is d p placed e =
        ap (declaration_on cells) (e ∙ ap (declaration_row rows) placed ∙ declaration_cells rows (6 * i) ∙ ap row_declared (sym row_here_lem))
        ∙ sym (get_or-map (declaration_of (rules_of cells)) (rows_in declaration_section cells) i blank)

-- what is at a place stands among the rows
pub place_stands : (cells : List ℕ) (i : ℕ) → i < length (graph_of cells).declarations → declaration_at cells i ∈ (graph_of cells).declarations
unfolding declaration_at
place_stands cells i h = get_d_in (graph_of cells).declarations i _ h

pub row_stands : (cells block : List ℕ) → WasRead cells → Made cells block → (i : ℕ) → i < length (graph_of cells).declarations
    → (d : DeclarationRow) → declaration_on cells d ≡ declaration_at cells i → Stands cells block d
row_stands cells block was made i h d e = record {
  read = was;
  made = made;
  stands = subst (λ (z : Declaration (language (rules_of cells))). z ∈ (graph_of cells).declarations) (sym e) (place_stands cells i h);
}
