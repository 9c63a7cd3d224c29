-- Laws of the marks of a name in declaration cells: row by row. Assumes nothing.
use Prim.Native.Nat.{ℕ, ◌+◌, ◌≤◌, ◌<◌}
use mathlib.Core.Path.{◌≡◌, sym, ap, ◌∙◌}
use mathlib.Core.Bool.{Bool, true, false}
use mathlib.Core.List.{List, [], ◌∷◌}
use native.Mathlib.Omega.{arith}
use lib.ListN.{length, drop}
use Rattle.scope_graph.specs.Rows.{PackedName}
use Rattle.graph_rows.specs.Admission.{Row, row_of}
use Rattle.graph_table.specs.Sections.{rows_of}
use Rattle.graph_table.specs.Values.{declaration_row, row_declared, declares}
use Rattle.graph_table.specs.declared.rows.DeclarationRow.{DeclarationRow}
use Rattle.graph_table.proofs.Parts.{rows_next, rows_none}
use Rattle.graph_table.proofs.RowLaws.{declaration_cells}
use Rattle.board.specs.Marks.{declared_here, marks_of, marks_in}

module _ (cells : List ℕ) (s : ℕ) (x : PackedName) (p : ℕ) where
  -- no row is left
  pub marks_none : length cells < p + 6 → marks_in (drop p cells) s x ≡ []
  unfolding marks_in marks_of
  marks_none h = ap (λ (rows : List Row). marks_of rows s x) (rows_none cells p (omega arith))

  -- the row at p, and those after it
  module _ (h : p + 6 ≤ length cells) (row : DeclarationRow) (is : row ≡ declaration_row cells p) where
    marks_row : (here : Bool) → declares x s row ≡ here → marks_in (drop p cells) s x ≡ declared_here here row.mark (marks_in (drop (p + 6) cells) s x)
    unfolding marks_in marks_of
    marks_row here e =
        let by : row_declared (row_of (drop p cells)) ≡ row = sym (is ∙ declaration_cells cells p) in
        ap (λ (rows : List Row). marks_of rows s x) (rows_next cells p (omega arith))
        ∙ ap (λ (d : DeclarationRow). declared_here (declares x s d) d.mark (marks_of (rows_of (drop (p + 6) cells)) s x)) by
        ∙ ap (λ (t : Bool). declared_here t row.mark (marks_of (rows_of (drop (p + 6) cells)) s x)) e

    pub marks_here : declares x s row ≡ true → marks_in (drop p cells) s x ≡ row.mark ∷ marks_in (drop (p + 6) cells) s x
    unfolding declared_here
    marks_here e = marks_row true e

    pub marks_pass : declares x s row ≡ false → marks_in (drop p cells) s x ≡ marks_in (drop (p + 6) cells) s x
    unfolding declared_here
    marks_pass e = marks_row false e
