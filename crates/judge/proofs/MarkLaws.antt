-- Laws of looking through declarations for one with a mark. Assumes nothing.
use mathlib.Core.Path.{◌≡◌, sym, ap, ◌∙◌}
use mathlib.Core.Bool.{Bool, true, false}
use mathlib.Core.List.{List}
use Prim.Native.Nat.{ℕ, ◌+◌, ◌-◌, ◌≤◌, ◌<◌}
use lib.Dec.{eqb}
use lib.ListN.{length, drop}
use Rattle.graph_rows.specs.Admission.{row_of}
use Rattle.graph_table.specs.declared.rows.DeclarationRow.{DeclarationRow}
use Rattle.graph_table.specs.declared.rows.QueryRow.{QueryRow}
use Rattle.graph_table.specs.Sections.{rows_of}
use Rattle.graph_table.specs.Values.{packed, declaration_row, row_declared, declares}
use Rattle.graph_table.proofs.RowLaws.{declaration_cells}
use Rattle.graph_table.proofs.Parts.{any_hit, any_miss, any_end}
use Rattle.judge.specs.Steps.{is_marked, has_mark}

module _ (x : QueryRow) (mark s : ℕ) where
  -- by whether the declaration is one of the name there
  module _ (d : DeclarationRow) where
    pub mark_apart : declares (packed x.name) s d ≡ false → false ≡ is_marked x mark s d
    unfolding is_marked
    mark_apart h = rw h

    pub mark_left : declares (packed x.name) s d ≡ true → eqb mark d.mark ≡ is_marked x mark s d
    unfolding is_marked
    mark_left h = rw h

  -- the rows from place p on
  module _ (decls : List ℕ) where
    abbrev pub marks_left : ℕ → Bool
    marks_left p = has_mark x mark s (rows_of (drop p decls))

    module _ (p : ℕ) where
      pub marks_none : length decls - p < 6 → marks_left p ≡ false
      unfolding has_mark
      marks_none h = any_end decls p row_declared (is_marked x mark s) h

      module _ (h : 6 ≤ length decls - p) (d : DeclarationRow) (is : d ≡ declaration_row decls p) (u : Bool)
          (e : u ≡ is_marked x mark s d) where
        row_is : is_marked x mark s (row_declared (row_of (drop p decls))) ≡ u
        row_is = ap (is_marked x mark s) (sym (is ∙ declaration_cells decls p)) ∙ sym e

        pub marks_here : u ≡ true → marks_left p ≡ true
        unfolding has_mark
        marks_here k = any_hit decls p row_declared (is_marked x mark s) h (row_is ∙ k)

        pub marks_on : u ≡ false → marks_left p ≡ marks_left (p + 6)
        unfolding has_mark
        marks_on k = any_miss decls p row_declared (is_marked x mark s) h (row_is ∙ k)
