-- What a renumbered row stands for, and rows in another sequence. Assumes nothing.
use Prim.Native.Nat.{ℕ}
use mathlib.Core.Path.{◌≡◌, refl, sym, ap, subst, ◌∙◌}
use mathlib.Core.List.{List, [], ◌∷◌, map}
use native.Mathlib.Omega.{arith}
use lib.ListN.{length}
use Rattle.scope_graph.specs.Language.{◌∈◌}
use Rattle.scope_graph.specs.Rows.{Rules, language}
use Rattle.scope_graph.specs.Renamed.{SameElements, edge_under, declaration_under, open_under, query_under}
use Rattle.scope_graph.proofs.Lists.{here, there, map_intro, map_elim}
use Rattle.graph_rows.specs.Format.{Sequence, shape_at, edge_section, declaration_section, open_section, query_section}
use Rattle.graph_rows.specs.Admission.{Row}
use Rattle.graph_rows.specs.Decode.{name_at, edge_of, declaration_of, open_pair_of, query_of}
use Rattle.renumbered.specs.Renumbered.{value_under, row_under, sequenced}
use Rattle.renumbered.proofs.Rows.{sequenced_has}
use Rattle.renumbered.proofs.Sections.{row_under_lem}

-- a row of five values, by these
five_row : {A : Type 0} (x y : Row → A) → ((a b c d e : ℕ) → x (a ∷ b ∷ c ∷ d ∷ e ∷ []) ≡ y (a ∷ b ∷ c ∷ d ∷ e ∷ [])) → (row : Row) → length row ≡ 5 → x row ≡ y row
five_row x y g [] h = absurd (omega arith)
five_row x y g (a ∷ []) h = absurd (omega arith)
five_row x y g (a ∷ b ∷ []) h = absurd (omega arith)
five_row x y g (a ∷ b ∷ c ∷ []) h = absurd (omega arith)
five_row x y g (a ∷ b ∷ c ∷ d ∷ []) h = absurd (omega arith)
five_row x y g (a ∷ b ∷ c ∷ d ∷ e ∷ []) h = g a b c d e
five_row x y g (a ∷ b ∷ c ∷ d ∷ e ∷ i ∷ row) h = absurd (omega arith)

module _ (r : Rules) (f : ℕ → ℕ) (form : ℕ) where
  pub edge_under_lem : (row : Row) → length row ≡ 5 → edge_of r (row_under f (shape_at form edge_section).row row) ≡ edge_under (language r) f (edge_of r row)
  unfolding edge_of value_under
  edge_under_lem =
      five_row (λ row. edge_of r (row_under f (shape_at form edge_section).row row)) (λ row. edge_under (language r) f (edge_of r row))
      (λ a b c d e. ap (edge_of r) (row_under_lem f form edge_section (omega arith) a b c d e))

  pub declaration_under_lem : (row : Row) → length row ≡ 5
      → declaration_of r (row_under f (shape_at form declaration_section).row row) ≡ declaration_under (language r) f (declaration_of r row)
  unfolding declaration_of name_at value_under
  declaration_under_lem =
      five_row (λ row. declaration_of r (row_under f (shape_at form declaration_section).row row)) (λ row. declaration_under (language r) f (declaration_of r row))
      (λ a b c d e. ap (declaration_of r) (row_under_lem f form declaration_section (omega arith) a b c d e))

  pub open_under_lem : (row : Row) → length row ≡ 5 → open_pair_of r (row_under f (shape_at form open_section).row row) ≡ open_under (language r) f (open_pair_of r row)
  unfolding open_pair_of value_under
  open_under_lem =
      five_row (λ row. open_pair_of r (row_under f (shape_at form open_section).row row)) (λ row. open_under (language r) f (open_pair_of r row))
      (λ a b c d e. ap (open_pair_of r) (row_under_lem f form open_section (omega arith) a b c d e))

  pub query_under_lem : (row : Row) → length row ≡ 5 → query_of r (row_under f (shape_at form query_section).row row) ≡ query_under (language r) f (query_of r row)
  unfolding query_of name_at value_under
  query_under_lem =
      five_row (λ row. query_of r (row_under f (shape_at form query_section).row row)) (λ row. query_under (language r) f (query_of r row))
      (λ a b c d e. ap (query_of r) (row_under_lem f form query_section (omega arith) a b c d e))

-- Rows changed and sorted anew stand for the same things as before, changed.
module _ {A : Type 0} (under : Row → Row) (of : Row → A) (change : A → A) (rows : List Row) (each : (row : Row) → row ∈ rows → of (under row) ≡ change (of row)) where
  pub same_elements : (q : Sequence) (key : List ℕ) → SameElements (map of (sequenced q key (map under rows))) (map change (map of rows))
  same_elements q key x = (
    (λ m.
        let u = map_elim of (sequenced q key (map under rows)) m in
        let v = map_elim under rows ((sequenced_has q key (map under rows) u.0).0 u.1) in
        let e : x ≡ change (of v.0) = u.2 ∙ ap of v.2 ∙ each v.0 v.1 in
        subst (λ (y : A). y ∈ map change (map of rows)) (sym e) (map_intro change (map_intro of v.1))),
    (λ m.
        let u = map_elim change (map of rows) m in
        let v = map_elim of rows u.1 in
        let e : of (under v.0) ≡ x = each v.0 v.1 ∙ sym (u.2 ∙ ap change v.2) in
        subst (λ (y : A). y ∈ map of (sequenced q key (map under rows))) e
        (map_intro of ((sequenced_has q key (map under rows) (under v.0)).1 (map_intro under v.1)))),
  )

pub same_sequence : {A : Type 0} (under : Row → Row) (of : Row → A) (change : A → A) (rows : List Row) → ((row : Row) → row ∈ rows → of (under row) ≡ change (of row))
    → map of (map under rows) ≡ map change (map of rows)
same_sequence under of change [] each = refl
same_sequence under of change (row ∷ rows) each = λ i. each row here i ∷ same_sequence under of change rows (λ a m. each a (there m)) i
