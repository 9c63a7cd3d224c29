-- The kinds of an admitted table's declarations and queries: letters a to z, and `v` where the file
-- shows no kinds (02, K8). Assumes nothing.
use Prim.Native.Nat.{ℕ, ◌<◌}
use mathlib.Core.Path.{◌≡◌, refl, subst}
use mathlib.Core.Bool.{Bool, true, false}
use mathlib.Core.Logic.{⊎_elim}
use mathlib.Core.List.{List}
use native.Mathlib.Omega.{arith}
use lib.Dec.{eqb}
use borrow.Author.Tests.{eqb-true}
use Rattle.scope_graph.specs.Language.{◌∈◌}
use Rattle.scope_graph.proofs.Lists.{Two, here, there, and_left}
use Rattle.text_field.specs.Bytes.{is_lower, within}
use Rattle.graph_rows.specs.Format.{kind, plain, plain_kind, field, every_item, Shape, has_kinds, declaration_shape, query_shape, shapes_of, shape_at, declaration_section, query_section}
use Rattle.graph_rows.specs.Admission.{Row, value}
use Rattle.graph_rows.specs.Values.{field_formed, item_formed, formed}
use Rattle.graph_rows.specs.Tested.{form_in}
use Rattle.graph_rows.specs.Decode.{rows_in}
use Rattle.graph_rows.proofs.DecodeWay.{AdmittedTable}
use Rattle.graph_rows.proofs.DecodeRows.{item_in}
use Rattle.graph_rows.proofs.DecodeTable.{table_formed}

-- the plain kind is a kind
pub plain_lower : (v : ℕ) → eqb v plain_kind ≡ true → is_lower v ≡ true
unfolding is_lower within
plain_lower v e = rw (eqb-true v plain_kind e)

module _ (cells : List ℕ) (t : AdmittedTable cells) where
  -- a section whose line has the kind, or the plain one without a text, at the same place
  module _ (k : ℕ) (h : k < 9) (shape : Bool → Shape) (shaped : shape_at t.form k ≡ shape (has_kinds t.form))
      (shown : field kind 1 ∈ (shape true).row) (left : field plain 1 ∈ (shape false).row) where
    items : (row : Row) → row ∈ rows_in k cells → (b : Bool) → has_kinds t.form ≡ b → every_item (item_formed row) (shape b).row ≡ true
    unfolding formed
    items row m b e =
        subst (λ (x : Bool). every_item (item_formed row) (shape x).row ≡ true) e
        (subst (λ (x : Shape). every_item (item_formed row) x.row ≡ true) shaped (and_left _ _ (table_formed cells t k h row m)))

    plain_told : has_kinds t.form ≡ false → (row : Row) → row ∈ rows_in k cells → eqb (value row 1) plain_kind ≡ true
    unfolding item_formed field_formed
    plain_told n row m = item_in (item_formed row) (shape false).row (field plain 1) left (items row m false n)

    kind_told : has_kinds t.form ≡ true → (row : Row) → row ∈ rows_in k cells → is_lower (value row 1) ≡ true
    unfolding item_formed field_formed
    kind_told n row m = item_in (item_formed row) (shape true).row (field kind 1) shown (items row m true n)

    is_lower_lem : (row : Row) → row ∈ rows_in k cells → is_lower (value row 1) ≡ true
    is_lower_lem row m = ⊎_elim (λ e. kind_told e row m) (λ e. plain_lower (value row 1) (plain_told e row m)) (Two (has_kinds t.form))

    is_plain : has_kinds (form_in cells) ≡ false → (row : Row) → row ∈ rows_in k cells → value row 1 ≡ plain_kind
    unfolding form_in
    is_plain n row m = eqb-true (value row 1) plain_kind (plain_told (subst (λ (c : List ℕ). has_kinds (form_in c) ≡ false) t.cells_are n) row m)

  pub declared_lower : (row : Row) → row ∈ rows_in declaration_section cells → is_lower (value row 1) ≡ true
  unfolding declaration_shape shape_at shapes_of
  declared_lower = is_lower_lem declaration_section (omega arith) declaration_shape refl (there (there here)) (there (there here))

  pub declared_plain : has_kinds (form_in cells) ≡ false → (row : Row) → row ∈ rows_in declaration_section cells → value row 1 ≡ plain_kind
  unfolding declaration_shape shape_at shapes_of
  declared_plain = is_plain declaration_section (omega arith) declaration_shape refl (there (there here)) (there (there here))

  pub sought_lower : (row : Row) → row ∈ rows_in query_section cells → is_lower (value row 1) ≡ true
  unfolding query_shape shape_at shapes_of
  sought_lower = is_lower_lem query_section (omega arith) query_shape refl (there (there here)) (there (there here))

  pub sought_plain : has_kinds (form_in cells) ≡ false → (row : Row) → row ∈ rows_in query_section cells → value row 1 ≡ plain_kind
  unfolding query_shape shape_at shapes_of
  sought_plain = is_plain query_section (omega arith) query_shape refl (there (there here)) (there (there here))
