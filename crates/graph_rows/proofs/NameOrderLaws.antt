-- The key of a declaration row ascends as its scope, kind, name and mark do (specs/NameOrder).
-- Assumes nothing.
use Prim.Native.Nat.{ℕ, ◌<◌}
use mathlib.Core.Path.{◌≡◌, refl, sym, ◌∙◌}
use mathlib.Core.Bool.{Bool, true, false}
use mathlib.Core.Logic.{◌⊎◌, inl, inr}
use mathlib.Core.List.{List, [], ◌∷◌}
use native.Mathlib.Omega.{arith}
use lib.Dec.{eqb, ltb}
use borrow.Author.Tests.{lt-ltb, ltb-true, eq-eqb, eqb-true, ne_eqb}
use Rattle.text_field.specs.Name.{is_name_cells, name_before}
use Rattle.text_field.proofs.NameLaws.{cells_equal}
use Rattle.text_field.proofs.OrderLaws.{cells_before, cells_ordered}
use Rattle.scope_graph.specs.Language.{◌∈◌}
use Rattle.scope_graph.specs.Listing.{Pairwise}
use Rattle.scope_graph.proofs.Lists.{here, there}
use Rattle.graph_rows.specs.Format.{name, Item, field, sections, section_at, declarations, declaration_shape}
use Rattle.graph_rows.specs.Admission.{Row, value}
use Rattle.graph_rows.specs.Values.{item_formed, field_formed}
use Rattle.graph_rows.specs.NameOrder.{name_in, NamedBefore, DeclaredBefore, DeclarationsAscend}
use Rattle.graph_rows.proofs.KeyLaws.{KeyBefore, key_before, before_key}

-- two cells in order: the first ones, and where these are equal the second ones
abbrev CellsLess : ℕ → ℕ → ℕ → ℕ → Type 0
CellsLess h l h' l' = (h < h') ⊎ ((h ≡ h') × (l < l'))

cells_before_lem : (h l h' l' : ℕ) → CellsLess h l h' l' → cells_before h l h' l' ≡ true
unfolding cells_before
cells_before_lem h l h' l' (inl a) = rw (ne_eqb h h' (λ e. omega arith), lt-ltb h h' a, cells_before)
cells_before_lem h l h' l' (inr a) = rw (eq-eqb h h' a.0, lt-ltb l l' a.1, cells_before)

cells_less : (h l h' l' : ℕ) → cells_before h l h' l' ≡ true → CellsLess h l h' l'
unfolding cells_before
cells_less h l h' l' e = by (eqb h h') refl e
  where
    by : (t : Bool) → eqb h h' ≡ t → (elim t as (λ _. Bool) [ true ↦ ltb l l' | false ↦ ltb h h' ]) ≡ true → CellsLess h l h' l'
    by true t f = inr (eqb-true h h' t, ltb-true l l' f)
    by false t f = inl (ltb-true h h' f)

module _ (a b : Row) (named : is_name_cells (value a 2) (value a 3) ≡ true) (named' : is_name_cells (value b 2) (value b 3) ≡ true) where
  -- behind scope and kind: the name's cells and the mark
  abbrev NameKey : Type 0
  NameKey = KeyBefore (2 ∷ 3 ∷ 4 ∷ []) a b

  names_less : CellsLess (value a 2) (value a 3) (value b 2) (value b 3) → name_before (name_in a) (name_in b) ≡ true
  unfolding name_in
  names_less h = sym (cells_ordered _ _ _ _ named named') ∙ cells_before_lem _ _ _ _ h

  named_before : NameKey → NamedBefore a b
  unfolding name_in
  named_before (inl h) = inl (names_less (inl h))
  named_before (inr (f, inl h)) = inl (names_less (inr (f, h)))
  named_before (inr (f, inr (g, inl h))) = inr (rw (f, g), h)
  named_before (inr (f, inr (g, inr h))) = absurd h.1

  name_key : NamedBefore a b → NameKey
  unfolding name_in
  name_key (inl n) = within (cells_less _ _ _ _ (cells_ordered _ _ _ _ named named' ∙ n))
    where
      within : CellsLess (value a 2) (value a 3) (value b 2) (value b 3) → NameKey
      within (inl h) = inl h
      within (inr h) = inr (h.0, inl h.1)
  name_key (inr (s, m)) = let c = cells_equal _ _ _ _ named named' s in inr (c.0, inr (c.1, inl m))

  abbrev Key : Type 0
  Key = KeyBefore (0 ∷ 1 ∷ 2 ∷ 3 ∷ 4 ∷ []) a b

  declared : Key → DeclaredBefore a b
  declared (inl h) = inl h
  declared (inr (e, inl h)) = inr (e, inl h)
  declared (inr (e, inr (f, h))) = inr (e, inr (f, named_before h))

  by_key : DeclaredBefore a b → Key
  by_key (inl h) = inl h
  by_key (inr (e, inl h)) = inr (e, inl h)
  by_key (inr (e, inr (f, h))) = inr (e, inr (f, name_key h))

pub declarations_ascend : DeclarationsAscend
unfolding section_at sections declarations
declarations_ascend a b named named' =
    (λ h. declared a b named named' (key_before (0 ∷ 1 ∷ 2 ∷ 3 ∷ 4 ∷ []) a b h), λ h. before_key (0 ∷ 1 ∷ 2 ∷ 3 ∷ 4 ∷ []) a b (by_key a b named named' h))

-- rows with names that ascend by the key
pub all_declared : (rows : List Row) → ((row : Row) → row ∈ rows → is_name_cells (value row 2) (value row 3) ≡ true) → Pairwise (KeyBefore (0 ∷ 1 ∷ 2 ∷ 3 ∷ 4 ∷ [])) rows
    → Pairwise DeclaredBefore rows
all_declared [] n p = tt
all_declared (row ∷ rows) n p =
    ((λ later m. declared row later (n row here) (n later (there m)) (p.0 later m)), all_declared rows (λ later m. n later (there m)) p.1)

-- what a line's items say of the name, in either form
pub name_formed : (t : Bool) (row : Row) → ((i : Item) → i ∈ (declaration_shape t).row → item_formed row i ≡ true) → is_name_cells (value row 2) (value row 3) ≡ true
unfolding declaration_shape item_formed field_formed
name_formed true row h = h (field name 2) (there (there (there (there here))))
name_formed false row h = h (field name 2) (there (there (there here)))
