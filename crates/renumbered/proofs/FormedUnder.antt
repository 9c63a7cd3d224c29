-- A formed row under other numbers is formed. Assumes nothing.
use Prim.Native.Nat.{ℕ, zero, suc, ◌+◌, ◌≤◌, ◌<◌}
use mathlib.Core.Path.{◌≡◌, refl, sym, ap, ◌∙◌}
use mathlib.Core.List.{List, [], ◌∷◌}
use mathlib.Core.Bool.{Bool, true, false, not, ◌&&◌, ◌||◌, false≢true}
use mathlib.Core.Logic.{⊎_elim}
use native.Mathlib.Omega.{arith}
use borrow.Author.Tests.{eqb-true, eq-eqb, le-leb, le-ltb, lt-leb, lt-ltb}
use lib.Dec.{eqb}
use Rattle.scope_graph.specs.Renamed.{Renumbers}
use Rattle.scope_graph.proofs.Lists.{Two, and_left, and_right, and_both, or_cases, or_left, or_right, not_is}
use Rattle.graph_rows.specs.Format.{Content, state, scope, mark, count, letter, label, end, name, kind, plain, turn, Item, byte, field, values_of, every_item, has_kinds, has_turns, edge_shape, declaration_shape, query_shape, shapes_of, shape_at}
use Rattle.graph_rows.specs.Admission.{Row, value, content_in_range, item_in_range, in_range}
use Rattle.graph_rows.specs.Values.{field_formed, item_formed, spares_place, idle_zero, idle_zeros, formed}
use Rattle.graph_rows.specs.Formed.{FormedRow}
use Rattle.renumbered.specs.Renumbered.{is_scope, holds_scope, row_under}
use Rattle.renumbered.proofs.Rows.{under_length}
use Rattle.renumbered.proofs.Under.{value_stays, new_in_range}

-- Do a field's places hold no scope, unless it is one? So it is with all fields of a section's row.
unfoldable pub clear : List Item → Item → Bool
clear items (byte b) = true
clear items (field k c) = is_scope k || (not (holds_scope items c) && (eqb (values_of k) 1 || not (holds_scope items (c + 1))))

abbrev AllClear : List Item → Type 0
AllClear items = every_item (clear items) items ≡ true

edge_clear : (t : Bool) → AllClear (edge_shape t).row
unfolding clear holds_scope is_scope values_of every_item edge_shape
edge_clear true = refl
edge_clear false = refl

declaration_clear : (t : Bool) → AllClear (declaration_shape t).row
unfolding clear holds_scope is_scope values_of every_item declaration_shape
declaration_clear true = refl
declaration_clear false = refl

query_clear : (t : Bool) → AllClear (query_shape t).row
unfolding clear holds_scope is_scope values_of every_item query_shape
query_clear true = refl
query_clear false = refl

shape_clear : (form k : ℕ) → AllClear (shape_at form k).row
unfolding clear holds_scope is_scope values_of every_item shape_at shapes_of
shape_clear form zero = refl
shape_clear form (suc zero) = refl
shape_clear form (suc (suc zero)) = refl
shape_clear form (suc (suc (suc zero))) = refl
shape_clear form (suc (suc (suc (suc zero)))) = refl
shape_clear form (suc (suc (suc (suc (suc zero))))) = edge_clear (has_turns form)
shape_clear form (suc (suc (suc (suc (suc (suc zero)))))) = declaration_clear (has_kinds form)
shape_clear form (suc (suc (suc (suc (suc (suc (suc zero))))))) = refl
shape_clear form (suc (suc (suc (suc (suc (suc (suc (suc zero)))))))) = query_clear (has_kinds form)
shape_clear form (suc (suc (suc (suc (suc (suc (suc (suc (suc k))))))))) = refl

-- a scope below a count that has at most five digits can be written, and is in range
scope_written : (labels n : ℕ) (k : Content) (v w : ℕ) → is_scope k ≡ true → n ≤ 99999 → v < n → (field_formed k v w ≡ true) × (content_in_range labels n k v ≡ true)
unfolding is_scope field_formed content_in_range
scope_written labels n state v w s m h = absurd (false≢true s)
scope_written labels n scope v w s m h = (le-leb v 99999 (omega arith), lt-ltb v n h)
scope_written labels n mark v w s m h = absurd (false≢true s)
scope_written labels n count v w s m h = absurd (false≢true s)
scope_written labels n letter v w s m h = absurd (false≢true s)
scope_written labels n label v w s m h = absurd (false≢true s)
scope_written labels n end v w s m h = absurd (false≢true s)
scope_written labels n name v w s m h = absurd (false≢true s)
scope_written labels n kind v w s m h = absurd (false≢true s)
scope_written labels n plain v w s m h = absurd (false≢true s)
scope_written labels n turn v w s m h = absurd (false≢true s)

-- a field of one value does not look at the next
one_value : (k : Content) (v w u : ℕ) → eqb (values_of k) 1 ≡ true → field_formed k v w ≡ field_formed k v u
unfolding field_formed values_of
one_value state v w u e = refl
one_value scope v w u e = refl
one_value mark v w u e = refl
one_value count v w u e = refl
one_value letter v w u e = refl
one_value label v w u e = refl
one_value end v w u e = refl
one_value name v w u e = absurd (false≢true e)
one_value kind v w u e = refl
one_value plain v w u e = refl
one_value turn v w u e = refl

-- a scope's place is not spared
scope_spared : (k : Content) (c : ℕ) → is_scope k ≡ true → spares_place c (field k c) ≡ false
unfolding is_scope spares_place values_of
scope_spared state c s = absurd (false≢true s)
scope_spared scope c s = rw (le-ltb c c (omega arith), lt-leb (c + 1) c (omega arith))
scope_spared mark c s = absurd (false≢true s)
scope_spared count c s = absurd (false≢true s)
scope_spared letter c s = absurd (false≢true s)
scope_spared label c s = absurd (false≢true s)
scope_spared end c s = absurd (false≢true s)
scope_spared name c s = absurd (false≢true s)
scope_spared kind c s = absurd (false≢true s)
scope_spared plain c s = absurd (false≢true s)
scope_spared turn c s = absurd (false≢true s)

all_spared : (d : ℕ) (items : List Item) → holds_scope items d ≡ true → every_item (spares_place d) items ≡ false
unfolding holds_scope every_item
all_spared d [] s = absurd (false≢true s)
all_spared d (byte b ∷ items) s = rest (spares_place d (byte b)) (all_spared d items s)
  where
    rest : (t : Bool) → every_item (spares_place d) items ≡ false → (t && every_item (spares_place d) items) ≡ false
    rest true e = e
    rest false e = refl
all_spared d (field k c ∷ items) s =
    ⊎_elim (λ (e : (is_scope k && eqb c d) ≡ true).
    let here : spares_place d (field k c) ≡ false =
    ap (λ (j : ℕ). spares_place j (field k c)) (sym (eqb-true c d (and_right (is_scope k) (eqb c d) e))) ∙ scope_spared k c (and_left (is_scope k) (eqb c d) e) in
    rw here)
    (λ (e : holds_scope items d ≡ true). rest (spares_place d (field k c)) (all_spared d items e))
    (or_cases (is_scope k && eqb c d) (holds_scope items d) s)
  where
    rest : (t : Bool) → every_item (spares_place d) items ≡ false → (t && every_item (spares_place d) items) ≡ false
    rest true e = e
    rest false e = refl

-- a scope's own field holds one
own_scope : (k : Content) (c : ℕ) (items : List Item) → is_scope k ≡ true → holds_scope (field k c ∷ items) c ≡ true
unfolding holds_scope
own_scope k c items s = or_left (is_scope k && eqb c c) (holds_scope items c) (and_both (is_scope k) (eqb c c) s (eq-eqb c c refl))

held_later : (i : Item) (items : List Item) (c : ℕ) → holds_scope items c ≡ true → holds_scope (i ∷ items) c ≡ true
unfolding holds_scope
held_later (byte b) items c s = s
held_later (field k d) items c s = or_right (is_scope k && eqb d c) (holds_scope items c) s

module _ (n : ℕ) (f b : ℕ → ℕ) (r : Renumbers n f b) (few : n ≤ 99999) (labels : ℕ) (items : List Item) (row : Row) (i : in_range labels n items row ≡ true) where
  abbrev new : Row
  new = row_under f items row

  -- one field, of those that the whole line has
  field_stays : (k : Content) (c : ℕ) → (is_scope k ≡ true → holds_scope items c ≡ true) → clear items (field k c) ≡ true
      → field_formed k (value row c) (value row (c + 1)) ≡ true → content_in_range labels n k (value row c) ≡ true
      → (field_formed k (value new c) (value new (c + 1)) ≡ true) × (content_in_range labels n k (value new c) ≡ true)
  unfolding clear
  field_stays k c own clean formed range =
      ⊎_elim (λ (s : is_scope k ≡ true). scope_written labels n k (value new c) (value new (c + 1)) s few (new_in_range n f b r labels items row i c (own s)))
      (λ (s : (not (holds_scope items c) && (eqb (values_of k) 1 || not (holds_scope items (c + 1)))) ≡ true).
      let first : value new c ≡ value row c = value_stays f items row c (not_is (holds_scope items c) (and_left (not (holds_scope items c)) _ s)) in
      let formed-too : field_formed k (value new c) (value new (c + 1)) ≡ true =
      ⊎_elim (λ (o : eqb (values_of k) 1 ≡ true). one_value k (value new c) (value new (c + 1)) (value row (c + 1)) o ∙ ap (λ (v : ℕ). field_formed k v (value row (c + 1))) first ∙ formed)
      (λ (o : not (holds_scope items (c + 1)) ≡ true).
      ap (λ (v : ℕ). field_formed k v (value new (c + 1))) first ∙ ap (λ (v : ℕ). field_formed k (value row c) v) (value_stays f items row (c + 1) (not_is (holds_scope items (c + 1)) o)) ∙ formed)
      (or_cases (eqb (values_of k) 1) (not (holds_scope items (c + 1))) (and_right (not (holds_scope items c)) _ s)) in
      (formed-too, ap (λ (v : ℕ). content_in_range labels n k v) first ∙ range))
      (or_cases (is_scope k) _ clean)

  -- all of them, from the front of what is left of the line
  fields_stay : (left : List Item) → ((c : ℕ) → holds_scope left c ≡ true → holds_scope items c ≡ true) → every_item (clear items) left ≡ true
      → every_item (item_formed row) left ≡ true → every_item (item_in_range labels n row) left ≡ true
      → (every_item (item_formed new) left ≡ true) × (every_item (item_in_range labels n new) left ≡ true)
  unfolding every_item item_formed item_in_range
  fields_stay [] held clean formed range = (refl, refl)
  fields_stay (byte x ∷ left) held clean formed range =
      fields_stay left (λ c s. held c (held_later (byte x) left c s)) (and_right (clear items (byte x)) _ clean) formed range
  fields_stay (field k c ∷ left) held clean formed range =
      let one = field_stays k c (λ s. held c (own_scope k c left s)) (and_left (clear items (field k c)) _ clean)
      (and_left (field_formed k (value row c) (value row (c + 1))) _ formed) (and_left (content_in_range labels n k (value row c)) _ range) in
      let more = fields_stay left (λ d s. held d (held_later (field k c) left d s)) (and_right (clear items (field k c)) _ clean)
      (and_right (field_formed k (value row c) (value row (c + 1))) _ formed) (and_right (content_in_range labels n k (value row c)) _ range) in
      (and_both _ _ one.0 more.0, and_both _ _ one.1 more.1)

  -- places that no field fills stay as they are
  idle_stays : (d : ℕ) → idle_zero items row d ≡ true → idle_zero items new d ≡ true
  unfolding idle_zero
  idle_stays d z =
      ⊎_elim (λ (s : holds_scope items d ≡ true). rw (all_spared d items s))
      (λ (s : holds_scope items d ≡ false). ap (λ (v : ℕ). not (every_item (spares_place d) items) || eqb v 0) (value_stays f items row d s) ∙ z)
      (Two (holds_scope items d))

  idles_stay : idle_zeros items row ≡ true → idle_zeros items new ≡ true
  unfolding idle_zeros
  idles_stay z =
      let a = and_right (idle_zero items row 0) _ z in
      let b = and_right (idle_zero items row 1) _ a in
      let c = and_right (idle_zero items row 2) _ b in
      and_both _ _ (idle_stays 0 (and_left (idle_zero items row 0) _ z))
      (and_both _ _ (idle_stays 1 (and_left (idle_zero items row 1) _ a))
      (and_both _ _ (idle_stays 2 (and_left (idle_zero items row 2) _ b))
      (and_both _ _ (idle_stays 3 (and_left (idle_zero items row 3) _ c)) (idle_stays 4 (and_right (idle_zero items row 3) _ c)))))

pub row_formed : (n : ℕ) (f b : ℕ → ℕ) → Renumbers n f b → n ≤ 99999 → (labels form k : ℕ) (row : Row) → FormedRow labels n (shape_at form k).row row
    → FormedRow labels n (shape_at form k).row (row_under f (shape_at form k).row row)
unfolding formed in_range
row_formed n f b r few labels form k row t =
    let items : List Item = (shape_at form k).row in
    let both = fields_stay n f b r few labels (shape_at form k).row row t.in_range (shape_at form k).row (λ c s. s) (shape_clear form k)
    (and_left (every_item (item_formed row) (shape_at form k).row) _ t.formed) t.in_range in
    record {
      five = under_length f (shape_at form k).row row ∙ t.five;
      formed = and_both _ _ both.0 (idles_stay n f b r few labels (shape_at form k).row row t.in_range (and_right (every_item (item_formed row) (shape_at form k).row) _ t.formed));
      in_range = both.1;
    }
