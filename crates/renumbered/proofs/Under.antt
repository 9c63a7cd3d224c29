-- Rows under other numbers, value by value: what a renumbering of the numbers below n does to
-- values in range and to keys. Assumes nothing.
use Prim.Native.Nat.{ℕ, zero, suc, ◌+◌, ◌≤◌, ◌<◌}
use mathlib.Core.Path.{◌≡◌, refl, sym, ap, subst, ◌∙◌}
use mathlib.Core.List.{List, [], ◌∷◌}
use mathlib.Core.Bool.{true, false, ◌&&◌, false≢true}
use mathlib.Core.Logic.{⊎_elim}
use native.Mathlib.Omega.{arith}
use borrow.Author.Tests.{eqb-true, eqb-false, eq-eqb, ne_eqb, ltb-true}
use lib.Dec.{eqb}
use lib.ListN.{length, get_or, get_or-eq_default}
use lib.Seq.{ext_get_or}
use Rattle.scope_graph.specs.Renamed.{Renumbers}
use Rattle.scope_graph.proofs.Lists.{Two, and_left, and_right, or_cases}
use Rattle.graph_table.proofs.Tests.{below_or}
use Rattle.graph_rows.specs.Format.{Content, state, scope, mark, count, letter, label, end, name, kind, plain, turn, Item, byte, field, every_item}
use Rattle.graph_rows.specs.Admission.{Row, value, content_in_range, item_in_range, in_range, same_source, same_edge}
use Rattle.graph_change.specs.Place.{same_key}
use Rattle.renumbered.specs.Renumbered.{is_scope, holds_scope, value_under, values_under, row_under}
use Rattle.renumbered.proofs.Rows.{under_length}

-- a value of the row under f
values_at : (f : ℕ → ℕ) (items : List Item) (d : ℕ) (row : Row) (i : ℕ) → i < length row
    → get_or (values_under f items d row) i 0 ≡ value_under f (holds_scope items (d + i)) (get_or row i 0)
unfolding values_under
values_at f items d [] i h = absurd (omega arith)
values_at f items d (v ∷ row) zero h = let e : d ≡ d + 0 = omega arith in ap (λ (j : ℕ). value_under f (holds_scope items j) v) e
values_at f items d (v ∷ row) (suc i) h =
    let e : suc d + i ≡ d + suc i = omega arith in
    values_at f items (suc d) row i (omega arith) ∙ ap (λ (j : ℕ). value_under f (holds_scope items j) (get_or row i 0)) e

module _ (f : ℕ → ℕ) (items : List Item) (row : Row) (c : ℕ) where
  pub value_under_lem : c < length row → value (row_under f items row) c ≡ value_under f (holds_scope items c) (value row c)
  unfolding row_under
  value_under_lem h = let e : 0 + c ≡ c = omega arith in values_at f items 0 row c h ∙ ap (λ (j : ℕ). value_under f (holds_scope items j) (get_or row c 0)) e

  past_end : length row ≤ c → (value (row_under f items row) c ≡ 0) × (value row c ≡ 0)
  past_end h = (get_or-eq_default (row_under f items row) 0 {n = c} (rw (under_length f items row) h), get_or-eq_default row 0 {n = c} h)

  value_new : c < length row → holds_scope items c ≡ true → value (row_under f items row) c ≡ f (value row c)
  unfolding value_under
  value_new h s = value_under_lem h ∙ rw s

  -- one that is no scope stays
  pub value_stays : holds_scope items c ≡ false → value (row_under f items row) c ≡ value row c
  unfolding value_under
  value_stays n =
      ⊎_elim (λ (h : c < length row). value_under_lem h ∙ rw n) (λ (h : length row ≤ c). (past_end h).0 ∙ sym (past_end h).1) (below_or c (length row))

-- A scope of a row in range is below the count.
is_scope_lem : (labels n v : ℕ) (k : Content) → is_scope k ≡ true → content_in_range labels n k v ≡ true → v < n
unfolding is_scope content_in_range
is_scope_lem labels n v state s h = absurd (false≢true s)
is_scope_lem labels n v scope s h = ltb-true v n h
is_scope_lem labels n v mark s h = absurd (false≢true s)
is_scope_lem labels n v count s h = absurd (false≢true s)
is_scope_lem labels n v letter s h = absurd (false≢true s)
is_scope_lem labels n v label s h = absurd (false≢true s)
is_scope_lem labels n v end s h = absurd (false≢true s)
is_scope_lem labels n v name s h = absurd (false≢true s)
is_scope_lem labels n v kind s h = absurd (false≢true s)
is_scope_lem labels n v plain s h = absurd (false≢true s)
is_scope_lem labels n v turn s h = absurd (false≢true s)

every_scope : (labels n : ℕ) (row : Row) (c : ℕ) (items : List Item) → every_item (item_in_range labels n row) items ≡ true → holds_scope items c ≡ true → value row c < n
unfolding holds_scope every_item item_in_range
every_scope labels n row c [] r s = absurd (false≢true s)
every_scope labels n row c (byte b ∷ items) r s = every_scope labels n row c items r s
every_scope labels n row c (field k d ∷ items) r s =
    ⊎_elim (λ (e : (is_scope k && eqb d c) ≡ true).
    subst (λ (j : ℕ). value row j < n) (eqb-true d c (and_right (is_scope k) (eqb d c) e))
    (is_scope_lem labels n (value row d) k (and_left (is_scope k) (eqb d c) e) (and_left (content_in_range labels n k (value row d)) _ r)))
    (λ (e : holds_scope items c ≡ true). every_scope labels n row c items (and_right (content_in_range labels n k (value row d)) _ r) e)
    (or_cases (is_scope k && eqb d c) (holds_scope items c) s)

pub scope_in_range : (labels n : ℕ) (items : List Item) (row : Row) (c : ℕ) → in_range labels n items row ≡ true → holds_scope items c ≡ true → value row c < n
unfolding in_range
scope_in_range labels n items row c r s = every_scope labels n row c items r s

-- Of a renumbering.
module _ (n : ℕ) (f b : ℕ → ℕ) (r : Renumbers n f b) where
  same_number : (x y : ℕ) → x < n → y < n → eqb (f x) (f y) ≡ eqb x y
  same_number x y h k =
      ⊎_elim (λ (e : eqb x y ≡ true). eq-eqb (f x) (f y) (ap f (eqb-true x y e)) ∙ sym e)
      (λ (e : eqb x y ≡ false). ne_eqb (f x) (f y) (λ z. eqb-false x y e (sym (r.back x h) ∙ ap b z ∙ r.back y k)) ∙ sym e)
      (Two (eqb x y))

  module _ (labels : ℕ) (items : List Item) where
    -- a scope's new number is below the count too
    pub new_in_range : (row : Row) → in_range labels n items row ≡ true → (c : ℕ) → holds_scope items c ≡ true → value (row_under f items row) c < n
    new_in_range row i c s =
        let old = scope_in_range labels n items row c i s in
        ⊎_elim (λ (h : c < length row). subst (λ (v : ℕ). v < n) (sym (value_new f items row c h s)) (r.new_below (value row c) old))
        (λ (h : length row ≤ c). let p = past_end f items row c h in subst (λ (v : ℕ). v < n) (p.1 ∙ sym p.0) old)
        (below_or c (length row))

    -- two rows in range have the same value at a place exactly if they had
    module _ (x y : Row) (long : length x ≡ length y) (in-x : in_range labels n items x ≡ true) (in-y : in_range labels n items y ≡ true) where
      pub same_value : (c : ℕ) → eqb (value (row_under f items x) c) (value (row_under f items y) c) ≡ eqb (value x c) (value y c)
      same_value c =
          ⊎_elim (λ (s : holds_scope items c ≡ true).
          let u = scope_in_range labels n items x c in-x s in
          let v = scope_in_range labels n items y c in-y s in
          ⊎_elim (λ (h : c < length x).
          let k : c < length y = omega arith in
          rw (value_new f items x c h s, value_new f items y c k s) (same_number (value x c) (value y c) u v))
          (λ (h : length x ≤ c).
          let p = past_end f items x c h in
          let q = past_end f items y c (omega arith) in
          rw (p.0, p.1, q.0, q.1))
          (below_or c (length x)))
          (λ (s : holds_scope items c ≡ false). rw (value_stays f items x c s, value_stays f items y c s))
          (Two (holds_scope items c))

      pub same_key_lem : (key : List ℕ) → same_key key (row_under f items x) (row_under f items y) ≡ same_key key x y
      unfolding same_key
      same_key_lem [] = refl
      same_key_lem (c ∷ key) = rw (same_value c, same_key_lem key)

      pub same_edge_lem : same_edge (row_under f items x) (row_under f items y) ≡ same_edge x y
      unfolding same_edge same_source
      same_edge_lem = rw (same_value 0, same_value 1, same_value 2)

-- The way back of a row: g takes each number below n back.
module _ (n : ℕ) (f g : ℕ → ℕ) (back : (x : ℕ) → x < n → g (f x) ≡ x) (labels : ℕ) (items : List Item) (row : Row) (i : in_range labels n items row ≡ true) where
  value_back : (c : ℕ) → c < length row → value_under g (holds_scope items c) (value_under f (holds_scope items c) (value row c)) ≡ value row c
  unfolding value_under
  value_back c h =
      ⊎_elim (λ (s : holds_scope items c ≡ true). rw s (back (value row c) (scope_in_range labels n items row c i s)))
      (λ (s : holds_scope items c ≡ false). rw s) (Two (holds_scope items c))

  pub row_back : row_under g items (row_under f items row) ≡ row
  row_back =
      let one = under_length f items row in
      let two = under_length g items (row_under f items row) in
      ext_get_or 0 (row_under g items (row_under f items row)) row (two ∙ one)
      (λ c h.
      let k : c < length row = omega arith in
      let m : c < length (row_under f items row) = omega arith in
      value_under_lem g items (row_under f items row) c m ∙ ap (value_under g (holds_scope items c)) (value_under_lem f items row c k) ∙ value_back c k)
