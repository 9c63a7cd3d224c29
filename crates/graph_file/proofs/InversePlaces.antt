-- Values put at their places in a row. Assumes nothing.
use Prim.Native.Nat.{ℕ, zero, suc, ◌+◌, ◌≤◌, ◌<◌}
use mathlib.Core.Path.{◌≡◌, refl, sym, ap, ◌∙◌}
use mathlib.Core.List.{List, [], ◌∷◌}
use mathlib.Core.Bool.{Bool, true, false, ◌&&◌, ◌||◌}
use native.Mathlib.Omega.{arith}
use lib.Dec.{leb, ltb}
use lib.ListN.{length, get_or, take, set, length-set}
use lib.Seq.{sets, length-sets, get_or-set_same, get_or-set_other, ext_get_or}
use borrow.Author.Tests.{ltb-true, ltb-false, leb-true, leb-false, eqb-true, eq-eqb}
use Rattle.text_field.proofs.ByteLaws.{both, clash}
use Rattle.graph_rows.specs.Format.{Content, state, scope, mark, count, letter, label, end, name, kind, plain, turn, Item, byte, field, values_of, every_item}
use Rattle.graph_rows.specs.Admission.{Row, value, blank}
use Rattle.graph_file.specs.Line.{place_of}
use Rattle.graph_rows.specs.Values.{spares_place, idle_zero, idle_zeros}
use Rattle.graph_file.proofs.InverseTable.{last_place, clear, orderly, field_clear}

-- a field has one value or two
pub values_some : (k : Content) → (1 ≤ values_of k) × (values_of k ≤ 2)
unfolding values_of
values_some state = (omega arith, omega arith)
values_some scope = (omega arith, omega arith)
values_some mark = (omega arith, omega arith)
values_some count = (omega arith, omega arith)
values_some letter = (omega arith, omega arith)
values_some label = (omega arith, omega arith)
values_some end = (omega arith, omega arith)
values_some name = (omega arith, omega arith)
values_some kind = (omega arith, omega arith)
values_some plain = (omega arith, omega arith)
values_some turn = (omega arith, omega arith)

sets_below : (vs l : List ℕ) (i j : ℕ) → j < i → get_or (sets l i vs) j 0 ≡ get_or l j 0
sets_below [] l i j h = refl
sets_below (v ∷ vs) l i j h = sets_below vs (set l i v) (suc i) j (omega arith) ∙ get_or-set_other l i j v 0 (λ e. omega arith)

sets_past : (vs l : List ℕ) (i j : ℕ) → i + length vs ≤ j → get_or (sets l i vs) j 0 ≡ get_or l j 0
sets_past [] l i j h = refl
sets_past (v ∷ vs) l i j h = sets_past vs (set l i v) (suc i) j (omega arith) ∙ get_or-set_other l i j v 0 (λ e. omega arith)

sets_first : (vs l : List ℕ) (i : ℕ) → 1 ≤ length vs → i < length l → get_or (sets l i vs) i 0 ≡ get_or vs 0 0
sets_first [] l i h g = absurd (omega arith)
sets_first (v ∷ vs) l i h g = sets_below vs (set l i v) (suc i) i (omega arith) ∙ get_or-set_same l i v 0 g

sets_second : (vs l : List ℕ) (i : ℕ) → 2 ≤ length vs → suc i < length l → get_or (sets l i vs) (suc i) 0 ≡ get_or vs 1 0
sets_second [] l i h g = absurd (omega arith)
sets_second (v ∷ vs) l i h g = sets_first vs (set l i v) (suc i) (omega arith) (rw (length-set l i v) g)

-- what a place holds after a field's values are put
pub record Put (k : Content) (c : ℕ) (acc row : Row) (vs : List ℕ) : Type 0 where
  pub five : length row ≡ 5
  pub at : value row c ≡ get_or vs 0 0
  pub next : values_of k ≡ 2 → value row (c + 1) ≡ get_or vs 1 0
  pub others : (d : ℕ) → spares_place d (field k c) ≡ true → value row d ≡ value acc d

pub put_values : (k : Content) (c : ℕ) (acc : Row) (vs : List ℕ) → length acc ≡ 5 → length vs ≡ values_of k → last_place k c < 5
    → Put k c acc (sets acc c vs) vs
unfolding last_place spares_place
put_values k c acc vs h n l =
    let b = values_some k
    in record {
      five = length-sets acc c vs ∙ h;
      at = sets_first vs acc c (omega arith) (omega arith);
      next = λ t. let e : c + 1 ≡ suc c = omega arith in rw e (sets_second vs acc c (omega arith) (omega arith));
      others = λ d s. by d (ltb d c) refl (leb (c + values_of k) d) refl s;
    }
  where
    by : (d : ℕ) (t : Bool) → ltb d c ≡ t → (u : Bool) → leb (c + values_of k) d ≡ u → (t || u) ≡ true → value (sets acc c vs) d ≡ value acc d
    by d true e u f s = sets_below vs acc c d (ltb-true d c e)
    by d false e true f s = let g = leb-true (c + values_of k) d f in sets_past vs acc c d (omega arith)
    by d false e false f s = absurd (clash s refl)

-- the values that an item has in a row
unfoldable pub item_values : Row → Item → List ℕ
item_values row (byte b) = []
item_values row (field k c) = take (values_of k) (value row c ∷ value row (c + 1) ∷ [])

-- the row that the items' values are put into, one after the other
unfoldable pub filled : List Item → Row → Row → Row
filled [] row acc = acc
filled (i ∷ items) row acc = filled items row (sets acc (place_of i) (item_values row i))

pub filled_five : (items : List Item) (row acc : Row) → length acc ≡ 5 → length (filled items row acc) ≡ 5
unfolding filled
filled_five [] row acc h = h
filled_five (i ∷ items) row acc h = filled_five items row (sets acc (place_of i) (item_values row i)) (length-sets acc (place_of i) (item_values row i) ∙ h)

taken_values : (n v w : ℕ) → 1 ≤ n → n ≤ 2
    → (length (take n (v ∷ w ∷ [])) ≡ n) × (get_or (take n (v ∷ w ∷ [])) 0 0 ≡ v) × (n ≡ 2 → get_or (take n (v ∷ w ∷ [])) 1 0 ≡ w)
taken_values zero v w h g = absurd (omega arith)
taken_values (suc zero) v w h g = (refl, refl, λ e. absurd (omega arith))
taken_values (suc (suc zero)) v w h g = (refl, refl, λ e. refl)
taken_values (suc (suc (suc n))) v w h g = absurd (omega arith)

-- a field's own places hold the row's values after it is put
own_places : (k : Content) (c : ℕ) (row acc : Row) (d : ℕ) → length acc ≡ 5 → last_place k c < 5 → spares_place d (field k c) ≡ false
    → value (sets acc c (take (values_of k) (value row c ∷ value row (c + 1) ∷ []))) d ≡ value row d
unfolding spares_place
own_places k c row acc d h l s =
    let b = values_some k
    in let t = taken_values (values_of k) (value row c) (value row (c + 1)) b.0 b.1
    in let p = put_values k c acc (take (values_of k) (value row c ∷ value row (c + 1) ∷ [])) h t.0 l
    in by (ltb d c) refl (leb (c + values_of k) d) refl s (ltb c d) refl (p.at ∙ t.1) (λ e. p.next e ∙ t.2 e)
  where
    placed : Row
    placed = sets acc c (take (values_of k) (value row c ∷ value row (c + 1) ∷ []))

    by : (t : Bool) → ltb d c ≡ t → (u : Bool) → leb (c + values_of k) d ≡ u → (t || u) ≡ false → (x : Bool) → ltb c d ≡ x
        → value placed c ≡ value row c → (values_of k ≡ 2 → value placed (c + 1) ≡ value row (c + 1)) → value placed d ≡ value row d
    by true e u f g x y at next = absurd (clash refl g)
    by false e true f g x y at next = absurd (clash refl g)
    by false e false f g true y at next =
        let b = values_some k
        in let m = ltb-true c d y
        in let n = leb-false (c + values_of k) d f
        in let z : c + 1 ≡ d = omega arith
        in ap (value placed) (sym z) ∙ next (omega arith) ∙ ap (value row) z
    by false e false f g false y at next =
        let z : c ≡ d = omega (arith, ltb-false d c e, ltb-false c d y)
        in ap (value placed) (sym z) ∙ at ∙ ap (value row) z

-- a place holds the row's value in the end if it did before, or if some item fills it
filled_at : (items : List Item) (row acc : Row) (d : ℕ) → length acc ≡ 5 → orderly items ≡ true
    → (every_item (spares_place d) items ≡ true → value acc d ≡ value row d) → value (filled items row acc) d ≡ value row d
unfolding filled orderly every_item item_values place_of
filled_at [] row acc d h o s = s refl
filled_at (byte b ∷ items) row acc d h o s = filled_at items row acc d h (both (clear (byte b) items) (orderly items) o).1 (unfold spares_place in s)
filled_at (field k c ∷ items) row acc d h o s =
    let p = both (clear (field k c) items) (orderly items) o
    in let l = (field_clear k c items p.0).inside
    in filled_at items row (sets acc c (item_values row (field k c))) d (length-sets acc c (item_values row (field k c)) ∙ h) p.1 (λ e. by (spares_place d (field k c)) refl l e)
  where
    by : (t : Bool) → spares_place d (field k c) ≡ t → last_place k c < 5 → every_item (spares_place d) items ≡ true
        → value (sets acc c (item_values row (field k c))) d ≡ value row d
    by true t l e =
        let b = values_some k
        in let q = put_values k c acc (item_values row (field k c)) h (taken_values (values_of k) (value row c) (value row (c + 1)) b.0 b.1).0 l
        in q.others d t ∙ s (rw (t, e))
    by false t l e = own_places k c row acc d h l t

-- a place that every item leaves alone holds 0
idle_zero_lem : (items : List Item) (row : Row) (d : ℕ) → idle_zero items row d ≡ true → every_item (spares_place d) items ≡ true → value row d ≡ 0
unfolding idle_zero
idle_zero_lem items row d h s = eqb-true (value row d) 0 (rw s at h)

idle_in : (items : List Item) (row : Row) (d : ℕ) → (every_item (spares_place d) items ≡ true → value row d ≡ 0) → idle_zero items row d ≡ true
unfolding idle_zero
idle_in items row d h = by (every_item (spares_place d) items) refl
  where
    by : (t : Bool) → every_item (spares_place d) items ≡ t → idle_zero items row d ≡ true
    by true e = rw (e, eq-eqb (value row d) 0 (h e))
    by false e = rw e

pub idle_all : (items : List Item) (row : Row) → ((d : ℕ) → every_item (spares_place d) items ≡ true → value row d ≡ 0) → idle_zeros items row ≡ true
unfolding idle_zeros
idle_all items row h = rw (idle_in items row 0 (h 0), idle_in items row 1 (h 1), idle_in items row 2 (h 2), idle_in items row 3 (h 3), idle_in items row 4 (h 4))

pub blank_zero : (d : ℕ) → value blank d ≡ 0
blank_zero zero = refl
blank_zero (suc zero) = refl
blank_zero (suc (suc zero)) = refl
blank_zero (suc (suc (suc zero))) = refl
blank_zero (suc (suc (suc (suc zero)))) = refl
blank_zero (suc (suc (suc (suc (suc d))))) = refl

idles : (items : List Item) (row : Row) → idle_zeros items row ≡ true → (d : ℕ) → d < 5 → idle_zero items row d ≡ true
unfolding idle_zeros
idles items row e d l =
    let one = both (idle_zero items row 0) (idle_zero items row 1 && (idle_zero items row 2 && (idle_zero items row 3 && idle_zero items row 4))) e
    in let two = both (idle_zero items row 1) (idle_zero items row 2 && (idle_zero items row 3 && idle_zero items row 4)) one.1
    in let three = both (idle_zero items row 2) (idle_zero items row 3 && idle_zero items row 4) two.1
    in let four = both (idle_zero items row 3) (idle_zero items row 4) three.1
    in by one.0 two.0 three.0 four.0 four.1 d l
  where
    by : idle_zero items row 0 ≡ true → idle_zero items row 1 ≡ true → idle_zero items row 2 ≡ true → idle_zero items row 3 ≡ true
        → idle_zero items row 4 ≡ true → (d : ℕ) → d < 5 → idle_zero items row d ≡ true
    by a b c f g zero l = a
    by a b c f g (suc zero) l = b
    by a b c f g (suc (suc zero)) l = c
    by a b c f g (suc (suc (suc zero))) l = f
    by a b c f g (suc (suc (suc (suc zero)))) l = g
    by a b c f g (suc (suc (suc (suc (suc d))))) l = absurd (omega arith)

-- the items' values put into the blank row give the row, where it is 0 at all other places
pub filled_row : (items : List Item) (row : Row) → length row ≡ 5 → orderly items ≡ true → idle_zeros items row ≡ true → filled items row blank ≡ row
filled_row items row h o z =
    let f = filled_five items row blank refl
    in ext_get_or 0 (filled items row blank) row (f ∙ sym h) (λ d l. filled_at items row blank d refl o (λ s. blank_zero d ∙ sym (idle_zero_lem items row d (idles items row z d (omega arith)) s)))
