-- The order of packed names is the order of the names. Assumes nothing.
use mathlib.Core.Path.{◌≡◌, refl, sym, ap, ◌∙◌}
use mathlib.Core.Bool.{Bool, true, false}
use mathlib.Core.List.{List, [], ◌∷◌}
use Prim.Native.Nat.{ℕ, zero, suc, ◌+◌, ◌*◌, ◌^◌, ◌≤◌, ◌<◌}
use native.Mathlib.Nat.{mul-le-mul_right}
use native.Mathlib.Omega.{arith}
use lib.Arith.{digits_lt, lt_of_le-ne}
use lib.Dec.{ltb, eqb}
use lib.ListN.{length, drop}
use borrow.Author.Tests.{lt-ltb, le-ltb, ltb-true, ltb-false, ne_eqb, eq-eqb, eqb-true, eqb-false}
use Rattle.text_field.specs.Name.{all_name_bytes, is_name, packed, pack_high, pack_low, name_text, is_name_cells, name_before}
use Rattle.text_field.proofs.ByteLaws.{same_test, name_byte_bounds}
use Rattle.text_field.proofs.NameLaws.{pow_some, all_tail, packed_below, name_form, cells_name}

-- the order of two pairs of cells: by the high ones, and if these are equal by the low ones
unfoldable pub cells_before : ℕ → ℕ → ℕ → ℕ → Bool
cells_before high low high' low' = elim (eqb high high') [ true ↦ ltb low low' | false ↦ ltb high high' ]

module _ (P x a b : ℕ) where
  ltb_same : ltb (x * P + a) (x * P + b) ≡ ltb a b
  ltb_same = same_test (ltb (x * P + a) (x * P + b)) (ltb a b)
      (λ h. let g = ltb-true (x * P + a) (x * P + b) h in lt-ltb a b (omega arith))
      (λ h. let g = ltb-true a b h in lt-ltb (x * P + a) (x * P + b) (omega arith))

  eqb_same : eqb (x * P + a) (x * P + b) ≡ eqb a b
  eqb_same = same_test (eqb (x * P + a) (x * P + b)) (eqb a b)
      (λ h. let g = eqb-true (x * P + a) (x * P + b) h in eq-eqb a b (omega arith))
      (λ h. let g = eqb-true a b h in eq-eqb (x * P + a) (x * P + b) (omega arith))

  -- an equal first byte leaves the order to the rest
  same_first : (l l' : ℕ) → cells_before (x * P + a) l (x * P + b) l' ≡ cells_before a l b l'
  unfolding cells_before
  same_first l l' =
      ap (λ (t : Bool). elim t [ true ↦ ltb l l' | false ↦ ltb (x * P + a) (x * P + b) ]) eqb_same
      ∙ ap (λ (t : Bool). elim (eqb a b) [ true ↦ ltb l l' | false ↦ t ]) ltb_same

module _ (P x y a b l l' : ℕ) (h : a < P) (k : b < P) where
  -- different first bytes decide
  lesser_first : x < y → cells_before (x * P + a) l (y * P + b) l' ≡ true
  unfolding cells_before
  lesser_first g =
      let f : x * P + a < y * P = digits_lt g h
      in rw (ne_eqb (x * P + a) (y * P + b) (λ e. omega arith), lt-ltb (x * P + a) (y * P + b) (omega arith), cells_before)

  greater_first : y < x → cells_before (x * P + a) l (y * P + b) l' ≡ false
  unfolding cells_before
  greater_first g =
      let f : y * P + b < x * P = digits_lt g k
      in rw (ne_eqb (x * P + a) (y * P + b) (λ e. omega arith), le-ltb (x * P + a) (y * P + b) (omega arith), cells_before)

high_only : (a b : ℕ) → ltb a b ≡ cells_before a 0 b 0
unfolding cells_before
high_only a b = by (eqb a b) refl
  where
    by : (e : Bool) → eqb a b ≡ e → ltb a b ≡ cells_before a 0 b 0
    by true e = let i = eqb-true a b e in le-ltb a b (omega arith) ∙ rw (e, cells_before) (sym (le-ltb 0 0 (omega arith)))
    by false e = rw (e, cells_before)

before_step : (x y : ℕ) (s t : List ℕ) → x ≡ y → name_before (x ∷ s) (y ∷ t) ≡ name_before s t
unfolding name_before
before_step x y s t h = rw (eq-eqb x y h, name_before)

before_first : (x y : ℕ) (s t : List ℕ) → (x ≡ y → ⊥) → name_before (x ∷ s) (y ∷ t) ≡ ltb x y
unfolding name_before
before_first x y s t h = rw (ne_eqb x y h, name_before)

-- a byte that is not 0 makes the number not 0
first_some : (k x : ℕ) (s : List ℕ) → 1 ≤ x → 0 < packed (suc k) (x ∷ s)
unfolding packed
first_some k x s h = omega (arith, pow_some k, mul-le-mul_right (256 ^ k) h)

-- the order within the low cell, of k bytes
abbrev Low : ℕ → Type 0
Low k = (s t : List ℕ) → all_name_bytes s ≡ true → all_name_bytes t ≡ true → length s ≤ k → length t ≤ k → ltb (packed k s) (packed k t) ≡ name_before s t

-- and then that of a high cell of j bytes and the low one
cells_order : (j k : ℕ) → Low k → (s t : List ℕ) → all_name_bytes s ≡ true → all_name_bytes t ≡ true → length s ≤ j + k → length t ≤ j + k → cells_before (packed j s) (packed k (drop j s)) (packed j t) (packed k (drop j t)) ≡ name_before s t
unfolding name_before packed cells_before
cells_order zero k low s t h g m n = low s t h g (omega arith) (omega arith)
cells_order (suc j) k low [] [] h g m n = le-ltb (packed k []) (packed k []) (omega arith)
cells_order (suc j) k low [] (y ∷ t) h g m n =
    let p = first_some j y t (name_byte_bounds y (all_tail y t g).0).0
    in rw (ne_eqb 0 (packed (suc j) (y ∷ t)) (λ e. omega arith), lt-ltb 0 (packed (suc j) (y ∷ t)) p, cells_before)
cells_order (suc j) k low (x ∷ s) [] h g m n =
    let p = first_some j x s (name_byte_bounds x (all_tail x s h).0).0
    in rw (ne_eqb (packed (suc j) (x ∷ s)) 0 (λ e. omega arith), le-ltb (packed (suc j) (x ∷ s)) 0 (omega arith), cells_before)
cells_order (suc j) k low (x ∷ s) (y ∷ t) h g m n = by (eqb x y) refl (ltb x y) refl (cells_order j k low s t (all_tail x s h).1 (all_tail y t g).1 (omega arith) (omega arith))
  where
    by : (e : Bool) → eqb x y ≡ e → (l : Bool) → ltb x y ≡ l → cells_before (packed j s) (packed k (drop j s)) (packed j t) (packed k (drop j t)) ≡ name_before s t → cells_before (packed (suc j) (x ∷ s)) (packed k (drop j s)) (packed (suc j) (y ∷ t)) (packed k (drop j t)) ≡ name_before (x ∷ s) (y ∷ t)
    by true e l f rest =
        let i = eqb-true x y e
        in ap (λ (z : ℕ). cells_before (packed (suc j) (x ∷ s)) (packed k (drop j s)) (packed (suc j) (z ∷ t)) (packed k (drop j t))) (sym i)
        ∙ same_first (256 ^ j) x (packed j s) (packed j t) (packed k (drop j s)) (packed k (drop j t))
        ∙ rest
        ∙ sym (before_step x y s t i)
    by false e true f rest =
        lesser_first (256 ^ j) x y (packed j s) (packed j t) (packed k (drop j s)) (packed k (drop j t)) (packed_below j s (all_tail x s h).1) (packed_below j t (all_tail y t g).1) (ltb-true x y f)
        ∙ sym (before_first x y s t (eqb-false x y e) ∙ f)
    by false e false f rest =
        let i = eqb-false x y e
        in let o = ltb-false x y f
        in greater_first (256 ^ j) x y (packed j s) (packed j t) (packed k (drop j s)) (packed k (drop j t)) (packed_below j s (all_tail x s h).1) (packed_below j t (all_tail y t g).1) (lt_of_le-ne o (λ q. i (sym q)))
        ∙ sym (before_first x y s t i ∙ f)

-- with no low cell the high one alone decides
alone : (k : ℕ) → Low k
unfolding packed name_before
alone k s t h g m n = high_only (packed k s) (packed k t) ∙ cells_order k 0 none s t h g (omega arith) (omega arith)
  where
    none : Low 0
    none [] [] h g m n = refl
    none [] (y ∷ t) h g m n = absurd (omega arith)
    none (x ∷ s) t h g m n = absurd (omega arith)

-- packed names stand in order exactly as the names do, bytewise and a prefix first
pub names_order : (s t : List ℕ) → is_name s ≡ true → is_name t ≡ true → cells_before (pack_high s) (pack_low s) (pack_high t) (pack_low t) ≡ name_before s t
unfolding pack_high pack_low
names_order s t h g =
    let f = name_form s h
    in let i = name_form t g
    in cells_order 8 8 (alone 8) s t f.bytes i.bytes f.most i.most

-- cells that are names' packings stand in order exactly as the names they spell do
pub cells_ordered : (high low high' low' : ℕ) → is_name_cells high low ≡ true → is_name_cells high' low' ≡ true → cells_before high low high' low' ≡ name_before (name_text high low) (name_text high' low')
cells_ordered high low high' low' h k =
    let f = cells_name high low h
    in let g = cells_name high' low' k
    in sym (rw (f.high_is, f.low_is, g.high_is, g.low_is) at (sym (names_order (name_text high low) (name_text high' low') f.name g.name)))
