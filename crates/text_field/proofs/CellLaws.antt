-- Cells and their bytes, as code goes through them. Assumes nothing.
use mathlib.Core.Path.{◌≡◌, refl, sym, ap, ◌∙◌}
use mathlib.Core.Bool.{Bool, true, false}
use mathlib.Core.List.{List, [], ◌∷◌, ◌++◌, append_assoc}
use Prim.Native.Nat.{ℕ, min, zero, suc, ◌+◌, ◌*◌, ◌/◌, ◌%◌, ◌^◌, ◌≤◌, ◌<◌}
use native.Mathlib.Nat.{pow-suc, mul_assoc, mod-lt, div-add-mod'}
use native.Mathlib.Omega.{arith}
use lib.Arith.{digits_lt, digits_div, digits_mod}
use lib.Dec.{ltb, eqb}
use lib.ListN.{length, get_or, take, drop, replicate, get_or-replicate, length-append, drop_of_length-le, get_or-eq_default}
use lib.Seq.{drop-cons}
use Rattle.std.proofs.lemmas.List.{places}
use borrow.Rule.Slice.PartMut.{put_mid}
use borrow.Author.Tests.{ltb-true, ltb-false}
use Rattle.std.specs.Int.{from_be_bytes, w64}
use Rattle.text_field.specs.Name.{packed, bytes_of, before_zero, name_text}
use Rattle.text_field.proofs.NameLaws.{pow_some, packed_nil, before_on}

-- the k elements from place i on, 0 past the end
unfoldable pub bytes_from : List ℕ → ℕ → ℕ → List ℕ
bytes_from s i zero = []
bytes_from s i (suc k) = get_or s i 0 ∷ bytes_from s (suc i) k

-- they pack as the list from there on does
pub packed_from : (k : ℕ) (s : List ℕ) (i : ℕ) → packed k (bytes_from s i k) ≡ packed k (drop i s)
unfolding packed bytes_from
packed_from zero s i = refl
packed_from (suc k) s i = by (ltb i (length s)) refl (packed_from k s (suc i))
  where
    by : (t : Bool) → ltb i (length s) ≡ t → packed k (bytes_from s (suc i) k) ≡ packed k (drop (suc i) s) → packed (suc k) (bytes_from s i (suc k)) ≡ packed (suc k) (drop i s)
    by true t rest = rw (drop-cons s i 0 (ltb-true i (length s) t), rest)
    by false t rest =
        let h = ltb-false i (length s) t
        in let e : packed k (bytes_from s (suc i) k) ≡ 0 = rest ∙ ap (packed k) (drop_of_length-le s {i = suc i} (omega arith)) ∙ packed_nil k
        in rw (get_or-eq_default s 0 {n = i} h, e, drop_of_length-le s {i = i} h) (omega arith)

pub length_bytes : (k x : ℕ) → length (bytes_of k x) ≡ k
unfolding bytes_of
length_bytes zero x = refl
length_bytes (suc k) x = ap suc (length_bytes k (x % 256 ^ k))

length_before : (s : List ℕ) → length (before_zero s) ≤ length s
unfolding before_zero
length_before [] = omega arith
length_before (x ∷ s) = by (eqb x 0) refl (length_before s)
  where
    by : (t : Bool) → eqb x 0 ≡ t → length (before_zero s) ≤ length s → length (before_zero (x ∷ s)) ≤ suc (length s)
    by true t h = rw (t, before_zero) (omega arith)
    by false t h = rw (t, before_zero) (omega arith)

-- whatever the cells hold, they spell at most 16 bytes
pub name_length : (high low : ℕ) → length (name_text high low) ≤ 16
unfolding name_text
name_length high low = omega (arith, length_before (bytes_of 8 high ++ bytes_of 8 low), length-append (bytes_of 8 high) (bytes_of 8 low), length_bytes 8 high, length_bytes 8 low)

-- a number moved up by a byte has that byte more
bytes_moved : (k r c : ℕ) → r < 256 ^ k → c < 256 → bytes_of (suc k) (r * 256 + c) ≡ bytes_of k r ++ (c ∷ [])
unfolding bytes_of
bytes_moved zero r c h g = let e : (r * 256 + c) / 1 ≡ c = omega arith in rw e
bytes_moved (suc k) r c h g =
    let f = div-add-mod' r (256 ^ k)
    in let e : r * 256 + c ≡ r / 256 ^ k * 256 ^ suc k + (r % 256 ^ k * 256 + c) = rw (pow-suc 256 k) (omega (arith, mul_assoc (r / 256 ^ k) (256 ^ k) 256))
    in let l : r % 256 ^ k * 256 + c < 256 ^ suc k = rw (pow-suc 256 k) (digits_lt (mod-lt r (pow_some k)) g)
    in ap (λ (x : ℕ). bytes_of (suc (suc k)) x) e
    ∙ ap (λ (x : ℕ). x ∷ bytes_of (suc k) ((r / 256 ^ k * 256 ^ suc k + (r % 256 ^ k * 256 + c)) % 256 ^ suc k)) (digits_div (r / 256 ^ k) l)
    ∙ ap (λ (x : ℕ). r / 256 ^ k ∷ bytes_of (suc k) x) (digits_mod (r / 256 ^ k) l)
    ∙ ap (λ (x : List ℕ). r / 256 ^ k ∷ x) (bytes_moved k (r % 256 ^ k) c (mod-lt r (pow_some k)) g)

before_end : (s : List ℕ) → before_zero (s ++ (0 ∷ [])) ≡ before_zero s
unfolding before_zero
before_end [] = refl
before_end (x ∷ s) = ap (λ (z : List ℕ). elim (eqb x 0) [ true ↦ [] | false ↦ x ∷ z ]) (before_end s)

moved : (k h l : ℕ) → 1 ≤ h / 256 ^ k → l / 256 ^ k < 256
    → before_zero (bytes_of (suc k) h ++ bytes_of (suc k) l)
    ≡ h / 256 ^ k ∷ before_zero (bytes_of (suc k) (h % 256 ^ k * 256 + l / 256 ^ k) ++ bytes_of (suc k) (l % 256 ^ k * 256))
unfolding bytes_of
moved k h l b c =
    on ∙ ap (λ (z : List ℕ). h / 256 ^ k ∷ z) (sym (before_end (bytes_of k (h % 256 ^ k) ++ (l / 256 ^ k ∷ bytes_of k (l % 256 ^ k)))) ∙ ap before_zero (sym both))
  where
    on : before_zero (bytes_of (suc k) h ++ bytes_of (suc k) l) ≡ h / 256 ^ k ∷ before_zero (bytes_of k (h % 256 ^ k) ++ (l / 256 ^ k ∷ bytes_of k (l % 256 ^ k)))
    on = before_on (h / 256 ^ k) (bytes_of k (h % 256 ^ k) ++ (l / 256 ^ k ∷ bytes_of k (l % 256 ^ k))) b

    both : bytes_of (suc k) (h % 256 ^ k * 256 + l / 256 ^ k) ++ bytes_of (suc k) (l % 256 ^ k * 256) ≡ (bytes_of k (h % 256 ^ k) ++ (l / 256 ^ k ∷ bytes_of k (l % 256 ^ k))) ++ (0 ∷ [])
    both =
        let z : l % 256 ^ k * 256 ≡ l % 256 ^ k * 256 + 0 = omega arith
        in ap (λ (u : List ℕ). u ++ bytes_of (suc k) (l % 256 ^ k * 256)) (bytes_moved k (h % 256 ^ k) (l / 256 ^ k) (mod-lt h (pow_some k)) c)
        ∙ ap (λ (u : ℕ). (bytes_of k (h % 256 ^ k) ++ (l / 256 ^ k ∷ [])) ++ bytes_of (suc k) u) z
        ∙ ap (λ (u : List ℕ). (bytes_of k (h % 256 ^ k) ++ (l / 256 ^ k ∷ [])) ++ u) (bytes_moved k (l % 256 ^ k) 0 (mod-lt l (pow_some k)) (omega arith))
        ∙ append_assoc (bytes_of k (h % 256 ^ k)) (l / 256 ^ k ∷ []) (bytes_of k (l % 256 ^ k) ++ (0 ∷ []))
        ∙ sym (append_assoc (bytes_of k (h % 256 ^ k)) (l / 256 ^ k ∷ bytes_of k (l % 256 ^ k)) (0 ∷ []))

-- the first byte a cell holds, and the two cells moved up by it
pub name_end : (high low : ℕ) → high < 72057594037927936 → name_text high low ≡ []
unfolding name_text bytes_of before_zero
name_end high low h = let e : high / 72057594037927936 ≡ 0 = omega arith in rw e

pub name_step : (high low : ℕ) → 72057594037927936 ≤ high → low < 18446744073709551616
    → name_text high low
    ≡ high / 72057594037927936 ∷ name_text (high % 72057594037927936 * 256 + low / 72057594037927936) (low % 72057594037927936 * 256)
unfolding name_text
name_step high low h g = moved 7 high low (omega arith) (omega arith)

-- a cell moved up by a byte stays a cell
pub moved_fits : (x y : ℕ) → y < 18446744073709551616 → x % 72057594037927936 * 256 + y / 72057594037927936 < 18446744073709551616
moved_fits x y h = digits_lt {q = x % 72057594037927936} {m = 72057594037927936} {c = 256} (mod-lt x (omega arith)) (omega arith)

-- eight bytes as a number, big end first
pub packed_eight : (s : List ℕ) → from_be_bytes w64 s ≡ packed 8 s
unfolding packed bytes_from
packed_eight s = let e : from_be_bytes w64 s ≡ packed 8 (bytes_from s 0 8) = omega arith in e ∙ packed_from 8 s 0

-- elements alike, 0 past the end, pack alike
pub packed_alike : (k : ℕ) (s t : List ℕ) → ((i : ℕ) → i < k → get_or s i 0 ≡ get_or t i 0) → packed k s ≡ packed k t
unfolding bytes_from
packed_alike k s t h = sym (packed_from k s 0) ∙ ap (packed k) (alike k 0 (λ i l. h i (omega arith))) ∙ packed_from k t 0
  where
    alike : (n i : ℕ) → ((j : ℕ) → j < i + n → get_or s j 0 ≡ get_or t j 0) → bytes_from s i n ≡ bytes_from t i n
    alike zero i g = refl
    alike (suc n) i g = let e = g i (omega arith) in rw (e, alike n (suc i) (λ j l. g j (omega arith)))

-- the first w elements of a list, put over eight zeros, are the list's, 0 past its end
pub padded : (s front : List ℕ) (w : ℕ) → w ≡ min (length s) 8 → front ≡ take w s → (i : ℕ) → i < 8 → get_or (put_mid 0 w (replicate 8 0) front) i 0 ≡ get_or s i 0
padded s front w m e i l = rw e (grind (arith, places, get_or-replicate, get_or-eq_default))

-- one turn of writing two cells: b is written, the cells are moved up, and one byte less is left
pub record NameTurn (h l b h' l' : ℕ) : Type 0 where
  pub text : name_text h l ≡ b ∷ name_text h' l'
  pub less : length (name_text h' l') < length (name_text h l)
  pub fits : l' < 18446744073709551616

pub name_turn : (h l b h' l' : ℕ) → 72057594037927936 ≤ h → l < 18446744073709551616 → b ≡ h / 72057594037927936 → h' ≡ h % 72057594037927936 * 256 + l / 72057594037927936 → l' ≡ l % 72057594037927936 * 256 + 0 → NameTurn h l b h' l'
name_turn h l b h' l' i j p q r =
    let z : l' ≡ l % 72057594037927936 * 256 = omega arith
    in let e : name_text h l ≡ b ∷ name_text h' l' = name_step h l i j ∙ rw (p, q, z)
    in record { text = e; less = omega (arith, ap length e); fits = rw r (moved_fits l 0 (omega arith)) }
