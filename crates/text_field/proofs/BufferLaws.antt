-- Laws of the lent buffer. Assumes nothing.
use mathlib.Core.Path.{◌≡◌, refl, sym, ap, ◌∙◌}
use mathlib.Core.Bool.{Bool, true, false}
use mathlib.Core.List.{List, [], ◌∷◌, ◌++◌, append-nil}
use Prim.Native.Nat.{ℕ, suc, ◌+◌, ◌-◌, ◌≤◌, ◌<◌}
use native.Mathlib.Nat.{add-zero, add-suc, suc-add}
use native.Mathlib.Numerals.{add-one}
use native.Mathlib.Omega.{arith}
use lib.Dec.{ltb}
use lib.ListN.{length, set, take, drop, length-set, length-append, take-append-drop}
use lib.Seq.{sets, sets-eq, length-take-le, drop-length}
use borrow.Author.Tests.{lt-ltb, le-ltb, ltb-true, ltb-false}
use Rattle.text_field.specs.Buffer.{Buf, put, puts}

module _ (o : List ℕ) (n x : ℕ) where
  pub put_in : n < length o → put (o, n) x ≡ (set o n x, n + 1)
  unfolding put
  put_in h = rw (lt-ltb n (length o) h, put)

  pub put_full : length o ≤ n → put (o, n) x ≡ (o, n)
  unfolding put
  put_full h = rw (le-ltb n (length o) h, put)

pub puts_append : (b : Buf) (xs ys : List ℕ) → puts b (xs ++ ys) ≡ puts (puts b xs) ys
unfolding puts
puts_append b [] ys = refl
puts_append b (x ∷ xs) ys = puts_append (put b x) xs ys

-- what is written by one call and then by another
pub puts_then : (b c d : Buf) (xs ys : List ℕ) → c ≡ puts b xs → d ≡ puts c ys → d ≡ puts b (xs ++ ys)
puts_then b c d xs ys e f = f ∙ ap (λ (z : Buf). puts z ys) e ∙ sym (puts_append b xs ys)

-- one byte, as a text
pub puts_one : (b : Buf) (x : ℕ) → put b x ≡ puts b (x ∷ [])
unfolding puts
puts_one b x = refl

pub puts_none : (b : Buf) (xs : List ℕ) → xs ≡ [] → b ≡ puts b xs
unfolding puts
puts_none b xs e = rw e

-- in a loop: what the first part of zs writes is written, and the rest of zs is left
pub puts_step : (b b' w : Buf) (xs ys zs : List ℕ) → b' ≡ puts b xs → zs ≡ xs ++ ys → puts b zs ≡ w → puts b' ys ≡ w
puts_step b b' w xs ys zs e f g = ap (λ (z : Buf). puts z ys) e ∙ sym (puts_append b xs ys) ∙ ap (puts b) (sym f) ∙ g

by_sets : (o : List ℕ) (n : ℕ) (xs : List ℕ) → n + length xs ≤ length o → puts (o, n) xs ≡ (sets o n xs, n + length xs)
unfolding puts
by_sets o n [] h = ap (λ (k : ℕ). (o, k)) (sym (add-zero n))
by_sets o n (x ∷ xs) h =
    ap (λ (b : Buf). puts b xs) (put_in o n x (omega arith) ∙ ap (λ (k : ℕ). (set o n x, k)) (add-one n))
    ∙ by_sets (set o n x) (suc n) xs (rw length-set (omega arith))
    ∙ ap (λ (k : ℕ). (sets (set o n x) (suc n) xs, k)) (suc-add n (length xs) ∙ sym (add-suc n (length xs)))

-- where there is room: xs stands at n, and nothing else is changed
pub puts_fits : (o : List ℕ) (n : ℕ) (xs : List ℕ) → n + length xs ≤ length o → puts (o, n) xs ≡ (take n o ++ xs ++ drop (n + length xs) o, n + length xs)
puts_fits o n xs h = by_sets o n xs h ∙ ap (λ (l : List ℕ). (l, n + length xs)) (sets-eq xs o n h)

-- a full buffer: the place stays at the end, and nothing is changed
pub puts_full : (o : List ℕ) (n : ℕ) (xs : List ℕ) → length o ≤ n → puts (o, n) xs ≡ (o, n)
unfolding puts
puts_full o n [] h = refl
puts_full o n (x ∷ xs) h = ap (λ (b : Buf). puts b xs) (put_full o n x h) ∙ puts_full o n xs h

-- the buffer's length stays
pub puts_length : (xs : List ℕ) (b : Buf) → length (puts b xs).0 ≡ length b.0
unfolding puts
puts_length [] b = refl
puts_length (x ∷ xs) b = puts_length xs (put b x) ∙ one (ltb b.1 (length b.0)) refl
  where
    one : (t : Bool) → ltb b.1 (length b.0) ≡ t → length (put b x).0 ≡ length b.0
    one true t = ap (λ (z : Buf). length z.0) (put_in b.0 b.1 x (ltb-true b.1 (length b.0) t)) ∙ length-set b.0 b.1 x
    one false t = ap (λ (z : Buf). length z.0) (put_full b.0 b.1 x (ltb-false b.1 (length b.0) t))

-- where there is not room for all: the buffer is filled with the text's beginning, and the place is
-- its end
pub puts_cut : (o : List ℕ) (n : ℕ) (xs : List ℕ) → n ≤ length o → length o ≤ n + length xs → puts (o, n) xs ≡ (take n o ++ take (length o - n) xs, length o)
puts_cut o n xs h k =
    let m : length (take (length o - n) xs) ≡ length o - n = length-take-le (length o - n) xs (omega arith)
    in let p : n + length (take (length o - n) xs) ≡ length o = omega arith
    in ap (puts (o, n)) (sym (take-append-drop (length o - n) xs))
    ∙ puts_append (o, n) (take (length o - n) xs) (drop (length o - n) xs)
    ∙ ap (λ (b : Buf). puts b (drop (length o - n) xs)) (puts_fits o n (take (length o - n) xs) (omega arith) ∙ rw (p, drop-length o, append-nil))
    ∙ puts_full (take n o ++ take (length o - n) xs) (length o) (drop (length o - n) xs) (rw (length-append (take n o) (take (length o - n) xs), m, length-take-le n o h) (omega arith))
