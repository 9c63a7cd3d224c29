-- Cells moved, put and replaced: what is left in the end. Assumes nothing.
use Prim.Native.Nat.{ℕ, zero, suc, ◌+◌, ◌-◌, ◌≤◌, ◌<◌, min}
use mathlib.Core.Path.{◌≡◌, refl, sym, ap, ◌∙◌}
use mathlib.Core.List.{List, [], ◌∷◌, ◌++◌, append_assoc}
use mathlib.Core.Logic.{⊎_elim}
use native.Mathlib.Omega.{arith}
use native.Mathlib.Nat.{sub-zero}
use borrow.Author.Tests.{le-ltb}
use lib.ListN.{length, take, drop, length-append, length-take, length-drop, drop_of_length-le}
use lib.Seq.{take_all, take-length, take-nil, take-take, take-append-le, drop_at, length-take-le, paste, length-paste}
use Rattle.text_field.specs.Outcome.{Outcome, refused, done}
use Rattle.text_field.specs.Answer.{answer, written, leaves}
use Rattle.text_field.proofs.AnswerLaws.{answer_short, leaves_short, answer_fits}
use Rattle.graph_table.proofs.Tests.{below_or}
use Rattle.graph_change.specs.Cells.{spliced}

-- a part taken out of a part
pub drop_take : (x n : ℕ) (l : List ℕ) → drop x (take n l) ≡ take (n - x) (drop x l)
drop_take zero n l = rw (sub-zero n)
drop_take (suc x) zero l = let z : 0 - suc x ≡ 0 = omega arith in rw z
drop_take (suc x) (suc n) [] = sym (take-nil (suc n - suc x))
drop_take (suc x) (suc n) (a ∷ l) = let z : suc n - suc x ≡ n - x = omega arith in rw z (drop_take x n l)

-- more than there is, is all
pub take_min : (n : ℕ) (l : List ℕ) → take (min n (length l)) l ≡ take n l
take_min n l =
    ⊎_elim (λ (h : n < length l). let e : min n (length l) ≡ n = omega arith in ap (λ (j : ℕ). take j l) e)
    (λ (h : length l ≤ n).
    let e : min n (length l) ≡ length l = omega arith in
    ap (λ (j : ℕ). take j l) e ∙ take-length l ∙ sym (take_all n l h))
    (below_or n (length l))

-- room for b cells between a cells and c cells
room_for : (a b c l : ℕ) → a + c ≤ l → b ≤ l - a - c → a + b + c ≤ l
room_for a b c l h k = omega arith

no_room : (a b c l : ℕ) → a + c ≤ l → l - a - c < b → l < a + b + c
no_room a b c l h k = omega arith

part_of : (a b l : ℕ) → a + b ≤ l → a ≤ l
part_of a b l h = omega arith

left_over : (a b l : ℕ) → a + b ≤ l → b ≤ l - a
left_over a b l h = omega arith

from_to : (a b : ℕ) → a ≤ a + b
from_to a b = omega arith

-- `splice`, by the numbers that it works out
module _ (t new : List ℕ) (n place count used from to left : ℕ) (is-used : used ≡ min n (length t)) (is-from : from ≡ min place used)
    (is-to : to ≡ from + min count (used - from)) (is-left : left ≡ used - to) where
  abbrev cells : List ℕ
  cells = take n t

  cells_are : take n t ≡ take used t
  cells_are = sym (ap (λ (j : ℕ). take j t) is-used ∙ take_min n t)

  cells_size : length (take n t) ≡ used
  cells_size = length-take n t ∙ sym is-used

  front : take place (take n t) ≡ take from t
  front =
      let m : from ≡ min place (length (take n t)) = omega (arith, cells_size) in
      let w : from ≤ used = omega arith in
      sym (take_min place (take n t)) ∙ ap (λ (j : ℕ). take j (take n t)) (sym m)
      ∙ ap (take from) cells_are ∙ take-take from used t w

  back : drop (place + count) (take n t) ≡ take left (drop to t)
  back =
      ⊎_elim (λ (h : place + count < used).
      let e : place + count ≡ to = omega arith in
      ap (λ (j : ℕ). drop j (take n t)) e ∙ ap (drop to) cells_are ∙ drop_take to used t ∙ ap (λ (j : ℕ). take j (drop to t)) (sym is-left))
      (λ (h : used ≤ place + count).
      let z : left ≡ 0 = omega arith in
      drop_of_length-le (take n t) {i = place + count} (omega (arith, cells_size)) ∙ sym (ap (λ (j : ℕ). take j (drop to t)) z))
      (below_or (place + count) used)

  parts : spliced place count new (take n t) ≡ take from t ++ new ++ take left (drop to t)
  unfolding spliced
  parts = rw (front, back)

  within : (from ≤ to) × (to + left ≤ length t)
  within = (omega arith, omega arith)

  about : from + left ≤ length t
  about = let a = within.0 in let b = within.1 in omega arith

  size : length (spliced place count new (take n t)) ≡ from + length new + left
  size =
      let w = within.1 in
      let f : length (take from t) ≡ from = length-take-le from t (omega arith) in
      let d = length-drop to t in
      let l : length (take left (drop to t)) ≡ left = length-take-le left (drop to t) (omega arith) in
      ap length parts ∙ length-append (take from t ++ new) (take left (drop to t))
      ∙ omega (arith, length-append (take from t) new)

  abbrev Spliced : Outcome (List ℕ)
  Spliced = done (spliced place count new (take n t))

  pub spliced_short : length t - from - left < length new → (refused 9 ≡ answer Spliced (length t)) × (t ≡ leaves Spliced t)
  spliced_short h =
      let short : length t < length (spliced place count new (take n t)) = rw size (no_room from (length new) left (length t) about h) in
      (answer_short Spliced (spliced place count new (take n t)) refl (length t) short, leaves_short Spliced (spliced place count new (take n t)) refl t short)

  module _ (h : length new ≤ length t - from - left) where
    pub spliced_room : (to + left ≤ length t) × (from + length new + left ≤ length t)
    spliced_room = (within.1, room_for from (length new) left (length t) about h)

    -- the cells that have moved are as many as before
    pub spliced_place : (u : List ℕ) → u ≡ paste t (from + length new) (drop to t) left → from + length new ≤ length u
    spliced_place u e =
        let fits : from + length new + left ≤ length t = spliced_room.1 in
        let more = length-drop to t in
        let tail : left ≤ length (drop to t) = rw more (left_over to left (length t) spliced_room.0) in
        let n : length u ≡ length t = ap length e ∙ length-paste t (from + length new) (drop to t) left fits tail in
        rw n (part_of (from + length new) left (length t) fits)

    pub spliced_fits : (u v : List ℕ) → u ≡ paste t (from + length new) (drop to t) left → v ≡ paste u from new (length new)
        → (done (from + length new + left) ≡ answer Spliced (length t)) × (v ≡ leaves Spliced t)
    unfolding leaves written
    spliced_fits u v e f =
        let s = size in
        let fits : from + length new + left ≤ length t = spliced_room.1 in
        let X : List ℕ = take left (drop to t) in
        let Y : List ℕ = drop (from + length new + left) t in
        let whole : u ≡ take (from + length new) t ++ (take left (drop to t) ++ drop (from + length new + left) t) = e ∙ append_assoc (take (from + length new) t) X Y in
        let n-size : length (take (from + length new) t) ≡ from + length new = length-take-le (from + length new) t (part_of (from + length new) left (length t) fits) in
        let above : take from u ≡ take from t =
        ap (take from) whole
        ∙ take-append-le from (take (from + length new) t) (X ++ Y) (rw n-size (from_to from (length new)))
        ∙ take-take from (from + length new) t (from_to from (length new)) in
        let below : drop (from + length new) u ≡ X ++ Y =
        ap (drop (from + length new)) whole ∙ drop_at (take (from + length new) t) (X ++ Y) (from + length new) n-size in
        let left_there : v ≡ (take from t ++ new ++ X) ++ Y =
        f ∙ ap (λ (l : List ℕ). take from u ++ l ++ drop (from + length new) u) (take-length new)
        ∙ ap (λ (l : List ℕ). l ++ new ++ drop (from + length new) u) above ∙ ap (λ (l : List ℕ). take from t ++ new ++ l) below
        ∙ sym (append_assoc (take from t ++ new) X Y) in
        let all : leaves Spliced t ≡ spliced place count new (take n t) ++ drop (length (spliced place count new (take n t))) t =
        rw (le-ltb (length t) (length (spliced place count new (take n t))) (rw s fits)) refl in (
          answer_fits Spliced (spliced place count new (take n t)) refl (length t) (from + length new + left) s fits,
          left_there ∙ ap (λ (l : List ℕ). l ++ Y) (sym parts)
              ∙ ap (λ (j : ℕ). spliced place count new (take n t) ++ drop j t) (sym s)
              ∙ sym all,
        )
