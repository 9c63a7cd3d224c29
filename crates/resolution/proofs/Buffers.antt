-- A text that is handed on in lent bytes: it fits and is written, or it is refused and the bytes
-- stay. Assumes nothing.
use Prim.Native.Nat.{ℕ, zero, suc, ◌+◌, ◌≤◌, ◌<◌}
use mathlib.Core.Path.{◌≡◌, sym, ap, ◌∙◌}
use mathlib.Core.List.{List, [], ◌∷◌, ◌++◌}
use native.Mathlib.Omega.{arith}
use lib.ListN.{length, take, drop}
use lib.Seq.{take-append_seam}
use borrow.Author.Tests.{lt-ltb, le-ltb}
use Rattle.text_field.specs.Buffer.{Buf, puts}
use Rattle.text_field.proofs.BufferLaws.{puts_fits}
use Rattle.text_field.specs.Outcome.{Outcome, refused, done, and_then, refuse_if}
use Rattle.text_field.specs.Answer.{answer, written, leaves}

-- the first n bytes of a buffer that was filled with as many
pub head_fits : (o h : List ℕ) (n : ℕ) (head : List ℕ) → ◌≡◌ {A = Buf} (h, n) (puts (o, 0) head) → length head ≤ length o → (n ≡ length head) × (take n h ≡ head)
head_fits o h n head e l =
    let z : 0 + length head ≤ length o = omega arith in
    let f = e ∙ puts_fits o 0 head z in
    let y : n ≡ 0 + length head = ap (λ (b : Buf). b.1) f in
    let k : n ≡ length head = omega arith in
    let m : h ≡ head ++ drop (0 + length head) o = ap (λ (b : Buf). b.0) f in
    (k, rw (k, m) (take-append_seam head (drop (0 + length head) o)))

-- of a list at most as many are taken as it has
pub length_take_most : (n : ℕ) (l : List ℕ) → length (take n l) ≤ length l
length_take_most zero l = omega arith
length_take_most (suc n) [] = omega arith
length_take_most (suc n) (x ∷ l) = let i = length_take_most n l in omega arith

-- too little room
pub short_answer : (text : List ℕ) (room : ℕ) → room < length text → refused 9 ≡ answer (done text) room
unfolding answer and_then refuse_if
short_answer text room h = rw (lt-ltb room (length text) h)

pub short_leaves : (text out : List ℕ) → length out < length text → out ≡ leaves (done text) out
unfolding leaves written
short_leaves text out h = rw (lt-ltb (length out) (length text) h)

-- room enough
pub whole_answer : (text : List ℕ) (room : ℕ) → length text ≤ room → done (length text) ≡ answer (done text) room
unfolding answer and_then refuse_if
whole_answer text room h = rw (le-ltb room (length text) h)

pub whole_leaves : (text out : List ℕ) → length text ≤ length out → text ++ drop (length text) out ≡ leaves (done text) out
unfolding leaves written
whole_leaves text out h = rw (le-ltb (length out) (length text) h)

-- a text that was written whole to the lent bytes, from the first on
pub whole_put : (text out c : List ℕ) (r : ℕ) → length text ≤ length out → ◌≡◌ {A = Buf} (c, r) (puts (out, 0) text)
    → (done r ≡ answer (done text) (length out)) × (c ≡ leaves (done text) out)
whole_put text out c r w u =
    let i : 0 + length text ≤ length out = omega arith in
    let g = u ∙ puts_fits out 0 text i in
    let r0 : r ≡ 0 + length text = ap (λ (d : Buf). d.1) g in
    let r_is : r ≡ length text = omega arith in
    let c-is : c ≡ text ++ drop (0 + length text) out = ap (λ (d : Buf). d.0) g in
    let d-is : 0 + length text ≡ length text = omega arith in
    (ap {B = Outcome ℕ} (λ (d : ℕ). done d) r_is ∙ whole_answer text (length out) w, c-is ∙ ap (λ (d : ℕ). text ++ drop d out) d-is ∙ whole_leaves text out w)

-- a text that was written to a buffer of one's own first, and is then copied if it fits
module _ (text o h : List ℕ) (m : ℕ) (e : ◌≡◌ {A = Buf} (h, m) (puts (o, 0) text)) (fits : length text ≤ length o) where
  pub own_within : (m ≤ length h) × (m ≡ length (take m h))
  own_within =
      let x = head_fits o h m text e fits in
      let k = x.0 in
      let y : m ≡ length (take m h) = k ∙ ap length (sym x.1) in
      let l = length_take_most m h in
      (omega arith, y)

  pub own_short : (out : List ℕ) → length out < m → (refused 9 ≡ answer (done text) (length out)) × (out ≡ leaves (done text) out)
  own_short out h = let k = (head_fits o _ m text e fits).0 in (short_answer text (length out) (omega arith), short_leaves text out (omega arith))

  pub own_whole : (out c : List ℕ) (r : ℕ) → m ≤ length out → ◌≡◌ {A = Buf} (c, r) (puts (out, 0) (take m h)) → (done r ≡ answer (done text) (length out)) × (c ≡ leaves (done text) out)
  own_whole out c r l u =
      let x = head_fits o h m text e fits in
      let k = x.0 in
      whole_put text out c r (omega arith) (u ∙ ap (puts (out, 0)) x.1)
