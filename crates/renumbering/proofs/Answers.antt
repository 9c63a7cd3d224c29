-- What the host is told of a renumbering, and what both buffers hold. Assumes nothing.
use Prim.Native.Nat.{ℕ, ◌≤◌, ◌<◌}
use mathlib.Core.Path.{◌≡◌, refl, sym, ap, ◌∙◌}
use mathlib.Core.Bool.{Bool, true, false, ◌||◌}
use mathlib.Core.List.{List, ◌++◌}
use native.Mathlib.Omega.{arith}
use native.Mathlib.Nat.{zero-add}
use lib.Dec.{ltb}
use lib.ListN.{length, take, drop, replicate, length-append, length-replicate}
use lib.Seq.{take-append_seam, length-take-le}
use borrow.Author.Tests.{lt-ltb, le-ltb, ltb-true}
use Rattle.std.specs.declared.result.Result.{Result}
use Rattle.std.specs.declared.result.Result.TheVariants.{Err}
use Rattle.text_field.specs.declared.refusal.Refusal.{Refusal}
use Rattle.text_field.specs.Refusal.{number_of}
use Rattle.text_field.specs.Buffer.{Buf, puts}
use Rattle.text_field.specs.Outcome.{Outcome, refused, done, and_then, refuse_if}
use Rattle.text_field.specs.Answer.{answer, leaves}
use Rattle.text_field.proofs.BufferLaws.{puts_fits}
use Rattle.text_field.proofs.AnswerLaws.{leaves_fits, leaves_short}
use Rattle.text_field.proofs.OutcomeLaws.{done_same, not_done}
use Rattle.renumbering.specs.Renumbering.{Renumbering, room_for, Sizes, sizes_of, file_of, list_of, numbered_of}

-- what a result says, once it is known to be a refusal
pub numbered_err : (x : Result (ℕ × ℕ) Refusal) (r : Refusal) → x ≡ Err r → numbered_of x ≡ refused (number_of r)
unfolding numbered_of
numbered_err x r e = ap numbered_of e

-- what must hold at the end: the answer, and each buffer
abbrev pub Told : Outcome Renumbering → List ℕ → List ℕ → Outcome Sizes → List ℕ → List ℕ → Type 0
Told o out list r file lines =
    (r ≡ sizes_of (room_for (length out) (length list) o))
    × ((file ≡ leaves (file_of (room_for (length out) (length list) o)) out) × (lines ≡ leaves (list_of (room_for (length out) (length list) o)) list))

pub told_as : (o p : Outcome Renumbering) (out list : List ℕ) (r : Outcome Sizes) (file lines : List ℕ) → o ≡ p → Told o out list r file lines → Told p out list r file lines
told_as o p out list r file lines e t =
    let same = ap (room_for (length out) (length list)) e in (
      t.0 ∙ ap sizes_of same,
      (t.1.0 ∙ ap (λ (x : Outcome Renumbering). leaves (file_of x) out) same, t.1.1 ∙ ap (λ (x : Outcome Renumbering). leaves (list_of x) list) same),
    )

-- a refusal
refused_told : (o : Outcome Renumbering) (n : ℕ) (out list : List ℕ) → room_for (length out) (length list) o ≡ refused n → Told o out list (refused n) out list
unfolding sizes_of file_of list_of and_then leaves
refused_told o n out list e = (sym (ap sizes_of e), (sym (ap (λ (x : Outcome Renumbering). leaves (file_of x) out) e), sym (ap (λ (x : Outcome Renumbering). leaves (list_of x) list) e)))

pub told_refused : (o : Outcome Renumbering) (n : ℕ) (out list : List ℕ) → o ≡ refused n → Told o out list (refused n) out list
unfolding room_for and_then
told_refused o n out list e = refused_told o n out list (ap (room_for (length out) (length list)) e)

number_same : (m n : ℕ) → ◌≡◌ {A = Outcome ℕ} (refused m) (refused n) → m ≡ n
number_same m n e = cc

-- a file and a list
module _ (file lines out list : List ℕ) where
  abbrev made : Renumbering
  made = record { file = file; list = lines }

  room_by : (s t : Bool) → ltb (length out) (length file) ≡ s → ltb (length list) (length lines) ≡ t
      → room_for (length out) (length list) (done made) ≡ refuse_if (s || t) 9 (done made)
  unfolding room_for and_then
  room_by s t e f = rw (e, f)

  short_list : (s : Bool) → refuse_if (s || true) 9 (done made) ≡ refused 9
  unfolding refuse_if
  short_list true = refl
  short_list false = refl

  -- the list is too long
  pub told_list : length list < length lines → Told (done made) out list (refused 9) out list
  told_list h =
      refused_told (done made) 9 out list
      (room_by (ltb (length out) (length file)) true refl (lt-ltb (length list) (length lines) h) ∙ short_list (ltb (length out) (length file)))

  -- the file: what its writer answered
  module _ (o : Outcome (List ℕ)) (is : o ≡ done file) (a : Outcome ℕ) (answered : a ≡ answer o (length out)) (after : List ℕ) (left : after ≡ leaves o out) where
    answer_by : (s : Bool) → ltb (length out) (length file) ≡ s → a ≡ refuse_if s 9 (done (length file))
    unfolding answer and_then
    answer_by s e = answered ∙ rw (is, e)

    pub told_file : (n : ℕ) → a ≡ refused n → Told (done made) out list (refused n) after list
    unfolding refuse_if
    told_file n e = by (ltb (length out) (length file)) refl
      where
        by : (s : Bool) → ltb (length out) (length file) ≡ s → Told (done made) out list (refused n) after list
        by true t =
            let nine : n ≡ 9 = number_same n 9 (sym e ∙ answer_by true t) in
            let stays : after ≡ out = left ∙ sym (leaves_short o file is out (ltb-true (length out) (length file) t)) in
            let short = refused_told (done made) 9 out list (room_by true (ltb (length list) (length lines)) t refl) in
            (ap (λ (k : ℕ). refused k) nine ∙ short.0, (stays ∙ short.1.0, short.1.1))
        by false t = absurd (not_done n (length file) (sym e ∙ answer_by false t))

    module _ (fits : length lines ≤ length list) (k : ℕ) (count : k ≡ length lines) (put : List ℕ) (j : ℕ) (written : ◌≡◌ {A = Buf} (put, j) (puts (list, 0) lines)) where
      pub told_both : (n : ℕ) → a ≡ done n → Told (done made) out list (done (record { file = n; list = k })) after put
      unfolding refuse_if sizes_of file_of list_of and_then
      told_both n e = by (ltb (length out) (length file)) refl
        where
          by : (s : Bool) → ltb (length out) (length file) ≡ s → Told (done made) out list (done (record { file = n; list = k })) after put
          by true t = absurd (not_done 9 n (sym (sym e ∙ answer_by true t)))
          by false t =
              let size : n ≡ length file = done_same n (length file) (sym e ∙ answer_by false t) in
              let room : room_for (length out) (length list) (done made) ≡ done made = room_by false false t (le-ltb (length list) (length lines) fits) in (
                rw (size, count) (sym (ap sizes_of room)),
                (
                  left ∙ ap (λ (x : Outcome (List ℕ)). leaves x out) is ∙ sym (ap (λ (x : Outcome Renumbering). leaves (file_of x) out) room),
                  leaves_fits (done lines) lines refl list put j fits written ∙ sym (ap (λ (x : Outcome Renumbering). leaves (list_of x) list) room),
                ),
              )

-- the list's text in memory of its own
module _ (lines made : List ℕ) (k : ℕ) (fits : length lines ≤ 256) (e : ◌≡◌ {A = Buf} (made, k) (puts (replicate 256 0, 0) lines)) where
  own : ◌≡◌ {A = Buf} (made, k) (lines ++ drop (length lines) (replicate 256 0), length lines)
  own =
      let z = length-replicate {A = ℕ} 256 0 in
      e ∙ puts_fits (replicate 256 0) 0 lines (omega arith) ∙ simp zero-add

  pub own_count : k ≡ length lines
  own_count = ap (λ (b : Buf). b.1) own

  pub own_take : take k made ≡ lines
  own_take = ap (λ (b : Buf). take b.1 b.0) own ∙ take-append_seam lines (drop (length lines) (replicate 256 0))

  pub own_within : k ≤ length made
  own_within =
      let s = ap (λ (b : Buf). length b.0) own in
      let a = length-append {A = ℕ} lines (drop (length lines) (replicate 256 0)) in
      let c = own_count in
      omega arith

  pub own_size : k ≡ length (take k made)
  own_size = sym (length-take-le k made own_within)
