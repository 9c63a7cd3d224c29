-- Laws of one row's taking. Assumes nothing.
use mathlib.Core.Path.{◌≡◌, refl, sym, ap, ◌∙◌}
use mathlib.Core.Bool.{Bool, true, false, not, ◌&&◌, and-false, false≢true}
use mathlib.Core.Logic.{◌⊎◌, inl, inr}
use mathlib.Core.List.{List, [], ◌∷◌, ◌++◌, append_assoc}
use Prim.Native.Nat.{ℕ, ◌+◌, ◌-◌, ◌≤◌, ◌<◌}
use native.Mathlib.Omega.{arith}
use lib.Dec.{eqb, leb, ltb}
use lib.ListN.{length, take, drop, length-append}
use lib.Seq.{length-take-le, take-append-le, take-take, drop-append-add, drop-drop}
use borrow.Author.Tests.{eq-eqb, ne_eqb, le-leb, lt-leb, leb-true, leb-false, lt-ltb, le-ltb, ltb-true, ltb-false}
use borrow.Author.Tests as tests
use Rattle.text_field.specs.Buffer.{Buf, puts}
use Rattle.text_field.proofs.BufferLaws.{puts_fits, puts_length}
use Rattle.follow.specs.declared.Bounds.{Bounds}
use Rattle.follow.specs.declared.Seen.{Seen}
use Rattle.follow.specs.declared.Seen.TheVariants.{None, One, Several}
use Rattle.follow.specs.declared.Tally.{Tally}
use Rattle.follow.specs.Tally.{Taken, State, noted, is_several, fits, more, keep_row, within, beyond, is_done, is_broken, take_row}

module _ (m n k : ℕ) where
  pub fits_yes : n + k ≤ m → fits m n k ≡ true
  unfolding fits
  fits_yes h = le-leb (n + k) m h

  pub fits_no : m < n + k → fits m n k ≡ false
  unfolding fits
  fits_no h = lt-leb (n + k) m h

  pub fits_true : fits m n k ≡ true → n + k ≤ m
  unfolding fits
  fits_true h = leb-true (n + k) m h

  pub fits_false : fits m n k ≡ false → m < n + k
  unfolding fits
  fits_false h = leb-false (n + k) m h

-- as the code asks: k first, so that no sum can pass the largest number
pub fits_rest : (m n k : ℕ) → k ≤ m → leb n (m - k) ≡ fits m n k
fits_rest m n k h = by (leb n (m - k)) refl
  where
    by : (t : Bool) → leb n (m - k) ≡ t → leb n (m - k) ≡ fits m n k
    by true t = let x : n ≤ m - k = leb-true n (m - k) t in t ∙ sym (fits_yes m n k (omega arith))
    by false t = let x : m - k < n = leb-false n (m - k) t in t ∙ sym (fits_no m n k (omega arith))

module _ (most e : ℕ) where
  pub more_on : e < most → more most e ≡ e + 1
  unfolding more
  more_on h = rw (lt-ltb e most h, more)

  pub more_off : most ≤ e → more most e ≡ e
  unfolding more
  more_off h = rw (le-ltb e most h, more)

  -- where one at least is asked for, one at least is counted
  pub more_least : 1 ≤ most → 1 ≤ more most e
  more_least h = by (ltb e most) refl
    where
      by : (t : Bool) → ltb e most ≡ t → 1 ≤ more most e
      by true t = let x : more most e ≡ e + 1 = more_on (ltb-true e most t) in omega arith
      by false t = let x : more most e ≡ e = more_off (ltb-false e most t) in let y : most ≤ e = ltb-false e most t in omega arith

-- where a text is put, the memory before it and behind it stays
module _ (out : List ℕ) (n : ℕ) (xs : List ℕ) (h : n + length xs ≤ length out) where
  head_length : length (take n out ++ xs) ≡ n + length xs
  head_length = length-append (take n out) xs ∙ ap (λ (k : ℕ). k + length xs) (length-take-le n out (omega arith))

  pub puts_text : (puts (out, n) xs).0 ≡ take n out ++ xs ++ drop (n + length xs) out
  puts_text = ap (λ (b : Buf). b.0) (puts_fits out n xs h)

  pub puts_before : (m : ℕ) → m ≤ n → take m (puts (out, n) xs).0 ≡ take m out
  puts_before m g =
      let l : length (take n out) ≡ n = length-take-le n out (omega arith) in
      ap (take m) puts_text ∙ ap (take m) (append_assoc (take n out) xs (drop (n + length xs) out)) ∙ take-append-le m (take n out) (xs ++ drop (n + length xs) out) (omega arith) ∙ take-take m n out g

  pub puts_behind : (m : ℕ) → n + length xs ≤ m → drop m (puts (out, n) xs).0 ≡ drop m out
  puts_behind m g =
      let j : ℕ = m - (n + length xs) in
      let e : length (take n out ++ xs) + j ≡ m = omega (arith, head_length) in
      let f : n + length xs + j ≡ m = omega arith in
      ap (drop m) puts_text
      ∙ ap (λ (k : ℕ). drop k ((take n out ++ xs) ++ drop (n + length xs) out)) (sym e)
      ∙ drop-append-add (take n out ++ xs) (drop (n + length xs) out) j
      ∙ drop-drop j (n + length xs) out
      ∙ ap (λ (k : ℕ). drop k out) f

module _ (kept : ℕ) (out : List ℕ) (n : ℕ) (row : List ℕ) where
  pub keep_yes : n + length row ≤ kept → n + length row ≤ length out → keep_row kept out n row ≡ (puts (out, n) row).0
  unfolding keep_row
  keep_yes h g =
      let t : (fits kept n (length row) && fits (length out) n (length row)) ≡ true = rw (fits_yes kept n (length row) h, fits_yes (length out) n (length row) g) in
      rw (t, keep_row)

  pub keep_no : (kept < n + length row) ⊎ (length out < n + length row) → keep_row kept out n row ≡ out
  unfolding keep_row
  keep_no (inl h) = let t : (fits kept n (length row) && fits (length out) n (length row)) ≡ false = rw (fits_no kept n (length row) h) in rw (t, keep_row)
  keep_no (inr h) =
      let t : (fits kept n (length row) && fits (length out) n (length row)) ≡ false = rw (fits_no (length out) n (length row) h) (and-false (fits kept n (length row))) in
      rw (t, keep_row)

  -- either the row is written, or nothing is
  by_fit : (P : List ℕ → Type 0) → (n + length row ≤ kept → n + length row ≤ length out → P (puts (out, n) row).0) → P out → P (keep_row kept out n row)
  by_fit P put stay = by (fits kept n (length row)) (fits (length out) n (length row)) refl refl
    where
      by : (s t : Bool) → fits kept n (length row) ≡ s → fits (length out) n (length row) ≡ t → P (keep_row kept out n row)
      by true true d e =
          let h = fits_true kept n (length row) d in
          let g = fits_true (length out) n (length row) e in
          rw (keep_yes h g) (put h g)
      by false t d e = rw (keep_no (inl (fits_false kept n (length row) d))) stay
      by true false d e = rw (keep_no (inr (fits_false (length out) n (length row) e))) stay

  pub keep_length : length (keep_row kept out n row) ≡ length out
  keep_length = by_fit (λ o. length o ≡ length out) (λ h g. puts_length row (out, n)) refl

  pub keep_before : (m : ℕ) → m ≤ n → take m (keep_row kept out n row) ≡ take m out
  keep_before m l = by_fit (λ o. take m o ≡ take m out) (λ h g. puts_before out n row g m l) refl

  pub keep_behind : drop kept (keep_row kept out n row) ≡ drop kept out
  keep_behind = by_fit (λ o. drop kept o ≡ drop kept out) (λ h g. puts_behind out n row g kept h) refl

-- the declarations noted
module _ (a m at mark : ℕ) where
  pub noted_same : a ≡ at → m ≡ mark → noted (One a m) at mark ≡ One a m
  unfolding noted
  noted_same d e = rw (eq-eqb a at d, eq-eqb m mark e, noted)

  pub noted_scope : (a ≡ at → ⊥) → noted (One a m) at mark ≡ Several
  unfolding noted
  noted_scope d = rw (ne_eqb a at d, noted)

  pub noted_mark : (m ≡ mark → ⊥) → noted (One a m) at mark ≡ Several
  unfolding noted
  noted_mark d =
      let t : (eqb a at && eqb m mark) ≡ false = rw (ne_eqb m mark d) (and-false (eqb a at)) in
      rw (t, noted)

pub several_is : (seen : Seen) → is_several seen ≡ true → seen ≡ Several
unfolding is_several
several_is None e = absurd (false≢true e)
several_is (One a m) e = absurd (false≢true e)
several_is Several e = refl

pub not_several : (seen : Seen) → (seen ≡ Several → ⊥) → is_several seen ≡ false
unfolding is_several
not_several None other = refl
not_several (One a m) other = refl
not_several Several other = absurd (other refl)

-- all rows noted; several stay several
unfoldable pub noted_all : Seen → List Taken → Seen
noted_all seen [] = seen
noted_all seen (row ∷ rows) = noted_all (noted seen row.at row.mark) rows

pub several_stay : (rows : List Taken) → noted_all Several rows ≡ Several
unfolding noted_all noted
several_stay [] = refl
several_stay (row ∷ rows) = several_stay rows

module _ (b : Bounds) (t : Tally) where
  -- it is not done before the limit is passed
  pub done_later : t.over ≡ false → is_done b t ≡ false
  unfolding is_done
  done_later e = rw e

  pub done_over : is_done b t ≡ true → t.over ≡ true
  unfolding is_done
  done_over e = by t.over refl
    where
      by : (o : Bool) → t.over ≡ o → t.over ≡ true
      by true o = o
      by false o = absurd (false≢true (sym (done_later o) ∙ e))

  pub done_most : t.over ≡ true → b.most ≤ t.entries → is_done b t ≡ true
  unfolding is_done
  done_most e h = rw (e, le-leb b.most t.entries h)

  pub done_seen : t.over ≡ true → t.entries < b.most → is_done b t ≡ is_several t.seen
  unfolding is_done
  done_seen e h = rw (e, lt-leb b.most t.entries h)

  -- it is broken off where it is done and not several were seen
  pub broken_on : is_done b t ≡ false → is_broken b t ≡ false
  unfolding is_broken
  broken_on d = rw d

  pub broken_done : is_done b t ≡ true → is_broken b t ≡ not (is_several t.seen)
  unfolding is_broken
  broken_done d = rw d

  pub whole_several : is_broken b t ≡ false → is_done b t ≡ true → t.seen ≡ Several
  whole_several e d = several_is t.seen (tests.not-false (is_several t.seen) (sym (broken_done d) ∙ e))

module _ (b : Bounds) (st : State) (row : Taken) where
  -- when all is done, no row changes anything
  pub take_done : is_done b st.1 ≡ true → take_row b st row ≡ st
  unfolding take_row
  take_done d = rw (d, take_row)

  pub take_within : st.1.over ≡ false → st.1.bytes + length row.text ≤ b.limit → take_row b st row ≡ within b st row
  unfolding take_row
  take_within e h =
      let t : (not st.1.over && fits b.limit st.1.bytes (length row.text)) ≡ true = rw (e, fits_yes b.limit st.1.bytes (length row.text) h) in
      rw (done_later b st.1 e, t, take_row)

  module _ (on : is_done b st.1 ≡ false) where
    pub take_past : b.limit < st.1.bytes + length row.text → take_row b st row ≡ beyond b st row
    unfolding take_row
    take_past h =
        let t : (not st.1.over && fits b.limit st.1.bytes (length row.text)) ≡ false = rw (fits_no b.limit st.1.bytes (length row.text) h) (and-false (not st.1.over)) in
        rw (on, t, take_row)

    pub take_after : st.1.over ≡ true → take_row b st row ≡ beyond b st row
    unfolding take_row
    take_after e =
        let t : (not st.1.over && fits b.limit st.1.bytes (length row.text)) ≡ false = rw e in
        rw (on, t, take_row)

  -- a row is within the limit, or it is not, or all is done
  pub by_limit : (P : State → Type 0) → (is_done b st.1 ≡ true → P st)
      → (st.1.over ≡ false → st.1.bytes + length row.text ≤ b.limit → P (within b st row)) → P (beyond b st row) → P (take_row b st row)
  by_limit P end inside past = done (is_done b st.1) refl
    where
      by : is_done b st.1 ≡ false → (s t : Bool) → st.1.over ≡ s → fits b.limit st.1.bytes (length row.text) ≡ t → P (take_row b st row)
      by on true t d e = rw (take_after on d) past
      by on false true d e = let h = fits_true b.limit st.1.bytes (length row.text) e in rw (take_within d h) (inside d h)
      by on false false d e = rw (take_past on (fits_false b.limit st.1.bytes (length row.text) e)) past

      done : (d : Bool) → is_done b st.1 ≡ d → P (take_row b st row)
      done true d = rw (take_done d) (end d)
      done false d = by d st.1.over (fits b.limit st.1.bytes (length row.text)) refl refl

  -- each row is counted and noted until all is done
  pub take_entries : is_done b st.1 ≡ false → (take_row b st row).1.entries ≡ more b.most st.1.entries
  unfolding within beyond
  take_entries on =
      by_limit (λ s. s.1.entries ≡ more b.most st.1.entries) (λ d. absurd (false≢true (sym on ∙ d))) (λ e h. refl) refl

  pub take_seen : is_done b st.1 ≡ false → (take_row b st row).1.seen ≡ noted st.1.seen row.at row.mark
  unfolding within beyond
  take_seen on =
      by_limit (λ s. s.1.seen ≡ noted st.1.seen row.at row.mark) (λ d. absurd (false≢true (sym on ∙ d))) (λ e h. refl) refl

  pub take_length : length (take_row b st row).0 ≡ length st.0
  unfolding within beyond
  take_length = by_limit (λ s. length s.0 ≡ length st.0) (λ d. refl) (λ e h. keep_length b.kept st.0 st.1.bytes row.text) refl

  pub take_before : (m : ℕ) → m ≤ st.1.bytes → (m ≤ (take_row b st row).1.bytes) × (take m (take_row b st row).0 ≡ take m st.0)
  unfolding within beyond
  take_before m l =
      by_limit (λ s. (m ≤ s.1.bytes) × (take m s.0 ≡ take m st.0))
      (λ d. (l, refl)) (λ e h. (omega arith, keep_before b.kept st.0 st.1.bytes row.text m l)) (l, refl)

  pub take_behind : drop b.kept (take_row b st row).0 ≡ drop b.kept st.0
  unfolding within beyond
  take_behind = by_limit (λ s. drop b.kept s.0 ≡ drop b.kept st.0) (λ d. refl) (λ e h. keep_behind b.kept st.0 st.1.bytes row.text) refl

-- what the code answers, way by way: k is the row's length, e the entries and n the declarations
-- with this one
module _
    (b : Bounds)
    (out : List ℕ)
    (t : Tally)
    (row : Taken)
    (k e : ℕ)
    (n : Seen)
    (on : is_done b t ≡ false)
    (count : e ≡ more b.most t.entries)
    (note : n ≡ noted t.seen row.at row.mark)
  where
    pub answer_after : t.over ≡ true → ◌≡◌ {A = State} (out, record { bytes = t.bytes; entries = e; over = true; seen = n }) (take_row b (out, t) row)
    unfolding beyond
    answer_after x = rw (count, note) (sym (take_after b (out, t) row on x))

    -- with no room at all, a row that is not empty is only counted and noted
    pub answer_place : b.limit ≡ 0 → 1 ≤ length row.text
        → ◌≡◌ {A = State} (out, record { bytes = t.bytes; entries = e; over = true; seen = n }) (take_row b (out, t) row)
    unfolding beyond
    answer_place x y = rw (count, note) (sym (take_past b (out, t) row on (omega arith)))

    module _ (size : k ≡ length row.text) where
      pub answer_past : fits b.limit t.bytes k ≡ false
          → ◌≡◌ {A = State} (out, record { bytes = t.bytes; entries = e; over = true; seen = n }) (take_row b (out, t) row)
      unfolding beyond
      answer_past x = rw (count, note) (sym (take_past b (out, t) row on (fits_false b.limit t.bytes (length row.text) (rw size at x))))

      module _ (still : t.over ≡ false) (limit : fits b.limit t.bytes k ≡ true) where
        pub answer_within : (o : List ℕ) → o ≡ keep_row b.kept out t.bytes row.text
            → ◌≡◌ {A = State} (o, record { bytes = t.bytes + k; entries = e; over = false; seen = n }) (take_row b (out, t) row)
        unfolding within
        answer_within o x = rw (count, note, size, x) (sym (take_within b (out, t) row still (fits_true b.limit t.bytes (length row.text) (rw size at limit))))
