-- The rows before the first one whose cell c is k or more. Assumes nothing.
use Prim.Native.Nat.{ℕ, zero, suc, ◌+◌, ◌-◌, ◌≤◌, ◌<◌}
use mathlib.Core.Path.{◌≡◌, refl, sym, ap, ◌∙◌}
use mathlib.Core.Bool.{true, false}
use mathlib.Core.List.{List, [], ◌∷◌}
use mathlib.Core.Logic.{⊎_elim}
use native.Mathlib.Omega.{arith}
use lib.Dec.{ltb}
use lib.ListN.{length, get_or, drop, length-take, length-drop}
use lib.Seq.{drop-drop, get_or-drop}
use borrow.Author.Tests.{lt-ltb, le-ltb}
use Rattle.graph_table.specs.Sections.{leading, first_row, start_of, part_of}
use Rattle.graph_table.proofs.Tests.{below_or}

module _ (c : ℕ) where
  leading_six : (k : ℕ) (l : List ℕ) → 6 ≤ length l → leading c k l ≡ elim (ltb (get_or l c 0) k) [ true ↦ 6 + leading c k (drop 6 l) | false ↦ 0 ]
  unfolding leading
  leading_six k [] h = absurd (omega arith)
  leading_six k (s ∷ []) h = absurd (omega arith)
  leading_six k (s ∷ v ∷ []) h = absurd (omega arith)
  leading_six k (s ∷ v ∷ w ∷ []) h = absurd (omega arith)
  leading_six k (s ∷ v ∷ w ∷ x ∷ []) h = absurd (omega arith)
  leading_six k (s ∷ v ∷ w ∷ x ∷ y ∷ []) h = absurd (omega arith)
  leading_six k (s ∷ v ∷ w ∷ x ∷ y ∷ z ∷ l) h = refl

  pub leading_few : (k : ℕ) (l : List ℕ) → length l < 6 → leading c k l ≡ 0
  unfolding leading
  leading_few k [] h = refl
  leading_few k (s ∷ []) h = refl
  leading_few k (s ∷ v ∷ []) h = refl
  leading_few k (s ∷ v ∷ w ∷ []) h = refl
  leading_few k (s ∷ v ∷ w ∷ x ∷ []) h = refl
  leading_few k (s ∷ v ∷ w ∷ x ∷ y ∷ []) h = refl
  leading_few k (s ∷ v ∷ w ∷ x ∷ y ∷ z ∷ l) h = absurd (omega arith)

  pub leading_yes : (k : ℕ) (l : List ℕ) → 6 ≤ length l → get_or l c 0 < k → leading c k l ≡ 6 + leading c k (drop 6 l)
  leading_yes k l h less = leading_six k l h ∙ rw (lt-ltb (get_or l c 0) k less)

  pub leading_no : (k : ℕ) (l : List ℕ) → 6 ≤ length l → k ≤ get_or l c 0 → leading c k l ≡ 0
  leading_no k l h most = leading_six k l h ∙ rw (le-ltb (get_or l c 0) k most)

  -- by the row's place
  module _ (s : List ℕ) (p k : ℕ) where
    pub leading_next : 6 ≤ length s - p → get_or s (p + c) 0 < k → leading c k (drop p s) ≡ 6 + leading c k (drop (p + 6) s)
    leading_next h less =
        leading_yes k (drop p s) (rw (length-drop p s) h) (rw (get_or-drop p s c 0) less) ∙ ap (λ (l : List ℕ). 6 + leading c k l) (drop-drop 6 p s)

    pub leading_stop : 6 ≤ length s - p → k ≤ get_or s (p + c) 0 → leading c k (drop p s) ≡ 0
    leading_stop h most = leading_no k (drop p s) (rw (length-drop p s) h) (rw (get_or-drop p s c 0) most)

    pub leading_end : length s - p < 6 → leading c k (drop p s) ≡ 0
    leading_end h = leading_few k (drop p s) (rw (length-drop p s) h)

  within_by : (n k : ℕ) (l : List ℕ) → length l ≤ n → leading c k l ≤ length l
  within_by zero k l h = let e = leading_few k l (omega arith) in omega arith
  within_by (suc n) k l h =
      ⊎_elim (λ (y : length l < 6). let e = leading_few k l y in omega arith)
      (λ (m : 6 ≤ length l).
      let less = length-drop 6 l in
      let rest = within_by n k (drop 6 l) (rw (length-drop 6 l) (omega arith)) in
      ⊎_elim (λ (y : get_or l c 0 < k). let e = leading_yes k l m y in omega arith)
      (λ (y : k ≤ get_or l c 0). let e = leading_no k l m y in omega arith)
      (below_or (get_or l c 0) k))
      (below_or (length l) 6)

  pub leading_within : (k : ℕ) (l : List ℕ) → leading c k l ≤ length l
  leading_within k l = within_by (length l) k l (omega arith)

  -- from a lesser number's place on, the rest
  on_by : (n j k : ℕ) (l : List ℕ) → length l ≤ n → j ≤ k → leading c k l ≡ leading c j l + leading c k (drop (leading c j l) l)
  on_by zero j k l h i = rw (leading_few j l (omega arith)) (omega arith)
  on_by (suc n) j k l h i =
      ⊎_elim (λ (y : length l < 6). rw (leading_few j l y) (omega arith))
      (λ (m : 6 ≤ length l).
      ⊎_elim (λ (y : get_or l c 0 < j).
      let rest = on_by n j k (drop 6 l) (rw (length-drop 6 l) (omega arith)) i in
      let more = leading_yes k l m (omega arith) in
      let skip : drop (6 + leading c j (drop 6 l)) l ≡ drop (leading c j (drop 6 l)) (drop 6 l) = sym (drop-drop (leading c j (drop 6 l)) 6 l) in
      rw (leading_yes j l m y, skip) (omega arith))
      (λ (y : j ≤ get_or l c 0). rw (leading_no j l m y) (omega arith))
      (below_or (get_or l c 0) j))
      (below_or (length l) 6)

  pub leading_on : (j k : ℕ) (l : List ℕ) → j ≤ k → leading c k l ≡ leading c j l + leading c k (drop (leading c j l) l)
  leading_on j k l h = on_by (length l) j k l (omega arith) h

pub ruleset leading_steps = (leading_next, leading_stop, leading_end)

-- where a section's rows start
pub start_from : (k : ℕ) (t : List ℕ) → start_of k t ≡ first_row t + leading 0 k (drop (first_row t) t)
unfolding start_of first_row
start_from k [] = let e = leading_few 0 k [] (omega arith) in omega arith
start_from k (x ∷ t) = omega arith

pub first_within : (t : List ℕ) → first_row t ≤ length t
unfolding first_row
first_within [] = omega arith
first_within (x ∷ t) = omega arith

pub first_none : (t : List ℕ) → length t ≡ 0 → 0 ≡ first_row t
unfolding first_row
first_none [] h = refl
first_none (x ∷ t) h = absurd (omega arith)

pub first_some : (t : List ℕ) → (length t ≡ 0 → ⊥) → 1 ≡ first_row t
unfolding first_row
first_some [] h = absurd (h refl)
first_some (x ∷ t) h = refl

pub start_within : (k : ℕ) (t : List ℕ) → start_of k t ≤ length t
start_within k t =
    let e = start_from k t in
    let a = leading_within 0 k (drop (first_row t) t) in
    let b = length-drop (first_row t) t in
    let d = first_within t in
    omega arith

-- the next section's start, looked for from a section's start on
pub start_next : (j k : ℕ) (t : List ℕ) → j ≤ k → start_of k t ≡ start_of j t + leading 0 k (drop (start_of j t) t)
start_next j k t h =
    let f = first_row t in
    let here = start_from j t in
    let on = leading_on 0 j k (drop f t) h in
    let skip : drop (leading 0 j (drop f t)) (drop f t) ≡ drop (start_of j t) t = drop-drop (leading 0 j (drop f t)) f t ∙ ap (λ n. drop n t) (sym here) in
    let same = ap (λ (l : List ℕ). leading 0 k l) skip in
    let all = start_from k t in
    omega arith

pub start_ascends : (k : ℕ) (t : List ℕ) → start_of k t ≤ start_of (k + 1) t
start_ascends k t = let e = start_next k (k + 1) t (omega arith) in omega arith

pub start_first : (k : ℕ) (t : List ℕ) → first_row t + leading 0 k (drop (first_row t) t) ≡ start_of k t
start_first k t = sym (start_from k t)

-- Places looked for number by number, each from the one before it on: what is left to look through
-- gives the places of all numbers from k on.
pub record Looking (c : ℕ) (table : List ℕ) (place : ℕ → ℕ) (k p : ℕ) : Type 0 where
  pub within : p ≤ length table
  pub on : (j : ℕ) → k ≤ j → p + leading c j (drop p table) ≡ place j

module _ (c : ℕ) (table : List ℕ) (place : ℕ → ℕ) (k p r : ℕ) (so : Looking c table place k p) (e : r ≡ p + leading c k (drop p table)) where
  pub looking_place : r ≡ place k
  looking_place = e ∙ so.on k (omega arith)

  pub looking_next : Looking c table place (k + 1) r
  looking_next = record {
    within =
        let w = so.within in
        let a = leading_within c k (drop p table) in
        let b = length-drop p table in
        omega arith;
    on = λ j h.
        let skip : drop (leading c k (drop p table)) (drop p table) ≡ drop r table = drop-drop (leading c k (drop p table)) p table ∙ ap (λ n. drop n table) (sym e) in
        let all = leading_on c k j (drop p table) (omega arith) in
        let same = ap (λ (l : List ℕ). leading c j l) skip in
        let is = so.on j (omega arith) in
        omega arith;
  }

pub looking_starts : (table : List ℕ) (p : ℕ) → p ≡ first_row table → Looking 0 table (λ k. start_of k table) 0 p
looking_starts table p e =
    let w = first_within table in
    record { within = omega arith; on = λ j h. rw e (start_first j table) }

-- the place of the first row for each number, in rows that are looked through from the start
unfoldable pub passed : ℕ → List ℕ → ℕ → ℕ
passed c rows k = leading c k rows

pub looking_rows : (c : ℕ) (rows : List ℕ) → Looking c rows (passed c rows) 0 0
unfolding passed
looking_rows c rows = record { within = omega arith; on = λ j h. omega arith }

-- a section's part stands within the table
pub part_within : (k : ℕ) (t : List ℕ) → start_of k t + length (part_of k t) ≤ length t
unfolding part_of
part_within k t =
    let a = start_within k t in
    let w = start_within (suc k) t in
    let n = length-take (start_of (suc k) t - start_of k t) (drop (start_of k t) t) in
    let d = length-drop (start_of k t) t in
    omega arith
