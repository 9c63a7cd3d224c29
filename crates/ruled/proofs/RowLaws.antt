-- The rows that an expression becomes: how many they are, that they are formed and ascend. Assumes
-- nothing.
use Prim.Native.Nat.{ℕ, zero, suc, ◌/◌, ◌%◌, ◌≤◌, ◌<◌}
use mathlib.Core.Path.{◌≡◌, refl, ap}
use mathlib.Core.Bool.{Bool, true, false}
use mathlib.Core.Logic.{⊎_elim}
use mathlib.Core.List.Memᴰ
use mathlib.Core.List.{List, [], ◌∷◌}
use native.Mathlib.Omega.{arith}
use lib.Dec.{ltb}
use lib.ListN.{length, get_or, length-append}
use borrow.Author.Tests.{ltb-true}
use Rattle.scope_graph.specs.Language.{◌∈◌}
use Rattle.scope_graph.specs.Listing.{Pairwise}
use Rattle.scope_graph.proofs.Lists.{and_left, and_right, pairwise_append}
use Rattle.graph_rows.specs.Admission.{Row}
use Rattle.graph_rows.specs.Decode.{kept_if}
use Rattle.ruled.specs.Ruled.{rows_to, is_transition, is_accepting, transition_at, accept_at, transitions_to, accepts_to}

-- a row that is kept, and how many
kept_is : (t : Bool) (row x : Row) → x ∈ kept_if t row [] → (t ≡ true) × (x ≡ row)
unfolding kept_if
kept_is true row x m = ⊎_elim (λ e. (refl, e)) (λ n. absurd (Memᴰ.not-nil n)) (Memᴰ.cases_cons m)
kept_is false row x m = absurd (Memᴰ.not-nil m)

kept_one : (t : Bool) (row : Row) → length (kept_if t row []) ≤ 1
unfolding kept_if
kept_one true row = omega arith
kept_one false row = omega arith

-- rows by the cell that they are of
module _ (f : ℕ → List Row) where
  pub rows_most : ((k : ℕ) → length (f k) ≤ 1) → (n : ℕ) → length (rows_to f n) ≤ n
  unfolding rows_to
  rows_most one zero = omega arith
  rows_most one (suc n) = let l = length-append (rows_to f n) (f n) in let r = rows_most one n in let o = one n in omega arith

  pub rows_of : (n : ℕ) (row : Row) → row ∈ rows_to f n → (k : ℕ) × (k < n) × (row ∈ f k)
  unfolding rows_to
  rows_of zero row m = absurd (Memᴰ.not-nil m)
  rows_of (suc n) row m =
      ⊎_elim (λ a. let r = rows_of n row a in let h = r.1 in (r.0, omega arith, r.2)) (λ b. (n, omega arith, b)) (Memᴰ.append_cases (rows_to f n) m)

  pub rows_pairwise : (R : Row → Row → Type 0) → ((k : ℕ) → Pairwise R (f k)) → ((j k : ℕ) (a b : Row) → j < k → a ∈ f j → b ∈ f k → R a b) → (n : ℕ) → Pairwise R (rows_to f n)
  unfolding rows_to
  rows_pairwise R own apart zero = tt
  rows_pairwise R own apart (suc n) =
      pairwise_append R (rows_to f n) (f n) (rows_pairwise R own apart n) (own n)
      (λ a b m k. let r = rows_of n a m in apart r.0 n a b r.1 r.2 k)

pub kept_pairwise : (R : Row → Row → Type 0) (t : Bool) (row : Row) → Pairwise R (kept_if t row [])
unfolding kept_if
kept_pairwise R true row = ((λ y m. absurd (Memᴰ.not-nil m)), tt)
kept_pairwise R false row = tt

abbrev pub transition : ℕ → ℕ → Row
transition k to = k / 8 ∷ k % 8 ∷ to ∷ 0 ∷ 0 ∷ []

abbrev pub accepting : ℕ → Row
accepting q = q ∷ 0 ∷ 0 ∷ 0 ∷ 0 ∷ []

module _ (next : List ℕ) (states labels : ℕ) where
  abbrev to : ℕ → ℕ
  to k = get_or next k 0

  -- the row of a cell, and what its test says
  pub transition_is : (k : ℕ) (row : Row) → row ∈ transition_at states labels k (to k) → (row ≡ transition k (to k)) × (k / 8 < states) × (k % 8 < labels) × (to k < 16)
  unfolding transition_at is_transition
  transition_is k row m =
      let r = kept_is (is_transition states labels k (to k)) (transition k (to k)) row m in
      let more = and_right (ltb (k / 8) states) _ r.0 in
      (r.1, ltb-true (k / 8) states (and_left (ltb (k / 8) states) _ r.0), ltb-true (k % 8) labels (and_left (ltb (k % 8) labels) _ more), ltb-true (to k) 16 (and_right (ltb (k % 8) labels) _ more))

  pub transitions_most : (n : ℕ) → length (transitions_to next states labels n) ≤ n
  unfolding transitions_to transition_at
  transitions_most n = rows_most _ (λ k. kept_one (is_transition states labels k (to k)) (transition k (to k))) n

  pub transitions_five : (n : ℕ) (row : Row) → row ∈ transitions_to next states labels n → length row ≡ 5
  unfolding transitions_to
  transitions_five n row m = let r = rows_of _ n row m in let e = transition_is r.0 row r.2 in ap length e.0

module _ (cells : List Bool) (states : ℕ) where
  abbrev cell : ℕ → Bool
  cell q = get_or cells q false

  pub accept_is : (q : ℕ) (row : Row) → row ∈ accept_at states q (cell q) → (row ≡ accepting q) × (q < states) × (cell q ≡ true)
  unfolding accept_at is_accepting
  accept_is q row m =
      let r = kept_is (is_accepting states q (cell q)) (accepting q) row m in
      (r.1, ltb-true q states (and_left (ltb q states) _ r.0), and_right (ltb q states) _ r.0)

  pub accepts_most : (n : ℕ) → length (accepts_to cells states n) ≤ n
  unfolding accepts_to accept_at
  accepts_most n = rows_most _ (λ q. kept_one (is_accepting states q (cell q)) (accepting q)) n

  pub accepts_five : (n : ℕ) (row : Row) → row ∈ accepts_to cells states n → length row ≡ 5
  unfolding accepts_to
  accepts_five n row m = let r = rows_of _ n row m in let e = accept_is r.0 row r.2 in ap length e.0
