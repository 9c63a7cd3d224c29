-- The rows of a part of a table, one after the other. Assumes nothing.
use Prim.Native.Nat.{ℕ, zero, suc, ◌+◌, ◌-◌, ◌*◌, ◌/◌, ◌≤◌, ◌<◌}
use mathlib.Core.Path.{◌≡◌, refl, ap, ◌∙◌}
use mathlib.Core.Bool.{Bool, true, false, ◌&&◌}
use mathlib.Core.Option.{some, none}
use mathlib.Core.List.{List, [], ◌∷◌, map}
use mathlib.Core.Logic.{⊎_elim}
use native.Mathlib.Omega.{arith}
use lib.Dec.{eqb}
use lib.ListN.{length, get_or, drop, length-drop}
use lib.Seq.{drop-drop}
use Rattle.scope_graph.specs.Rows.{any_of, Transition, next_by}
use Rattle.graph_rows.specs.Admission.{Row, value, row_of, blank}
use Rattle.graph_rows.proofs.RowLaws.{row_cells}
use Rattle.graph_table.specs.Sections.{rows_of}
use Rattle.graph_table.proofs.Tests.{below_or}

rows_six : (l : List ℕ) → 6 ≤ length l → rows_of l ≡ row_of l ∷ rows_of (drop 6 l)
unfolding rows_of row_of
rows_six [] h = absurd (omega arith)
rows_six (s ∷ []) h = absurd (omega arith)
rows_six (s ∷ a ∷ []) h = absurd (omega arith)
rows_six (s ∷ a ∷ b ∷ []) h = absurd (omega arith)
rows_six (s ∷ a ∷ b ∷ c ∷ []) h = absurd (omega arith)
rows_six (s ∷ a ∷ b ∷ c ∷ d ∷ []) h = absurd (omega arith)
rows_six (s ∷ a ∷ b ∷ c ∷ d ∷ e ∷ l) h = refl

rows_few : (l : List ℕ) → length l < 6 → rows_of l ≡ []
unfolding rows_of
rows_few [] h = refl
rows_few (s ∷ []) h = refl
rows_few (s ∷ a ∷ []) h = refl
rows_few (s ∷ a ∷ b ∷ []) h = refl
rows_few (s ∷ a ∷ b ∷ c ∷ []) h = refl
rows_few (s ∷ a ∷ b ∷ c ∷ d ∷ []) h = refl
rows_few (s ∷ a ∷ b ∷ c ∷ d ∷ e ∷ l) h = absurd (omega arith)

module _ (s : List ℕ) (p : ℕ) where
  pub rows_next : 6 ≤ length s - p → rows_of (drop p s) ≡ row_of (drop p s) ∷ rows_of (drop (p + 6) s)
  rows_next h = rw (← drop-drop 6 p s) (rows_six (drop p s) (rw (length-drop p s) h))

  pub rows_none : length s - p < 6 → rows_of (drop p s) ≡ []
  rows_none h = rows_few (drop p s) (rw (length-drop p s) h)

  -- some row's test
  module _ {B : Type 0} (f : Row → B) (test : B → Bool) where
    pub any_hit : 6 ≤ length s - p → test (f (row_of (drop p s))) ≡ true → any_of test (map f (rows_of (drop p s))) ≡ true
    unfolding any_of
    any_hit h e = rw (rows_next h, e)

    pub any_miss : 6 ≤ length s - p → test (f (row_of (drop p s))) ≡ false → any_of test (map f (rows_of (drop p s))) ≡ any_of test (map f (rows_of (drop (p + 6) s)))
    unfolding any_of
    any_miss h e = rw (rows_next h, e)

    pub any_end : length s - p < 6 → any_of test (map f (rows_of (drop p s))) ≡ false
    unfolding any_of
    any_end h = rw (rows_none h)

  -- the next state
  module _ (f : Row → Transition) (q l : ℕ) where
    pub next_hit : 6 ≤ length s - p → (eqb (f (row_of (drop p s))).state q && eqb (f (row_of (drop p s))).label l) ≡ true → next_by (map f (rows_of (drop p s))) q l ≡ some (f (row_of (drop p s))).next
    unfolding next_by
    next_hit h e = rw (rows_next h, e, next_by)

    pub next_miss : 6 ≤ length s - p → (eqb (f (row_of (drop p s))).state q && eqb (f (row_of (drop p s))).label l) ≡ false → next_by (map f (rows_of (drop p s))) q l ≡ next_by (map f (rows_of (drop (p + 6) s))) q l
    unfolding next_by
    next_miss h e = rw (rows_next h, e, next_by)

    pub next_end : length s - p < 6 → next_by (map f (rows_of (drop p s))) q l ≡ none
    unfolding next_by
    next_end h = rw (rows_none h)

-- how many rows there are
pub rows_count : (n : ℕ) (t : List ℕ) → length t ≤ n → length (rows_of t) ≡ length t / 6
rows_count zero t h = let few : length t < 6 = omega arith in ap length (rows_few t few) ∙ omega arith
rows_count (suc n) t h =
    ⊎_elim (λ (y : length t < 6). ap length (rows_few t y) ∙ omega arith)
    (λ (m : 6 ≤ length t).
    let rest = rows_count n (drop 6 t) (rw (length-drop 6 t) (omega arith)) in
    let less = length-drop 6 t in
    let first = ap length (rows_six t m) in
    omega arith)
    (below_or (length t) 6)

-- the row of a number
rows_at : (i : ℕ) (t : List ℕ) → 6 * i + 6 ≤ length t → get_or (rows_of t) i blank ≡ row_of (drop (6 * i) t)
rows_at zero t h = rw (rows_six t (omega arith))
rows_at (suc i) t h =
    let e : 6 * suc i ≡ 6 + 6 * i = omega arith in
    rw (rows_six t (omega arith), e, ← drop-drop (6 * i) 6 t) (rows_at i (drop 6 t) (rw (length-drop 6 t) (omega arith)))

rows_past : (i : ℕ) (t : List ℕ) → length t < 6 * i + 6 → get_or (rows_of t) i blank ≡ blank
rows_past zero t h = rw (rows_few t (omega arith))
rows_past (suc i) t h =
    ⊎_elim (λ (y : length t < 6). rw (rows_few t y))
    (λ (n : 6 ≤ length t). rw (rows_six t n) (rows_past i (drop 6 t) (rw (length-drop 6 t) (omega arith))))
    (below_or (length t) 6)

pub row_at : (t : List ℕ) (i : ℕ) → i < length t / 6 → get_or (rows_of t) i blank ≡ row_of (drop (6 * i) t)
row_at t i h = rows_at i t (omega arith)

pub row_past : (t : List ℕ) (i : ℕ) → length t / 6 ≤ i → get_or (rows_of t) i blank ≡ blank
row_past t i h = rows_past i t (omega arith)

-- a row's value is the cell at its place
pub value_cell : (t : List ℕ) (p c : ℕ) → c < 5 → value (row_of (drop p t)) c ≡ get_or t (p + 1 + c) 0
value_cell t p zero h = rw (row_cells t p) (ap (λ n. get_or t n 0) (omega arith))
value_cell t p (suc zero) h = rw (row_cells t p) (ap (λ n. get_or t n 0) (omega arith))
value_cell t p (suc (suc zero)) h = rw (row_cells t p) (ap (λ n. get_or t n 0) (omega arith))
value_cell t p (suc (suc (suc zero))) h = rw (row_cells t p) (ap (λ n. get_or t n 0) (omega arith))
value_cell t p (suc (suc (suc (suc zero)))) h = rw (row_cells t p) (ap (λ n. get_or t n 0) (omega arith))
value_cell t p (suc (suc (suc (suc (suc c))))) h = absurd (omega arith)
