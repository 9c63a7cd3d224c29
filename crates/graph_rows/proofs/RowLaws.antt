-- Laws of the rows of a table. Assumes nothing.
use Prim.Native.Nat.{ℕ, zero, suc, ◌+◌, ◌-◌, ◌*◌, ◌≤◌, ◌<◌}
use mathlib.Core.Path.{◌≡◌, refl, sym, ap, ◌∙◌}
use mathlib.Core.List.{List, [], ◌∷◌}
use mathlib.Core.Bool.{Bool, ◌||◌}
use native.Mathlib.Omega.{arith}
use lib.ListN.{length, get_or, drop, drop_of_length-le, get_or-eq_default, take, length-drop}
use lib.Seq.{get_or-drop, drop-drop}
use native.Mathlib.Nat.{sub-zero, zero-add, add-zero}
use borrow.Author.Tests.{eq-eqb, ne_eqb}
use Rattle.std.specs.List.{list_any, range_with_len}
use Rattle.graph_rows.specs.Admission.{Row, value, row_of, place}
use Rattle.graph_rows.specs.Order.{some_row}
use Rattle.graph_rows.specs.Table.{rows_at, letters_at}

-- the row at a place, cell by cell
pub row_cells : (t : List ℕ) (p : ℕ) → row_of (drop p t) ≡ get_or t (p + 1) 0 ∷ get_or t (p + 2) 0 ∷ get_or t (p + 3) 0 ∷ get_or t (p + 4) 0 ∷ get_or t (p + 5) 0 ∷ []
unfolding row_of
row_cells t p = rw (get_or-drop p t 1 0, get_or-drop p t 2 0, get_or-drop p t 3 0, get_or-drop p t 4 0, get_or-drop p t 5 0)

-- the five values are the cells after the first
pub row_part : (t : List ℕ) (p : ℕ) → p + 6 ≤ length t → take (p + 6 - (p + 1)) (drop (p + 1) t) ≡ row_of (drop p t)
row_part t p h =
    let five : p + 6 - (p + 1) ≡ 5 = omega arith in
    rw five (inner (drop (p + 1) t) (omega (arith, length-drop (p + 1) t)) ∙ rw (cell_at 0 1 (omega arith), cell_at 1 2 (omega arith), cell_at 2 3 (omega arith), cell_at 3 4 (omega arith), cell_at 4 5 (omega arith)) (sym (row_cells t p)))
  where
    cell_at : (i j : ℕ) → p + 1 + i ≡ p + j → get_or (drop (p + 1) t) i 0 ≡ get_or t (p + j) 0
    cell_at i j e = get_or-drop (p + 1) t i 0 ∙ ap (λ (n : ℕ). get_or t n 0) e

    inner : (l : List ℕ) → 5 ≤ length l → take 5 l ≡ get_or l 0 0 ∷ get_or l 1 0 ∷ get_or l 2 0 ∷ get_or l 3 0 ∷ get_or l 4 0 ∷ []
    inner [] h = absurd (omega arith)
    inner (a ∷ []) h = absurd (omega arith)
    inner (a ∷ b ∷ []) h = absurd (omega arith)
    inner (a ∷ b ∷ c ∷ []) h = absurd (omega arith)
    inner (a ∷ b ∷ c ∷ d ∷ []) h = absurd (omega arith)
    inner (a ∷ b ∷ c ∷ d ∷ e ∷ l) h = refl

-- one value of it, and none past the fifth
pub value_cell : (t : List ℕ) (p c : ℕ) → c < 5 → value (row_of (drop p t)) c ≡ get_or t (p + 1 + c) 0
value_cell t p c h = rw (row_cells t p) (inner c h)
  where
    inner : (c : ℕ) → c < 5 → get_or (get_or t (p + 1) 0 ∷ get_or t (p + 2) 0 ∷ get_or t (p + 3) 0 ∷ get_or t (p + 4) 0 ∷ get_or t (p + 5) 0 ∷ []) c 0 ≡ get_or t (p + 1 + c) 0
    inner zero l = rw (add-zero (p + 1))
    inner (suc zero) l = ap (λ (j : ℕ). get_or t j 0) (omega arith)
    inner (suc (suc zero)) l = ap (λ (j : ℕ). get_or t j 0) (omega arith)
    inner (suc (suc (suc zero))) l = ap (λ (j : ℕ). get_or t j 0) (omega arith)
    inner (suc (suc (suc (suc zero)))) l = ap (λ (j : ℕ). get_or t j 0) (omega arith)
    inner (suc (suc (suc (suc (suc n))))) l = absurd (omega arith)

pub value_none : (t : List ℕ) (p c : ℕ) → 5 ≤ c → value (row_of (drop p t)) c ≡ 0
value_none t p c h = rw (row_cells t p) (get_or-eq_default (get_or t (p + 1) 0 ∷ get_or t (p + 2) 0 ∷ get_or t (p + 3) 0 ∷ get_or t (p + 4) 0 ∷ get_or t (p + 5) 0 ∷ []) 0 {n = c} (omega arith))

-- past the table's end a row has no value
pub row_none : (t : List ℕ) (p : ℕ) → length t ≤ p → row_of (drop p t) ≡ 0 ∷ 0 ∷ 0 ∷ 0 ∷ 0 ∷ []
unfolding row_of
row_none t p h = rw (drop_of_length-le t {i = p} h)

-- of n rows from place f on, those from the i-th on: the i-th and those after it
pub rows_step : (t : List ℕ) (f n i : ℕ) → i < n → rows_at (n - i) (drop (f + 6 * i) t) ≡ row_of (drop (f + 6 * i) t) ∷ rows_at (n - (i + 1)) (drop (f + 6 * (i + 1)) t)
unfolding rows_at
rows_step t f n i h =
    let e : n - i ≡ suc (n - (i + 1)) = omega arith in
    let d : f + 6 * (i + 1) ≡ f + 6 * i + 6 = omega arith in
    rw (e, d, ← drop-drop 6 (f + 6 * i) t)

pub rows_end : (t : List ℕ) (f n i : ℕ) → n ≤ i → rows_at (n - i) (drop (f + 6 * i) t) ≡ []
unfolding rows_at
rows_end t f n i h = let e : n - i ≡ 0 = omega arith in rw e

-- the labels' letters from the i-th on, one at a time
letters_step : (t : List ℕ) (n i : ℕ) → i < n → letters_at (n - i) (drop (1 + 6 * i) t) ≡ get_or t (1 + 6 * i + 1) 0 ∷ letters_at (n - (i + 1)) (drop (1 + 6 * (i + 1)) t)
unfolding letters_at row_of
letters_step t n i h = rw (rows_step t 1 n i h, get_or-drop (1 + 6 * i) t 1 0)

pub place_hit : (x y : ℕ) (l : List ℕ) → y ≡ x → place x (y ∷ l) ≡ 0
unfolding place
place_hit x y l e = rw (eq-eqb y x e, place)

pub place_miss : (x y : ℕ) (l : List ℕ) → (y ≡ x → ⊥) → place x (y ∷ l) ≡ suc (place x l)
unfolding place
place_miss x y l e = rw (ne_eqb y x e, place)

-- where the i-th letter is x, where it is not, and after the last one
pub letter_hit : (x : ℕ) (t : List ℕ) (n i : ℕ) → i < n → get_or t (1 + 6 * i + 1) 0 ≡ x → place x (letters_at (n - i) (drop (1 + 6 * i) t)) ≡ 0
letter_hit x t n i h e = rw (letters_step t n i h) (place_hit x _ _ e)

pub letter_miss : (x : ℕ) (t : List ℕ) (n i : ℕ) → i < n → (get_or t (1 + 6 * i + 1) 0 ≡ x → ⊥) → place x (letters_at (n - i) (drop (1 + 6 * i) t)) ≡ suc (place x (letters_at (n - (i + 1)) (drop (1 + 6 * (i + 1)) t)))
letter_miss x t n i h e = rw (letters_step t n i h) (place_miss x _ _ e)

pub letter_none : (x : ℕ) (t : List ℕ) (n i : ℕ) → n ≤ i → place x (letters_at (n - i) (drop (1 + 6 * i) t)) ≡ 0
unfolding letters_at place
letter_none x t n i h = rw (rows_end t 1 n i h)

pub letter_start : (x : ℕ) (t : List ℕ) (n : ℕ) → 0 + place x (letters_at (n - 0) (drop (1 + 6 * 0) t)) ≡ place x (letters_at n (drop 1 t))
letter_start x t n = rw (sub-zero n, zero-add (place x (letters_at n (drop 1 t))))

pub letters_length : (n : ℕ) (t : List ℕ) → length (letters_at n t) ≡ n
unfolding letters_at rows_at
letters_length zero t = refl
letters_length (suc n) t = ap suc (letters_length n (drop 6 t))

-- a test of some row of n from the i-th on, which stand from place f on
some_from : (test : Row → Bool) (t : List ℕ) (f n i : ℕ) → list_any (λ j. test (row_of (drop (f + 6 * j) t))) (range_with_len i n) ≡ some_row test (rows_at n (drop (f + 6 * i) t))
unfolding some_row rows_at
some_from test t f zero i = refl
some_from test t f (suc n) i =
    let d : f + 6 * (i + 1) ≡ f + 6 * i + 6 = omega arith in
    ap (λ (b : Bool). test (row_of (drop (f + 6 * i) t)) || b) (some_from test t f n (i + 1) ∙ rw (d, ← drop-drop 6 (f + 6 * i) t))

pub some_told : (test : Row → Bool) (t : List ℕ) (f n : ℕ) → list_any (λ j. test (row_of (drop (f + 6 * j) t))) (range_with_len 0 n) ≡ some_row test (rows_at n (drop f t))
some_told test t f n = some_from test t f n 0 ∙ rw (add-zero f)

pub row_of_five : (s : List ℕ) → length (row_of s) ≡ 5
unfolding row_of
row_of_five s = refl
