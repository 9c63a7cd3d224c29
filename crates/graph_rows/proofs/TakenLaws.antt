-- What a table shows of the rows so far, after one row more. Assumes nothing.
use Prim.Native.Nat.{ℕ, zero, suc, ◌+◌, ◌-◌, ◌*◌}
use mathlib.Core.Path.{◌≡◌, refl, sym, ap, ◌∙◌}
use mathlib.Core.List.{List, [], ◌∷◌, ◌++◌, map-append}
use mathlib.Core.Bool.{Bool, true, false}
use native.Mathlib.Omega.{arith}
use native.Mathlib.Numerals.{add-one}
use lib.Dec.{eqb}
use lib.ListN.{drop}
use lib.Seq.{drop-drop}
use native.Mathlib.Nat.{add-zero}
use borrow.Author.Tests.{eqb-true}
use Rattle.graph_rows.specs.declared.rows.Counts.{Counts}
use Rattle.graph_rows.specs.Admission.{Row, value, row_of, counted, joined, taken}
use Rattle.graph_rows.specs.Table.{rows_at, letters_at, pairs_at, rows_back, sofar_at}
use Rattle.graph_rows.specs.Counting.{Placed, counts_after}

-- the counts before any row
abbrev pub no_counts : Counts
no_counts = record { labels = 0; pairs = 0; scopes = 0; rows = 0 }

-- one row more, at the end
pub rows_more : (m f : ℕ) (t : List ℕ) → rows_at (suc m) (drop f t) ≡ rows_at m (drop f t) ++ (row_of (drop (f + 6 * m) t) ∷ [])
unfolding rows_at
rows_more zero f t = rw (add-zero f)
rows_more (suc m) f t =
    let e : f + 6 + 6 * m ≡ f + 6 * suc m = omega arith in
    ap (λ (l : List Row). row_of (drop f t) ∷ l) (rw (drop-drop 6 f t, ← e) (rows_more m (f + 6) t))

letters_more : (m f : ℕ) (t : List ℕ) → letters_at (suc m) (drop f t) ≡ letters_at m (drop f t) ++ (value (row_of (drop (f + 6 * m) t)) 0 ∷ [])
unfolding letters_at
letters_more m f t = rw (rows_more m f t) (map-append (λ (row : Row). value row 0) (rows_at m (drop f t)) (row_of (drop (f + 6 * m) t) ∷ []))

no_rows : (t : List ℕ) → rows_at 0 t ≡ []
unfolding rows_at
no_rows t = refl

-- the counts fit the table's rows, and the next row of section k stands at place n
module _ (k n : ℕ) (t : List ℕ) (c : Counts) (p : Placed k n c) where
  taken_letters : letters_at (counted (eqb k 0) (c.labels + 1) c.labels) (drop 1 t) ≡ joined (eqb k 0) (letters_at c.labels (drop 1 t)) (value (row_of (drop n t)) 0)
  unfolding counted joined
  taken_letters = go (eqb k 0) refl
    where
      go : (b : Bool) → eqb k 0 ≡ b → letters_at (counted b (c.labels + 1) c.labels) (drop 1 t) ≡ joined b (letters_at c.labels (drop 1 t)) (value (row_of (drop n t)) 0)
      go true e =
          let z : k ≡ 0 = eqb-true k 0 e in
          let f : c.pairs ≡ 0 = p.first (omega arith) in
          let q : n ≡ 1 + 6 * c.labels + 6 * c.pairs = p.early (omega arith) in
          let r : 1 + 6 * c.labels ≡ n = omega arith in
          rw (add-one c.labels, letters_more c.labels 1 t, r)
      go false e = refl

  taken_pairs : pairs_at (counted (eqb k 0) (c.labels + 1) c.labels) (counted (eqb k 1) (c.pairs + 1) c.pairs) t ≡ joined (eqb k 1) (pairs_at c.labels c.pairs t) (row_of (drop n t))
  unfolding counted joined pairs_at
  taken_pairs = go (eqb k 0) (eqb k 1) refl refl
    where
      go : (a b : Bool) → eqb k 0 ≡ a → eqb k 1 ≡ b → pairs_at (counted a (c.labels + 1) c.labels) (counted b (c.pairs + 1) c.pairs) t ≡ joined b (pairs_at c.labels c.pairs t) (row_of (drop n t))
      go true true d e = let x : k ≡ 0 = eqb-true k 0 d in let y : k ≡ 1 = eqb-true k 1 e in absurd (omega arith)
      go true false d e =
          let x : k ≡ 0 = eqb-true k 0 d in
          let f : c.pairs ≡ 0 = p.first (omega arith) in
          rw f (no_rows (drop (1 + 6 * (c.labels + 1)) t) ∙ sym (no_rows (drop (1 + 6 * c.labels) t)))
      go false true d e =
          let y : k ≡ 1 = eqb-true k 1 e in
          let q : n ≡ 1 + 6 * c.labels + 6 * c.pairs = p.early (omega arith) in
          rw (add-one c.pairs, rows_more c.pairs (1 + 6 * c.labels) t, ← q)
      go false false d e = refl

  taken_own : rows_back (c.rows + 1) (n + 6) t ≡ row_of (drop n t) ∷ rows_back c.rows n t
  unfolding rows_back
  taken_own = let e : n + 6 - 6 ≡ n = omega arith in rw (add-one c.rows, e)

  -- with the row at place n taken
  pub sofar_taken : sofar_at t (n + 6) (counts_after k c (value (row_of (drop n t)) 0)) ≡ taken k (sofar_at t n c) (row_of (drop n t))
  unfolding sofar_at counts_after taken
  sofar_taken = λ i. record { letters = taken_letters i; pairs = taken_pairs i; scopes = counted (eqb k 4) (value (row_of (drop n t)) 0) c.scopes; rows = c.rows + 1; own = taken_own i }
