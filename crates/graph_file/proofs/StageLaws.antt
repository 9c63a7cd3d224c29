-- Laws of the table that reading fills. Assumes nothing.
use Prim.Native.Nat.{ℕ, zero, suc, ◌+◌, ◌-◌, ◌*◌, ◌≤◌, ◌<◌}
use mathlib.Core.Path.{◌≡◌, refl, sym, ◌∙◌}
use mathlib.Core.List.{List, [], ◌∷◌, ◌++◌, append_assoc}
use native.Mathlib.Omega.{arith}
use lib.ListN.{length, get_or, take, drop, get_or-append, length-append}
use lib.Seq.{get_or-take, length-take-le, take_at, drop_at, drop-drop}
use Rattle.graph_rows.specs.declared.rows.Counts.{Counts}
use Rattle.graph_rows.specs.Admission.{Row, value, row_of, taken}
use Rattle.graph_rows.specs.Table.{rows_at, letters_at, pairs_at, rows_back, sofar_at}
use Rattle.graph_rows.specs.Counting.{Placed, counts_after}
use Rattle.graph_rows.proofs.TakenLaws.{no_counts, sofar_taken}
use Rattle.graph_rows.proofs.RowLaws.{row_cells}
use Rattle.graph_rows.proofs.PutLaws.{five}

-- the cells before place n are kept by what is written from n on
kept : (t : List ℕ) (n : ℕ) (ys : List ℕ) (i : ℕ) → n ≤ length t → i < n → get_or (take n t ++ ys) i 0 ≡ get_or t i 0
kept t n ys i h l =
    let e : length (take n t) ≡ n = length-take-le n t h in
    get_or-append (take n t) ys 0 i (omega arith) ∙ get_or-take n t i 0 l

module _ (t : List ℕ) (n : ℕ) (ys : List ℕ) (fits : n ≤ length t) where
  row_kept : (p : ℕ) → p + 6 ≤ n → row_of (drop p (take n t ++ ys)) ≡ row_of (drop p t)
  row_kept p h =
      row_cells (take n t ++ ys) p
      ∙ rw (kept t n ys (p + 1) fits (omega arith), kept t n ys (p + 2) fits (omega arith), kept t n ys (p + 3) fits (omega arith), kept t n ys (p + 4) fits (omega arith), kept t n ys (p + 5) fits (omega arith)) (sym (row_cells t p))

  rows_kept : (m f : ℕ) → f + 6 * m ≤ n → rows_at m (drop f (take n t ++ ys)) ≡ rows_at m (drop f t)
  unfolding rows_at
  rows_kept zero f h = refl
  rows_kept (suc m) f h =
      rw (row_kept f (omega arith), drop-drop 6 f (take n t ++ ys), drop-drop 6 f t, rows_kept m (f + 6) (omega arith))

  letters_kept : (m f : ℕ) → f + 6 * m ≤ n → letters_at m (drop f (take n t ++ ys)) ≡ letters_at m (drop f t)
  unfolding letters_at
  letters_kept m f h = rw (rows_kept m f h)

-- the row written at place n
row_new : (t : List ℕ) (n k : ℕ) (row ys : List ℕ) → n ≤ length t → length row ≡ 5 → row_of (drop n (take n t ++ ((k ∷ row) ++ ys))) ≡ row
unfolding row_of
row_new t n k row ys h l = rw (drop_at (take n t) ((k ∷ row) ++ ys) n (length-take-le n t h)) (inner row l)
  where
    inner : (r : List ℕ) → length r ≡ 5 → get_or (r ++ ys) 0 0 ∷ get_or (r ++ ys) 1 0 ∷ get_or (r ++ ys) 2 0 ∷ get_or (r ++ ys) 3 0 ∷ get_or (r ++ ys) 4 0 ∷ [] ≡ r
    inner r e = rw (get_or-append r ys 0 0 (omega arith), get_or-append r ys 0 1 (omega arith), get_or-append r ys 0 2 (omega arith), get_or-append r ys 0 3 (omega arith), get_or-append r ys 0 4 (omega arith)) (five r e)

-- the rows before place n are kept
own_kept : (t : List ℕ) (n : ℕ) (ys : List ℕ) (rows p : ℕ) → n ≤ length t → p ≤ n → 6 * rows ≤ p → rows_back rows p (take n t ++ ys) ≡ rows_back rows p t
unfolding rows_back
own_kept t n ys zero p h l r = refl
own_kept t n ys (suc rows) p h l r =
    rw (row_kept t n ys h (p - 6) (omega arith), own_kept t n ys rows (p - 6) h (omega arith) (omega arith))

-- what is written from place n on changes nothing of what the rows before leave
pub sofar_kept : (k n : ℕ) (t ys : List ℕ) (c : Counts) → Placed k n c → n ≤ length t → sofar_at (take n t ++ ys) n c ≡ sofar_at t n c
unfolding sofar_at pairs_at
sofar_kept k n t ys c p h = λ i. record { letters = letters_kept t n ys h c.labels 1 (omega (arith, p.within)) i; pairs = rows_kept t n ys h c.pairs (1 + 6 * c.labels) p.within i; scopes = c.scopes; rows = c.rows; own = own_kept t n ys c.rows n h (omega arith) (omega (arith, p.rowed)) i }

-- the table with a row of section k written at place n
unfoldable pub grown : ℕ → ℕ → List ℕ → Row → List ℕ
grown k n t row = take n t ++ ((k ∷ row) ++ drop (n + 6) t)

module _ (k n : ℕ) (t : List ℕ) (row : Row) (c : Counts) (p : Placed k n c) (fits : n ≤ length t) (whole : length row ≡ 5) where
  pub grown_row : row_of (drop n (grown k n t row)) ≡ row
  unfolding grown
  grown_row = row_new t n k row (drop (n + 6) t) fits whole

  -- the section's rows so far are kept
  pub grown_own : rows_back c.rows n (grown k n t row) ≡ rows_back c.rows n t
  unfolding grown
  grown_own = own_kept t n ((k ∷ row) ++ drop (n + 6) t) c.rows n fits (omega arith) (omega (arith, p.rowed))

  pub grown_kept : sofar_at (grown k n t row) n c ≡ sofar_at t n c
  unfolding grown
  grown_kept = sofar_kept k n t ((k ∷ row) ++ drop (n + 6) t) c p fits

  -- with the row written, the table shows what the rows leave after it
  pub sofar_grown : sofar_at (grown k n t row) (n + 6) (counts_after k c (value row 0)) ≡ taken k (sofar_at t n c) row
  sofar_grown = rw (grown_row, grown_kept) at (sofar_taken k n (grown k n t row) c p)

  pub made_grown : take (n + 6) (grown k n t row) ≡ take n t ++ (k ∷ row)
  unfolding grown
  made_grown =
      let e : length (take n t) ≡ n = length-take-le n t fits in
      rw (← append_assoc (take n t) (k ∷ row) (drop (n + 6) t)) (take_at (take n t ++ (k ∷ row)) (drop (n + 6) t) (n + 6) (length-append (take n t) (k ∷ row) ∙ omega arith))

-- the counts before any row, by what a default says of each
pub none_counted : (c : Counts) → (c.labels ≡ 0) × ((c.pairs ≡ 0) × ((c.scopes ≡ 0) × (c.rows ≡ 0))) → c ≡ no_counts
none_counted c z = λ i. record { labels = z.0 i; pairs = z.1.0 i; scopes = z.1.1.0 i; rows = z.1.1.1 i }
