-- Sections of rows in turn: parted, and passed over or stopped at by a test. Assumes nothing.
use Prim.Native.Nat.{ℕ, zero, suc, ◌+◌, ◌≤◌, ◌<◌}
use mathlib.Core.Path.{◌≡◌, refl, sym, ap, ◌∙◌}
use mathlib.Core.List.{List, [], ◌∷◌, ◌++◌, append_assoc}
use mathlib.Core.Bool.{Bool, true, false}
use mathlib.Core.Logic.{◌⊎◌, inl, inr, ⊎_elim}
use native.Mathlib.Omega.{arith}
use lib.ListN.{length, length-append}
use Rattle.scope_graph.specs.Language.{◌∈◌}
use Rattle.scope_graph.proofs.Lists.{here}
use Rattle.graph_rows.specs.Admission.{Row}
use Rattle.graph_rows.specs.Formed.{cells_of, cells_from}
use Rattle.graph_change.specs.Place.{leading_rows}
use Rattle.graph_change.proofs.Leading.{stop_row, stop_none, pass_rows}

abbrev pub Five : List Row → Type 0
Five rows = (row : Row) → row ∈ rows → length row ≡ 5

pub cells_append : (k : ℕ) (above below : List Row) → cells_of k (above ++ below) ≡ cells_of k above ++ cells_of k below
unfolding cells_of
cells_append k [] below = refl
cells_append k (a ∷ above) below =
    ap (λ (l : List ℕ). k ∷ (a ++ l)) (cells_append k above below) ∙ ap (λ (l : List ℕ). k ∷ l) (sym (append_assoc a (cells_of k above) (cells_of k below)))

-- Sections in turn, parted.
pub sections_add : (m n l j i : ℕ) (rows : ℕ → List Row) → l ≡ m + n → i ≡ j + m → cells_from l j rows ≡ cells_from m j rows ++ cells_from n i rows
unfolding cells_from
sections_add zero n l j i rows e f =
    let a : l ≡ n = omega arith in
    let b : j ≡ i = omega arith in
    ap (λ (x : ℕ). cells_from x j rows) a ∙ ap (λ (x : ℕ). cells_from n x rows) b
sections_add (suc m) n zero j i rows e f = absurd (omega arith)
sections_add (suc m) n (suc l) j i rows e f =
    ap (λ (x : List ℕ). cells_of j (rows j) ++ x) (sections_add m n l (suc j) i rows (omega arith) (omega arith))
    ∙ sym (append_assoc (cells_of j (rows j)) (cells_from m (suc j) rows) (cells_from n i rows))

pub sections_same : (left j : ℕ) (rows others : ℕ → List Row) → ((i : ℕ) → j ≤ i → i < j + left → rows i ≡ others i) → cells_from left j rows ≡ cells_from left j others
unfolding cells_from
sections_same zero j rows others h = refl
sections_same (suc left) j rows others h =
    ap (λ (r : List Row). cells_of j r ++ cells_from left (suc j) rows) (h j (omega arith) (omega arith))
    ∙ ap (λ (l : List ℕ). cells_of j (others j) ++ l) (sections_same left (suc j) rows others (λ i a b. h i (omega arith) (omega arith)))

-- what comes first in sections from j on: nothing, or a row of one of them
pub record First (j : ℕ) (cells : List ℕ) : Type 0 where
  pub section : ℕ
  pub row : Row
  pub rest : List ℕ
  pub from : j ≤ section
  pub five : length row ≡ 5
  pub whole : cells ≡ section ∷ (row ++ rest)

unfoldable pub Front : ℕ → List ℕ → Type 0
Front j cells = (cells ≡ []) ⊎ First j cells

pub front_rows : (j s : ℕ) (rows : List Row) (rest : List ℕ) → j ≤ s → Five rows → Front j rest → Front j (cells_of s rows ++ rest)
unfolding cells_of Front
front_rows j s [] rest h five f = f
front_rows j s (row ∷ rows) rest h five f = inr (record {
  section = s;
  row = row;
  rest = cells_of s rows ++ rest;
  from = h;
  five = five row here;
  whole = ap (λ (l : List ℕ). s ∷ l) (append_assoc row (cells_of s rows) rest);
})

pub front_from : (left j : ℕ) (rows : ℕ → List Row) → ((i : ℕ) → j ≤ i → i < j + left → Five (rows i)) → Front j (cells_from left j rows)
unfolding cells_from Front
front_from zero j rows five = inl refl
front_from (suc left) j rows five =
    front_rows j j (rows j) (cells_from left (suc j) rows) (omega arith) (five j (omega arith) (omega arith))
    (⊎_elim (λ e. inl e) (λ f. inr (record { section = f.section; row = f.row; rest = f.rest; from = omega (arith, f.from); five = f.five; whole = f.whole }))
    (front_from left (suc j) rows (λ i a b. five i (omega arith) (omega arith))))

-- a test that fails at every row of sections from j on stops there
pub front_stops : (test : List ℕ → Bool) (j : ℕ) (cells : List ℕ) → Front j cells → ((s : ℕ) → j ≤ s → (l : List ℕ) → test (s ∷ l) ≡ false) → leading_rows test cells ≡ 0
unfolding Front
front_stops test j cells (inl e) h = ap (leading_rows test) e ∙ stop_none test
front_stops test j cells (inr f) h =
    ap (leading_rows test) f.whole ∙ stop_row test f.section f.row f.rest f.five (h f.section f.from (f.row ++ f.rest))

-- over earlier sections
pub pass_sections : (test : List ℕ → Bool) (left j : ℕ) (rows : ℕ → List Row) (rest : List ℕ) → ((i : ℕ) → j ≤ i → i < j + left → Five (rows i))
    → ((i : ℕ) → j ≤ i → i < j + left → (l : List ℕ) → test (i ∷ l) ≡ true)
    → leading_rows test (cells_from left j rows ++ rest) ≡ length (cells_from left j rows) + leading_rows test rest
unfolding cells_from
pass_sections test zero j rows rest five h = omega arith
pass_sections test (suc left) j rows rest five h =
    let own = pass_rows test j (rows j) (cells_from left (suc j) rows ++ rest) (five j (omega arith) (omega arith)) (λ row m l. h j (omega arith) (omega arith) (row ++ l)) in
    let more = pass_sections test left (suc j) rows rest (λ i a b. five i (omega arith) (omega arith)) (λ i a b. h i (omega arith) (omega arith)) in
    let n = length-append (cells_of j (rows j)) (cells_from left (suc j) rows) in
    ap (leading_rows test) (append_assoc (cells_of j (rows j)) (cells_from left (suc j) rows) rest) ∙ own ∙ omega arith
