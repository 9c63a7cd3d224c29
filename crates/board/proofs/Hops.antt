-- The hops of the block are those of the edge rows, where these are few and in range. Assumes
-- nothing.
use Prim.Native.Nat.{ℕ, zero, suc, ◌+◌, ◌-◌, ◌%◌, ◌≤◌, ◌<◌}
use mathlib.Core.Path.{◌≡◌, refl, ap, ◌∙◌}
use mathlib.Core.Logic.{◌⊎◌, inl, inr}
use mathlib.Core.List.{List, [], ◌∷◌, map}
use native.Mathlib.Omega.{arith}
use lib.ListN.{length, take}
use lib.Seq.{take_all}
use Rattle.scope_graph.specs.Language.{◌∈◌}
use Rattle.scope_graph.specs.Path.{HopOf}
use Rattle.scope_graph.specs.Turns.{Turned}
use Rattle.scope_graph.proofs.Lists.{here, there}
use Rattle.graph_rows.specs.Admission.{Row, value}
use Rattle.graph_table.specs.Rows.{hop_to, by_scope, row_hops}
use Rattle.graph_table.proofs.Laws.{by_later, by_own, by_earlier, rows_none, compare}
use Rattle.graph_table.specs.Sections.{rows_of}
use Rattle.board.specs.Edges.{turn_number, narrow, below, placed}
use Rattle.graph_table.proofs.Tests.{below_or}

-- rows that a cell of the block holds
pub record Fits (row : Row) : Type 0 where
  pub from : value row 0 < 64
  pub label : value row 1 < 8
  pub to : value row 2 < 64
  pub turn : value row 3 < 128

-- a hop in range is itself in its cell
narrow_same : (label turn to : ℕ) → label < 8 → turn < 128 → to < 64 → narrow (hop_to label turn to) ≡ hop_to label turn to
unfolding narrow turn_number
narrow_same label turn to h i k =
    let x : label % 8 ≡ label = omega arith in
    let y : turn % 128 ≡ turn = omega arith in
    let z : to % 64 ≡ to = omega arith in
    rw (x, y, z)

narrow_row : (s from label turn to : ℕ) (rest : List (HopOf Turned)) → label < 8 → turn < 128 → to < 64 → map narrow rest ≡ rest
    → map narrow (by_scope s from [] (hop_to label turn to ∷ rest) rest) ≡ by_scope s from [] (hop_to label turn to ∷ rest) rest
narrow_row s from label turn to rest h i k so = at (compare s from)
  where
    at : (s < from) ⊎ ((from ≡ s) ⊎ (from < s)) → map narrow (by_scope s from [] (hop_to label turn to ∷ rest) rest) ≡ by_scope s from [] (hop_to label turn to ∷ rest) rest
    at (inl x) = rw (by_later s from [] (hop_to label turn to ∷ rest) rest x)
    at (inr (inl x)) = rw (by_own s from [] (hop_to label turn to ∷ rest) rest x, narrow_same label turn to h i k, so)
    at (inr (inr x)) = rw (by_earlier s from [] (hop_to label turn to ∷ rest) rest x) so

pub fitting_same : (s : ℕ) (l : List ℕ) → ((row : Row) → row ∈ rows_of l → Fits row) → map narrow (row_hops l s) ≡ row_hops l s
unfolding row_hops rows_of
fitting_same s [] fit = refl
fitting_same s (a ∷ []) fit = refl
fitting_same s (a ∷ b ∷ []) fit = refl
fitting_same s (a ∷ b ∷ c ∷ []) fit = refl
fitting_same s (a ∷ b ∷ c ∷ d ∷ []) fit = refl
fitting_same s (a ∷ b ∷ c ∷ d ∷ e ∷ []) fit = refl
fitting_same s (a ∷ b ∷ c ∷ d ∷ e ∷ f ∷ l) fit =
    let row = fit (b ∷ c ∷ d ∷ e ∷ f ∷ []) here in
    narrow_row s b c e d (row_hops l s) row.label row.turn row.to (fitting_same s l (λ r m. fit r (there m)))

-- no row leaves a scope past the last
pub past_none : (s : ℕ) → 64 ≤ s → (l : List ℕ) → ((row : Row) → row ∈ rows_of l → Fits row) → row_hops l s ≡ []
unfolding row_hops rows_of
past_none s h [] fit = refl
past_none s h (a ∷ []) fit = refl
past_none s h (a ∷ b ∷ []) fit = refl
past_none s h (a ∷ b ∷ c ∷ []) fit = refl
past_none s h (a ∷ b ∷ c ∷ d ∷ []) fit = refl
past_none s h (a ∷ b ∷ c ∷ d ∷ e ∷ []) fit = refl
past_none s h (a ∷ b ∷ c ∷ d ∷ e ∷ f ∷ l) fit =
    let low = (fit (b ∷ c ∷ d ∷ e ∷ f ∷ []) here).from in
    let less : b < s = omega arith in
    by_earlier s b [] (hop_to c e d ∷ row_hops l s) (row_hops l s) less ∙ past_none s h l (λ r m. fit r (there m))

-- each row is found for at most one scope
module _ (a from label to turn x : ℕ) (cells : List ℕ) where
  abbrev with_row : List ℕ
  with_row = a ∷ from ∷ label ∷ to ∷ turn ∷ x ∷ cells

  abbrev found : ℕ → List (HopOf Turned)
  found n = by_scope n from [] (hop_to label turn to ∷ row_hops cells n) (row_hops cells n)

  abbrev BelowRow : ℕ → Type 0
  BelowRow n = (from < n → below with_row n ≤ below cells n + 1) × (n ≤ from → below with_row n ≤ below cells n)

  below_row : (n : ℕ) → BelowRow n
  unfolding below row_hops
  below_row zero = (λ h. absurd (omega arith), λ h. omega arith)
  below_row (suc n) = step (below_row n) (compare n from)
    where
      step : BelowRow n → (n < from) ⊎ ((from ≡ n) ⊎ (from < n)) → BelowRow (suc n)
      step so (inl later) =
          let none = so.1 (omega arith) in
          let is = ap length (by_later n from [] (hop_to label turn to ∷ row_hops cells n) (row_hops cells n) later) in
          (λ h. absurd (omega arith), λ h. omega arith)
      step so (inr (inl own)) =
          let none = so.1 (omega arith) in
          let is = ap length (by_own n from [] (hop_to label turn to ∷ row_hops cells n) (row_hops cells n) own) in
          (λ h. omega arith, λ h. absurd (omega arith))
      step so (inr (inr earlier)) =
          let one = so.0 earlier in
          let is = ap length (by_earlier n from [] (hop_to label turn to ∷ row_hops cells n) (row_hops cells n) earlier) in
          (λ h. omega arith, λ h. absurd (omega arith))

below_short : (l : List ℕ) → length l < 6 → (n : ℕ) → below l n ≡ 0
unfolding below
below_short l h zero = refl
below_short l h (suc n) = let none = below_short l h n in omega (arith, ap length (rows_none l n 0 (omega arith)))

pub below_rows : (l : List ℕ) (n : ℕ) → below l n ≤ length (rows_of l)
unfolding rows_of
below_rows [] n = omega (arith, below_short [] (omega arith) n)
below_rows (a ∷ []) n = omega (arith, below_short (a ∷ []) (omega arith) n)
below_rows (a ∷ b ∷ []) n = omega (arith, below_short (a ∷ b ∷ []) (omega arith) n)
below_rows (a ∷ b ∷ c ∷ []) n = omega (arith, below_short (a ∷ b ∷ c ∷ []) (omega arith) n)
below_rows (a ∷ b ∷ c ∷ d ∷ []) n = omega (arith, below_short (a ∷ b ∷ c ∷ d ∷ []) (omega arith) n)
below_rows (a ∷ b ∷ c ∷ d ∷ e ∷ []) n = omega (arith, below_short (a ∷ b ∷ c ∷ d ∷ e ∷ []) (omega arith) n)
below_rows (a ∷ b ∷ c ∷ d ∷ e ∷ f ∷ l) n = at (below_or b n) (below_rows l n)
  where
    at : (b < n) ⊎ (n ≤ b) → below l n ≤ length (rows_of l) → below (a ∷ b ∷ c ∷ d ∷ e ∷ f ∷ l) n ≤ suc (length (rows_of l))
    at (inl h) so = let one = (below_row a b c d e f l n).0 h in omega arith
    at (inr h) so = let none = (below_row a b c d e f l n).1 h in omega arith

-- so few and fitting rows are all placed
pub all_placed : (rows : List ℕ) (s : ℕ) → length (rows_of rows) ≤ 512 → ((row : Row) → row ∈ rows_of rows → Fits row)
    → placed rows s ≡ row_hops rows s
unfolding placed below
all_placed rows s few fit =
    let most = below_rows rows (suc s) in
    ap (take (512 - below rows s)) (fitting_same s rows fit) ∙ take_all (512 - below rows s) (row_hops rows s) (omega arith)
