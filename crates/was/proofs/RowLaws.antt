-- The first value of a section's rows, and the scopes that edge rows lead to. Assumes nothing.
use Prim.Native.Nat.{ℕ, ◌+◌, ◌≤◌, ◌<◌}
use mathlib.Core.Path.{◌≡◌, refl, sym, ap, ◌∙◌}
use mathlib.Core.List.{List, [], ◌∷◌, map}
use mathlib.Core.Logic.{⊎_elim}
use native.Mathlib.Omega.{arith}
use lib.ListN.{length, get_or, drop}
use Rattle.graph_rows.specs.Admission.{Row, value, blank}
use Rattle.graph_table.specs.Sections.{rows_of}
use Rattle.graph_table.specs.Rows.{row_hops, next_row}
use Rattle.graph_table.proofs.Tests.{below_or}
use Rattle.graph_table.proofs.Parts.{row_at, row_past, value_cell}
use Rattle.graph_table.proofs.Laws.{rows_none, rows_own, next_row_lem}
use Rattle.was.specs.Cells.{scopes_by}

-- the first value of rows, and of none
pub first_none : (rows : List ℕ) → length rows < 6 → 0 ≡ value (get_or (rows_of rows) 0 blank) 0
first_none rows h = sym (ap (λ (row : Row). value row 0) (row_past rows 0 (omega arith)))

pub first_there : (rows : List ℕ) (v : ℕ) → 6 ≤ length rows → v ≡ get_or rows 1 0 → v ≡ value (get_or (rows_of rows) 0 blank) 0
first_there rows v h e = e ∙ sym (ap (λ (row : Row). value row 0) (row_at rows 0 (omega arith)) ∙ value_cell rows 0 0 (omega arith))

-- the scopes that the rows of s from a place on lead to
abbrev pub scopes_from : List ℕ → ℕ → ℕ → List ℕ
scopes_from edges s p = map (λ h. h.to) (row_hops (drop p edges) s)

module _ (edges : List ℕ) (s : ℕ) where
  pub from_all : scopes_by edges s ≡ scopes_from edges s 0
  unfolding scopes_by
  from_all = refl

  -- what a row of s leads to, and the rest
  pub from_row : (p : ℕ) → p + 6 ≤ length edges → get_or edges (p + 1) 0 ≡ s → scopes_from edges s p ≡ get_or edges (p + 3) 0 ∷ scopes_from edges s (p + 6)
  from_row p h e = ap (map (λ h. h.to)) (rows_own edges s p h e)

  pub from_none : (p : ℕ) → length edges ≤ p → scopes_from edges s p ≡ []
  from_none p h = ap (map (λ h. h.to)) (rows_none edges s p (omega arith))

  -- the next row from a place on
  module _ (q p : ℕ) (e : p ≡ next_row edges s q) where
    pub next_is : p < length edges → (p + 6 ≤ length edges) × (get_or edges (p + 1) 0 ≡ s)
    next_is h = let r = next_row_lem {l = edges} {s = s} {p = q} e in (r.whole h, r.leaves h)

    pub next_past : (b : ℕ) → b < length edges → b < q → b < p
    next_past b h k =
        let r = next_row_lem {l = edges} {s = s} {p = q} e in
        ⊎_elim (λ (y : p < length edges). let on = r.on y in omega arith) (λ (n : length edges ≤ p). omega arith) (below_or p (length edges))

    pub from_next : scopes_from edges s q ≡ scopes_from edges s p
    from_next =
        let r = next_row_lem {l = edges} {s = s} {p = q} e in
        ⊎_elim (λ (y : p < length edges). ap (map (λ h. h.to)) (r.hops y) ∙ sym (from_row p (r.whole y) (r.leaves y)))
        (λ (n : length edges ≤ p). ap (map (λ h. h.to)) (r.none n) ∙ sym (from_none p n)) (below_or p (length edges))
