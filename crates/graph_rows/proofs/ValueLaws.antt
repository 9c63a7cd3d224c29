-- Laws of the test whether a row's values can be written (specs/Values). Assumes nothing.
use Prim.Native.Nat.{ℕ, zero, suc, ◌-◌, ◌≤◌, ◌<◌}
use mathlib.Core.Path.{◌≡◌, refl, sym, ap, ◌∙◌}
use mathlib.Core.List.{List}
use mathlib.Core.Bool.{true}
use native.Mathlib.Omega.{arith}
use borrow.Author.Tests.{lt-leb, le-leb}
use lib.Dec.{eqb, leb}
use Rattle.std.proofs.Math.Bool.{and-true}
use Rattle.std.specs.List.{list_all, range_with_len}
use Rattle.graph_rows.specs.declared.format.Layout.{Layout}
use Rattle.graph_rows.specs.Format.{Item, shape_at}
use Rattle.graph_rows.specs.Admission.{Row, value}
use Rattle.graph_rows.specs.Values.{field_formed, idle_zero, idle_zeros, Fills}
use Rattle.graph_rows.specs.Table.{content_of, Known}
use Rattle.graph_rows.proofs.FormatLaws.{filled_at}
use Rattle.graph_rows.proofs.ColumnLaws.{layout_filled}

-- the first four contents are numbers
pub formed_number : (v w n : ℕ) → n < 4 → leb v 99999 ≡ field_formed (content_of n) v w
unfolding field_formed content_of
formed_number v w zero h = refl
formed_number v w (suc zero) h = refl
formed_number v w (suc (suc zero)) h = refl
formed_number v w (suc (suc (suc zero))) h = refl
formed_number v w (suc (suc (suc (suc n)))) h = absurd (omega arith)

-- a place that the items fill, and one that they leave alone, where they fill the first u places
module _ (items : List Item) (row : Row) (u : ℕ) (e : Fills u items) where
  pub idle_used : (d : ℕ) → d < u → idle_zero items row d ≡ true
  unfolding idle_zero
  idle_used d h = rw (e d, lt-leb u d h)

  pub idle_past : (d : ℕ) → u ≤ d → idle_zero items row d ≡ eqb (value row d) 0
  unfolding idle_zero
  idle_past d h = rw (e d, le-leb u d h)

-- so the places that they leave alone tell of all five
idle_from : (items : List Item) (row : Row) (u : ℕ) → Fills u items → list_all (λ (d : ℕ). eqb (value row d) 0) (range_with_len u (5 - u)) ≡ idle_zeros items row
unfolding idle_zeros
idle_from items row zero e = rw (idle_past items row 0 e 0 (omega arith), idle_past items row 0 e 1 (omega arith), idle_past items row 0 e 2 (omega arith), idle_past items row 0 e 3 (omega arith), idle_past items row 0 e 4 (omega arith), and-true (eqb (value row 4) 0))
idle_from items row (suc zero) e = rw (idle_used items row 1 e 0 (omega arith), idle_past items row 1 e 1 (omega arith), idle_past items row 1 e 2 (omega arith), idle_past items row 1 e 3 (omega arith), idle_past items row 1 e 4 (omega arith), and-true (eqb (value row 4) 0))
idle_from items row (suc (suc zero)) e = rw (idle_used items row 2 e 0 (omega arith), idle_used items row 2 e 1 (omega arith), idle_past items row 2 e 2 (omega arith), idle_past items row 2 e 3 (omega arith), idle_past items row 2 e 4 (omega arith), and-true (eqb (value row 4) 0))
idle_from items row (suc (suc (suc zero))) e = rw (idle_used items row 3 e 0 (omega arith), idle_used items row 3 e 1 (omega arith), idle_used items row 3 e 2 (omega arith), idle_past items row 3 e 3 (omega arith), idle_past items row 3 e 4 (omega arith), and-true (eqb (value row 4) 0))
idle_from items row (suc (suc (suc (suc zero)))) e = rw (idle_used items row 4 e 0 (omega arith), idle_used items row 4 e 1 (omega arith), idle_used items row 4 e 2 (omega arith), idle_used items row 4 e 3 (omega arith), idle_past items row 4 e 4 (omega arith), and-true (eqb (value row 4) 0))
idle_from items row (suc (suc (suc (suc (suc n))))) e =
    let u = suc (suc (suc (suc (suc n))))
    in let z : 5 - u ≡ 0 = omega arith
    in rw (z, idle_used items row u e 0 (omega arith), idle_used items row u e 1 (omega arith), idle_used items row u e 2 (omega arith), idle_used items row u e 3 (omega arith), idle_used items row u e 4 (omega arith))

pub idle_told : (s : Layout) → Known s → (row : Row) → list_all (λ (d : ℕ). eqb (value row d) 0) (range_with_len s.filled (5 - s.filled)) ≡ idle_zeros (shape_at s.form s.section).row row
idle_told s known row =
    idle_from (shape_at s.form s.section).row row s.filled (λ d. filled_at s.form s.section d ∙ ap (λ (n : ℕ). leb n d) (sym (layout_filled s known)))
