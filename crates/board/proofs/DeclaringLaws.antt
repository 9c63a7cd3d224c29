-- The pass that finds the scopes that declare a name. Assumes nothing.
use Prim.Native.Nat.{ℕ, ◌+◌, ◌-◌, ◌≤◌, ◌<◌}
use mathlib.Core.Path.{◌≡◌, sym, ap, ◌∙◌}
use mathlib.Core.Bool.{Bool, true, false, ◌||◌}
use mathlib.Core.List.{List, map}
use native.Mathlib.Omega.{arith}
use lib.Bits.{bit_or}
use lib.Dec.{eqb}
use lib.ListN.{length, drop}
use Rattle.scope_graph.specs.Rows.{PackedName, same_name, any_of}
use Rattle.block.specs.Sets.{has_scope}
use Rattle.block.proofs.SetLaws.{scopes_none, scopes_or}
use Rattle.graph_table.specs.declared.rows.DeclarationRow.{DeclarationRow}
use Rattle.graph_table.specs.Sections.{rows_of}
use Rattle.graph_table.specs.Values.{packed, declaration_row, row_declared, declares}
use Rattle.graph_table.proofs.RowLaws.{declaration_cells}
use Rattle.board.specs.Marks.{DeclaringIs}
use Rattle.graph_table.proofs.Tests.{and_second, and_true, or_false}
use Rattle.board.proofs.Passes.{any_noted, any_all}

pub record Declaring (rows : List ℕ) (x : PackedName) (p out : ℕ) : Type 0 where
  pub within : p ≤ length rows
  pub each : (s : ℕ) → s < 64
      → (has_scope out s || any_of (declares x s) (map row_declared (rows_of (drop p rows)))) ≡ any_of (declares x s) (map row_declared (rows_of rows))

pub declaring_none : (rows : List ℕ) (x : PackedName) → Declaring rows x 0 0
declaring_none rows x = record { within = omega arith; each = λ s h. rw (scopes_none s) }

-- a row of another name, and one of this name
module _ (set s : ℕ) (x : PackedName) (row : DeclarationRow) where
  abbrev named : Bool
  named = same_name (packed row.name) x

  pub noted_other : named ≡ false → has_scope set s ≡ (has_scope set s || declares x s row)
  unfolding declares
  noted_other e = sym (ap (λ b. has_scope set s || b) (and_second (eqb row.at s) named e) ∙ or_false (has_scope set s))

  pub noted_here : (one : ℕ) → named ≡ true → has_scope one s ≡ eqb row.at s → has_scope (bit_or set one) s ≡ (has_scope set s || declares x s row)
  unfolding declares
  noted_here one e here = scopes_or set one s ∙ ap (λ b. has_scope set s || b) (here ∙ sym (and_true (eqb row.at s) named e))

module _ (rows : List ℕ) (x : PackedName) (p out : ℕ) (so : Declaring rows x p out) where
  pub declaring_noted : (more : ℕ) → 6 ≤ length rows - p → ((s : ℕ) → s < 64 → has_scope more s ≡ (has_scope out s || declares x s (declaration_row rows p)))
      → Declaring rows x (p + 6) more
  declaring_noted more h e = record {
    within = omega arith;
    each = λ s k.
        any_noted row_declared (declares x s) rows p (has_scope out s) (has_scope more s) (any_of (declares x s) (map row_declared (rows_of rows))) h
        (e s k ∙ ap (λ (row : DeclarationRow). has_scope out s || declares x s row) (declaration_cells rows p)) (so.each s k);
  }

  pub declaring_all : length rows - p < 6 → DeclaringIs rows x out
  declaring_all h s k =
      any_all row_declared (declares x s) rows p (has_scope out s) (any_of (declares x s) (map row_declared (rows_of rows))) h (so.each s k)
