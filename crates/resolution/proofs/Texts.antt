-- The text above a listing's rows, as code writes it. Assumes nothing.
use Prim.Native.Nat.{ℕ, zero, suc, ◌-◌, ◌%◌, ◌≤◌, ◌<◌}
use mathlib.Core.Path.{◌≡◌, refl, sym, ap, ◌∙◌}
use mathlib.Core.List.{List}
use native.Mathlib.Omega.{arith}
use Rattle.scope_graph.specs.Order.{end_of}
use Rattle.scope_graph.specs.Rows.{PackedName}
use Rattle.block.specs.Block.{letter_cell}
use Rattle.block.specs.Ask.{ask_name}
use Rattle.graph_table.specs.declared.names.Name.{Name}
use Rattle.graph_table.specs.Values.{packed}
use Rattle.follow.specs.Text.{letter_of, end_text}
use Rattle.follow.specs.Walk.{letter_bytes}
use Rattle.resolution.proofs.Given.{letter_byte_lem, letter_past}

-- an end's byte
module _ (block : List ℕ) (end : ℕ) where
  pub end_stop : end ≡ 0 → 36 ≡ end_text (letter_bytes block) (end_of end)
  unfolding end_text end_of
  end_stop e = rw e

  pub end_past : 8 < end → 0 ≡ end_text (letter_bytes block) (end_of end)
  unfolding end_text end_of letter_of
  end_past h = by end refl
    where
      by : (n : ℕ) → end ≡ n → 0 ≡ end_text (letter_bytes block) (end_of n)
      by zero e = absurd (omega arith)
      by (suc n) e = sym (letter_past block n (omega arith))

  pub end_letter : (x : ℕ) → (end ≡ 0 → ⊥) → end ≤ 8 → x ≡ letter_cell block (end - 1) → x % 256 ≡ end_text (letter_bytes block) (end_of end)
  unfolding end_text end_of letter_of
  end_letter x z h e = by end refl
    where
      by : (n : ℕ) → end ≡ n → x % 256 ≡ end_text (letter_bytes block) (end_of n)
      by zero k = absurd (z k)
      by (suc n) k =
          let m : end - 1 ≡ n = omega arith in
          ap (λ (y : ℕ). y % 256) (e ∙ ap (letter_cell block) m) ∙ sym (letter_byte_lem block n (omega arith))

-- the kind of the name asked for
pub kind_fits : (x : Name) (ask : List ℕ) → packed x ≡ ask_name ask → (ask_name ask).kind < 256 → x.kind < 256
kind_fits x ask e h = let k = ap (λ (z : PackedName). z.kind) e in omega arith
