-- `declared_end` meets its contract. Assumes nothing.
use Prim.Native.Nat.{ℕ, suc, ◌+◌}
use mathlib.Core.Path.{◌≡◌, ap}
use native.Mathlib.Omega.{arith}
use lib.ListN.{get_or}
use Rattle.block.specs.Layout.{DECL}
use Rattle.block.specs.Block.{first_declaration}
use Rattle.block.proofs.declared_end.Goals as goal

pub returns : goal.returns
unfolding first_declaration
returns c = record {
  answer = let s = c.args.s in
      let place : DECL + s + 1 ≡ DECL + suc s = omega arith in
      ap (λ (i : ℕ). get_or c.args.block.now i 0) place;
}
