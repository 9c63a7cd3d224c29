-- `is_unordered` meets its contract. Assumes nothing.
use Prim.Native.Nat.{◌%◌}
use mathlib.Core.Path.{◌≡◌}
use borrow.Author.Rules.{rules}
use borrow.Author.Tests.{tests}
use native.Mathlib.Omega.{arith}
use lib.ListN.{take, drop}
use Rattle.std.proofs.lemmas.Iterator.{cases_from_all, YieldsList-from_slice}
use Rattle.block.specs.Layout.{BETTER}
use Rattle.beginnings.proofs.UncutLaws.{unordered_cells}
use Rattle.beginnings.proofs.uncut.is_unordered.Goals as goal

pub returns : goal.returns
returns c = record {
  none = λ e. let told = cases_from_all _ _ _ (λ x. x % 512 ≡ 0) (λ x. Unit {0}) c.all.ensures.ran (YieldsList-from_slice (take 9 (drop BETTER c.args.block.now)) (search rules)) (λ x q k. search (rules, tests)) (λ x q k. tt) in
      unordered_cells c.args.block.now (omega arith) (rw e at told);
}
