-- `seed` meets its contract: what is asked for at the scopes passed is held, and stays so. Assumes
-- nothing.
use Prim.Native.Nat.{ℕ}
use mathlib.Core.Path.{subst, ◌≡◌, refl}
use mathlib.Core.Bool.{true}
use native.Mathlib.Omega.{arith}
use Rattle.block.proofs.SetLaws.{places_scope, places_state}
use Rattle.search.specs.Tables.{place_flag}
use Rattle.search.proofs.Passing.{passed_scopes, passed_for, passed_more, passed_all}
use Rattle.search.proofs.grow.seed.Goals as goal

pub loop-left-init : goal.loop-left-init
loop-left-init c = (refl, passed_scopes _ _)

pub least_of-requires : goal.least_of-requires
least_of-requires c = record { some = omega arith }

pub rest_of-left-requires : goal.rest_of-left-requires
rest_of-left-requires c = record { some = omega arith }

pub loop-left-smaller : goal.loop-left-smaller
loop-left-smaller c = c.rest_of-left.ensures.less

pub loop-left-preserved : goal.loop-left-preserved
loop-left-preserved c = (omega arith, passed_more _ _ _ _ _ c.rest_of-left.ensures.rest (λ q h. subst (λ (s : ℕ). place_flag c.add-new.new.table s q ≡ true) c.least_of.ensures.least (c.add-new.ensures.held q h)) (passed_for _ _ _ _ (λ k w q h. c.add-new.ensures.kept.flags k q (w q h)) c.loop-left.invariant.1))

pub shape_of-table : goal.shape_of-table
shape_of-table c = c.loop-left.invariant.0

pub returns : goal.returns
returns c = record { held = λ s q h. passed_all _ _ c.loop-left.left (omega arith) c.loop-left.invariant.1 s (places_scope _ _ s q h) q (places_state _ _ s q h) }
