-- `is_closed` meets its contract: the free scopes passed are closed, and none is left. Assumes
-- nothing.
use Prim.Native.Nat.{ℕ}
use mathlib.Core.Bool.{false≢true}
use mathlib.Core.Path.{subst}
use native.Mathlib.Omega.{arith}
use Rattle.block.specs.Sets.{has_scope}
use Rattle.search.specs.Tables.{place_flag}
use Rattle.search.specs.Conditions.{way_of}
use Rattle.search.specs.Steps.{ScopeClosed}
use Rattle.search.proofs.Passing.{passed_scopes, passed_more, passed_all}
use Rattle.search.proofs.closure.is_closed.Goals as goal

pub loop-left-init : goal.loop-left-init
loop-left-init c = passed_scopes _ _

pub least_of-requires : goal.least_of-requires
least_of-requires c = record { some = omega arith }

pub returns-then-not-scope_closed : goal.returns-then-not-scope_closed
returns-then-not-scope_closed c = record { closed = λ e. absurd (false≢true e) }

pub rest_of-left-requires : goal.rest_of-left-requires
rest_of-left-requires c = record { some = omega arith }

pub loop-left-smaller : goal.loop-left-smaller
loop-left-smaller c = c.rest_of-left.ensures.less

pub loop-left-preserved : goal.loop-left-preserved
loop-left-preserved c = passed_more _ _ _ _ _ c.rest_of-left.ensures.rest (subst (λ (s : ℕ). ScopeClosed c.args.block.now (way_of c.args.block.now c.args.cutting) (has_scope c.args.free) (place_flag c.args.table.now) s) c.least_of.ensures.least (c.scope_closed.ensures.closed (c.if-not-scope_closed.false))) c.loop-left.invariant

pub returns : goal.returns
returns c = record { closed = λ e. passed_all _ _ c.loop-left.left (omega arith) c.loop-left.invariant }
