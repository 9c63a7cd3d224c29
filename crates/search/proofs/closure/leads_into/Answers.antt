-- `leads_into` meets its contract: the states passed lead nowhere that is asked about. Assumes
-- nothing.
use Prim.Native.Nat.{ℕ}
use mathlib.Core.Path.{◌≡◌, sym, ap, ◌∙◌, subst}
use mathlib.Core.Bool.{false, true≢false}
use native.Mathlib.Omega.{arith}
use Rattle.block.specs.Sets.{has_state}
use Rattle.block.specs.Block.{next_cell}
use Rattle.search.proofs.Closing.{leads_not}
use Rattle.search.proofs.Passing.{passed_more, passed_all, passed_states}
use Rattle.search.proofs.closure.leads_into.Goals as goal

pub loop-left-init : goal.loop-left-init
loop-left-init c = passed_states _ _

pub least_of-q-requires : goal.least_of-q-requires
least_of-q-requires c = record { some = omega arith }

pub returns-then-has_state : goal.returns-then-has_state
returns-then-has_state c = record { none = λ e. absurd (true≢false e) }

pub rest_of-left-requires : goal.rest_of-left-requires
rest_of-left-requires c = record { some = omega arith }

pub loop-left-smaller : goal.loop-left-smaller
loop-left-smaller c = c.rest_of-left.ensures.less

pub loop-left-preserved : goal.loop-left-preserved
loop-left-preserved c = passed_more _ _ _ _ _ c.rest_of-left.ensures.rest (subst (λ (x : ℕ). has_state c.args.set (next_cell c.args.block.now x c.args.label) ≡ false) c.least_of-q.ensures.least (leads_not c.args.block.now c.args.set c.least_of-q.result c.args.label (ap (λ (x : ℕ). has_state c.args.set x) (sym c.next_state.ensures.answer) ∙ sym c.has_state.ensures.answer ∙ c.if-has_state.false))) c.loop-left.invariant

pub returns : goal.returns
returns c = record { none = λ e. passed_all _ _ c.loop-left.left (omega arith) c.loop-left.invariant }
