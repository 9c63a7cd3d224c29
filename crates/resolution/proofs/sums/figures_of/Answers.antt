-- `figures_of` meets its contract. The loop's invariant: what is counted so far, with the queries
-- that are left, gives the whole. Assumes nothing.
use mathlib.Core.Path.{ap, ◌∙◌}
use native.Mathlib.Omega.{arith}
use borrow.Author.Rules.{rules}
use Rattle.resolution.specs.Figures.{no_figures}
use Rattle.resolution.specs.Listing.{found_for}
use Rattle.resolution.proofs.Counts.{counted_none, counted_turn, counted_all, queries_few}
use Rattle.resolution.proofs.sums.figures_of.Goals as goal

pub loop-i-init : goal.loop-i-init
unfolding no_figures
loop-i-init c = counted_none c.args.table.now _ (search rules)

pub query_at-requires : goal.query_at-requires
query_at-requires c = record { read = c.requires.read; made = c.requires.made; number = omega arith }

pub ask_of-ask-requires : goal.ask_of-ask-requires
ask_of-ask-requires c = record { made = c.requires.made; asked = c.query_at.ensures.asked }

pub found_of-requires : goal.found_of-requires
found_of-requires c = record { ready = c.ask_of-ask.ensures.asking.ready }

pub counted-c-requires : goal.counted-c-requires
counted-c-requires c = record { counted = let q = queries_few c.args.table.now c.requires.read in omega arith }

pub loop-i-preserved : goal.loop-i-preserved
loop-i-preserved c = counted_turn c.args.table.now c.loop-i.i c.loop-i.c _ _ (omega arith) (c.found_of.ensures.answer ∙ ap (found_for c.args.table.now) (c.ask_of-ask.ensures.asking.query ∙ c.query_at.ensures.query)) c.counted-c.ensures.answer c.loop-i.invariant

pub returns : goal.returns
returns c = record { answer = counted_all c.args.table.now c.loop-i.i _ (omega arith) c.loop-i.invariant }
