-- `pair_followed` meets its contract: a pair whose places are all barred is not followed, and else
-- the walk tells. Assumes nothing.
use native.Mathlib.Omega.{arith}
use Rattle.resolution.proofs.Asks.{start_small}
use Rattle.resolution.proofs.Unfollowed.{no_scope, no_end, none_left, all_barred, by_walk}
use Rattle.resolution.proofs.awaits.pair_followed.Goals as goal
use Rattle.resolution.proofs.awaits.pair_followed.Goals.{then-at-gt63-via-then-at-gt63, then-at-gt63-via-else-at-gt63+then-end-gt8}

pub returns-then-at-gt63 : goal.returns-then-at-gt63
returns-then-at-gt63 c = record {
  answer = elim c.then-at-gt63.branch [
    | then-at-gt63-via-then-at-gt63 w ↦ no_scope c.args.block.now c.args.table.now c.args.ask.now c.args.at c.args.end c.args.away.now w.if-at-gt63.true
    | then-at-gt63-via-else-at-gt63+then-end-gt8 w ↦ no_end c.args.block.now c.args.table.now c.args.ask.now c.args.at c.args.end c.args.away.now w.if-end-gt8.true
  ];
}

pub candidates-requires : goal.candidates-requires
candidates-requires c = record { table = c.requires.table; scope = omega arith; end = omega arith }

pub returns-then-candidates-eq0 : goal.returns-then-candidates-eq0
returns-then-candidates-eq0 c = record { answer = all_barred c.args.block.now c.args.table.now c.args.ask.now c.args.at c.args.end c.args.away.now (omega arith) (omega arith) (start_small c.args.table.now c.args.block.now c.args.ask.now c.requires.ready) c.requires.away (none_left c.args.block.now _ c.args.away.now c.args.at c.args.end _ _ c.ask_goal.ensures.answer c.candidates.ensures.answer c.if-candidates-eq0.true) }

pub usable_set-requires : goal.usable_set-requires
usable_set-requires c = record { end = omega arith }

pub is_followed-requires : goal.is_followed-requires
is_followed-requires c = record { bounds = c.requires.ready.made.bounds; start = start_small c.args.table.now c.args.block.now c.args.ask.now c.requires.ready; live = c.requires.ready.live }

pub returns : goal.returns
returns c = record { answer = by_walk c.args.block.now c.args.table.now c.args.ask.now c.args.at c.args.end c.args.away.now (omega arith) (omega arith) _ c.single.ensures.answer _ c.usable_set.ensures.answer _ c.is_followed.ensures.answer }
