-- `next_followed` meets its contract: where the highest turn is 0, all are. Assumes nothing.
use native.Mathlib.Omega.{arith}
use Rattle.follow.proofs.StepLaws.{next_none}
use Rattle.follow.proofs.next.next_followed.Goals as goal

pub edges_end-requires : goal.edges_end-requires
edges_end-requires c = record { scope = c.requires.inside.scope }

pub returns-then-edges_end-p : goal.returns-then-edges_end-p
returns-then-edges_end-p c = record { known = c.requires.known; next = next_none c.args.block.now c.args.ask.now c.args.onward.now c.args.n c.args.p (omega (arith, c.edges_end.ensures.answer, c.if-edges_end-p.true)) }
