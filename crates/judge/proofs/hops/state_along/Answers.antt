-- `state_along` meets its contract. Assumes nothing.
use mathlib.Core.Path.{sym, ◌∙◌}
use Rattle.judge.proofs.HopLaws.{along_none, along_edge}
use Rattle.judge.proofs.hops.state_along.Goals as goal

pub returns-then-not-has_edge : goal.returns-then-not-has_edge
returns-then-not-has_edge c = record { answer = sym (along_none c.args.block.now c.args.n c.args.label c.args.to _ c.has_edge.ensures.answer (c.if-not-has_edge.true)) }

pub returns : goal.returns
returns c = record { answer = c.state_on.ensures.answer ∙ sym (along_edge c.args.block.now c.args.n c.args.label c.args.to _ c.has_edge.ensures.answer c.if-not-has_edge.false) }
