use mathlib.Core.Path.{sym, ap, ◌∙◌}
use mathlib.Core.List.{List}
use lib.ListN.{drop}
use Rattle.dot_text.specs.Grammar.{DrawnEdge}
use Rattle.dot_text.specs.Reading.{Taken}
use Rattle.dot_text.specs.Answers.{edge_of}
use Rattle.dot_text.proofs.StatementLaws.{edges_some, edge_shrinks}
use Rattle.dot_text.proofs.whole.past_edges.Goals as goal

pub loop-next-smaller : goal.loop-next-smaller
unfolding edge_of
loop-next-smaller c = edge_shrinks (drop c.loop-next.p c.args.text.now) _ (sym c.in-Some.ensures.answer)

pub loop-next-preserved : goal.loop-next-preserved
unfolding edge_of
loop-next-preserved c = sym (ap (λ (z : Taken (List DrawnEdge)). z.rest) (edges_some (drop c.loop-next.p c.args.text.now) _ (sym c.in-Some.ensures.answer))) ∙ c.loop-next.invariant
