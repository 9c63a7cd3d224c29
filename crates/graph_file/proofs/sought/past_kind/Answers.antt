use mathlib.Core.Path.{ap, ◌∙◌}
use borrow.Author.Rules.{rules}
use borrow.Author.Tests.{tests}
use Rattle.graph_file.specs.Reader.{rest_after}
use Rattle.graph_file.proofs.SoughtStart.{kind_none, kind_other, kind_here_lem}
use Rattle.graph_file.proofs.sought.past_kind.Goals as goal

pub returns-in_err-get-clause-place : goal.returns-in_err-get-clause-place
unfolding rest_after
returns-in_err-get-clause-place c = ap (λ x. rest_after x c.args.text.now) c.from_residual.ensures ∙ kind_none c.args.text.now c.args.at (search (rules, tests))

pub returns-then-not-is_lower-clause-place : goal.returns-then-not-is_lower-clause-place
unfolding rest_after
returns-then-not-is_lower-clause-place c = kind_other c.args.text.now c.args.at (search (rules, tests)) (search (rules, tests))

pub returns-clause-place : goal.returns-clause-place
unfolding rest_after
returns-clause-place c = kind_here_lem c.args.text.now c.args.at (search (rules, tests)) (search (rules, tests))
