use mathlib.Core.Path.{ap, ◌∙◌}
use mathlib.Core.List.{[]}
use borrow.Author.Rules.{rules}
use borrow.Author.Tests.{tests}
use Rattle.graph_file.specs.Reader.{passed}
use Rattle.graph_file.proofs.LineLaws.{bare_none, bare_other, bare_same}
use Rattle.graph_file.proofs.line.take_bare.Goals as goal

pub returns-in_err-get-clause-answer : goal.returns-in_err-get-clause-answer
returns-in_err-get-clause-answer c = ap (λ x. passed x c.args.text.now) c.from_residual.ensures ∙ bare_none [] c.args.x c.args.text.now c.args.at (search (rules, tests))

pub returns-then-branch-x-clause-answer : goal.returns-then-branch-x-clause-answer
returns-then-branch-x-clause-answer c = bare_other [] c.args.x c.args.text.now c.args.at (search (rules, tests)) (search (rules, tests))

pub returns-clause-answer : goal.returns-clause-answer
returns-clause-answer c = bare_same [] c.args.x c.args.text.now c.args.at (search (rules, tests)) (search (rules, tests))
