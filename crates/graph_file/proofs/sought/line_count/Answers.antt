use mathlib.Core.Path.{sym, ◌∙◌}
use lib.Dec.{eqb}
use borrow.Author.Rules.{rules}
use borrow.Author.Tests.{tests}
use Rattle.std.proofs.lemmas.Iterator.{YieldsList-from_slice}
use Rattle.std.proofs.lemmas.Iterator.Consumers.{count_from_yields_List, YieldsList-from_filter}
use Rattle.std.proofs.lemmas.List.Sums.{length-filter}
use Rattle.graph_file.proofs.SoughtLaws.{count_ends}
use Rattle.graph_file.proofs.sought.line_count.Goals as goal

pub returns : goal.returns
returns c =
    let text = c.args.text.now
    in record { answer = count_from_yields_List c.filter.result _ c.count.ensures.ran (YieldsList-from_filter _ (λ b. eqb b 10) (YieldsList-from_slice text (cc)) c.filter.ensures.closure (λ x b q k. search (rules, tests))) ∙ length-filter (λ b. eqb b 10) text ∙ sym (count_ends text) }
