use mathlib.Core.Path.{◌∙◌}
use lib.ListN.{take}
use borrow.Author.Rules.{rules}
use borrow.Author.Tests.{tests}
use Rattle.std.proofs.lemmas.Iterator.{YieldsList-from_slice, YieldsList-from_take}
use Rattle.std.proofs.lemmas.Iterator.Consumers.{count_from_yields_List}
use Rattle.std.proofs.lemmas.Iterator.Search.{YieldsList-from_take_while}
use Rattle.std.proofs.lemmas.List.Folds.{length-prefix_len}
use Rattle.text_field.specs.Bytes.{is_name_byte}
use Rattle.text_field.proofs.NameLaws.{run_length}
use Rattle.text_field.proofs.name_len.Goals as goal

pub returns : goal.returns
returns c =
    let text = c.args.s.now
    in let most = c.args.most
    in record {
      answer =
          count_from_yields_List c.take_while.result _ c.count.ensures.ran (YieldsList-from_take_while _ is_name_byte (YieldsList-from_take most (YieldsList-from_slice text (cc)) (cc)) c.take_while.ensures.closure c.take_while.ensures.done (λ x b q k. search (rules, tests)))
          ∙ length-prefix_len is_name_byte (take most text)
          ∙ run_length most text;
    }
