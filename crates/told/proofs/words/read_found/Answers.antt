-- `read_found` meets its contract. Assumes nothing.
use mathlib.Core.Path.{◌∙◌}
use mathlib.Core.List.{List}
use Prim.Native.Nat.{ℕ}
use lib.ListN.{drop}
use borrow.Author.Rules.{rules}
use Rattle.scope_graph.specs.Computed.{found_one, found_several}
use Rattle.told.specs.Apart.{word_here, found_here}
use Rattle.told.proofs.WordLaws.{else_meant, else_assoc}
use Rattle.follow.specs.Text.{found_text}
use Rattle.resolution.specs.Asked.{found_meaning}
use Rattle.told.proofs.words.read_found.Goals as goal

pub read_word-requires : goal.read_word-requires
unfolding found_text found_meaning
read_word-requires c = search rules

pub or_else-requires : goal.or_else-requires
unfolding found_text found_meaning
or_else-requires c = search rules

pub or_else-requires-2 : goal.or_else-requires-2
unfolding found_text found_meaning
or_else-requires-2 c = search rules

pub returns : goal.returns
unfolding found_here found_meaning
returns c =
    let t : List ℕ = drop c.args.at c.args.s.now
    in let e = else_meant c.args.s.now _ (word_here found_one t) _ c.or_else.result c.read_word.ensures.answer (λ h. search (rules, h)) c.or_else.ensures
    in record { answer = else_meant c.args.s.now _ (word_here found_several t) _ c.or_else-2.result e (λ h. search (rules, h)) c.or_else-2.ensures ∙ else_assoc _ _ _ }
