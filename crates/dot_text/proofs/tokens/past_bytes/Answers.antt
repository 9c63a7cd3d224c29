use Rattle.std.proofs.lemmas.Bool.Decides.{Decides-eqb}
use Rattle.std.proofs.lemmas.Slice.Eq.{strip_prefix_is}
use Rattle.std.specs.declared.option.Option.TheVariants.{Some, None}
use Rattle.dot_text.specs.Answers.{rest_of}
use Rattle.dot_text.proofs.Steps.{strip_off, strip_on}
use Rattle.dot_text.proofs.tokens.past_bytes.Goals as goal

pub returns-in_err-left : goal.returns-in_err-left
unfolding rest_of
returns-in_err-left c = record { answer = let a = c.args in rw c.from_residual.ensures (strip_off a.text.now a.at c.text_from.result.now c.text_from.ensures.rest a.bytes.now (strip_prefix_is Decides-eqb _ _ None c.in_err-left.ensures.cases)) }

pub returns : goal.returns
unfolding rest_of
returns c = record { answer = let a = c.args in strip_on a.text.now a.at c.text_from.result.now c.text_from.ensures.rest a.bytes.now c.in_ok-left.left.now (strip_prefix_is Decides-eqb _ _ (Some c.in_ok-left.left) c.in_ok-left.ensures.cases) }
