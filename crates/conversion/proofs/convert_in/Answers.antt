-- `convert_in` meets its contract: the text's refusal, or what is made of its table. Assumes
-- nothing.
use mathlib.Core.Path.{◌∙◌}
use borrow.Author.Rules.{rules}
use native.Mathlib.Omega.{arith}
use Rattle.text_field.proofs.AnswerLaws.{answer_err}
use Rattle.graph_file.proofs.TableLaws.{over_refused, over_written}
use Rattle.conversion.proofs.Laws.{made_some, text_refused, text_made}
use Rattle.conversion.proofs.convert_in.Goals as goal

pub whole_as_slice-read_over : goal.whole_as_slice-read_over
whole_as_slice-read_over g c = omega (arith, c.requires.size)

pub write_in-requires : goal.write_in-requires
write_in-requires g c = record { cells = let m = over_written c.args.text.now _ _ c.read_over.ensures.answer c.read_over.ensures.within _ c.in_ok-n.was in (made_some _ _ _ m, m.within) }

pub returns-in_err-n : goal.returns-in_err-n
returns-in_err-n g c = let told = text_refused c.args.form c.args.text.now _ c.args.out.now (over_refused c.args.text.now _ _ c.read_over.ensures.answer _ c.in_err-n.was) in record { answer = answer_err _ c.in_err-n.field-0.0 (search rules) ∙ told.0; memory = told.1 }

pub returns : goal.returns
returns g c = let told = text_made c.args.form c.args.text.now _ _ (over_written c.args.text.now _ _ c.read_over.ensures.answer c.read_over.ensures.within _ c.in_ok-n.was) _ _ c.args.out.now (c.write_in.ensures.answer, c.write_in.ensures.memory) in record { answer = told.0; memory = told.1 }
