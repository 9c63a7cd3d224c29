-- `undot` meets its contract: the text's refusal, or what is made of its table. Assumes nothing.
use mathlib.Core.Path.{◌∙◌}
use mathlib.Core.Logic.{inl}
use native.Mathlib.Omega.{arith}
use borrow.Author.Rules.{rules}
use Rattle.text_field.proofs.AnswerLaws.{answer_err}
use Rattle.graph_file.proofs.TableLaws.{over_refused, over_written, made_read, refused_then, made_then}
use Rattle.undot.specs.Undrawn.{undrawn_by, undot_of}
use Rattle.undot.proofs.file.undot.Goals as goal

pub read_over-requires : goal.read_over-requires
read_over-requires c = record { room = inl (omega arith) }

pub undraw-requires : goal.undraw-requires
undraw-requires c = let m = over_written c.args.text.now _ _ c.read_over.ensures.answer c.read_over.ensures.within _ c.in_ok-n.was in record { read = made_read _ _ _ m; room = (m.within, omega (arith, c.read_over.auto.table)) }

pub returns-in_err-n : goal.returns-in_err-n
unfolding undot_of
returns-in_err-n c = let told = refused_then (undrawn_by c.args.dot.now) c.args.text.now _ c.args.out.now (over_refused c.args.text.now _ _ c.read_over.ensures.answer _ c.in_err-n.was) in record { answer = answer_err _ c.in_err-n.field-0.0 (search rules) ∙ told.0; memory = told.1 }

pub returns : goal.returns
unfolding undot_of
returns c = let told = made_then (undrawn_by c.args.dot.now) c.args.text.now _ _ (over_written c.args.text.now _ _ c.read_over.ensures.answer c.read_over.ensures.within _ c.in_ok-n.was) _ _ c.args.out.now (c.undraw.ensures.answer, c.undraw.ensures.memory) in record { answer = told.0; memory = told.1 }
