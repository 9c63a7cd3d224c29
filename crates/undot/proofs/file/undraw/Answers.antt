-- `undraw` meets its contract: 18, 19, or what is written. Assumes nothing.
use mathlib.Core.Path.{◌≡◌, sym, ap, ◌∙◌}
use borrow.Author.Rules.{rules}
use native.Mathlib.Omega.{arith}
use lib.Seq.{length-take-le}
use Rattle.text_field.specs.Refusal.{number_of}
use Rattle.text_field.specs.Outcome.{refused}
use Rattle.text_field.specs.Answer.{answer_of}
use Rattle.text_field.specs.declared.refusal.Refusal.{Refusal}
use Rattle.text_field.specs.declared.refusal.Refusal.TheVariants.{NoDrawing}
use Rattle.text_field.proofs.AnswerLaws.{answer_err}
use Rattle.undot.proofs.FileLaws.{scopes_few, drawn_never, scopes_other, scopes_same}
use Rattle.undot.proofs.file.undraw.Goals as goal

pub returns-in_err-scopes : goal.returns-in_err-scopes
unfolding number_of
returns-in_err-scopes c =
    let told = drawn_never _ c.requires.read c.args.dot.now _ c.drawing.ensures.answer c.args.out.now (grind arith) in
    let none : c.in_err-scopes.field-0.0 ≡ NoDrawing = grind arith in
    record { answer = answer_err _ c.in_err-scopes.field-0.0 (search rules) ∙ ap (λ (r : Refusal). refused (number_of r)) none ∙ told.0; memory = told.1 }

pub slice_bounds-scope_count-end-2 : goal.slice_bounds-scope_count-end-2
slice_bounds-scope_count-end-2 c = sym (length-take-le _ _ (omega arith))

pub has_scopes-requires : goal.has_scopes-requires
has_scopes-requires c = record { few = scopes_few _ c.requires.read _ c.scope_count.ensures.answer }

pub returns-then-not-has_scopes : goal.returns-then-not-has_scopes
unfolding answer_of number_of
returns-then-not-has_scopes c = let told = scopes_other _ c.requires.read c.args.dot.now _ c.drawing.ensures.answer c.args.out.now c.in_ok-scopes.scopes c.in_ok-scopes.edges (grind arith) _ c.scope_count.ensures.answer _ c.has_scopes.ensures.answer c.if-not-has_scopes.true in record { answer = told.0; memory = told.1 }

pub returns : goal.returns
returns c = let told = scopes_same _ c.requires.read c.args.dot.now _ c.drawing.ensures.answer c.args.out.now c.in_ok-scopes.scopes c.in_ok-scopes.edges (grind arith) _ c.scope_count.ensures.answer _ c.has_scopes.ensures.answer c.if-not-has_scopes.false _ _ (c.write_with.ensures.answer, c.write_with.ensures.memory) in record { answer = told.0; memory = told.1 }
