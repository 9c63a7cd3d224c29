-- `write_back` meets its contract. Assumes nothing.
use mathlib.Core.Path.{◌≡◌, ap, ◌∙◌}
use native.Mathlib.Omega.{arith}
use borrow.Author.Rules.{rules}
use Rattle.text_field.specs.Outcome.{refused}
use Rattle.text_field.specs.Refusal.{number_of}
use Rattle.text_field.specs.declared.refusal.Refusal.{Refusal}
use Rattle.text_field.specs.declared.refusal.Refusal.TheVariants.{NoList}
use Rattle.text_field.proofs.AnswerLaws.{answer_err}
use Rattle.renumbering.proofs.Tables.{scopes_most, back_none, numbers_within, numbers_count, numbers_most, numbers_once, back_within, back_count, back_each, back_written}
use Rattle.renumbering.proofs.write_back.Goals as goal

pub read_was-requires : goal.read_was-requires
read_was-requires c = record { count = let m = scopes_most c.args.table.now c.requires.read in omega arith }

pub returns-in_err-numbers : goal.returns-in_err-numbers
unfolding number_of
returns-in_err-numbers c =
    let told = back_none c.args.table.now c.requires.read c.args.was.now _ c.scope_count-n.ensures.answer _ c.read_was.ensures.answer (grind arith) c.args.out.now in
    let list : c.in_err-numbers.field-0.0 ≡ NoList = grind arith in
    record { answer = answer_err _ c.in_err-numbers.field-0.0 (search rules) ∙ ap (λ (r : Refusal). refused (number_of r)) list ∙ told.0; memory = told.1 }

pub slice_bounds-numbers-end : goal.slice_bounds-numbers-end
slice_bounds-numbers-end c = numbers_within c.args.table.now c.requires.read c.args.was.now _ c.scope_count-n.ensures.answer _ c.read_was.ensures.answer _ (search rules)

pub slice_bounds-inverse-end : goal.slice_bounds-inverse-end
slice_bounds-inverse-end c = numbers_count c.args.table.now c.requires.read c.args.was.now _ c.scope_count-n.ensures.answer _ c.read_was.ensures.answer _ (search rules)

pub inverse-back-requires : goal.inverse-back-requires
inverse-back-requires c = record { room = numbers_most c.args.table.now c.requires.read c.args.was.now _ c.scope_count-n.ensures.answer _ c.read_was.ensures.answer _ (search rules); once = numbers_once c.args.table.now c.requires.read c.args.was.now _ c.scope_count-n.ensures.answer _ c.read_was.ensures.answer _ (search rules) }

pub slice_bounds-back-end : goal.slice_bounds-back-end
slice_bounds-back-end c = back_within c.args.table.now c.requires.read c.args.was.now _ c.scope_count-n.ensures.answer _ c.read_was.ensures.answer _ (search rules) _ c.inverse-back.ensures.answer

pub slice_bounds-write_by-end : goal.slice_bounds-write_by-end
slice_bounds-write_by-end c = back_count c.args.table.now c.requires.read c.args.was.now _ c.scope_count-n.ensures.answer _ c.read_was.ensures.answer _ (search rules) _ c.inverse-back.ensures.answer

pub write_by-requires : goal.write_by-requires
write_by-requires c = record { read = c.requires.read; list = back_each c.args.table.now c.requires.read c.args.was.now _ c.scope_count-n.ensures.answer _ c.read_was.ensures.answer _ (search rules) _ c.inverse-back.ensures.answer }

pub returns : goal.returns
returns c = let told = back_written c.args.table.now c.requires.read c.args.was.now _ c.scope_count-n.ensures.answer _ c.read_was.ensures.answer _ (search rules) _ c.inverse-back.ensures.answer _ c.args.out.now _ (c.write_by.ensures.answer, c.write_by.ensures.memory) in record { answer = told.0; memory = told.1 }
