-- `write_both` meets its contract. Assumes nothing.
use mathlib.Core.Path.{◌∙◌}
use borrow.Author.Rules.{rules}
use Rattle.text_field.specs.Refusal.{number_of}
use Rattle.text_field.proofs.AnswerLaws.{answer_ok, answer_err}
use Rattle.renumbering.specs.Renumbering.{numbered_of}
use Rattle.renumbering.proofs.Answers.{numbered_err, own_within, own_size}
use Rattle.renumbering.proofs.Tables.{list_within, list_count, taken_once, lines_short, lines_put, both_list, both_file, both_all}
use Rattle.renumbering.proofs.write_both.Goals as goal

pub slice_bounds-was-end : goal.slice_bounds-was-end
slice_bounds-was-end c = list_within c.args.table.now c.requires.read _ _ c.list_scopes-was.ensures.answer c.scope_count-n.ensures.answer

pub slice_bounds-put_was-end : goal.slice_bounds-put_was-end
slice_bounds-put_was-end c = list_count c.args.table.now c.requires.read _ _ c.list_scopes-was.ensures.answer c.scope_count-n.ensures.answer

pub returns-then-list-k : goal.returns-then-list-k
unfolding numbered_of number_of
returns-then-list-k c = let told = both_list c.args.table.now c.requires.read _ _ c.list_scopes-was.ensures.answer c.scope_count-n.ensures.answer _ _ c.put_was-k.ensures.written c.args.out.now c.args.list.now c.if-list-k.true in record { answer = told.0; file = told.1.0; list = told.1.1 }

pub slice_bounds-was-end-2 : goal.slice_bounds-was-end-2
slice_bounds-was-end-2 c = list_within c.args.table.now c.requires.read _ _ c.list_scopes-was.ensures.answer c.scope_count-n.ensures.answer

pub slice_bounds-write_by-end : goal.slice_bounds-write_by-end
slice_bounds-write_by-end c = list_count c.args.table.now c.requires.read _ _ c.list_scopes-was.ensures.answer c.scope_count-n.ensures.answer

pub write_by-requires : goal.write_by-requires
write_by-requires c = record { read = c.requires.read; list = taken_once c.args.table.now c.requires.read _ _ c.list_scopes-was.ensures.answer c.scope_count-n.ensures.answer }

pub slice_bounds-lines-end : goal.slice_bounds-lines-end
slice_bounds-lines-end c = own_within _ _ _ (lines_short c.args.table.now c.requires.read _ _ c.list_scopes-was.ensures.answer c.scope_count-n.ensures.answer _ _ c.put_was-k.ensures.written) (lines_put c.args.table.now c.requires.read _ _ c.list_scopes-was.ensures.answer c.scope_count-n.ensures.answer _ _ c.put_was-k.ensures.written)

pub slice_bounds-put_bytes-end : goal.slice_bounds-put_bytes-end
slice_bounds-put_bytes-end c = own_size _ _ _ (lines_short c.args.table.now c.requires.read _ _ c.list_scopes-was.ensures.answer c.scope_count-n.ensures.answer _ _ c.put_was-k.ensures.written) (lines_put c.args.table.now c.requires.read _ _ c.list_scopes-was.ensures.answer c.scope_count-n.ensures.answer _ _ c.put_was-k.ensures.written)

pub returns-in_err-m : goal.returns-in_err-m
returns-in_err-m c = let told = both_file c.args.table.now c.requires.read _ _ c.list_scopes-was.ensures.answer c.scope_count-n.ensures.answer _ _ c.put_was-k.ensures.written c.args.out.now c.args.list.now _ _ (c.write_by.ensures.answer, c.write_by.ensures.memory) _ (answer_err _ _ c.in_err-m.was) in record { answer = numbered_err _ c.in_err-m.field-0.0 (search rules) ∙ told.0; file = told.1.0; list = told.1.1 }

pub returns : goal.returns
unfolding numbered_of
returns c = let told = both_all c.args.table.now c.requires.read _ _ c.list_scopes-was.ensures.answer c.scope_count-n.ensures.answer _ _ c.put_was-k.ensures.written c.args.out.now c.args.list.now _ _ (c.write_by.ensures.answer, c.write_by.ensures.memory) c.if-list-k.false _ _ c.put_bytes.ensures.written _ (answer_ok _ _ c.in_ok-m.was) in record { answer = told.0; file = told.1.0; list = told.1.1 }
