use mathlib.Core.Path.{sym, ◌∙◌}
use borrow.Author.Rules.{rules}
use Rattle.text_field.specs.Refusal.{number_of}
use Rattle.graph_file.specs.Reader.{part_outcome}
use Rattle.graph_file.proofs.ReadLaws.{part_refused}
use Rattle.graph_file.proofs.SectionLaws.{whole_long, whole_refused, whole_fault, whole_done}
use Rattle.graph_file.proofs.reader.read_whole.Goals as goal

pub returns-then-text-gt-TEXT_BYTES-clause-answer : goal.returns-then-text-gt-TEXT_BYTES-clause-answer
unfolding part_outcome number_of
returns-then-text-gt-TEXT_BYTES-clause-answer c = whole_long c.args.text.now c.if-text-gt-TEXT_BYTES.true

pub returns-in_err-r-clause-answer : goal.returns-in_err-r-clause-answer
unfolding part_outcome
returns-in_err-r-clause-answer c = part_refused _ _ _ c.in_err-r.field-0.0 (search rules) ∙ whole_refused c.args.text.now c.if-text-gt-TEXT_BYTES.false (number_of c.in_err-r.field-0.0) c.in_err-r.ensures.answer

pub returns-then-order_fault-clause-answer : goal.returns-then-order_fault-clause-answer
unfolding part_outcome number_of
returns-then-order_fault-clause-answer c = whole_fault c.args.text.now c.if-text-gt-TEXT_BYTES.false c.read_sections.new.table c.in_ok-r.r c.in_ok-r.ensures.answer (sym c.order_fault.ensures.answer ∙ c.if-order_fault.true)

pub returns-clause-answer : goal.returns-clause-answer
unfolding part_outcome
returns-clause-answer c = whole_done c.args.text.now c.if-text-gt-TEXT_BYTES.false c.read_sections.new.table c.in_ok-r.r c.in_ok-r.ensures.answer (sym c.order_fault.ensures.answer ∙ c.if-order_fault.false)
