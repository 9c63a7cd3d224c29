-- `is_other` meets its contract: by the row's section. Assumes nothing.
use Rattle.conversion.proofs.Rows.{other_edge, other_declared, other_query, other_none}
use Rattle.conversion.proofs.unshown.is_other.Goals as goal

pub returns-then-in_section : goal.returns-then-in_section
returns-then-in_section c = record { answer = other_edge c.args.table.now c.args.p _ c.in_section.ensures.answer c.if-in_section.true _ c.edge_row-row.ensures.answer _ c.other_turn.ensures.answer }

pub returns-then-in_section-2 : goal.returns-then-in_section-2
returns-then-in_section-2 c = record { answer = other_declared c.args.table.now c.args.p _ c.in_section.ensures.answer c.if-in_section.false _ c.in_section-2.ensures.answer c.if-in_section-2.true _ c.declaration_row-row.ensures.answer _ c.other_kind.ensures.answer }

pub returns-then-in_section-3 : goal.returns-then-in_section-3
returns-then-in_section-3 c = record { answer = other_query c.args.table.now c.args.p _ c.in_section.ensures.answer c.if-in_section.false _ c.in_section-2.ensures.answer c.if-in_section-2.false _ c.in_section-3.ensures.answer c.if-in_section-3.true _ c.query_row-row.ensures.answer _ c.other_kind-then-in_section-3.ensures.answer }

pub returns : goal.returns
returns c = record { answer = other_none c.args.table.now c.args.p _ c.in_section.ensures.answer c.if-in_section.false _ c.in_section-2.ensures.answer c.if-in_section-2.false _ c.in_section-3.ensures.answer c.if-in_section-3.false }
