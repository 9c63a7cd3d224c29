-- `found_by_ends` meets its contract. Assumes nothing.
use mathlib.Core.Path.{◌∙◌}
use Rattle.resolution.proofs.Ends.{second_seen, ends_none, ends_second, ends_two, ends_one}
use Rattle.resolution.proofs.found.found_by_ends.Goals as goal

pub returns-in_default : goal.returns-in_default
returns-in_default c = record { answer = ends_none c.args.table.now c.args.block.now c.args.ask.now c.requires.ready (rw c.in_default.is at c.next_end.ensures.first) }

pub returns-then-has_second : goal.returns-then-has_second
returns-then-has_second c = record { answer = ends_second c.args.table.now c.args.block.now c.args.ask.now c.requires.ready _ c.in-Some.ensures.first (second_seen c.args.table.now c.args.block.now c.args.ask.now c.requires.ready _ _ _ c.part-rows.ensures.answer c.name_asked-name.ensures.answer _ c.has_second.ensures.answer ∙ c.if-has_second.true) }

pub returns-in-Some-next_end : goal.returns-in-Some-next_end
returns-in-Some-next_end c = record { answer = ends_two c.args.table.now c.args.block.now c.args.ask.now c.requires.ready _ c.in-Some.ensures.first _ c.in-Some-next_end.ensures.first }

pub returns-in-None : goal.returns-in-None
returns-in-None c = record { answer = ends_one c.args.table.now c.args.block.now c.args.ask.now c.requires.ready _ c.in-Some.ensures.first c.in-None.ensures.first (second_seen c.args.table.now c.args.block.now c.args.ask.now c.requires.ready _ _ _ c.part-rows.ensures.answer c.name_asked-name.ensures.answer _ c.has_second.ensures.answer ∙ c.if-has_second.false) }
