-- `put_entry` meets its contract: one law for each of its ways. Assumes nothing.
use Rattle.follow.proofs.RowLaws.{row_sum, number_most, row_most}
use Rattle.follow.proofs.TakeLaws.{take_done, answer_after, answer_past, answer_within}
use native.Mathlib.Omega.{arith}
use mathlib.Core.Path.{◌≡◌, sym, ◌∙◌}
use Rattle.follow.specs.Walk.{path_hops}
use Rattle.follow.specs.Steps.{path_size}
use Rattle.follow.proofs.rows.put_entry.Goals as goal

pub returns-then-is_done : goal.returns-then-is_done
returns-then-is_done c = record { taken = sym (take_done _ (_, _) _ (sym c.is_done.ensures.done ∙ c.if-is_done.true)) }

pub returns-then-tally : goal.returns-then-tally
returns-then-tally c = record { taken = answer_after _ _ _ (record { at = c.args.at; mark = c.args.mark; text = _ }) 0 _ _ (sym c.is_done.ensures.done ∙ c.if-is_done.false) c.one_more-entries.ensures.counted c.note-seen.ensures.noted c.if-tally.true }

pub overflow_add-k : goal.overflow_add-k
overflow_add-k c =
    let whole : c.args.size ≡ path_size c.args.start (path_hops c.args.path) = c.requires.measured
    in omega (arith, number_most c.args.mark (omega arith), row_most c.args.path c.args.start (omega arith))

pub returns-then-not-is_room : goal.returns-then-not-is_room
returns-then-not-is_room c = record { taken = answer_past _ _ _ _ _ _ _ (sym c.is_done.ensures.done ∙ c.if-is_done.false) c.one_more-entries.ensures.counted c.note-seen.ensures.noted (row_sum _ _ _ _ _ _ c.number_size.ensures.digits c.requires.measured) (sym c.is_room.ensures.room ∙ c.if-not-is_room.true) }

pub keep_row-requires : goal.keep_row-requires
keep_row-requires c = record { size = row_sum _ _ _ _ _ _ c.number_size.ensures.digits c.requires.measured }

pub overflow_add-result : goal.overflow_add-result
overflow_add-result c = omega (arith, c.is_room.ensures.end c.if-not-is_room.false)

pub returns : goal.returns
returns c = record { taken = answer_within _ _ _ _ _ _ _ (sym c.is_done.ensures.done ∙ c.if-is_done.false) c.one_more-entries.ensures.counted c.note-seen.ensures.noted (row_sum _ _ _ _ _ _ c.number_size.ensures.digits c.requires.measured) c.if-tally.false (sym c.is_room.ensures.room ∙ c.if-not-is_room.false) _ c.keep_row.ensures.kept }
