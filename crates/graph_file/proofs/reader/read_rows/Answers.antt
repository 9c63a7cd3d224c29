use Prim.Native.Nat.{ℕ, suc, ◌+◌, ◌-◌, ◌≤◌}
use mathlib.Core.Path.{◌≡◌, refl, sym, ap, ◌∙◌}
use native.Mathlib.Omega.{arith}
use native.Mathlib.Nat.{sub-zero}
use borrow.Author.Rules.{rules}
use lib.ListN.{length, drop}
use Rattle.text_field.specs.Refusal.{number_of}
use Rattle.graph_rows.specs.Format.{section_at}
use Rattle.graph_rows.specs.Way.{through_rows}
use Rattle.graph_file.specs.File.{reading}
use Rattle.graph_file.specs.Reader.{stage_at, part_outcome}
use Rattle.graph_rows.proofs.AdmissionLaws.{sorted_none}
use Rattle.graph_file.proofs.SortedLaws.{read_sorted}
use Rattle.graph_file.proofs.ReadLaws.{part_refused}
use Rattle.graph_rows.proofs.WayLaws.{rows_off, rows_refused, rows_next, rows_turn}
use Rattle.graph_file.proofs.RoomLaws.{row_passed, room_here}
use Rattle.graph_file.proofs.reader.read_rows.Goals as goal

pub loop-s-init : goal.loop-s-init
loop-s-init c = (c.requires.room.2, omega (arith, c.requires.room.3), omega (arith, c.requires.room.3), refl, rw (c.requires.room.3, sub-zero (suc (section_at c.args.s.section).most)), omega (arith, c.requires.room.3), sorted_none _ _ _ _ c.requires.room.3)

pub read_row-requires : goal.read_row-requires
read_row-requires c =
    let h : c.loop-s.r.cells + 6 ≤ length c.args.table.now = room_here c.args.s.section c.args.above.cells c.loop-s.r.cells c.loop-s.r.counts.rows (length c.args.table.now) (drop c.args.above.next c.args.text.now) (drop c.loop-s.r.next c.args.text.now) c.requires.room.0 c.loop-s.invariant.2 c.loop-s.invariant.1 c.loop-s.invariant.5
    in record { room = (omega (arith, h, c.loop-s.invariant.3), omega (arith, c.requires.room.1, c.loop-s.invariant.1, c.loop-s.invariant.2), c.loop-s.invariant.0, c.requires.room.4); sorted = c.loop-s.invariant.6 }

pub returns-in_err-r-clause-answer : goal.returns-in_err-r-clause-answer
unfolding reading stage_at part_outcome
returns-in_err-r-clause-answer c =
    part_refused _ _ _ c.in_err-r.field-0.0 (search rules)
    ∙ sym (rows_refused (reading c.args.s.form) c.args.s.section ((section_at c.args.s.section).most - c.loop-s.r.counts.rows) (stage_at c.loop-s.table c.loop-s.r.cells c.loop-s.r.counts (drop c.loop-s.r.next c.args.text.now)) (number_of c.in_err-r.field-0.0) (sym c.row_starts.ensures.answer ∙ c.loop-s-test.true) (sym c.in_err-r.ensures.answer))
    ∙ sym (rows_turn (reading c.args.s.form) c.args.s.section (section_at c.args.s.section).most c.loop-s.r.counts.rows (stage_at c.loop-s.table c.loop-s.r.cells c.loop-s.r.counts (drop c.loop-s.r.next c.args.text.now)) c.loop-s.invariant.1) ∙ c.loop-s.invariant.4

pub loop-s-smaller : goal.loop-s-smaller
loop-s-smaller c = let t = c.in_ok-r.ensures.taken in omega (arith, t.room, t.more, c.loop-s.invariant.1)

pub loop-s-preserved : goal.loop-s-preserved
unfolding reading stage_at part_outcome
loop-s-preserved c =
    let t = c.in_ok-r.ensures.taken
    in let x : suc (section_at c.args.s.section).most - c.in_ok-r.r.counts.rows ≡ (section_at c.args.s.section).most - c.loop-s.r.counts.rows = omega (arith, t.room, t.more)
    in (
      t.placed,
      omega (arith, t.room, t.more),
      omega (arith, t.longer, t.more, c.loop-s.invariant.2),
      c.read_row.auto.table ∙ c.loop-s.invariant.3,
      ap (λ (n : ℕ). through_rows (reading c.args.s.form) n c.args.s.section (stage_at c.read_row.new.table c.in_ok-r.r.cells c.in_ok-r.r.counts (drop c.in_ok-r.r.next c.args.text.now))) x
          ∙ sym (rows_next (reading c.args.s.form) c.args.s.section ((section_at c.args.s.section).most - c.loop-s.r.counts.rows) (stage_at c.loop-s.table c.loop-s.r.cells c.loop-s.r.counts (drop c.loop-s.r.next c.args.text.now)) (stage_at c.read_row.new.table c.in_ok-r.r.cells c.in_ok-r.r.counts (drop c.in_ok-r.r.next c.args.text.now)) (sym c.row_starts.ensures.answer ∙ c.loop-s-test.true) (sym c.in_ok-r.ensures.answer))
          ∙ sym (rows_turn (reading c.args.s.form) c.args.s.section (section_at c.args.s.section).most c.loop-s.r.counts.rows (stage_at c.loop-s.table c.loop-s.r.cells c.loop-s.r.counts (drop c.loop-s.r.next c.args.text.now)) c.loop-s.invariant.1) ∙ c.loop-s.invariant.4,
      omega (arith, c.loop-s.invariant.5, row_passed c.args.s.form c.args.s.section c.loop-s.r.cells c.in_ok-r.r.cells c.loop-s.table c.read_row.new.table c.loop-s.r.counts c.in_ok-r.r.counts (drop c.loop-s.r.next c.args.text.now) (drop c.in_ok-r.r.next c.args.text.now) (sym c.in_ok-r.ensures.answer)),
      read_sorted c.args.s.form c.args.s.section c.loop-s.r.cells c.in_ok-r.r.cells c.loop-s.table c.read_row.new.table c.loop-s.r.counts c.in_ok-r.r.counts (drop c.loop-s.r.next c.args.text.now) (drop c.in_ok-r.r.next c.args.text.now) (sym c.in_ok-r.ensures.answer) c.loop-s.invariant.6,
    )

pub returns : goal.returns
unfolding reading stage_at part_outcome
returns c = record {
  answer = sym (rows_off (reading c.args.s.form) ((section_at c.args.s.section).most - c.loop-s.r.counts.rows) c.args.s.section (stage_at c.loop-s.table c.loop-s.r.cells c.loop-s.r.counts (drop c.loop-s.r.next c.args.text.now)) (sym c.row_starts.ensures.answer ∙ c.loop-s-test.false)) ∙ sym (rows_turn (reading c.args.s.form) c.args.s.section (section_at c.args.s.section).most c.loop-s.r.counts.rows (stage_at c.loop-s.table c.loop-s.r.cells c.loop-s.r.counts (drop c.loop-s.r.next c.args.text.now)) c.loop-s.invariant.1) ∙ c.loop-s.invariant.4;
  taken = record { most = c.loop-s.invariant.1; longer = c.loop-s.invariant.2; placed = c.loop-s.invariant.0 };
}
