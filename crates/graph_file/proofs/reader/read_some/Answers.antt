use Prim.Native.Nat.{◌+◌, ◌-◌}
use mathlib.Core.Path.{refl, sym, ◌∙◌}
use native.Mathlib.Omega.{arith}
use borrow.Author.Rules.{rules}
use lib.ListN.{length, drop}
use lib.Seq.{drop-drop}
use Rattle.text_field.specs.Refusal.{number_of}
use Rattle.graph_file.specs.File.{reading}
use Rattle.graph_file.specs.Reader.{stage_at, part_outcome}
use Rattle.graph_file.proofs.ReadLaws.{part_refused}
use Rattle.graph_file.proofs.SectionLaws.{some_refused, some_next, some_more, some_over, some_taken, part_is, part_length}
use Rattle.graph_rows.proofs.CountLaws.{placed_next, room_next, room_below}
use Rattle.graph_file.proofs.RoomLaws.{section_passed, room_section}
use Rattle.graph_file.proofs.reader.read_some.Goals as goal

pub loop-k-init : goal.loop-k-init
loop-k-init c = (c.requires.room.3, refl, refl)

pub slice_bounds-read_section-start : goal.slice_bounds-read_section-start
slice_bounds-read_section-start c = c.loop-k.invariant.0.inside

pub read_section-requires : goal.read_section-requires
read_section-requires c =
    let s = c.loop-k.invariant.0
    in let h = room_below (c.loop-k.k + 1) (omega (arith, c.requires.room.2))
    in let m = room_next c.loop-k.k
    in record { room = (rw (part_is c.args.text.now c.loop-k.r.next) (room_section c.loop-k.k c.loop-k.r.cells (length c.args.table.now) (length c.loop-k.table) c.args.text.now (drop c.loop-k.r.next c.args.text.now) c.requires.room.0 c.loop-k.invariant.1 (omega (arith, c.requires.room.2)) s.room s.lines), omega (arith, s.room, h, m), s.placed) }

pub returns-in_err-section-clause-answer : goal.returns-in_err-section-clause-answer
unfolding part_outcome
returns-in_err-section-clause-answer c =
    part_refused _ _ _ c.in_err-section.field-0.0 (search rules)
    ∙ sym (some_refused (reading c.args.form) c.loop-k.k (c.args.last - (c.loop-k.k + 1)) (stage_at c.loop-k.table c.loop-k.r.cells c.loop-k.r.counts (drop c.loop-k.r.next c.args.text.now)) (number_of c.in_err-section.field-0.0) (sym (rw (part_is c.args.text.now c.loop-k.r.next) at c.in_err-section.ensures.answer)))
    ∙ sym (some_more (reading c.args.form) c.loop-k.k c.args.last (stage_at c.loop-k.table c.loop-k.r.cells c.loop-k.r.counts (drop c.loop-k.r.next c.args.text.now)) c.loop-k-test.true) ∙ c.loop-k.invariant.2

pub overflow_add-r : goal.overflow_add-r
overflow_add-r c = omega (arith, c.in_ok-section.ensures.taken.inside, part_length c.args.text.now c.loop-k.r.next, c.loop-k.invariant.0.inside)

pub loop-k-preserved : goal.loop-k-preserved
unfolding part_outcome
loop-k-preserved c =
    let s = c.loop-k.invariant.0
    in let t = c.in_ok-section.ensures.taken
    in let at = c.loop-k.r.next
    in let read = rw (part_is c.args.text.now at, drop-drop c.in_ok-section.section.next at c.args.text.now) at c.in_ok-section.ensures.answer
    in (
      record {
        inside = omega (arith, t.inside, part_length c.args.text.now at, s.inside);
        room = omega (arith, room_next c.loop-k.k, t.rows.longer, t.rows.most, s.room);
        placed = placed_next c.loop-k.k c.in_ok-section.section.cells c.in_ok-section.section.counts t.rows.placed;
        lines = omega (arith, t.rows.longer, s.lines, section_passed c.args.form c.loop-k.k c.loop-k.r.cells c.in_ok-section.section.cells c.loop-k.table c.read_section.new.table c.loop-k.r.counts c.in_ok-section.section.counts (drop at c.args.text.now) (drop (at + c.in_ok-section.section.next) c.args.text.now) (sym read));
      },
      c.read_section.auto.table ∙ c.loop-k.invariant.1,
      some_next (reading c.args.form) c.loop-k.k (c.args.last - (c.loop-k.k + 1)) (stage_at c.loop-k.table c.loop-k.r.cells c.loop-k.r.counts (drop at c.args.text.now)) (stage_at c.read_section.new.table c.in_ok-section.section.cells c.in_ok-section.section.counts (drop (at + c.in_ok-section.section.next) c.args.text.now)) (sym read)
          ∙ sym (some_more (reading c.args.form) c.loop-k.k c.args.last (stage_at c.loop-k.table c.loop-k.r.cells c.loop-k.r.counts (drop at c.args.text.now)) c.loop-k-test.true) ∙ c.loop-k.invariant.2,
    )

pub returns : goal.returns
unfolding part_outcome
returns c = record {
  answer = sym (some_over (reading c.args.form) c.loop-k.k c.args.last (stage_at c.loop-k.table c.loop-k.r.cells c.loop-k.r.counts (drop c.loop-k.r.next c.args.text.now)) c.loop-k-test.false) ∙ c.loop-k.invariant.2;
  taken = some_taken c.loop-k.k c.args.last _ _ (omega (arith, c.requires.room.1)) c.loop-k.invariant.0;
}
