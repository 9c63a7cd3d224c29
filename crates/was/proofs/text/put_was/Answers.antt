-- `put_was` meets its contract. The loop's invariant: the lines of the numbers so far are written.
-- Assumes nothing.
use mathlib.Core.Path.{ap, ◌∙◌}
use mathlib.Core.List.{flat_map}
use Rattle.std.proofs.Common.{rules}
use Rattle.text_field.specs.Buffer.{puts}
use Rattle.text_field.proofs.WritingLaws.{wrote_none, ◌then◌, written}
use Rattle.was.proofs.WritingLaws.{lines_next, lines_all}
use Rattle.was.proofs.text.put_was.Goals as goal

pub loop-v-init : goal.loop-v-init
unfolding flat_map
loop-v-init c = wrote_none _

pub loop-v-preserved : goal.loop-v-preserved
loop-v-preserved c = rw (lines_next c.args.list.now c.loop-v.v-index c.loop-v-test.true) (c.loop-v.invariant then c.put_line.ensures.wrote)

pub returns : goal.returns
returns c =
    let w = c.put_bytes.ensures.wrote then c.loop-v.invariant in
    let m = written _ _ _ _ c.new-to.ensures.starts w ∙ ap (puts _) (lines_all c.args.list.now c.loop-v.v-index c.loop-v-test.false) in
    record { written = search (rules, w.same, m) }
