-- The steps at hand are copied to the front of the table, those past them follow one by one: when as
-- many stand there as are counted it is the table that is due. Assumes nothing.
use mathlib.Core.Path.{◌≡◌, ap, ◌∙◌}
use native.Mathlib.Omega.{arith}
use Prim.Native.Nat.{◌≤◌}
use lib.ListN.{length}
use lib.Seq.{length-take-le}
use Rattle.path_row.specs.Form.{steps_taken}
use Rattle.path_row.proofs.TakenLaws.{taken_length, at_hand_few}
use Rattle.path_row.proofs.LentLaws.{filled_first, filled_all}
use Rattle.path_row.proofs.lent.fill.Goals as goal

pub slice_bounds-copy_from_slice-end : goal.slice_bounds-copy_from_slice-end
slice_bounds-copy_from_slice-end c = rw c.as_slice-at_hand.ensures.answer (omega (arith, at_hand_few c.args.steps))

pub slice_bounds-copy_from_slice-end-2 : goal.slice_bounds-copy_from_slice-end-2
slice_bounds-copy_from_slice-end-2 c =
    let fits : length c.as_slice-at_hand.result.now ≤ length c.args.out.now = rw c.as_slice-at_hand.ensures.answer (omega (arith, at_hand_few c.args.steps)) in
    omega (arith, length-take-le (length c.as_slice-at_hand.result.now) c.args.out.now fits)

pub copy_from_slice-requires : goal.copy_from_slice-requires
copy_from_slice-requires c =
    let fits : length c.as_slice-at_hand.result.now ≤ length c.args.out.now = rw c.as_slice-at_hand.ensures.answer (omega (arith, at_hand_few c.args.steps)) in
    length-take-le (length c.as_slice-at_hand.result.now) c.args.out.now fits

pub loop-i-init : goal.loop-i-init
loop-i-init c = rw (c.copy_from_slice.ensures.after, c.as_slice-at_hand.ensures.answer) (filled_first c.args.steps c.args.out.now c.requires.room)

pub returns : goal.returns
returns c =
    let few = at_hand_few c.args.steps in
    let first = ap length c.as_slice-at_hand.ensures.answer in
    let all : c.loop-i.i ≡ c.args.steps.count = omega arith in
    record { memory = c.loop-i.invariant ∙ filled_all (steps_taken c.args.steps) c.args.out.now c.loop-i.i (rw all (taken_length c.args.steps)) (omega arith) }
