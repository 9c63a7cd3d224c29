-- `put_measured` meets its contract: the text's length tells whether it fits, and if it does it is
-- copied. Assumes nothing.
use native.Mathlib.Omega.{arith}
use lib.ListN.{length-take}
use Rattle.text_field.specs.Answer.{answer_of}
use Rattle.text_field.specs.Refusal.{number_of}
use Rattle.graph_file.proofs.WriteText.{text_within, told_small, told_copied}
use Rattle.graph_file.proofs.writer.put_measured.Goals as goal

pub returns-then-out-n : goal.returns-then-out-n
unfolding answer_of number_of
returns-then-out-n c = let told = told_small c.args.table.now c.requires.graph c.args.text.now c.put_text-n.new.out c.put_text-n.result (omega (arith, c.requires.room)) c.put_text-n.ensures.written c.args.out.now c.if-out-n.true in record { answer = told.0; memory = told.1 }

pub slice_bounds-copy_from_slice-end-3 : goal.slice_bounds-copy_from_slice-end-3
slice_bounds-copy_from_slice-end-3 c = let within = text_within c.args.table.now c.requires.graph c.args.text.now c.put_text-n.new.out c.put_text-n.result (omega (arith, c.requires.room)) c.put_text-n.ensures.written c.put_text-n.auto.out in omega arith

pub slice_bounds-copy_from_slice-end-4 : goal.slice_bounds-copy_from_slice-end-4
slice_bounds-copy_from_slice-end-4 c = let within = text_within c.args.table.now c.requires.graph c.args.text.now c.put_text-n.new.out c.put_text-n.result (omega (arith, c.requires.room)) c.put_text-n.ensures.written c.put_text-n.auto.out in simp length-take (omega arith)

pub copy_from_slice-requires : goal.copy_from_slice-requires
copy_from_slice-requires c = let within = text_within c.args.table.now c.requires.graph c.args.text.now c.put_text-n.new.out c.put_text-n.result (omega (arith, c.requires.room)) c.put_text-n.ensures.written c.put_text-n.auto.out in simp length-take (omega arith)

pub returns : goal.returns
unfolding answer_of
returns c = let told = told_copied c.args.table.now c.requires.graph c.args.text.now c.put_text-n.new.out c.put_text-n.result (omega (arith, c.requires.room)) c.put_text-n.ensures.written c.args.out.now c.copy_from_slice.new.self c.copy_from_slice.ensures.after c.if-out-n.false in record { answer = told.0; memory = told.1 }
