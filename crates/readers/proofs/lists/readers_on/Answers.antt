-- `readers_on` meets its contract. Assumes nothing.
use native.Mathlib.Omega.{arith}
use lib.ListN.{replicate}
use Rattle.text_field.specs.Refusal.{number_of}
use Rattle.text_field.specs.Answer.{answer_of}
use Rattle.resolution.proofs.Buffers.{own_short, own_within, own_whole}
use Rattle.readers.specs.Given.{declaration_on}
use Rattle.readers.proofs.Places.{row_stands}
use Rattle.readers.proofs.Answers.{lines_for, lines_room, no_place, place_told}
use Rattle.readers.proofs.lists.readers_on.Goals as goal

pub returns-then-declaration_count-place : goal.returns-then-declaration_count-place
unfolding answer_of number_of
returns-then-declaration_count-place c = let told = no_place c.args.table.now c.args.place (omega arith) c.args.out.now in record { answer = told.0; memory = told.1 }

pub declaration_at-d-requires : goal.declaration_at-d-requires
declaration_at-d-requires c = record { read = c.requires.read; made = c.requires.made; place = omega arith }

pub put_readers-n-requires : goal.put_readers-n-requires
put_readers-n-requires c = record { stands = row_stands c.args.table.now c.args.block.now c.requires.read c.requires.made c.args.place (omega arith) _ c.declaration_at-d.ensures.declaration }

pub returns-then-out-n : goal.returns-then-out-n
unfolding answer_of number_of
returns-then-out-n c = let told = place_told c.args.table.now c.args.place (omega arith) c.declaration_at-d.result c.declaration_at-d.ensures.declaration _ _ c.args.out.now
    (own_short (lines_for c.args.table.now (declaration_on c.args.table.now c.declaration_at-d.result)) (replicate 256 0) _ _ c.put_readers-n.ensures.written
    (lines_room c.args.table.now c.requires.read (declaration_on c.args.table.now c.declaration_at-d.result)) c.args.out.now c.if-out-n.true) in record { answer = told.0; memory = told.1 }

pub slice_bounds-lines-end : goal.slice_bounds-lines-end
slice_bounds-lines-end c = (own_within (lines_for c.args.table.now (declaration_on c.args.table.now c.declaration_at-d.result)) (replicate 256 0) _ _ c.put_readers-n.ensures.written
    (lines_room c.args.table.now c.requires.read (declaration_on c.args.table.now c.declaration_at-d.result))).0

pub slice_bounds-put_bytes-end : goal.slice_bounds-put_bytes-end
slice_bounds-put_bytes-end c = (own_within (lines_for c.args.table.now (declaration_on c.args.table.now c.declaration_at-d.result)) (replicate 256 0) _ _ c.put_readers-n.ensures.written
    (lines_room c.args.table.now c.requires.read (declaration_on c.args.table.now c.declaration_at-d.result))).1

pub returns : goal.returns
unfolding answer_of
returns c = let told = place_told c.args.table.now c.args.place (omega arith) c.declaration_at-d.result c.declaration_at-d.ensures.declaration _ _ c.args.out.now
    (own_whole (lines_for c.args.table.now (declaration_on c.args.table.now c.declaration_at-d.result)) (replicate 256 0) _ _ c.put_readers-n.ensures.written
    (lines_room c.args.table.now c.requires.read (declaration_on c.args.table.now c.declaration_at-d.result)) c.args.out.now _ _ c.if-out-n.false c.put_bytes.ensures.written) in record { answer = told.0; memory = told.1 }
