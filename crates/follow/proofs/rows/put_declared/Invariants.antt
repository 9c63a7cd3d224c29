use Prim.Native.Nat.{◌*◌}
use mathlib.Core.Path.{◌≡◌}
use lib.ListN.{drop}
use Rattle.block.specs.Ask.{ask_start, ask_name}
use Rattle.board.specs.Marks.{marks_in}
use Rattle.follow.specs.Tally.{take_rows}
use Rattle.follow.specs.Walk.{path_hops, letter_bytes, entry_rows}
use Rattle.follow.proofs.rows.put_declared.Given as goal

abbrev pub invariant-loop-i : goal.invariant-loop-i
invariant-loop-i l =
    take_rows l.on.aim.bounds (l.out, l.t) (entry_rows (letter_bytes l.on.block.now) (ask_start l.on.ask.now) (path_hops l.path) l.s (marks_in (drop (l.i * 6) l.decls) l.s (ask_name l.on.ask.now)))
    ≡ take_rows l.on.aim.bounds (l.initial.out, l.initial.t) (entry_rows (letter_bytes l.on.block.now) (ask_start l.on.ask.now) (path_hops l.path) l.s (marks_in l.decls l.s (ask_name l.on.ask.now)))
