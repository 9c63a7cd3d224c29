-- `is_room` meets its contract: what is left after k is compared with n. Assumes nothing.
use Rattle.follow.proofs.TakeLaws.{fits_no, fits_rest}
use native.Mathlib.Omega.{arith}
use mathlib.Core.Path.{sym, ◌∙◌}
use Prim.Native.Nat.{◌-◌}
use mathlib.Core.Bool.{false≢true}
use borrow.Author.Tests.{lt-leb, leb-true}
use Rattle.follow.proofs.count.is_room.Goals as goal

pub returns-then-k-m : goal.returns-then-k-m
returns-then-k-m c = record { room = fits_rest c.args.m c.args.n c.args.k c.if-k-m.true; end = λ e. let on = leb-true c.args.n (c.args.m - c.args.k) e in omega arith }

pub returns-else-k-m : goal.returns-else-k-m
returns-else-k-m c = record { room = lt-leb c.args.k c.args.m c.if-k-m.false ∙ sym (fits_no c.args.m c.args.n c.args.k (omega arith)); end = λ e. absurd (false≢true (sym (lt-leb c.args.k c.args.m c.if-k-m.false) ∙ e)) }
