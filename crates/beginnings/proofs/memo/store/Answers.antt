-- `store` meets its contract. Assumes nothing.
use native.Mathlib.Omega.{arith}
use lib.ListN.{length-set}
use Rattle.beginnings.proofs.MemoLaws.{stored}
use Rattle.beginnings.proofs.memo.store.Goals as goal

pub bounds-memo-i-2 : goal.bounds-memo-i-2
bounds-memo-i-2 c = simp length-set (omega (arith, c.requires.size))

pub returns : goal.returns
returns c = record { right = λ block near ask right told. rw c.tag.ensures.tag (stored block near ask c.args.memo.now right c.args.at c.args.free c.args.s c.args.q c.requires.slot c.requires.state c.args.n c.requires.most told) }
