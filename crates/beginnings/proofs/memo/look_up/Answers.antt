-- `look_up` meets its contract. Assumes nothing.
use mathlib.Core.Path.{refl}
use native.Mathlib.Omega.{arith}
use Rattle.beginnings.proofs.MemoLaws.{recall}
use Rattle.beginnings.proofs.memo.look_up.Goals as goal

pub returns : goal.returns
returns c = record { told = λ block near ask right some. recall block near ask c.args.memo.now right c.args.at c.args.free c.args.s c.args.q c.requires.slot c.requires.state (omega (arith, c)) _ refl (omega (arith, c, c.tag.ensures.tag)) }
