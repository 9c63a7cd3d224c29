-- `tewhoranu_dot` answers the number of what `dot` answers. Assumes nothing.
use mathlib.Core.Path.{sym, ap, subst, ◌∙◌}
use native.Mathlib.Omega.{arith}
use lib.ListN.{length}
use Rattle.tewhoranu.specs.Numbers.{written, Sized}
use Rattle.tewhoranu.proofs.NumberLaws.{answer_sized}
use Rattle.tewhoranu.proofs.tewhoranu_dot.Goals as goal

pub written_number-requires : goal.written_number-requires
written_number-requires c = record { sized = subst Sized (sym c.dot.ensures.answer) (answer_sized _ (length c.args.out.now) (omega (arith, c.well_formed.1.0.1))) }

pub returns : goal.returns
returns c = record { answer = c.written_number.ensures.answer ∙ ap written c.dot.ensures.answer; memory = c.dot.ensures.memory }
