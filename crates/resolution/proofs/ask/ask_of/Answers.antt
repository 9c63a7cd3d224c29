-- `ask_of` meets its contract. Assumes nothing.
use Prim.Native.Nat.{ℕ}
use mathlib.Core.Path.{subst}
use mathlib.Core.List.{List}
use native.Mathlib.Omega.{arith}
use Rattle.graph_table.specs.Values.{packed}
use Rattle.board.specs.Marks.{DeclaringIs}
use Rattle.resolution.proofs.ask.ask_of.Goals as goal

pub part-requires : goal.part-requires
part-requires c = record { made = c.requires.made; section = omega arith }

pub ask_from-requires : goal.ask_from-requires
ask_from-requires c = record { made = c.requires.made; asked = c.requires.asked; goal = subst (λ (l : List ℕ). DeclaringIs l (packed c.args.q.name) c.declaring-goal.result) c.part.ensures.answer c.declaring-goal.ensures.answer }
