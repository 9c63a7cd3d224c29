use Prim.Native.Nat.{ℕ}
use mathlib.Core.Path.{refl, ap, ◌∙◌, fun_ext}
use Rattle.board.specs.Tables.{tabulate}
use Rattle.board.specs.Marks.{declared_cell}
use Rattle.board.proofs.sections.declared_table.Goals as goal

pub returns : goal.returns
unfolding declared_cell
returns c = record { answer = c.places.ensures.answer ∙ ap (λ (f : ℕ → ℕ). tabulate f 65) (fun_ext (λ k. refl)) }
