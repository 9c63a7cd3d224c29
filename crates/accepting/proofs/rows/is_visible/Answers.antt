-- `is_visible` meets its contract: by its cases. Assumes nothing.
use mathlib.Core.Path.{◌≡◌, refl}
use mathlib.Core.Bool.{false}
use Rattle.judge.specs.declared.standing.Judged.{Judged}
use Rattle.judge.specs.declared.standing.Judged.TheVariants.{Visible, Shadowed, Unreached}
use Rattle.judge.specs.Judge.{standing_in}
use Rattle.accepting.specs.Tests.{is_visible}
use Rattle.accepting.proofs.rows.is_visible.Goals as goal

other : (j : Judged) → (j ≡ Visible → ⊥) → false ≡ is_visible (standing_in j)
unfolding standing_in is_visible
other Visible n = absurd (n refl)
other (Shadowed k) n = refl
other Unreached n = refl

pub returns-in-Visible : goal.returns-in-Visible
unfolding standing_in is_visible
returns-in-Visible c = record { answer = rw c.in-Visible.is }

pub returns-in_default : goal.returns-in_default
returns-in_default c = record { answer = other c.args.j c.in_default.not-Visible }
