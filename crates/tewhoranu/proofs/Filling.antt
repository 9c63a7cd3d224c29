-- The steps that a call hands out for a lent table: they fit in, and `fill` leaves the table as it
-- should be. Assumes nothing.
use mathlib.Core.Path.{◌≡◌, sym, ap, subst, ◌∙◌}
use Prim.Native.Nat.{ℕ, ◌≤◌}
use mathlib.Core.List.{List}
use lib.ListN.{length}
use Rattle.text_field.specs.Outcome.{Outcome}
use Rattle.path_row.specs.declared.form.Step.{Step}
use Rattle.path_row.specs.declared.taken.Steps.{Steps}
use Rattle.path_row.specs.Form.{steps_taken, steps_held}
use Rattle.path_row.specs.Lent.{overlaid, steps_left, steps_lent}
use Rattle.path_row.proofs.TakenLaws.{taken_held}
use Rattle.path_row.proofs.LentLaws.{left_lent}

-- the steps that a call with this outcome hands out for its table
module _ {A : Type 0} (o : Outcome A) (row : List ℕ) (t : Steps) (e : t ≡ steps_held (steps_lent o row)) where
  pub steps_within : (n : ℕ) → length (steps_lent o row) ≤ n → t.count ≤ n
  steps_within n h = subst (λ (z : Steps). z.count ≤ n) (sym e) h

  pub steps_left_lem : (ys ys' : List Step) → ys' ≡ overlaid (steps_taken t) ys → ys' ≡ steps_left o row ys
  steps_left_lem ys ys' f = f ∙ ap (λ (z : Steps). overlaid (steps_taken z) ys) e ∙ ap (λ (z : List Step). overlaid z ys) (taken_held (steps_lent o row)) ∙ left_lent o row ys
