-- What an admission that was not refused tells of its tests. Assumes nothing.
use Prim.Native.Nat.{ℕ, zero, suc}
use mathlib.Core.Path.{◌≡◌, refl}
use mathlib.Core.Bool.{Bool, true, false}
use native.Mathlib.Omega.{arith}
use Rattle.text_field.specs.Outcome.{Outcome, done}
use Rattle.text_field.proofs.OutcomeLaws.{not_done}
use Rattle.graph_rows.specs.Admission.{unless}
use Rattle.graph_rows.specs.Way.{Stage, if_admitted}

-- the row was admitted
pub admitted : (n : ℕ) (next : Outcome Stage) (g : Stage) → if_admitted n next ≡ done g → (n ≡ 0) × (next ≡ done g)
unfolding if_admitted
admitted zero next g e = (refl, e)
admitted (suc n) next g e = absurd (not_done (suc n) g e)

-- a refusal that is no 0 was not given
pub held : (t : Bool) (n rest : ℕ) → unless t (suc n) rest ≡ 0 → (t ≡ true) × (rest ≡ 0)
unfolding unless
held true n rest e = (refl, e)
held false n rest e = absurd (omega arith)
