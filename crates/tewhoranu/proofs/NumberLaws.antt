-- Laws of the numbers. Assumes nothing.
use Prim.Native.Nat.{ℕ, ◌+◌, ◌-◌, ◌≤◌, ◌<◌}
use mathlib.Core.Path.{◌≡◌, refl, sym, ap, ◌∙◌}
use mathlib.Core.List.{List}
use mathlib.Core.Bool.{Bool, true, false}
use native.Mathlib.Omega.{arith}
use borrow.Author.Tests.{ltb-false, eq-eqb, ne_eqb}
use lib.Dec.{ltb}
use lib.ListN.{length}
use Rattle.graph_file.specs.declared.sought.NamePlace.{NamePlace}
use Rattle.text_field.specs.Outcome.{Outcome, refused, done, and_then, refuse_if}
use Rattle.text_field.specs.Answer.{answer}
use Rattle.graph_file.specs.NameSought.{name_sought, place_from, place_sought}
use Rattle.tewhoranu.specs.Numbers.{amount_number, Sized, place_left}

-- what was written fits its room, and a room its 63 bits
pub answer_sized : (o : Outcome (List ℕ)) (room : ℕ) → room < 9223372036854775808 → Sized (answer o room)
unfolding answer and_then refuse_if Sized amount_number
answer_sized (refused n) room h = tt
answer_sized (done out) room h = by_room (ltb room (length out)) refl
  where
    by_room : (b : Bool) → ltb room (length out) ≡ b → Sized (refuse_if b 9 (done (length out)))
    by_room true e = tt
    by_room false e = omega (arith, h, ltb-false room (length out) e)

-- the name's length by its place
pub sought_long : (text : List ℕ) (q : ℕ) → (place_sought text q).to ≡ (place_sought text q).from + length (name_sought text q)
unfolding place_sought place_from name_sought
sought_long text q = refl

-- no name stands where the place is empty, and the lent number stays; else its length is the
-- place's, and the number is where it starts
module _ (text : List ℕ) (q lent : ℕ) (p : NamePlace) (e : p ≡ place_sought text q) where
  long : p.to ≡ p.from + length (name_sought text q)
  long = ap (λ (x : NamePlace). x.to) e ∙ sought_long text q ∙ ap (λ (x : NamePlace). x.from + length (name_sought text q)) (sym e)

  pub no_name : p.to ≤ p.from → (0 ≡ length (name_sought text q)) × (lent ≡ place_left text q lent)
  unfolding place_left
  no_name h =
      let z : length (name_sought text q) ≡ 0 = omega (arith, h, long)
      in (sym z, rw (eq-eqb (length (name_sought text q)) 0 z, place_left))

  pub a_name : p.from < p.to → (p.to - p.from ≡ length (name_sought text q)) × (p.from ≡ place_left text q lent)
  unfolding place_left
  a_name h =
      let z : length (name_sought text q) ≡ 0 → ⊥ = λ y. omega (arith, h, long, y)
      in (omega (arith, long), ap (λ (x : NamePlace). x.from) e ∙ rw (ne_eqb (length (name_sought text q)) 0 z, place_left))
