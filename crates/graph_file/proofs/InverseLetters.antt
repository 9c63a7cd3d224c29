-- The labels' letters: each is a capital and stands once, so that a label's number and its letter
-- tell each other. Assumes nothing.
use Prim.Native.Nat.{ℕ, suc, ◌≤◌, ◌<◌}
use mathlib.Core.Path.{◌≡◌, refl, sym, ap, ◌∙◌}
use mathlib.Core.List.{List, [], ◌∷◌, ◌++◌}
use mathlib.Core.Bool.{Bool, true, false, ◌||◌}
use native.Mathlib.Omega.{arith}
use lib.Dec.{eqb, ltb}
use lib.ListN.{length, get_or, length-append, get_or-append}
use lib.Seq.{get_or_at}
use borrow.Author.Tests.{eqb-true, eq-eqb, ltb-true, ltb-false}
use Rattle.text_field.specs.Bytes.{is_capital}
use Rattle.text_field.proofs.ByteLaws.{clash}
use Rattle.graph_rows.specs.Admission.{listed, place}

pub record Letters (ls : List ℕ) : Type 0 where
  pub capital : (v : ℕ) → v < length ls → is_capital (get_or ls v 0) ≡ true
  pub own : (v : ℕ) → v < length ls → place (get_or ls v 0) ls ≡ v

place_on : (x y : ℕ) (ls : List ℕ) → eqb y x ≡ true → place x (y ∷ ls) ≡ 0
unfolding place
place_on x y ls e = rw (e, place)

place_off : (x y : ℕ) (ls : List ℕ) → eqb y x ≡ false → place x (y ∷ ls) ≡ suc (place x ls)
unfolding place
place_off x y ls e = rw (e, place)

-- a listed letter stands at its number
pub letter_there : (x : ℕ) (ls : List ℕ) → place x ls < length ls → get_or ls (place x ls) 0 ≡ x
letter_there x [] h = absurd (omega arith)
letter_there x (y ∷ ls) h = by (eqb y x) refl (letter_there x ls)
  where
    by : (t : Bool) → eqb y x ≡ t → (place x ls < length ls → get_or ls (place x ls) 0 ≡ x) → get_or (y ∷ ls) (place x (y ∷ ls)) 0 ≡ x
    by true e ih = rw (place_on x y ls e) (eqb-true y x e)
    by false e ih = let p = place_off x y ls e in rw p (ih (omega arith))

-- a further letter changes no number
place_kept : (x y : ℕ) (ls : List ℕ) → place x ls < length ls → place x (ls ++ (y ∷ [])) ≡ place x ls
place_kept x y [] h = absurd (omega arith)
place_kept x y (z ∷ ls) h = by (eqb z x) refl (place_kept x y ls)
  where
    by : (t : Bool) → eqb z x ≡ t → (place x ls < length ls → place x (ls ++ (y ∷ [])) ≡ place x ls)
        → place x (z ∷ (ls ++ (y ∷ []))) ≡ place x (z ∷ ls)
    by true e ih = place_on x z (ls ++ (y ∷ [])) e ∙ sym (place_on x z ls e)
    by false e ih = let p = place_off x z ls e in place_off x z (ls ++ (y ∷ [])) e ∙ ap suc (ih (omega arith)) ∙ sym p

-- a letter not yet listed has the number after the others
place_new : (x : ℕ) (ls : List ℕ) → listed x ls ≡ false → place x (ls ++ (x ∷ [])) ≡ length ls
unfolding listed
place_new x [] h = place_on x x [] (eq-eqb x x refl)
place_new x (y ∷ ls) h = by (eqb y x) refl (listed x ls) refl h (place_new x ls)
  where
    by : (t : Bool) → eqb y x ≡ t → (u : Bool) → listed x ls ≡ u → (t || u) ≡ false → (listed x ls ≡ false → place x (ls ++ (x ∷ [])) ≡ length ls)
        → place x (y ∷ (ls ++ (x ∷ []))) ≡ suc (length ls)
    by true e u f k ih = absurd (clash refl k)
    by false e u f k ih = place_off x y (ls ++ (x ∷ [])) e ∙ ap suc (ih (f ∙ k))

pub no_letters : Letters []
no_letters = record { capital = λ v h. absurd (omega arith); own = λ v h. absurd (omega arith) }

pub letters_joined : (ls : List ℕ) (x : ℕ) → Letters ls → is_capital x ≡ true → listed x ls ≡ false → Letters (ls ++ (x ∷ []))
letters_joined ls x L c n = record { capital = capital; own = own }
  where
    there : (v : ℕ) → v < length ls → get_or (ls ++ (x ∷ [])) v 0 ≡ get_or ls v 0
    there v h = get_or-append ls (x ∷ []) 0 v h

    new : (v : ℕ) → length ls ≡ v → get_or (ls ++ (x ∷ [])) v 0 ≡ x
    new v h = get_or_at ls x [] 0 v h

    last : (v : ℕ) → v < length (ls ++ (x ∷ [])) → length ls ≤ v → length ls ≡ v
    last v h k = omega (arith, length-append ls (x ∷ []))

    capital : (v : ℕ) → v < length (ls ++ (x ∷ [])) → is_capital (get_or (ls ++ (x ∷ [])) v 0) ≡ true
    capital v h = by (ltb v (length ls)) refl
      where
        by : (t : Bool) → ltb v (length ls) ≡ t → is_capital (get_or (ls ++ (x ∷ [])) v 0) ≡ true
        by true e = let k = ltb-true v (length ls) e in rw (there v k) (L.capital v k)
        by false e = rw (new v (last v h (ltb-false v (length ls) e))) c

    own : (v : ℕ) → v < length (ls ++ (x ∷ [])) → place (get_or (ls ++ (x ∷ [])) v 0) (ls ++ (x ∷ [])) ≡ v
    own v h = by (ltb v (length ls)) refl
      where
        by : (t : Bool) → ltb v (length ls) ≡ t → place (get_or (ls ++ (x ∷ [])) v 0) (ls ++ (x ∷ [])) ≡ v
        by true e =
            let k = ltb-true v (length ls) e
            in let o = L.own v k
            in rw (there v k) (place_kept (get_or ls v 0) x ls (omega arith) ∙ o)
        by false e =
            let k = last v h (ltb-false v (length ls) e)
            in rw (new v k) (place_new x ls n ∙ k)
