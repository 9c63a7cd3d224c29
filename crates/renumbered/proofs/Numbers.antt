-- A scope's new number, looked for in the list from its front. Assumes nothing.
use Prim.Native.Nat.{ℕ, suc, ◌+◌, ◌≤◌}
use mathlib.Core.Path.{◌≡◌, refl, sym, ap, ◌∙◌}
use mathlib.Core.Bool.{Bool, true, false, cond}
use mathlib.Core.List.{List, [], ◌∷◌}
use native.Mathlib.Omega.{arith}
use borrow.Author.Tests.{eq-eqb, ne_eqb, eqb-true, eqb-false, ltb-false}
use lib.Dec.{eqb, ltb}
use lib.ListN.{length}
use Rattle.std.specs.List.{position_or_len}
use Rattle.std.specs.Option.{unwrap_or}
use Rattle.std.specs.declared.option.Option.{Option}
use Rattle.std.specs.declared.option.Option.TheVariants.{Some, None}
use Rattle.std.proofs.lemmas.List.Recursion.{is_position_or_len}
use Rattle.scope_graph.specs.Renamed.{place_of}
use Rattle.renumbered.specs.Renumbered.{value_under}

place_here : (x y : ℕ) (l : List ℕ) → y ≡ x → place_of x (y ∷ l) ≡ 0
unfolding place_of
place_here x y l e = rw (eq-eqb x y (sym e), place_of)

place_later : (x y : ℕ) (l : List ℕ) → ¬ (y ≡ x) → place_of x (y ∷ l) ≡ suc (place_of x l)
unfolding place_of
place_later x y l n = rw (ne_eqb x y (λ e. n (sym e)), place_of)

place_none : (x : ℕ) → place_of x [] ≡ 0
unfolding place_of
place_none x = refl

place_next : (x y : ℕ) (l : List ℕ) → place_of x (y ∷ l) ≡ cond (eqb y x) 0 (1 + place_of x l)
place_next x y l = by (eqb y x) refl
  where
    by : (t : Bool) → eqb y x ≡ t → place_of x (y ∷ l) ≡ cond (eqb y x) 0 (1 + place_of x l)
    by true t = rw t (place_here x y l (eqb-true y x t))
    by false t = rw t (place_later x y l (eqb-false y x t) ∙ omega arith)

place_most : (x : ℕ) (l : List ℕ) → place_of x l ≤ length l
unfolding place_of
place_most x [] = omega arith
place_most x (y ∷ l) = by (eqb x y) (place_most x l)
  where
    by : (t : Bool) → place_of x l ≤ length l → (elim t as (λ _. ℕ) [ true ↦ 0 | false ↦ suc (place_of x l) ]) ≤ suc (length l)
    by true m = omega arith
    by false m = omega arith

-- the first place in the list, as a search tells it, or the list's length
pub number_told : (x : ℕ) (l : List ℕ) (found : Option ℕ)
    → found ≡ cond (ltb (position_or_len (λ y. eqb y x) l) (length l)) (Some (position_or_len (λ y. eqb y x) l)) None
    → unwrap_or found (length l) ≡ place_of x l
number_told x l found e =
    let is = is_position_or_len (place_of x) (λ y. eqb y x) (place_none x) (place_next x) l in
    ap (λ (o : Option ℕ). unwrap_or o (length l)) e ∙ by (ltb (position_or_len (λ y. eqb y x) l) (length l)) refl is (place_most x l)
  where
    by : (t : Bool) → ltb (position_or_len (λ y. eqb y x) l) (length l) ≡ t → place_of x l ≡ position_or_len (λ y. eqb y x) l → place_of x l ≤ length l
        → unwrap_or (cond t (Some (position_or_len (λ y. eqb y x) l)) None) (length l) ≡ place_of x l
    by true t is most = sym is
    by false t is most = let least = ltb-false (position_or_len (λ y. eqb y x) l) (length l) t in omega arith

-- a value, by whether it is a scope
pub value_scope : (f : ℕ → ℕ) (t : Bool) (v r : ℕ) → t ≡ true → r ≡ f v → r ≡ value_under f t v
unfolding value_under
value_scope f t v r e h = rw e h

pub value_other : (f : ℕ → ℕ) (t : Bool) (v : ℕ) → t ≡ false → v ≡ value_under f t v
unfolding value_under
value_other f t v e = rw e

pub ruleset value_steps = (value_scope, value_other)
