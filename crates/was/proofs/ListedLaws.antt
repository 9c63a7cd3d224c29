-- Looking for a number in a list, as std's test has it. Assumes nothing.
use Prim.Native.Nat.{ℕ}
use mathlib.Core.Path.{◌≡◌, refl}
use mathlib.Core.Bool.{Bool, true, false, ◌||◌}
use mathlib.Core.List.{List, [], ◌∷◌}
use lib.Dec.{eqb}
use borrow.Author.Tests.{eqb-true, eqb-false, eq-eqb, ne_eqb}
use Rattle.std.specs.List.{list_any}
use Rattle.scope_graph.specs.Rows.{any_of}
use Rattle.scope_graph.proofs.Lists.{Two}
use mathlib.Core.Path.{sym, ◌∙◌}
use mathlib.Core.Logic.{⊎_elim}
use Rattle.was.specs.Order.{is_listed}

-- a test of two numbers does not ask which comes first
pub either_way : (x y : ℕ) → eqb x y ≡ eqb y x
either_way x y =
    ⊎_elim (λ e. e ∙ sym (eq-eqb y x (sym (eqb-true x y e)))) (λ e. e ∙ sym (ne_eqb y x (λ k. eqb-false x y e (sym k)))) (Two (eqb x y))

by_either : (b c : Bool) → (b || c) ≡ (elim b as (λ _. Bool) [ true ↦ true | false ↦ c ])
by_either true c = refl
by_either false c = refl

pub listed_is : (x : ℕ) (list : List ℕ) → list_any (λ y. eqb y x) list ≡ is_listed x list
unfolding any_of
listed_is x [] = refl
listed_is x (y ∷ list) = rw (either_way y x, listed_is x list) (by_either (eqb x y) (is_listed x list))
