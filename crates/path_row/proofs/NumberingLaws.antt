-- The numbers of letters: different letters have different numbers, and a letter that is not listed
-- has a number past those of the labels. Assumes nothing.
use mathlib.Core.Path.{◌≡◌, refl, sym, ap, ◌∙◌}
use mathlib.Core.Bool.{Bool, true, false}
use mathlib.Core.Logic.{⊎_elim}
use mathlib.Core.List.Memᴰ
use mathlib.Core.List.{List, [], ◌∷◌}
use Prim.Native.Nat.{ℕ, suc, ◌+◌, ◌≤◌, ◌<◌}
use native.Mathlib.Omega.{arith}
use borrow.Author.Tests.{eqb-true, eqb-false}
use lib.Dec.{eqb}
use lib.ListN.{length, get_or}
use Rattle.scope_graph.specs.Language.{◌∈◌}
use Rattle.scope_graph.proofs.Lists.{there}
use Rattle.path_row.specs.Numbering.{number_from, label_number}

-- where a letter's number comes from
data Spot (n x : ℕ) (ys : List ℕ) : Type 0 where
  listed : (i : ℕ) → i < length ys → get_or ys i 0 ≡ x → x ∈ ys → number_from n x ys ≡ n + i → Spot n x ys
  unlisted : ¬ (x ∈ ys) → number_from n x ys ≡ n + (length ys + x) → Spot n x ys

module _ (n x y : ℕ) (ys : List ℕ) where
  pub number_on : eqb y x ≡ true → number_from n x (y ∷ ys) ≡ n
  unfolding number_from
  number_on e = rw (e, number_from)

  pub number_off : eqb y x ≡ false → number_from n x (y ∷ ys) ≡ number_from (suc n) x ys
  unfolding number_from
  number_off e = rw (e, number_from)

  spot_next : eqb y x ≡ false → Spot (suc n) x ys → Spot n x (y ∷ ys)
  spot_next e (listed i h f m g) = listed (suc i) (omega arith) f (there m) (number_off e ∙ g ∙ omega arith)
  spot_next e (unlisted missing g) =
      unlisted (λ m. ⊎_elim (λ z. eqb-false y x e (sym z)) missing (Memᴰ.cases_cons m)) (number_off e ∙ g ∙ omega arith)

spot : (n x : ℕ) (ys : List ℕ) → Spot n x ys
unfolding number_from
spot n x [] = unlisted (λ m. Memᴰ.not-nil m) (omega arith)
spot n x (y ∷ ys) = by (eqb y x) refl (spot (suc n) x ys)
  where
    by : (t : Bool) → eqb y x ≡ t → Spot (suc n) x ys → Spot n x (y ∷ ys)
    by true e s = listed 0 (omega arith) (eqb-true y x e) (Memᴰ.head (sym (eqb-true y x e))) (number_on n x y ys e ∙ omega arith)
    by false e s = spot_next n x y ys e s

apart : (x y : ℕ) (ys : List ℕ) → Spot 0 x ys → Spot 0 y ys → number_from 0 x ys ≡ number_from 0 y ys → x ≡ y
apart x y ys (listed i h f m g) (listed j k e o d) p = let q : i ≡ j = omega arith in sym f ∙ ap (λ (z : ℕ). get_or ys z 0) q ∙ e
apart x y ys (listed i h f m g) (unlisted absent d) p = absurd (omega arith)
apart x y ys (unlisted absent g) (listed j k e o d) p = absurd (omega arith)
apart x y ys (unlisted absent g) (unlisted missing d) p = omega arith

-- letters with one number are one letter
pub number_tells : (letters : List ℕ) (x y : ℕ) → label_number letters x ≡ label_number letters y → x ≡ y
unfolding label_number
number_tells letters x y e = apart x y letters (spot 0 x letters) (spot 0 y letters) e

beyond : (x : ℕ) (ys : List ℕ) → Spot 0 x ys → ¬ (x ∈ ys) → length ys ≤ number_from 0 x ys
beyond x ys (listed i h f m g) none_is = absurd (none_is m)
beyond x ys (unlisted absent g) none_is = omega arith

-- a letter that is not listed has no label's number
pub number_beyond : (letters : List ℕ) (x : ℕ) → ¬ (x ∈ letters) → length letters ≤ label_number letters x
unfolding label_number
number_beyond letters x none_is = beyond x letters (spot 0 x letters) none_is

within : (x : ℕ) (ys : List ℕ) → Spot 0 x ys → x ∈ ys → (number_from 0 x ys < length ys) × (get_or ys (number_from 0 x ys) 0 ≡ x)
within x ys (listed i h f m g) is = let q : number_from 0 x ys ≡ i = omega arith in (omega arith, rw q f)
within x ys (unlisted absent g) is = absurd (absent is)

-- a listed letter has its label's
pub number_within : (letters : List ℕ) (x : ℕ) → x ∈ letters → (label_number letters x < length letters) × (get_or letters (label_number letters x) 0 ≡ x)
unfolding label_number
number_within letters x is = within x letters (spot 0 x letters) is
