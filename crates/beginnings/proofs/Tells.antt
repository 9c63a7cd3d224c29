-- Laws of the cap, and of what a number tells of a count: sums, and that the most stays the most.
-- Assumes nothing.
use Prim.Native.Nat.{ℕ, ◌+◌, ◌≤◌, ◌<◌}
use mathlib.Core.Path.{◌≡◌, sym, ap, ◌∙◌, subst}
use mathlib.Core.Logic.{◌⊎◌, inl, inr, ⊎_elim}
use mathlib.Core.Bool.{true, false}
use mathlib.Core.List.{List}
use native.Mathlib.Omega.{arith}
use borrow.Author.Tests.{lt-ltb, le-ltb, ltb-true, ltb-false}
use lib.Dec.{ltb}
use Rattle.scope_graph.proofs.Lists.{Two}
use Rattle.block.specs.Sets.{has_state}
use Rattle.beginnings.specs.Beginnings.{MOST, capped}
use Rattle.beginnings.specs.Steps.{Tells, own_place}

pub capped_few : (n : ℕ) → n < MOST → capped n ≡ n
unfolding capped
capped_few n h = rw (lt-ltb n MOST h, capped)

pub capped_many : (n : ℕ) → MOST ≤ n → capped n ≡ MOST
unfolding capped
capped_many n h = rw (le-ltb n MOST h, capped)

below_most : (n : ℕ) → (n < MOST) ⊎ (MOST ≤ n)
below_most n = ⊎_elim (λ e. inl (ltb-true n MOST e)) (λ e. inr (ltb-false n MOST e)) (Two (ltb n MOST))

pub capped_le : (n : ℕ) → capped n ≤ MOST
capped_le n = ⊎_elim (λ h. omega (arith, capped_few n h)) (λ h. omega (arith, capped_many n h)) (below_most n)

pub capped_most : (m n : ℕ) → m ≡ n → MOST ≤ capped m → MOST ≡ capped n
capped_most m n e h = let same : capped m ≡ capped n = ap capped e in omega (arith, capped_le n)

pub capped_grows : (m n : ℕ) → m ≤ n → capped m ≤ capped n
capped_grows m n h =
    ⊎_elim (λ k. ⊎_elim (λ j. omega (arith, capped_few m j, capped_few n k)) (λ j. omega arith) (below_most m))
    (λ k. omega (arith, capped_le m, capped_many n k)) (below_most n)

-- a sum of caps has the cap of the sum
pub capped_sum : (m n : ℕ) → capped (capped m + capped n) ≡ capped (m + n)
capped_sum m n =
    ⊎_elim (λ j. ⊎_elim (λ k. rw (capped_few m j, capped_few n k))
    (λ k. capped_many (capped m + capped n) (omega (arith, capped_many n k)) ∙ sym (capped_many (m + n) (omega arith))) (below_most n))
    (λ j. capped_many (capped m + capped n) (omega (arith, capped_many m j)) ∙ sym (capped_many (m + n) (omega arith))) (below_most m)

-- a place counts itself or not
module _ (hopes q : ℕ) where
  pub own_in : has_state hopes q ≡ true → own_place hopes q ≡ 1
  unfolding own_place
  own_in h = rw (h, own_place)

  pub own_out : has_state hopes q ≡ false → own_place hopes q ≡ 0
  unfolding own_place
  own_out h = rw (h, own_place)

  pub own_few : own_place hopes q ≤ 1
  own_few = ⊎_elim (λ h. omega (arith, own_in h)) (λ h. omega (arith, own_out h)) (Two (has_state hopes q))

pub own_small : (hopes q r : ℕ) → r ≡ own_place hopes q → r ≤ MOST
own_small hopes q r e = omega (arith, e, own_few hopes q)

module _ (block near : List ℕ) (goal : ℕ) where
  pub tells_is : (x y v : ℕ) → x ≡ y → Tells block near goal x v → Tells block near goal y v
  tells_is x y v e t = subst (λ (z : ℕ). Tells block near goal z v) e t

  -- a number itself
  pub tells_count : (x v : ℕ) → v ≡ capped x → Tells block near goal x v
  tells_count x v e = record { most = omega (arith, e, capped_le x); exact = λ c. e; below = λ u. omega (arith, e) }

  pub tells_sum : (x y v w r : ℕ) → Tells block near goal x v → Tells block near goal y w → r ≡ capped (v + w) → Tells block near goal (x + y) r
  tells_sum x y v w r a b e = record {
    most = omega (arith, e, capped_le (v + w));
    exact = λ c. e ∙ rw (a.exact c, b.exact c) (capped_sum x y);
    below = λ u.
        let left = a.below u in
        let right = b.below u in
        omega (arith, e, capped_grows (v + w) (capped x + capped y) (omega arith), capped_sum x y);
  }

  -- the most stays the most
  pub tells_most : (x y v : ℕ) → Tells block near goal x v → MOST ≤ v → Tells block near goal (x + y) v
  tells_most x y v a h =
      let more : capped x ≤ capped (x + y) = capped_grows x (x + y) (omega arith) in
      let all : capped (x + y) ≤ MOST = capped_le (x + y) in
      record {
        most = a.most;
        exact = λ c. omega (arith, a.exact c, a.most);
        below = λ u. omega (arith, a.below u);
      }
