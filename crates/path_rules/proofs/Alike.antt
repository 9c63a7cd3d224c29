-- Sets that meet the same vectors accept the same words, and stay alike along every label. Assumes
-- nothing.
use Prim.Native.Nat.{ℕ, zero, suc, ◌+◌, ◌<◌}
use mathlib.Core.Path.{◌≡◌, refl, sym, ap, ◌∙◌}
use mathlib.Core.Bool.{Bool, true, false, not, cond, false≢true}
use mathlib.Core.Logic.{◌⊎◌, inl, inr, ⊎_elim}
use mathlib.Core.List.Memᴰ
use mathlib.Core.List.{List, [], ◌∷◌}
use native.Mathlib.Omega.{arith}
use lib.ListN.{length, get_or}
use Rattle.std.specs.declared.option.Option.TheVariants.{Some, None}
use Rattle.std.specs.List.{position_from}
use Rattle.std.proofs.lemmas.Iterator.Adapters.{position_from-zero}
use Rattle.std.proofs.lemmas.List.Quantifiers.{position-Some}
use Rattle.scope_graph.specs.Language.{◌∈◌}
use Rattle.scope_graph.proofs.Lists.{here, there, true_false}
use Rattle.path_rules.specs.Sets.{meets}
use Rattle.path_rules.specs.Table.{Over}
use Rattle.path_rules.specs.Vectors.{before, onward, alike_on, same_on, place_same}
use Rattle.path_rules.proofs.SetLaws.{meets_none, has_none}
use Rattle.path_rules.proofs.VectorLaws.{dual, set_after}
use Rattle.path_rules.proofs.Closed.{vector_list, before_in}

alike_same : (v a b : ℕ) → alike_on v a b ≡ true → meets a v ≡ meets b v
unfolding alike_on
alike_same v a b h = by (meets a v) (meets b v) h
  where
    by : (x y : Bool) → (elim x as (λ _. Bool) [ true ↦ y | false ↦ not y ]) ≡ true → x ≡ y
    by true y e = sym e
    by false false e = refl
    by false true e = e

same_alike : (v a b : ℕ) → meets a v ≡ meets b v → alike_on v a b ≡ true
unfolding alike_on
same_alike v a b h = by (meets a v) (meets b v) h
  where
    by : (x y : Bool) → x ≡ y → (elim x as (λ _. Bool) [ true ↦ y | false ↦ not y ]) ≡ true
    by true y e = sym e
    by false y e = ap not (sym e)

pub same_elim : (vs : List ℕ) (a b : ℕ) → same_on vs a b ≡ true → (v : ℕ) → v ∈ vs → meets a v ≡ meets b v
unfolding same_on
same_elim [] a b h v m = absurd (Memᴰ.not-nil m)
same_elim (x ∷ vs) a b h v m = by (alike_on x a b) refl h (λ k. same_elim vs a b k v)
  where
    by : (c : Bool) → alike_on x a b ≡ c → (elim c as (λ _. Bool) [ true ↦ same_on vs a b | false ↦ false ]) ≡ true
        → (same_on vs a b ≡ true → v ∈ vs → meets a v ≡ meets b v) → meets a v ≡ meets b v
    by true e k ih = ⊎_elim (λ (z : v ≡ x). rw z (alike_same x a b e)) (ih k) (Memᴰ.cases_cons m)
    by false e k ih = absurd (false≢true k)

pub same_intro : (vs : List ℕ) (a b : ℕ) → ((v : ℕ) → v ∈ vs → meets a v ≡ meets b v) → same_on vs a b ≡ true
unfolding same_on
same_intro [] a b h = refl
same_intro (x ∷ vs) a b h = rw (same_alike x a b (h x here), same_on) (same_intro vs a b (λ v m. h v (there m)))

pub same_sym : (vs : List ℕ) (a b : ℕ) → same_on vs a b ≡ true → same_on vs b a ≡ true
same_sym vs a b h = same_intro vs b a (λ v m. sym (same_elim vs a b h v m))

pub same_trans : (vs : List ℕ) (a b c : ℕ) → same_on vs a b ≡ true → same_on vs b c ≡ true → same_on vs a c ≡ true
same_trans vs a b c h k = same_intro vs a c (λ v m. same_elim vs a b h v m ∙ same_elim vs b c k v m)

pub same_self : (vs : List ℕ) (a : ℕ) → same_on vs a a ≡ true
same_self vs a = same_intro vs a a (λ v m. refl)

-- what tells two sets apart
pub differ : (vs : List ℕ) (a b : ℕ) → same_on vs a b ≡ false
    → (v : ℕ) × (v ∈ vs) × (((meets a v ≡ true) × (meets b v ≡ false)) ⊎ ((meets a v ≡ false) × (meets b v ≡ true)))
unfolding same_on
differ [] a b h = absurd (false≢true (sym h))
differ (x ∷ vs) a b h = by (alike_on x a b) refl h (differ vs a b)
  where
    unlike : (y z : Bool) → meets a x ≡ y → meets b x ≡ z → alike_on x a b ≡ false
        → ((meets a x ≡ true) × (meets b x ≡ false)) ⊎ ((meets a x ≡ false) × (meets b x ≡ true))
    unlike true true e g k = absurd (true_false (same_alike x a b (e ∙ sym g)) k)
    unlike true false e g k = inl (e, g)
    unlike false true e g k = inr (e, g)
    unlike false false e g k = absurd (true_false (same_alike x a b (e ∙ sym g)) k)

    by : (c : Bool) → alike_on x a b ≡ c → (elim c as (λ _. Bool) [ true ↦ same_on vs a b | false ↦ false ]) ≡ false
        → (same_on vs a b ≡ false → (v : ℕ) × (v ∈ vs) × (((meets a v ≡ true) × (meets b v ≡ false)) ⊎ ((meets a v ≡ false) × (meets b v ≡ true))))
        → (v : ℕ) × (v ∈ (x ∷ vs)) × (((meets a v ≡ true) × (meets b v ≡ false)) ⊎ ((meets a v ≡ false) × (meets b v ≡ true)))
    by true e k ih = let (v, m, d) = ih k in (v, there m, d)
    by false e k ih = (x, here, unlike (meets a x) (meets b x) refl refl e)

pub meets_nothing : (v : ℕ) → meets 0 v ≡ false
meets_nothing v = meets_none 0 v (λ x h k. true_false h (has_none x))

-- the first place of a set that is the same
pub place_found : (vs ss : List ℕ) (t j : ℕ) → place_same vs ss t ≡ Some j → (j < length ss) × (same_on vs (get_or ss j 0) t ≡ true)
unfolding place_same
place_found vs ss t j h = let (b, e, f) = position-Some (λ s. same_on vs s t) ss j 0 h in (b, e)

none_passes : (p : ℕ → Bool) (i : ℕ) (xs : List ℕ) → position_from p i xs ≡ None → (k : ℕ) → k < length xs → p (get_or xs k 0) ≡ false
none_passes p i [] h k b = absurd (omega arith)
none_passes p i (x ∷ xs) h k b = by (p x) refl h (none_passes p (i + 1) xs) k b
  where
    by : (c : Bool) → p x ≡ c → cond c (Some i) (position_from p (i + 1) xs) ≡ None
        → (position_from p (i + 1) xs ≡ None → (k : ℕ) → k < length xs → p (get_or xs k 0) ≡ false) → (k : ℕ) → k < suc (length xs) → p (get_or (x ∷ xs) k 0) ≡ false
    by true e h ih k b = absurd (cc)
    by false e h ih zero b = e
    by false e h ih (suc k) b = ih h k (omega arith)

pub place_none : (vs ss : List ℕ) (t : ℕ) → place_same vs ss t ≡ None → (i : ℕ) → i < length ss → same_on vs (get_or ss i 0) t ≡ false
unfolding place_same
place_none vs ss t h i b = none_passes (λ s. same_on vs s t) 0 ss (sym (position_from-zero (λ s. same_on vs s t) ss) ∙ h) i b

module _ (after labels : List ℕ) where
  abbrev Same : ℕ → ℕ → Type 0
  Same a b = same_on (vector_list after labels) a b ≡ true

  -- alike along a label, and a dead set stays dead
  pub same_onward : (a b l : ℕ) → l < 8 → Same a b → Same (onward after labels a l) (onward after labels b l)
  same_onward a b l h s =
      same_intro (vector_list after labels) (onward after labels a l) (onward after labels b l)
      (λ v m. dual after labels a v l ∙ same_elim (vector_list after labels) a b s (before after labels v l) (before_in after labels v l m h)
      ∙ sym (dual after labels b v l))

  dead_onward : (l : ℕ) → Same (onward after labels 0 l) 0
  dead_onward l =
      same_intro (vector_list after labels) (onward after labels 0 l) 0
      (λ v m. dual after labels 0 v l ∙ meets_nothing (before after labels v l) ∙ sym (meets_nothing v))

  pub dead_after : (w : List ℕ) (a : ℕ) → Over 8 w → Same a 0 → Same (set_after after labels a w) 0
  unfolding set_after
  dead_after [] a o s = s
  dead_after (l ∷ w) a o s =
      dead_after w (onward after labels a l) o.1
      (same_trans (vector_list after labels) (onward after labels a l) (onward after labels 0 l) 0 (same_onward a 0 l o.0 s) (dead_onward l))
