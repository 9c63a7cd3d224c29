-- The test of a drawing's scopes says whether they are the file's, each once. Assumes nothing.
use Prim.Native.Nat.{ℕ, zero, suc, ◌+◌, ◌≤◌, ◌<◌}
use mathlib.Core.Path.{◌≡◌, refl, sym, subst, ◌∙◌}
use mathlib.Core.List.Memᴰ
use mathlib.Core.List.{List, [], ◌∷◌}
use mathlib.Core.Bool.{true, false, not, ◌&&◌}
use mathlib.Core.Logic.{⊎_elim}
use native.Mathlib.Omega.{arith}
use lib.Dec.{eqb, ltb}
use lib.ListN.{length, length-append}
use borrow.Author.Tests.{ltb-true, lt-ltb, eqb-true, eq-eqb}
use Rattle.scope_graph.specs.Language.{◌∈◌}
use Rattle.scope_graph.specs.Path.{Distinct}
use Rattle.scope_graph.specs.Rows.{any_of}
use Rattle.scope_graph.specs.Readers.{numbers_below}
use Rattle.scope_graph.proofs.Lists.{Two, here, there, and_left, and_right, and_both, or_cases, or_left, or_right, not_is, is_not, true_false, pairwise_weaken}
use Rattle.scope_graph.proofs.Pigeon.{in_true, not_in, distinct_bounded}
use Rattle.scope_graph.proofs.Sequences.{once_length}
use Rattle.scope_graph.proofs.Readers.{numbers_elim, numbers_ascend}
use Rattle.graph_rows.specs.Admission.{listed}
use Rattle.undot.specs.Scopes.{scopes_from, file_scopes}
use Rattle.undot.specs.Promises.{SameScopes}

-- what is listed is there
pub listed_in : (x : ℕ) (l : List ℕ) → listed x l ≡ true → x ∈ l
unfolding listed
listed_in x [] h = absurd (let z : ◌≡◌ {A = ℕ} 0 1 = cc in omega arith)
listed_in x (y ∷ l) h = ⊎_elim (λ e. Memᴰ.head (sym (eqb-true y x e))) (λ e. there (listed_in x l e)) (or_cases (eqb y x) (listed x l) h)

pub in_listed : (x : ℕ) (l : List ℕ) → x ∈ l → listed x l ≡ true
unfolding listed
in_listed x [] m = absurd (Memᴰ.not-nil m)
in_listed x (y ∷ l) m = ⊎_elim (λ e. or_left (eqb y x) (listed x l) (eq-eqb y x (sym e))) (λ k. or_right (eqb y x) (listed x l) (in_listed x l k)) (Memᴰ.cases_cons m)

not_listed : (x : ℕ) (l : List ℕ) → ¬ (x ∈ l) → listed x l ≡ false
not_listed x l n = ⊎_elim (λ h. absurd (n (listed_in x l h))) (λ h. h) (Two (listed x l))

-- what the test says of the scopes after those met
record New (count : ℕ) (met scopes : List ℕ) : Type 0 where
  below : (s : ℕ) → s ∈ scopes → s < count
  once : Distinct scopes
  apart : (s : ℕ) → s ∈ scopes → ¬ (s ∈ met)
  size : length met + length scopes ≡ count

tested_new : (count : ℕ) (met scopes : List ℕ) → scopes_from count met scopes ≡ true → New count met scopes
unfolding scopes_from
tested_new count met [] h = record {
  below = λ s m. absurd (Memᴰ.not-nil m);
  once = tt;
  apart = λ s m. absurd (Memᴰ.not-nil m);
  size = omega (arith, eqb-true (length met) count h);
}
tested_new count met (x ∷ scopes) h =
    let a = and_left (ltb x count) (not (listed x met) && scopes_from count (x ∷ met) scopes) h in
    let b = and_right (ltb x count) (not (listed x met) && scopes_from count (x ∷ met) scopes) h in
    let fresh = not_is (listed x met) (and_left (not (listed x met)) (scopes_from count (x ∷ met) scopes) b) in
    let r = tested_new count (x ∷ met) scopes (and_right (not (listed x met)) (scopes_from count (x ∷ met) scopes) b) in
    record {
      below = λ s m. ⊎_elim (λ e. subst (λ (n : ℕ). n < count) (sym e) (ltb-true x count a)) (λ k. r.below s k) (Memᴰ.cases_cons m);
      once = ((λ m. r.apart x m here), r.once);
      apart = λ s m k. ⊎_elim (λ e. true_false (in_listed x met (subst (λ (n : ℕ). n ∈ met) e k)) fresh) (λ l. r.apart s l (there k)) (Memᴰ.cases_cons m);
      size = omega (arith, r.size);
    }

new_tested : (count : ℕ) (met scopes : List ℕ) → New count met scopes → scopes_from count met scopes ≡ true
unfolding scopes_from
new_tested count met [] r = eq-eqb (length met) count (omega (arith, r.size))
new_tested count met (x ∷ scopes) r =
    and_both (ltb x count) (not (listed x met) && scopes_from count (x ∷ met) scopes) (lt-ltb x count (r.below x here))
    (and_both (not (listed x met)) (scopes_from count (x ∷ met) scopes) (is_not (listed x met) (not_listed x met (r.apart x here)))
    (new_tested count (x ∷ met) scopes (record {
      below = λ s m. r.below s (there m);
      once = r.once.1;
      apart = λ s m k. ⊎_elim (λ e. r.once.0 (subst (λ (n : ℕ). n ∈ scopes) e m)) (λ l. r.apart s (there m) l) (Memᴰ.cases_cons k);
      size = omega (arith, r.size);
    })))

pub numbers_size : (n : ℕ) → length (numbers_below n) ≡ n
unfolding numbers_below
numbers_size zero = refl
numbers_size (suc n) = length-append (numbers_below n) (n ∷ []) ∙ omega (arith, numbers_size n)

module _ (count : ℕ) (scopes : List ℕ) where
  pub file_same : file_scopes count scopes ≡ true → SameScopes count scopes
  unfolding file_scopes
  file_same h =
      let r = tested_new count [] scopes h in
      record { once = r.once; all = λ s. (r.below s, all r s) }
    where
      all : New count [] scopes → (s : ℕ) → s < count → s ∈ scopes
      all r s k =
          ⊎_elim (λ e. in_true s scopes e)
          (λ e. absurd (let n = distinct_bounded count (s ∷ scopes) (not_in s scopes e, r.once)
          (λ x m. ⊎_elim (λ q. subst (λ (z : ℕ). z < count) (sym q) k) (λ l. r.below x l) (Memᴰ.cases_cons m)) in omega (arith, r.size)))
          (Two (any_of (eqb s) scopes))

  pub same_file : SameScopes count scopes → file_scopes count scopes ≡ true
  unfolding file_scopes
  same_file r = new_tested count [] scopes (record {
    below = λ s m. (r.all s).0 m;
    once = r.once;
    apart = λ s m k. absurd (Memᴰ.not-nil k);
    size = omega (arith, most, least);
  })
    where
      most : length scopes ≤ count
      most = distinct_bounded count scopes r.once (λ x m. (r.all x).0 m)

      least : count ≤ length scopes
      least =
          let n = once_length (numbers_below count) scopes
          (pairwise_weaken ◌<◌ (λ x y. ¬ (x ≡ y)) (numbers_below count) (λ a b m k h e. omega arith) (numbers_ascend count))
          (λ x m. (r.all x).1 (numbers_elim count x m)) in
          omega (arith, numbers_size count)
