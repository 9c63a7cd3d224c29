-- A table that is filled cell by cell. Assumes nothing.
use Prim.Native.Nat.{ℕ, zero, suc, ◌+◌, ◌≤◌, ◌<◌}
use mathlib.Core.Path.{◌≡◌, refl, sym, ◌∙◌, subst}
use mathlib.Core.List.{List, [], ◌∷◌}
use mathlib.Core.Logic.{◌⊎◌, inl, inr, ⊎_elim}
use native.Mathlib.Omega.{arith}
use native.Mathlib.Numerals.{add-one}
use lib.Dec.{ltb}
use lib.ListN.{length, get_or, take, set, length-set, length-append, get_or-append}
use lib.Seq.{take-suc-set, take_all, get_or_at, ext_get_or}
use borrow.Author.Tests.{ltb-true, ltb-false}
use denote.Param.Members.{Mut}
use Rattle.std.specs.Fn.{Called}
use Rattle.std.specs.Array.{IsFromFnResult, IsFromFnResultFrom}
use Rattle.scope_graph.proofs.Lists.{Two}
use Rattle.path_rules.specs.Parts.{tabulate}

pub tabulate_length : {A : Type 0} (f : ℕ → A) (n : ℕ) → length (tabulate f n) ≡ n
unfolding tabulate
tabulate_length f zero = refl
tabulate_length f (suc n) = length-append (tabulate f n) (f n ∷ []) ∙ omega (arith, tabulate_length f n)

-- of n cells the first i are filled
pub record Filled (f : ℕ → ℕ) (n i : ℕ) (t : List ℕ) : Type 0 where
  pub size : length t ≡ n
  pub front : take i t ≡ tabulate f i
  pub within : i ≤ n

pub filled_none : (f : ℕ → ℕ) (n : ℕ) (t : List ℕ) → length t ≡ n → Filled f n 0 t
unfolding tabulate
filled_none f n t h = record { size = h; front = refl; within = omega arith }

pub filled_next : (f : ℕ → ℕ) (n i v : ℕ) (t : List ℕ) → Filled f n i t → i < n → v ≡ f i → Filled f n (i + 1) (set t i v)
unfolding tabulate
filled_next f n i v t d h e =
    let l = d.size in
    record {
      size = length-set t i v ∙ l;
      front = rw (add-one i, take-suc-set t i v (omega arith), d.front, e);
      within = omega arith;
    }

pub filled_all : (f : ℕ → ℕ) (n i : ℕ) (t : List ℕ) → Filled f n i t → n ≤ i → t ≡ tabulate f n
filled_all f n i t d h =
    let w = d.within in let l = d.size in
    let e : i ≡ n = omega arith in
    sym (take_all n t (omega arith)) ∙ (rw e at d.front)

pub below_suc : (i n : ℕ) → i < suc n → (i < n) ⊎ (i ≡ n)
below_suc i n h = ⊎_elim (λ y. inl (ltb-true i n y)) (λ z. let g = ltb-false i n z in inr (omega arith)) (Two (ltb i n))

-- a cell of the table
pub tabulate_at : {A : Type 0} (f : ℕ → A) (n i : ℕ) (d : A) → i < n → get_or (tabulate f n) i d ≡ f i
unfolding tabulate
tabulate_at f zero i d h = absurd (omega arith)
tabulate_at f (suc n) i d h =
    let l = tabulate_length f n in
    ⊎_elim (λ b. get_or-append (tabulate f n) (f n ∷ []) d i (omega arith) ∙ tabulate_at f n i d b)
    (λ e. rw e (get_or_at (tabulate f n) (f n) [] d n l))
    (below_suc i n h)

-- an array made by a closure that changes nothing, and answers f at each index
module _ {F A : Type 0} (g : Mut F (ℕ × Unit {0}) A) (f : ℕ → A) (state : F) (ys : List A) (n : ℕ) (d : A) where
  made_from : ((i : ℕ) (y : A) (q : F) → i < n → Called g state (i, tt) y q → (q ≡ state) × (y ≡ f i)) → (k i : ℕ) → i + k ≡ n
      → IsFromFnResultFrom g state ys i k → (j : ℕ) → i ≤ j → j < n → get_or ys j d ≡ f j
  made_from h zero i e r j l b = absurd (omega arith)
  made_from h (suc k) i e (q, y, at, called, rest) j l b =
      let (same, is) = h i y q (omega arith) called in
      ⊎_elim (λ z. rw z (at.1 d ∙ is)) (λ (z : suc i ≤ j). made_from h k (i + 1) (omega arith) (subst (λ s. IsFromFnResultFrom g s ys (i + 1) k) same rest) j (omega arith) b)
      (first_or_later i j l)
    where
      first_or_later : (i j : ℕ) → i ≤ j → (j ≡ i) ⊎ (suc i ≤ j)
      first_or_later i j l = ⊎_elim (λ y. inr (ltb-true i j y)) (λ z. let g = ltb-false i j z in inl (omega arith)) (Two (ltb i j))

  pub from_fn_is : ((i : ℕ) (y : A) (q : F) → i < n → Called g state (i, tt) y q → (q ≡ state) × (y ≡ f i)) → IsFromFnResult g state ys n → ys ≡ tabulate f n
  from_fn_is h r =
      let long = r.long in let size = tabulate_length f n in
      ext_get_or d ys (tabulate f n) (omega arith)
      (λ i b. made_from h n 0 (omega arith) r.each i (omega arith) (omega arith) ∙ sym (tabulate_at f n i d (omega arith)))
