-- Laws of lists, tests and membership that the rules' proofs share. Assumes nothing.
use Prim.Native.Nat.{ℕ}
use mathlib.Core.Path.{◌≡◌, refl, sym, ap, ◌∙◌, subst}
use mathlib.Core.Bool.{Bool, true, false, not, ◌&&◌, ◌||◌, true≢false, false≢true}
use mathlib.Core.Logic.{◌⊎◌, inl, inr, ⊎_elim}
use mathlib.Core.Option.{Option, some, none}
use mathlib.Core.List.Memᴰ
use mathlib.Core.List.{List, [], ◌∷◌, ◌++◌, map, flat_map}
use native.Mathlib.Omega.{arith}
use Rattle.scope_graph.specs.Language.{◌∈◌}
use Rattle.scope_graph.specs.Rows.{any_of}
use Rattle.scope_graph.specs.Computed.{keep, first_of}
use Rattle.scope_graph.specs.Listing.{Pairwise}

-- a Bool is true or false
pub Two : (b : Bool) → (b ≡ true) ⊎ (b ≡ false)
Two true = inl refl
Two false = inr refl

pub true_false : {b : Bool} → b ≡ true → b ≡ false → ⊥
true_false p r = true≢false (sym p ∙ r)

pub not_true : (b : Bool) → (b ≡ true → ⊥) → b ≡ false
not_true true h = absurd (h refl)
not_true false h = refl

pub and_left : (a b : Bool) → (a && b) ≡ true → a ≡ true
and_left true b h = refl
and_left false b h = h

pub and_right : (a b : Bool) → (a && b) ≡ true → b ≡ true
and_right true b h = h
and_right false b h = absurd (false≢true h)

pub and_both : (a b : Bool) → a ≡ true → b ≡ true → (a && b) ≡ true
and_both a b h k = rw (h, k)

pub or_cases : (a b : Bool) → (a || b) ≡ true → (a ≡ true) ⊎ (b ≡ true)
or_cases true b h = inl refl
or_cases false b h = inr h

pub or_left : (a b : Bool) → a ≡ true → (a || b) ≡ true
or_left a b h = rw h

pub or_right : (a b : Bool) → b ≡ true → (a || b) ≡ true
or_right true b h = refl
or_right false b h = h

pub not_is : (b : Bool) → not b ≡ true → b ≡ false
not_is true h = sym h
not_is false h = refl

pub is_not : (b : Bool) → b ≡ false → not b ≡ true
is_not b h = rw h

module _ {A : Type 0} where
  -- the first element, and the others
  pub here : {x : A} {xs : List A} → x ∈ (x ∷ xs)
  here = Memᴰ.head refl

  pub there : {a x : A} {xs : List A} → a ∈ xs → a ∈ (x ∷ xs)
  there m = Memᴰ.tail m

  -- some element meets the test
  pub any_of_intro : (f : A → Bool) {a : A} {l : List A} → a ∈ l → f a ≡ true → any_of f l ≡ true
  unfolding any_of
  any_of_intro f {a} (Memᴰ.head {x = x} e) h = rw (ap f (sym e) ∙ h, any_of)
  any_of_intro f {a} (Memᴰ.tail {x = x} {xs = xs} m) h = step (f x) (any_of_intro f m h)
    where
      step : (b : Bool) → any_of f xs ≡ true → (elim b as (λ _. Bool) [ true ↦ true | false ↦ any_of f xs ]) ≡ true
      step true k = refl
      step false k = k

  pub any_of_elim : (f : A → Bool) (l : List A) → any_of f l ≡ true → (a : A) × (a ∈ l) × (f a ≡ true)
  unfolding any_of
  any_of_elim f [] h = absurd (false≢true h)
  any_of_elim f (x ∷ l) h = step (f x) refl h (any_of_elim f l)
    where
      step : (b : Bool) → f x ≡ b → (elim b as (λ _. Bool) [ true ↦ true | false ↦ any_of f l ]) ≡ true
          → (any_of f l ≡ true → (a : A) × (a ∈ l) × (f a ≡ true)) → (a : A) × (a ∈ (x ∷ l)) × (f a ≡ true)
      step true e k ih = (x, here, e)
      step false e k ih = let r = ih k in (r.0, there r.1, r.2)

  pub any_of_none : (f : A → Bool) (l : List A) → any_of f l ≡ false → (a : A) → a ∈ l → f a ≡ false
  any_of_none f l h a m = not_true (f a) (λ k. true_false (any_of_intro f m k) h)

  pub any_of_false : (f : A → Bool) (l : List A) → ((a : A) → a ∈ l → f a ≡ true → ⊥) → any_of f l ≡ false
  any_of_false f l h = not_true (any_of f l) (λ k. let r = any_of_elim f l k in h r.0 r.1 r.2)

  -- what `keep` leaves
  pub keep_intro : (f : A → Bool) {a : A} {l : List A} → a ∈ l → f a ≡ true → a ∈ keep f l
  unfolding keep
  keep_intro f {a} (Memᴰ.head {x = x} {xs = xs} e) h = step (f x) (ap f (sym e) ∙ h)
    where
      step : (b : Bool) → b ≡ true → a ∈ (elim b as (λ _. List A) [ true ↦ x ∷ keep f xs | false ↦ keep f xs ])
      step true k = Memᴰ.head e
      step false k = absurd (false≢true k)
  keep_intro f {a} (Memᴰ.tail {x = x} {xs = xs} m) h = step (f x) (keep_intro f m h)
    where
      step : (b : Bool) → a ∈ keep f xs → a ∈ (elim b as (λ _. List A) [ true ↦ x ∷ keep f xs | false ↦ keep f xs ])
      step true k = there k
      step false k = k

  pub keep_elim : (f : A → Bool) {a : A} (l : List A) → a ∈ keep f l → (a ∈ l) × (f a ≡ true)
  unfolding keep
  keep_elim f {a} [] m = absurd (Memᴰ.not-nil m)
  keep_elim f {a} (x ∷ l) m = step (f x) refl m (keep_elim f l)
    where
      step : (b : Bool) → f x ≡ b → a ∈ (elim b as (λ _. List A) [ true ↦ x ∷ keep f l | false ↦ keep f l ])
          → (a ∈ keep f l → (a ∈ l) × (f a ≡ true)) → (a ∈ (x ∷ l)) × (f a ≡ true)
      step true e k ih =
          ⊎_elim (λ z. (Memᴰ.head z, ap f z ∙ e)) (λ z. let r = ih z in (there r.0, r.1)) (Memᴰ.cases_cons k)
      step false e k ih = let r = ih k in (there r.0, r.1)

  pub keep_pairwise : (R : A → A → Type 0) (f : A → Bool) (l : List A) → Pairwise R l → Pairwise R (keep f l)
  unfolding keep
  keep_pairwise R f [] h = tt
  keep_pairwise R f (x ∷ l) h = step (f x) (keep_pairwise R f l h.1)
    where
      step : (b : Bool) → Pairwise R (keep f l) → Pairwise R (elim b as (λ _. List A) [ true ↦ x ∷ keep f l | false ↦ keep f l ])
      step true k = ((λ y m. h.0 y (keep_elim f l m).0), k)
      step false k = k

  -- the first that meets the test: none before it does
  pub first_of_some : (f : A → Bool) (R : A → A → Type 0) (l : List A) {a : A} → Pairwise R l → first_of f l ≡ some a
      → (a ∈ l) × (f a ≡ true) × ((b : A) → b ∈ l → f b ≡ true → (b ≡ a) ⊎ R a b)
  unfolding first_of
  first_of_some f R [] h e = absurd (let z : ◌≡◌ {A = ℕ} 0 1 = cc in omega arith)
  first_of_some f R (x ∷ l) {a} h e = step (f x) refl e (first_of_some f R l h.1)
    where
      step : (b : Bool) → f x ≡ b → (elim b as (λ _. Option A) [ true ↦ some x | false ↦ first_of f l ]) ≡ some a
          → (first_of f l ≡ some a → (a ∈ l) × (f a ≡ true) × ((b : A) → b ∈ l → f b ≡ true → (b ≡ a) ⊎ R a b))
          → (a ∈ (x ∷ l)) × (f a ≡ true) × ((b : A) → b ∈ (x ∷ l) → f b ≡ true → (b ≡ a) ⊎ R a b)
      step true t k ih =
          let z : x ≡ a = cc in (
            Memᴰ.head (sym z),
            rw z at t,
            λ b m w.
                ⊎_elim (λ u. inl (u ∙ z)) (λ u. inr (rw z at (h.0 b u))) (Memᴰ.cases_cons m),
          )
      step false t k ih =
          let r = ih k in
          (there r.0, r.1, λ b m w. ⊎_elim (λ u. absurd (true_false (sym (ap f u) ∙ w) t)) (λ u. r.2 b u w) (Memᴰ.cases_cons m))

  pub first_of_none : (f : A → Bool) (l : List A) → first_of f l ≡ none → (b : A) → b ∈ l → f b ≡ false
  unfolding first_of
  first_of_none f [] e b m = absurd (Memᴰ.not-nil m)
  first_of_none f (x ∷ l) e b m = step (f x) refl e (first_of_none f l)
    where
      step : (t : Bool) → f x ≡ t → ◌≡◌ {A = Option A} (elim t as (λ _. Option A) [ true ↦ some x | false ↦ first_of f l ]) none
          → (first_of f l ≡ none → (b : A) → b ∈ l → f b ≡ false) → f b ≡ false
      step true t k ih = absurd (let z : ◌≡◌ {A = ℕ} 0 1 = cc in omega arith)
      step false t k ih = ⊎_elim (λ u. ap f u ∙ t) (λ u. ih k b u) (Memᴰ.cases_cons m)

module _ {A B : Type 0} where
  pub map_intro : (f : A → B) {a : A} {l : List A} → a ∈ l → f a ∈ map f l
  map_intro f (Memᴰ.head e) = Memᴰ.head (ap f e)
  map_intro f (Memᴰ.tail m) = there (map_intro f m)

  pub map_elim : (f : A → B) {b : B} (l : List A) → b ∈ map f l → (a : A) × (a ∈ l) × (b ≡ f a)
  map_elim f [] m = absurd (Memᴰ.not-nil m)
  map_elim f (x ∷ l) m =
      ⊎_elim (λ e. (x, here, e)) (λ k. let r = map_elim f l k in (r.0, there r.1, r.2)) (Memᴰ.cases_cons m)

  pub flat_map_intro : (f : A → List B) {a : A} {b : B} {l : List A} → a ∈ l → b ∈ f a → b ∈ flat_map f l
  unfolding flat_map
  flat_map_intro f {b = b} (Memᴰ.head {x = x} {xs = xs} e) k = Memᴰ.append_left (flat_map f xs) (rw e at k)
  flat_map_intro f (Memᴰ.tail {x = x} m) k = Memᴰ.append_right (f x) (flat_map_intro f m k)

  pub flat_map_elim : (f : A → List B) {b : B} (l : List A) → b ∈ flat_map f l → (a : A) × (a ∈ l) × (b ∈ f a)
  unfolding flat_map
  flat_map_elim f [] m = absurd (Memᴰ.not-nil m)
  flat_map_elim f (x ∷ l) m =
      ⊎_elim (λ k. (x, here, k)) (λ k. let r = flat_map_elim f l k in (r.0, there r.1, r.2)) (Memᴰ.append_cases (f x) m)

-- a list in sequence: another relation that follows from the first for the list's own elements, two lists one after the other
module _ {A : Type 0} where
  pub pairwise_weaken : (R S : A → A → Type 0) (l : List A) → ((a b : A) → a ∈ l → b ∈ l → R a b → S a b) → Pairwise R l → Pairwise S l
  pairwise_weaken R S [] f h = tt
  pairwise_weaken R S (x ∷ l) f h =
      ((λ y m. f x y here (there m) (h.0 y m)), pairwise_weaken R S l (λ a b k m. f a b (there k) (there m)) h.1)

  pub pairwise_append : (R : A → A → Type 0) (s t : List A) → Pairwise R s → Pairwise R t → ((a b : A) → a ∈ s → b ∈ t → R a b)
      → Pairwise R (s ++ t)
  pairwise_append R [] t h k f = k
  pairwise_append R (x ∷ s) t h k f = (
    (λ y m. ⊎_elim (λ z. h.0 y z) (λ z. f x y here z) (Memᴰ.append_cases s m)),
    pairwise_append R s t h.1 k (λ a b m. f a b (there m)),
  )

module _ {A B : Type 0} where
  pub map_pairwise : (R : B → B → Type 0) (f : A → B) (l : List A) → Pairwise (λ a b. R (f a) (f b)) l → Pairwise R (map f l)
  map_pairwise R f [] h = tt
  map_pairwise R f (x ∷ l) h =
      ((λ y m. let k = map_elim f l m in subst (R (f x)) (sym k.2) (h.0 k.0 k.1)), map_pairwise R f l h.1)

  -- each part in sequence, and the parts in sequence
  pub flat_map_pairwise : (S : A → A → Type 0) (R : B → B → Type 0) (f : A → List B) (l : List A) → Pairwise S l
      → ((a : A) → Pairwise R (f a)) → ((a b : A) (x y : B) → S a b → x ∈ f a → y ∈ f b → R x y) → Pairwise R (flat_map f l)
  unfolding flat_map
  flat_map_pairwise S R f [] h within across = tt
  flat_map_pairwise S R f (x ∷ l) h within across =
      pairwise_append R (f x) (flat_map f l) (within x) (flat_map_pairwise S R f l h.1 within across)
      (λ a b m k. let r = flat_map_elim f l k in across x r.0 a b (h.0 r.0 r.1) m r.2)
