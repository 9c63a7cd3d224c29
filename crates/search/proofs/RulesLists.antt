-- Equations of `any_of`, `keep`, `map` and `flat_map` that the search's proofs share. Assumes
-- nothing.
use mathlib.Core.Path.{◌≡◌, refl, sym, ap, ◌∙◌}
use mathlib.Core.Bool.{Bool, true, false, ◌&&◌, ◌||◌, or_assoc}
use mathlib.Core.List.{List, [], ◌∷◌, ◌++◌, map, flat_map}
use Rattle.scope_graph.specs.Language.{◌∈◌}
use Rattle.scope_graph.specs.Rows.{any_of}
use Rattle.scope_graph.specs.Computed.{keep}
use Rattle.scope_graph.proofs.Lists.{here, there}

-- an element in front if the test is met
unfoldable pub put : {A : Type 0} → Bool → A → List A → List A
put true x l = x ∷ l
put false x l = l

module _ {A : Type 0} where
  pub any_of_cons : (f : A → Bool) (x : A) (l : List A) → any_of f (x ∷ l) ≡ (f x || any_of f l)
  unfolding any_of
  any_of_cons f x l = split (f x)
    where
      split : (b : Bool) → (elim b as (λ _. Bool) [ true ↦ true | false ↦ any_of f l ]) ≡ (b || any_of f l)
      split true = refl
      split false = refl

  pub keep_cons : (f : A → Bool) (x : A) (l : List A) → keep f (x ∷ l) ≡ put (f x) x (keep f l)
  unfolding keep put
  keep_cons f x l = split (f x)
    where
      split : (b : Bool) → (elim b as (λ _. List A) [ true ↦ x ∷ keep f l | false ↦ keep f l ]) ≡ put b x (keep f l)
      split true = refl
      split false = refl

  -- tests that agree on the list
  pub any_of_same : (f k : A → Bool) (l : List A) → ((a : A) → a ∈ l → f a ≡ k a) → any_of f l ≡ any_of k l
  unfolding any_of
  any_of_same f k [] h = refl
  any_of_same f k (x ∷ l) h = rw (any_of_cons f x l, any_of_cons k x l, h x here, any_of_same f k l (λ a m. h a (there m)))

  pub keep_same : (f k : A → Bool) (l : List A) → ((a : A) → a ∈ l → f a ≡ k a) → keep f l ≡ keep k l
  unfolding keep
  keep_same f k [] h = refl
  keep_same f k (x ∷ l) h = rw (keep_cons f x l, keep_cons k x l, h x here, keep_same f k l (λ a m. h a (there m)))

  -- a test that nothing meets
  pub any_of_no : (f : A → Bool) (l : List A) → ((a : A) → a ∈ l → f a ≡ false) → any_of f l ≡ false
  unfolding any_of
  any_of_no f [] h = refl
  any_of_no f (x ∷ l) h = rw (any_of_cons f x l, h x here, any_of_no f l (λ a m. h a (there m)))

  pub keep_no : (f : A → Bool) (l : List A) → ((a : A) → a ∈ l → f a ≡ false) → keep f l ≡ []
  unfolding keep put
  keep_no f [] h = refl
  keep_no f (x ∷ l) h = rw (keep_cons f x l, h x here) (keep_no f l (λ a m. h a (there m)))

  pub any_of_append : (f : A → Bool) (l k : List A) → any_of f (l ++ k) ≡ (any_of f l || any_of f k)
  unfolding any_of
  any_of_append f [] k = refl
  any_of_append f (x ∷ l) k = rw (any_of_cons f x (l ++ k), any_of_cons f x l, any_of_append f l k) (sym (or_assoc (f x) (any_of f l) (any_of f k)))

  pub put_append : (b : Bool) (x : A) (l k : List A) → put b x (l ++ k) ≡ put b x l ++ k
  unfolding put
  put_append true x l k = refl
  put_append false x l k = refl

  pub keep_append : (f : A → Bool) (l k : List A) → keep f (l ++ k) ≡ keep f l ++ keep f k
  unfolding keep
  keep_append f [] k = refl
  keep_append f (x ∷ l) k = rw (keep_cons f x (l ++ k), keep_cons f x l, keep_append f l k) (put_append (f x) x (keep f l) (keep f k))

  -- one test after another
  pub any_of_keep : (f k : A → Bool) (l : List A) → any_of f (keep k l) ≡ any_of (λ a. k a && f a) l
  unfolding any_of keep put
  any_of_keep f k [] = refl
  any_of_keep f k (x ∷ l) = rw (keep_cons k x l, any_of_cons (λ a. k a && f a) x l, ← (any_of_keep f k l)) (split (k x))
    where
      split : (b : Bool) → any_of f (put b x (keep k l)) ≡ (b && f x || any_of f (keep k l))
      split true = any_of_cons f x (keep k l)
      split false = refl

  pub keep_keep : (f k : A → Bool) (l : List A) → keep f (keep k l) ≡ keep (λ a. k a && f a) l
  unfolding keep put
  keep_keep f k [] = refl
  keep_keep f k (x ∷ l) = rw (keep_cons k x l, keep_cons (λ a. k a && f a) x l, ← (keep_keep f k l)) (split (k x))
    where
      split : (b : Bool) → keep f (put b x (keep k l)) ≡ put (b && f x) x (keep f (keep k l))
      split true = keep_cons f x (keep k l)
      split false = refl

  -- a test or another; a fixed one and another
  pub any_of_or : (f k : A → Bool) (l : List A) → any_of (λ a. f a || k a) l ≡ (any_of f l || any_of k l)
  unfolding any_of
  any_of_or f k [] = refl
  any_of_or f k (x ∷ l) =
      rw (any_of_cons (λ a. f a || k a) x l, any_of_cons f x l, any_of_cons k x l, any_of_or f k l) (split (f x) (k x) (any_of f l) (any_of k l))
    where
      split : (a b c d : Bool) → (a || b || (c || d)) ≡ (a || c || (b || d))
      split true b c d = refl
      split false true true d = refl
      split false true false d = refl
      split false false c d = refl

  pub any_of_and : (b : Bool) (f : A → Bool) (l : List A) → any_of (λ a. b && f a) l ≡ (b && any_of f l)
  any_of_and true f l = refl
  any_of_and false f l = any_of_no (λ a. false) l (λ a m. refl)

module _ {A B : Type 0} where
  pub any_of_map : (f : B → Bool) (k : A → B) (l : List A) → any_of f (map k l) ≡ any_of (λ a. f (k a)) l
  unfolding any_of
  any_of_map f k [] = refl
  any_of_map f k (x ∷ l) =
      any_of_cons f (k x) (map k l) ∙ ap (λ (b : Bool). f (k x) || b) (any_of_map f k l) ∙ sym (any_of_cons (λ a. f (k a)) x l)

  put_map : (b : Bool) (k : A → B) (x : A) (l : List A) → put b (k x) (map k l) ≡ map k (put b x l)
  unfolding put
  put_map true k x l = refl
  put_map false k x l = refl

  pub keep_map : (f : B → Bool) (k : A → B) (l : List A) → keep f (map k l) ≡ map k (keep (λ a. f (k a)) l)
  unfolding keep
  keep_map f k [] = refl
  keep_map f k (x ∷ l) =
      keep_cons f (k x) (map k l) ∙ ap (put (f (k x)) (k x)) (keep_map f k l) ∙ put_map (f (k x)) k x (keep (λ a. f (k a)) l)
      ∙ ap (map k) (sym (keep_cons (λ a. f (k a)) x l))

  pub any_of_flat_map : (f : B → Bool) (k : A → List B) (l : List A) → any_of f (flat_map k l) ≡ any_of (λ a. any_of f (k a)) l
  unfolding any_of flat_map
  any_of_flat_map f k [] = refl
  any_of_flat_map f k (x ∷ l) =
      any_of_append f (k x) (flat_map k l) ∙ ap (λ (b : Bool). any_of f (k x) || b) (any_of_flat_map f k l)
      ∙ sym (any_of_cons (λ a. any_of f (k a)) x l)

  pub keep_flat_map : (f : B → Bool) (k : A → List B) (l : List A) → keep f (flat_map k l) ≡ flat_map (λ a. keep f (k a)) l
  unfolding keep flat_map
  keep_flat_map f k [] = refl
  keep_flat_map f k (x ∷ l) = keep_append f (k x) (flat_map k l) ∙ ap (λ (r : List B). keep f (k x) ++ r) (keep_flat_map f k l)

  -- what agrees on the list, and what finds nothing
  pub flat_map_same : (f k : A → List B) (l : List A) → ((a : A) → a ∈ l → f a ≡ k a) → flat_map f l ≡ flat_map k l
  unfolding flat_map
  flat_map_same f k [] h = refl
  flat_map_same f k (x ∷ l) h = rw (h x here, flat_map_same f k l (λ a m. h a (there m)))

  pub flat_map_no : (f : A → List B) (l : List A) → ((a : A) → a ∈ l → f a ≡ []) → flat_map f l ≡ []
  unfolding flat_map
  flat_map_no f [] h = refl
  flat_map_no f (x ∷ l) h = rw (h x here, flat_map_no f l (λ a m. h a (there m)))
