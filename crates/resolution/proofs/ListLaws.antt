-- Laws of lists. Assumes nothing.
use Prim.Native.Nat.{ℕ}
use mathlib.Core.Path.{◌≡◌, refl, sym, ap, ◌∙◌}
use mathlib.Core.List.{List, [], ◌∷◌, ◌++◌, map, flat_map, append_assoc}
use Rattle.follow.specs.Tally.{Taken}
use Rattle.follow.proofs.TallyLaws.{joined}

module _ {A B : Type 0} where
  pub flat_map_append : (f : A → List B) (s t : List A) → flat_map f (s ++ t) ≡ flat_map f s ++ flat_map f t
  unfolding flat_map
  flat_map_append f [] t = refl
  flat_map_append f (x ∷ s) t = ap (λ (l : List B). f x ++ l) (flat_map_append f s t) ∙ sym (append_assoc (f x) (flat_map f s) (flat_map f t))

  pub map_append : (f : A → B) (s t : List A) → map f (s ++ t) ≡ map f s ++ map f t
  map_append f [] t = refl
  map_append f (x ∷ s) t = ap (λ (l : List B). f x ∷ l) (map_append f s t)

module _ {A B C : Type 0} where
  pub map_map : (f : B → C) (g : A → B) (l : List A) → map f (map g l) ≡ map (λ a. f (g a)) l
  map_map f g [] = refl
  map_map f g (x ∷ l) = ap (λ (m : List C). f (g x) ∷ m) (map_map f g l)

  pub map_flat_map : (f : B → C) (g : A → List B) (l : List A) → map f (flat_map g l) ≡ flat_map (λ a. map f (g a)) l
  unfolding flat_map
  map_flat_map f g [] = refl
  map_flat_map f g (x ∷ l) = map_append f (g x) (flat_map g l) ∙ ap (λ (m : List C). map f (g x) ++ m) (map_flat_map f g l)

pub map_same : {A B : Type 0} (f g : A → B) → ((a : A) → f a ≡ g a) → (l : List A) → map f l ≡ map g l
map_same f g e [] = refl
map_same {B = B} f g e (x ∷ l) = ap (λ (b : B). b ∷ map f l) (e x) ∙ ap (λ (m : List B). g x ∷ m) (map_same f g e l)

pub joined_map : {A : Type 0} (f : A → Taken) (l : List A) → joined (map f l) ≡ flat_map (λ a. (f a).text) l
unfolding joined flat_map
joined_map f [] = refl
joined_map f (x ∷ l) = ap (λ (m : List ℕ). (f x).text ++ m) (joined_map f l)
