-- What the reader with trees takes is a text of the grammar: at each moment what it holds is read
-- from the bytes so far. Assumes nothing.
use Prim.Native.Nat.{ℕ}
use mathlib.Core.Path.{◌≡◌, refl, sym, ap, ◌∙◌, subst}
use mathlib.Core.Bool.{Bool, true, false, ◌&&◌}
use mathlib.Core.Option.{Option, some, none}
use mathlib.Core.List.{List, [], ◌∷◌, ◌++◌, append_assoc, append-nil}
use native.Mathlib.Omega.{arith}
use lib.Dec.{eqb, ltb}
use borrow.Author.Tests.{eqb-true, ltb-true}
use Rattle.scope_graph.proofs.Lists.{and_left}
use Rattle.path_rules.specs.Expression.{Expr, letter, seq, alt}
use Rattle.path_rules.specs.Grammar.{item, items, sides, is_sign, Reads, label, starred, bracketed, single, behind, side, barred, place_of}
use Rattle.path_rules.proofs.Trees.{seq_o, alt_o, Frame, Tree, tree, open_tree, close_tree, star_tree, bar_tree, letter_tree, tree_kind, tree_byte, tree_all}

module _ (ls : List ℕ) where
  -- the text of a choice with its bar behind it, of a sequence, of an item, where each may be
  -- missing
  abbrev pub Choice : Option Expr → List ℕ → Type 0
  Choice none p = p ≡ []
  Choice (some a) p = (s : List ℕ) × Reads ls sides a s × (p ≡ s ++ 124 ∷ [])

  abbrev pub Items : Option Expr → List ℕ → Type 0
  Items none p = p ≡ []
  Items (some a) p = Reads ls items a p

  abbrev pub Item : Option Expr → List ℕ → Type 0
  Item none p = p ≡ []
  Item (some a) p = Reads ls item a p

  abbrev pub Stack : List Frame → List ℕ → Type 0
  Stack [] p = p ≡ []
  Stack (f ∷ fs) p =
      (p₀ : List ℕ) × (p₁ : List ℕ) × (p₂ : List ℕ) × Stack fs p₀ × Choice f.0 p₁ × Items f.1 p₂ × (p ≡ p₀ ++ (p₁ ++ (p₂ ++ 40 ∷ [])))

  abbrev pub Held : Tree → List ℕ → Type 0
  Held t p =
      (p₀ : List ℕ) × (p₁ : List ℕ) × (p₂ : List ℕ) × (p₃ : List ℕ)
      × Stack t.stack p₀ × Choice t.choice p₁ × Items t.before p₂ × Item t.item p₃ × (p ≡ p₀ ++ (p₁ ++ (p₂ ++ p₃)))

  join_items : (b i : Option Expr) (p q : List ℕ) → Items b p → Item i q → Items (seq_o b i) (p ++ q)
  join_items none none p q e g = rw (e, g)
  join_items none (some x) p q e d = rw e (single x q d)
  join_items (some a) none p q d e = rw (e, append-nil p) d
  join_items (some a) (some x) p q d g = behind a x p q (p ++ q) d g refl

  -- with an item there is a whole sequence, and a whole choice
  abbrev SomeItems : Option Expr → List ℕ → Type 0
  SomeItems o p = (e : Expr) × (o ≡ some e) × Reads ls items e p

  some_items : (b : Option Expr) (a : Expr) (p q : List ℕ) → Items b p → Reads ls item a q → SomeItems (seq_o b (some a)) (p ++ q)
  some_items none a p q e d = (a, refl, rw e (single a q d))
  some_items (some b) a p q d g = (seq b a, refl, behind b a p q (p ++ q) d g refl)

  some_sides : (c : Option Expr) (o : Option Expr) (p q : List ℕ) → Choice c p → SomeItems o q → (e : Expr) × (alt_o c o ≡ some e) × Reads ls sides e (p ++ q)
  some_sides none o p q e (a, k, d) = (a, k, rw e (side a q d))
  some_sides (some c) o p q (s, d, e) (a, k, g) =
      (alt c a, ap (alt_o (some c)) k, barred c a s q (p ++ q) d g (ap (λ y. y ++ q) e ∙ append_assoc s (124 ∷ []) q))

  some_value : (t : Tree) (a : Expr) (p₁ p₂ p₃ : List ℕ) → Choice t.choice p₁ → Items t.before p₂ → Reads ls item a p₃
      → (e : Expr) × (alt_o t.choice (seq_o t.before (some a)) ≡ some e) × Reads ls sides e (p₁ ++ (p₂ ++ p₃))
  some_value t a p₁ p₂ p₃ c b i = some_sides t.choice _ p₁ (p₂ ++ p₃) c (some_items t.before a p₂ p₃ b i)

  -- each byte taken
  abbrev Next : Option Tree → List ℕ → Type 0
  Next none p = Unit {0}
  Next (some u) p = Held u p

  module _ (t : Tree) (p : List ℕ) (h : Held t p) where
    held_open : Next (open_tree t) (p ++ 40 ∷ [])
    held_open =
        let (p₀, p₁, p₂, p₃, s, c, b, i, e) = h in (
          p₀ ++ (p₁ ++ ((p₂ ++ p₃) ++ 40 ∷ [])),
          [],
          [],
          [],
          (p₀, p₁, p₂ ++ p₃, s, c, join_items t.before t.item p₂ p₃ b i, refl),
          refl,
          refl,
          refl,
          ap (λ y. y ++ 40 ∷ []) e ∙ simp (append_assoc, append-nil),
        )

    held_star : (i : Option Expr) → t.item ≡ i → Next (star_tree i t) (p ++ 42 ∷ [])
    held_star none g = tt
    held_star (some a) g =
        let (p₀, p₁, p₂, p₃, s, c, b, i, e) = h in
        (p₀, p₁, p₂, p₃ ++ 42 ∷ [], s, c, b, starred a p₃ (p₃ ++ 42 ∷ []) (subst (λ o. Item o p₃) g i) refl, ap (λ y. y ++ 42 ∷ []) e ∙ simp append_assoc)

    held_bar : (i : Option Expr) → t.item ≡ i → Next (bar_tree i t) (p ++ 124 ∷ [])
    held_bar none g = tt
    held_bar (some a) g =
        let (p₀, p₁, p₂, p₃, s, c, b, i, e) = h in
        let (v, k, d) = some_value t a p₁ p₂ p₃ c b (subst (λ o. Item o p₃) g i) in (
          p₀,
          (p₁ ++ (p₂ ++ p₃)) ++ 124 ∷ [],
          [],
          [],
          s,
          subst (λ o. Choice o ((p₁ ++ (p₂ ++ p₃)) ++ 124 ∷ [])) (sym k) (p₁ ++ (p₂ ++ p₃), d, refl),
          refl,
          refl,
          ap (λ y. y ++ 124 ∷ []) e ∙ simp (append_assoc, append-nil),
        )

    held_close : (i : Option Expr) (st : List Frame) → t.item ≡ i → t.stack ≡ st → Next (close_tree i st t) (p ++ 41 ∷ [])
    held_close none st g k = tt
    held_close (some a) [] g k = tt
    held_close (some a) (f ∷ fs) g k =
        let (p₀, p₁, p₂, p₃, s, c, b, i, e) = h in
        let (v, w, d) = some_value t a p₁ p₂ p₃ c b (subst (λ o. Item o p₃) g i) in
        let (q₀, q₁, q₂, s', c', b', e') = subst (λ o. Stack o p₀) k s in (
          q₀,
          q₁,
          q₂,
          40 ∷ ((p₁ ++ (p₂ ++ p₃)) ++ 41 ∷ []),
          s',
          c',
          b',
          subst (λ o. Item o (40 ∷ ((p₁ ++ (p₂ ++ p₃)) ++ 41 ∷ []))) (sym w) (bracketed v (p₁ ++ (p₂ ++ p₃)) _ d refl),
          ap (λ y. y ++ 41 ∷ []) (e ∙ ap (λ y. y ++ (p₁ ++ (p₂ ++ p₃))) e') ∙ simp append_assoc,
        )

    held_letter : (so : Bool) (b l : ℕ) → (so ≡ true → Reads ls item (letter l) (b ∷ [])) → Next (letter_tree so t l) (p ++ b ∷ [])
    held_letter false b l g = tt
    held_letter true x l g =
        let (p₀, p₁, p₂, p₃, s, c, b, i, e) = h in
        (p₀, p₁, p₂ ++ p₃, x ∷ [], s, c, join_items t.before t.item p₂ p₃ b i, g refl, ap (λ y. y ++ x ∷ []) e ∙ simp append_assoc)

    held_byte : (b : ℕ) → Next (tree_byte ls t b) (p ++ b ∷ [])
    unfolding tree_byte is_sign
    held_byte b = at (eqb b 40) (eqb b 41) (eqb b 42) (eqb b 124) refl refl refl refl
      where
        other : eqb b 40 ≡ false → eqb b 41 ≡ false → eqb b 42 ≡ false → eqb b 124 ≡ false
            → (ltb (place_of 0 b ls) 8 && ltb t.letters 10) ≡ true → Reads ls item (letter (place_of 0 b ls)) (b ∷ [])
        other e₁ e₂ e₃ e₄ g = label b (place_of 0 b ls) (rw (e₁, e₂, e₃, e₄)) refl (ltb-true _ 8 (and_left _ _ g))

        at : (x y z w : Bool) → eqb b 40 ≡ x → eqb b 41 ≡ y → eqb b 42 ≡ z → eqb b 124 ≡ w
            → Next (tree_kind x y z w t (place_of 0 b ls)) (p ++ b ∷ [])
        at true y z w e₁ e₂ e₃ e₄ = rw (eqb-true b 40 e₁) held_open
        at false true z w e₁ e₂ e₃ e₄ = rw (eqb-true b 41 e₂) (held_close t.item t.stack refl refl)
        at false false true w e₁ e₂ e₃ e₄ = rw (eqb-true b 42 e₃) (held_star t.item refl)
        at false false false true e₁ e₂ e₃ e₄ = rw (eqb-true b 124 e₄) (held_bar t.item refl)
        at false false false false e₁ e₂ e₃ e₄ =
            held_letter (ltb (place_of 0 b ls) 8 && ltb t.letters 10) b (place_of 0 b ls) (other e₁ e₂ e₃ e₄)

  -- all bytes
  pub held_all : (t u : Tree) (p s : List ℕ) → Held t p → tree_all ls t s ≡ some u → Held u (p ++ s)
  unfolding tree_all
  held_all t u p [] h e = let g : t ≡ u = cc in rw (append-nil p) (subst (λ v. Held v p) g h)
  held_all t u p (b ∷ s) h e = by (tree_byte ls t b) (held_byte t p h b) e (λ v. held_all v u (p ++ b ∷ []) s)
    where
      by : (o : Option Tree) → Next o (p ++ b ∷ []) → (elim o as (λ _. Option Tree) [ none ↦ none | some v ↦ tree_all ls v s ]) ≡ some u
          → ((v : Tree) → Held v (p ++ b ∷ []) → tree_all ls v s ≡ some u → Held u ((p ++ b ∷ []) ++ s)) → Held u (p ++ b ∷ s)
      by none n k ih = absurd (let z : ◌≡◌ {A = ℕ} 0 1 = cc in omega arith)
      by (some v) n k ih = subst (Held u) (append_assoc p (b ∷ []) s) (ih v n k)

  pub held_none : Held (tree none none none [] 0) []
  held_none = ([], [], [], [], refl, refl, refl, refl, refl)

  -- with no bracket open, and an item, the text is an expression
  pub held_whole : (t : Tree) (a e : Expr) (p : List ℕ) → Held t p → t.stack ≡ [] → t.item ≡ some a
      → alt_o t.choice (seq_o t.before (some a)) ≡ some e → Reads ls sides e p
  held_whole t a e p (p₀, p₁, p₂, p₃, s, c, b, i, g) k j v =
      let (e', w, d) = some_value t a p₁ p₂ p₃ c b (subst (λ o. Item o p₃) j i) in
      let z : e' ≡ e = cc in
      let n : p₀ ≡ [] = subst (λ o. Stack o p₀) k s in
      subst (λ y. Reads ls sides y p) z (subst (Reads ls sides e') (sym (g ∙ ap (λ y. y ++ (p₁ ++ (p₂ ++ p₃))) n)) d)
