-- The reader of expressions, with trees in place of sets of positions: what it takes is exactly
-- what the grammar has, and each text has one tree. Assumes nothing.
use Prim.Native.Nat.{ℕ, ◌+◌, ◌<◌, ◌≤◌}
use mathlib.Core.Path.{◌≡◌, refl, sym, ap, ◌∙◌}
use mathlib.Core.Bool.{Bool, true, false, ◌&&◌, ◌||◌, false≢true}
use mathlib.Core.Option.{Option, some, none}
use mathlib.Core.List.{List, [], ◌∷◌, ◌++◌, append_assoc}
use native.Mathlib.Omega.{arith}
use native.Mathlib.Nat.{add_assoc}
use lib.Dec.{eqb, ltb}
use borrow.Author.Tests.{lt-ltb}
use Rattle.path_rules.specs.Expression.{Expr, letter, seq, alt, star, size}
use Rattle.path_rules.specs.Grammar.{Binding, item, items, sides, is_sign, Reads, label, starred, bracketed, single, behind, side, barred, place_of}

-- one behind the other, or a choice, where either may be missing
abbrev pub seq_o : Option Expr → Option Expr → Option Expr
seq_o none b = b
seq_o (some a) none = some a
seq_o (some a) (some b) = some (seq a b)

abbrev pub alt_o : Option Expr → Option Expr → Option Expr
alt_o none b = b
alt_o (some a) none = some a
alt_o (some a) (some b) = some (alt a b)

-- the choice and the sequence before an open bracket
abbrev pub Frame : Type 0
Frame = Option Expr × Option Expr

-- what is known after the bytes so far
pub record Tree : Type 0 where
  pub choice : Option Expr
  pub before : Option Expr
  pub item : Option Expr
  pub stack : List Frame
  pub letters : ℕ

abbrev pub tree : Option Expr → Option Expr → Option Expr → List Frame → ℕ → Tree
tree c b i st n = record { choice = c; before = b; item = i; stack = st; letters = n }

abbrev pub open_tree : Tree → Option Tree
open_tree t = some (tree none none none ((t.choice, seq_o t.before t.item) ∷ t.stack) t.letters)

abbrev pub close_tree : Option Expr → List Frame → Tree → Option Tree
close_tree none st t = none
close_tree (some a) [] t = none
close_tree (some a) (f ∷ fs) t = some (tree f.0 f.1 (alt_o t.choice (seq_o t.before (some a))) fs t.letters)

abbrev pub star_tree : Option Expr → Tree → Option Tree
star_tree none t = none
star_tree (some a) t = some (tree t.choice t.before (some (star a)) t.stack t.letters)

abbrev pub bar_tree : Option Expr → Tree → Option Tree
bar_tree none t = none
bar_tree (some a) t = some (tree (alt_o t.choice (seq_o t.before (some a))) none none t.stack t.letters)

abbrev pub letter_tree : Bool → Tree → ℕ → Option Tree
letter_tree true t l = some (tree t.choice (seq_o t.before t.item) (some (letter l)) t.stack (t.letters + 1))
letter_tree false t l = none

abbrev pub tree_kind : Bool → Bool → Bool → Bool → Tree → ℕ → Option Tree
tree_kind true y z w t l = open_tree t
tree_kind false true z w t l = close_tree t.item t.stack t
tree_kind false false true w t l = star_tree t.item t
tree_kind false false false true t l = bar_tree t.item t
tree_kind false false false false t l = letter_tree (ltb l 8 && ltb t.letters 10) t l

module _ (ls : List ℕ) where
  unfoldable pub tree_byte : Tree → ℕ → Option Tree
  tree_byte t b = tree_kind (eqb b 40) (eqb b 41) (eqb b 42) (eqb b 124) t (place_of 0 b ls)

  unfoldable pub tree_all : Tree → List ℕ → Option Tree
  tree_all t [] = some t
  tree_all t (b ∷ bs) = elim (tree_byte t b) [ none ↦ none | some u ↦ tree_all u bs ]

  -- a byte taken
  tree_step : (t u : Tree) (b : ℕ) (bs : List ℕ) → tree_byte t b ≡ some u → tree_all t (b ∷ bs) ≡ tree_all u bs
  unfolding tree_all
  tree_step t u b bs e = rw (e, tree_all)

  -- what reading a text of the grammar does
  abbrev pub with_item : Tree → Expr → Tree
  with_item t e = tree t.choice (seq_o t.before t.item) (some e) t.stack (t.letters + size e)

  abbrev pub Goes : Binding → Expr → List ℕ → Type 0
  Goes item e s = (t : Tree) (rest : List ℕ) → t.letters + size e ≤ 10 → tree_all t (s ++ rest) ≡ tree_all (with_item t e) rest
  Goes items e s =
      (c : Option Expr) (st : List Frame) (n : ℕ) (rest : List ℕ) → n + size e ≤ 10
      → (b : Option Expr) × (a : Expr) × (tree_all (tree c none none st n) (s ++ rest) ≡ tree_all (tree c b (some a) st (n + size e)) rest)
      × (seq_o b (some a) ≡ some e)
  Goes sides e s =
      (st : List Frame) (n : ℕ) (rest : List ℕ) → n + size e ≤ 10
      → (c : Option Expr) × (b : Option Expr) × (a : Expr)
      × (tree_all (tree none none none st n) (s ++ rest) ≡ tree_all (tree c b (some a) st (n + size e)) rest)
      × (alt_o c (seq_o b (some a)) ≡ some e)

  or_false : (a b : Bool) → (a || b) ≡ false → (a ≡ false) × (b ≡ false)
  or_false true b h = absurd (false≢true (sym h))
  or_false false b h = (refl, h)

  letter_byte_lem : (t : Tree) (c l : ℕ) → is_sign c ≡ false → place_of 0 c ls ≡ l → l < 8 → t.letters + 1 ≤ 10 → tree_byte t c ≡ some (with_item t (letter l))
  unfolding tree_byte is_sign size
  letter_byte_lem t c l s e b n =
      let h = or_false (eqb c 40) _ s in let i = or_false (eqb c 41) _ h.1 in let j = or_false (eqb c 42) _ i.1 in
      let m : t.letters < 10 = omega arith in
      rw (h.0, i.0, j.0, j.1, e, lt-ltb l 8 b, lt-ltb t.letters 10 m)

  pub goes : (g : Binding) (e : Expr) (s : List ℕ) → Reads ls g e s → Goes g e s
  unfolding tree_byte size
  goes g e s (label c l k p b) = λ t rest n. tree_step t (with_item t (letter l)) c rest (letter_byte_lem t c l k p b n)
  goes g e s (starred a r t' d q) = λ t rest n.
      ap (λ y. tree_all t (y ++ rest)) q
      ∙ ap (tree_all t) (append_assoc r (42 ∷ []) rest)
      ∙ goes item a r d t (42 ∷ rest) n
      ∙ tree_step (with_item t a) (with_item t (star a)) 42 rest refl
  goes g e s (bracketed a r t' d q) = λ t rest n.
      let (c, b, x, h, v) = goes sides a r d ((t.choice, seq_o t.before t.item) ∷ t.stack) t.letters (41 ∷ rest) n in
      ap (λ y. tree_all t (y ++ rest)) q
      ∙ tree_step t (tree none none none ((t.choice, seq_o t.before t.item) ∷ t.stack) t.letters) 40 ((r ++ 41 ∷ []) ++ rest) refl
      ∙ ap (tree_all (tree none none none ((t.choice, seq_o t.before t.item) ∷ t.stack) t.letters)) (append_assoc r (41 ∷ []) rest)
      ∙ h
      ∙ tree_step (tree c b (some x) ((t.choice, seq_o t.before t.item) ∷ t.stack) (t.letters + size a))
      (with_item t a) 41 rest (ap (λ y. some (tree t.choice (seq_o t.before t.item) y t.stack (t.letters + size a))) v)
  goes g e s (single a r d) = λ c st n rest m. (none, a, goes item a r d (tree c none none st n) rest m, refl)
  goes g e s (behind a b r r' t' d d' q) = λ c st n rest m.
      let (b₁, x, h, v) = goes items a r d c st n (r' ++ rest) (omega arith) in (
        some a,
        b,
        ap (λ y. tree_all (tree c none none st n) (y ++ rest)) q
            ∙ ap (tree_all (tree c none none st n)) (append_assoc r r' rest)
            ∙ h
            ∙ goes item b r' d' (tree c b₁ (some x) st (n + size a)) rest (omega arith)
            ∙ ap (λ y. tree_all (tree c y (some b) st (n + size a + size b)) rest) v
            ∙ ap (λ y. tree_all (tree c (some a) (some b) st y) rest) (add_assoc n (size a) (size b)),
        refl,
      )
  goes g e s (side a r d) = λ st n rest m. let (b, x, h, v) = goes items a r d none st n rest m in (none, b, x, h, v)
  goes g e s (barred a b r r' t' d d' q) = λ st n rest m.
      let (c₁, b₁, x, h, v) = goes sides a r d st n (124 ∷ (r' ++ rest)) (omega arith) in
      let (b₂, y, h₂, v₂) = goes items b r' d' (some a) st (n + size a) rest (omega arith) in (
        some a,
        b₂,
        y,
        ap (λ y. tree_all (tree none none none st n) (y ++ rest)) q
            ∙ ap (tree_all (tree none none none st n)) (append_assoc r (124 ∷ r') rest)
            ∙ h
            ∙ tree_step (tree c₁ b₁ (some x) st (n + size a)) (tree (some a) none none st (n + size a)) 124 (r' ++ rest)
            (ap (λ y. some (tree y none none st (n + size a))) v)
            ∙ h₂
            ∙ ap (λ k. tree_all (tree (some a) b₂ (some y) st k) rest) (add_assoc n (size a) (size b)),
        ap (alt_o (some a)) v₂,
      )
