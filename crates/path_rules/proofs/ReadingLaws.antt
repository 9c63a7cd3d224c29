-- Both readers take the same texts, and at the end hold the same expression. Assumes nothing.
use Prim.Native.Nat.{ℕ, suc, ◌+◌, ◌<◌, ◌≤◌}
use mathlib.Core.Path.{◌≡◌, refl, sym, ap, ◌∙◌, subst}
use mathlib.Core.Bool.{Bool, true, false, ◌&&◌, false≢true}
use mathlib.Core.Option.{Option, some, none}
use mathlib.Core.List.{List, [], ◌∷◌, append-nil}
use native.Mathlib.Omega.{arith}
use lib.Dec.{eqb, ltb}
use lib.ListN.{length}
use borrow.Author.Tests.{lt-ltb, le-ltb, ltb-true, eqb-true}
use Rattle.scope_graph.proofs.Lists.{and_left, and_right}
use Rattle.std.specs.Option.{is_some}
use Rattle.std.specs.declared.option.Option as std
use Rattle.std.specs.declared.option.Option.TheVariants.{Some, None}
use Rattle.path_rules.specs.Expression.{Expr, seq, alt, size}
use Rattle.path_rules.specs.Grammar.{Expression, sides, place_of}
use Rattle.path_rules.specs.Reading.{fresh, merged, chosen, popped, repeated, placed, opened, closed, starred, barred, lettered, by_kind, read_byte, read_all}
use Rattle.path_rules.specs.Rules.{is_whole, whole_of, read_whole}
use Rattle.path_rules.specs.declared.reading.Part.{Part}
use Rattle.path_rules.specs.declared.reading.Reading.{Reading}
use Rattle.path_rules.proofs.Trees.{seq_o, alt_o, Frame, Tree, tree, close_tree, star_tree, bar_tree, letter_tree, tree_kind, tree_byte, tree_all, goes}
use Rattle.path_rules.proofs.PartLaws.{ItemOf, there, item_there}
use Rattle.path_rules.proofs.TreeTexts.{held_all, held_none, held_whole}
use Rattle.path_rules.proofs.Tracks.{Tracks, tracks_fresh, tracks_merged, tracks_chosen, tracks_pushed, tracks_popped, tracks_repeated, tracks_placed, sizes}

some_seq : (b : Option Expr) (a : Expr) → (e : Expr) × (seq_o b (some a) ≡ some e)
some_seq none a = (a, refl)
some_seq (some b) a = (seq b a, refl)

some_alt : (c : Option Expr) (a : Expr) → (e : Expr) × (alt_o c (some a) ≡ some e)
some_alt none a = (a, refl)
some_alt (some c) a = (alt c a, refl)

-- what the one does, the other does
abbrev Follow : Option Tree → std.Option Reading → Type 0
Follow none None = Unit {0}
Follow none (Some s) = ⊥
Follow (some u) None = ⊥
Follow (some u) (Some s) = Tracks u s

read_one : (u : Tree) (r : std.Option Reading) → Follow (some u) r → (s : Reading) × (r ≡ Some s) × Tracks u s
read_one u None h = absurd h
read_one u (Some s) h = (s, refl, h)

-- with an item, the whole choice
tracks_whole : (c b : Option Expr) (a : Expr) (st : List Frame) (n : ℕ) (s : Reading) → Tracks (tree c b (some a) st n) s
    → Tracks (tree (alt_o c (seq_o b (some a))) none none st n) (chosen (merged s))
tracks_whole c b a st n s h =
    let (e, k) = some_seq b a in
    let m = tracks_merged (tree c b (some a) st n) s h in
    subst (λ o. Tracks (tree (alt_o c o) none none st n) (chosen (merged s))) (sym k)
    (tracks_chosen c e st n (merged s) (subst (λ o. Tracks (tree c o none st n) (merged s)) k m))

tracks_close : (c b i : Option Expr) (st : List Frame) (n : ℕ) (s : Reading) → Tracks (tree c b i st n) s → Follow (close_tree i st (tree c b i st n)) (closed s)
unfolding closed
tracks_close c b none st n s h = rw (item_there none (sizes ((c, b) ∷ st)) s.atom h.item, closed) tt
tracks_close c b (some a) [] n s h = rw (item_there (some a) (sizes ((c, b) ∷ [])) s.atom h.item, h.depth, closed) tt
tracks_close c b (some a) (f ∷ fs) n s h =
    let m = tracks_whole c b a (f ∷ fs) n s h in
    let (e, k) = some_seq b a in
    let (v, g) = some_alt c e in
    let q : alt_o c (seq_o b (some a)) ≡ some v = ap (alt_o c) k ∙ g in
    let r = tracks_popped v f.0 f.1 fs n (chosen (merged s)) (subst (λ o. Tracks (tree o none none (f ∷ fs) n) (chosen (merged s))) q m) in
    let d : 0 < s.depth = (let y = h.depth in omega arith) in
    rw (item_there (some a) (sizes ((c, b) ∷ f ∷ fs)) s.atom h.item, lt-ltb 0 s.depth d, closed) (subst (λ o. Tracks (tree f.0 f.1 o fs n) (popped (chosen (merged s)))) (sym q) r)

tracks_star : (c b i : Option Expr) (st : List Frame) (n : ℕ) (s : Reading) → Tracks (tree c b i st n) s → Follow (star_tree i (tree c b i st n)) (starred s)
unfolding starred
tracks_star c b i st n s h = by i s.atom h h.item
  where
    by : (i : Option Expr) (q : std.Option Part) → Tracks (tree c b i st n) s → ItemOf i (sizes ((c, b) ∷ st)) q
        → Follow (star_tree i (tree c b i st n)) (elim q as (λ _. std.Option Reading) [ None ↦ None | Some a ↦ Some (repeated s a) ])
    by none None h k = tt
    by none (Some q) h k = absurd k
    by (some a) None h k = absurd k
    by (some a) (Some q) h k = tracks_repeated c b a st n s q h k

tracks_bar : (c b i : Option Expr) (st : List Frame) (n : ℕ) (s : Reading) → Tracks (tree c b i st n) s → Follow (bar_tree i (tree c b i st n)) (barred s)
unfolding barred
tracks_bar c b none st n s h = rw (item_there none (sizes ((c, b) ∷ st)) s.atom h.item, barred) tt
tracks_bar c b (some a) st n s h = rw (item_there (some a) (sizes ((c, b) ∷ st)) s.atom h.item, barred) (tracks_whole c b a st n s h)

tracks_letter_by : (c : Bool) (t : Tree) (l : ℕ) (s : Reading) → Tracks t s → (c ≡ true → t.letters < 10)
    → Follow (letter_tree c t l) (elim c as (λ _. std.Option Reading) [ true ↦ Some (placed (merged s) l) | false ↦ None ])
tracks_letter_by true t l s h b = tracks_placed t.choice (seq_o t.before t.item) t.stack t.letters l (merged s) (b refl) (tracks_merged t s h)
tracks_letter_by false t l s h b = tt

tracks_letter : (t : Tree) (l : ℕ) (s : Reading) → Tracks t s → Follow (letter_tree (ltb l 8 && ltb t.letters 10) t l) (lettered s l)
unfolding lettered
tracks_letter t l s h =
    rw (h.letters, lettered)
    (tracks_letter_by (ltb l 8 && ltb t.letters 10) t l s h (λ e. ltb-true t.letters 10 (and_right (ltb l 8) _ e)))

tracks_kind : (x y z w : Bool) (t : Tree) (l : ℕ) (s : Reading) → length t.stack < 64 → Tracks t s → Follow (tree_kind x y z w t l) (by_kind x y z w s l)
unfolding by_kind opened
tracks_kind true y z w t l s b h =
    let d : s.depth < 64 = (let y = h.depth in omega arith) in
    rw (lt-ltb s.depth 64 d, opened)
    (tracks_pushed t.choice (seq_o t.before t.item) t.stack t.letters (merged s) b (tracks_merged t s h))
tracks_kind false true z w t l s b h = tracks_close t.choice t.before t.item t.stack t.letters s h
tracks_kind false false true w t l s b h = tracks_star t.choice t.before t.item t.stack t.letters s h
tracks_kind false false false true t l s b h = tracks_bar t.choice t.before t.item t.stack t.letters s h
tracks_kind false false false false t l s b h = tracks_letter t l s h

-- at most one bracket more is open after a byte
abbrev Grown : ℕ → Option Tree → Type 0
Grown n none = Unit {0}
Grown n (some u) = length u.stack ≤ suc n

grown_close : (i : Option Expr) (st : List Frame) (t : Tree) → Grown (length st) (close_tree i st t)
grown_close none st t = tt
grown_close (some a) [] t = tt
grown_close (some a) (f ∷ fs) t = omega arith

grown_star : (i : Option Expr) (t : Tree) → Grown (length t.stack) (star_tree i t)
grown_star none t = tt
grown_star (some a) t = omega arith

grown_bar : (i : Option Expr) (t : Tree) → Grown (length t.stack) (bar_tree i t)
grown_bar none t = tt
grown_bar (some a) t = omega arith

grown_letter : (c : Bool) (t : Tree) (l : ℕ) → Grown (length t.stack) (letter_tree c t l)
grown_letter true t l = omega arith
grown_letter false t l = tt

grown_kind : (x y z w : Bool) (t : Tree) (l : ℕ) → Grown (length t.stack) (tree_kind x y z w t l)
grown_kind true y z w t l = omega arith
grown_kind false true z w t l = grown_close t.item t.stack t
grown_kind false false true w t l = grown_star t.item t
grown_kind false false false true t l = grown_bar t.item t
grown_kind false false false false t l = grown_letter (ltb l 8 && ltb t.letters 10) t l

module _ (ls : List ℕ) where
  tracks_all : (bs : List ℕ) (t : Tree) (s : Reading) → length t.stack + length bs ≤ 64 → Tracks t s → Follow (tree_all ls t bs) (read_all ls s bs)
  unfolding tree_all read_all tree_byte read_byte
  tracks_all [] t s b h = h
  tracks_all (x ∷ bs) t s b h =
      by (tree_byte ls t x) (read_byte ls s x)
      (tracks_kind (eqb x 40) (eqb x 41) (eqb x 42) (eqb x 124) t (place_of 0 x ls) s (omega arith) h)
      (grown_kind (eqb x 40) (eqb x 41) (eqb x 42) (eqb x 124) t (place_of 0 x ls)) (λ u. tracks_all bs u)
    where
      by : (o : Option Tree) (r : std.Option Reading) → Follow o r → Grown (length t.stack) o
          → ((u : Tree) (r : Reading) → length u.stack + length bs ≤ 64 → Tracks u r → Follow (tree_all ls u bs) (read_all ls r bs))
          → Follow (elim o as (λ _. Option Tree) [ none ↦ none | some u ↦ tree_all ls u bs ])
          (elim r as (λ _. std.Option Reading) [ None ↦ None | Some q ↦ read_all ls q bs ])
      by none None k g ih = tt
      by none (Some q) k g ih = absurd k
      by (some u) None k g ih = absurd k
      by (some u) (Some q) k g ih = ih u q (omega arith) k

  none_stack : (st : List Frame) → length st ≡ 0 → st ≡ []
  none_stack [] e = refl
  none_stack (f ∷ fs) e = absurd (omega arith)

  some_item : (i : Option Expr) → there i ≡ true → (a : Expr) × (i ≡ some a)
  some_item none e = absurd (false≢true e)
  some_item (some a) e = (a, refl)

  -- what is read to the end: the positions are the expression's
  pub record Ready (e : Expr) (text : List ℕ) : Type 0 where
    pub letters : ℕ
    pub whole : Reading
    pub read : read_whole ls text ≡ Some whole
    pub tracked : Tracks (tree (some e) none none [] letters) whole

  read_is : (text : List ℕ) (s : Reading) → length text ≤ 64 → read_all ls fresh text ≡ Some s → is_whole s ≡ true → read_whole ls text ≡ Some (chosen (merged s))
  unfolding read_whole whole_of
  read_is text s len r w = rw (le-ltb 64 (length text) len, r, read_whole, w, whole_of)

  ready_from : (e a : Expr) (c b : Option Expr) (n : ℕ) (text : List ℕ) → length text ≤ 64 → tree_all ls (tree none none none [] 0) text ≡ some (tree c b (some a) [] n)
      → alt_o c (seq_o b (some a)) ≡ some e → Ready e text
  unfolding is_whole
  ready_from e a c b n text len h v =
      let (s, r, k) = read_one (tree c b (some a) [] n) (read_all ls fresh text)
      (subst (λ o. Follow o (read_all ls fresh text)) h (tracks_all text (tree none none none [] 0) fresh (omega arith) tracks_fresh)) in
      record {
        letters = n;
        whole = chosen (merged s);
        read = read_is text s len r (rw (item_there (some a) (sizes ((c, b) ∷ [])) s.atom k.item, k.depth, is_whole));
        tracked = subst (λ o. Tracks (tree o none none [] n) (chosen (merged s))) v (tracks_whole c b a [] n s k);
      }

  -- a text of the grammar is read
  pub ready : (e : Expr) (text : List ℕ) → Expression ls e text → Ready e text
  unfolding tree_all
  ready e text x =
      let (c, b, a, h, v) = goes ls sides e text x.reads [] 0 [] (let y = x.letters in omega arith) in
      ready_from e a c b (0 + size e) text x.bytes (subst (λ y. tree_all ls (tree none none none [] 0) y ≡ some (tree c b (some a) [] (0 + size e))) (append-nil text) h) v

  -- a text that is read is one of the grammar
  pub taken : (text : List ℕ) (s : Reading) → length text ≤ 64 → read_all ls fresh text ≡ Some s → is_whole s ≡ true → (e : Expr) × Expression ls e text
  unfolding is_whole sizes
  taken text s len r w =
      by (tree_all ls (tree none none none [] 0) text) refl
      (subst (Follow (tree_all ls (tree none none none [] 0) text)) r (tracks_all text (tree none none none [] 0) fresh (omega arith) tracks_fresh))
    where
      by : (o : Option Tree) → tree_all ls (tree none none none [] 0) text ≡ o → Follow o (Some s) → (e : Expr) × Expression ls e text
      by none g k = absurd k
      by (some u) g k =
          let (a, i) = some_item u.item (sym (item_there u.item (sizes ((u.choice, u.before) ∷ u.stack)) s.atom k.item) ∙ and_left _ _ w) in
          let st = none_stack u.stack (sym k.depth ∙ eqb-true _ 0 (and_right (is_some s.atom) _ w)) in
          let (e₁, q₁) = some_seq u.before a in
          let (e, q₂) = some_alt u.choice e₁ in
          let v : alt_o u.choice (seq_o u.before (some a)) ≡ some e = ap (alt_o u.choice) q₁ ∙ q₂ in
          let f : Tracks (tree u.choice u.before (some a) u.stack u.letters) s =
          subst (λ o. Tracks (tree u.choice u.before o u.stack u.letters) s) i k in
          let h : Tracks (tree (some e) none none u.stack u.letters) (chosen (merged s)) =
          subst (λ o. Tracks (tree o none none u.stack u.letters) (chosen (merged s))) v
          (tracks_whole u.choice u.before a u.stack u.letters s f) in
          let few = h.few in let sized = h.sized in (
            e,
            record {
              reads = held_whole ls u a e text (held_all ls (tree none none none [] 0) u [] text (held_none ls) g) st i v;
              bytes = len;
              letters = omega arith;
            },
          )

  -- each text has one tree
  value : Option Tree → Option Expr
  value none = none
  value (some t) = alt_o t.choice (seq_o t.before t.item)

  pub one_tree : (e f : Expr) (text : List ℕ) → Expression ls e text → Expression ls f text → e ≡ f
  unfolding tree_all value
  one_tree e f text x y =
      let (c, b, a, h, v) = goes ls sides e text x.reads [] 0 [] (let z = x.letters in omega arith) in
      let (c', b', a', h', v') = goes ls sides f text y.reads [] 0 [] (let z = y.letters in omega arith) in
      let q : ◌≡◌ {A = Option Expr} (some e) (some f) = sym v ∙ ap value (sym h ∙ h') ∙ v' in
      cc
