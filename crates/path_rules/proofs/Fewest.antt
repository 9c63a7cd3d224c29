-- No table that decides a language has fewer states than there are words that the language tells
-- apart and that go on to words of it. Assumes nothing.
use Prim.Native.Nat.{ℕ, zero, suc, ◌<◌, ◌≤◌}
use mathlib.Core.Path.{◌≡◌, refl, sym, ap, ◌∙◌}
use mathlib.Core.Bool.{Bool}
use mathlib.Core.Logic.{◌⊎◌, ⊎_elim}
use mathlib.Core.Option.{Option, some, none}
use mathlib.Core.List.Memᴰ
use mathlib.Core.List.{List, [], ◌∷◌, ◌++◌}
use native.Mathlib.Omega.{arith}
use lib.ListN.{length}
use Rattle.scope_graph.specs.Language.{◌∈◌}
use Rattle.scope_graph.specs.Path.{Distinct}
use Rattle.scope_graph.proofs.Pigeon.{distinct_bounded}
use Rattle.path_rules.specs.Table.{leads_to, Over, Decides}

-- words over labels, one after the other
pub over_left : (n : ℕ) (x z : List ℕ) → Over n (x ++ z) → Over n x
over_left n [] z o = tt
over_left n (l ∷ x) z o = (o.0, over_left n x z o.1)

pub over_right : (n : ℕ) (x z : List ℕ) → Over n (x ++ z) → Over n z
over_right n [] z o = o
over_right n (l ∷ x) z o = over_right n x z o.1

pub over_both : (n : ℕ) (x z : List ℕ) → Over n x → Over n z → Over n (x ++ z)
over_both n [] z o p = p
over_both n (l ∷ x) z o p = (o.0, over_both n x z o.1 p)

-- where a word leads, and then another
leads_split : (next : ℕ → ℕ → Option ℕ) (q f : ℕ) (x z : List ℕ) → leads_to next q (x ++ z) ≡ some f
    → (r : ℕ) × (leads_to next q x ≡ some r) × (leads_to next r z ≡ some f)
unfolding leads_to
leads_split next q f [] z h = (q, refl, h)
leads_split next q f (l ∷ x) z h = by (next q l) h (λ r. leads_split next r f x z)
  where
    by : (o : Option ℕ) → (elim o as (λ _. Option ℕ) [ none ↦ none | some r ↦ leads_to next r (x ++ z) ]) ≡ some f
        → ((r : ℕ) → leads_to next r (x ++ z) ≡ some f → (s : ℕ) × (leads_to next r x ≡ some s) × (leads_to next s z ≡ some f))
        → (r : ℕ) × ((elim o as (λ _. Option ℕ) [ none ↦ none | some r ↦ leads_to next r x ]) ≡ some r) × (leads_to next r z ≡ some f)
    by none k ih = absurd (let c : ◌≡◌ {A = ℕ} 0 1 = cc in omega arith)
    by (some r) k ih = ih r k

leads_join : (next : ℕ → ℕ → Option ℕ) (q r : ℕ) (x z : List ℕ) → leads_to next q x ≡ some r → leads_to next q (x ++ z) ≡ leads_to next r z
unfolding leads_to
leads_join next q r [] z h = let e : q ≡ r = cc in rw e
leads_join next q r (l ∷ x) z h = by (next q l) h (λ s. leads_join next s r x z)
  where
    by : (o : Option ℕ) → (elim o as (λ _. Option ℕ) [ none ↦ none | some s ↦ leads_to next s x ]) ≡ some r
        → ((s : ℕ) → leads_to next s x ≡ some r → leads_to next s (x ++ z) ≡ leads_to next r z)
        → (elim o as (λ _. Option ℕ) [ none ↦ none | some s ↦ leads_to next s (x ++ z) ]) ≡ leads_to next r z
    by none k ih = absurd (let c : ◌≡◌ {A = ℕ} 0 1 = cc in omega arith)
    by (some s) k ih = ih s k

-- the language tells two words apart
abbrev pub Apart : (List ℕ → Type 0) → List ℕ → List ℕ → Type 0
Apart P x y = (z : List ℕ) × ((P (x ++ z) × ¬ P (y ++ z)) ⊎ (P (y ++ z) × ¬ P (x ++ z)))

module _ (n : ℕ) (P : List ℕ → Type 0) (over : (w : List ℕ) → P w → Over n w)
    (m : ℕ) (next : ℕ → ℕ → Option ℕ) (accepts : ℕ → Bool) (d : Decides n P m next accepts) where
  -- words that lead to one state go on alike
  alike : (x y z : List ℕ) (r : ℕ) → Over n y → leads_to next 0 x ≡ some r → leads_to next 0 y ≡ some r → P (x ++ z) → P (y ++ z)
  alike x y z r o a b p =
      let k = over (x ++ z) p in
      let (f, g, t) = (d.words (x ++ z) k).0 p in
      (d.words (y ++ z) (over_both n y z o (over_right n x z k))).1 (f, leads_join next 0 r y z b ∙ sym (leads_join next 0 r x z a) ∙ g, t)

  inside_from : (q : ℕ) (x : List ℕ) (r : ℕ) → q < m → Over n x → leads_to next q x ≡ some r → r < m
  unfolding leads_to
  inside_from q [] r b o h = let e : q ≡ r = cc in rw (← e) b
  inside_from q (l ∷ x) r b o h = by (next q l) refl h (λ s c. inside_from s x r c o.1)
    where
      by : (p : Option ℕ) → next q l ≡ p → (elim p as (λ _. Option ℕ) [ none ↦ none | some s ↦ leads_to next s x ]) ≡ some r
          → ((s : ℕ) → s < m → leads_to next s x ≡ some r → r < m) → r < m
      by none e k ih = absurd (let c : ◌≡◌ {A = ℕ} 0 1 = cc in omega arith)
      by (some s) e k ih = ih s (d.inside q l s b o.0 e) k

  -- a word that goes on to a word of the language leads to a state of the table
  state_of_lem : (x z : List ℕ) → P (x ++ z) → (r : ℕ) × (leads_to next 0 x ≡ some r) × (r < m)
  state_of_lem x z p =
      let k = over (x ++ z) p in
      let (f, g, t) = (d.words (x ++ z) k).0 p in
      let (r, a, b) = leads_split next 0 f x z g in
      (r, a, inside_from 0 x r d.start (over_left n x z k) a)

  module _ (count : ℕ) (word : (i : ℕ) → i < count → List ℕ) (lives : (i : ℕ) (b : i < count) → (z : List ℕ) × P (word i b ++ z))
      (apart : (i j : ℕ) (b : i < count) (c : j < count) → i < j → Apart P (word i b) (word j c)) where
    word_over : (i : ℕ) (b : i < count) → Over n (word i b)
    word_over i b = let (z, p) = lives i b in over_left n (word i b) z (over (word i b ++ z) p)

    different : (i j r : ℕ) (b : i < count) (c : j < count) → i < j → leads_to next 0 (word i b) ≡ some r → leads_to next 0 (word j c) ≡ some r → ⊥
    different i j r b c l g h =
        let (z, e) = apart i j b c l in
        ⊎_elim (λ x. x.1 (alike (word i b) (word j c) z r (word_over j c) g h x.0))
        (λ x. x.1 (alike (word j c) (word i b) z r (word_over i b) h g x.0)) e

    -- the states that the first words lead to
    record States (k : ℕ) : Type 0 where
      list : List ℕ
      size : length list ≡ k
      once : Distinct list
      below : (r : ℕ) → r ∈ list → r < m
      origin : (r : ℕ) → r ∈ list → (i : ℕ) × (b : i < count) × (i < k) × (leads_to next 0 (word i b) ≡ some r)

    states : (k : ℕ) → k ≤ count → States k
    states zero b = record {
      list = [];
      size = refl;
      once = tt;
      below = λ r x. absurd (Memᴰ.not-nil x);
      origin = λ r x. absurd (Memᴰ.not-nil x);
    }
    states (suc k) b =
        let s = states k (omega arith) in
        let (z, p) = lives k b in
        let (q, g, c) = state_of_lem (word k b) z p in
        let e = s.size in
        record {
          list = q ∷ s.list;
          size = ap suc e;
          once = ((λ x. let (i, d, l, h) = s.origin q x in different i k q d b l h g), s.once);
          below = λ r x. ⊎_elim (λ (y : r ≡ q). rw y c) (s.below r) (Memᴰ.cases_cons x);
          origin = λ r x.
              ⊎_elim (λ (y : r ≡ q). (k, b, omega arith, rw y g)) (λ y. let (i, d, l, h) = s.origin r y in (i, d, omega arith, h)) (Memᴰ.cases_cons x);
        }

    pub as_many : count ≤ m
    as_many = let s = states count (omega arith) in let e = s.size in let b = distinct_bounded m s.list s.once s.below in omega arith
