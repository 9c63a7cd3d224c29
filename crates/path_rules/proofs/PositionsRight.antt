-- The positions of an expression lead exactly the words of its language to their end. Assumes
-- nothing.
use Prim.Native.Nat.{ℕ, zero, suc, ◌+◌, ◌<◌, ◌≤◌}
use mathlib.Core.Path.{◌≡◌, refl, sym, ap, ◌∙◌, subst}
use mathlib.Core.Bool.{Bool, true, false, ◌&&◌, ◌||◌, false≢true}
use mathlib.Core.Logic.{◌⊎◌, inl, inr, ⊎_elim}
use mathlib.Core.List.{List, [], ◌∷◌, ◌++◌, append_assoc, append-nil}
use native.Mathlib.Omega.{arith}
use lib.Dec.{eqb}
use lib.ListN.{length, length-append}
use borrow.Author.Tests.{eqb-true, eq-eqb}
use Rattle.scope_graph.proofs.Lists.{or_cases, or_left, or_right, and_left, and_right, and_both, not_true}
use Rattle.path_rules.specs.Expression.{Expr, letter, seq, alt, star, size, joined, Each, In}
use Rattle.path_rules.proofs.Positions.{nullable, first, last, follow, Labelled, Leads, Placed}

-- positions stand in their range
abbrev Within : ℕ → Expr → ℕ → Type 0
Within n e x = (n ≤ x) × (x < n + size e)

within_left : (a : Expr) (n m x : ℕ) → Within n a x → (n ≤ x) × (x < n + (size a + m))
within_left a n m x w = let p = w.0 in let r = w.1 in (p, omega arith)

within_right : (a b : Expr) (n x : ℕ) → Within (n + size a) b x → (n ≤ x) × (x < n + (size a + size b))
within_right a b n x w = let p = w.0 in let r = w.1 in (omega arith, omega arith)

first_in : (e : Expr) (n x : ℕ) → first e n x ≡ true → Within n e x
unfolding first size
first_in (letter l) n x h = let z = eqb-true x n h in (omega arith, omega arith)
first_in (seq a b) n x h =
    ⊎_elim (λ z. within_left a n (size b) x (first_in a n x z))
    (λ z. within_right a b n x (first_in b (n + size a) x (and_right (nullable a) _ z))) (or_cases (first a n x) _ h)
first_in (alt a b) n x h =
    ⊎_elim (λ z. within_left a n (size b) x (first_in a n x z)) (λ z. within_right a b n x (first_in b (n + size a) x z)) (or_cases (first a n x) _ h)
first_in (star a) n x h = first_in a n x h

last_in : (e : Expr) (n x : ℕ) → last e n x ≡ true → Within n e x
unfolding last size
last_in (letter l) n x h = let z = eqb-true x n h in (omega arith, omega arith)
last_in (seq a b) n x h =
    ⊎_elim (λ z. within_right a b n x (last_in b (n + size a) x z))
    (λ z. within_left a n (size b) x (last_in a n x (and_right (nullable b) _ z))) (or_cases (last b (n + size a) x) _ h)
last_in (alt a b) n x h =
    ⊎_elim (λ z. within_left a n (size b) x (last_in a n x z)) (λ z. within_right a b n x (last_in b (n + size a) x z)) (or_cases (last a n x) _ h)
last_in (star a) n x h = last_in a n x h

follow_in : (e : Expr) (n p x : ℕ) → follow e n p x ≡ true → Within n e p
unfolding follow size
follow_in (letter l) n p x h = absurd (false≢true h)
follow_in (seq a b) n p x h =
    ⊎_elim
    (λ y. ⊎_elim (λ z. within_left a n (size b) p (follow_in a n p x z)) (λ z. within_left a n (size b) p (last_in a n p (and_left (last a n p) _ z)))
    (or_cases (follow a n p x) _ y))
    (λ z. within_right a b n p (follow_in b (n + size a) p x z)) (or_cases (follow a n p x || (last a n p && first b (n + size a) x)) _ h)
follow_in (alt a b) n p x h =
    ⊎_elim (λ z. within_left a n (size b) p (follow_in a n p x z)) (λ z. within_right a b n p (follow_in b (n + size a) p x z)) (or_cases (follow a n p x) _ h)
follow_in (star a) n p x h =
    ⊎_elim (λ z. follow_in a n p x z) (λ z. last_in a n p (and_left (last a n p) _ z)) (or_cases (follow a n p x) _ h)

-- outside its range an expression says nothing
follow_out : (e : Expr) (n p x : ℕ) → (Within n e p → ⊥) → follow e n p x ≡ false
follow_out e n p x h = not_true _ (λ z. h (follow_in e n p x z))

last_out : (e : Expr) (n p : ℕ) → (Within n e p → ⊥) → last e n p ≡ false
last_out e n p h = not_true _ (λ z. h (last_in e n p z))

-- the empty word
null_sound : (e : Expr) → nullable e ≡ true → In e []
unfolding nullable
null_sound (letter l) h = absurd (false≢true h)
null_sound (seq a b) h = ([], [], refl, null_sound a (and_left _ _ h), null_sound b (and_right (nullable a) _ h))
null_sound (alt a b) h = ⊎_elim (λ z. inl (null_sound a z)) (λ z. inr (null_sound b z)) (or_cases (nullable a) _ h)
null_sound (star a) h = ([], refl, tt)

nil_parts : (u v : List ℕ) → [] ≡ u ++ v → (u ≡ []) × (v ≡ [])
nil_parts [] v e = (refl, sym e)
nil_parts (x ∷ u) v e = absurd (let z : ◌≡◌ {A = ℕ} 0 (suc (length (u ++ v))) = ap length e in omega arith)

null_complete : (e : Expr) → In e [] → nullable e ≡ true
unfolding nullable
null_complete (letter l) h = absurd (let z : ◌≡◌ {A = ℕ} 0 1 = ap length h in omega arith)
null_complete (seq a b) (u, v, e, i, j) =
    let z = nil_parts u v e in and_both _ _ (null_complete a (rw z.0 at i)) (null_complete b (rw z.1 at j))
null_complete (alt a b) (inl i) = or_left _ _ (null_complete a i)
null_complete (alt a b) (inr i) = or_right (nullable a) _ (null_complete b i)
null_complete (star a) h = refl

module _ (label : ℕ → ℕ) (after : ℕ → ℕ → Bool) (end : ℕ) where
  abbrev A : (ℕ → Bool) → List ℕ → Type 0
  A k w = Leads label after end k w

  -- a larger set accepts more, two sets what one of them does
  pub leads_more : (j k : ℕ → Bool) → ((x : ℕ) → j x ≡ true → k x ≡ true) → (w : List ℕ) → A j w → A k w
  leads_more j k h [] a = h end a
  leads_more j k h (l ∷ w) (p, m, b, e, a) = (p, h p m, b, e, a)

  leads_or : (j k : ℕ → Bool) (w : List ℕ) → A (λ x. j x || k x) w → A j w ⊎ A k w
  leads_or j k [] a = or_cases (j end) _ a
  leads_or j k (l ∷ w) (p, m, b, e, a) = ⊎_elim (λ z. inl (p, z, b, e, a)) (λ z. inr (p, z, b, e, a)) (or_cases (j p) _ m)

  leads_and : (c : Bool) (k : ℕ → Bool) (w : List ℕ) → A (λ x. c && k x) w → (c ≡ true) × A k w
  leads_and c k [] a = (and_left c _ a, and_right c _ a)
  leads_and c k (l ∷ w) (p, m, b, e, a) = (and_left c _ m, (p, and_right c _ m, b, e, a))

  -- what comes at the front of e with k behind it
  abbrev begin : Expr → ℕ → (ℕ → Bool) → ℕ → Bool
  begin e n k x = first e n x || (nullable e && k x)

  bool_seq : (f l g n k : Bool) → (((f || (l && g)) || false) || ((false || (n && l)) && k)) ≡ (f || (l && (g || (n && k))))
  bool_seq true l g n k = refl
  bool_seq false true true n k = refl
  bool_seq false true false true k = refl
  bool_seq false true false false k = refl
  bool_seq false false g true k = refl
  bool_seq false false g false k = refl

  bool_star : (f l g k : Bool) → ((f || (l && g)) || (l && k)) ≡ (f || (l && (g || k)))
  bool_star true l g k = refl
  bool_star false true g k = refl
  bool_star false false g k = refl

  or_none : (b : Bool) → (b || false) ≡ b
  or_none true = refl
  or_none false = refl

  placed_left : (a b : Expr) (n : ℕ) (k : ℕ → Bool) → Placed label after end (seq a b) n k → Placed label after end a n (begin b (n + size a) k)
  unfolding size follow last
  placed_left a b n k h p lo hi x =
      h p lo (omega arith) x
      ∙ rw (follow_out b (n + size a) p x (λ w. let z = w.0 in omega arith), last_out b (n + size a) p (λ w. let z = w.0 in omega arith))
      (bool_seq (follow a n p x) (last a n p) (first b (n + size a) x) (nullable b) (k x))

  placed_right : (a b : Expr) (n : ℕ) (k : ℕ → Bool) → Placed label after end (seq a b) n k → Placed label after end b (n + size a) k
  unfolding size follow last
  placed_right a b n k h p lo hi x =
      h p (omega arith) (omega arith) x
      ∙ rw (follow_out a n p x (λ w. let z = w.1 in omega arith), last_out a n p (λ w. let z = w.1 in omega arith))
      (ap (λ (c : Bool). follow b (n + size a) p x || (c && k x)) (drop_none (last b (n + size a) p) (nullable b)))
    where
      drop_none : (c n : Bool) → (c || (n && false)) ≡ c
      drop_none true n = refl
      drop_none false true = refl
      drop_none false false = refl

  placed_first : (a b : Expr) (n : ℕ) (k : ℕ → Bool) → Placed label after end (alt a b) n k → Placed label after end a n k
  unfolding size follow last
  placed_first a b n k h p lo hi x =
      h p lo (omega arith) x
      ∙ rw (follow_out b (n + size a) p x (λ w. let z = w.0 in omega arith), last_out b (n + size a) p (λ w. let z = w.0 in omega arith), or_none (follow a n p x), or_none (last a n p))

  placed_second : (a b : Expr) (n : ℕ) (k : ℕ → Bool) → Placed label after end (alt a b) n k → Placed label after end b (n + size a) k
  unfolding size follow last
  placed_second a b n k h p lo hi x =
      h p (omega arith) (omega arith) x
      ∙ rw (follow_out a n p x (λ w. let z = w.1 in omega arith), last_out a n p (λ w. let z = w.1 in omega arith))

  placed_again : (a : Expr) (n : ℕ) (k : ℕ → Bool) → Placed label after end (star a) n k → Placed label after end a n (λ x. first a n x || k x)
  unfolding size follow last
  placed_again a n k h p lo hi x = h p lo hi x ∙ bool_star (follow a n p x) (last a n p) (first a n x) (k x)

  -- a word of the language that is not empty, and the rest, which k accepts
  abbrev Front : Expr → (ℕ → Bool) → List ℕ → Type 0
  Front e k w = (u : List ℕ) × (v : List ℕ) × (w ≡ u ++ v) × (1 ≤ length u) × In e u × A k v

  -- the steps of the proof, from what holds of the parts
  seq_left : (a b : Expr) (m : ℕ) (k : ℕ → Bool) (w : List ℕ) → ((v : List ℕ) → A (first b m) v → Front b k v) → Front a (begin b m k) w → Front (seq a b) k w
  seq_left a b m k w ih (u, v, e, o, i, r) =
      ⊎_elim
      (λ z. let (u', v', e', o', i', r') = ih v z in
      (u ++ u', v', e ∙ ap (λ y. u ++ y) e' ∙ sym (append_assoc u u' v'), omega (arith, length-append u u'), (u, u', refl, i, i'), r'))
      (λ z. let y = leads_and (nullable b) k v z in (u, v, e, o, (u, [], sym (append-nil u), i, null_sound b y.0), y.1))
      (leads_or (first b m) _ v r)

  turns : (a : Expr) (n : ℕ) (k : ℕ → Bool) → ((w : List ℕ) → A (first a n) w → Front a (λ x. first a n x || k x) w)
      → (left : ℕ) (w : List ℕ) → length w ≤ left → A (first a n) w → Front (star a) k w
  turns a n k ih zero w short s = let (u, v, e, o, i, r) = ih w s in absurd (let z = ap length e in omega (arith, length-append u v))
  turns a n k ih (suc left) w short s =
      let (u, v, e, o, i, r) = ih w s in
      ⊎_elim
      (λ z. let (u', v', e', o', (ws, g, i'), r') = turns a n k ih left v (let y = ap length e in omega (arith, length-append u v)) z in
      (u ++ u', v', e ∙ ap (λ y. u ++ y) e' ∙ sym (append_assoc u u' v'), omega (arith, length-append u u'), (u ∷ ws, ap (λ y. u ++ y) g, (i, i')), r'))
      (λ z. (u, v, e, o, (u ∷ [], sym (append-nil u), (i, tt)), z))
      (leads_or (first a n) k v r)

  front_sound : (e : Expr) (n : ℕ) (k : ℕ → Bool) → Placed label after end e n k → Labelled label e n → n + size e ≤ end
      → (w : List ℕ) → A (first e n) w → Front e k w
  unfolding first size follow last
  front_sound (letter l) n k h f b [] a = absurd (let z = eqb-true end n a in omega arith)
  front_sound (letter l) n k h f b (c ∷ w) (p, m, lo, e, a) =
      let z = eqb-true p n m in (
        c ∷ [],
        w,
        refl,
        omega arith,
        ap (λ y. y ∷ []) (sym e ∙ ap label z ∙ f),
        leads_more (after p) k (λ x t. and_right (eqb p n) (k x) (sym (h p (omega arith) (omega arith) x) ∙ t)) w a,
      )
  front_sound (seq a b) n k h f t w q =
      let right : (v : List ℕ) → A (first b (n + size a)) v → Front b k v = λ v z. front_sound b (n + size a) k (placed_right a b n k h) f.1 (omega arith) v z in
      ⊎_elim (λ s. seq_left a b (n + size a) k w right (front_sound a n _ (placed_left a b n k h) f.0 (omega arith) w s))
      (λ s.
      let y = leads_and (nullable a) _ w s in
      let (u, v, e, o, i, r) = right w y.1 in
      (u, v, e, o, ([], u, refl, null_sound a y.0, i), r))
      (leads_or (first a n) _ w q)
  front_sound (alt a b) n k h f t w q =
      ⊎_elim
      (λ s. let (u, v, e, o, i, r) = front_sound a n k (placed_first a b n k h) f.0 (omega arith) w s in (u, v, e, o, inl i, r))
      (λ s. let (u, v, e, o, i, r) = front_sound b (n + size a) k (placed_second a b n k h) f.1 (omega arith) w s in (u, v, e, o, inr i, r))
      (leads_or (first a n) _ w q)
  front_sound (star a) n k h f t w q =
      turns a n k (λ w s. front_sound a n (λ x. first a n x || k x) (placed_again a n k h) f t w s) (length w) w (omega arith) q

  -- the other way round
  seq_word : (a b : Expr) (n m : ℕ) (k : ℕ → Bool) (v : List ℕ) → ((u : List ℕ) → 1 ≤ length u → In b u → A (first b m) (u ++ v)) → A k v
      → (u : List ℕ) → In b u → A (begin b m k) (u ++ v)
  seq_word a b n m k v ih q [] j = leads_more k _ (λ x z. or_right (first b m x) _ (and_both _ _ (null_complete b j) z)) v q
  seq_word a b n m k v ih q (d ∷ u) j = leads_more (first b m) _ (λ x z. or_left _ _ z) ((d ∷ u) ++ v) (ih (d ∷ u) (omega arith) j)

  star_words : (a : Expr) (n : ℕ) (k : ℕ → Bool) (v : List ℕ)
      → ((u r : List ℕ) → 1 ≤ length u → In a u → A (λ x. first a n x || k x) r → A (first a n) (u ++ r)) → A k v
      → (ws : List (List ℕ)) → Each (In a) ws → 1 ≤ length (joined ws) → A (first a n) (joined ws ++ v)
  star_words a n k v ih q [] i o = absurd (omega arith)
  star_words a n k v ih q ([] ∷ ws) i o = star_words a n k v ih q ws i.1 o
  star_words a n k v ih q ((c ∷ w) ∷ ws) i o =
      subst (A (first a n)) (sym (append_assoc (c ∷ w) (joined ws) v)) (ih (c ∷ w) (joined ws ++ v) (omega arith) i.0 (rest (joined ws) (λ z. star_words a n k v ih q ws i.1 z)))
    where
      rest : (r : List ℕ) → (1 ≤ length r → A (first a n) (r ++ v)) → A (λ x. first a n x || k x) (r ++ v)
      rest [] g = leads_more k _ (λ x z. or_right (first a n x) _ z) v q
      rest (d ∷ r) g = leads_more (first a n) _ (λ x z. or_left _ _ z) ((d ∷ r) ++ v) (g (omega arith))

  front_complete : (e : Expr) (n : ℕ) (k : ℕ → Bool) → Placed label after end e n k → Labelled label e n → n + size e ≤ end
      → (u v : List ℕ) → 1 ≤ length u → In e u → A k v → A (first e n) (u ++ v)
  unfolding first size follow last
  front_complete (letter l) n k h f b u v o i a =
      rw i (n, eq-eqb n n refl, omega arith, f, leads_more k (after n) (λ x t. h n (omega arith) (omega arith) x ∙ and_both (eqb n n) (k x) (eq-eqb n n refl) t) v a)
  front_complete (seq a b) n k h f t u v o ([], u', e, i, j) q =
      rw e (leads_more (first b (n + size a)) _ (λ x z. or_right (first a n x) _ (and_both _ _ (null_complete a i) z)) (u' ++ v)
      (front_complete b (n + size a) k (placed_right a b n k h) f.1 (omega arith) u' v (let z = ap length e in omega arith) j q))
  front_complete (seq a b) n k h f t u v o (c ∷ u₁, u', e, i, j) q =
      rw e (subst (A (first (seq a b) n)) (sym (append_assoc (c ∷ u₁) u' v))
      (leads_more (first a n) _ (λ x z. or_left _ _ z) ((c ∷ u₁) ++ (u' ++ v))
      (front_complete a n _ (placed_left a b n k h) f.0 (omega arith) (c ∷ u₁) (u' ++ v) (omega arith) i
      (seq_word a b n (n + size a) k v (λ w o i. front_complete b (n + size a) k (placed_right a b n k h) f.1 (omega arith) w v o i q) q u' j))))
  front_complete (alt a b) n k h f t u v o (inl i) q =
      leads_more (first a n) _ (λ x z. or_left _ _ z) (u ++ v) (front_complete a n k (placed_first a b n k h) f.0 (omega arith) u v o i q)
  front_complete (alt a b) n k h f t u v o (inr i) q =
      leads_more (first b (n + size a)) _ (λ x z. or_right (first a n x) _ z) (u ++ v)
      (front_complete b (n + size a) k (placed_second a b n k h) f.1 (omega arith) u v o i q)
  front_complete (star a) n k h f t u v o (ws, e, i) q =
      rw e (star_words a n k v (λ w r o i s. front_complete a n (λ x. first a n x || k x) (placed_again a n k h) f t w r o i s) q ws i (rw e at o))

  -- the whole expression, with the end alone behind it
  abbrev pub start_of : Expr → ℕ → Bool
  start_of e x = first e 0 x || (nullable e && eqb x end)

  end_nil : (w : List ℕ) → A (λ x. eqb x end) w → w ≡ []
  end_nil [] a = refl
  end_nil (l ∷ w) (p, m, b, e, a) = absurd (let z = eqb-true p end m in omega arith)

  module _ (e : Expr) (h : Placed label after end e 0 (λ x. eqb x end)) (f : Labelled label e 0) (b : size e ≤ end) where
    fits : 0 + size e ≤ end
    fits = omega arith

    pub leads_sound : (w : List ℕ) → A (start_of e) w → In e w
    leads_sound w q = ⊎_elim front none (leads_or (first e 0) _ w q)
      where
        front : A (first e 0) w → In e w
        front s =
            let (u, v, g, o, i, r) = front_sound e 0 (λ x. eqb x end) h f fits w s in
            let k = end_nil v r in
            subst (In e) (sym (g ∙ ap (λ y. u ++ y) k ∙ append-nil u)) i

        none : A (λ x. nullable e && eqb x end) w → In e w
        none s = let y = leads_and (nullable e) (λ x. eqb x end) w s in subst (In e) (sym (end_nil w y.1)) (null_sound e y.0)

    pub leads_complete : (w : List ℕ) → In e w → A (start_of e) w
    leads_complete [] i = or_right (first e 0 end) _ (and_both _ _ (null_complete e i) (eq-eqb end end refl))
    leads_complete (l ∷ w) i =
        leads_more (first e 0) (start_of e) (λ x z. or_left _ _ z) (l ∷ w)
        (subst (A (first e 0)) (append-nil (l ∷ w)) (front_complete e 0 (λ x. eqb x end) h f fits (l ∷ w) [] (omega arith) i (eq-eqb end end refl)))
