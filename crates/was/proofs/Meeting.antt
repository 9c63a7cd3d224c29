-- What is met, scope by scope: the next one is the first that is new, so taking the listed scopes
-- in turn finds the same list. Assumes nothing.
use Prim.Native.Nat.{ℕ, zero, suc, ◌-◌, ◌<◌}
use mathlib.Core.Path.{◌≡◌, refl, sym, ap, ◌∙◌, subst}
use mathlib.Core.Bool.{Bool, true, false, not}
use mathlib.Core.Option.{Option, some, none}
use mathlib.Core.Logic.{⊎_elim}
use mathlib.Core.List.Memᴰ
use mathlib.Core.List.{List, [], ◌∷◌, ◌++◌, flat_map, append_assoc, append-nil}
use native.Mathlib.Omega.{arith}
use lib.ListN.{length, length-append}
use Rattle.scope_graph.specs.Language.{◌∈◌}
use Rattle.scope_graph.specs.Computed.{first_of}
use Rattle.scope_graph.proofs.Lists.{Two, here, there, not_is, is_not, flat_map_elim}
use Rattle.scope_graph.proofs.Pigeon.{in_true, in_test}
use Rattle.graph_rows.specs.Format.{most_scopes}
use Rattle.was.specs.Order.{is_listed, gathered, met_from, next_met, met, met_all}
use Rattle.was.specs.Cells.{Scopes}
use Rattle.was.proofs.Growing.{new_there, new_put, scopes_more, scopes_size}

-- the first that meets the test, behind elements that do not
pub first_behind : {A : Type 0} (f : A → Bool) (p q : List A) → ((a : A) → a ∈ p → f a ≡ false) → first_of f (p ++ q) ≡ first_of f q
unfolding first_of
first_behind f [] q h = refl
first_behind f (x ∷ p) q h = rw (h x here, first_of) (first_behind f p q (λ a m. h a (there m)))

pub first_here : {A : Type 0} (f : A → Bool) (x : A) (q : List A) → f x ≡ true → first_of f (x ∷ q) ≡ some x
unfolding first_of
first_here f x q h = rw (h, first_of)

first_none : {A : Type 0} (f : A → Bool) (l : List A) → ((a : A) → a ∈ l → f a ≡ false) → first_of f l ≡ none
unfolding first_of
first_none f l h = ap (first_of f) (sym (append-nil l)) ∙ first_behind f l [] h

-- where the first stands
pub record FirstAt {A : Type 0} (f : A → Bool) (l : List A) (x : A) : Type 0 where
  pub above : List A
  pub below : List A
  pub is : l ≡ above ++ (x ∷ below)
  pub passed : (a : A) → a ∈ above → f a ≡ false
  pub meets : f x ≡ true

pub first_at : {A : Type 0} (f : A → Bool) (l : List A) (x : A) → first_of f l ≡ some x → FirstAt f l x
unfolding first_of
first_at f [] x e = absurd (let z : ◌≡◌ {A = ℕ} 0 1 = cc in omega arith)
first_at {A} f (y ∷ l) x e = by (f y) refl e (first_at f l x)
  where
    by : (t : Bool) → f y ≡ t → (elim t as (λ _. Option A) [ true ↦ some y | false ↦ first_of f l ]) ≡ some x
        → (first_of f l ≡ some x → FirstAt f l x) → FirstAt f (y ∷ l) x
    by true t k ih = let same : y ≡ x = cc in record {
      above = [];
      below = l;
      is = ap (λ (z : A). z ∷ l) same;
      passed = λ a m. absurd (Memᴰ.not-nil m);
      meets = ap f (sym same) ∙ t;
    }
    by false t k ih = let r = ih k in record {
      above = y ∷ r.above;
      below = r.below;
      is = ap (λ (z : List A). y ∷ z) r.is;
      passed = λ a m. ⊎_elim (λ u. ap f u ∙ t) (λ u. r.passed a u) (Memᴰ.cases_cons m);
      meets = r.meets;
    }

pub flat_append : {A B : Type 0} (f : A → List B) (l k : List A) → flat_map f (l ++ k) ≡ flat_map f l ++ flat_map f k
unfolding flat_map
flat_append f [] k = refl
flat_append {A} {B} f (x ∷ l) k = ap (λ (z : List B). f x ++ z) (flat_append f l k) ∙ sym (append_assoc (f x) (flat_map f l) (flat_map f k))

module _ (after : ℕ → List ℕ) where
  pub met_append : (l k : List ℕ) → met_from after (l ++ k) ≡ met_from after l ++ met_from after k
  unfolding met_from
  met_append l k = flat_append after l k

  pub met_one : (s : ℕ) → met_from after (s ∷ []) ≡ after s
  unfolding met_from flat_map
  met_one s = append-nil (after s)

  -- what is listed already is not next
  pub listed_passed : (l p : List ℕ) → ((t : ℕ) → t ∈ p → t ∈ l) → (t : ℕ) → t ∈ p → not (is_listed t l) ≡ false
  listed_passed l p h t m = ap not (in_test t l (h t m))

  next_some : (l p q : List ℕ) (t : ℕ) → met_from after l ≡ p ++ (t ∷ q) → ((x : ℕ) → x ∈ p → x ∈ l) → is_listed t l ≡ false → next_met after l ≡ some t
  unfolding next_met
  next_some l p q t e h n =
      ap (first_of (λ x. not (is_listed x l))) e ∙ first_behind (λ x. not (is_listed x l)) p (t ∷ q) (listed_passed l p h)
      ∙ first_here (λ x. not (is_listed x l)) t q (is_not (is_listed t l) n)

  pub next_none : (l : List ℕ) → ((x : ℕ) → x ∈ met_from after l → x ∈ l) → next_met after l ≡ none
  unfolding next_met
  next_none l h = first_none (λ x. not (is_listed x l)) (met_from after l) (listed_passed l (met_from after l) h)

  met_ends : (left : ℕ) (l : List ℕ) → next_met after l ≡ none → met after left l ≡ l
  unfolding met
  met_ends zero l e = refl
  met_ends (suc left) l e = rw (e, met)

  met_goes_on : (left : ℕ) (l : List ℕ) (t : ℕ) → next_met after l ≡ some t → met after (suc left) l ≡ met after left (l ++ (t ∷ []))
  unfolding met
  met_goes_on left l t e = rw (e, met)

  -- all rounds that a list may still have
  pub rounds : List ℕ → List ℕ
  rounds l = met after (suc most_scopes - length l) l

  pub rounds_start : (start : ℕ) → rounds (start ∷ []) ≡ met_all after start
  unfolding rounds met_all
  rounds_start start = refl

  pub rounds_end : (l : List ℕ) → ((x : ℕ) → x ∈ met_from after l → x ∈ l) → rounds l ≡ l
  unfolding rounds
  rounds_end l h = met_ends (suc most_scopes - length l) l (next_none l h)

  rounds_next : (l : List ℕ) (t : ℕ) → Scopes most_scopes (l ++ (t ∷ [])) → next_met after l ≡ some t → rounds l ≡ rounds (l ++ (t ∷ []))
  unfolding rounds
  rounds_next l t s e =
      let most = scopes_size most_scopes (l ++ (t ∷ [])) s in
      let a = length-append l (t ∷ []) in
      let now : suc most_scopes - length l ≡ suc (suc most_scopes - length (l ++ (t ∷ []))) = omega arith in
      ap (λ (k : ℕ). met after k l) now ∙ met_goes_on (suc most_scopes - length (l ++ (t ∷ []))) l t e

  -- Of what is met, the first part p is listed. Then the new ones of the next part are what comes
  -- next, in their sequence.
  pub rounds_gather : (ts p q l : List ℕ) → met_from after l ≡ p ++ (ts ++ q) → ((x : ℕ) → x ∈ p → x ∈ l) → Scopes most_scopes l
      → ((t : ℕ) → t ∈ ts → t < most_scopes) → rounds l ≡ rounds (gathered l ts)
  unfolding gathered
  rounds_gather [] p q l e h s b = refl
  rounds_gather (t ∷ ts) p q l e h s b =
      let longer : p ++ (t ∷ (ts ++ q)) ≡ (p ++ (t ∷ [])) ++ (ts ++ q) = sym (append_assoc p (t ∷ []) (ts ++ q)) in
      ⊎_elim
      (λ (already : is_listed t l ≡ true).
      rounds_gather ts (p ++ (t ∷ [])) q l (e ∙ longer)
      (λ x m. ⊎_elim (h x) (λ k. subst (λ (z : ℕ). z ∈ l) (sym (Memᴰ.eq_of_singleton k)) (in_true t l already)) (Memᴰ.append_cases p m))
      s (λ x m. b x (there m))
      ∙ ap (λ (z : List ℕ). rounds (gathered z ts)) (sym (new_there l t already)))
      (λ (new : is_listed t l ≡ false).
      let more = scopes_more most_scopes l t s (b t here) new in
      rounds_next l t more (next_some l p (ts ++ q) t e h new)
      ∙ rounds_gather ts (p ++ (t ∷ [])) (q ++ met_from after (t ∷ [])) (l ++ (t ∷ []))
      (met_append l (t ∷ []) ∙ ap (λ (z : List ℕ). z ++ met_from after (t ∷ [])) (e ∙ longer)
      ∙ append_assoc (p ++ (t ∷ [])) (ts ++ q) (met_from after (t ∷ []))
      ∙ ap (λ (z : List ℕ). (p ++ (t ∷ [])) ++ z) (append_assoc ts q (met_from after (t ∷ []))))
      (λ x m. ⊎_elim (λ k. Memᴰ.append_left (t ∷ []) (h x k)) (λ k. Memᴰ.append_right l k) (Memᴰ.append_cases p m))
      more (λ x m. b x (there m))
      ∙ ap (λ (z : List ℕ). rounds (gathered z ts)) (sym (new_put l t new)))
      (Two (is_listed t l))

-- what is met are different scopes
module _ (after : ℕ → List ℕ) (n : ℕ) (below : (s t : ℕ) → t ∈ after s → t < n) where
  from_below : (l : List ℕ) (t : ℕ) → t ∈ met_from after l → t < n
  unfolding met_from
  from_below l t m = let r = flat_map_elim after l m in below r.0 t r.2

  pub scopes_step : (l : List ℕ) (t : ℕ) → Scopes n l → next_met after l ≡ some t → Scopes n (l ++ (t ∷ []))
  unfolding next_met
  scopes_step l t s e =
      let r = first_at (λ x. not (is_listed x l)) (met_from after l) t e in
      scopes_more n l t s (from_below l t (subst (λ (z : List ℕ). t ∈ z) (sym r.is) (Memᴰ.append_right r.above here))) (not_is (is_listed t l) r.meets)

  scopes_on : (left : ℕ) (l : List ℕ) → Scopes n l → Scopes n (met after left l)
  unfolding met
  scopes_on zero l s = s
  scopes_on (suc left) l s = by (next_met after l) refl (λ t e. scopes_on left (l ++ (t ∷ [])) (scopes_step l t s e))
    where
      by : (o : Option ℕ) → next_met after l ≡ o → ((t : ℕ) → next_met after l ≡ some t → Scopes n (met after left (l ++ (t ∷ []))))
          → Scopes n (elim o as (λ _. List ℕ) [ none ↦ l | some t ↦ met after left (l ++ (t ∷ [])) ])
      by none e k = s
      by (some t) e k = k t e

  pub met_scopes : (start : ℕ) → start < n → Scopes n (met_all after start)
  unfolding met_all
  met_scopes start h = scopes_on most_scopes (start ∷ []) (record {
    once = ((λ m. Memᴰ.not-nil m), tt);
    below = λ x m. let e = Memᴰ.eq_of_singleton m in omega arith;
  })
