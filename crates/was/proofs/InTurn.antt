-- Scopes that are met one after the other: what the definition lists, each from those before it,
-- and only one list is so. Assumes nothing.
use Prim.Native.Nat.{ℕ, zero, suc, ◌+◌, ◌≤◌, ◌<◌}
use mathlib.Core.Path.{◌≡◌, refl, sym, ap, ◌∙◌, subst}
use mathlib.Core.Bool.{not}
use mathlib.Core.Option.{Option, some, none}
use mathlib.Core.List.Memᴰ
use mathlib.Core.List.{List, [], ◌∷◌, ◌++◌, append_assoc, append-nil}
use native.Mathlib.Omega.{arith}
use lib.ListN.{length, length-append}
use Rattle.scope_graph.specs.Language.{◌∈◌}
use Rattle.scope_graph.proofs.Lists.{here}
use Rattle.graph_rows.specs.Format.{most_scopes}
use Rattle.was.specs.Order.{is_listed, met_from, next_met, met}
use Rattle.was.specs.Cells.{Scopes}
use Rattle.was.proofs.Growing.{scopes_size}
use Rattle.was.proofs.Meeting.{first_at, scopes_step}

-- lists with the same first element and the same others
pub head_same : (x y : ℕ) (xs ys : List ℕ) → x ∷ xs ≡ y ∷ ys → x ≡ y
head_same x y xs ys e = cc

pub tail_same : (x y : ℕ) (xs ys : List ℕ) → x ∷ xs ≡ y ∷ ys → xs ≡ ys
tail_same x y xs ys e = cc

module _ (after : ℕ → List ℕ) where
  -- after the listed scopes these are met next, one after the other, and then no more
  unfoldable pub InTurn : List ℕ → List ℕ → Type 0
  InTurn listed [] = next_met after listed ≡ none
  InTurn listed (t ∷ ts) = (next_met after listed ≡ some t) × InTurn (listed ++ (t ∷ [])) ts

  next_same : (l : List ℕ) (x y : ℕ) → next_met after l ≡ some x → next_met after l ≡ some y → x ≡ y
  next_same l x y e f = cc

  no_next : (l : List ℕ) (x : ℕ) → next_met after l ≡ none → next_met after l ≡ some x → ⊥
  no_next l x e f = let z : ◌≡◌ {A = ℕ} 0 1 = cc in omega arith

  -- there is only one such list
  pub in_turn_one : (xs ys l : List ℕ) → InTurn l xs → InTurn l ys → xs ≡ ys
  unfolding InTurn
  in_turn_one [] [] l p r = refl
  in_turn_one [] (y ∷ ys) l p r = absurd (no_next l y p r.0)
  in_turn_one (x ∷ xs) [] l p r = absurd (no_next l x r p.0)
  in_turn_one (x ∷ xs) (y ∷ ys) l p r =
      let e = next_same l x y p.0 r.0 in
      let t = in_turn_one xs ys (l ++ (x ∷ [])) p.1 (subst (λ (z : ℕ). InTurn (l ++ (z ∷ [])) ys) (sym e) r.1) in
      λ i. e i ∷ t i

  -- the next one is met from the listed ones
  next_in_lem : (l : List ℕ) (t : ℕ) → next_met after l ≡ some t → t ∈ met_from after l
  unfolding next_met
  next_in_lem l t e =
      let f = first_at (λ x. not (is_listed x l)) (met_from after l) t e in
      subst (λ (z : List ℕ). t ∈ z) (sym f.is) (Memᴰ.append_right f.above here)

  pub in_turn_met : (ts before rest l : List ℕ) (t : ℕ) → InTurn l ts → ts ≡ before ++ (t ∷ rest) → t ∈ met_from after (l ++ before)
  unfolding InTurn
  in_turn_met [] [] rest l t p e = absurd (let z : ◌≡◌ {A = ℕ} 0 1 = cc in omega arith)
  in_turn_met [] (y ∷ before) rest l t p e = absurd (let z : ◌≡◌ {A = ℕ} 0 1 = cc in omega arith)
  in_turn_met (x ∷ ts) [] rest l t p e =
      subst (λ (z : List ℕ). t ∈ met_from after z) (sym (append-nil l)) (next_in_lem l t (p.0 ∙ ap some (head_same x t ts rest e)))
  in_turn_met (x ∷ ts) (y ∷ before) rest l t p e =
      subst (λ (z : List ℕ). t ∈ met_from after z)
      (append_assoc l (x ∷ []) before ∙ ap (λ (z : ℕ). l ++ (z ∷ before)) (head_same x y ts (before ++ (t ∷ rest)) e))
      (in_turn_met ts before rest (l ++ (x ∷ [])) t p.1 (tail_same x y ts (before ++ (t ∷ rest)) e))

  -- with rounds enough the definition lists such scopes
  pub record Listed (l all : List ℕ) : Type 0 where
    pub more : List ℕ
    pub is : all ≡ l ++ more
    pub in_turn : InTurn l more

  module _ (below : (s t : ℕ) → t ∈ after s → t < most_scopes) where
    pub met_listed : (left : ℕ) (l : List ℕ) → Scopes most_scopes l → suc most_scopes ≤ left + length l → Listed l (met after left l)
    unfolding met InTurn
    met_listed zero l s h = let m = scopes_size most_scopes l s in absurd (omega arith)
    met_listed (suc left) l s h =
        by (next_met after l) refl
        (λ t e. met_listed left (l ++ (t ∷ [])) (scopes_step after most_scopes below l t s e) (let a = length-append l (t ∷ []) in omega arith))
      where
        by : (o : Option ℕ) → next_met after l ≡ o → ((t : ℕ) → next_met after l ≡ some t → Listed (l ++ (t ∷ [])) (met after left (l ++ (t ∷ []))))
            → Listed l (elim o as (λ _. List ℕ) [ none ↦ l | some t ↦ met after left (l ++ (t ∷ [])) ])
        by none e k = record { more = []; is = sym (append-nil l); in_turn = e }
        by (some t) e k = let r = k t e in record {
          more = t ∷ r.more;
          is = r.is ∙ append_assoc l (t ∷ []) r.more;
          in_turn = (e, r.in_turn);
        }
