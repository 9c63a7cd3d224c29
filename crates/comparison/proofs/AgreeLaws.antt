-- How far steps agree: one by one, as the code goes through them; and that this is what the rules
-- say of the rows' paths. Assumes nothing.
use mathlib.Core.Path.{◌≡◌, refl, sym, ap, ◌∙◌}
use mathlib.Core.Bool.{true, false}
use mathlib.Core.Logic.{◌⊎◌, inl, inr}
use mathlib.Core.List.{List, [], ◌∷◌}
use Prim.Native.Nat.{ℕ, suc, ◌+◌, ◌<◌, min}
use native.Mathlib.Numerals.{add-one}
use native.Mathlib.Omega.{arith}
use borrow.Author.Tests.{eqb-true, eq-eqb}
use lib.Dec.{eqb}
use lib.ListN.{length, take}
use Rattle.std.specs.declared.option.Option.{Option}
use Rattle.std.specs.List.{zip, AllWithin, HoldsAt}
use Rattle.std.specs.Option.{MatchOption, unwrap_or}
use Rattle.std.proofs.Math.Nat.{zero-min}
use Rattle.std.proofs.lemmas.Iterator.{index_from_first}
use Rattle.graph_rows.specs.Decode.{letters_of, rules_of, graph_of}
use Rattle.scope_graph.specs.Language.{Language}
use Rattle.scope_graph.specs.Rows.{Rules, language}
use Rattle.scope_graph.specs.Path.{HopOf}
use Rattle.scope_graph.specs.Turns.{Turned}
use Rattle.scope_graph.specs.Computed.{same_hop, hops_at}
use Rattle.scope_graph.specs.Agree.{agree_hops}
use Rattle.scope_graph.specs.Agree.{same_step as same_hop_step}
use Rattle.scope_graph.proofs.Lists.{Two, not_true, true_false, and_left, and_right, and_both}
use Rattle.scope_graph.proofs.Agree.{agree_on, agree_off, agree_ended, agree_over, agree_from, agree_apart}
use Rattle.path_row.specs.declared.form.Step.{Step}
use Rattle.path_row.specs.Form.{PathRow}
use Rattle.path_row.specs.Numbering.{label_number, hop_of, hops_of, path_of, path_in}
use Rattle.path_row.proofs.NumberingLaws.{number_tells}
use Rattle.comparison.specs.Compare.{agreement}
use Rattle.comparison.specs.Promises.{same_shown, agree_steps}

shown_same : (t u : Step) → t.label ≡ u.label → t.scope ≡ u.scope → same_shown t u ≡ true
shown_same t u e f = and_both _ _ (eq-eqb t.label u.label e) (eq-eqb t.scope u.scope f)

shown_is : (t u : Step) → same_shown t u ≡ true → t ≡ u
shown_is t u h =
    let e = eqb-true t.label u.label (and_left _ _ h) in
    let f = eqb-true t.scope u.scope (and_right (eqb t.label u.label) _ h) in
    λ i. record { label = e i; scope = f i }

-- one step more, or a difference
module _ (t u : Step) (ts us : List Step) where
  pub steps_same : same_shown t u ≡ true → agree_steps (t ∷ ts) (u ∷ us) ≡ suc (agree_steps ts us)
  unfolding agree_steps
  steps_same e = rw (e, agree_steps)

  pub steps_apart : same_shown t u ≡ false → agree_steps (t ∷ ts) (u ∷ us) ≡ 0
  unfolding agree_steps
  steps_apart e = rw (e, agree_steps)

pub steps_ended : (us : List Step) → agree_steps [] us ≡ 0
unfolding agree_steps
steps_ended us = refl

pub steps_over : (ts : List Step) → agree_steps ts [] ≡ 0
unfolding agree_steps
steps_over [] = refl
steps_over (t ∷ ts) = refl

-- how many pairs at the front are of two equal steps
unfoldable pub same_front : List (Step × Step) → ℕ
same_front [] = 0
same_front (p ∷ ps) = elim (same_shown p.0 p.1) [ true ↦ same_front ps + 1 | false ↦ 0 ]

front_same : (p : Step × Step) (ps : List (Step × Step)) → p.0 ≡ p.1 → same_front (p ∷ ps) ≡ same_front ps + 1
unfolding same_front
front_same p ps e = rw (shown_same p.0 p.1 (ap (λ (s : Step). s.label) e) (ap (λ (s : Step). s.scope) e), same_front)

front_apart : (p : Step × Step) (ps : List (Step × Step)) → (p.0 ≡ p.1 → ⊥) → same_front (p ∷ ps) ≡ 0
unfolding same_front
front_apart p ps d = rw (not_true (same_shown p.0 p.1) (λ z. d (shown_is p.0 p.1 z)), same_front)

front_steps : (ts us : List Step) → same_front (zip ts us) ≡ agree_steps ts us
unfolding same_front
front_steps [] us = sym (steps_ended us)
front_steps (t ∷ ts) [] = sym (steps_over (t ∷ ts))
front_steps (t ∷ ts) (u ∷ us) = at (Two (same_shown t u)) (front_steps ts us)
  where
    at : (same_shown t u ≡ true) ⊎ (same_shown t u ≡ false) → same_front (zip ts us) ≡ agree_steps ts us → same_front ((t, u) ∷ zip ts us) ≡ agree_steps (t ∷ ts) (u ∷ us)
    at (inl e) ih = front_same (t, u) (zip ts us) (shown_is t u e) ∙ ap (λ (n : ℕ). n + 1) ih ∙ add-one (agree_steps ts us) ∙ sym (steps_same t u ts us e)
    at (inr e) ih = front_apart (t, u) (zip ts us) (λ z. true_false (shown_same t u (ap (λ (s : Step). s.label) z) (ap (λ (s : Step). s.scope) z)) e) ∙ sym (steps_apart t u ts us e)

zip_length : (ts us : List Step) → length (zip ts us) ≡ min (length ts) (length us)
zip_length [] us = sym (zero-min (length us))
zip_length (t ∷ ts) [] = omega arith
zip_length (t ∷ ts) (u ∷ us) = omega (arith, zip_length ts us)

-- the place of the first pair of two that differ, or the length of the shorter list
pub first_difference : (ts us : List Step) (r : Option ℕ)
    → MatchOption r (AllWithin (λ (p : Step × Step). p.0 ≡ p.1) (zip ts us) 0 (length (zip ts us))) (λ i. (i < length (zip ts us)) × HoldsAt (λ (p : Step × Step). p.0 ≡ p.1 → ⊥) (zip ts us) i × AllWithin (λ (p : Step × Step). p.0 ≡ p.1) (zip ts us) 0 i)
    → unwrap_or r (min (length ts) (length us)) ≡ agree_steps ts us
unfolding same_front
first_difference ts us r h =
    ap (unwrap_or r) (sym (zip_length ts us))
    ∙ sym (index_from_first same_front (λ (p : Step × Step). p.0 ≡ p.1 → ⊥) (λ (p : Step × Step). p.0 ≡ p.1) refl front_apart front_same (zip ts us) r h)
    ∙ front_steps ts us

-- over a file's rules: steps that leave one scope
module _ (r : Rules) (leaving : ℕ → List (HopOf Turned)) (letters : List ℕ) where
  abbrev hops : ℕ → List Step → List (HopOf Turned)
  hops s ts = hops_of leaving letters s ts

  abbrev hop : ℕ → Step → HopOf Turned
  hop s t = hop_of leaving letters s t

  hop_same : (s : ℕ) (t u : Step) → same_shown t u ≡ true → same_hop_step (language r) (hop s t) (hop s u) ≡ true
  unfolding same_hop_step same_hop hop_of
  hop_same s t u h =
      let e : t ≡ u = shown_is t u h in
      and_both _ _ (eq-eqb _ _ (ap (λ (z : Step). label_number letters z.label) e)) (eq-eqb _ _ (ap (λ (z : Step). z.scope) e))

  hop_apart : (s : ℕ) (t u : Step) → same_shown t u ≡ false → same_hop_step (language r) (hop s t) (hop s u) ≡ false
  unfolding same_hop_step same_hop hop_of
  hop_apart s t u h =
      not_true _ (λ k. true_false
      (shown_same t u (number_tells letters t.label u.label (eqb-true _ _ (and_left _ _ k)))
      (eqb-true _ _ (and_right (eqb (label_number letters t.label) (label_number letters u.label)) _ k)))
      h)

  pub hops_agree : (s : ℕ) (ts us : List Step) → agree_hops (language r) (hops s ts) (hops s us) ≡ agree_steps ts us
  unfolding hops_of
  hops_agree s [] us = agree_ended (language r) (hops s us) ∙ sym (steps_ended us)
  hops_agree s (t ∷ ts) [] = agree_over (language r) (hops s (t ∷ ts)) ∙ sym (steps_over (t ∷ ts))
  hops_agree s (t ∷ ts) (u ∷ us) = at (Two (same_shown t u)) (hops_agree t.scope ts us)
    where
      at : (same_shown t u ≡ true) ⊎ (same_shown t u ≡ false)
          → agree_hops (language r) (hops t.scope ts) (hops t.scope us) ≡ agree_steps ts us
          → agree_hops (language r) (hop s t ∷ hops t.scope ts) (hop s u ∷ hops u.scope us) ≡ agree_steps (t ∷ ts) (u ∷ us)
      at (inl e) ih =
          agree_on (language r) (hop s t) (hop s u) (hops t.scope ts) (hops u.scope us) (hop_same s t u e)
          ∙ ap suc (ap (λ (z : ℕ). agree_hops (language r) (hops t.scope ts) (hops z us)) (ap (λ (z : Step). z.scope) (sym (shown_is t u e))) ∙ ih)
          ∙ sym (steps_same t u ts us e)
      at (inr e) ih =
          agree_off (language r) (hop s t) (hop s u) (hops t.scope ts) (hops u.scope us) (hop_apart s t u e)
          ∙ sym (steps_apart t u ts us e)

  -- so many steps are the same, with their turns
  pub hops_same : (s : ℕ) (ts us : List Step) → take (agree_steps ts us) (hops s ts) ≡ take (agree_steps ts us) (hops s us)
  unfolding hops_of
  hops_same s [] us = rw (steps_ended us)
  hops_same s (t ∷ ts) [] = rw (steps_over (t ∷ ts))
  hops_same s (t ∷ ts) (u ∷ us) = at (Two (same_shown t u)) (hops_same t.scope ts us)
    where
      at : (same_shown t u ≡ true) ⊎ (same_shown t u ≡ false)
          → take (agree_steps ts us) (hops t.scope ts) ≡ take (agree_steps ts us) (hops t.scope us)
          → take (agree_steps (t ∷ ts) (u ∷ us)) (hop s t ∷ hops t.scope ts) ≡ take (agree_steps (t ∷ ts) (u ∷ us)) (hop s u ∷ hops u.scope us)
      at (inl e) ih =
          rw (steps_same t u ts us e, ← (shown_is t u e))
          (ap (λ (z : List (HopOf Turned)). hop s t ∷ z) ih)
      at (inr e) ih = rw (steps_apart t u ts us e)

module _ (cells : List ℕ) (p q : PathRow) where
  abbrev L : Language
  L = language (rules_of cells)

  pub agreement_apart : (p.start ≡ q.start → ⊥) → agreement cells p q ≡ 0
  unfolding agreement path_of
  agreement_apart h = agree_apart L (path_in cells p) (path_in cells q) h

  module _ (e : p.start ≡ q.start) where
    pub agreement_same : agreement cells p q ≡ agree_steps p.steps q.steps
    unfolding agreement path_of
    agreement_same =
        agree_from L (path_in cells p) (path_in cells q) e
        ∙ ap (λ (s : ℕ). agree_hops L (hops_of (hops_at L (graph_of cells).edges) (letters_of cells) p.start p.steps) (hops_of (hops_at L (graph_of cells).edges) (letters_of cells) s q.steps)) (sym e)
        ∙ hops_agree (rules_of cells) (hops_at L (graph_of cells).edges) (letters_of cells) p.start p.steps q.steps

    pub turns_same : take (agreement cells p q) (path_in cells p).hops ≡ take (agreement cells p q) (path_in cells q).hops
    unfolding path_of
    turns_same =
        rw (agreement_same, ← e)
        (hops_same (rules_of cells) (hops_at L (graph_of cells).edges) (letters_of cells) p.start p.steps q.steps)
