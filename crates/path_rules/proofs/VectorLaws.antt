-- What the sets found backwards from the end say: from which positions a word leads to its end.
-- Assumes nothing.
use Prim.Native.Nat.{ℕ, zero, suc, ◌^◌, ◌<◌}
use mathlib.Core.Path.{◌≡◌, refl, sym, ◌∙◌}
use mathlib.Core.Bool.{Bool, true, false, ◌&&◌}
use mathlib.Core.List.{List, [], ◌∷◌, ◌++◌}
use native.Mathlib.Omega.{arith}
use lib.Bits.{or_lt}
use lib.Dec.{eqb}
use lib.ListN.{get_or}
use lib.Pow.{pow_pos, pow-lt}
use borrow.Author.Tests.{eqb-true, eq-eqb}
use Rattle.scope_graph.proofs.Lists.{and_left, and_right, and_both}
use Rattle.path_rules.specs.Sets.{has, only_if, gather, meets}
use Rattle.path_rules.specs.Vectors.{end_set, before_cell, before, onward_cell, onward}
use Rattle.path_rules.proofs.SetLaws.{has_only, has_one, has_gather, some_intro, some_elim, meets_elim, meets_intro}
use Rattle.path_rules.proofs.Positions.{Leads}

-- two tests that follow from one another are the same
pub both_ways : (a b : Bool) → (a ≡ true → b ≡ true) → (b ≡ true → a ≡ true) → a ≡ b
both_ways true b f g = sym (f refl)
both_ways false true f g = g refl
both_ways false false f g = refl

module _ (after labels : List ℕ) where
  abbrev pub label_at : ℕ → ℕ
  label_at p = get_or labels p 0

  abbrev pub after_at : ℕ → ℕ → Bool
  after_at p x = has (get_or after p 0) x

  -- the positions from which a word leads to its end
  unfoldable pub vector_of : List ℕ → ℕ
  vector_of [] = end_set
  vector_of (l ∷ w) = before after labels (vector_of w) l

  -- the positions behind a word
  unfoldable pub set_after : ℕ → List ℕ → ℕ
  set_after s [] = s
  set_after s (l ∷ w) = set_after (onward after labels s l) w

  before_elim : (v l p : ℕ) → has (before after labels v l) p ≡ true → (p < 10) × (label_at p ≡ l) × (meets (get_or after p 0) v ≡ true)
  unfolding before before_cell
  before_elim v l p h =
      let r = some_elim _ 10 (sym (has_gather (before_cell after labels v l) 10 p) ∙ h) in
      let q = r.0 in
      let t = sym (has_only (eqb (label_at q) l && meets (get_or after q 0) v) (2 ^ q) p) ∙ r.2 in
      let e : p ≡ q = eqb-true p q (sym (has_one q p) ∙ and_right (eqb (label_at q) l && meets (get_or after q 0) v) _ t) in
      let u = and_left _ _ t in
      (rw e r.1, rw e (eqb-true (label_at q) l (and_left _ _ u)), rw e (and_right (eqb (label_at q) l) _ u))

  before_intro : (v l p : ℕ) → p < 10 → label_at p ≡ l → meets (get_or after p 0) v ≡ true → has (before after labels v l) p ≡ true
  unfolding before before_cell
  before_intro v l p b e m =
      has_gather (before_cell after labels v l) 10 p
      ∙ some_intro _ 10 p b
      (has_only (eqb (label_at p) l && meets (get_or after p 0) v) (2 ^ p) p
      ∙ and_both _ _ (and_both _ _ (eq-eqb (label_at p) l e) m) (has_one p p ∙ eq-eqb p p refl))

  onward_elim : (s l x : ℕ) → has (onward after labels s l) x ≡ true
      → (p : ℕ) × (p < 10) × (label_at p ≡ l) × (has s p ≡ true) × (after_at p x ≡ true)
  unfolding onward onward_cell
  onward_elim s l x h =
      let r = some_elim _ 10 (sym (has_gather (onward_cell after labels s l) 10 x) ∙ h) in
      let q = r.0 in
      let t = sym (has_only (eqb (label_at q) l && has s q) (get_or after q 0) x) ∙ r.2 in
      let u = and_left (eqb (label_at q) l && has s q) _ t in
      (q, r.1, eqb-true (label_at q) l (and_left _ _ u), and_right (eqb (label_at q) l) _ u, and_right (eqb (label_at q) l && has s q) _ t)

  onward_intro : (s l x p : ℕ) → p < 10 → label_at p ≡ l → has s p ≡ true → after_at p x ≡ true → has (onward after labels s l) x ≡ true
  unfolding onward onward_cell
  onward_intro s l x p b e h a =
      has_gather (onward_cell after labels s l) 10 x
      ∙ some_intro _ 10 p b
      (has_only (eqb (label_at p) l && has s p) (get_or after p 0) x ∙ and_both _ _ (and_both _ _ (eq-eqb (label_at p) l e) h) a)

  -- going on by a label and looking back by it
  pub dual : (s v l : ℕ) → meets (onward after labels s l) v ≡ meets s (before after labels v l)
  dual s v l = both_ways _ _ forth back
    where
      forth : meets (onward after labels s l) v ≡ true → meets s (before after labels v l) ≡ true
      forth h =
          let (x, a, b) = meets_elim (onward after labels s l) v h in
          let (p, lt, e, k, g) = onward_elim s l x a in
          meets_intro s (before after labels v l) p k (before_intro v l p lt e (meets_intro (get_or after p 0) v x g b))

      back : meets s (before after labels v l) ≡ true → meets (onward after labels s l) v ≡ true
      back h =
          let (p, a, b) = meets_elim s (before after labels v l) h in
          let (lt, e, m) = before_elim v l p b in
          let (x, g, k) = meets_elim (get_or after p 0) v m in
          meets_intro (onward after labels s l) v x (onward_intro s l x p lt e a g) k

  -- the set behind a word, and then another word
  pub meets_after : (s : ℕ) (u w : List ℕ) → meets (set_after s u) (vector_of w) ≡ meets s (vector_of (u ++ w))
  unfolding set_after vector_of
  meets_after s [] w = refl
  meets_after s (l ∷ u) w = meets_after (onward after labels s l) u w ∙ dual s (vector_of (u ++ w)) l

  end_has : (x : ℕ) → has end_set x ≡ eqb x 10
  end_has x = has_one 10 x

  pub meets_end : (s : ℕ) → meets s end_set ≡ has s 10
  meets_end s = both_ways _ _ forth (λ h. meets_intro s end_set 10 h (end_has 10))
    where
      forth : meets s end_set ≡ true → has s 10 ≡ true
      forth h = let (x, a, b) = meets_elim s end_set h in rw (eqb-true x 10 (sym (end_has x) ∙ b)) at a

  -- a set meets a word's vector exactly if the word leads from it to the end
  pub meets_leads : (w : List ℕ) (s : ℕ) → meets s (vector_of w) ≡ true → Leads label_at after_at 10 (has s) w
  unfolding vector_of
  meets_leads [] s h = sym (meets_end s) ∙ h
  meets_leads (l ∷ w) s h =
      let (p, a, b) = meets_elim s (before after labels (vector_of w) l) h in
      let (lt, e, m) = before_elim (vector_of w) l p b in
      (p, a, lt, e, meets_leads w (get_or after p 0) m)

  pub leads_meets : (w : List ℕ) (s : ℕ) → Leads label_at after_at 10 (has s) w → meets s (vector_of w) ≡ true
  unfolding vector_of
  leads_meets [] s h = meets_end s ∙ h
  leads_meets (l ∷ w) s (p, a, lt, e, m) =
      meets_intro s (before after labels (vector_of w) l) p a (before_intro (vector_of w) l p lt e (leads_meets w (get_or after p 0) m))

  -- vectors are numbers of eleven bits
  gather_lt : (f : ℕ → ℕ) (k n : ℕ) → ((p : ℕ) → p < n → f p < 2 ^ k) → gather f n < 2 ^ k
  unfolding gather
  gather_lt f k zero h = pow_pos k
  gather_lt f k (suc n) h = or_lt k (gather f n) (f n) (gather_lt f k n (λ p b. h p (omega arith))) (h n (omega arith))

  before_cell_lt : (v l p : ℕ) → p < 10 → before_cell after labels v l p < 2 ^ 11
  unfolding before_cell only_if
  before_cell_lt v l p b = at (eqb (label_at p) l && meets (get_or after p 0) v)
    where
      at : (c : Bool) → only_if c (2 ^ p) < 2 ^ 11
      at true = pow-lt {i = p} {j = 11} (omega arith)
      at false = pow_pos 11

  pub before_lt : (v l : ℕ) → before after labels v l < 2048
  unfolding before
  before_lt v l = gather_lt (before_cell after labels v l) 11 10 (before_cell_lt v l)
