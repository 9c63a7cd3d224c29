-- Laws of what is read of the block: transitions, preferred ends, and the hops that leave a scope.
-- Assumes nothing.
use mathlib.Core.Path.{◌≡◌, refl, sym, ◌∙◌}
use mathlib.Core.Logic.{◌⊎◌, inl, inr, ⊎_elim}
use mathlib.Core.Bool.{Bool, true, false, ◌&&◌, and-false}
use mathlib.Core.Option.{some, none, none-ne-some}
use mathlib.Core.List.Memᴰ
use mathlib.Core.List.{List, [], ◌∷◌}
use Prim.Native.Nat.{ℕ, zero, suc, ◌+◌, ◌-◌, ◌*◌, ◌/◌, ◌≤◌, ◌<◌}
use native.Mathlib.Nat.{mod-lt}
use native.Mathlib.Omega.{arith}
use borrow.Author.Tests.{lt-ltb, le-ltb, ltb-true, ltb-false}
use lib.Dec.{ltb}
use lib.ListN.{length, get_or}
use Rattle.scope_graph.specs.Language.{◌∈◌}
use Rattle.scope_graph.specs.Path.{HopOf}
use Rattle.scope_graph.specs.Turns.{Turned}
use Rattle.scope_graph.proofs.Lists.{Two, and_left, and_right}
use Rattle.block.specs.Layout.{DELTA, BETTER, SIZE}
use Rattle.block.specs.Sets.{has_bit}
use Rattle.block.specs.Block.{state_of, next_cell, pair_flag, first_edge, edge_cell, hop_of, hops_from, hops_on, block_hops}

-- within the list the default does not matter
pub get_d_any : (l : List ℕ) (i d e : ℕ) → i < length l → get_or l i d ≡ get_or l i e
get_d_any [] i d e h = absurd (omega arith)
get_d_any (a ∷ l) zero d e h = refl
get_d_any (a ∷ l) (suc i) d e h = get_d_any l i d e (omega arith)

-- a flag behind a test
abbrev when : Bool → Bool → Bool
when t x = elim t [ true ↦ x | false ↦ false ]

when_test : (t x : Bool) → when t x ≡ true → t ≡ true
when_test true x h = refl
when_test false x h = h

-- transitions
module _ (block : List ℕ) (q l : ℕ) where
  pub next_in_lem : q < 16 → l < 8 → next_cell block q l ≡ get_or block (DELTA + (q * 8 + l)) 16
  unfolding next_cell
  next_in_lem h k = rw (lt-ltb q 16 h, lt-ltb l 8 k, next_cell)

  pub next_no_state : 16 ≤ q → next_cell block q l ≡ 16
  unfolding next_cell
  next_no_state h = rw (le-ltb q 16 h, next_cell)

  pub next_no_label : 8 ≤ l → next_cell block q l ≡ 16
  unfolding next_cell
  next_no_label h = rw (le-ltb l 8 h, and-false (ltb q 16), next_cell)

  -- as the block is read: each place of the table stands in it
  pub next_read : length block ≡ SIZE → q < 16 → l < 8 → get_or block (DELTA + (q * 8 + l)) 0 ≡ next_cell block q l
  next_read size h k = get_d_any block (DELTA + (q * 8 + l)) 0 16 (omega arith) ∙ sym (next_in_lem h k)

-- a state of a cell
module _ (x : ℕ) where
  pub state_some : x < 16 → state_of x ≡ some x
  unfolding state_of
  state_some h = rw (lt-ltb x 16 h, state_of)

  pub state_none : 16 ≤ x → state_of x ≡ none
  unfolding state_of
  state_none h = rw (le-ltb x 16 h, state_of)

  pub state_small : (r : ℕ) → state_of x ≡ some r → x < 16
  state_small r h = at (Two (ltb x 16))
    where
      at : (ltb x 16 ≡ true) ⊎ (ltb x 16 ≡ false) → x < 16
      at (inl e) = ltb-true x 16 e
      at (inr e) = absurd (none-ne-some r (sym (state_none (ltb-false x 16 e)) ∙ h))

  pub state_cell_lem : (r : ℕ) → state_of x ≡ some r → x ≡ r
  state_cell_lem r h = let same : some x ≡ some r = sym (state_some (state_small r h)) ∙ h in cc

module _ (block : List ℕ) (q l r : ℕ) (h : state_of (next_cell block q l) ≡ some r) where
  step_inside : next_cell block q l < 16
  step_inside = state_small (next_cell block q l) r h

  pub step_state : q < 16
  step_state = at (Two (ltb q 16))
    where
      at : (ltb q 16 ≡ true) ⊎ (ltb q 16 ≡ false) → q < 16
      at (inl e) = ltb-true q 16 e
      at (inr e) = absurd (omega (arith, step_inside, next_no_state block q l (ltb-false q 16 e)))

  pub next_label : l < 8
  next_label = at (Two (ltb l 8))
    where
      at : (ltb l 8 ≡ true) ⊎ (ltb l 8 ≡ false) → l < 8
      at (inl e) = ltb-true l 8 e
      at (inr e) = absurd (omega (arith, step_inside, next_no_label block q l (ltb-false l 8 e)))

  -- the state that a step leads to is one of the table's
  pub step_next : r < 16
  step_next = let cell = state_cell_lem (next_cell block q l) r h in omega (arith, step_inside)

-- preferred ends
module _ (block : List ℕ) (a c : ℕ) where
  pub pair_in : a < 9 → c < 9 → pair_flag block a c ≡ has_bit (get_or block (BETTER + c) 0) a
  unfolding pair_flag
  pair_in h k = rw (lt-ltb a 9 h, lt-ltb c 9 k, pair_flag)

  pub pair_no_first : 9 ≤ a → pair_flag block a c ≡ false
  unfolding pair_flag
  pair_no_first h = rw (le-ltb a 9 h, pair_flag)

  pub pair_no_second : 9 ≤ c → pair_flag block a c ≡ false
  unfolding pair_flag
  pair_no_second h = rw (le-ltb c 9 h, and-false (ltb a 9), pair_flag)

  pair_both : pair_flag block a c ≡ true → (ltb a 9 && ltb c 9) ≡ true
  unfolding pair_flag
  pair_both h = when_test _ _ h

  pub pair_first : pair_flag block a c ≡ true → a < 9
  pair_first h = ltb-true a 9 (and_left (ltb a 9) (ltb c 9) (pair_both h))

  pub pair_second : pair_flag block a c ≡ true → c < 9
  pair_second h = ltb-true c 9 (and_right (ltb a 9) (ltb c 9) (pair_both h))

-- a hop comes to a scope by a label of the tables
abbrev pub Small : HopOf Turned → Type 0
Small h = (h.to < 64) × (h.step.label < 8)

module _ (x : ℕ) where
  pub hop_to_lem : (hop_of x).to < 64
  unfolding hop_of
  hop_to_lem = mod-lt x (omega arith)

  pub hop_step : (hop_of x).step.label < 8
  unfolding hop_of
  hop_step = mod-lt (x / 64) (omega arith)

-- edges from a number to an end
module _ (block : List ℕ) (p end : ℕ) where
  pub hops_none : end ≤ p → hops_from block p (end - p) ≡ []
  unfolding hops_from
  hops_none h = let none : end - p ≡ 0 = omega arith in rw none

  pub hops_more : p < end → hops_from block p (end - p) ≡ hop_of (edge_cell block p) ∷ hops_from block (suc p) (end - suc p)
  unfolding hops_from
  hops_more h = let one : end - p ≡ suc (end - suc p) = omega arith in rw one

pub from_small : (block : List ℕ) (n p : ℕ) (h : HopOf Turned) → h ∈ hops_from block p n → Small h
unfolding hops_from
from_small block zero p h m = absurd (Memᴰ.not-nil m)
from_small block (suc n) p h m = ⊎_elim first (from_small block n (suc p) h) (Memᴰ.cases_cons m)
  where
    first : h ≡ hop_of (edge_cell block p) → Small h
    first e = rw e (hop_to_lem (edge_cell block p), hop_step (edge_cell block p))

-- edges of a scope from a number on
module _ (block : List ℕ) (s p : ℕ) where
  pub on_none : first_edge block (suc s) ≤ p → hops_on block s p ≡ []
  unfolding hops_on
  on_none h = hops_none block p (first_edge block (suc s)) h

  pub on_more : p < first_edge block (suc s) → hops_on block s p ≡ hop_of (edge_cell block p) ∷ hops_on block s (suc p)
  unfolding hops_on
  on_more h = hops_more block p (first_edge block (suc s)) h

  pub on_small : (h : HopOf Turned) → h ∈ hops_on block s p → Small h
  unfolding hops_on
  on_small h m = from_small block (first_edge block (suc s) - p) p h m

-- all edges of a scope
module _ (block : List ℕ) (s : ℕ) where
  pub block_hops_in : s < 64 → block_hops block s ≡ hops_on block s (first_edge block s)
  unfolding block_hops
  block_hops_in h = rw (lt-ltb s 64 h, block_hops)

  pub block_hops_past : 64 ≤ s → block_hops block s ≡ []
  unfolding block_hops
  block_hops_past h = rw (le-ltb s 64 h, block_hops)

  module _ (h : HopOf Turned) (m : h ∈ block_hops block s) where
    pub hops_scope : s < 64
    hops_scope = at (Two (ltb s 64))
      where
        at : (ltb s 64 ≡ true) ⊎ (ltb s 64 ≡ false) → s < 64
        at (inl e) = ltb-true s 64 e
        at (inr e) = absurd (Memᴰ.not-nil (rw (block_hops_past (ltb-false s 64 e)) at m))

    pub hops_small : Small h
    hops_small = on_small block s (first_edge block s) h (rw (block_hops_in hops_scope) at m)
