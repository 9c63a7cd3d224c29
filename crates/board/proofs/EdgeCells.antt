-- The cells of a scope's hops, put one after the other. Assumes nothing.
use mathlib.Core.Path.{◌≡◌, refl, ap, ◌∙◌}
use mathlib.Core.List.{List, [], ◌∷◌, map}
use Prim.Native.Nat.{ℕ, zero, suc, ◌+◌, ◌-◌, ◌≤◌, ◌<◌}
use native.Mathlib.Omega.{arith}
use native.Mathlib.Numerals.{add-one}
use lib.ListN.{length, set, take, length-set}
use Rattle.scope_graph.specs.Path.{HopOf}
use Rattle.scope_graph.specs.Turns.{Turned}
use Rattle.block.specs.Layout.{EDGE}
use Rattle.board.specs.Cells.{puts}
use Rattle.board.specs.Edges.{compact, cells_for}

-- the cells of a hop and of those after it
take_none : (l : List ℕ) → take 0 l ≡ []
take_none [] = refl
take_none (x ∷ l) = refl

pub cells_none : (k : ℕ) → cells_for k [] ≡ []
unfolding cells_for
cells_none k = at (512 - k)
  where
    at : (n : ℕ) → take n (map compact []) ≡ []
    at zero = refl
    at (suc n) = refl

pub cells_full : (k : ℕ) (hs : List (HopOf Turned)) → 512 ≤ k → cells_for k hs ≡ []
unfolding cells_for
cells_full k hs h = let full : 512 - k ≡ 0 = omega arith in rw full (take_none (map compact hs))

pub cells_more : (k : ℕ) (h : HopOf Turned) (hs : List (HopOf Turned)) → k < 512 → cells_for k (h ∷ hs) ≡ compact h ∷ cells_for (suc k) hs
unfolding cells_for
cells_more k h hs m = let room : 512 - k ≡ suc (512 - suc k) = omega arith in rw room

-- Putting hops one by one: what is left, put from here on, gives the whole.
pub record Left (old : List ℕ) (n : ℕ) (all : List (HopOf Turned)) (block : List ℕ) (k : ℕ) (left : List (HopOf Turned)) : Type 0 where
  pub size : length block ≡ length old
  pub cells : puts block (EDGE + k) (cells_for k left) ≡ puts old (EDGE + n) (cells_for n all)
  pub count : k + length (cells_for k left) ≡ n + length (cells_for n all)

module _ (old : List ℕ) (n : ℕ) (all : List (HopOf Turned)) where
  pub left_all : Left old n all old n all
  left_all = record { size = refl; cells = refl; count = refl }

  module _ (block : List ℕ) (k : ℕ) (left : List (HopOf Turned)) (so : Left old n all block k left) where
    pub left_more : (h : HopOf Turned) (hs : List (HopOf Turned)) → k < 512 → left ≡ h ∷ hs → Left old n all (set block (EDGE + k) (compact h)) (k + 1) hs
    unfolding puts
    left_more h hs room e =
        let next : EDGE + suc k ≡ suc (EDGE + k) = omega arith in
        let first : cells_for k left ≡ compact h ∷ cells_for (suc k) hs = rw e (cells_more k h hs room) in
        let all_of = so.count in
        record {
          size = length-set block (EDGE + k) (compact h) ∙ so.size;
          cells = rw (add-one k, next) (rw first at so.cells);
          count = rw (add-one k) (omega (arith, ap length first));
        }

    -- none is left, or no room
    module _ (e : cells_for k left ≡ []) where
      pub left_cells : block ≡ puts old (EDGE + n) (cells_for n all)
      unfolding puts
      left_cells = rw e at so.cells

      pub left_count : k ≡ n + length (cells_for n all)
      left_count = let all_of = so.count in omega (arith, ap length e)

    pub left_none : left ≡ [] → cells_for k left ≡ []
    left_none e = rw e (cells_none k)

    pub left_full : 512 ≤ k → cells_for k left ≡ []
    left_full h = cells_full k left h
