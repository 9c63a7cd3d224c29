-- Laws of a scope's edges by number: each is one of the scope's hops, every hop has a turn, the
-- first by a label to a scope, and the later of two. Assumes nothing.
use mathlib.Core.Path.{◌≡◌, refl, sym, ap, ◌∙◌}
use mathlib.Core.Logic.{⊎_elim}
use mathlib.Core.Bool.{Bool, true, false}
use mathlib.Core.Option.{some, none}
use mathlib.Core.List.Memᴰ
use mathlib.Core.List.{List, [], ◌∷◌, ◌++◌}
use Prim.Native.Nat.{ℕ, zero, suc, ◌+◌, ◌-◌, ◌≤◌, ◌<◌}
use native.Mathlib.Omega.{arith}
use native.Mathlib.Numerals.{add-one}
use borrow.Author.Tests.{eqb-true, eq-eqb, ne_eqb}
use lib.Dec.{eqb, ltb}
use Rattle.scope_graph.specs.Language.{◌∈◌, by}
use Rattle.scope_graph.specs.Path.{HopOf}
use Rattle.scope_graph.specs.Turns.{Turned, later, later_step, turn_by}
use Rattle.scope_graph.proofs.Lists.{and_left, and_right, here, there}
use Rattle.block.specs.Block.{first_edge, edge_cell, label_of, turn_of, hop_of, hops_from, hops_on, block_hops, edge_among, edge_on, goes, edge_to}
use Rattle.block.proofs.BlockLaws.{on_none, on_more, block_hops_in, hops_scope}

-- an edge of the scope is one of its hops
hop_on_lem : (block : List ℕ) (s k p : ℕ) → p + k < first_edge block (suc s) → hop_of (edge_cell block (p + k)) ∈ hops_on block s p
hop_on_lem block s zero p h =
    let same : p + 0 ≡ p = omega arith in
    rw (same, on_more block s p (omega arith)) here
hop_on_lem block s (suc k) p h =
    let same : p + suc k ≡ suc p + k = omega arith in
    rw (on_more block s p (omega arith), same) (there (hop_on_lem block s k (suc p) (omega arith)))

pub hop_of_scope : (block : List ℕ) (s p : ℕ) → s < 64 → first_edge block s ≤ p → p < first_edge block (suc s)
    → hop_of (edge_cell block p) ∈ block_hops block s
hop_of_scope block s p inside from before =
    let same : first_edge block s + (p - first_edge block s) ≡ p = omega arith in
    rw (block_hops_in block s inside) (rw same at (hop_on_lem block s (p - first_edge block s) (first_edge block s) (omega arith)))

-- and a hop of the scope is one of its edges', so it has a turn
pub record EdgeOf (block : List ℕ) (s : ℕ) (h : HopOf Turned) : Type 0 where
  pub number : ℕ
  pub before : number < first_edge block (suc s)
  pub is : h ≡ hop_of (edge_cell block number)

from_edge : (block : List ℕ) (s n p : ℕ) (h : HopOf Turned) → n ≡ first_edge block (suc s) - p → h ∈ hops_from block p n → EdgeOf block s h
unfolding hops_from
from_edge block s zero p h left m = absurd (Memᴰ.not-nil m)
from_edge block s (suc n) p h left m =
    ⊎_elim (λ e. record { number = p; before = omega arith; is = e }) (from_edge block s n (suc p) h (omega arith)) (Memᴰ.cases_cons m)

pub edge_of : (block : List ℕ) (s : ℕ) (h : HopOf Turned) → h ∈ block_hops block s → EdgeOf block s h
unfolding hops_on
edge_of block s h m =
    from_edge block s (first_edge block (suc s) - first_edge block s) (first_edge block s) h refl
    (rw (block_hops_in block s (hops_scope block s h m)) at m)

pub hop_turned : (block : List ℕ) (s : ℕ) (h : HopOf Turned) → h ∈ block_hops block s → (n : ℕ) × (h.step.turn ≡ some n)
unfolding hop_of
hop_turned block s h m =
    let e = edge_of block s h m in
    (turn_of (edge_cell block e.number), ap (λ (k : HopOf Turned). k.step.turn) e.is)

-- the first edge of the scope, from number p on, whose hop passes a test
module _ (block : List ℕ) (test : HopOf Turned → Bool) (s p : ℕ) where
  pub edge_past : first_edge block (suc s) ≤ p → p ≡ edge_on block test s p
  unfolding edge_on edge_among
  edge_past h = let none : first_edge block (suc s) - p ≡ 0 = omega arith in rw none

  pub edge_here : p < first_edge block (suc s) → test (hop_of (edge_cell block p)) ≡ true → p ≡ edge_on block test s p
  unfolding edge_on edge_among
  edge_here h e = let one : first_edge block (suc s) - p ≡ suc (first_edge block (suc s) - suc p) = omega arith in rw (one, edge_among, e)

  pub edge_more : p < first_edge block (suc s) → test (hop_of (edge_cell block p)) ≡ false → edge_on block test s p ≡ edge_on block test s (p + 1)
  unfolding edge_on edge_among
  edge_more h e =
      let one : first_edge block (suc s) - p ≡ suc (first_edge block (suc s) - suc p) = omega arith in
      rw (one, edge_among, e, add-one p)

-- Edge number r is the first that passes: those from p on up to it do not, and r does unless it is
-- past the scope's edges.
pub record FirstEdge (block : List ℕ) (test : HopOf Turned → Bool) (s p r : ℕ) : Type 0 where
  pub on : p ≤ r
  pub skipped : List (HopOf Turned)
  pub split : hops_on block s p ≡ skipped ++ hops_on block s r
  pub failed : (h : HopOf Turned) → h ∈ skipped → test h ≡ false
  pub passes : r < first_edge block (suc s) → test (hop_of (edge_cell block r)) ≡ true

first_among : (block : List ℕ) (test : HopOf Turned → Bool) (s n p : ℕ) → n ≡ first_edge block (suc s) - p → FirstEdge block test s p (edge_among block test p n)
unfolding edge_among
first_among block test s zero p left = record {
  on = omega arith;
  skipped = [];
  split = refl;
  failed = λ h m. absurd (Memᴰ.not-nil m);
  passes = λ k. absurd (omega arith);
}
first_among block test s (suc n) p left =
    at (edge_among block test (suc p) n) (first_among block test s n (suc p) (omega arith)) (test (hop_of (edge_cell block p))) refl
  where
    at : (rest : ℕ) → FirstEdge block test s (suc p) rest → (b : Bool) → test (hop_of (edge_cell block p)) ≡ b
        → FirstEdge block test s p (elim b [ true ↦ p | false ↦ rest ])
    at rest more true e = record {
      on = omega arith;
      skipped = [];
      split = refl;
      failed = λ h m. absurd (Memᴰ.not-nil m);
      passes = λ k. e;
    }
    at rest more false e = record {
      on = omega (arith, more.on);
      skipped = hop_of (edge_cell block p) ∷ more.skipped;
      split = on_more block s p (omega arith) ∙ rw more.split;
      failed = λ h m. ⊎_elim (λ f. rw f e) (more.failed h) (Memᴰ.cases_cons m);
      passes = more.passes;
    }

pub first_edge_lem : (block : List ℕ) (test : HopOf Turned → Bool) (s p r : ℕ) → r ≡ edge_on block test s p → FirstEdge block test s p r
unfolding edge_on
first_edge_lem block test s p r e = rw e (first_among block test s (first_edge block (suc s) - p) p refl)

-- the turn looked up behind hops that go elsewhere
turn_behind : (l t : ℕ) (xs ys : List (HopOf Turned)) → ((h : HopOf Turned) → h ∈ xs → goes l t h ≡ false)
    → turn_by (xs ++ ys) l t ≡ turn_by ys l t
unfolding turn_by
turn_behind l t [] ys other = refl
turn_behind l t (x ∷ xs) ys other = rw (other x here, turn_by) (turn_behind l t xs ys (λ h m. other h (there m)))

-- Edge number r leaves the scope by the label to the scope `to`, and has the turn that comparing
-- looks up; or it is past the scope's edges, where there is none.
pub record EdgeTo (block : List ℕ) (s label to r : ℕ) : Type 0 where
  pub leaves : r < first_edge block (suc s) → hop_of (edge_cell block r) ∈ block_hops block s
  pub is : r < first_edge block (suc s)
      → hop_of (edge_cell block r) ≡ record { step = record { label = label; turn = turn_by (block_hops block s) label to }; to = to }
  pub none_is : first_edge block (suc s) ≤ r → turn_by (block_hops block s) label to ≡ none

module _ (block : List ℕ) (s l t r : ℕ) (inside : s < 64) (told : r ≡ edge_to block s l t) where
  abbrev first : FirstEdge block (goes l t) s (first_edge block s) r
  first = first_edge_lem block (goes l t) s (first_edge block s) r (unfold edge_to in told)

  -- the turn looked up among the scope's hops is the one looked up from edge r on
  on_from : turn_by (block_hops block s) l t ≡ turn_by (hops_on block s r) l t
  on_from =
      ap (λ (hs : List (HopOf Turned)). turn_by hs l t) (block_hops_in block s inside ∙ first.split)
      ∙ turn_behind l t first.skipped (hops_on block s r) first.failed

  pub edge_told : EdgeTo block s l t r
  edge_told = record {
    leaves = λ h. hop_of_scope block s r inside first.on h;
    is = λ h.
        let e = first.passes h in
        let Label-is = eqb-true (hop_of (edge_cell block r)).step.label l (and_left _ _ e) in
        let to_is = eqb-true (hop_of (edge_cell block r)).to t (and_right (eqb (hop_of (edge_cell block r)).step.label l) _ e) in
        let turn_is = sym (on_from ∙ look_here h e) in
        λ i. record { step = record { label = Label-is i; turn = turn_is i }; to = to_is i };
    none_is = λ h. on_from ∙ look_none h;
  }
    where
      look_here : r < first_edge block (suc s) → goes l t (hop_of (edge_cell block r)) ≡ true
          → turn_by (hops_on block s r) l t ≡ (hop_of (edge_cell block r)).step.turn
      look_here h e = unfold turn_by in rw (on_more block s r h, turn_by, e)

      look_none : first_edge block (suc s) ≤ r → turn_by (hops_on block s r) l t ≡ none
      look_none h = unfold turn_by in rw (on_none block s r h)

-- the later of two edges: by their turns if they have one label, else neither
module _ (x y : ℕ) where
  pub later_apart : (label_of x ≡ label_of y → ⊥) → later_step (by (hop_of x).step) (by (hop_of y).step) ≡ false
  unfolding hop_of later_step
  later_apart h = rw (ne_eqb (label_of x) (label_of y) h)

  pub later_turns : label_of x ≡ label_of y → later_step (by (hop_of x).step) (by (hop_of y).step) ≡ ltb (turn_of y) (turn_of x)
  unfolding hop_of later_step later
  later_turns h = rw (eq-eqb (label_of x) (label_of y) h)
