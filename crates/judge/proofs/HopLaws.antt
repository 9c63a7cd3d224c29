-- Laws of one step of a path row: edges that leave a scope, the state after a hop, the node behind
-- it. Assumes nothing.
use mathlib.Core.Path.{◌≡◌, refl, sym, ap, ◌∙◌}
use mathlib.Core.Bool.{Bool, true, false, not, ◌&&◌}
use mathlib.Core.Logic.{◌⊎◌, inl, inr}
use mathlib.Core.Option.{Option, some, none}
use mathlib.Core.List.{List}
use Prim.Native.Nat.{ℕ, suc, ◌-◌, ◌≤◌, ◌<◌}
use native.Mathlib.Omega.{arith}
use borrow.Author.Tests.{eq-eqb, ltb-true, ltb-false}
use lib.Dec.{eqb, ltb}
use Rattle.scope_graph.specs.Path.{HopOf}
use Rattle.scope_graph.specs.Turns.{Turned, same_turned}
use Rattle.scope_graph.specs.Computed.{same_hop}
use Rattle.scope_graph.proofs.Lists.{Two, and_left, and_both, any_of_intro, any_of_false}
use Rattle.scope_graph.proofs.Turns.{turned_is, turned_self}
use Rattle.block.specs.Sets.{has_scope}
use Rattle.block.specs.Block.{next_cell, scopes_cell, first_edge, block_hops}
use Rattle.block.proofs.SetLaws.{scope_past, scope_below, scopes_all}
use Rattle.block.proofs.BlockLaws.{next_no_label}
use Rattle.block.proofs.EdgeLaws.{EdgeTo, hop_turned}
use Rattle.search.specs.declared.Node.{Node}
use Rattle.search.specs.Board.{without}
use Rattle.search.specs.Conditions.{Inside, free_at}
use Rattle.search.proofs.Leads.{taken_is, live_taken}
use Rattle.judge.specs.Steps.{hop_to, has_hop, state_on, state_along, Begins, Behind, Ready}

-- an edge has a turn
turned : (o : Option ℕ) (n : ℕ) → o ≡ some n → o ≡ none → ⊥
turned o n e f = let y : ◌≡◌ {A = ℕ} 0 1 = cc in omega arith

same_self : (h : HopOf Turned) → same_hop same_turned h h ≡ true
unfolding same_hop
same_self h = and_both _ _ (turned_self h.step) (eq-eqb h.to _ refl)

-- does an edge go there, by its number?
module _ (block : List ℕ) (s l t p end : ℕ) (e : EdgeTo block s l t p) (is : end ≡ first_edge block (suc s)) where
  pub edge_there : ltb p end ≡ has_hop (hop_to block s l t) (block_hops block s)
  unfolding has_hop same_hop
  edge_there = at (Two (ltb p end))
    where
      at : (ltb p end ≡ true) ⊎ (ltb p end ≡ false) → ltb p end ≡ has_hop (hop_to block s l t) (block_hops block s)
      at (inl f) =
          let h : p < first_edge block (suc s) = rw is at (ltb-true p end f) in
          f ∙ sym (any_of_intro (λ k. same_hop same_turned k (hop_to block s l t)) (rw (e.is h) at (e.leaves h)) (same_self (hop_to block s l t)))
      at (inr f) =
          let h : first_edge block (suc s) ≤ p = rw is at (ltb-false p end f) in
          f ∙ sym (any_of_false (λ k. same_hop same_turned k (hop_to block s l t)) (block_hops block s)
          (λ k m g. turned k.step.turn (hop_turned block s k m).0 (hop_turned block s k m).1
          (ap (λ (z : Turned). z.turn) (turned_is k.step (hop_to block s l t).step (and_left _ _ g)) ∙ e.none_is h)))

-- the state after a hop
module _ (block : List ℕ) (n : Node) (l t : ℕ) where
  pub on_taken : has_scope n.free t ≡ false → state_on block n (hop_to block n.scope l t) ≡ 16
  unfolding state_on
  on_taken h = rw (h, state_on)

  pub on_past : 64 ≤ t → state_on block n (hop_to block n.scope l t) ≡ 16
  on_past h = on_taken (scope_past n.free t h)

  pub on_free : has_scope n.free t ≡ true → state_on block n (hop_to block n.scope l t) ≡ next_cell block n.state l
  unfolding state_on
  on_free h = rw (h, state_on)

  pub on_no_label : has_scope n.free t ≡ true → 8 ≤ l → state_on block n (hop_to block n.scope l t) ≡ 16
  on_no_label h k = on_free h ∙ next_no_label block n.state l k

  -- a hop is entered to a scope of the tables only
  pub on_inside : state_on block n (hop_to block n.scope l t) < 16 → t < 64
  on_inside h = at (Two (has_scope n.free t))
    where
      at : (has_scope n.free t ≡ true) ⊎ (has_scope n.free t ≡ false) → t < 64
      at (inl e) = scope_below n.free t e
      at (inr e) = absurd (omega (arith, on_taken e))

  pub on_small : (r : ℕ) → r ≡ state_on block n (hop_to block n.scope l t) → r < 16 → t < 64
  on_small r e h = on_inside (omega arith)

  module _ (u : Bool) (e : u ≡ has_hop (hop_to block n.scope l t) (block_hops block n.scope)) where
    pub along_none : u ≡ false → state_along block n (hop_to block n.scope l t) ≡ 16
    unfolding state_along
    along_none h = rw (sym e ∙ h, state_along)

    pub along_edge : u ≡ true → state_along block n (hop_to block n.scope l t) ≡ state_on block n (hop_to block n.scope l t)
    unfolding state_along
    along_edge h = rw (sym e ∙ h, state_along)

  pub along_small : (r : ℕ) → r ≡ state_along block n (hop_to block n.scope l t) → r < 16 → t < 64
  along_small r k h = at (Two (has_hop (hop_to block n.scope l t) (block_hops block n.scope)))
    where
      at : (has_hop (hop_to block n.scope l t) (block_hops block n.scope) ≡ true) ⊎ (has_hop (hop_to block n.scope l t) (block_hops block n.scope) ≡ false) → t < 64
      at (inl e) = on_inside (omega (arith, along_edge _ refl e))
      at (inr e) = absurd (omega (arith, along_none _ refl e))

-- where a query's paths begin: all scopes but the start are free
all_scopes : (t : ℕ) → has_scope 18446744073709551615 t ≡ ltb t 64
all_scopes t = at (Two (ltb t 64))
  where
    at : (ltb t 64 ≡ true) ⊎ (ltb t 64 ≡ false) → has_scope 18446744073709551615 t ≡ ltb t 64
    at (inl e) = scopes_all t (ltb-true t 64 e) ∙ sym e
    at (inr e) = scope_past 18446744073709551615 t (ltb-false t 64 e) ∙ sym e

pub begins_is : (block : List ℕ) (start scopes : ℕ) (n : Node) → scopes ≡ scopes_cell block → start < scopes_cell block
    → ((t : ℕ) → has_scope n.free t ≡ (has_scope 18446744073709551615 t && not (eqb t start)))
    → n.left ≡ scopes - 1 → n.scope ≡ start → n.state ≡ 0 → Begins block start n
unfolding free_at without
begins_is block start scopes n is h f l s q = record {
  free = λ t. f t ∙ rw (all_scopes t);
  left_is = omega arith;
  scope = s;
  state = q;
}

pub begins_inside : (block : List ℕ) (start : ℕ) (n : Node) → Begins block start n → start < 64 → Inside n
begins_inside block start n b h = record { scope = omega (arith, b.scope); state = omega (arith, b.state) }

-- the node behind a hop
module _ (n m : Node) (to r left : ℕ) (b : Behind n to r left m) where
  pub free_is : has_scope m.free ≡ without (has_scope n.free) to
  free_is = taken_is n.free to m.free b.free

  pub behind_inside : to < 64 → r < 16 → Inside m
  behind_inside h k = record { scope = omega (arith, b.scope); state = omega (arith, b.state) }

  -- a closed table stays closed with fewer free scopes
  pub behind_ready : (block : List ℕ) (goal : ℕ) (live : List ℕ) → Ready block goal live n → to < 64 → r < 16 → Ready block goal live m
  behind_ready block goal live y h k = record {
    bounds = y.bounds;
    table = y.table;
    inside = behind_inside h k;
    closed = live_taken block goal n.free to m.free b.free live y.closed;
  }
