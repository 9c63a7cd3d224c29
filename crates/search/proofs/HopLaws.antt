-- Which hops are worth entering, and the next of them. Assumes nothing.
use mathlib.Core.Path.{◌≡◌}
use mathlib.Core.Logic.{◌⊎◌, inl, inr, ⊎_elim}
use mathlib.Core.Bool.{true, false, and-false}
use mathlib.Core.List.{List, [], ◌∷◌, ◌++◌}
use Prim.Native.Nat.{ℕ, suc, ◌+◌, ◌≤◌, ◌<◌}
use native.Mathlib.Omega.{arith}
use borrow.Author.Tests.{lt-ltb, le-ltb, ltb-true, ltb-false}
use lib.Dec.{ltb}
use Rattle.scope_graph.specs.Language.{◌∈◌}
use Rattle.scope_graph.specs.Path.{HopOf}
use Rattle.scope_graph.specs.Turns.{Turned}
use Rattle.scope_graph.proofs.Lists.{Two}
use Rattle.block.specs.Sets.{has_scope, has_label, ALL_LABELS}
use Rattle.block.specs.Block.{next_cell, first_edge, edge_cell, hop_of, hops_on}
use Rattle.block.proofs.SetLaws.{label_lacked}
use Rattle.block.proofs.BlockLaws.{next_no_label, on_none, on_more}
use Rattle.block.proofs.EdgeLaws.{first_edge_lem, edge_past, edge_here, edge_more}
use Rattle.search.specs.declared.Node.{Node}
use Rattle.search.specs.Tables.{place_flag}
use Rattle.search.specs.Steps.{worth_state, next_hop}
use Rattle.search.proofs.Cells.{place_state, place_no_state}

-- a hop worth entering, or none
module _ (block table : List ℕ) (free q labels : ℕ) (h : HopOf Turned) where
  pub hop_yes : has_label labels h.step.label ≡ true → has_scope free h.to ≡ true → place_flag table h.to (next_cell block q h.step.label) ≡ true
      → worth_state block table free q labels h ≡ next_cell block q h.step.label
  unfolding worth_state
  hop_yes w f p = rw (w, f, p, worth_state)

  pub hop_unasked : has_label labels h.step.label ≡ false → worth_state block table free q labels h ≡ 16
  unfolding worth_state
  hop_unasked w = rw (w, worth_state)

  pub hop_taken : has_scope free h.to ≡ false → worth_state block table free q labels h ≡ 16
  unfolding worth_state
  hop_taken f = rw (f, and-false (has_label labels h.step.label), worth_state)

  pub hop_dead : place_flag table h.to (next_cell block q h.step.label) ≡ false → worth_state block table free q labels h ≡ 16
  unfolding worth_state
  hop_dead p = rw (p, and-false (has_scope free h.to), and-false (has_label labels h.step.label), worth_state)

  -- what a hop that is worth entering has
  pub record Worthy : Type 0 where
    pub asked : has_label labels h.step.label ≡ true
    pub free_to : has_scope free h.to ≡ true
    pub held : place_flag table h.to (next_cell block q h.step.label) ≡ true

  -- and what one that is not lacks
  abbrev pub Idle : Type 0
  Idle = (has_label labels h.step.label ≡ false) ⊎ ((has_scope free h.to ≡ false) ⊎ (place_flag table h.to (next_cell block q h.step.label) ≡ false))

  worthy_or : Worthy ⊎ Idle
  worthy_or = at (Two (has_label labels h.step.label)) (Two (has_scope free h.to)) (Two (place_flag table h.to (next_cell block q h.step.label)))
    where
      at : (has_label labels h.step.label ≡ true) ⊎ (has_label labels h.step.label ≡ false) → (has_scope free h.to ≡ true) ⊎ (has_scope free h.to ≡ false)
          → (place_flag table h.to (next_cell block q h.step.label) ≡ true) ⊎ (place_flag table h.to (next_cell block q h.step.label) ≡ false)
          → Worthy ⊎ Idle
      at (inr w) f p = inr (inl w)
      at (inl w) (inr f) p = inr (inr (inl f))
      at (inl w) (inl f) (inr p) = inr (inr (inr p))
      at (inl w) (inl f) (inl p) = inl (record { asked = w; free_to = f; held = p })

  worthy_small : Worthy → worth_state block table free q labels h < 16
  worthy_small w =
      let is = hop_yes w.asked w.free_to w.held in
      omega (arith, is, place_state table h.to (next_cell block q h.step.label) w.held)

  idle_large : Idle → worth_state block table free q labels h ≡ 16
  idle_large = ⊎_elim hop_unasked (⊎_elim hop_taken hop_dead)

  pub worthy : worth_state block table free q labels h < 16 → Worthy
  worthy k = ⊎_elim (λ w. w) (λ i. absurd (omega (arith, idle_large i))) worthy_or

  pub idle : 16 ≤ worth_state block table free q labels h → Idle
  idle k = ⊎_elim (λ w. absurd (omega (arith, worthy_small w))) (λ i. i) worthy_or

-- of all labels: no state comes after one that is not of the eight, so its hop is worth nothing
module _ (block : List ℕ) (q : ℕ) (h : HopOf Turned) (lacked : has_label ALL_LABELS h.step.label ≡ false) where
  pub all_stuck : 16 ≤ next_cell block q h.step.label
  all_stuck = omega (arith, next_no_label block q h.step.label (label_lacked h.step.label lacked))

  pub all_dead : (table : List ℕ) → place_flag table h.to (next_cell block q h.step.label) ≡ false
  all_dead table = place_no_state table h.to (next_cell block q h.step.label) all_stuck

-- Of the edges of the node's scope from number p on, r is the first whose hop is worth entering, or
-- a number where none is left. The hops that stand before it are worth nothing.
pub record NextHop (block table : List ℕ) (n : Node) (labels p r : ℕ) : Type 0 where
  pub on : p ≤ r
  pub skipped : List (HopOf Turned)
  pub split : hops_on block n.scope p ≡ skipped ++ hops_on block n.scope r
  pub idle : (h : HopOf Turned) → h ∈ skipped → 16 ≤ worth_state block table n.free n.state labels h
  pub found : r < first_edge block (suc n.scope)
      → hops_on block n.scope r ≡ hop_of (edge_cell block r) ∷ hops_on block n.scope (suc r)
  pub worth : r < first_edge block (suc n.scope) → worth_state block table n.free n.state labels (hop_of (edge_cell block r)) < 16
  pub none : first_edge block (suc n.scope) ≤ r → hops_on block n.scope r ≡ []

-- the next hop is that
pub next_told : (block table : List ℕ) (n : Node) (labels p r : ℕ) → r ≡ next_hop block table n labels p → NextHop block table n labels p r
unfolding next_hop
next_told block table n labels p r e =
    let first = first_edge_lem block (λ h. ltb (worth_state block table n.free n.state labels h) 16) n.scope p r e in
    record {
      on = first.on;
      skipped = first.skipped;
      split = first.split;
      idle = λ h m. ltb-false (worth_state block table n.free n.state labels h) 16 (first.failed h m);
      found = λ k. on_more block n.scope r k;
      worth = λ k. ltb-true (worth_state block table n.free n.state labels (hop_of (edge_cell block r))) 16 (first.passes k);
      none = λ k. on_none block n.scope r k;
    }

-- the next hop, edge by edge
module _ (block table : List ℕ) (n : Node) (labels i : ℕ) where
  abbrev at_edge : ℕ
  at_edge = worth_state block table n.free n.state labels (hop_of (edge_cell block i))

  pub next_more : i < first_edge block (suc n.scope) → 16 ≤ at_edge → next_hop block table n labels i ≡ next_hop block table n labels (i + 1)
  unfolding next_hop
  next_more inside dead = edge_more block _ n.scope i inside (le-ltb at_edge 16 dead)

  pub next_here : i < first_edge block (suc n.scope) → at_edge < 16 → i ≡ next_hop block table n labels i
  unfolding next_hop
  next_here inside good = edge_here block _ n.scope i inside (lt-ltb at_edge 16 good)

  pub next_end : first_edge block (suc n.scope) ≤ i → i ≡ next_hop block table n labels i
  unfolding next_hop
  next_end past = edge_past block _ n.scope i past
