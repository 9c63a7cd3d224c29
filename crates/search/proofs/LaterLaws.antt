-- Steps with turns (02, K12): a step is cut as its label alone is, or where a later hop of its
-- label leads on; an open pair's step, later than all, is cut as its label is. Assumes nothing.
use Prim.Native.Nat.{ℕ, suc, ◌+◌, ◌≤◌, ◌<◌}
use mathlib.Core.Path.{◌≡◌, refl, sym, ap, ap₂, ◌∙◌}
use mathlib.Core.Bool.{Bool, true, false, ◌&&◌, ◌||◌, and-false, or-false, or_assoc}
use mathlib.Core.List.{List}
use native.Mathlib.Omega.{arith}
use native.Mathlib.Numerals.{add-one}
use borrow.Author.Tests.{le-ltb}
use lib.Dec.{eqb}
use Rattle.scope_graph.specs.Language.{◌∈◌, End, stop, by}
use Rattle.scope_graph.specs.Order.{end_of}
use Rattle.scope_graph.specs.Path.{HopOf}
use Rattle.scope_graph.specs.Rows.{any_of}
use Rattle.scope_graph.specs.Turns.{Turned, later, label_end, later_step}
use Rattle.block.specs.Sets.{has_scope, ALL_LABELS}
use Rattle.block.specs.Block.{Bounds, turn_cell, first_edge, edge_cell, label_of, turn_of, hop_of, hops_on, block_hops, pair_flag}
use Rattle.block.proofs.BlockLaws.{on_none, on_more, hops_scope}
use Rattle.block.proofs.EdgeLaws.{edge_of}
use Rattle.search.specs.declared.Node.{Node}
use Rattle.search.specs.Board.{Board, exists_from, hop_leads, cut_here, hits_from}
use Rattle.search.specs.Tables.{plain_end, end_number, table_order, table_board}
use Rattle.search.specs.Conditions.{LiveAt}
use Rattle.search.specs.Steps.{worth_state, later_leads}
use Rattle.search.proofs.RulesLists.{any_of_cons, any_of_same, any_of_no, any_of_or}
use Rattle.search.proofs.Leads.{Behind, leads_each, one, one_over, one_idle, enter_one}
use Rattle.search.proofs.CutEnds.{end_label, plain_label, later_plain}
use Rattle.search.proofs.Alike.{hits_alike}

either_and : (x y z : Bool) → ((x || y) && z) ≡ (x && z || y && z)
either_and true y true = refl
either_and true true false = refl
either_and true false false = refl
either_and false y z = refl

-- what is preferred to a step: what is to its label, or what is later
module _ (block : List ℕ) (t : Turned) where
  pub order_turned : (a : End Turned) → table_order block a (by t) ≡ (table_order block a (plain_end (by t.label)) || later_step a (by t))
  unfolding table_order
  order_turned a =
      sym (rw (later_plain a (by t.label), plain_label (by t.label))
      (ap (λ (x : Bool). x || later_step a (by t)) (or-false (pair_flag block (end_number (label_end a)) (end_number (by t.label))))))

  -- `$` is to both or to neither, and so is a step that is not later
  pub order_stop : table_order block stop (by t) ≡ table_order block stop (plain_end (by t.label))
  unfolding later_step
  order_stop = order_turned stop ∙ or-false (table_order block stop (plain_end (by t.label)))

  pub order_open : (a : End Turned) → later_step a (by t) ≡ false → table_order block a (by t) ≡ table_order block a (plain_end (by t.label))
  order_open a h = order_turned a ∙ rw h (or-false (table_order block a (plain_end (by t.label))))

  -- a step is cut as its label alone is, or where a later hop of its label leads on
  module _ (b : Board Turned) (fuel : ℕ) (free : ℕ → Bool) (s q : ℕ) where
    abbrev plain_hop : HopOf Turned → Bool
    plain_hop h = table_order block (by h.step) (plain_end (by t.label)) && hop_leads b fuel free q h

    abbrev later_hop : HopOf Turned → Bool
    later_hop h = later_step (by h.step) (by t) && hop_leads b fuel free q h

    hop_split : (h : HopOf Turned) → (table_order block (by h.step) (by t) && hop_leads b fuel free q h) ≡ (plain_hop h || later_hop h)
    hop_split h =
        ap (λ (x : Bool). x && hop_leads b fuel free q h) (order_turned (by h.step))
        ∙ either_and (table_order block (by h.step) (plain_end (by t.label))) (later_step (by h.step) (by t)) (hop_leads b fuel free q h)

    pub cut_turned : cut_here b (table_order block) fuel free s q (by t)
        ≡ (cut_here b (table_order block) fuel free s q (plain_end (by t.label))
        || any_of (λ h. later_step (by h.step) (by t) && hop_leads b fuel free q h) (b.hops s))
    unfolding cut_here
    cut_turned =
        ap₂ (λ (x y : Bool). b.here s q && x || y) order_stop
        (any_of_same _ _ (b.hops s) (λ h m. hop_split h) ∙ any_of_or plain_hop later_hop (b.hops s))
        ∙ sym (or_assoc (b.here s q && table_order block stop (plain_end (by t.label))) (any_of plain_hop (b.hops s)) (any_of later_hop (b.hops s)))

-- a step that no hop is later than, as an open pair's: the places followed to its label's end
pub hits_open : (block : List ℕ) (goal : ℕ) (t : Turned)
    → ((s : ℕ) (h : HopOf Turned) → h ∈ block_hops block s → later_step (by h.step) (by t) ≡ false)
    → (seek : ℕ → ℕ → Bool) (fuel : ℕ) (free : ℕ → Bool) (s q : ℕ)
    → hits_from (table_board block goal) (table_order block) seek (by t) fuel free s q
    ≡ hits_from (table_board block goal) (table_order block) seek (plain_end (by t.label)) fuel free s q
unfolding table_board
hits_open block goal t none_later =
    hits_alike (table_board block goal) (table_order block) (by t) (plain_end (by t.label)) (order_stop block t)
    (λ s h m. order_open block t (by h.step) (none_later s h m))

-- is edge p later than edge x, and does its hop lead on from the node?
module _ (block : List ℕ) (goal : ℕ) (n : Node) (x p : ℕ) where
  abbrev pub later_test : Bool
  later_test =
      later_step (by (hop_of (edge_cell block p)).step) (by (hop_of x).step)
      && hop_leads (table_board block goal) n.left (has_scope n.free) n.state (hop_of (edge_cell block p))

  -- not if it is not later, or its hop leads nowhere
  pub test_earlier : later_step (by (hop_of (edge_cell block p)).step) (by (hop_of x).step) ≡ false → later_test ≡ false
  test_earlier h = rw h

  test_vain : one block goal n ALL_LABELS (hop_of (edge_cell block p)) ≡ false → later_test ≡ false
  test_vain h =
      rw (leads_each block goal n (hop_of (edge_cell block p)) ∙ h)
      (and-false (later_step (by (hop_of (edge_cell block p)).step) (by (hop_of x).step)))

  pub test_over : n.left ≡ 0 → later_test ≡ false
  test_over h = test_vain (one_over block goal n ALL_LABELS h (hop_of (edge_cell block p)))

  pub test_idle : (live : List ℕ) → LiveAt block goal (has_scope n.free) live
      → 16 ≤ worth_state block live n.free n.state ALL_LABELS (hop_of (edge_cell block p)) → later_test ≡ false
  test_idle live closed h = test_vain (one_idle block goal n ALL_LABELS live closed (hop_of (edge_cell block p)) h)

  -- else if what is sought is at the node behind it, or further on
  pub test_on : later_step (by (hop_of (edge_cell block p)).step) (by (hop_of x).step) ≡ true
      → (live : List ℕ) (m : Node) → Behind block live n ALL_LABELS p m
      → later_test ≡ exists_from (table_board block goal) (suc m.left) (has_scope m.free) m.scope m.state
  test_on h live m behind =
      rw h (leads_each block goal n (hop_of (edge_cell block p)) ∙ enter_one block goal n ALL_LABELS live p m behind)

-- the same of the edges of the node's scope from number p on
module _ (block : List ℕ) (goal : ℕ) (n : Node) (x : ℕ) where
  abbrev pub later_from : ℕ → Bool
  later_from p = later_leads (table_board block goal) n (hop_of x).step (hops_on block n.scope p)

  pub from_none : (p : ℕ) → first_edge block (suc n.scope) ≤ p → later_from p ≡ false
  unfolding any_of
  from_none p h = rw (on_none block n.scope p h)

  from_step : (p : ℕ) → p < first_edge block (suc n.scope) → later_from p ≡ (later_test block goal n x p || later_from (suc p))
  from_step p h =
      ap (λ (hs : List (HopOf Turned)). later_leads (table_board block goal) n (hop_of x).step hs) (on_more block n.scope p h)
      ∙ any_of_cons _ (hop_of (edge_cell block p)) (hops_on block n.scope (suc p))

  pub from_found : (p : ℕ) → p < first_edge block (suc n.scope) → later_test block goal n x p ≡ true → later_from p ≡ true
  from_found p h e = from_step p h ∙ rw e

  pub from_more : (p : ℕ) → p < first_edge block (suc n.scope) → later_test block goal n x p ≡ false → later_from p ≡ later_from (p + 1)
  from_more p h e = from_step p h ∙ rw (e, add-one p)

-- an edge's step at a node
module _ (block : List ℕ) (goal : ℕ) (n : Node) (x : ℕ) where
  abbrev cut_at : End Turned → Bool
  cut_at e = cut_here (table_board block goal) (table_order block) n.left (has_scope n.free) n.scope n.state e

  -- its label's end by number, as the code asks
  abbrev pub by_label : Bool
  by_label = cut_at (plain_end (end_of (label_of x + 1)))

  abbrev pub later_on : Bool
  later_on = later_leads (table_board block goal) n (hop_of x).step (block_hops block n.scope)

  step_cut_lem : cut_at (by (hop_of x).step) ≡ (by_label || later_on)
  unfolding hop_of table_board
  step_cut_lem =
      cut_turned block (hop_of x).step (table_board block goal) n.left (has_scope n.free) n.scope n.state
      ∙ ap (λ (e : End ℕ). cut_at (plain_end e) || later_on) (sym (end_label (label_of x)))

  pub step_by_label : by_label ≡ true → cut_at (by (hop_of x).step) ≡ true
  step_by_label h = step_cut_lem ∙ rw h

  pub step_later : by_label ≡ false → cut_at (by (hop_of x).step) ≡ later_on
  step_later h = step_cut_lem ∙ rw h

  -- no edge is later than one of the highest turn
  not_later : (y : ℕ) → turn_of y ≤ turn_of x → later_step (by (hop_of y).step) (by (hop_of x).step) ≡ false
  unfolding later_step later hop_of
  not_later y h = rw (le-ltb (turn_of x) (turn_of y) h) (and-false (eqb (label_of y) (label_of x)))

  highest : Bounds block → turn_cell block ≤ turn_of x → later_on ≡ false
  highest bounds most =
      any_of_no (λ (h : HopOf Turned). later_step (by h.step) (by (hop_of x).step) && hop_leads (table_board block goal) n.left (has_scope n.free) n.state h)
      (block_hops block n.scope) (λ h m.
      let e = edge_of block n.scope h m in
      let below : turn_of (edge_cell block e.number) ≤ turn_of x = omega (arith, bounds.turns n.scope e.number (hops_scope block n.scope h m) e.before) in
      rw (e.is, not_later (edge_cell block e.number) below))

  pub step_highest : Bounds block → turn_cell block ≤ turn_of x → by_label ≡ false → cut_at (by (hop_of x).step) ≡ false
  step_highest bounds most h = step_later h ∙ highest bounds most
