-- One step of `exists_from` and of the look through a node's hops; what a hop that is not worth
-- entering leads to; a closed table stays closed with a scope taken. Assumes nothing.
use mathlib.Core.Path.{◌≡◌, refl, sym, ap, ◌∙◌, fun_ext, subst}
use mathlib.Core.Logic.{◌⊎◌, inl, inr, ⊎_elim}
use mathlib.Core.Bool.{Bool, true, false, not, ◌&&◌, ◌||◌, and-false}
use mathlib.Core.Option.{Option, some, none}
use mathlib.Core.List.{List}
use Prim.Native.Nat.{ℕ, suc, ◌+◌, ◌≤◌, ◌<◌}
use native.Mathlib.Omega.{arith}
use lib.Dec.{eqb}
use Rattle.scope_graph.specs.Language.{◌∈◌}
use Rattle.scope_graph.specs.Path.{HopOf}
use Rattle.scope_graph.specs.Turns.{Turned}
use Rattle.scope_graph.specs.Rows.{any_of}
use Rattle.scope_graph.proofs.Lists.{Two, any_of_intro}
use Rattle.block.specs.Sets.{has_scope, has_label, ALL_LABELS, places_of}
use Rattle.block.specs.Block.{state_of, next_cell, accept_set, first_edge, edge_cell, hop_of, hops_on, block_hops}
use Rattle.block.proofs.SetLaws.{places_none}
use Rattle.block.proofs.BlockLaws.{state_some, state_none, state_cell_lem, hop_to_lem, block_hops_in}
use Rattle.search.specs.declared.Node.{Node}
use Rattle.search.specs.Board.{without, leads_to, exists_from, hop_leads}
use Rattle.search.specs.Live.{Closed, any_way}
use Rattle.search.specs.Tables.{place_flag, table_board}
use Rattle.search.specs.Conditions.{Inside, LiveAt, WorthAt, way_of}
use Rattle.search.specs.Steps.{worth_state, Entered, leads_by}
use Rattle.search.proofs.Cells.{place_state}
use Rattle.search.proofs.HopLaws.{NextHop, worthy, idle, hop_yes, all_stuck}
use Rattle.search.proofs.RulesLists.{any_of_cons, any_of_same, any_of_no, any_of_append}
use Rattle.search.proofs.Closed.{closed_less, closed_exists, without_within}

-- a set with a scope taken
abbrev pub Taken : ℕ → ℕ → ℕ → Type 0
Taken free s r = (u : ℕ) → has_scope r u ≡ (has_scope free u && not (eqb u s))

pub taken_is : (free s r : ℕ) → Taken free s r → has_scope r ≡ without (has_scope free) s
unfolding without
taken_is free s r h = fun_ext h

-- a closed table stays closed with a scope taken
module _ (block : List ℕ) (goal free s r : ℕ) (taken : Taken free s r) where
  closed_taken : (seek : ℕ → ℕ → Bool) (way : ℕ → ℕ → Turned → Bool) (live : ℕ → ℕ → Bool) → Closed (table_board block goal) seek way (has_scope free) live
      → Closed (table_board block goal) seek way (has_scope r) live
  closed_taken seek way live c =
      closed_less (table_board block goal) seek way (has_scope r) (has_scope free) live
      (rw (taken_is free s r taken) (without_within (has_scope free) (has_scope free) s (λ k h. h))) c

  pub live_taken : (live : List ℕ) → LiveAt block goal (has_scope free) live → LiveAt block goal (has_scope r) live
  live_taken live = closed_taken (places_of goal (accept_set block)) (any_way (table_board block goal)) (place_flag live)

  pub worth_taken : (scopes states : ℕ) (worth : List ℕ) → WorthAt block goal scopes states (has_scope free) worth
      → WorthAt block goal scopes states (has_scope r) worth
  worth_taken scopes states worth = closed_taken (places_of scopes states) (way_of block goal) (place_flag worth)

-- where no scope cuts, all steps may be followed
pub way_none : (block : List ℕ) (goal : ℕ) → way_of block 0 ≡ any_way (table_board block goal)
unfolding way_of any_way
way_none block goal = fun_ext (λ s. fun_ext (λ q. fun_ext (λ t. rw (places_none (accept_set block) s q))))

-- m is the node behind edge i's hop, which is worth entering
pub record Behind (block table : List ℕ) (n : Node) (labels i : ℕ) (m : Node) : Type 0 where
  pub good : worth_state block table n.free n.state labels (hop_of (edge_cell block i)) < 16
  pub enters : Entered n (hop_of (edge_cell block i)) (worth_state block table n.free n.state labels (hop_of (edge_cell block i))) m

-- as the code comes to it: the edge read, the state looked up, the node made
pub behind_node : {block table : List ℕ} {n : Node} {labels i x r : ℕ} {m : Node}
    → worth_state block table n.free n.state labels (hop_of (edge_cell block i)) < 16 → x ≡ edge_cell block i
    → r ≡ worth_state block table n.free n.state labels (hop_of x) → Entered n (hop_of x) r m → Behind block table n labels i m
behind_node {block} {table} {n} {labels} {i} {x} {r} {m} good edge state in-m = record {
  good = good;
  enters = subst (λ (y : ℕ). Entered n (hop_of y) (worth_state block table n.free n.state labels (hop_of y)) m) edge
      (subst (λ (y : ℕ). Entered n (hop_of x) y m) state in-m);
}

module _ (block : List ℕ) (goal : ℕ) where
  -- at the place itself
  pub exists_here : (fuel : ℕ) (free : ℕ → Bool) (s q : ℕ) → places_of goal (accept_set block) s q ≡ true
      → exists_from (table_board block goal) (suc fuel) free s q ≡ true
  unfolding exists_from table_board
  exists_here fuel free s q e = rw (e, exists_from)

  -- a hop with no state behind it leads nowhere
  leads_stuck : (n : Node) (h : HopOf Turned) → state_of (next_cell block n.state h.step.label) ≡ none
      → hop_leads (table_board block goal) n.left (has_scope n.free) n.state h ≡ false
  unfolding hop_leads leads_to table_board
  leads_stuck n h e = at (Two (has_scope n.free h.to))
    where
      at : (has_scope n.free h.to ≡ true) ⊎ (has_scope n.free h.to ≡ false)
          → hop_leads (table_board block goal) n.left (has_scope n.free) n.state h ≡ false
      at (inl f) = rw (f, e, leads_to)
      at (inr f) = rw (f, leads_to)

  -- so to ask for all labels is to ask for every hop
  pub leads_each : (n : Node) (h : HopOf Turned) → hop_leads (table_board block goal) n.left (has_scope n.free) n.state h
      ≡ (has_label ALL_LABELS h.step.label && hop_leads (table_board block goal) n.left (has_scope n.free) n.state h)
  leads_each n h = at (Two (has_label ALL_LABELS h.step.label))
    where
      at : (has_label ALL_LABELS h.step.label ≡ true) ⊎ (has_label ALL_LABELS h.step.label ≡ false)
          → hop_leads (table_board block goal) n.left (has_scope n.free) n.state h
          ≡ (has_label ALL_LABELS h.step.label && hop_leads (table_board block goal) n.left (has_scope n.free) n.state h)
      at (inl e) = rw e
      at (inr e) = leads_stuck n h (state_none (next_cell block n.state h.step.label) (all_stuck block n.state h e)) ∙ sym (rw e)

  leads_all : (n : Node) (hs : List (HopOf Turned)) → any_of (hop_leads (table_board block goal) n.left (has_scope n.free) n.state) hs
      ≡ leads_by (table_board block goal) n ALL_LABELS hs
  leads_all n hs = any_of_same (hop_leads (table_board block goal) n.left (has_scope n.free) n.state) _ hs (λ h m. leads_each n h)

  pub exists_on : (n : Node) → n.scope < 64 → places_of goal (accept_set block) n.scope n.state ≡ false
      → exists_from (table_board block goal) (suc n.left) (has_scope n.free) n.scope n.state
      ≡ leads_by (table_board block goal) n ALL_LABELS (hops_on block n.scope (first_edge block n.scope))
  unfolding exists_from table_board hop_leads
  exists_on n inside e = rw (e, exists_from) (rw (block_hops_in block n.scope inside) (leads_all n (hops_on block n.scope (first_edge block n.scope))))

  module _ (n : Node) (labels : ℕ) where
    -- does the question ask for the hop, and does it lead on?
    abbrev pub one : HopOf Turned → Bool
    one h = has_label labels h.step.label && hop_leads (table_board block goal) n.left (has_scope n.free) n.state h

    one_unasked : (h : HopOf Turned) → has_label labels h.step.label ≡ false → one h ≡ false
    one_unasked h e = rw e

    one_taken : (h : HopOf Turned) → has_scope n.free h.to ≡ false → one h ≡ false
    unfolding hop_leads leads_to
    one_taken h e = rw (e, leads_to) (and-false (has_label labels h.step.label))

    -- with no hop left nothing is led to
    pub one_over : n.left ≡ 0 → (h : HopOf Turned) → one h ≡ false
    unfolding hop_leads leads_to table_board exists_from
    one_over z h = at (Two (has_scope n.free h.to)) (state_of (next_cell block n.state h.step.label)) refl ∙ and-false (has_label labels h.step.label)
      where
        at : (has_scope n.free h.to ≡ true) ⊎ (has_scope n.free h.to ≡ false) → (o : Option ℕ) → state_of (next_cell block n.state h.step.label) ≡ o
            → one h ≡ (has_label labels h.step.label && false)
        at (inr f) o e = rw (f, leads_to)
        at (inl f) none e = rw (f, e, leads_to)
        at (inl f) (some r) e = rw (f, e, z, leads_to)

    pub leads_over : n.left ≡ 0 → (hs : List (HopOf Turned)) → leads_by (table_board block goal) n labels hs ≡ false
    leads_over z hs = any_of_no one hs (λ h m. one_over z h)

    -- a hop to a free scope, with the state behind it
    one_state : (h : HopOf Turned) (r : ℕ) → has_label labels h.step.label ≡ true → has_scope n.free h.to ≡ true → state_of (next_cell block n.state h.step.label) ≡ some r
        → one h ≡ exists_from (table_board block goal) n.left (without (has_scope n.free) h.to) h.to r
    unfolding hop_leads leads_to table_board
    one_state h r w f e = rw (w, f, e, leads_to)

    one_stuck : (h : HopOf Turned) → state_of (next_cell block n.state h.step.label) ≡ none → one h ≡ false
    one_stuck h e = rw (leads_stuck n h e) (and-false (has_label labels h.step.label))

    -- whether the node behind a hop worth entering leads on is whether the hop does
    one_enter : (table : List ℕ) (h : HopOf Turned) (m : Node) → worth_state block table n.free n.state labels h < 16
        → Entered n h (worth_state block table n.free n.state labels h) m
        → one h ≡ exists_from (table_board block goal) (suc m.left) (has_scope m.free) m.scope m.state
    one_enter table h m good in-m =
        let w = worthy block table n.free n.state labels h good in
        let is = hop_yes block table n.free n.state labels h w.asked w.free_to w.held in
        one_state h (next_cell block n.state h.step.label) w.asked w.free_to
        (state_some (next_cell block n.state h.step.label) (place_state table h.to (next_cell block n.state h.step.label) w.held))
        ∙ rw (in-m.left, in-m.scope, in-m.state, is, taken_is n.free h.to m.free in-m.free)

    -- the node behind an edge whose hop is worth entering
    module _ (table : List ℕ) (i : ℕ) (m : Node) (behind : Behind block table n labels i m) where
      pub enter_inside : Inside m
      enter_inside = record {
        scope = rw behind.enters.scope (hop_to_lem (edge_cell block i));
        state = rw behind.enters.state behind.good;
      }

      pub enter_live : LiveAt block goal (has_scope n.free) table → LiveAt block goal (has_scope m.free) table
      enter_live = live_taken block goal n.free (hop_of (edge_cell block i)).to m.free behind.enters.free table

      pub enter_one : one (hop_of (edge_cell block i)) ≡ exists_from (table_board block goal) (suc m.left) (has_scope m.free) m.scope m.state
      enter_one = one_enter table (hop_of (edge_cell block i)) m behind.good behind.enters

    -- a closed table: hops worth nothing lead nowhere
    module _ (live : List ℕ) (closed : LiveAt block goal (has_scope n.free) live) where
      one_dead : (h : HopOf Turned) → has_scope n.free h.to ≡ true → has_label labels h.step.label ≡ true → place_flag live h.to (next_cell block n.state h.step.label) ≡ false → one h ≡ false
      unfolding table_board
      one_dead h f w d = at (state_of (next_cell block n.state h.step.label)) refl
        where
          at : (o : Option ℕ) → state_of (next_cell block n.state h.step.label) ≡ o → one h ≡ false
          at none e = one_stuck h e
          at (some r) e =
              one_state h r w f e
              ∙ closed_exists (table_board block goal) (has_scope n.free) (place_flag live) closed n.left (without (has_scope n.free) h.to) h.to r
              (without_within (has_scope n.free) (has_scope n.free) h.to (λ k x. x)) f (rw (state_cell_lem (next_cell block n.state h.step.label) r e) at d)

      pub one_idle : (h : HopOf Turned) → 16 ≤ worth_state block live n.free n.state labels h → one h ≡ false
      one_idle h k =
          ⊎_elim (one_unasked h) (⊎_elim (one_taken h) (λ d. at (Two (has_label labels h.step.label)) (Two (has_scope n.free h.to)) d))
          (idle block live n.free n.state labels h k)
        where
          at : (has_label labels h.step.label ≡ true) ⊎ (has_label labels h.step.label ≡ false) → (has_scope n.free h.to ≡ true) ⊎ (has_scope n.free h.to ≡ false)
              → place_flag live h.to (next_cell block n.state h.step.label) ≡ false → one h ≡ false
          at (inr w) f d = one_unasked h w
          at (inl w) (inr f) d = one_taken h f
          at (inl w) (inl f) d = one_dead h f w d

      -- the hops from edge p on, of which edge i's is the next
      module _ (p i : ℕ) (next : NextHop block live n labels p i) where
        abbrev on : ℕ → Bool
        on k = leads_by (table_board block goal) n labels (hops_on block n.scope k)

        pub next_skip : on p ≡ on i
        next_skip =
            ap (any_of one) next.split ∙ any_of_append one next.skipped (hops_on block n.scope i)
            ∙ rw (any_of_no one next.skipped (λ h m. one_idle h (next.idle h m)))

        pub next_none : first_edge block (suc n.scope) ≤ i → on p ≡ false
        unfolding any_of
        next_none past = next_skip ∙ rw (next.none past)

        module _ (before : i < first_edge block (suc n.scope)) (m : Node) (behind : Behind block live n labels i m) where
          abbrev exists_m : Bool
          exists_m = exists_from (table_board block goal) (suc m.left) (has_scope m.free) m.scope m.state

          next_step : on p ≡ (exists_m || on (suc i))
          next_step =
              next_skip ∙ ap (any_of one) (next.found before) ∙ any_of_cons one (hop_of (edge_cell block i)) (hops_on block n.scope (suc i))
              ∙ ap (λ (y : Bool). y || on (suc i)) (enter_one live i m behind)

          pub next_found : exists_m ≡ true → on p ≡ true
          next_found e = next_step ∙ rw e

          pub next_on : exists_m ≡ false → on p ≡ on (i + 1)
          next_on e = let more : i + 1 ≡ suc i = omega arith in next_step ∙ rw (e, more)

-- an edge of the node whose hop is worth entering: what exists at the node behind it is led to
module _ (block : List ℕ) (goal : ℕ) (n : Node) (labels : ℕ) (table : List ℕ) (p : ℕ) (leaves : hop_of (edge_cell block p) ∈ block_hops block n.scope)
    (m : Node) (behind : Behind block table n labels p m) where
  hop_exists : exists_from (table_board block goal) (suc m.left) (has_scope m.free) m.scope m.state ≡ true
      → leads_by (table_board block goal) n labels (block_hops block n.scope) ≡ true
  hop_exists e = any_of_intro (one block goal n labels) leaves (enter_one block goal n labels table p m behind ∙ e)

  pub hop_here : places_of goal (accept_set block) m.scope m.state ≡ true
      → leads_by (table_board block goal) n labels (block_hops block n.scope) ≡ true
  hop_here e = hop_exists (exists_here block goal m.left (has_scope m.free) m.scope m.state e)

  pub hop_leads_lem : leads_by (table_board block goal) m ALL_LABELS (block_hops block m.scope) ≡ true
      → leads_by (table_board block goal) n labels (block_hops block n.scope) ≡ true
  hop_leads_lem e = at (Two (places_of goal (accept_set block) m.scope m.state))
    where
      at : (places_of goal (accept_set block) m.scope m.state ≡ true) ⊎ (places_of goal (accept_set block) m.scope m.state ≡ false)
          → leads_by (table_board block goal) n labels (block_hops block n.scope) ≡ true
      at (inl h) = hop_here h
      at (inr h) =
          hop_exists (exists_on block goal m (enter_inside block goal n labels table p m behind).scope h
          ∙ rw (sym (block_hops_in block m.scope (enter_inside block goal n labels table p m behind).scope)) e)
