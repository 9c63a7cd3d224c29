-- One step of the count each: a node with the scopes let go, an edge that is followed, and the edges
-- after it. Assumes nothing.
use Prim.Native.Nat.{ℕ, zero, suc, ◌+◌, ◌≤◌, ◌<◌}
use mathlib.Core.Path.{◌≡◌, sym, ap, ◌∙◌}
use mathlib.Core.Bool.{true}
use mathlib.Core.List.{List}
use native.Mathlib.Omega.{arith}
use Rattle.scope_graph.proofs.Lists.{true_false}
use Rattle.block.specs.Sets.{has_scope, ALL_LABELS, places_of}
use Rattle.block.specs.Block.{accept_set, edge_cell, hop_of, first_edge}
use Rattle.block.specs.Ask.{ask_goal}
use Rattle.search.specs.Live.{any_way}
use Rattle.search.specs.Tables.{place_flag, table_board}
use Rattle.search.specs.Conditions.{LiveAt, WorthAt, way_of}
use Rattle.search.specs.declared.Node.{Node}
use Rattle.search.proofs.Closed.{closed_less}
use Rattle.search.proofs.HopLaws.{worthy}
use Rattle.search.proofs.Leads.{Behind, taken_is}
use Rattle.follow.specs.Steps.{FollowedEdge, NextFollowed}
use Rattle.beginnings.specs.Beginnings.{MOST, capped}
use Rattle.beginnings.specs.Tables.{hopes_in}
use Rattle.beginnings.specs.Steps.{ALL_SCOPES, Few, Flooded, Tells, own_place, behind, behind_edges, Recalls}
use Rattle.beginnings.proofs.Few.{few_less}
use Rattle.beginnings.proofs.Tells.{capped_few, own_few, tells_is, tells_count, tells_sum, tells_most}
use Rattle.beginnings.proofs.NodeLaws.{node_on, edge_in, edges_skipped, edges_over}
use Rattle.beginnings.proofs.Recall.{tells_wide, tells_any}

-- the node with these scopes free
abbrev pub kept : Node → ℕ → Node
kept n r = record { free = r; left = n.left; scope = n.scope; state = n.state }

-- closed tables stay closed with scopes let go
module _ (block : List ℕ) (goal free r : ℕ) (less : (t : ℕ) → has_scope r t ≡ true → has_scope free t ≡ true) where
  pub live_less : (live : List ℕ) → LiveAt block goal (has_scope free) live → LiveAt block goal (has_scope r) live
  live_less live = closed_less (table_board block goal) (places_of goal (accept_set block)) (any_way (table_board block goal)) (has_scope r) (has_scope free) (place_flag live) less

  pub worth_less : (scopes states : ℕ) (worth : List ℕ) → WorthAt block goal scopes states (has_scope free) worth
      → WorthAt block goal scopes states (has_scope r) worth
  worth_less scopes states worth = closed_less (table_board block goal) (places_of scopes states) (way_of block goal) (has_scope r) (has_scope free) (place_flag worth) less

module _ (block near ask onward : List ℕ) where
  abbrev tells : ℕ → ℕ → Type 0
  tells x v = Tells block near (ask_goal ask) x v

  -- a node, from its first edge that is followed on
  module _ (n : Node) (r : ℕ) (few : Few n.left (has_scope n.free)) (flooded : Flooded near n.free n.scope r) where
    wide : (v : ℕ) → tells (behind block ask (suc n.left) (has_scope r) n.scope n.state) v
        → tells (behind block ask (suc n.left) (has_scope n.free) n.scope n.state) v
    wide v = tells_wide block near ask n.left n.free n.scope n.state r v flooded few

    -- what lies behind it was counted before
    pub node_had : (v : ℕ) → Recalls block near ask r n.scope n.state v → tells (behind block ask (suc n.left) (has_scope n.free) n.scope n.state) v
    node_had v had = wide v (had n.left (few_less n.left (has_scope r) (has_scope n.free) flooded.less few))

  module _ (n : Node) (r : ℕ) (few : Few n.left (has_scope n.free)) (flooded : Flooded near n.free n.scope r) (inside : n.scope < 64)
      (closed : WorthAt block (ask_goal ask) ALL_SCOPES (hopes_in block) (has_scope n.free) onward)
      (i : ℕ) (next : NextFollowed block ask onward (kept n r) (first_edge block n.scope) i)
      (own : ℕ) (is : own ≡ own_place (hopes_in block) n.state) where
    abbrev narrow : ℕ
    narrow = behind block ask (suc n.left) (has_scope r) n.scope n.state

    inner : WorthAt block (ask_goal ask) ALL_SCOPES (hopes_in block) (has_scope r) onward
    inner = worth_less block (ask_goal ask) n.free r flooded.less ALL_SCOPES (hopes_in block) onward closed

    narrow_is : narrow ≡ own + behind_edges block ask (kept n r) (first_edge block n.scope)
    narrow_is = node_on block ask (kept n r) inside ∙ ap (λ (k : ℕ). k + behind_edges block ask (kept n r) (first_edge block n.scope)) (sym is)

    own_tells : tells own own
    own_tells = let one = own_few (hopes_in block) n.state in tells_count block near (ask_goal ask) own own (sym (capped_few own (omega (arith, is))))

    -- none is followed
    pub node_last : first_edge block (suc n.scope) ≤ i → tells (behind block ask (suc n.left) (has_scope n.free) n.scope n.state) own
    node_last past =
        let none = edges_over block ask (kept n r) onward inner (first_edge block n.scope) i next past in
        wide n r few flooded own (tells_is block near (ask_goal ask) own narrow own (sym (narrow_is ∙ omega (arith, none))) own_tells)

    -- the edges from there on are counted
    module _ (all : ℕ) (told : (x : ℕ) → tells x own → tells (x + behind_edges block ask (kept n r) i) all) where
      narrow_told : tells narrow all
      narrow_told =
          let skip = edges_skipped block ask (kept n r) onward inner (first_edge block n.scope) i next in
          tells_is block near (ask_goal ask) _ narrow all (sym (narrow_is ∙ ap (λ (k : ℕ). own + k) skip)) (told own own_tells)

      pub node_most : all ≤ MOST
      node_most = narrow_told.most

      pub node_told : tells (behind block ask (suc n.left) (has_scope n.free) n.scope n.state) all
      node_told = wide n r few flooded all narrow_told

      pub node_recalled : Recalls block near ask r n.scope n.state all
      node_recalled = tells_any block near ask n.left r n.scope n.state all (few_less n.left (has_scope r) (has_scope n.free) flooded.less few) narrow_told

  -- the hop of an edge that is followed
  module _ (n : Node) (few : Few n.left (has_scope n.free)) (p : ℕ) (here : FollowedEdge block ask onward n p) where
    some_left : (k : ℕ) → Few k (has_scope n.free) → 0 < k
    unfolding Few
    some_left zero f = absurd (true_false (worthy block onward n.free n.state ALL_LABELS (hop_of (edge_cell block p)) here.worth).free_to (f (hop_of (edge_cell block p)).to))
    some_left (suc k) f = omega arith

    pub left_some : 0 < n.left
    left_some = some_left n.left few

    module _ (m : Node) (enters : Behind block onward n ALL_LABELS p m) where
      fewer : (k : ℕ) → k ≡ suc m.left → Few k (has_scope n.free) → Few m.left (has_scope m.free)
      unfolding Few
      fewer zero e f = absurd (omega arith)
      fewer (suc k) e f =
          let one : k ≡ m.left = omega arith in
          rw (← one, taken_is n.free (hop_of (edge_cell block p)).to m.free enters.enters.free)
          (f (hop_of (edge_cell block p)).to (worthy block onward n.free n.state ALL_LABELS (hop_of (edge_cell block p)) here.worth).free_to)

      pub few_entered : Few m.left (has_scope m.free)
      few_entered = fewer n.left (sym enters.enters.left) few

      -- what was counted, with what lies behind it
      module _ (so w sum x : ℕ) (behind-m : tells (behind block ask (suc m.left) (has_scope m.free) m.scope m.state) w) (is : sum ≡ capped (so + w))
          (before : tells x so) where
        abbrev with_m : ℕ
        with_m = x + behind block ask (suc m.left) (has_scope m.free) m.scope m.state

        pub edge_told : tells with_m sum
        edge_told = tells_sum block near (ask_goal ask) x _ so w sum before behind-m is

        edge_is : with_m + behind_edges block ask n (p + 1) ≡ x + behind_edges block ask n p
        edge_is = let one = edge_in block ask n onward p here m enters in omega arith

        pub edge_most : MOST ≤ sum → tells (x + behind_edges block ask n p) sum
        edge_most h = tells_is block near (ask_goal ask) _ _ sum edge_is (tells_most block near (ask_goal ask) with_m _ sum edge_told h)

        module _ (closed : WorthAt block (ask_goal ask) ALL_SCOPES (hopes_in block) (has_scope n.free) onward)
            (j : ℕ) (next : NextFollowed block ask onward n (p + 1) j) where
          pub edge_last : first_edge block (suc n.scope) ≤ j → tells (x + behind_edges block ask n p) sum
          edge_last past =
              let none = edges_over block ask n onward closed (p + 1) j next past in
              tells_is block near (ask_goal ask) _ _ sum (omega (arith, edge_is)) edge_told

          pub edge_further : (all : ℕ) → tells (with_m + behind_edges block ask n j) all → tells (x + behind_edges block ask n p) all
          edge_further all told =
              let skip = edges_skipped block ask n onward closed (p + 1) j next in
              tells_is block near (ask_goal ask) _ _ all (ap (λ (k : ℕ). with_m + k) (sym skip) ∙ edge_is) told
