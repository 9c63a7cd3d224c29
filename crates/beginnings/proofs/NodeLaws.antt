-- How many places lie behind a node: itself, and those behind its edges, of which some are passed
-- over. Assumes nothing.
use Prim.Native.Nat.{ℕ, suc, ◌+◌, ◌≤◌, ◌<◌}
use mathlib.Core.Path.{◌≡◌, refl, sym, ap, ◌∙◌}
use mathlib.Core.Logic.{◌⊎◌, inl, inr}
use mathlib.Core.Bool.{Bool, true, false, not, ◌||◌}
use mathlib.Core.List.{List, [], ◌∷◌, flat_map}
use native.Mathlib.Omega.{arith}
use lib.ListN.{length, length-append}
use Rattle.scope_graph.specs.Path.{HopOf}
use Rattle.scope_graph.specs.Turns.{Turned}
use Rattle.scope_graph.proofs.Lists.{Two}
use Rattle.block.specs.Sets.{has_scope, has_state, ALL_LABELS, places_of}
use Rattle.block.specs.Block.{edge_cell, hop_of, first_edge, hops_on}
use Rattle.block.specs.Ask.{ask_goal}
use Rattle.block.proofs.SetLaws.{scopes_all, places_in_lem, places_no_state}
use Rattle.search.specs.Conditions.{WorthAt}
use Rattle.search.specs.Tables.{table_board}
use Rattle.search.specs.declared.Node.{Node}
use Rattle.search.proofs.CutEnds.{cut_past}
use Rattle.search.proofs.Leads.{Behind}
use Rattle.follow.specs.Tally.{Taken}
use Rattle.follow.specs.Walk.{place_rows, places_from, rows_from}
use Rattle.follow.specs.Steps.{own_rows, hop_rows, FollowedEdge, NextFollowed}
use Rattle.follow.proofs.FollowLaws.{own_passed, own_place_lem, rows_on, rest_enter, rest_last, rest_further}
use Rattle.beginnings.specs.Tables.{hopes_in}
use Rattle.beginnings.specs.Steps.{ALL_SCOPES, any_place, own_place, behind, behind_edges}

-- where places are sought each gives one row
one_each : {A B : Type 0} (f : A → List B) (l : List A) → ((a : A) → length (f a) ≡ 1) → length (flat_map f l) ≡ length l
unfolding flat_map
one_each f [] h = refl
one_each f (x ∷ l) h = let one = h x in let more = one_each f l h in simp length-append (omega arith)

module _ (block ask : List ℕ) where
  abbrev rows : List (HopOf Turned) → ℕ → (ℕ → Bool) → ℕ → ℕ → List Taken
  rows hops fuel free s q = rows_from block [] ask (any_place block) hops fuel free s q

  rows_count : (hops : List (HopOf Turned)) (fuel : ℕ) (free : ℕ → Bool) (s q : ℕ) → length (rows hops fuel free s q) ≡ behind block ask fuel free s q
  unfolding rows_from place_rows behind
  rows_count hops fuel free s q = one_each _ (places_from block [] ask ALL_SCOPES (hopes_in block) 9 fuel free s q) (λ a. refl)

  module _ (n : Node) (inside : n.scope < 64) where
    abbrev whole : ℕ
    whole = behind block ask (suc n.left) (has_scope n.free) n.scope n.state

    by_rows : (passed : Bool) → passed ≡ not (places_of ALL_SCOPES (hopes_in block) n.scope n.state)
        → whole ≡ length (own_rows block [] ask (any_place block) [] n passed) + behind_edges block ask n (first_edge block n.scope)
    unfolding behind_edges
    by_rows passed e =
        sym (rows_count [] (suc n.left) (has_scope n.free) n.scope n.state)
        ∙ ap length (rows_on block [] ask (any_place block) [] n inside passed (e ∙ sym (rw (cut_past (table_board block (ask_goal ask)) block n.left (has_scope n.free) n.scope n.state 9 (omega arith)) (or_no (not (places_of ALL_SCOPES (hopes_in block) n.scope n.state))))) (first_edge block n.scope) refl)
        ∙ (simp length-append)
      where
        or_no : (x : Bool) → (x || false) ≡ x
        or_no true = refl
        or_no false = refl

    -- the node itself, and what lies behind its edges
    pub node_on : whole ≡ own_place (hopes_in block) n.state + behind_edges block ask n (first_edge block n.scope)
    unfolding own_place
    node_on = at (Two (has_state (hopes_in block) n.state))
      where
        at : (has_state (hopes_in block) n.state ≡ true) ⊎ (has_state (hopes_in block) n.state ≡ false)
            → whole ≡ own_place (hopes_in block) n.state + behind_edges block ask n (first_edge block n.scope)
        at (inl h) =
            by_rows false (sym (ap not (places_in_lem ALL_SCOPES (hopes_in block) n.scope n.state (scopes_all n.scope inside) h)))
            ∙ rw (own_place_lem block [] ask (any_place block) [] n false refl refl, h, own_place)
        at (inr h) =
            by_rows true (sym (ap not (places_no_state ALL_SCOPES (hopes_in block) n.scope n.state h)))
            ∙ rw (own_passed block [] ask (any_place block) [] n true refl, h, own_place)

  module _ (n : Node) (onward : List ℕ) where
    -- an edge that is followed
    pub edge_in : (p : ℕ) → FollowedEdge block ask onward n p → (m : Node) → Behind block onward n ALL_LABELS p m
        → behind_edges block ask n p ≡ behind block ask (suc m.left) (has_scope m.free) m.scope m.state + behind_edges block ask n (p + 1)
    unfolding behind_edges
    edge_in p here m enters =
        ap length (rest_enter block [] ask (any_place block) [] n onward p here m enters (hop_of (edge_cell block p) ∷ []) (edge_cell block p) refl refl)
        ∙ (simp length-append)
        ∙ ap (λ (k : ℕ). k + behind_edges block ask n (p + 1)) (rows_count (hop_of (edge_cell block p) ∷ []) (suc m.left) (has_scope m.free) m.scope m.state)

    module _ (closed : WorthAt block (ask_goal ask) ALL_SCOPES (hopes_in block) (has_scope n.free) onward) (p j : ℕ) (next : NextFollowed block ask onward n p j) where
      abbrev rest : ℕ → List Taken
      rest i = flat_map (hop_rows block [] ask (any_place block) [] n) (hops_on block n.scope i)

      -- those before the next that is followed
      pub edges_skipped : behind_edges block ask n p ≡ behind_edges block ask n j
      unfolding behind_edges
      edges_skipped = ap length (rest_further block [] ask (any_place block) [] n p (rest p) [] refl onward closed j next)

      pub edges_over : first_edge block (suc n.scope) ≤ j → behind_edges block ask n p ≡ 0
      unfolding behind_edges
      edges_over past = ap length (rest_last block [] ask (any_place block) [] n p (rest p) [] refl onward closed j next past)
