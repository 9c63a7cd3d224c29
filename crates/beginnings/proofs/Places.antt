-- The places that the search finds over the block of a table that was read are the beginnings of
-- the rules. Assumes nothing.
use Prim.Native.Nat.{ℕ, ◌≤◌, ◌<◌}
use mathlib.Core.Path.{◌≡◌, sym, ap, ◌∙◌}
use mathlib.Core.Bool.{Bool, true, false, not, ◌&&◌}
use mathlib.Core.List.{List}
use native.Mathlib.Omega.{arith}
use borrow.Author.Tests.{lt-ltb}
use lib.Dec.{ltb}
use lib.ListN.{length}
use Rattle.scope_graph.specs.Language.{End, Language, Laws}
use Rattle.scope_graph.specs.Graph.{Graph, InRange, Query}
use Rattle.scope_graph.specs.Rows.{language}
use Rattle.scope_graph.specs.Turns.{Turned, label_end}
use Rattle.scope_graph.specs.Computed.{NodeOf, leads_on, nodes, cut}
use Rattle.scope_graph.proofs.Nodes.{hops_at_elim}
use Rattle.graph_rows.specs.Decode.{rules_of, graph_of, scopes_of}
use Rattle.graph_rows.specs.Accepted.{AcceptedTable}
use Rattle.block.specs.Sets.{has_state}
use Rattle.block.specs.Block.{scopes_cell}
use Rattle.block.specs.Ask.{ask_start, ask_goal}
use Rattle.block.proofs.BlockLaws.{pair_no_second}
use Rattle.search.specs.Board.{Board, board_of, without, hits_from}
use Rattle.search.specs.Tables.{end_number, table_order, table_board}
use Rattle.search.specs.Conditions.{free_at}
use Rattle.search.proofs.Rules.{hits_kept}
use Rattle.search.proofs.RulesLists.{keep_same}
use Rattle.search.proofs.CutEnds.{order_plain}
use Rattle.board.specs.Queries.{query_at}
use Rattle.board.proofs.Board.{hops_are, hopeful_are}
use Rattle.board.proofs.Queries.{accepted, sound}
use Rattle.resolution.specs.Asked.{Ready, query_in}
use Rattle.resolution.proofs.Given.{scopes_same, board_same, order_same}
use Rattle.beginnings.specs.Tables.{hopes_in, past_ends, places_behind, InScopes}
use Rattle.beginnings.specs.Beginnings.{capped, cut_before, beginnings, followed_count}
use Rattle.beginnings.proofs.StepCuts.{cut_past}

module _ (cells block ask : List ℕ) (ready : Ready cells block ask) where
  abbrev L : Language
  L = language (rules_of cells)

  abbrev g : Graph L
  g = graph_of cells

  abbrev q : Query L
  q = query_in cells ask

  t : AcceptedTable cells
  t = accepted cells ready.asked.read

  laws : Laws L
  laws = (t.accepted q ready.asked.starts).laws

  range : InRange L g
  range = (t.accepted q ready.asked.starts).in_range

  all_free : (s : ℕ) → s < scopes_of cells → ltb s 64 ≡ true
  all_free s h = lt-ltb s 64 (let m = t.scopes_most in omega arith)

  -- no end is preferred to the one behind all
  none_past : (a : End Turned) → L.prefers a past_ends ≡ false
  unfolding past_ends
  none_past a =
      ap (λ (o : End Turned → End Turned → Bool). o a past_ends) (sym (order_same cells ready.asked.read block ready.made))
      ∙ order_plain block a 9
      ∙ pair_no_second block (end_number (label_end a)) 9 (omega arith)

  -- a place is asked for and not cut exactly if its path is a beginning
  abbrev hopeful : ℕ → ℕ → Bool
  hopeful s r = has_state (hopes_in block) r

  kept_same : (n : NodeOf Turned) → (hopeful n.at n.state && not (cut L g q n.hops past_ends)) ≡ (leads_on L 16 n.state && not (cut_before L g q n.hops))
  unfolding hopes_in
  kept_same n =
      rw (hopeful_are cells block (sound cells ready.asked.read) ready.made n.state, cut_past L laws g q past_ends none_past n.hops)

  -- the places, by the block and by the rules
  abbrev found : Board Turned → (End Turned → End Turned → Bool) → ℕ → List (NodeOf Turned)
  found b prefers fuel = hits_from b prefers hopeful past_ends fuel (without (λ s. ltb s 64) (ask_start ask)) (ask_start ask) 0

  found_same : found (table_board block (ask_goal ask)) (table_order block) (scopes_cell block) ≡ found (board_of L g q.name) L.prefers (scopes_of cells)
  found_same =
      ap (λ (b : Board Turned). found b (table_order block) (scopes_cell block)) (board_same cells ready.asked.read block ready.made q.name (ask_goal ask) ready.goal)
      ∙ ap (λ (o : End Turned → End Turned → Bool). found (board_of L g q.name) o (scopes_cell block)) (order_same cells ready.asked.read block ready.made)
      ∙ ap (λ (n : ℕ). found (board_of L g q.name) L.prefers n) (scopes_same cells ready.asked.read block ready.made)

  -- the places that the search finds from the query's start on are the beginnings
  pub places : places_behind block (ask_goal ask) (scopes_cell block) (free_at (ask_start ask)) (ask_start ask) 0 ≡ beginnings L g q
  unfolding places_behind free_at beginnings graph_of
  places =
      found_same
      ∙ hits_kept L laws g q range ready.asked.starts (λ s. ltb s 64) all_free hopeful past_ends
      ∙ keep_same _ _ (nodes L g q) (λ n m. kept_same n)

  -- what counting over the block asks for besides
  pub in_scopes : InScopes block
  unfolding graph_of
  in_scopes s h m =
      let edge = hops_at_elim L g.edges s (rw (hops_are cells block (sound cells ready.asked.read) ready.made s) at m) in
      rw (scopes_same cells ready.asked.read block ready.made) (range.to_scope _ edge)

  pub starts_inside : ask_start ask < scopes_cell block
  starts_inside = rw (scopes_same cells ready.asked.read block ready.made) ready.asked.starts

  pub scopes_few : scopes_cell block ≤ 64
  scopes_few = rw (scopes_same cells ready.asked.read block ready.made) t.scopes_most

  -- the ask is that of query i: the number over the block is the query's
  pub count_of_lem : (i : ℕ) → query_in cells ask ≡ query_at cells i
      → capped (length (places_behind block (ask_goal ask) (scopes_cell block) (free_at (ask_start ask)) (ask_start ask) 0)) ≡ followed_count cells i
  unfolding followed_count
  count_of_lem i e = ap (λ (l : List (NodeOf Turned)). capped (length l)) (places ∙ ap (beginnings L g) e)
