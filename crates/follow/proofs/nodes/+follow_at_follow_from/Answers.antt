-- `follow_at` and `follow_from` meet their contracts: one step each of the walk, as FollowLaws has
-- it. The measure is the hops that may still be entered, with the edges left. Assumes nothing.
use Prim.Native.Nat.{ℕ, suc, ◌+◌, ◌-◌}
use mathlib.Core.Path.{◌≡◌, refl, sym, ◌∙◌}
use mathlib.Core.List.{List, [], ◌∷◌, ◌++◌, flat_map}
use native.Mathlib.Omega.{arith}
use Rattle.block.specs.Sets.{has_scope, ALL_LABELS}
use Rattle.block.specs.Block.{hop_of, edge_cell, first_edge, hops_on}
use Rattle.block.specs.Ask.{ask_goal}
use Rattle.search.specs.Conditions.{WorthAt}
use Rattle.search.specs.Steps.{worth_state, Entered}
use Rattle.search.specs.declared.Node.{Node}
use Rattle.search.proofs.Measure.{over, over_edges, lex_by_fst, lex_by_snd}
use Rattle.search.proofs.Leads.{behind_node, live_taken, worth_taken, enter_inside}
use Rattle.follow.specs.declared.Aim.{Aim}
use Rattle.follow.specs.declared.Path.{Path}
use Rattle.follow.specs.Tally.{Taken}
use Rattle.follow.specs.Walk.{path_hops, rows_from}
use Rattle.follow.specs.Steps.{own_rows, hop_rows, FollowedEdge, NextFollowed}
use Rattle.follow.proofs.TallyLaws.{rows_as, rows_then, rows_done}
use Rattle.follow.proofs.FollowLaws.{rows_on, rest_enter, rest_ends, rest_last, rest_further}
use Rattle.follow.proofs.nodes.+follow_at_follow_from.Goals as goal

module _ (block table ask : List ℕ) (aim : Aim) (path deeper : Path) (n : Node) (onward : List ℕ) (p : ℕ) (m : Node) where
  -- the rows behind the node's edges from q on, and behind the next node
  abbrev rest : ℕ → List Taken
  rest q = flat_map (hop_rows block table ask aim (path_hops path) n) (hops_on block n.scope q)

  abbrev next_rows : List Taken
  next_rows = rows_from block table ask aim (path_hops deeper) (suc m.left) (has_scope m.free) m.scope m.state

  -- where the next hop's node is made: it is the node behind edge p, and what is left is what lies
  -- behind it and behind the edges after it
  enters : FollowedEdge block ask onward n p → {x r : ℕ} → x ≡ edge_cell block p
      → r ≡ worth_state block onward n.free n.state ALL_LABELS (hop_of x) → Entered n (hop_of x) r m
      → path_hops deeper ≡ path_hops path ++ (hop_of x ∷ []) → rest p ≡ next_rows ++ rest (p + 1)
  enters here {x} edge state in-m more =
      rest_enter block table ask aim (path_hops path) n onward p here m (behind_node here.worth edge state in-m) (path_hops deeper) x edge more

  -- where the next edge that is followed is found: no other edge before it has rows
  further : rest p ≡ next_rows ++ rest (p + 1) → WorthAt block (ask_goal ask) aim.scopes aim.states (has_scope n.free) onward
      → (j : ℕ) → NextFollowed block ask onward n (p + 1) j → rest p ≡ next_rows ++ rest j
  further e closed = rest_further block table ask aim (path_hops path) n (p + 1) (rest p) next_rows e onward closed

pub follow_at-returns-then-node-eq0 : goal.follow_at-returns-then-node-eq0
follow_at-returns-then-node-eq0 t c = record {
  taken = rows_as _ _ _ _ _ c.visit-t.ensures.taken
      (rest_ends c.args.on.now.block.now c.args.on.now.table.now c.args.on.now.ask.now c.args.on.now.aim (path_hops c.args.path) c.args.node (first_edge c.args.on.now.block.now c.args.node.scope) _ _ (rows_on c.args.on.now.block.now c.args.on.now.table.now c.args.on.now.ask.now c.args.on.now.aim (path_hops c.args.path) c.args.node c.requires.inside.scope c.own_end-own.result.cut c.own_end-own.ensures.passed _ refl) c.if-node-eq0.true);
}

pub follow_at-returns-then-is_done : goal.follow_at-returns-then-is_done
follow_at-returns-then-is_done t c = record { taken = rows_then _ _ _ _ _ _ _ c.visit-t.ensures.taken (sym (rows_done _ _ _ _ (sym c.is_done.ensures.done ∙ c.if-is_done.true))) (rows_on c.args.on.now.block.now c.args.on.now.table.now c.args.on.now.ask.now c.args.on.now.aim (path_hops c.args.path) c.args.node c.requires.inside.scope c.own_end-own.result.cut c.own_end-own.ensures.passed _ refl) }

pub follow_at-first_followed-next-requires : goal.follow_at-first_followed-next-requires
follow_at-first_followed-next-requires t c = record { bounds = c.requires.bounds; live = c.requires.live; table = c.requires.table; inside = c.requires.inside; known = c.own_end-own.ensures.known }

pub follow_at-returns-then-edges_end-next : goal.follow_at-returns-then-edges_end-next
follow_at-returns-then-edges_end-next t c = record {
  taken = rows_as _ _ _ _ _ c.visit-t.ensures.taken
      (rest_last c.args.on.now.block.now c.args.on.now.table.now c.args.on.now.ask.now c.args.on.now.aim (path_hops c.args.path) c.args.node (first_edge c.args.on.now.block.now c.args.node.scope) _ _ (rows_on c.args.on.now.block.now c.args.on.now.table.now c.args.on.now.ask.now c.args.on.now.aim (path_hops c.args.path) c.args.node c.requires.inside.scope c.own_end-own.result.cut c.own_end-own.ensures.passed _ refl) c.args.onward.now c.requires.worth c.first_followed-next.result.at c.first_followed-next.ensures.next (omega (arith, c.edges_end.ensures.answer, c.if-edges_end-next.true)));
}

pub follow_at-follow_from-requires : goal.follow_at-follow_from-requires
follow_at-follow_from-requires t c = (lex_by_fst (over c.args.on.now.block.now) (suc c.args.node.left) 0 c.decreases c.args.node.left (first_edge c.args.on.now.block.now (suc c.args.node.scope) - c.first_followed-next.result.at) (omega arith) (over_edges c.args.on.now.block.now (suc c.args.node.scope) c.first_followed-next.result.at), (c.requires.bounds, (c.requires.live, (c.requires.table, (c.requires.worth, (c.requires.inside, (c.requires.depth, (c.requires.room, (c.first_followed-next.ensures.known, (c.first_followed-next.ensures.next.found (omega (arith, c.edges_end.ensures.answer, c.if-edges_end-next.false)), omega (arith, c.if-node-eq0.false)))))))))))

pub follow_at-returns : goal.follow_at-returns
follow_at-returns t c = record {
  taken = rows_then _ _ _ _ _ _ _ c.visit-t.ensures.taken c.follow_from.ensures.taken
      (rest_further c.args.on.now.block.now c.args.on.now.table.now c.args.on.now.ask.now c.args.on.now.aim (path_hops c.args.path) c.args.node (first_edge c.args.on.now.block.now c.args.node.scope) _ (own_rows c.args.on.now.block.now c.args.on.now.table.now c.args.on.now.ask.now c.args.on.now.aim (path_hops c.args.path) c.args.node c.own_end-own.result.cut) (rows_on c.args.on.now.block.now c.args.on.now.table.now c.args.on.now.ask.now c.args.on.now.aim (path_hops c.args.path) c.args.node c.requires.inside.scope c.own_end-own.result.cut c.own_end-own.ensures.passed _ refl) c.args.onward.now c.requires.worth c.first_followed-next.result.at c.first_followed-next.ensures.next);
}

pub follow_from-follow_at-t-requires : goal.follow_from-follow_at-t-requires
follow_from-follow_at-t-requires t c = let to = (hop_of c.edge_at-x.result).to in (rw c.entered-behind.ensures.answer.left (lex_by_snd (over c.args.on.now.block.now) c.args.node.left (first_edge c.args.on.now.block.now (suc c.args.node.scope) - c.args.next.at) c.decreases 0 (omega (arith, c.requires.followed.inside))), (c.requires.bounds, (live_taken c.args.on.now.block.now (ask_goal c.args.on.now.ask.now) c.args.node.free to c.entered-behind.result.free c.entered-behind.ensures.answer.free c.args.on.now.ask.now c.requires.live, (c.requires.table, (worth_taken c.args.on.now.block.now (ask_goal c.args.on.now.ask.now) c.args.node.free to c.entered-behind.result.free c.entered-behind.ensures.answer.free c.args.on.now.aim.scopes c.args.on.now.aim.states c.args.onward.now c.requires.worth, (enter_inside c.args.on.now.block.now (ask_goal c.args.on.now.ask.now) c.args.node ALL_LABELS c.args.onward.now c.args.next.at c.entered-behind.result (behind_node c.requires.followed.worth c.edge_at-x.ensures.answer c.worth.ensures.answer c.entered-behind.ensures.answer), (omega (arith, c.pushed.ensures.depth, c.entered-behind.ensures.answer.left, c.requires.depth, c.requires.some), c.requires.room)))))))

pub follow_from-returns-then-is_done : goal.follow_from-returns-then-is_done
follow_from-returns-then-is_done t c = record { taken = rows_then _ _ _ _ _ _ _ c.follow_at-t.ensures.taken (sym (rows_done _ _ _ _ (sym c.is_done.ensures.done ∙ c.if-is_done.true))) (enters c.args.on.now.block.now c.args.on.now.table.now c.args.on.now.ask.now c.args.on.now.aim c.args.path c.pushed.result c.args.node c.args.onward.now c.args.next.at c.entered-behind.result c.requires.followed c.edge_at-x.ensures.answer c.worth.ensures.answer c.entered-behind.ensures.answer c.pushed.ensures.hops) }

pub follow_from-overflow_add-next : goal.follow_from-overflow_add-next
follow_from-overflow_add-next t c = omega (arith, c.edges_end-end.ensures.answer, c.requires.followed.inside)

pub follow_from-next_followed-further-requires : goal.follow_from-next_followed-further-requires
follow_from-next_followed-further-requires t c = record { bounds = c.requires.bounds; live = c.requires.live; table = c.requires.table; inside = c.requires.inside; known = c.requires.known }

pub follow_from-returns-then-end-further : goal.follow_from-returns-then-end-further
follow_from-returns-then-end-further t c = record {
  taken = rows_as _ _ _ _ _ c.follow_at-t.ensures.taken
      (rest_last c.args.on.now.block.now c.args.on.now.table.now c.args.on.now.ask.now c.args.on.now.aim (path_hops c.args.path) c.args.node (c.args.next.at + 1) _ _ (enters c.args.on.now.block.now c.args.on.now.table.now c.args.on.now.ask.now c.args.on.now.aim c.args.path c.pushed.result c.args.node c.args.onward.now c.args.next.at c.entered-behind.result c.requires.followed c.edge_at-x.ensures.answer c.worth.ensures.answer c.entered-behind.ensures.answer c.pushed.ensures.hops) c.args.onward.now c.requires.worth c.next_followed-further.result.at c.next_followed-further.ensures.next (omega (arith, c.edges_end-end.ensures.answer, c.if-end-further.true)));
}

pub follow_from-follow_from-requires : goal.follow_from-follow_from-requires
follow_from-follow_from-requires t c = (lex_by_snd (over c.args.on.now.block.now) c.args.node.left (first_edge c.args.on.now.block.now (suc c.args.node.scope) - c.args.next.at) c.decreases (first_edge c.args.on.now.block.now (suc c.args.node.scope) - c.next_followed-further.result.at) (omega (arith, c.next_followed-further.ensures.next.past.on, c.requires.followed.inside)), (c.requires.bounds, (c.requires.live, (c.requires.table, (c.requires.worth, (c.requires.inside, (c.requires.depth, (c.requires.room, (c.next_followed-further.ensures.known, (c.next_followed-further.ensures.next.found (omega (arith, c.edges_end-end.ensures.answer, c.if-end-further.false)), c.requires.some))))))))))

pub follow_from-returns-then-not-in_vain : goal.follow_from-returns-then-not-in_vain
follow_from-returns-then-not-in_vain t c = record { taken = rows_then _ _ _ _ _ _ _ c.follow_at-t.ensures.taken c.follow_from.ensures.taken (further c.args.on.now.block.now c.args.on.now.table.now c.args.on.now.ask.now c.args.on.now.aim c.args.path c.pushed.result c.args.node c.args.onward.now c.args.next.at c.entered-behind.result (enters c.args.on.now.block.now c.args.on.now.table.now c.args.on.now.ask.now c.args.on.now.aim c.args.path c.pushed.result c.args.node c.args.onward.now c.args.next.at c.entered-behind.result c.requires.followed c.edge_at-x.ensures.answer c.worth.ensures.answer c.entered-behind.ensures.answer c.pushed.ensures.hops) c.requires.worth c.next_followed-further.result.at c.next_followed-further.ensures.next) }

pub follow_from-next_followed-again-requires : goal.follow_from-next_followed-again-requires
follow_from-next_followed-again-requires t c = record { bounds = c.requires.bounds; live = c.requires.live; table = omega arith; inside = c.requires.inside; known = c.next_followed-further.ensures.known }

pub follow_from-returns-then-end-again : goal.follow_from-returns-then-end-again
follow_from-returns-then-end-again t c = record {
  taken = rows_as _ _ _ _ _ c.follow_at-t.ensures.taken
      (rest_last c.args.on.now.block.now c.args.on.now.table.now c.args.on.now.ask.now c.args.on.now.aim (path_hops c.args.path) c.args.node c.next_followed-further.result.at _ _ (further c.args.on.now.block.now c.args.on.now.table.now c.args.on.now.ask.now c.args.on.now.aim c.args.path c.pushed.result c.args.node c.args.onward.now c.args.next.at c.entered-behind.result (enters c.args.on.now.block.now c.args.on.now.table.now c.args.on.now.ask.now c.args.on.now.aim c.args.path c.pushed.result c.args.node c.args.onward.now c.args.next.at c.entered-behind.result c.requires.followed c.edge_at-x.ensures.answer c.worth.ensures.answer c.entered-behind.ensures.answer c.pushed.ensures.hops) c.requires.worth c.next_followed-further.result.at c.next_followed-further.ensures.next) c.live_table-new.result (rw c.ask_goal.ensures.answer at (c.live_table-new.ensures.closed (ask_goal c.args.on.now.ask.now))) c.next_followed-again.result.at c.next_followed-again.ensures.next (omega (arith, c.edges_end-end.ensures.answer, c.if-end-again.true)));
}

pub follow_from-follow_from-requires-2 : goal.follow_from-follow_from-requires-2
follow_from-follow_from-requires-2 t c = (lex_by_snd (over c.args.on.now.block.now) c.args.node.left (first_edge c.args.on.now.block.now (suc c.args.node.scope) - c.args.next.at) c.decreases (first_edge c.args.on.now.block.now (suc c.args.node.scope) - c.next_followed-again.result.at) (omega (arith, c.next_followed-further.ensures.next.past.on, c.next_followed-again.ensures.next.past.on, c.requires.followed.inside)), (c.requires.bounds, (c.requires.live, (omega arith, (rw c.ask_goal.ensures.answer at (c.live_table-new.ensures.closed (ask_goal c.args.on.now.ask.now)), (c.requires.inside, (c.requires.depth, (c.requires.room, (c.next_followed-again.ensures.known, (c.next_followed-again.ensures.next.found (omega (arith, c.edges_end-end.ensures.answer, c.if-end-again.false)), c.requires.some))))))))))

pub follow_from-returns : goal.follow_from-returns
follow_from-returns t c = record {
  taken = rows_then _ _ _ _ _ _ _ c.follow_at-t.ensures.taken c.follow_from-2.ensures.taken
      (rest_further c.args.on.now.block.now c.args.on.now.table.now c.args.on.now.ask.now c.args.on.now.aim (path_hops c.args.path) c.args.node c.next_followed-further.result.at _ (rows_from c.args.on.now.block.now c.args.on.now.table.now c.args.on.now.ask.now c.args.on.now.aim (path_hops c.pushed.result) (suc c.entered-behind.result.left) (has_scope c.entered-behind.result.free) c.entered-behind.result.scope c.entered-behind.result.state) (further c.args.on.now.block.now c.args.on.now.table.now c.args.on.now.ask.now c.args.on.now.aim c.args.path c.pushed.result c.args.node c.args.onward.now c.args.next.at c.entered-behind.result (enters c.args.on.now.block.now c.args.on.now.table.now c.args.on.now.ask.now c.args.on.now.aim c.args.path c.pushed.result c.args.node c.args.onward.now c.args.next.at c.entered-behind.result c.requires.followed c.edge_at-x.ensures.answer c.worth.ensures.answer c.entered-behind.ensures.answer c.pushed.ensures.hops) c.requires.worth c.next_followed-further.result.at c.next_followed-further.ensures.next) c.live_table-new.result (rw c.ask_goal.ensures.answer at (c.live_table-new.ensures.closed (ask_goal c.args.on.now.ask.now))) c.next_followed-again.result.at c.next_followed-again.ensures.next);
}
