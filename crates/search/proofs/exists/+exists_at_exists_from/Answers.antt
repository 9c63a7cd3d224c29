-- `exists_at` and `exists_from` meet their contracts: one step each of the search (proofs/Leads).
-- The measure is the pair of hops left and edges left. Assumes nothing.
use Prim.Native.Nat.{ℕ, suc, ◌+◌, ◌-◌, ◌<◌}
use mathlib.Core.Path.{◌≡◌, sym, ◌∙◌}
use native.Mathlib.Omega.{arith}
use mathlib.Core.List.{List}
use Rattle.block.specs.Block.{first_edge, edge_cell, hop_of}
use Rattle.search.specs.Steps.{next_hop, worth_state, Entered}
use Rattle.search.specs.declared.Node.{Node}
use Rattle.search.proofs.Measure.{over, over_edges, lex_by_fst, lex_by_snd}
use Rattle.search.proofs.HopLaws.{next_told}
use Rattle.search.proofs.Leads.{Behind, behind_node, way_none, exists_here, exists_on, leads_over, enter_inside, enter_live, next_skip, next_none, next_found, next_on}
use Rattle.search.proofs.exists.+exists_at_exists_from.Goals as goal

-- the next hop's node: its edge is one of the scope's, and it is the node behind that
behind :
    {block table : List ℕ} {n : Node} {labels i x r : ℕ} {m : Node} (p : ℕ)
    → i ≡ next_hop block table n labels p → i < first_edge block (suc n.scope) → x ≡ edge_cell block i
    → r ≡ worth_state block table n.free n.state labels (hop_of x) → Entered n (hop_of x) r m → Behind block table n labels i m
behind p next before = behind_node ((next_told _ _ _ _ p _ next).worth before)

pub exists_at-returns-then-is_goal : goal.exists_at-returns-then-is_goal
exists_at-returns-then-is_goal t c = record { answer = sym (exists_here _ _ _ _ _ _ (sym c.is_goal.ensures.answer ∙ c.if-is_goal.true)) }

pub exists_at-exists_from-requires : goal.exists_at-exists_from-requires
exists_at-exists_from-requires t c = (lex_by_fst (over c.args.block.now) (suc c.args.n.left) 0 c.decreases c.args.n.left (first_edge c.args.block.now (suc c.args.n.scope) - c.edges_from.result) (omega arith) (over_edges c.args.block.now (suc c.args.n.scope) c.edges_from.result), (c.requires.bounds, (c.requires.table, (c.requires.inside, c.requires.live))))

pub exists_at-returns : goal.exists_at-returns
exists_at-returns t c = record {
  answer = rw c.edges_from.ensures.answer at c.exists_from.ensures.answer
      ∙ sym (exists_on c.args.block.now c.args.goal c.args.n c.requires.inside.scope (sym c.is_goal.ensures.answer ∙ c.if-is_goal.false));
}

pub exists_from-returns-then-n-eq0 : goal.exists_from-returns-then-n-eq0
exists_from-returns-then-n-eq0 t c = record { answer = sym (leads_over c.args.block.now c.args.goal c.args.n c.args.labels c.if-n-eq0.true _) }

pub exists_from-returns-then-end-i : goal.exists_from-returns-then-end-i
exists_from-returns-then-end-i t c = record { answer = sym (next_none c.args.block.now c.args.goal c.args.n c.args.labels c.args.live.now c.requires.live c.args.p c.next_hop-i.result ((next_told _ _ _ _ _ _ c.next_hop-i.ensures.answer)) (omega (arith, c.edges_end-end.ensures.answer))) }

pub exists_from-exists_at-requires : goal.exists_from-exists_at-requires
exists_from-exists_at-requires t c = (rw c.entered.ensures.answer.left (lex_by_snd (over c.args.block.now) c.args.n.left (first_edge c.args.block.now (suc c.args.n.scope) - c.args.p) c.decreases 0 (omega (arith, (next_told _ _ _ _ _ _ c.next_hop-i.ensures.answer).on, c.edges_end-end.ensures.answer, c.if-end-i.false))), (c.requires.bounds, (c.requires.table, (enter_inside c.args.block.now c.args.goal c.args.n c.args.labels c.args.live.now c.next_hop-i.result c.entered.result (behind c.args.p c.next_hop-i.ensures.answer (omega (arith, c.edges_end-end.ensures.answer, c.if-end-i.false)) c.edge_at-x.ensures.answer c.worth-r.ensures.answer c.entered.ensures.answer), enter_live c.args.block.now c.args.goal c.args.n c.args.labels c.args.live.now c.next_hop-i.result c.entered.result (behind c.args.p c.next_hop-i.ensures.answer (omega (arith, c.edges_end-end.ensures.answer, c.if-end-i.false)) c.edge_at-x.ensures.answer c.worth-r.ensures.answer c.entered.ensures.answer) c.requires.live))))

pub exists_from-returns-then-exists_at : goal.exists_from-returns-then-exists_at
exists_from-returns-then-exists_at t c = record { answer = sym (next_found c.args.block.now c.args.goal c.args.n c.args.labels c.args.live.now c.requires.live c.args.p c.next_hop-i.result ((next_told _ _ _ _ _ _ c.next_hop-i.ensures.answer)) (omega (arith, c.edges_end-end.ensures.answer, c.if-end-i.false)) c.entered.result (behind c.args.p c.next_hop-i.ensures.answer (omega (arith, c.edges_end-end.ensures.answer, c.if-end-i.false)) c.edge_at-x.ensures.answer c.worth-r.ensures.answer c.entered.ensures.answer) (sym c.exists_at.ensures.answer ∙ c.if-exists_at.true)) }

pub exists_from-overflow_add-i : goal.exists_from-overflow_add-i
exists_from-overflow_add-i t c = omega arith

pub exists_from-exists_from-requires : goal.exists_from-exists_from-requires
exists_from-exists_from-requires t c = (
  lex_by_snd (over c.args.block.now) c.args.n.left (first_edge c.args.block.now (suc c.args.n.scope) - c.args.p) c.decreases (first_edge c.args.block.now (suc c.args.n.scope) - (c.next_hop-i.result + 1))
      (omega (arith, (next_told _ _ _ _ _ _ c.next_hop-i.ensures.answer).on, c.edges_end-end.ensures.answer, c.if-end-i.false)),
  (c.requires.bounds, (c.requires.table, (c.requires.inside, c.requires.live))),
)

pub exists_from-returns-in-Anew : goal.exists_from-returns-in-Anew
exists_from-returns-in-Anew t c = record { answer = c.exists_from.ensures.answer ∙ sym (next_on c.args.block.now c.args.goal c.args.n c.args.labels c.args.live.now c.requires.live c.args.p c.next_hop-i.result ((next_told _ _ _ _ _ _ c.next_hop-i.ensures.answer)) (omega (arith, c.edges_end-end.ensures.answer, c.if-end-i.false)) c.entered.result (behind c.args.p c.next_hop-i.ensures.answer (omega (arith, c.edges_end-end.ensures.answer, c.if-end-i.false)) c.edge_at-x.ensures.answer c.worth-r.ensures.answer c.entered.ensures.answer) (sym c.exists_at.ensures.answer ∙ c.if-exists_at.false)) }

pub exists_from-overflow_add-i-2 : goal.exists_from-overflow_add-i-2
exists_from-overflow_add-i-2 t c = omega arith

pub exists_from-next_hop-j-requires : goal.exists_from-next_hop-j-requires
exists_from-next_hop-j-requires t c = record { table = c.requires.table; inside = c.requires.inside }

pub exists_from-returns-then-end-j : goal.exists_from-returns-then-end-j
exists_from-returns-then-end-j t c = record {
  answer = sym ((next_on c.args.block.now c.args.goal c.args.n c.args.labels c.args.live.now c.requires.live c.args.p c.next_hop-i.result ((next_told _ _ _ _ _ _ c.next_hop-i.ensures.answer)) (omega (arith, c.edges_end-end.ensures.answer, c.if-end-i.false)) c.entered.result (behind c.args.p c.next_hop-i.ensures.answer (omega (arith, c.edges_end-end.ensures.answer, c.if-end-i.false)) c.edge_at-x.ensures.answer c.worth-r.ensures.answer c.entered.ensures.answer) (sym c.exists_at.ensures.answer ∙ c.if-exists_at.false))
      ∙ next_none c.args.block.now c.args.goal c.args.n c.args.labels c.args.live.now c.requires.live (c.next_hop-i.result + 1) c.next_hop-j.result ((next_told _ _ _ _ _ _ c.next_hop-j.ensures.answer)) (omega (arith, c.edges_end-end.ensures.answer)));
}

pub exists_from-live_table-new-requires : goal.exists_from-live_table-new-requires
exists_from-live_table-new-requires t c = record { bounds = c.requires.bounds }

pub exists_from-exists_from-requires-2 : goal.exists_from-exists_from-requires-2
exists_from-exists_from-requires-2 t c = (
  lex_by_snd (over c.args.block.now) c.args.n.left (first_edge c.args.block.now (suc c.args.n.scope) - c.args.p) c.decreases (first_edge c.args.block.now (suc c.args.n.scope) - c.next_hop-j.result)
      (omega (arith, (next_told _ _ _ _ _ _ c.next_hop-i.ensures.answer).on, c.edges_end-end.ensures.answer, c.if-end-i.false, (next_told _ _ _ _ _ _ c.next_hop-j.ensures.answer).on, c.if-end-j.false)),
  (c.requires.bounds, (omega arith, (c.requires.inside, rw (c.accept_set.ensures.answer, way_none c.args.block.now c.args.goal) at (c.live_table-new.ensures.closed c.args.goal)))),
)

pub exists_from-returns : goal.exists_from-returns
exists_from-returns t c = record {
  answer = c.exists_from-2.ensures.answer
      ∙ sym ((next_on c.args.block.now c.args.goal c.args.n c.args.labels c.args.live.now c.requires.live c.args.p c.next_hop-i.result ((next_told _ _ _ _ _ _ c.next_hop-i.ensures.answer)) (omega (arith, c.edges_end-end.ensures.answer, c.if-end-i.false)) c.entered.result (behind c.args.p c.next_hop-i.ensures.answer (omega (arith, c.edges_end-end.ensures.answer, c.if-end-i.false)) c.edge_at-x.ensures.answer c.worth-r.ensures.answer c.entered.ensures.answer) (sym c.exists_at.ensures.answer ∙ c.if-exists_at.false))
      ∙ next_skip c.args.block.now c.args.goal c.args.n c.args.labels c.args.live.now c.requires.live (c.next_hop-i.result + 1) c.next_hop-j.result ((next_told _ _ _ _ _ _ c.next_hop-j.ensures.answer)));
}
