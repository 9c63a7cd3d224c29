-- `count_at` and `count_from` meet their contracts: one step each of the count, as NodeLaws has it.
-- The measure is the hops that may still be entered, with the edges left. Assumes nothing.
use Prim.Native.Nat.{ℕ, suc, ◌-◌}
use mathlib.Core.Path.{ap, ◌∙◌}
use native.Mathlib.Omega.{arith}
use Rattle.block.specs.Sets.{has_scope, ALL_LABELS}
use Rattle.block.specs.Block.{hop_of, first_edge}
use Rattle.block.specs.Ask.{ask_goal}
use Rattle.search.proofs.Measure.{over, over_edges, lex_by_fst, lex_by_snd}
use Rattle.search.proofs.CutEnds.{known_none}
use Rattle.beginnings.specs.Tables.{hopes_in}
use Rattle.beginnings.specs.Steps.{ALL_SCOPES, own_place}
use Rattle.beginnings.proofs.Few.{few_less}
use Rattle.beginnings.proofs.Tells.{own_small}
use Rattle.beginnings.proofs.CountLaws.{kept, live_less, worth_less, node_had, node_last, node_most, node_told, node_recalled, left_some, few_entered, edge_told, edge_most, edge_last, edge_further}
use Rattle.search.proofs.Leads.{behind_node, live_taken, worth_taken, enter_inside}
use Rattle.beginnings.proofs.nodes.+count_at_count_from.Goals as goal

pub count_at-flood-free-requires : goal.count_at-flood-free-requires
count_at-flood-free-requires t c = record { near = c.requires.near; scope = c.requires.inside.scope }

pub count_at-slot_of-at-requires : goal.count_at-slot_of-at-requires
count_at-slot_of-at-requires t c = record { scope = c.requires.inside.scope; state = c.requires.inside.state }

pub count_at-look_up-had-requires : goal.count_at-look_up-had-requires
count_at-look_up-had-requires t c = record { size = c.requires.memo.size; slot = c.slot_of-at.ensures.slot; scope = c.requires.inside.scope; state = c.requires.inside.state }

pub count_at-returns-then-had-ne0 : goal.count_at-returns-then-had-ne0
count_at-returns-then-had-ne0 t c = record { memo = c.requires.memo; told = node_had c.args.block.now c.args.near.now c.args.ask.now c.args.onward.now c.args.node c.flood-free.result c.requires.few c.flood-free.ensures.flooded c.look_up-had.result (c.look_up-had.ensures.told c.args.block.now c.args.near.now c.args.ask.now c.requires.memo (omega (arith, c.if-had-ne0.true))) }

pub count_at-own_place-own-requires : goal.count_at-own_place-own-requires
count_at-own_place-own-requires t c = tt

pub count_at-first_followed-next-requires : goal.count_at-first_followed-next-requires
count_at-first_followed-next-requires t c = record { bounds = c.requires.bounds; live = live_less c.args.block.now (ask_goal c.args.ask.now) c.args.node.free c.flood-free.result c.flood-free.ensures.flooded.less c.args.ask.now c.requires.live; table = c.requires.table; inside = record { scope = c.requires.inside.scope; state = c.requires.inside.state }; known = known_none c.args.block.now (ask_goal c.args.ask.now) (kept c.args.node c.flood-free.result) }

pub count_at-edges_end-requires : goal.count_at-edges_end-requires
count_at-edges_end-requires t c = record { scope = c.requires.inside.scope }

pub count_at-returns-then-edges_end-i : goal.count_at-returns-then-edges_end-i
count_at-returns-then-edges_end-i t c = record { memo = c.requires.memo; told = node_last c.args.block.now c.args.near.now c.args.ask.now c.args.onward.now c.args.node c.flood-free.result c.requires.few c.flood-free.ensures.flooded c.requires.inside.scope c.requires.worth c.first_followed-next.result.at c.first_followed-next.ensures.next c.own_place-own.result (c.own_place-own.ensures.own ∙ ap (λ (h : ℕ). own_place h c.args.node.state) c.requires.hopes) (omega (arith, c.edges_end.ensures.answer, c.if-edges_end-i.true)) }

pub count_at-count_from-all-requires : goal.count_at-count_from-all-requires
count_at-count_from-all-requires t c = (lex_by_fst (over c.args.block.now) (suc c.args.node.left) 0 c.decreases c.args.node.left (first_edge c.args.block.now (suc c.args.node.scope) - c.first_followed-next.result.at) (omega arith) (over_edges c.args.block.now (suc c.args.node.scope) c.first_followed-next.result.at), (c.requires.bounds, (live_less c.args.block.now (ask_goal c.args.ask.now) c.args.node.free c.flood-free.result c.flood-free.ensures.flooded.less c.args.ask.now c.requires.live, (c.requires.table, (worth_less c.args.block.now (ask_goal c.args.ask.now) c.args.node.free c.flood-free.result c.flood-free.ensures.flooded.less ALL_SCOPES (hopes_in c.args.block.now) c.args.onward.now c.requires.worth, (c.requires.near, (c.requires.hopes, (record { scope = c.requires.inside.scope; state = c.requires.inside.state }, (few_less c.args.node.left (has_scope c.flood-free.result) (has_scope c.args.node.free) c.flood-free.ensures.flooded.less c.requires.few, (c.requires.memo, (c.first_followed-next.ensures.known, (c.first_followed-next.ensures.next.found (omega (arith, c.edges_end.ensures.answer, c.if-edges_end-i.false)), own_small _ _ _ c.own_place-own.ensures.own))))))))))))

pub count_at-store-requires : goal.count_at-store-requires
count_at-store-requires t c = record { size = c.count_from-all.ensures.memo.size; slot = c.slot_of-at.ensures.slot; scope = c.requires.inside.scope; state = c.requires.inside.state; most = node_most c.args.block.now c.args.near.now c.args.ask.now c.args.onward.now c.args.node c.flood-free.result c.requires.few c.flood-free.ensures.flooded c.requires.inside.scope c.requires.worth c.first_followed-next.result.at c.first_followed-next.ensures.next c.own_place-own.result (c.own_place-own.ensures.own ∙ ap (λ (h : ℕ). own_place h c.args.node.state) c.requires.hopes) c.count_from-all.result c.count_from-all.ensures.told }

pub count_at-returns : goal.count_at-returns
count_at-returns t c = record { memo = c.store.ensures.right c.args.block.now c.args.near.now c.args.ask.now c.count_from-all.ensures.memo (node_recalled c.args.block.now c.args.near.now c.args.ask.now c.args.onward.now c.args.node c.flood-free.result c.requires.few c.flood-free.ensures.flooded c.requires.inside.scope c.requires.worth c.first_followed-next.result.at c.first_followed-next.ensures.next c.own_place-own.result (c.own_place-own.ensures.own ∙ ap (λ (h : ℕ). own_place h c.args.node.state) c.requires.hopes) c.count_from-all.result c.count_from-all.ensures.told); told = node_told c.args.block.now c.args.near.now c.args.ask.now c.args.onward.now c.args.node c.flood-free.result c.requires.few c.flood-free.ensures.flooded c.requires.inside.scope c.requires.worth c.first_followed-next.result.at c.first_followed-next.ensures.next c.own_place-own.result (c.own_place-own.ensures.own ∙ ap (λ (h : ℕ). own_place h c.args.node.state) c.requires.hopes) c.count_from-all.result c.count_from-all.ensures.told }

pub count_from-worth-requires : goal.count_from-worth-requires
count_from-worth-requires t c = record { table = c.requires.table; inside = c.requires.inside }

pub count_from-entered-behind-requires : goal.count_from-entered-behind-requires
count_from-entered-behind-requires t c = record { left = left_some c.args.block.now c.args.near.now c.args.ask.now c.args.onward.now c.args.node c.requires.few c.args.p c.requires.followed }

pub count_from-count_at-requires : goal.count_from-count_at-requires
count_from-count_at-requires t c = (rw c.entered-behind.ensures.answer.left (lex_by_snd (over c.args.block.now) c.args.node.left (first_edge c.args.block.now (suc c.args.node.scope) - c.args.p) c.decreases 0 (omega (arith, c.requires.followed.inside))), (c.requires.bounds, (live_taken c.args.block.now (ask_goal c.args.ask.now) c.args.node.free (hop_of c.edge_at-x.result).to c.entered-behind.result.free c.entered-behind.ensures.answer.free c.args.ask.now c.requires.live, (c.requires.table, (worth_taken c.args.block.now (ask_goal c.args.ask.now) c.args.node.free (hop_of c.edge_at-x.result).to c.entered-behind.result.free c.entered-behind.ensures.answer.free ALL_SCOPES (hopes_in c.args.block.now) c.args.onward.now c.requires.worth, (c.requires.near, (c.requires.hopes, (enter_inside c.args.block.now (ask_goal c.args.ask.now) c.args.node ALL_LABELS c.args.onward.now c.args.p c.entered-behind.result (behind_node c.requires.followed.worth c.edge_at-x.ensures.answer c.worth.ensures.answer c.entered-behind.ensures.answer), (few_entered c.args.block.now c.args.near.now c.args.ask.now c.args.onward.now c.args.node c.requires.few c.args.p c.requires.followed c.entered-behind.result (behind_node c.requires.followed.worth c.edge_at-x.ensures.answer c.worth.ensures.answer c.entered-behind.ensures.answer), c.requires.memo)))))))))

pub count_from-added-n-requires : goal.count_from-added-n-requires
count_from-added-n-requires t c = record { so = c.requires.so; more = c.count_at.ensures.told.most }

pub count_from-returns-then-n-ge-MOST : goal.count_from-returns-then-n-ge-MOST
count_from-returns-then-n-ge-MOST t c = record { memo = c.count_at.ensures.memo; told = λ x before. edge_most c.args.block.now c.args.near.now c.args.ask.now c.args.onward.now c.args.node c.requires.few c.args.p c.requires.followed c.entered-behind.result (behind_node c.requires.followed.worth c.edge_at-x.ensures.answer c.worth.ensures.answer c.entered-behind.ensures.answer) c.args.so c.count_at.result c.added-n.result x c.count_at.ensures.told c.added-n.ensures.sum before c.if-n-ge-MOST.true }

pub count_from-edges_end-end-requires : goal.count_from-edges_end-end-requires
count_from-edges_end-end-requires t c = record { scope = c.requires.inside.scope }

pub count_from-overflow_add-p : goal.count_from-overflow_add-p
count_from-overflow_add-p t c = omega (arith, c.edges_end-end.ensures.answer, c.requires.followed.inside)

pub count_from-next_followed-further-requires : goal.count_from-next_followed-further-requires
count_from-next_followed-further-requires t c = record { bounds = c.requires.bounds; live = c.requires.live; table = c.requires.table; inside = c.requires.inside; known = c.requires.known }

pub count_from-returns-then-end-j : goal.count_from-returns-then-end-j
count_from-returns-then-end-j t c = record { memo = c.count_at.ensures.memo; told = λ x before. edge_last c.args.block.now c.args.near.now c.args.ask.now c.args.onward.now c.args.node c.requires.few c.args.p c.requires.followed c.entered-behind.result (behind_node c.requires.followed.worth c.edge_at-x.ensures.answer c.worth.ensures.answer c.entered-behind.ensures.answer) c.args.so c.count_at.result c.added-n.result x c.count_at.ensures.told c.added-n.ensures.sum before c.requires.worth c.next_followed-further.result.at c.next_followed-further.ensures.next (omega (arith, c.edges_end-end.ensures.answer, c.if-end-j.true)) }

pub count_from-count_from-requires : goal.count_from-count_from-requires
count_from-count_from-requires t c = (lex_by_snd (over c.args.block.now) c.args.node.left (first_edge c.args.block.now (suc c.args.node.scope) - c.args.p) c.decreases (first_edge c.args.block.now (suc c.args.node.scope) - c.next_followed-further.result.at) (omega (arith, c.next_followed-further.ensures.next.past.on, c.requires.followed.inside)), (c.requires.bounds, (c.requires.live, (c.requires.table, (c.requires.worth, (c.requires.near, (c.requires.hopes, (c.requires.inside, (c.requires.few, (c.count_at.ensures.memo, (c.next_followed-further.ensures.known, (c.next_followed-further.ensures.next.found (omega (arith, c.edges_end-end.ensures.answer, c.if-end-j.false)), omega (arith, c.if-n-ge-MOST.false)))))))))))))

pub count_from-returns : goal.count_from-returns
count_from-returns t c = record { memo = c.count_from.ensures.memo; told = λ x before. edge_further c.args.block.now c.args.near.now c.args.ask.now c.args.onward.now c.args.node c.requires.few c.args.p c.requires.followed c.entered-behind.result (behind_node c.requires.followed.worth c.edge_at-x.ensures.answer c.worth.ensures.answer c.entered-behind.ensures.answer) c.args.so c.count_at.result c.added-n.result x c.count_at.ensures.told c.added-n.ensures.sum before c.requires.worth c.next_followed-further.result.at c.next_followed-further.ensures.next c.count_from.result (c.count_from.ensures.told _ (edge_told c.args.block.now c.args.near.now c.args.ask.now c.args.onward.now c.args.node c.requires.few c.args.p c.requires.followed c.entered-behind.result (behind_node c.requires.followed.worth c.edge_at-x.ensures.answer c.worth.ensures.answer c.entered-behind.ensures.answer) c.args.so c.count_at.result c.added-n.result x c.count_at.ensures.told c.added-n.ensures.sum before)) }
