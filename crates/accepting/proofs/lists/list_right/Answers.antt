-- `list_right` meets its contract: the tests of a listing, one after the other. Assumes nothing.
use Prim.Native.Nat.{◌-◌}
use mathlib.Core.Path.{sym, ap, ◌∙◌, subst}
use native.Mathlib.Omega.{arith}
use lib.ListN.{drop}
use Rattle.scope_graph.specs.Graph.{Query}
use Rattle.scope_graph.specs.Rows.{language}
use Rattle.graph_rows.specs.Decode.{rules_of}
use Rattle.board.specs.Queries.{query_on}
use Rattle.resolution.specs.Asked.{found_meaning}
use Rattle.told.specs.Steps.{named_meaning, listing_at}
use Rattle.accepting.specs.Tests.{may_await}
use Rattle.accepting.specs.Steps.{CountTold}
use Rattle.accepting.proofs.ListTests.{span_from, span_few, not_visible, not_different, all_but_awaits, not_counted, rows_formed}
use Rattle.scope_graph.proofs.Lists.{true_false}
use Rattle.accepting.proofs.lists.list_right.Goals as goal
use Rattle.accepting.proofs.lists.list_right.Goals.{then-all_visible, else-all_visible, then-count_right, else-count_right}

pub overflow_sub-l : goal.overflow_sub-l
overflow_sub-l c = span_from c.args.lists.now c.args.l.first c.args.l.count c.args.l.next c.requires.span

pub count_right-requires : goal.count_right-requires
count_right-requires c = record { ready = c.ask_of-ask.ensures.asking.ready; few = span_few c.args.lists.now c.args.l.first c.args.l.count c.args.l.next c.requires.span (omega arith) }

pub all_visible-requires : goal.all_visible-requires
all_visible-requires c = record { asked = c.requires.asked; made = c.requires.made }

pub may_await-requires : goal.may_await-requires
may_await-requires c = record { ready = c.ask_of-ask.ensures.asking.ready }

pub returns-else-all_different : goal.returns-else-all_different
returns-else-all_different c = record {
  answer = c.if-all_different.false ∙ elim c.if-all_visible.branch [
    | then-all_visible w ↦ not_different c.args.table.now (query_on c.args.table.now c.args.q) (listing_at c.args.lists.now c.args.l) (sym w.all_different.ensures.answer ∙ sym w.value-is ∙ c.if-all_different.false)
    | else-all_visible w ↦ elim c.if-count_right.branch [
      | then-count_right v ↦ not_visible c.args.table.now (query_on c.args.table.now c.args.q) (listing_at c.args.lists.now c.args.l) (sym v.all_visible.ensures.answer ∙ sym v.value-is ∙ w.if-all_visible.false)
      | else-count_right v ↦ not_counted c.args.table.now (query_on c.args.table.now c.args.q) (listing_at c.args.lists.now c.args.l) c.args.l.count (c.args.l.next - c.args.l.first) c.requires.span.counted _ (subst (λ (z : Query (language (rules_of c.args.table.now))). CountTold c.args.table.now z (found_meaning c.args.l.found) c.args.l.count (c.args.l.next - c.args.l.first) c.count_right.result) c.ask_of-ask.ensures.asking.query c.count_right.ensures.told) c.requires.asked (rows_formed (drop c.args.l.first c.args.lists.now)) (omega (arith, c.requires.span.spans)) v.if-count_right.false
    ]
  ];
}

pub returns-then-all_different : goal.returns-then-all_different
returns-then-all_different c = record {
  answer = elim c.if-all_visible.branch [
    | then-all_visible w ↦ elim c.if-count_right.branch [
      | then-count_right v ↦ all_but_awaits c.args.table.now (query_on c.args.table.now c.args.q) (listing_at c.args.lists.now c.args.l) c.args.l.count (c.args.l.next - c.args.l.first) c.requires.span.counted _ (subst (λ (z : Query (language (rules_of c.args.table.now))). CountTold c.args.table.now z (found_meaning c.args.l.found) c.args.l.count (c.args.l.next - c.args.l.first) c.count_right.result) c.ask_of-ask.ensures.asking.query c.count_right.ensures.told) v.if-count_right.true (sym v.all_visible.ensures.answer ∙ sym v.value-is ∙ w.if-all_visible.true) (sym w.all_different.ensures.answer ∙ sym w.value-is ∙ c.if-all_different.true) _ (c.may_await.ensures.answer ∙ ap (λ (z : Query (language (rules_of c.args.table.now))). may_await c.args.table.now z (named_meaning c.args.l.awaits)) c.ask_of-ask.ensures.asking.query)
      | else-count_right v ↦ absurd (true_false w.if-all_visible.true (v.value-is ∙ v.if-count_right.false))
    ]
    | else-all_visible w ↦ absurd (true_false c.if-all_different.true (w.value-is ∙ w.if-all_visible.false))
  ];
}
