-- `count_right` meets its contract: one walk counts the entries and tells the word. Assumes nothing.
use mathlib.Core.Path.{refl, sym, ap, ◌∙◌}
use native.Mathlib.Omega.{arith}
use Rattle.follow.specs.Tally.{State}
use Rattle.resolution.specs.Asked.{query_in, found_meaning}
use Rattle.accepting.proofs.CountLaws.{over_told, other_told, count_told, found_eq}
use Rattle.accepting.proofs.counts.count_right.Goals as goal
use Rattle.accepting.proofs.counts.count_right.Goals.{then-t-via-then-t, then-t-via-else-t+then-t-count}

pub returns-then-t : goal.returns-then-t
returns-then-t c = record {
  told = elim c.then-t.branch [
    | then-t-via-then-t w ↦ over_told c.args.table.now (query_in c.args.table.now c.args.ask.now) (found_meaning c.args.found) c.args.count c.args.bytes _ refl refl _ _ c.take_entries-t.ensures.taken w.if-t.true
    | then-t-via-else-t+then-t-count w ↦ other_told c.args.table.now (query_in c.args.table.now c.args.ask.now) (found_meaning c.args.found) c.args.count c.args.bytes _ refl refl _ _ c.take_entries-t.ensures.taken w.if-t.false (λ e. omega arith)
  ];
}

pub found_by-requires : goal.found_by-requires
found_by-requires c = record { ready = c.requires.ready; tallied = (_, sym (ap (λ (s : State). s.1) c.take_entries-t.ensures.taken)) }

pub returns : goal.returns
returns c = record { told = count_told c.args.table.now (query_in c.args.table.now c.args.ask.now) (found_meaning c.args.found) c.args.count c.args.bytes _ refl refl _ _ c.take_entries-t.ensures.taken c.if-t.false (omega arith) _ c.found_by.ensures.answer _ (c.eq.ensures ∙ found_eq c.found_by.result c.args.found) }
