-- `later_edge` meets its contract: one law for each way the tests go. Assumes nothing.
use Prim.Native.Nat.{◌<◌}
use mathlib.Core.Path.{sym, ◌∙◌}
use native.Mathlib.Omega.{arith}
use Rattle.block.specs.Sets.{ALL_LABELS}
use Rattle.search.proofs.Leads.{Behind, behind_node, enter_inside, enter_live}
use Rattle.search.proofs.LaterLaws.{test_earlier, test_over, test_idle, test_on}
use Rattle.search.proofs.later.later_edge.Goals as goal

pub returns-then-not-is_later : goal.returns-then-not-is_later
returns-then-not-is_later c = record { answer = sym (test_earlier c.args.block.now c.args.goal c.args.n c.args.x c.args.p (rw c.edge_at-y.ensures.answer at (sym c.is_later.ensures.answer ∙ c.if-not-is_later.true))) }

pub returns-then-n-eq0 : goal.returns-then-n-eq0
returns-then-n-eq0 c = record { answer = sym (test_over c.args.block.now c.args.goal c.args.n c.args.x c.args.p c.if-n-eq0.true) }

pub returns-then-r-gt15 : goal.returns-then-r-gt15
returns-then-r-gt15 c = record { answer = sym (test_idle c.args.block.now c.args.goal c.args.n c.args.x c.args.p c.args.live.now c.requires.live (rw (c.worth-r.ensures.answer, c.edge_at-y.ensures.answer) at c.if-r-gt15.true)) }

pub exists_at-requires : goal.exists_at-requires
exists_at-requires c =
    let small : c.worth-r.result < 16 = omega arith in
    let behind : Behind c.args.block.now c.args.live.now c.args.n ALL_LABELS c.args.p c.entered.result = behind_node (rw (c.worth-r.ensures.answer, c.edge_at-y.ensures.answer) at small) c.edge_at-y.ensures.answer c.worth-r.ensures.answer c.entered.ensures.answer in
    record {
      bounds = c.requires.bounds;
      table = c.requires.table;
      inside = enter_inside c.args.block.now c.args.goal c.args.n ALL_LABELS c.args.live.now c.args.p c.entered.result behind;
      live = enter_live c.args.block.now c.args.goal c.args.n ALL_LABELS c.args.live.now c.args.p c.entered.result behind c.requires.live;
    }

pub returns : goal.returns
returns c =
    let small : c.worth-r.result < 16 = omega arith in
    let behind : Behind c.args.block.now c.args.live.now c.args.n ALL_LABELS c.args.p c.entered.result = behind_node (rw (c.worth-r.ensures.answer, c.edge_at-y.ensures.answer) at small) c.edge_at-y.ensures.answer c.worth-r.ensures.answer c.entered.ensures.answer in
    record { answer = c.exists_at.ensures.answer ∙ sym (test_on c.args.block.now c.args.goal c.args.n c.args.x c.args.p (rw c.edge_at-y.ensures.answer at (sym c.is_later.ensures.answer ∙ c.if-not-is_later.false)) c.args.live.now c.entered.result behind) }
