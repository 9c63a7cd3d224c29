use mathlib.Core.Path.{◌≡◌, ◌∙◌}
use native.Mathlib.Omega.{arith}
use Rattle.std.proofs.lemmas.Result.{err_from_is_err_and}
use Rattle.text_field.specs.Refusal.{number_of}
use Rattle.graph_rows.specs.Tested.{test_outcome}
use Rattle.graph_rows.proofs.CountLaws.{placed_next, placed_start, section_room, next_room, first_room}
use Rattle.graph_rows.proofs.TakenLaws.{no_counts}
use Rattle.graph_rows.proofs.TestLaws.{sections_end, sections_again, sections_rest, sections_done, sections_start}
use Rattle.graph_rows.proofs.tested.test_sections.Goals as goal

pub loop-k-init : goal.loop-k-init
loop-k-init c =
    let z = c.default.ensures
    in let none : c.default.result ≡ no_counts = λ i. record { labels = z.0 i; pairs = z.1.0 i; scopes = z.1.1.0 i; rows = z.1.1.1 i }
    in rw none (placed_start, first_room, sections_start c.args.form c.args.table.now)

pub test_section-requires : goal.test_section-requires
test_section-requires c = record { room = (section_room c.loop-k.k c.loop-k.r.cells c.loop-k-test.true c.loop-k.invariant.1, c.loop-k.invariant.0) }

pub returns-in_err-r : goal.returns-in_err-r
unfolding test_outcome
returns-in_err-r c =
    let e = err_from_is_err_and c.from_residual.result c.from_residual.ensures.1
    in record { answer = rw (e.1, e.2) (sections_end c.args.form c.loop-k.k c.args.table.now c.loop-k.r.cells c.loop-k.r.counts c.loop-k-test.true (number_of c.in_err-r.field-0.0) c.in_err-r.ensures.answer ∙ c.loop-k.invariant.2) }

pub loop-k-preserved : goal.loop-k-preserved
loop-k-preserved c =
    let taken = c.in_ok-r.ensures.taken
    in (placed_next c.loop-k.k _ _ taken.placed, next_room c.loop-k.k c.loop-k.r.cells _ _ c.loop-k.invariant.1 taken.most taken.longer, sections_again c.args.form c.loop-k.k c.args.table.now c.loop-k.r.cells c.loop-k.r.counts c.loop-k-test.true c.in_ok-r.r c.in_ok-r.ensures.answer ∙ c.loop-k.invariant.2)

pub returns-then-r-table : goal.returns-then-r-table
unfolding test_outcome number_of
returns-then-r-table c = record { answer = sections_rest c.args.form c.loop-k.k c.args.table.now c.loop-k.r.cells c.loop-k.r.counts (omega (arith, c.loop-k-test.false)) c.if-r-table.true ∙ c.loop-k.invariant.2 }

pub returns : goal.returns
unfolding test_outcome
returns c = record { answer = sections_done c.args.form c.loop-k.k c.args.table.now c.loop-k.r.cells c.loop-k.r.counts (omega (arith, c.loop-k-test.false)) c.if-r-table.false ∙ c.loop-k.invariant.2 }
