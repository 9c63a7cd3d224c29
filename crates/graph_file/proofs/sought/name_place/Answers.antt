use Prim.Native.Nat.{ℕ, ◌+◌, ◌-◌}
use mathlib.Core.Path.{◌≡◌, ap, ◌∙◌}
use native.Mathlib.Omega.{arith}
use mathlib.Core.Logic.{inl}
use lib.ListN.{length, length-replicate}
use Rattle.text_field.specs.Refusal.{number_of}
use Rattle.graph_rows.specs.Format.{shape_at, query_section}
use Rattle.graph_rows.specs.Tested.{form_in}
use Rattle.graph_file.specs.NameSought.{after_lines, line_count, from_name, place_from}
use Rattle.graph_file.specs.Reader.{part_outcome}
use Rattle.graph_file.proofs.SoughtLaws.{same_place, file_refused, query_refused, query_read}
use Rattle.graph_file.proofs.sought.name_place.Goals as goal

pub read_whole-requires : goal.read_whole-requires
read_whole-requires c = record { room = inl (omega (arith, length-replicate {A = ℕ} 12277 0)) }

pub returns-in_default : goal.returns-in_default
unfolding part_outcome
returns-in_default c = record { answer = same_place _ (length c.args.text.now) (length c.args.text.now) (file_refused c.args.text.now c.args.query (number_of c.in_default.field-0) c.in_default.ensures.answer) }

pub returns-then-n-query : goal.returns-then-n-query
unfolding part_outcome
returns-then-n-query c = record { answer = same_place _ (length c.args.text.now) (length c.args.text.now) (query_refused c.in-Ok.r c.read_whole.new.table c.args.text.now c.args.query c.in-Ok.ensures.answer c.if-n-query.true) }

pub returns : goal.returns
unfolding part_outcome form_in
returns c =
    let k = c.saturating_sub.result + c.args.query
    in let z : k ≡ line_count c.args.text.now - c.in-Ok.r.counts.rows + c.args.query = omega (arith, c.saturating_sub.ensures, c.line_count.ensures.answer)
    in record { answer = c.name_after.ensures.answer ∙ ap (λ (f : ℕ). place_from c.args.text.now (from_name (shape_at f query_section).row (after_lines k c.args.text.now))) c.in-Ok.ensures.form ∙ query_read c.in-Ok.r c.read_whole.new.table c.args.text.now c.args.query c.in-Ok.ensures.answer c.if-n-query.false k z }
