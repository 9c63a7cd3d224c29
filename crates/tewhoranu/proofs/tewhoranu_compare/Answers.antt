-- The steps that `compare_text` hands out fit into the lent tables, and stand there afterwards.
use Rattle.std.proofs.Common.{length, ap, ◌∙◌}
use Rattle.text_field.specs.Outcome.{Outcome}
use Rattle.comparison.specs.Compare.{Told, compare_answer}
use Rattle.comparison.proofs.LentLaws.{first_fits, second_fits}
use Rattle.tewhoranu.specs.Numbers.{compared}
use Rattle.tewhoranu.proofs.Filling.{steps_within, steps_left_lem}
use Rattle.tewhoranu.proofs.tewhoranu_compare.Goals as goal

pub fill-requires : goal.fill-requires
fill-requires c =
    let what : Outcome Told = compare_answer c.args.text.now c.args.a.now c.args.b.now (length c.args.first.now) (length c.args.second.now) in
    record { room = steps_within what c.args.a.now c.compare_text-told.result.first c.compare_text-told.ensures.answer.first (length c.args.first.now) (first_fits c.args.text.now c.args.a.now c.args.b.now (length c.args.first.now) (length c.args.second.now)) }

pub fill-requires-2 : goal.fill-requires-2
fill-requires-2 c =
    let what : Outcome Told = compare_answer c.args.text.now c.args.a.now c.args.b.now (length c.args.first.now) (length c.args.second.now) in
    record { room = steps_within what c.args.b.now c.compare_text-told.result.second c.compare_text-told.ensures.answer.second (length c.args.second.now) (second_fits c.args.text.now c.args.a.now c.args.b.now (length c.args.first.now) (length c.args.second.now)) }

pub returns : goal.returns
returns c =
    let what : Outcome Told = compare_answer c.args.text.now c.args.a.now c.args.b.now (length c.args.first.now) (length c.args.second.now) in
    record {
      answer_and_memory = (
        c.compared_number.ensures.answer ∙ ap compared c.compare_text-told.ensures.answer.answer,
        steps_left_lem what c.args.a.now c.compare_text-told.result.first c.compare_text-told.ensures.answer.first c.args.first.now c.fill.new.out c.fill.ensures.memory,
        steps_left_lem what c.args.b.now c.compare_text-told.result.second c.compare_text-told.ensures.answer.second c.args.second.now c.fill-2.new.out c.fill-2.ensures.memory,
      );
    }
