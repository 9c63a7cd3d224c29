-- The steps that `judge_text` hands out fit into the lent table, and stand there afterwards.
use Rattle.std.proofs.Common.{length, ap, ◌∙◌}
use Rattle.text_field.specs.Outcome.{Outcome}
use Rattle.scope_graph.specs.Agree.{Judgement}
use Rattle.judge.specs.Judge.{judge_answer}
use Rattle.judge.proofs.LentLaws.{steps_fit}
use Rattle.tewhoranu.specs.Numbers.{judged}
use Rattle.tewhoranu.proofs.Filling.{steps_within, steps_left_lem}
use Rattle.tewhoranu.proofs.tewhoranu_judge.Goals as goal

pub fill-requires : goal.fill-requires
fill-requires c =
    let what : Outcome Judgement = judge_answer c.args.text.now c.args.query c.args.row.now (length c.args.steps.now) in
    record { room = steps_within what c.args.row.now c.judge_text-told.result.steps c.judge_text-told.ensures.answer.steps (length c.args.steps.now) (steps_fit c.args.query c.args.row.now (length c.args.steps.now) c.args.text.now) }

pub returns : goal.returns
returns c =
    let what : Outcome Judgement = judge_answer c.args.text.now c.args.query c.args.row.now (length c.args.steps.now) in
    record {
      answer_and_memory = (
        c.judged_number.ensures.answer ∙ ap judged c.judge_text-told.ensures.answer.answer,
        steps_left_lem what c.args.row.now c.judge_text-told.result.steps c.judge_text-told.ensures.answer.steps c.args.steps.now c.fill.new.out c.fill.ensures.memory,
      );
    }
