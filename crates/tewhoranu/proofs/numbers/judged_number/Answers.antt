use borrow.Author.Rules.{rules}
use Rattle.judge.specs.Judge.{standing_in, meaning}
use Rattle.tewhoranu.specs.Numbers.{told, case_number, steps_number, standing_case, standing_steps, judged}
use Rattle.tewhoranu.proofs.numbers.judged_number.Goals as goal

pub returns-in-Ok-Visible : goal.returns-in-Ok-Visible
unfolding meaning standing_in judged told case_number steps_number standing_case standing_steps
returns-in-Ok-Visible c = search rules

pub returns-in-Ok-Shadowed : goal.returns-in-Ok-Shadowed
unfolding meaning standing_in judged told case_number steps_number standing_case standing_steps
returns-in-Ok-Shadowed c = search rules

pub returns-in-Ok-Unreached : goal.returns-in-Ok-Unreached
unfolding meaning standing_in judged told case_number steps_number standing_case standing_steps
returns-in-Ok-Unreached c = search rules

pub returns-in-Err : goal.returns-in-Err
unfolding meaning judged told
returns-in-Err c = search rules
