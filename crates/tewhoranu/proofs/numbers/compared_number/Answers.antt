use borrow.Author.Rules.{rules}
use Rattle.comparison.specs.Compare.{told_in, meaning}
use Rattle.tewhoranu.specs.Numbers.{told, case_number, steps_number, which_case, comparison_case, comparison_steps, compared}
use Rattle.tewhoranu.proofs.numbers.compared_number.Goals as goal

pub returns-in-Ok-First : goal.returns-in-Ok-First
unfolding meaning told_in compared told case_number steps_number which_case comparison_case comparison_steps
returns-in-Ok-First c = search rules

pub returns-in-Ok-Second : goal.returns-in-Ok-Second
unfolding meaning told_in compared told case_number steps_number which_case comparison_case comparison_steps
returns-in-Ok-Second c = search rules

pub returns-in-Ok-Neither : goal.returns-in-Ok-Neither
unfolding meaning told_in compared told case_number steps_number which_case comparison_case comparison_steps
returns-in-Ok-Neither c = search rules

pub returns-in-Err : goal.returns-in-Err
unfolding meaning compared told
returns-in-Err c = search rules
