-- `accept_of` meets its contract: the board is made, the form tested, then each listing. Assumes
-- nothing.
use mathlib.Core.Path.{sym, ◌∙◌}
use Rattle.text_field.specs.Refusal.{number_of}
use Rattle.accepting.specs.Verdict.{meaning}
use Rattle.accepting.proofs.VerdictLaws.{not_printed}
use Rattle.accepting.proofs.texts.accept_of.Goals as goal

pub returns-then-not-in_form : goal.returns-then-not-in_form
unfolding meaning number_of
returns-then-not-in_form c = record { answer = not_printed c.args.table.now c.args.lists.now (sym c.in_form.ensures.answer ∙ c.if-not-in_form.true) }

pub first_wrong-requires : goal.first_wrong-requires
first_wrong-requires c = record { read = c.requires.read; made = c.put_board.ensures.made; form = sym c.in_form.ensures.answer ∙ c.if-not-in_form.false }

pub returns : goal.returns
returns c = record { answer = c.first_wrong.ensures.answer }
