use Rattle.dot_text.proofs.Steps.{number_at}
use Rattle.dot_text.proofs.tokens.number.Goals as goal

pub returns : goal.returns
returns c = record { answer = number_at c.args.text.now c.args.at c.past_blanks.result c.read_number.result c.past_blanks.ensures.rest c.read_number.ensures.answer }
