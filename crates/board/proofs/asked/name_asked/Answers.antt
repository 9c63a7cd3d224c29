-- `name_asked` meets its contract. Assumes nothing.
use Rattle.block.specs.Ask.{ask_name}
use Rattle.board.proofs.asked.name_asked.Goals as goal

pub returns : goal.returns
unfolding ask_name
returns c = record { answer = λ i. record { kind = c.ask_kind.ensures.answer i; high = c.ask_high.ensures.answer i; low = c.ask_low.ensures.answer i } }
