-- `scope_count` meets its contract. Assumes nothing.
use Prim.Native.Nat.{ℕ}
use mathlib.Core.Path.{ap, ◌∙◌}
use mathlib.Core.List.{List}
use lib.ListN.{get_or}
use Rattle.board.proofs.SectionFound.{count_is}
use Rattle.board.proofs.sections.scope_count.Goals as goal

pub returns : goal.returns
returns c = record { answer = c.get_or.ensures.answer ∙ ap (λ (l : List ℕ). get_or l 1 0) c.section_rows.ensures.answer ∙ count_is c.args.table.now c.requires.read }
