-- `summary_of` meets its contract. Assumes nothing.
use lib.ListN.{length}
use Prim.Native.Nat.{ℕ}
use mathlib.Core.Path.{ap, ◌∙◌}
use mathlib.Core.List.{List}
use Rattle.text_field.specs.Answer.{answer, leaves}
use Rattle.text_field.specs.Outcome.{done}
use Rattle.resolution.proofs.Counts.{figures_few, figures_text_lem}
use Rattle.resolution.proofs.sums.summary_of.Goals as goal

pub summary_by-requires : goal.summary_by-requires
summary_by-requires c = record { few = figures_few c.args.table.now _ c.figures_of-c.ensures.answer c.requires.accepted }

pub returns : goal.returns
returns c = let e = figures_text_lem c.args.table.now _ c.figures_of-c.ensures.answer in record { answer = c.summary_by.ensures.answer ∙ ap (λ (t : List ℕ). answer (done t) (length c.args.out.now)) e; memory = c.summary_by.ensures.memory ∙ ap (λ (t : List ℕ). leaves (done t) c.args.out.now) e }
