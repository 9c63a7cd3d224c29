-- `printing::parts::put_summary` writes what is printed of the figures. Assumes nothing.
use Prim.Native.Nat.{ℕ}
use mathlib.Core.Path.{ap, ◌∙◌}
use Rattle.std.specs.declared.result.Result.{Result}
use Rattle.printing.specs.Parts.{answered}
use Rattle.resolution.specs.Figures.{figures_text}
use Rattle.text_field.specs.Outcome.{done}
use Rattle.printing.proofs.Laws.{in_place_lem}
use Rattle.printing.proofs.parts.put_summary.Goals as goal

pub returns : goal.returns
returns c = record { written = in_place_lem _ c.args.out.now _ _ (c.put_answer.ensures.written ∙ ap (λ (a : Result ℕ ℕ). answered a c.summary_by-a.new.out) c.numbered.ensures.answer) (done (figures_text c.args.c)) c.summary_by-a.ensures.answer c.summary_by-a.ensures.memory }
