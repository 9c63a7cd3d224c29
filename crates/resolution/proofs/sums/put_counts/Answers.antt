-- `put_counts` meets its contract. Assumes nothing.
use Rattle.text_field.proofs.WritingLaws.{◌then◌}
use Rattle.resolution.specs.Figures.{counts_text}
use Rattle.resolution.proofs.sums.put_counts.Goals as goal

pub returns : goal.returns
unfolding counts_text
returns c = record { wrote = c.put_bytes.ensures.wrote then c.put_field.ensures.wrote then c.put_field-2.ensures.wrote then c.put_field-3.ensures.wrote then c.put_field-4.ensures.wrote }
