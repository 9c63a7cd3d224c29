use mathlib.Core.Path.{refl, ◌∙◌}
use Rattle.text_field.proofs.BufferLaws.{puts_one}
use Rattle.text_field.proofs.writer.Writer.put.Goals as goal

pub returns : goal.returns
returns c = record { wrote = record { same = refl; bytes = c.put_byte-self.ensures.written ∙ puts_one _ _ } }
