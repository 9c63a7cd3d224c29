-- `put_scope` meets its contract. Assumes nothing.
use Rattle.text_field.proofs.WritingLaws.{◌then◌}
use Rattle.readers.specs.Readers.{scope_line}
use Rattle.readers.proofs.scopes.put_scope.Goals as goal

pub returns : goal.returns
unfolding scope_line
returns c = record { wrote = c.put_number.ensures.wrote then c.put.ensures.wrote }
