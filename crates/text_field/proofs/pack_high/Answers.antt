use mathlib.Core.Path.{◌∙◌}
use lib.ListN.{replicate}
use borrow.Rule.Slice.PartMut.{put_mid}
use Rattle.text_field.specs.Name.{pack_high}
use Rattle.text_field.proofs.CellLaws.{packed_eight, packed_alike, padded}
use Rattle.text_field.proofs.pack_high.Goals as goal

pub returns : goal.returns
unfolding pack_high
returns c =
    let bytes = put_mid 0 c.min-width.result (replicate 8 0) c.copy_from_slice.new.self
    in record { answer = c.from_be_bytes.ensures ∙ packed_eight bytes ∙ packed_alike 8 bytes c.args.name.now (padded c.args.name.now c.copy_from_slice.new.self c.min-width.result c.min-width.ensures c.copy_from_slice.ensures.after) }
