use mathlib.Core.Path.{sym}
use Rattle.text_field.proofs.BufferLaws.{put_in, put_full}
use Rattle.text_field.proofs.put_byte.Goals as goal

pub returns-then-n-out : goal.returns-then-n-out
returns-then-n-out c = record { written = sym (put_in _ _ _ c.if-n-out.true) }

pub returns-else-n-out : goal.returns-else-n-out
returns-else-n-out c = record { written = sym (put_full _ _ _ c.if-n-out.false) }
