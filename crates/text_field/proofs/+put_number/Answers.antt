use native.Mathlib.Omega.{arith}
use Rattle.text_field.proofs.Steps.{put_short, put_long}
use Rattle.text_field.proofs.+put_number.Goals as goal

pub returns-then-v-lt10 : goal.returns-then-v-lt10
returns-then-v-lt10 t c = record { written = put_short _ _ _ _ c.digit_byte.ensures.answer (omega arith) c.put_byte.ensures.written }

pub returns : goal.returns
returns t c = record { written = put_long _ _ _ _ c.digit_byte-2.ensures.answer (omega arith) _ c.put_number-k.ensures.written c.put_byte-2.ensures.written }
