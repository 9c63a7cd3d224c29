-- What a writer wrote. Assumes nothing: these are definitions.
use Rattle.std.specs.Prelude.{◌≡◌, List, ℕ}
use Rattle.text_field.specs.Buffer.{Buf, puts}
use Rattle.text_field.specs.declared.writer.Writer.{Writer}

-- the memory behind a writer, and the place of its next byte
abbrev pub buf : Writer → Buf
buf w = (w.out.now, w.end)

-- from one writer to the next: they write to the same memory, and the text was written between
pub record Wrote (before after : Writer) (text : List ℕ) : Type 0 where
  pub same : after.out.ghost_name ≡ before.out.ghost_name
  pub bytes : buf after ≡ puts (buf before) text
