-- What the writer's functions return, in terms of the definitions of writing (specs/File). Assumes
-- nothing: these are definitions.
use Rattle.std.specs.Prelude.{ℕ, ◌≡◌, List, [], drop}
use Rattle.text_field.specs.Buffer.{Buf, puts}
use Rattle.text_field.specs.declared.writer.Writer.{Writer}
use Rattle.text_field.specs.Writing.{buf}
use Rattle.text_field.specs.Outcome.{Outcome, refused, done}
use Rattle.graph_file.specs.declared.writer.Put.{Put}
use Rattle.graph_rows.specs.Admission.{Sofar}
use Rattle.graph_rows.specs.Way.{Stage}
use Rattle.graph_rows.specs.Table.{sofar_at}
use Rattle.graph_file.specs.File.{write_text}

-- How far writing into a buffer has come: what is known of the rows so far, the buffer with the
-- place after the text, and the cells that are left.
pub record Poured : Type 0 where
  pub sofar : Sofar
  pub buffer : Buf
  pub rest : List ℕ

-- puts what a stage has made into the buffer
unfoldable pub poured : Buf → Stage → Poured
poured b g = record { sofar = g.sofar; buffer = puts b g.made; rest = g.rest }

-- puts what was made into the buffer, unless it was refused
unfoldable pub pour : Buf → Outcome Stage → Outcome Poured
pour b (refused n) = refused n
pour b (done g) = done (poured b g)

-- what a writing function returns: how far it has come in the table, and the buffer
unfoldable pub put_at : Put → List ℕ → Writer → Poured
put_at r table to = record { sofar = sofar_at table r.cells r.counts; buffer = buf to; rest = drop r.cells table }

-- it comes to its end without a refusal
abbrev pub Passes : Outcome Stage → Type 0
Passes o = (g : Stage) × (o ≡ done g)

unfoldable pub made_in : Outcome (List ℕ) → List ℕ
made_in (refused n) = []
made_in (done text) = text

-- the text of a table that is written; of a refused one, none
unfoldable pub text_in : List ℕ → List ℕ
text_in cells = made_in (write_text cells)
