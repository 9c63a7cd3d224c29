-- The output in the parts in which the code makes it. Assumes nothing: these are definitions.
use Rattle.std.specs.Prelude.{ℕ, true, false, List, ltb, length}
use Rattle.text_field.specs.Buffer.{Buf, puts}
use Rattle.std.specs.declared.result.Result.{Result}
use Rattle.std.specs.declared.result.Result.TheVariants.{Ok, Err}
use Rattle.text_field.specs.declared.refusal.Refusal.{Refusal}
use Rattle.text_field.specs.Refusal.{number_of}
use Rattle.text_field.specs.Outcome.{done}
use Rattle.graph_rows.specs.Decode.{queries_of}
use Rattle.resolution.specs.Listing.{listing_of, summary_of}
use Rattle.printing.specs.Printed.{refused_line, in_place}

-- a buffer after an answer: the output stays as it was written, a refusal's line is put to the
-- front
unfoldable pub answered : Result ℕ ℕ → List ℕ → Buf
answered (Ok size) out = (out, size)
answered (Err n) out = puts (out, 0) (refused_line n)

-- an answer whose refusal is told by its number
unfoldable pub numbered : Result ℕ Refusal → Result ℕ ℕ
numbered (Ok size) = Ok size
numbered (Err r) = Err (number_of r)

-- with so much room lent for each part of a table's output
module _ (room : ℕ) (cells : List ℕ) where
  -- the listing of query i, and after the last query the summary
  unfoldable pub part_text : ℕ → List ℕ
  part_text i =
      elim (ltb i (length (queries_of cells))) [ true ↦ in_place room (listing_of cells i) | false ↦ in_place room (done (summary_of cells)) ]
