-- What the program prints for its input (01, "The listing", on the program). Assumes nothing: these
-- are definitions.
use Rattle.std.specs.Prelude.{ℕ, ◌+◌, ◌<◌, ◌≡◌, true, false, ltb, length, take, drop}
use mathlib.Core.List.{List, [], ◌∷◌, ◌++◌, flat_map}
use Rattle.text_field.specs.Number.{number_text}
use Rattle.text_field.specs.Outcome.{Outcome, refused, done}
use Rattle.graph_file.specs.File.{read_cells}
use Rattle.graph_rows.specs.Decode.{queries_of}
use Rattle.resolution.specs.Listing.{listing_text, summary_of}

-- the line `refused N`
unfoldable pub refused_line : ℕ → List ℕ
refused_line n = 114 ∷ 101 ∷ 102 ∷ 117 ∷ 115 ∷ 101 ∷ 100 ∷ 32 ∷ (number_text n ++ (10 ∷ []))

-- an output with so much room lent for it, or its refusal's line in its place
unfoldable pub in_place : ℕ → Outcome (List ℕ) → List ℕ
in_place room (refused n) = refused_line n
in_place room (done text) = elim (ltb room (length text)) [ true ↦ refused_line 9 | false ↦ text ]

-- the room that the program lends
abbrev pub lent : ℕ
lent = 65536

-- for a table that was read: its queries' listings in file sequence, then the summary
unfoldable pub table_text : List ℕ → List ℕ
table_text cells = flat_map (λ q. in_place lent (done (listing_text cells q))) (queries_of cells) ++ summary_of cells

unfoldable pub outcome_text : Outcome (List ℕ) → List ℕ
outcome_text (refused n) = refused_line n
outcome_text (done cells) = table_text cells

-- for a text
unfoldable pub program_text : List ℕ → List ℕ
program_text text = outcome_text (read_cells text)

-- A piece is due at place `sent` of a text's output if it is what the output has from there on; the
-- place behind it is a machine number.
pub record Due (text : List ℕ) (sent : ℕ) (piece : List ℕ) : Type 0 where
  pub stands : piece ≡ take (length piece) (drop sent (program_text text))
  pub counted : sent + length piece < 18446744073709551616
