-- What the reader's functions answer with, as the definitions of a line say it. Assumes nothing:
-- these are definitions.
use Rattle.std.specs.Prelude.{ℕ, suc, ◌+◌, ◌*◌, ◌≤◌, ◌<◌, ◌≡◌, List, [], ◌∷◌, ◌⊎◌, length, take, drop}
use Rattle.std.specs.declared.option.Option.{Option}
use Rattle.std.specs.declared.option.Option.TheVariants.{Some, None}
use Rattle.std.specs.declared.result.Result.{Result}
use Rattle.std.specs.declared.result.Result.TheVariants.{Ok, Err}
use Rattle.std.proofs.lemmas.List.Edits.{sets}
use Rattle.text_field.specs.declared.refusal.Refusal.{Refusal}
use Rattle.text_field.specs.Refusal.{number_of}
use Rattle.graph_file.specs.declared.line.Taken.{Taken}
use Rattle.graph_file.specs.declared.line.Taken.TheVariants.{One, Two}
use Rattle.graph_file.specs.declared.line.Line.{Line}
use Rattle.graph_rows.specs.declared.rows.Counts.{Counts}
use Rattle.graph_file.specs.declared.reader.Part.{Part}
use Rattle.graph_rows.specs.Format.{Item, section_at, own_cells}
use Rattle.text_field.specs.Outcome.{Outcome, refused, done, and_then}
use Rattle.graph_rows.specs.Admission.{Row}
use Rattle.graph_file.specs.Line.{Reading, read_item, place_of}
use Rattle.graph_rows.specs.Way.{Stage}
use Rattle.graph_rows.specs.Table.{sofar_at}
use Rattle.graph_file.specs.NameSought.{line_count}
use Rattle.graph_rows.specs.Counting.{Placed, RowsTaken, room_before}

-- the values of a field
unfoldable pub values_of : Taken → List ℕ
values_of (One v) = v ∷ []
values_of (Two v w) = v ∷ w ∷ []

-- what a field gives, with the place after it for the text from there on; nothing is refusal 2
unfoldable pub took : Option (Taken × ℕ) → List ℕ → Outcome Reading
took None text = refused 2
took (Some (values, next)) text = done (record { values = values_of values; rest = drop next text })

-- what a byte that must stand there gives, by the place after it
unfoldable pub passed : Option ℕ → List ℕ → Outcome Reading
passed None text = refused 2
passed (Some next) text = done (record { values = []; rest = drop next text })

-- the text from a place on, if there is one
unfoldable pub rest_after : Option ℕ → List ℕ → List ℕ
rest_after None text = []
rest_after (Some next) text = drop next text

-- what an item gives whose values were put into the row
unfoldable pub row_outcome : Option ℕ → Row → List ℕ → Outcome Reading
row_outcome None row text = refused 2
row_outcome (Some next) row text = done (record { values = row; rest = drop next text })

-- what a line gives
unfoldable pub line_outcome : Option Line → List ℕ → Outcome Reading
line_outcome None text = refused 2
line_outcome (Some l) text = done (record { values = l.row; rest = drop l.next text })

-- an item's values put into the row
unfoldable pub item_put : Item → Row → Reading → Reading
item_put i row r = record { values = sets row (place_of i) r.values; rest = r.rest }

-- one item of a line read on from a row
unfoldable pub item_line : List ℕ → Item → Row → List ℕ → Outcome Reading
item_line letters i row text = and_then (read_item letters i text) (λ r. done (item_put i row r))

-- How far reading has come, with the first n cells of the table made.
unfoldable pub stage_at : List ℕ → ℕ → Counts → List ℕ → Stage
stage_at table n c rest = record { sofar = sofar_at table n c; made = take n table; rest = rest }

-- what a part of reading answers: its refusal, or the stage that it leaves
unfoldable pub part_outcome : Result Part Refusal → List ℕ → List ℕ → Outcome Stage
part_outcome (Ok r) table text = done (stage_at table r.cells r.counts (drop r.next text))
part_outcome (Err r) table text = refused (number_of r)

-- A row was read: the section had room, the table has six cells more, the section one row more, and
-- the counts fit.
pub record RowTaken (k n : ℕ) (c : Counts) (cells : ℕ) (after : Counts) : Type 0 where
  pub room : c.rows < (section_at k).most
  pub longer : cells ≡ n + 6
  pub more : after.rows ≡ c.rows + 1
  pub placed : Placed k cells after

-- A section was taken: its rows, and the place after it lies in its part of the text.
pub record SectionTaken (k n size : ℕ) (r : Part) : Type 0 where
  pub rows : RowsTaken k n r.cells r.counts
  pub inside : r.next ≤ size

-- Behind the first n cells the table has room for rows of section k: for one more than the section
-- admits, or for one more than there are lines left, since each row takes a line.
abbrev pub RowsRoom : ℕ → ℕ → List ℕ → ℕ → Type 0
RowsRoom k n rest size = (n + 6 * suc (section_at k).most ≤ size) ⊎ (n + 6 * suc (line_count rest) ≤ size)

-- A table of this size has room to read the text in: as any text needs it, or as this one's lines
-- do, six cells each behind the form and six more.
abbrev pub TextRoom : List ℕ → ℕ → Type 0
TextRoom text size = (own_cells ≤ size) ⊎ (1 + 6 * suc (line_count text) ≤ size)

-- the cells of a table for a short text
abbrev pub short_cells : ℕ
short_cells = 253

-- what reading a text over a table answers: its refusal, or the cells that it made
unfoldable pub table_read : Result ℕ Refusal → List ℕ → Outcome (List ℕ)
table_read (Err r) table = refused (number_of r)
table_read (Ok n) table = done (take n table)

-- the cells that were written are in the table
abbrev pub WrittenIn : Result ℕ Refusal → List ℕ → Type 0
WrittenIn a table = (n : ℕ) → a ≡ Ok n → n ≤ length table

-- The sections above section k were taken: the place after them lies in the text, the cells are no
-- more than these sections admit, the counts fit, and each row has taken a line.
pub record SomeTaken (k : ℕ) (text : List ℕ) (r : Part) : Type 0 where
  pub inside : r.next ≤ length text
  pub room : r.cells ≤ room_before k
  pub placed : Placed k r.cells r.counts
  pub lines : r.cells + 6 * line_count (drop r.next text) ≤ 1 + 6 * line_count text
