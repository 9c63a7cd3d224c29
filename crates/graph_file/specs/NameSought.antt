-- Which bytes of the file are the name that a query seeks (document 01, "The gym file", its end).
-- Assumes nothing: these are definitions.
use Rattle.std.specs.Prelude.{ℕ, zero, suc, ◌+◌, ◌-◌, List, [], ◌∷◌, Bool, true, false, eqb, ltb, length, take}
use Rattle.std.specs.declared.option.Option.{Option}
use Rattle.std.specs.declared.option.Option.TheVariants.{Some, None}
use Rattle.text_field.specs.Name.{name_here}
use Rattle.graph_file.specs.declared.sought.NamePlace.{NamePlace}
use Rattle.graph_rows.specs.Format.{Item, byte, field, values_of, shape_at, query_section}
use Rattle.text_field.specs.Outcome.{Outcome, refused, done}
use Rattle.graph_file.specs.Line.{Reading, read_item}
use Rattle.graph_rows.specs.Way.{Stage}
use Rattle.graph_file.specs.File.{form_of, read_stage}

-- the part of the text after its first n lines
unfoldable pub after_lines : ℕ → List ℕ → List ℕ
after_lines zero text = text
after_lines (suc n) [] = []
after_lines (suc n) (x ∷ rest) = elim (eqb x 10) [ true ↦ after_lines n rest | false ↦ after_lines (suc n) rest ]

-- how many lines the text has
unfoldable pub line_count : List ℕ → ℕ
line_count [] = 0
line_count (x ∷ rest) = elim (eqb x 10) [ true ↦ suc (line_count rest) | false ↦ line_count rest ]

-- the part at the front of the text that is a name
unfoldable pub name_part : Option (ℕ × ℕ × ℕ) → List ℕ → List ℕ
name_part (Some (high, low, width)) text = take width text
name_part None text = []

unfoldable pub rest_of : Outcome Reading → List ℕ
rest_of (refused n) = []
rest_of (done r) = r.rest

-- Is the item a name?
unfoldable pub is_name_field : Item → Bool
is_name_field (byte b) = false
is_name_field (field k c) = eqb (values_of k) 2

-- what is left of a line from its name on, nothing where it has none; a line with a name before its
-- end has no label before the name
unfoldable pub from_name : List Item → List ℕ → List ℕ
from_name [] text = []
from_name (i ∷ items) text = elim (is_name_field i) [ true ↦ text | false ↦ from_name items (rest_of (read_item [] i text)) ]

-- Queries are the last section, so the last n lines of a file with n queries are theirs: the text
-- from the name in query q's line on, if there is a query q. The line is as the file's form has it.
unfoldable pub query_from : ℕ → ℕ → List ℕ → ℕ → List ℕ
query_from form n text q = elim (ltb q n) [ true ↦ from_name (shape_at form query_section).row (after_lines (line_count text - n + q) text) | false ↦ [] ]

unfoldable pub from_within : Outcome Stage → List ℕ → ℕ → List ℕ
from_within (refused n) text q = []
from_within (done g) text q = query_from (form_of text) g.sofar.rows text q

-- The text from the name on that query q of the file seeks; nothing where a refusal stands in the
-- way. After the last section the rows so far are the queries.
unfoldable pub from_sought : List ℕ → ℕ → List ℕ
from_sought text q = from_within (read_stage text) text q

-- the name at the front of the text
unfoldable pub name_front : List ℕ → List ℕ
name_front text = name_part (name_here text) text

-- the name that query q of the file seeks; nothing where a refusal stands in the way
unfoldable pub name_sought : List ℕ → ℕ → List ℕ
name_sought text q = name_front (from_sought text q)

-- where the name at the front of the last part of a text stands in the text
unfoldable pub place_from : List ℕ → List ℕ → NamePlace
place_from text last = record { from = length text - length last; to = length text - length last + length (name_front last) }

-- Where the name sought stands in the text: the place of its first byte and the place after its
-- last. Where a refusal stands in the way both are the text's end.
unfoldable pub place_sought : List ℕ → ℕ → NamePlace
place_sought text q = place_from text (from_sought text q)
