-- One line of the file against the items of its form, read and written (document 01, "The gym
-- file"). Assumes nothing: these are definitions.
use Rattle.std.specs.Prelude.{ℕ, zero, suc, ◌+◌, ◌%◌, List, [], ◌∷◌, ◌++◌, Bool, true, false, eqb, get_or, drop}
use Rattle.std.proofs.lemmas.List.Edits.{sets}
use Rattle.std.specs.declared.option.Option.{Option}
use Rattle.text_field.specs.Bytes.{is_capital, is_lower}
use Rattle.text_field.specs.Number.{number_meaning, number_text, number_here}
use Rattle.text_field.specs.Name.{name_meaning, name_text, name_here}
use Rattle.graph_rows.specs.Format.{Content, state, scope, mark, count, letter, label, end, name, kind, plain, turn, plain_kind, Item, byte, field}
use Rattle.text_field.specs.Outcome.{Outcome, refused, done, and_then}
use Rattle.graph_rows.specs.Admission.{Row, value, place}
use Rattle.graph_rows.specs.Way.{starts_with}

-- What reading takes from the front of the text: values, and the text after it.
pub record Reading : Type 0 where
  pub values : List ℕ
  pub rest : List ℕ

-- a number and the text behind it; without a number the line is not of its form, which is 2
unfoldable pub number_taken : Option (ℕ × ℕ) → List ℕ → Outcome Reading
number_taken n text =
    and_then (number_meaning 2 n) (λ f. done (record { values = f.value ∷ []; rest = drop f.next text }))

-- a name's two cells and the text behind it, or 2
unfoldable pub name_taken : Option (ℕ × ℕ × ℕ) → List ℕ → Outcome Reading
name_taken n text =
    and_then (name_meaning 2 n) (λ f. done (record { values = f.high ∷ f.low ∷ []; rest = drop f.next text }))

-- one byte that stands for v, if it is of its class
unfoldable pub byte_taken : Bool → ℕ → List ℕ → Outcome Reading
byte_taken true v text = done (record { values = v ∷ []; rest = drop 1 text })
byte_taken false v text = refused 2

-- an end by its byte: 0 for the end mark `$`, else one more than the label's number
unfoldable pub end_taken : List ℕ → ℕ → List ℕ → Outcome Reading
end_taken letters x text =
    elim (eqb x 36) [ true ↦ byte_taken true 0 text | false ↦ byte_taken (is_capital x) (suc (place x letters)) text ]

-- the first byte; past the end 0, which is of no class
abbrev pub first : List ℕ → ℕ
first text = get_or text 0 0

-- A field at the front of the text. A label's form is any capital (01, "The gym file"): whether the
-- file lists it is a matter of range, refusal 3. A kind is one letter a to z (02, K8); the plain
-- one has no text.
unfoldable pub read_field : List ℕ → Content → List ℕ → Outcome Reading
read_field letters state text = number_taken (number_here text) text
read_field letters scope text = number_taken (number_here text) text
read_field letters mark text = number_taken (number_here text) text
read_field letters count text = number_taken (number_here text) text
read_field letters letter text = byte_taken (is_capital (first text)) (first text) text
read_field letters label text = byte_taken (is_capital (first text)) (place (first text) letters) text
read_field letters end text = end_taken letters (first text) text
read_field letters name text = name_taken (name_here text) text
read_field letters kind text = byte_taken (is_lower (first text)) (first text) text
read_field letters plain text = done (record { values = plain_kind ∷ []; rest = text })
read_field letters turn text = number_taken (number_here text) text

-- One item at the front of the text: a byte that must stand there and has no value, or a field.
unfoldable pub read_item : List ℕ → Item → List ℕ → Outcome Reading
read_item letters (byte b) text =
    elim (starts_with b text) [ true ↦ done (record { values = []; rest = drop 1 text }) | false ↦ refused 2 ]
read_item letters (field k c) text = read_field letters k text

-- the place in the row where an item's values go
unfoldable pub place_of : Item → ℕ
place_of (byte b) = 0
place_of (field k c) = c

-- A line's items in turn, each one's values put at its place in the row: the row's values and the
-- text after the line, or 2.
unfoldable pub read_items : List ℕ → List Item → Row → List ℕ → Outcome Reading
read_items letters [] row text = done (record { values = row; rest = text })
read_items letters (i ∷ items) row text =
    and_then (read_item letters i text) (λ r. read_items letters items (sets row (place_of i) r.values) r.rest)

-- the byte of a letter's or a kind's cell, which is at most 122 wherever it is written
abbrev pub as_byte : ℕ → ℕ
as_byte v = v % 256

unfoldable pub end_byte : List ℕ → ℕ → ℕ
end_byte letters zero = 36
end_byte letters (suc v) = as_byte (get_or letters v 0)

-- a field's text, from the value at its place and the one after it
unfoldable pub field_text : List ℕ → Content → ℕ → ℕ → List ℕ
field_text letters state v w = number_text v
field_text letters scope v w = number_text v
field_text letters mark v w = number_text v
field_text letters count v w = number_text v
field_text letters letter v w = as_byte v ∷ []
field_text letters label v w = as_byte (get_or letters v 0) ∷ []
field_text letters end v w = end_byte letters v ∷ []
field_text letters name v w = name_text v w
field_text letters kind v w = as_byte v ∷ []
field_text letters plain v w = []
field_text letters turn v w = number_text v

-- an item's text in a row's line
unfoldable pub item_text : List ℕ → Row → Item → List ℕ
item_text letters row (byte b) = b ∷ []
item_text letters row (field k c) = field_text letters k (value row c) (value row (c + 1))

-- a row's text, by the items of its line
unfoldable pub line_text : List ℕ → List Item → Row → List ℕ
line_text letters [] row = []
line_text letters (i ∷ items) row = item_text letters row i ++ line_text letters items row
