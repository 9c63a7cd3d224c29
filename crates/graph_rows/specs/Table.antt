-- How the code holds the format and the rows so far: as bytes of one fixed string, and as cells of
-- the graph table. What a gym file is, is said in the files above; this one relates it to what the
-- code looks at. Assumes nothing: these are definitions.
use Rattle.std.specs.Prelude.{ℕ, zero, suc, ◌+◌, ◌-◌, ◌*◌, ◌/◌, ◌%◌, ◌≡◌, List, [], ◌∷◌, ◌++◌, map, Bool, true, false, eqb, ltb, get_or, drop}
use Rattle.graph_rows.specs.declared.rows.Counts.{Counts}
use Rattle.graph_rows.specs.declared.format.Layout.{Layout}
use Rattle.graph_rows.specs.declared.format.Sequence as told
use Rattle.graph_rows.specs.declared.format.Sequence.TheVariants.{Ascending, Apart, Once, Free}
use Rattle.graph_rows.specs.declared.items.Content as held
use Rattle.graph_rows.specs.declared.items.Content.TheVariants.{State, Scope, Mark, Count, Letter, Label, End, Name, Kind, PlainKind, Turn}
use Rattle.graph_rows.specs.declared.items.Item as stands
use Rattle.graph_rows.specs.declared.items.Item.TheVariants.{Byte, Field}
use Rattle.graph_rows.specs.Format.{Content, state, scope, mark, count, letter, label, end, name, kind, plain, turn, Item, byte, field, Sequence, ascending, apart, once, free, Section, sections, section_at, Shape, edge_shape, declaration_shape, query_shape, shapes_of, old_form, has_kinds, has_turns}
use Rattle.graph_rows.specs.Admission.{Row, value, row_of, Sofar}

-- the contents by number
unfoldable pub content_number : Content → ℕ
content_number state = 0
content_number scope = 1
content_number mark = 2
content_number count = 3
content_number letter = 4
content_number label = 5
content_number end = 6
content_number name = 7
content_number kind = 8
content_number plain = 9
content_number turn = 10

-- An item's code: a byte stands for itself, a field from 128 on has its content and place.
unfoldable pub code : Item → ℕ
code (byte b) = b
code (field k c) = 128 + 8 * content_number k + c

-- the content of a number; a larger one is read as a turn
unfoldable pub content_of : ℕ → Content
content_of zero = state
content_of (suc zero) = scope
content_of (suc (suc zero)) = mark
content_of (suc (suc (suc zero))) = count
content_of (suc (suc (suc (suc zero)))) = letter
content_of (suc (suc (suc (suc (suc zero))))) = label
content_of (suc (suc (suc (suc (suc (suc zero)))))) = end
content_of (suc (suc (suc (suc (suc (suc (suc zero))))))) = name
content_of (suc (suc (suc (suc (suc (suc (suc (suc zero)))))))) = kind
content_of (suc (suc (suc (suc (suc (suc (suc (suc (suc zero))))))))) = plain
content_of (suc (suc (suc (suc (suc (suc (suc (suc (suc (suc n)))))))))) = turn

-- the item of a code
unfoldable pub item_of : ℕ → Item
item_of x = elim (ltb x 128) [ true ↦ byte x | false ↦ field (content_of ((x - 128) / 8)) (x % 8) ]

-- what the code's enum says of what a field holds, and of an item
unfoldable pub content_meaning : held.Content → Content
content_meaning State = state
content_meaning Scope = scope
content_meaning Mark = mark
content_meaning Count = count
content_meaning Letter = letter
content_meaning Label = label
content_meaning End = end
content_meaning Name = name
content_meaning Kind = kind
content_meaning PlainKind = plain
content_meaning Turn = turn

unfoldable pub item_meaning : stands.Item → Item
item_meaning (Byte b) = byte b
item_meaning (Field k c) = field (content_meaning k) c

-- a section's lines in the fixed string: its names line and the codes of a row's items
unfoldable pub shape_bytes : Shape → List ℕ
shape_bytes h = h.names ++ map code h.row

-- Has a field of this content a range? Any other value is always in range (specs/Admission).
unfoldable pub has_range : Content → Bool
has_range state = true
has_range scope = true
has_range mark = true
has_range count = true
has_range letter = false
has_range label = true
has_range end = true
has_range name = false
has_range kind = false
has_range plain = false
has_range turn = true

-- of a row's items only the fields that have a range, since every row asks for them
unfoldable pub kept_ranged : Bool → Item → List Item → List Item
kept_ranged true i items = i ∷ items
kept_ranged false i items = items

unfoldable pub ranged : List Item → List Item
ranged [] = byte 10 ∷ []
ranged (byte b ∷ items) = ranged items
ranged (field k c ∷ items) = kept_ranged (has_range k) (field k c) (ranged items)

-- and the codes of its fields that have a range
unfoldable pub range_bytes : Shape → List ℕ
range_bytes h = map code (ranged h.row)

-- a section in the fixed string: its lines, the codes of its fields that have a range, and the
-- places of its key as digits, each ended by LF
unfoldable pub layout : Shape → Section → List ℕ
layout h s = shape_bytes h ++ (range_bytes h ++ (map (λ (c : ℕ). 48 + c) s.key ++ (10 ∷ [])))

unfoldable pub layouts : List Shape → List Section → List ℕ
layouts [] ss = []
layouts (h ∷ hs) [] = []
layouts (h ∷ hs) (s ∷ ss) = layout h s ++ layouts hs ss

-- the sections of the old form; then the two that have kinds in the others; then the one with
-- turns, which has a field with a range more
unfoldable pub format_bytes : List ℕ
format_bytes = layouts (shapes_of old_form) sections ++ (shape_bytes (declaration_shape true) ++ (shape_bytes (query_shape true) ++ (shape_bytes (edge_shape true) ++ range_bytes (edge_shape true))))

-- an item, and the items after it unless it ends the line
unfoldable pub line_step : ℕ → List Item → List Item
line_step x items = elim (eqb x 10) [ true ↦ byte 10 ∷ [] | false ↦ item_of x ∷ items ]

-- the items of the codes up to the end of their line
unfoldable pub line_of : List ℕ → List Item
line_of [] = byte 10 ∷ []
line_of (x ∷ rest) = line_step x (line_of rest)

-- the line that starts at a place of the fixed string
unfoldable pub items_at : ℕ → List Item
items_at o = line_of (drop o format_bytes)

unfoldable pub key_step : ℕ → List ℕ → List ℕ
key_step x key = elim (eqb x 10) [ true ↦ [] | false ↦ x % 8 ∷ key ]

unfoldable pub key_of : List ℕ → List ℕ
key_of [] = []
key_of (x ∷ rest) = key_step x (key_of rest)

-- the key that starts at a place of the fixed string
unfoldable pub key_at : ℕ → List ℕ
key_at o = key_of (drop o format_bytes)

-- of two places the one by whether the file shows a column: without it, with it
unfoldable pub place_by : Bool → ℕ → ℕ → ℕ
place_by shown old new = elim shown [ true ↦ new | false ↦ old ]

-- where each section's names line and row start, by the form of the file
abbrev pub names_places : ℕ → List ℕ
names_places form = 0 ∷ 10 ∷ 30 ∷ 60 ∷ 73 ∷ place_by (has_turns form) 85 228 ∷ place_by (has_kinds form) 114 180 ∷ 143 ∷ place_by (has_kinds form) 161 206 ∷ []

unfoldable pub names_place : ℕ → ℕ → ℕ
names_place form k = get_or (names_places form) k 260

abbrev pub row_places : ℕ → List ℕ
row_places form = 6 ∷ 20 ∷ 47 ∷ 67 ∷ 80 ∷ place_by (has_turns form) 99 247 ∷ place_by (has_kinds form) 127 198 ∷ 151 ∷ place_by (has_kinds form) 172 222 ∷ []

unfoldable pub row_place : ℕ → ℕ → ℕ
row_place form k = get_or (row_places form) k 260

-- where its fields with a range start: a kind has none, a turn has
abbrev pub range_places : ℕ → List ℕ
range_places form = 8 ∷ 24 ∷ 53 ∷ 69 ∷ 82 ∷ place_by (has_turns form) 105 255 ∷ 134 ∷ 155 ∷ 177 ∷ []

unfoldable pub range_place : ℕ → ℕ → ℕ
range_place form k = get_or (range_places form) k 260

-- and its key, which is the same in all forms
abbrev pub key_places : List ℕ
key_places = 9 ∷ 27 ∷ 57 ∷ 71 ∷ 84 ∷ 109 ∷ 137 ∷ 158 ∷ 179 ∷ []

unfoldable pub key_place : ℕ → ℕ
key_place k = get_or key_places k 260

-- how many places of a row its items fill: they are the first ones
abbrev pub filled_places : ℕ → List ℕ
filled_places form = 1 ∷ 2 ∷ 3 ∷ 1 ∷ 1 ∷ place_by (has_turns form) 3 4 ∷ 5 ∷ 2 ∷ 4 ∷ []

unfoldable pub filled_place : ℕ → ℕ → ℕ
filled_place form k = get_or (filled_places form) k 0

-- what the code looks up of a section, in a file of a form, before it goes through the rows
unfoldable pub layout_of : ℕ → ℕ → Layout
layout_of form k = record {
  form = form;
  section = k;
  limit = (section_at k).most;
  line = row_place form k;
  range = range_place form k;
  filled = filled_place form k;
}

abbrev pub Known : Layout → Type 0
Known s = s ≡ layout_of s.form s.section

-- what the code's enum says of how rows follow one another
unfoldable pub sequence_meaning : told.Sequence → Sequence
sequence_meaning Ascending = ascending
sequence_meaning Apart = apart
sequence_meaning Once = once
sequence_meaning Free = free

-- n rows of a table, from its front
unfoldable pub rows_at : ℕ → List ℕ → List Row
rows_at zero cells = []
rows_at (suc n) cells = row_of cells ∷ rows_at n (drop 6 cells)

-- the letters of n label rows
unfoldable pub letters_at : ℕ → List ℕ → List ℕ
letters_at n cells = map (λ (row : Row). value row 0) (rows_at n cells)

-- the order pairs after so many labels
unfoldable pub pairs_at : ℕ → ℕ → List ℕ → List Row
pairs_at labels n table = rows_at n (drop (1 + 6 * labels) table)

-- the n rows before place p of a table, the last of them first
unfoldable pub rows_back : ℕ → ℕ → List ℕ → List Row
rows_back zero p cells = []
rows_back (suc n) p cells = row_of (drop (p - 6) cells) ∷ rows_back n (p - 6) cells

-- What the rows so far leave, as the table and its counts show it: the first rows are the labels,
-- the next ones the order pairs, and the section's rows end at place p.
unfoldable pub sofar_at : List ℕ → ℕ → Counts → Sofar
sofar_at table p c =
    record {
      letters = letters_at c.labels (drop 1 table);
      pairs = pairs_at c.labels c.pairs table;
      scopes = c.scopes;
      rows = c.rows;
      own = rows_back c.rows p table;
    }
