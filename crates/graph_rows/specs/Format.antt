-- The gym file as one table: nine sections, each with its limits and its key, and by the file's
-- form its names line and the items of a row (document 01, "The gym file"; 02, K8 and K12). Assumes
-- nothing: these are definitions.
use Rattle.std.specs.Prelude.{ℕ, zero, suc, List, [], ◌∷◌, Bool, true, false, ◌&&◌, get_or}

-- What a field of a row holds: a state, a scope, a mark, the count of scopes, the letter of a new
-- label, a label, one end of an order pair or of an open pair (the end mark or a label), a name, a
-- kind (02, K8), the kind that a line without kinds leaves out, which is `v`, or a turn (02, K12).
pub data Content : Type 0 where
  state scope mark count letter label end name kind plain turn : Content

-- `v`, the kind of all that stands in a file without kinds
abbrev pub plain_kind : ℕ
plain_kind = 118

-- A row of the graph table has five values. An item of a line is a byte that stands there as it is,
-- or a field, whose value is the row's at the place given; a name takes that place and the next.
pub data Item : Type 0 where
  byte : ℕ → Item
  field : Content → ℕ → Item

-- how many of the row's values a field has, by what it holds
unfoldable pub values_of : Content → ℕ
values_of state = 1
values_of scope = 1
values_of mark = 1
values_of count = 1
values_of letter = 1
values_of label = 1
values_of end = 1
values_of name = 2
values_of kind = 1
values_of plain = 1
values_of turn = 1

-- a test of every item of a line
unfoldable pub every_item : (Item → Bool) → List Item → Bool
every_item test [] = true
every_item test (i ∷ items) = test i && every_item test items

-- How the rows of a section follow one another: they ascend strictly by the key; they ascend, and
-- no edge stands twice, at whatever turn (02, K12); they do not repeat; or they are free.
pub data Sequence : Type 0 where
  ascending apart once free : Sequence

-- A section, whatever the form of its file: how many rows it must have and may have; the places of
-- the values that rows are sorted by, first the weightiest; how rows follow one another.
pub record Section : Type 0 where
  pub least : ℕ
  pub most : ℕ
  pub key : List ℕ
  pub sequence : Sequence

-- What a section looks like in a file of one form: its names line, and the items of a row.
pub record Shape : Type 0 where
  pub names : List ℕ
  pub row : List Item

-- A file's form has a number, which is the graph table's first cell: document 01's form, which 02
-- calls the old one, the form with kinds (02, K8), and the one with kinds and turns (02, K12).
abbrev pub old_form : ℕ
old_form = 0

abbrev pub kind_form : ℕ
kind_form = 1

abbrev pub turn_form : ℕ
turn_form = 2

-- Does a file of this form show kinds? A number that is no form's counts as the old one.
unfoldable pub has_kinds : ℕ → Bool
has_kinds zero = false
has_kinds (suc zero) = true
has_kinds (suc (suc zero)) = true
has_kinds (suc (suc (suc n))) = false

-- And does it show turns? Only a file with kinds can (02, K12).
unfoldable pub has_turns : ℕ → Bool
has_turns zero = false
has_turns (suc zero) = false
has_turns (suc (suc zero)) = true
has_turns (suc (suc (suc n))) = false

abbrev space : Item
space = byte 32

abbrev line_end : Item
line_end = byte 10

-- `label`: a letter, which no other row has
unfoldable pub labels : Section
labels = record { least = 0; most = 8; key = []; sequence = once }

abbrev label_shape : Shape
label_shape = record {
  names = 108 ∷ 97 ∷ 98 ∷ 101 ∷ 108 ∷ 10 ∷ [];
  row = field letter 0 ∷ line_end ∷ [];
}

-- `less more`: an order pair, sorted by both ends
unfoldable pub pairs : Section
pairs = record { least = 0; most = 36; key = 0 ∷ 1 ∷ []; sequence = ascending }

abbrev pair_shape : Shape
pair_shape = record {
  names = 108 ∷ 101 ∷ 115 ∷ 115 ∷ 32 ∷ 109 ∷ 111 ∷ 114 ∷ 101 ∷ 10 ∷ [];
  row = field end 0 ∷ space ∷ field end 1 ∷ line_end ∷ [];
}

-- `state label next`: a transition; its next state is no part of the key
unfoldable pub transitions : Section
transitions = record { least = 0; most = 128; key = 0 ∷ 1 ∷ []; sequence = ascending }

abbrev transition_shape : Shape
transition_shape = record {
  names = 115 ∷ 116 ∷ 97 ∷ 116 ∷ 101 ∷ 32 ∷ 108 ∷ 97 ∷ 98 ∷ 101 ∷ 108 ∷ 32 ∷ 110 ∷ 101 ∷ 120 ∷ 116 ∷ 10 ∷ [];
  row = field state 0 ∷ space ∷ field label 1 ∷ space ∷ field state 2 ∷ line_end ∷ [];
}

-- `accept`: an accepting state
unfoldable pub accepts : Section
accepts = record { least = 0; most = 16; key = 0 ∷ []; sequence = ascending }

abbrev accept_shape : Shape
accept_shape = record {
  names = 97 ∷ 99 ∷ 99 ∷ 101 ∷ 112 ∷ 116 ∷ 10 ∷ [];
  row = field state 0 ∷ line_end ∷ [];
}

-- `scopes`: how many scopes there are; one row, no less and no more
unfoldable pub scope_count : Section
scope_count = record { least = 1; most = 1; key = []; sequence = free }

abbrev count_shape : Shape
count_shape = record {
  names = 115 ∷ 99 ∷ 111 ∷ 112 ∷ 101 ∷ 115 ∷ 10 ∷ [];
  row = field count 0 ∷ line_end ∷ [];
}

-- `from label turn to`, or `from label to` without turns: an edge, sorted by from, label, turn and
-- to. Its turn is the value 3. A line without turns leaves that place idle, so every turn is 0
-- there (02, K12).
unfoldable pub edges : Section
edges = record { least = 0; most = 512; key = 0 ∷ 1 ∷ 3 ∷ 2 ∷ []; sequence = apart }

unfoldable pub edge_shape : Bool → Shape
edge_shape true = record {
  names = 102 ∷ 114 ∷ 111 ∷ 109 ∷ 32 ∷ 108 ∷ 97 ∷ 98 ∷ 101 ∷ 108 ∷ 32 ∷ 116 ∷ 117 ∷ 114 ∷ 110 ∷ 32 ∷ 116 ∷ 111 ∷ 10 ∷ [];
  row = field scope 0 ∷ space ∷ field label 1 ∷ space ∷ field turn 3 ∷ space ∷ field scope 2 ∷ line_end ∷ [];
}
edge_shape false = record {
  names = 102 ∷ 114 ∷ 111 ∷ 109 ∷ 32 ∷ 108 ∷ 97 ∷ 98 ∷ 101 ∷ 108 ∷ 32 ∷ 116 ∷ 111 ∷ 10 ∷ [];
  row = field scope 0 ∷ space ∷ field label 1 ∷ space ∷ field scope 2 ∷ line_end ∷ [];
}

-- `at kind name mark`, or `at name mark` without kinds: a declaration, sorted by scope, kind, name
-- and mark; its name has the values 2 and 3
unfoldable pub declarations : Section
declarations = record { least = 0; most = 512; key = 0 ∷ 1 ∷ 2 ∷ 3 ∷ 4 ∷ []; sequence = ascending }

unfoldable pub declaration_shape : Bool → Shape
declaration_shape true = record {
  names = 97 ∷ 116 ∷ 32 ∷ 107 ∷ 105 ∷ 110 ∷ 100 ∷ 32 ∷ 110 ∷ 97 ∷ 109 ∷ 101 ∷ 32 ∷ 109 ∷ 97 ∷ 114 ∷ 107 ∷ 10 ∷ [];
  row = field scope 0 ∷ space ∷ field kind 1 ∷ space ∷ field name 2 ∷ space ∷ field mark 4 ∷ line_end ∷ [];
}
declaration_shape false = record {
  names = 97 ∷ 116 ∷ 32 ∷ 110 ∷ 97 ∷ 109 ∷ 101 ∷ 32 ∷ 109 ∷ 97 ∷ 114 ∷ 107 ∷ 10 ∷ [];
  row = field scope 0 ∷ space ∷ field plain 1 ∷ field name 2 ∷ space ∷ field mark 4 ∷ line_end ∷ [];
}

-- `at open`: an open pair
unfoldable pub open_pairs : Section
open_pairs = record { least = 0; most = 576; key = 0 ∷ 1 ∷ []; sequence = ascending }

abbrev open_shape : Shape
open_shape = record {
  names = 97 ∷ 116 ∷ 32 ∷ 111 ∷ 112 ∷ 101 ∷ 110 ∷ 10 ∷ [];
  row = field scope 0 ∷ space ∷ field end 1 ∷ line_end ∷ [];
}

-- `start kind seek`, or `start seek` without kinds: a query, in any sequence
unfoldable pub queries : Section
queries = record { least = 0; most = 256; key = []; sequence = free }

unfoldable pub query_shape : Bool → Shape
query_shape true = record {
  names = 115 ∷ 116 ∷ 97 ∷ 114 ∷ 116 ∷ 32 ∷ 107 ∷ 105 ∷ 110 ∷ 100 ∷ 32 ∷ 115 ∷ 101 ∷ 101 ∷ 107 ∷ 10 ∷ [];
  row = field scope 0 ∷ space ∷ field kind 1 ∷ space ∷ field name 2 ∷ line_end ∷ [];
}
query_shape false = record {
  names = 115 ∷ 116 ∷ 97 ∷ 114 ∷ 116 ∷ 32 ∷ 115 ∷ 101 ∷ 101 ∷ 107 ∷ 10 ∷ [];
  row = field scope 0 ∷ space ∷ field plain 1 ∷ field name 2 ∷ line_end ∷ [];
}

-- the nine sections in the file's sequence; a section's number is its place here
unfoldable pub sections : List Section
sections = labels ∷ pairs ∷ transitions ∷ accepts ∷ scope_count ∷ edges ∷ declarations ∷ open_pairs ∷ queries ∷ []

-- past the last section: nothing, which admits no row
unfoldable pub past_last : Section
past_last = record { least = 0; most = 0; key = []; sequence = free }

-- the section of a number
unfoldable pub section_at : ℕ → Section
section_at k = get_or sections k past_last

-- The nine sections' shapes in a file of a form: only edges have turns; only declarations and
-- queries have kinds, and both have them or neither.
unfoldable pub shapes_of : ℕ → List Shape
shapes_of form = label_shape ∷ pair_shape ∷ transition_shape ∷ accept_shape ∷ count_shape ∷ edge_shape (has_turns form) ∷ declaration_shape (has_kinds form) ∷ open_shape ∷ query_shape (has_kinds form) ∷ []

abbrev past_shape : Shape
past_shape = record { names = 10 ∷ []; row = line_end ∷ [] }

-- the shape of a section's number in a file of a form
unfoldable pub shape_at : ℕ → ℕ → Shape
shape_at form k = get_or (shapes_of form) k past_shape

-- the sections' numbers
abbrev pub label_section : ℕ
label_section = 0

abbrev pub pair_section : ℕ
pair_section = 1

abbrev pub transition_section : ℕ
transition_section = 2

abbrev pub accept_section : ℕ
accept_section = 3

abbrev pub count_section : ℕ
count_section = 4

abbrev pub edge_section : ℕ
edge_section = 5

abbrev pub declaration_section : ℕ
declaration_section = 6

abbrev pub open_section : ℕ
open_section = 7

abbrev pub query_section : ℕ
query_section = 8

-- the bytes of a file at most (01, "The gym file")
abbrev pub text_bytes : ℕ
text_bytes = 32768

-- how many states, marks and turns there are, and the count of scopes at most
abbrev pub state_count : ℕ
state_count = 16

abbrev pub mark_count : ℕ
mark_count = 65536

abbrev pub turn_count : ℕ
turn_count = 100

abbrev pub most_scopes : ℕ
most_scopes = 64

-- the cells of a graph table at most: the form, and six for each of the 2,045 rows that the
-- sections admit; the table that the reader fills has room for the row past a limit
abbrev pub table_cells : ℕ
table_cells = 12271

abbrev pub own_cells : ℕ
own_cells = 12277
