-- Whether a row's values can be written in the line of its section: refusal 2 for a graph table
-- (document 01, "Who can cause a refusal"). Assumes nothing: these are definitions.
use Rattle.std.specs.Prelude.{ℕ, ◌+◌, ◌≡◌, List, Bool, true, not, ◌&&◌, ◌||◌, eqb, leb, ltb}
use Rattle.text_field.specs.Bytes.{is_capital, is_lower}
use Rattle.text_field.specs.Name.{is_name_cells}
use Rattle.graph_rows.specs.Format.{Content, state, scope, mark, count, letter, label, end, name, kind, plain, turn, plain_kind, Item, byte, field, values_of, every_item}
use Rattle.graph_rows.specs.Admission.{Row, value}

-- Can the value be written? A number has at most five digits, a letter is A to Z, two cells hold a
-- name, a kind is a to z. A label is written by its letter; a number that is no label's is out of
-- range, which is refusal 3. A line without kinds can hold no kind but `v` (02, K8).
unfoldable pub field_formed : Content → ℕ → ℕ → Bool
field_formed state v w = leb v 99999
field_formed scope v w = leb v 99999
field_formed mark v w = leb v 99999
field_formed count v w = leb v 99999
field_formed letter v w = is_capital v
field_formed label v w = true
field_formed end v w = true
field_formed name v w = is_name_cells v w
field_formed kind v w = is_lower v
field_formed plain v w = eqb v plain_kind
field_formed turn v w = leb v 99999

-- Can the row's value for an item be written? A fixed byte needs none.
unfoldable pub item_formed : Row → Item → Bool
item_formed row (byte b) = true
item_formed row (field k c) = field_formed k (value row c) (value row (c + 1))

-- Does the item leave place d alone? A field fills its place, and a name the next one too.
unfoldable pub spares_place : ℕ → Item → Bool
spares_place d (byte b) = true
spares_place d (field k c) = ltb d c || leb (c + values_of k) d

-- A place that every item leaves alone holds 0. So a row whose line shows no turn must have turn 0,
-- and is refused by 2 if it has another (02, K12).
unfoldable pub idle_zero : List Item → Row → ℕ → Bool
idle_zero items row d = not (every_item (spares_place d) items) || eqb (value row d) 0

-- so it is with all five places
unfoldable pub idle_zeros : List Item → Row → Bool
idle_zeros items row =
    idle_zero items row 0 && (idle_zero items row 1 && (idle_zero items row 2 && (idle_zero items row 3 && idle_zero items row 4)))

-- the items fill the first n places, and leave the others alone
abbrev pub Fills : ℕ → List Item → Type 0
Fills n items = (d : ℕ) → every_item (spares_place d) items ≡ leb n d

-- Can the row be written in this form? If not, it is refused by 2.
unfoldable pub formed : List Item → Row → Bool
formed items row = every_item (item_formed row) items && idle_zeros items row
