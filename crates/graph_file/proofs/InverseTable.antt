-- What the lines of the format must be like, so that a row and its line tell each other: a test
-- over a line's items, which every section's row passes by computing it. Assumes nothing.
use Prim.Native.Nat.{ℕ, zero, suc, ◌+◌, ◌-◌, ◌*◌, ◌<◌}
use mathlib.Core.Path.{◌≡◌, refl}
use mathlib.Core.List.{List, [], ◌∷◌, map}
use mathlib.Core.Bool.{Bool, true, false, not, ◌&&◌}
use native.Mathlib.Omega.{arith}
use lib.Dec.{leb, ltb}
use lib.ListN.{length, get_or}
use borrow.Author.Tests.{ltb-true}
use Rattle.text_field.specs.Bytes.{within, is_digit, is_lower, is_name_byte}
use Rattle.text_field.proofs.ByteLaws.{both, clash}
use Rattle.graph_rows.specs.Format.{Content, state, scope, mark, count, letter, label, end, name, kind, plain, turn, Item, byte, field, values_of, every_item, Shape, labels, pairs, transitions, accepts, scope_count, edges, declarations, open_pairs, queries, sections, section_at, has_kinds, has_turns, edge_shape, declaration_shape, query_shape, shapes_of, shape_at}
use Rattle.graph_rows.specs.Values.{spares_place}

-- Does the byte end a field of what it holds: could it be no byte of it?
unfoldable pub closes : Content → ℕ → Bool
closes state b = not (is_digit b)
closes scope b = not (is_digit b)
closes mark b = not (is_digit b)
closes count b = not (is_digit b)
closes letter b = true
closes label b = true
closes end b = true
closes name b = not (is_name_byte b)
closes kind b = true
closes plain b = true
closes turn b = not (is_digit b)

-- Does a field of what it holds end by itself, whatever byte follows?
unfoldable pub ends_itself : Content → Bool
ends_itself state = false
ends_itself scope = false
ends_itself mark = false
ends_itself count = false
ends_itself letter = true
ends_itself label = true
ends_itself end = true
ends_itself name = false
ends_itself kind = true
ends_itself plain = true
ends_itself turn = false

pub ends_closes : (k : Content) (b : ℕ) → ends_itself k ≡ true → closes k b ≡ true
unfolding ends_itself closes
ends_closes state b h = absurd (clash h refl)
ends_closes scope b h = absurd (clash h refl)
ends_closes mark b h = absurd (clash h refl)
ends_closes count b h = absurd (clash h refl)
ends_closes letter b h = refl
ends_closes label b h = refl
ends_closes end b h = refl
ends_closes name b h = absurd (clash h refl)
ends_closes kind b h = refl
ends_closes plain b h = refl
ends_closes turn b h = absurd (clash h refl)

-- a field ends by itself, or a byte that ends it follows
unfoldable pub bounded : Content → List Item → Bool
bounded k [] = false
bounded k (byte b ∷ items) = closes k b
bounded k (field j c ∷ items) = ends_itself k

-- the last place that a field fills
unfoldable pub last_place : Content → ℕ → ℕ
last_place k c = c + (values_of k - 1)

-- A field's places are in the row, a byte that ends it follows, and no later field fills its
-- places.
unfoldable pub clear : Item → List Item → Bool
clear (byte b) items = true
clear (field k c) items = ltb (last_place k c) 5 && (bounded k items && (every_item (spares_place c) items && every_item (spares_place (last_place k c)) items))

unfoldable pub orderly : List Item → Bool
orderly [] = true
orderly (i ∷ items) = clear i items && orderly items

-- what holds of a field before the items that follow it
pub record Clear (k : Content) (c : ℕ) (items : List Item) : Type 0 where
  pub inside : last_place k c < 5
  pub closed : bounded k items ≡ true
  pub spared : every_item (spares_place c) items ≡ true
  pub last_spared : every_item (spares_place (last_place k c)) items ≡ true

pub field_clear : (k : Content) (c : ℕ) (items : List Item) → clear (field k c) items ≡ true → Clear k c items
unfolding clear
field_clear k c items h =
    let p = both (ltb (last_place k c) 5) (bounded k items && (every_item (spares_place c) items && every_item (spares_place (last_place k c)) items)) h
    in let q = both (bounded k items) (every_item (spares_place c) items && every_item (spares_place (last_place k c)) items) p.1
    in let r = both (every_item (spares_place c) items) (every_item (spares_place (last_place k c)) items) q.1
    in record { inside = ltb-true (last_place k c) 5 p.0; closed = q.0; spared = r.0; last_spared = r.1 }

-- Has a field of what it holds a text that begins with no lower-case letter?
unfoldable pub starts_field : Content → Bool
starts_field state = true
starts_field scope = true
starts_field mark = true
starts_field count = true
starts_field letter = true
starts_field label = true
starts_field end = true
starts_field name = false
starts_field kind = false
starts_field plain = false
starts_field turn = true

-- a row's line begins with no lower-case letter
unfoldable pub starts_row : List Item → Bool
starts_row [] = false
starts_row (byte b ∷ items) = not (is_lower b)
starts_row (field k c ∷ items) = starts_field k

-- how many bytes a field takes at most: states, scopes and turns have two digits, marks five
unfoldable pub widest : Content → ℕ
widest state = 2
widest scope = 2
widest mark = 5
widest count = 2
widest letter = 1
widest label = 1
widest end = 1
widest name = 16
widest kind = 1
widest plain = 0
widest turn = 2

unfoldable pub longest : List Item → ℕ
longest [] = 0
longest (byte b ∷ items) = suc (longest items)
longest (field k c ∷ items) = widest k + longest items

-- the names line of a section begins with a lower-case letter
unfoldable pub starts_names : List ℕ → Bool
starts_names [] = false
starts_names (x ∷ rest) = is_lower x

unfoldable pub fine : Shape → Bool
fine s = orderly s.row && (starts_row s.row && starts_names s.names)

unfoldable pub all_fine : List Shape → Bool
all_fine [] = true
all_fine (s ∷ ss) = fine s && all_fine ss

-- the nine sections are as they must be, in a file of any form: by computing
shapes_fine : (form : ℕ) → all_fine (shapes_of form) ≡ true
unfolding has_kinds has_turns edge_shape declaration_shape query_shape shapes_of all_fine fine starts_names starts_row starts_field orderly clear last_place bounded ends_itself closes every_item spares_place values_of is_lower is_digit is_name_byte within
shapes_fine zero = refl
shapes_fine (suc zero) = refl
shapes_fine (suc (suc zero)) = refl
shapes_fine (suc (suc (suc n))) = refl

at_fine : (ss : List Shape) (d : Shape) (k : ℕ) → all_fine ss ≡ true → k < length ss → fine (get_or ss k d) ≡ true
unfolding all_fine
at_fine [] d k h l = absurd (omega arith)
at_fine (s ∷ ss) d zero h l = (both (fine s) (all_fine ss) h).0
at_fine (s ∷ ss) d (suc k) h l = at_fine ss d k (both (fine s) (all_fine ss) h).1 (omega arith)

nine : (form : ℕ) → length (shapes_of form) ≡ 9
unfolding shapes_of
nine form = refl

-- what holds of a section's shape
pub record Fine (s : Shape) : Type 0 where
  pub line : orderly s.row ≡ true
  pub row_first : starts_row s.row ≡ true
  pub names_first : starts_names s.names ≡ true

pub section_fine : (form k : ℕ) → k < 9 → Fine (shape_at form k)
unfolding shape_at fine
section_fine form k h =
    let t = at_fine (shapes_of form) _ k (shapes_fine form) (rw (nine form) h)
    in let p = both (orderly (shape_at form k).row) (starts_row (shape_at form k).row && starts_names (shape_at form k).names) t
    in let q = both (starts_row (shape_at form k).row) (starts_names (shape_at form k).names) p.1
    in record { line = p.0; row_first = q.0; names_first = q.1 }

-- how many bytes the sections from section k on take at most: each its names line, and its limit of
-- longest lines
unfoldable pub room : ℕ → ℕ → ℕ → ℕ
room form zero k = 0
room form (suc left) k = length (shape_at form k).names + ((section_at k).most * longest (shape_at form k).row + room form left (suc k))

-- the nine sections' room is within what refusal 1 allows: by computing
pub room_enough : (form : ℕ) → leb (room form 9 0) 32768 ≡ true
unfolding labels pairs transitions accepts scope_count edges declarations open_pairs queries sections section_at has_kinds has_turns edge_shape declaration_shape query_shape shapes_of shape_at room longest widest
room_enough zero = refl
room_enough (suc zero) = refl
room_enough (suc (suc zero)) = refl
room_enough (suc (suc (suc n))) = refl

-- the bytes of a names line are a line that holds no field
pub bytes_orderly : (bs : List ℕ) → orderly (map byte bs) ≡ true
unfolding orderly clear
bytes_orderly [] = refl
bytes_orderly (b ∷ bs) = bytes_orderly bs

-- a test that holds of every byte holds of every item of a names line
pub bytes_every : (test : Item → Bool) → ((b : ℕ) → test (byte b) ≡ true) → (bs : List ℕ) → every_item test (map byte bs) ≡ true
unfolding every_item
bytes_every test h [] = refl
bytes_every test h (b ∷ bs) = rw (h b) (bytes_every test h bs)
