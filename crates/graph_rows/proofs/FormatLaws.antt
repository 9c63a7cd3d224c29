-- The fixed string holds the nine sections' names lines, rows and keys, at the places given.
-- Assumes nothing.
use Prim.Native.Nat.{ℕ, min, zero, suc, ◌+◌, ◌-◌, ◌/◌, ◌%◌, ◌≤◌, ◌<◌}
use mathlib.Core.Path.{◌≡◌, refl, sym, ap, ◌∙◌}
use mathlib.Core.List.{List, [], ◌∷◌, map}
use mathlib.Core.Bool.{Bool, true, false, not, ◌&&◌}
use native.Mathlib.Omega.{arith}
use native.Mathlib.Numerals.{add-one}
use lib.Dec.{eqb, ltb, leb}
use borrow.Author.Tests.{ne_eqb, ltb-true, ltb-false, eqb-true, eqb-false, lt-ltb, le-ltb, le-leb}
use lib.ListN.{length, get_or, take, drop, get_or-map, length-drop, drop_of_length-le, get_or-eq_default}
use lib.Seq.{get_or-drop, take-length}
use Rattle.std.proofs.lemmas.List.{get_or_default}
use Rattle.std.specs.List.{list_all, prefix_len}
use Rattle.graph_rows.specs.Format.{Item, byte, field, values_of, every_item, Section, labels, pairs, transitions, accepts, scope_count, edges, declarations, open_pairs, queries, past_last, sections, section_at, has_kinds, has_turns, edge_shape, declaration_shape, query_shape, shapes_of, shape_at}
use Rattle.graph_rows.specs.Values.{spares_place}
use Rattle.graph_rows.specs.Table.{content_number, code, content_of, item_of, shape_bytes, has_range, kept_ranged, ranged, range_bytes, layout, layouts, format_bytes, line_step, line_of, items_at, key_step, key_of, key_at, place_by, names_place, row_place, range_place, key_place, filled_place}

-- where the shape goes by the form, the line at either place is the shape's: both are computed
declaration_names : (t : Bool) → items_at (elim t as (λ _. ℕ) [ true ↦ 180 | false ↦ 114 ]) ≡ map byte (declaration_shape t).names
unfolding labels pairs transitions accepts scope_count edges declarations open_pairs queries past_last sections has_kinds has_turns edge_shape declaration_shape query_shape shapes_of content_number code content_of item_of shape_bytes has_range kept_ranged ranged range_bytes layout layouts format_bytes line_step line_of items_at
declaration_names true = refl
declaration_names false = refl

query_names : (t : Bool) → items_at (elim t as (λ _. ℕ) [ true ↦ 206 | false ↦ 161 ]) ≡ map byte (query_shape t).names
unfolding labels pairs transitions accepts scope_count edges declarations open_pairs queries past_last sections has_kinds has_turns edge_shape declaration_shape query_shape shapes_of content_number code content_of item_of shape_bytes has_range kept_ranged ranged range_bytes layout layouts format_bytes line_step line_of items_at
query_names true = refl
query_names false = refl

declaration_row_lem : (t : Bool) → items_at (elim t as (λ _. ℕ) [ true ↦ 198 | false ↦ 127 ]) ≡ (declaration_shape t).row
unfolding labels pairs transitions accepts scope_count edges declarations open_pairs queries past_last sections has_kinds has_turns edge_shape declaration_shape query_shape shapes_of content_number code content_of item_of shape_bytes has_range kept_ranged ranged range_bytes layout layouts format_bytes line_step line_of items_at
declaration_row_lem true = refl
declaration_row_lem false = refl

query_row_lem : (t : Bool) → items_at (elim t as (λ _. ℕ) [ true ↦ 222 | false ↦ 172 ]) ≡ (query_shape t).row
unfolding labels pairs transitions accepts scope_count edges declarations open_pairs queries past_last sections has_kinds has_turns edge_shape declaration_shape query_shape shapes_of content_number code content_of item_of shape_bytes has_range kept_ranged ranged range_bytes layout layouts format_bytes line_step line_of items_at
query_row_lem true = refl
query_row_lem false = refl

declaration_range : (t : Bool) → items_at 134 ≡ ranged (declaration_shape t).row
unfolding labels pairs transitions accepts scope_count edges declarations open_pairs queries past_last sections has_kinds has_turns edge_shape declaration_shape query_shape shapes_of content_number code content_of item_of shape_bytes has_range kept_ranged ranged range_bytes layout layouts format_bytes line_step line_of items_at
declaration_range true = refl
declaration_range false = refl

query_range : (t : Bool) → items_at 177 ≡ ranged (query_shape t).row
unfolding labels pairs transitions accepts scope_count edges declarations open_pairs queries past_last sections has_kinds has_turns edge_shape declaration_shape query_shape shapes_of content_number code content_of item_of shape_bytes has_range kept_ranged ranged range_bytes layout layouts format_bytes line_step line_of items_at
query_range true = refl
query_range false = refl

edge_names : (t : Bool) → items_at (elim t as (λ _. ℕ) [ true ↦ 228 | false ↦ 85 ]) ≡ map byte (edge_shape t).names
unfolding labels pairs transitions accepts scope_count edges declarations open_pairs queries past_last sections has_kinds has_turns edge_shape declaration_shape query_shape shapes_of content_number code content_of item_of shape_bytes has_range kept_ranged ranged range_bytes layout layouts format_bytes line_step line_of items_at
edge_names true = refl
edge_names false = refl

edge_row_lem : (t : Bool) → items_at (elim t as (λ _. ℕ) [ true ↦ 247 | false ↦ 99 ]) ≡ (edge_shape t).row
unfolding labels pairs transitions accepts scope_count edges declarations open_pairs queries past_last sections has_kinds has_turns edge_shape declaration_shape query_shape shapes_of content_number code content_of item_of shape_bytes has_range kept_ranged ranged range_bytes layout layouts format_bytes line_step line_of items_at
edge_row_lem true = refl
edge_row_lem false = refl

edge_range : (t : Bool) → items_at (elim t as (λ _. ℕ) [ true ↦ 255 | false ↦ 105 ]) ≡ ranged (edge_shape t).row
unfolding labels pairs transitions accepts scope_count edges declarations open_pairs queries past_last sections has_kinds has_turns edge_shape declaration_shape query_shape shapes_of content_number code content_of item_of shape_bytes has_range kept_ranged ranged range_bytes layout layouts format_bytes line_step line_of items_at
edge_range true = refl
edge_range false = refl

-- the line at each section's places is its names line, its row, its fields with a range, and the
-- key there its key
pub names_items : (form k : ℕ) → items_at (names_place form k) ≡ map byte (shape_at form k).names
unfolding labels pairs transitions accepts scope_count edges declarations open_pairs queries past_last sections has_kinds has_turns edge_shape declaration_shape query_shape shapes_of shape_at content_number code content_of item_of shape_bytes has_range kept_ranged ranged range_bytes layout layouts format_bytes line_step line_of items_at place_by names_place
names_items form zero = refl
names_items form (suc zero) = refl
names_items form (suc (suc zero)) = refl
names_items form (suc (suc (suc zero))) = refl
names_items form (suc (suc (suc (suc zero)))) = refl
names_items form (suc (suc (suc (suc (suc zero))))) = edge_names (has_turns form)
names_items form (suc (suc (suc (suc (suc (suc zero)))))) = declaration_names (has_kinds form)
names_items form (suc (suc (suc (suc (suc (suc (suc zero))))))) = refl
names_items form (suc (suc (suc (suc (suc (suc (suc (suc zero)))))))) = query_names (has_kinds form)
names_items form (suc (suc (suc (suc (suc (suc (suc (suc (suc k))))))))) = refl

pub row_items : (form k : ℕ) → items_at (row_place form k) ≡ (shape_at form k).row
unfolding labels pairs transitions accepts scope_count edges declarations open_pairs queries past_last sections has_kinds has_turns edge_shape declaration_shape query_shape shapes_of shape_at content_number code content_of item_of shape_bytes has_range kept_ranged ranged range_bytes layout layouts format_bytes line_step line_of items_at place_by row_place
row_items form zero = refl
row_items form (suc zero) = refl
row_items form (suc (suc zero)) = refl
row_items form (suc (suc (suc zero))) = refl
row_items form (suc (suc (suc (suc zero)))) = refl
row_items form (suc (suc (suc (suc (suc zero))))) = edge_row_lem (has_turns form)
row_items form (suc (suc (suc (suc (suc (suc zero)))))) = declaration_row_lem (has_kinds form)
row_items form (suc (suc (suc (suc (suc (suc (suc zero))))))) = refl
row_items form (suc (suc (suc (suc (suc (suc (suc (suc zero)))))))) = query_row_lem (has_kinds form)
row_items form (suc (suc (suc (suc (suc (suc (suc (suc (suc k))))))))) = refl

pub range_items : (form k : ℕ) → items_at (range_place form k) ≡ ranged (shape_at form k).row
unfolding labels pairs transitions accepts scope_count edges declarations open_pairs queries past_last sections has_kinds has_turns edge_shape declaration_shape query_shape shapes_of shape_at content_number code content_of item_of shape_bytes has_range kept_ranged ranged range_bytes layout layouts format_bytes line_step line_of items_at place_by range_place
range_items form zero = refl
range_items form (suc zero) = refl
range_items form (suc (suc zero)) = refl
range_items form (suc (suc (suc zero))) = refl
range_items form (suc (suc (suc (suc zero)))) = refl
range_items form (suc (suc (suc (suc (suc zero))))) = edge_range (has_turns form)
range_items form (suc (suc (suc (suc (suc (suc zero)))))) = declaration_range (has_kinds form)
range_items form (suc (suc (suc (suc (suc (suc (suc zero))))))) = refl
range_items form (suc (suc (suc (suc (suc (suc (suc (suc zero)))))))) = query_range (has_kinds form)
range_items form (suc (suc (suc (suc (suc (suc (suc (suc (suc k))))))))) = refl

pub key_items : (k : ℕ) → key_at (key_place k) ≡ (section_at k).key
unfolding labels pairs transitions accepts scope_count edges declarations open_pairs queries past_last sections has_kinds has_turns edge_shape declaration_shape query_shape shapes_of content_number code content_of item_of shape_bytes has_range kept_ranged ranged range_bytes layout layouts format_bytes section_at key_step key_of key_at key_place
key_items zero = refl
key_items (suc zero) = refl
key_items (suc (suc zero)) = refl
key_items (suc (suc (suc zero))) = refl
key_items (suc (suc (suc (suc zero)))) = refl
key_items (suc (suc (suc (suc (suc zero))))) = refl
key_items (suc (suc (suc (suc (suc (suc zero)))))) = refl
key_items (suc (suc (suc (suc (suc (suc (suc zero))))))) = refl
key_items (suc (suc (suc (suc (suc (suc (suc (suc zero)))))))) = refl
key_items (suc (suc (suc (suc (suc (suc (suc (suc (suc k))))))))) = refl

-- a number of each section, listed
field_at : (f : Section → ℕ) (k : ℕ) → get_or (map f sections) k (f past_last) ≡ f (section_at k)
unfolding section_at
field_at f k = get_or-map f sections k past_last

abbrev pub mosts : List ℕ
mosts = 8 ∷ 36 ∷ 128 ∷ 16 ∷ 1 ∷ 512 ∷ 512 ∷ 576 ∷ 256 ∷ []

pub most_at : (k : ℕ) → get_or mosts k 0 ≡ (section_at k).most
unfolding labels pairs transitions accepts scope_count edges declarations open_pairs queries past_last sections
most_at k = field_at (λ s. s.most) k

abbrev pub leasts : List ℕ
leasts = 0 ∷ 0 ∷ 0 ∷ 0 ∷ 1 ∷ 0 ∷ 0 ∷ 0 ∷ 0 ∷ []

pub least_at : (k : ℕ) → get_or leasts k 0 ≡ (section_at k).least
unfolding labels pairs transitions accepts scope_count edges declarations open_pairs queries past_last sections
least_at k = field_at (λ s. s.least) k

pub sequence_at : (k i : ℕ) → k ≡ i → (section_at i).sequence ≡ (section_at k).sequence
sequence_at k i e = ap (λ (j : ℕ). (section_at j).sequence) (sym e)

-- a number that is none of the sections'
pub past_last_lem : (k : ℕ) → (k ≡ 0 → ⊥) → (k ≡ 1 → ⊥) → (k ≡ 2 → ⊥) → (k ≡ 3 → ⊥) → (k ≡ 4 → ⊥) → (k ≡ 5 → ⊥) → (k ≡ 6 → ⊥) → (k ≡ 7 → ⊥) → (k ≡ 8 → ⊥) → 9 ≤ k
past_last_lem zero a b c d e f g h i = absurd (a refl)
past_last_lem (suc zero) a b c d e f g h i = absurd (b refl)
past_last_lem (suc (suc zero)) a b c d e f g h i = absurd (c refl)
past_last_lem (suc (suc (suc zero))) a b c d e f g h i = absurd (d refl)
past_last_lem (suc (suc (suc (suc zero)))) a b c d e f g h i = absurd (e refl)
past_last_lem (suc (suc (suc (suc (suc zero))))) a b c d e f g h i = absurd (f refl)
past_last_lem (suc (suc (suc (suc (suc (suc zero)))))) a b c d e f g h i = absurd (g refl)
past_last_lem (suc (suc (suc (suc (suc (suc (suc zero))))))) a b c d e f g h i = absurd (h refl)
past_last_lem (suc (suc (suc (suc (suc (suc (suc (suc zero)))))))) a b c d e f g h i = absurd (i refl)
past_last_lem (suc (suc (suc (suc (suc (suc (suc (suc (suc k))))))))) a b c d e f g h i = omega arith

-- the five places of a row, and those past them
by_place : (A : ℕ → Type 0) → A 0 → A 1 → A 2 → A 3 → A 4 → ((d : ℕ) → 5 ≤ d → A d) → (d : ℕ) → A d
by_place A a b c e f g zero = a
by_place A a b c e f g (suc zero) = b
by_place A a b c e f g (suc (suc zero)) = c
by_place A a b c e f g (suc (suc (suc zero))) = e
by_place A a b c e f g (suc (suc (suc (suc zero)))) = f
by_place A a b c e f g (suc (suc (suc (suc (suc n))))) = g (suc (suc (suc (suc (suc n))))) (omega arith)

-- the items of a row leave alone the places from this one on: at the five places by computing
edge_spares : (t : Bool) (d : ℕ) → every_item (spares_place d) (edge_shape t).row ≡ leb (elim t as (λ _. ℕ) [ true ↦ 4 | false ↦ 3 ]) d
unfolding edge_shape every_item spares_place values_of
edge_spares true = by_place (λ d. every_item (spares_place d) (edge_shape true).row ≡ leb 4 d) refl refl refl refl refl (λ d h. simp (le-ltb d 0 (omega arith), le-ltb d 1 (omega arith), le-ltb d 2 (omega arith), le-ltb d 3 (omega arith), le-leb 1 d (omega arith), le-leb 2 d (omega arith), le-leb 3 d (omega arith), le-leb 4 d (omega arith)))
edge_spares false = by_place (λ d. every_item (spares_place d) (edge_shape false).row ≡ leb 3 d) refl refl refl refl refl (λ d h. simp (le-ltb d 0 (omega arith), le-ltb d 1 (omega arith), le-ltb d 2 (omega arith), le-leb 1 d (omega arith), le-leb 2 d (omega arith), le-leb 3 d (omega arith)))

declaration_spares : (t : Bool) (d : ℕ) → every_item (spares_place d) (declaration_shape t).row ≡ leb 5 d
unfolding declaration_shape every_item spares_place values_of
declaration_spares true = by_place (λ d. every_item (spares_place d) (declaration_shape true).row ≡ leb 5 d) refl refl refl refl refl (λ d h. simp (le-ltb d 0 (omega arith), le-ltb d 1 (omega arith), le-ltb d 2 (omega arith), le-ltb d 4 (omega arith), le-leb 1 d (omega arith), le-leb 2 d (omega arith), le-leb 4 d (omega arith), le-leb 5 d (omega arith)))
declaration_spares false = by_place (λ d. every_item (spares_place d) (declaration_shape false).row ≡ leb 5 d) refl refl refl refl refl (λ d h. simp (le-ltb d 0 (omega arith), le-ltb d 1 (omega arith), le-ltb d 2 (omega arith), le-ltb d 4 (omega arith), le-leb 1 d (omega arith), le-leb 2 d (omega arith), le-leb 4 d (omega arith), le-leb 5 d (omega arith)))

query_spares : (t : Bool) (d : ℕ) → every_item (spares_place d) (query_shape t).row ≡ leb 4 d
unfolding query_shape every_item spares_place values_of
query_spares true = by_place (λ d. every_item (spares_place d) (query_shape true).row ≡ leb 4 d) refl refl refl refl refl (λ d h. simp (le-ltb d 0 (omega arith), le-ltb d 1 (omega arith), le-ltb d 2 (omega arith), le-leb 1 d (omega arith), le-leb 2 d (omega arith), le-leb 4 d (omega arith)))
query_spares false = by_place (λ d. every_item (spares_place d) (query_shape false).row ≡ leb 4 d) refl refl refl refl refl (λ d h. simp (le-ltb d 0 (omega arith), le-ltb d 1 (omega arith), le-ltb d 2 (omega arith), le-leb 1 d (omega arith), le-leb 2 d (omega arith), le-leb 4 d (omega arith)))

pub filled_at : (form k d : ℕ) → every_item (spares_place d) (shape_at form k).row ≡ leb (filled_place form k) d
unfolding shapes_of shape_at every_item spares_place values_of place_by filled_place
filled_at form zero = by_place (λ d. every_item (spares_place d) (shape_at form 0).row ≡ leb 1 d) refl refl refl refl refl (λ d h. simp (le-ltb d 0 (omega arith), le-leb 1 d (omega arith)))
filled_at form (suc zero) = by_place (λ d. every_item (spares_place d) (shape_at form 1).row ≡ leb 2 d) refl refl refl refl refl (λ d h. simp (le-ltb d 0 (omega arith), le-ltb d 1 (omega arith), le-leb 1 d (omega arith), le-leb 2 d (omega arith)))
filled_at form (suc (suc zero)) = by_place (λ d. every_item (spares_place d) (shape_at form 2).row ≡ leb 3 d) refl refl refl refl refl (λ d h. simp (le-ltb d 0 (omega arith), le-ltb d 1 (omega arith), le-ltb d 2 (omega arith), le-leb 1 d (omega arith), le-leb 2 d (omega arith), le-leb 3 d (omega arith)))
filled_at form (suc (suc (suc zero))) = by_place (λ d. every_item (spares_place d) (shape_at form 3).row ≡ leb 1 d) refl refl refl refl refl (λ d h. simp (le-ltb d 0 (omega arith), le-leb 1 d (omega arith)))
filled_at form (suc (suc (suc (suc zero)))) = by_place (λ d. every_item (spares_place d) (shape_at form 4).row ≡ leb 1 d) refl refl refl refl refl (λ d h. simp (le-ltb d 0 (omega arith), le-leb 1 d (omega arith)))
filled_at form (suc (suc (suc (suc (suc zero))))) = edge_spares (has_turns form)
filled_at form (suc (suc (suc (suc (suc (suc zero)))))) = declaration_spares (has_kinds form)
filled_at form (suc (suc (suc (suc (suc (suc (suc zero))))))) = by_place (λ d. every_item (spares_place d) (shape_at form 7).row ≡ leb 2 d) refl refl refl refl refl (λ d h. simp (le-ltb d 0 (omega arith), le-ltb d 1 (omega arith), le-leb 1 d (omega arith), le-leb 2 d (omega arith)))
filled_at form (suc (suc (suc (suc (suc (suc (suc (suc zero)))))))) = query_spares (has_kinds form)
filled_at form (suc (suc (suc (suc (suc (suc (suc (suc (suc k))))))))) = λ d. sym (le-leb 0 d (omega arith))

-- the fixed string has 260 bytes
pub format_length : length format_bytes ≡ 260
unfolding labels pairs transitions accepts scope_count edges declarations open_pairs queries past_last sections has_kinds has_turns edge_shape declaration_shape query_shape shapes_of content_number code shape_bytes has_range kept_ranged ranged range_bytes layout layouts format_bytes
format_length = refl

-- the string from a place on, or from its end
pub from_place : (l : List ℕ) (o m : ℕ) → m ≡ min o (length l) → take (length l - m) (drop m l) ≡ drop o l
from_place l o m e = rw (← length-drop m l, take-length (drop m l)) (by (ltb o (length l)) refl)
  where
    by : (t : Bool) → ltb o (length l) ≡ t → drop m l ≡ drop o l
    by true h = let f = ltb-true o (length l) h in ap (λ (n : ℕ). drop n l) (omega arith)
    by false h = let f = ltb-false o (length l) h in drop_of_length-le l {i = m} (omega arith) ∙ sym (drop_of_length-le l {i = o} f)

-- the code at a place of the string's end part, and past it
pub code_here : (codes : List ℕ) (o i : ℕ) → codes ≡ drop o format_bytes → i < length codes → get_or codes i 0 ≡ get_or format_bytes (o + i) 10
code_here codes o i e h = get_or_default codes i 0 10 h ∙ ap (λ (l : List ℕ). get_or l i 10) e ∙ get_or-drop o format_bytes i 10

pub code_none : (codes : List ℕ) (o i : ℕ) → codes ≡ drop o format_bytes → length codes ≤ i → 10 ≡ get_or format_bytes (o + i) 10
code_none codes o i e h = sym (get_or-eq_default codes 10 {n = i} h) ∙ ap (λ (l : List ℕ). get_or l i 10) e ∙ get_or-drop o format_bytes i 10

-- one item, and the line after it
line_step_lem : (l : List ℕ) (o : ℕ) → line_of (drop o l) ≡ line_step (get_or l o 10) (line_of (drop (suc o) l))
unfolding line_of line_step
line_step_lem [] zero = refl
line_step_lem [] (suc o) = refl
line_step_lem (x ∷ l) zero = refl
line_step_lem (x ∷ l) (suc o) = line_step_lem l o

pub items_step : (o : ℕ) → items_at o ≡ line_step (get_or format_bytes o 10) (items_at (o + 1))
unfolding items_at
items_step o = rw (add-one o) (line_step_lem format_bytes o)

key_step_lem : (l : List ℕ) (o : ℕ) → key_of (drop o l) ≡ key_step (get_or l o 10) (key_of (drop (suc o) l))
unfolding key_of key_step
key_step_lem [] zero = refl
key_step_lem [] (suc o) = refl
key_step_lem (x ∷ l) zero = refl
key_step_lem (x ∷ l) (suc o) = key_step_lem l o

pub keys_step : (o : ℕ) → key_at o ≡ key_step (get_or format_bytes o 10) (key_at (o + 1))
unfolding key_at
keys_step o = rw (add-one o) (key_step_lem format_bytes o)

-- an item that ends no line stands within the string
within : (l : List ℕ) (o : ℕ) → (get_or l o 10 ≡ 10 → ⊥) → o < length l
within [] o h = absurd (h refl)
within (x ∷ l) zero h = omega arith
within (x ∷ l) (suc o) h = let w : o < length l = within l o h in omega arith

pub within_format : (o : ℕ) → (get_or format_bytes o 10 ≡ 10 → ⊥) → o < 260
within_format o h = let w : o < length format_bytes = within format_bytes o h in omega (arith, format_length)

pub line_more : (x : ℕ) (items : List Item) → (x ≡ 10 → ⊥) → line_step x items ≡ item_of x ∷ items
unfolding line_step
line_more x items n = rw (ne_eqb x 10 n, line_step)

pub line_last : (x : ℕ) (items : List Item) → x ≡ 10 → line_step x items ≡ byte 10 ∷ []
unfolding line_step
line_last x items n = rw n

pub key_more : (x : ℕ) (key : List ℕ) → (x ≡ 10 → ⊥) → key_step x key ≡ x % 8 ∷ key
unfolding key_step
key_more x key n = rw (ne_eqb x 10 n, key_step)

pub key_last : (x : ℕ) (key : List ℕ) → x ≡ 10 → key_step x key ≡ []
unfolding key_step
key_last x key n = rw n

-- a test of every item of a line, code by code up to the line's end
pub every_code : (test : Item → Bool) → test (byte 10) ≡ true → (l : List ℕ) → list_all (λ x. test (item_of x)) (take (prefix_len (λ x. not (eqb x 10)) l) l) ≡ every_item test (line_of l)
unfolding every_item line_of
every_code test h [] = rw h
every_code test h (x ∷ l) = by (eqb x 10) refl (every_code test h l)
  where
    by : (e : Bool) → eqb x 10 ≡ e → list_all (λ y. test (item_of y)) (take (prefix_len (λ y. not (eqb y 10)) l) l) ≡ every_item test (line_of l)
        → list_all (λ y. test (item_of y)) (take (prefix_len (λ y. not (eqb y 10)) (x ∷ l)) (x ∷ l)) ≡ every_item test (line_step x (line_of l))
    by true e ih = rw (line_last x (line_of l) (eqb-true x 10 e), e, h)
    by false e ih =
        let s : 1 + prefix_len (λ (y : ℕ). not (eqb y 10)) l ≡ suc (prefix_len (λ (y : ℕ). not (eqb y 10)) l) = omega arith in
        rw (line_more x (line_of l) (eqb-false x 10 e), e, s) (ap (λ (b : Bool). test (item_of x) && b) ih)

-- the item of a code
pub item_byte : (x : ℕ) → x < 128 → item_of x ≡ byte x
unfolding item_of
item_byte x h = rw (lt-ltb x 128 h, item_of)

pub item_field : (x : ℕ) → 128 ≤ x → item_of x ≡ field (content_of ((x - 128) / 8)) (x % 8)
unfolding item_of
item_field x h = rw (le-ltb x 128 h, item_of)
