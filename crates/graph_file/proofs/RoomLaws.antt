-- A row takes a line: reading makes no more rows than it passes lines, so that a table with room
-- for the lines that are left has room for the rows. Assumes nothing.
use Prim.Native.Nat.{ℕ, zero, suc, ◌+◌, ◌*◌, ◌≤◌, ◌<◌}
use mathlib.Core.Path.{◌≡◌, refl, sym, ap}
use mathlib.Core.Bool.{Bool, true, false}
use mathlib.Core.Logic.{inl, inr, ⊎_elim}
use mathlib.Core.List.{List, [], ◌∷◌, map}
use native.Mathlib.Omega.{arith}
use borrow.Author.Tests.{eqb-true}
use lib.Dec.{eqb}
use lib.ListN.{drop}
use lib.Seq.{sets}
use Rattle.std.specs.declared.option.Option.{Option}
use Rattle.std.specs.declared.option.Option.TheVariants.{Some, None}
use Rattle.text_field.specs.Bytes.{is_capital, is_lower}
use Rattle.text_field.specs.Number.{number_meaning, number_here}
use Rattle.text_field.specs.Name.{name_meaning, name_here}
use Rattle.text_field.specs.Outcome.{done, and_then}
use Rattle.text_field.proofs.OutcomeLaws.{done_same, not_done}
use Rattle.graph_rows.specs.declared.rows.Counts.{Counts}
use Rattle.graph_file.specs.declared.line.Line.{Line}
use Rattle.graph_rows.specs.Format.{Content, state, scope, mark, count, letter, label, end, name, kind, plain, turn, Item, byte, field, has_kinds, has_turns, edge_shape, declaration_shape, query_shape, section_at, shapes_of, shape_at}
use Rattle.graph_rows.specs.Admission.{Row, blank, begun, taken, place}
use Rattle.graph_file.specs.Line.{Reading, number_taken, name_taken, byte_taken, end_taken, first, read_field, read_item, place_of, read_items}
use Rattle.graph_rows.specs.Way.{starts_with, Piece, Stage, after_row, one_row, through_rows, after_names, through_section}
use Rattle.graph_file.specs.File.{read_names, read_row, reading}
use Rattle.graph_rows.specs.Table.{sofar_at}
use Rattle.graph_file.specs.NameSought.{line_count}
use Rattle.graph_file.specs.Reader.{line_outcome, stage_at, RowsRoom, TextRoom}
use Rattle.graph_rows.specs.Counting.{room_before}
use Rattle.graph_rows.proofs.DecodeWay.{and_then_done, done_is, either_done, row_split, section_split}
use Rattle.graph_rows.proofs.CountLaws.{room_next, room_below}
use Rattle.graph_file.proofs.SoughtLaws.{count_step}

-- a later part has no more lines
pub drop_lines : (n : ℕ) (s : List ℕ) → line_count (drop n s) ≤ line_count s
drop_lines zero s = omega arith
drop_lines (suc n) [] = omega arith
drop_lines (suc n) (b ∷ s) = omega (arith, drop_lines n s, count_step b s)

-- what reading a field leaves is a later part
abbrev Later : List ℕ → Reading → Type 0
Later text r = (n : ℕ) × (drop n text ≡ r.rest)

later_lines : (text : List ℕ) (r : Reading) → Later text r → line_count r.rest ≤ line_count text
later_lines text r l = rw (sym l.1) (drop_lines l.0 text)

number_later : (x : Option (ℕ × ℕ)) (text : List ℕ) (r : Reading) → number_taken x text ≡ done r → Later text r
unfolding number_taken number_meaning and_then
number_later (Some (v, n)) text r e = (n, ap (λ (z : Reading). z.rest) (done_same _ r e))
number_later None text r e = absurd (not_done 2 r e)

name_later : (x : Option (ℕ × ℕ × ℕ)) (text : List ℕ) (r : Reading) → name_taken x text ≡ done r → Later text r
unfolding name_taken name_meaning and_then
name_later (Some (h, l, n)) text r e = (n, ap (λ (z : Reading). z.rest) (done_same _ r e))
name_later None text r e = absurd (not_done 2 r e)

byte_later : (ok : Bool) (v : ℕ) (text : List ℕ) (r : Reading) → byte_taken ok v text ≡ done r → Later text r
unfolding byte_taken
byte_later true v text r e = (1, ap (λ (z : Reading). z.rest) (done_same _ r e))
byte_later false v text r e = absurd (not_done 2 r e)

end_later : (letters : List ℕ) (x : ℕ) (text : List ℕ) (r : Reading) → end_taken letters x text ≡ done r → Later text r
unfolding end_taken
end_later letters x text r e =
    ⊎_elim (λ c. byte_later true 0 text r c.1) (λ c. byte_later (is_capital x) (suc (place x letters)) text r c.1) (either_done (eqb x 36) _ _ e)

field_later : (letters : List ℕ) (k : Content) (text : List ℕ) (r : Reading) → read_field letters k text ≡ done r → Later text r
unfolding read_field
field_later letters state text r e = number_later (number_here text) text r e
field_later letters scope text r e = number_later (number_here text) text r e
field_later letters mark text r e = number_later (number_here text) text r e
field_later letters count text r e = number_later (number_here text) text r e
field_later letters letter text r e = byte_later (is_capital (first text)) (first text) text r e
field_later letters label text r e = byte_later (is_capital (first text)) (place (first text) letters) text r e
field_later letters end text r e = end_later letters (first text) text r e
field_later letters name text r e = name_later (name_here text) text r e
field_later letters kind text r e = byte_later (is_lower (first text)) (first text) text r e
field_later letters turn text r e = number_later (number_here text) text r e
field_later letters plain text r e = (0, ap (λ (z : Reading). z.rest) (done_same _ r e))

-- how many ends of line stand among the items
item_ends : Item → ℕ
item_ends (byte b) = line_count (b ∷ [])
item_ends (field k c) = 0

unfoldable line_ends : List Item → ℕ
line_ends [] = 0
line_ends (i ∷ items) = item_ends i + line_ends items

byte_lines : (letters : List ℕ) (b : ℕ) (text : List ℕ) (r : Reading) → read_item letters (byte b) text ≡ done r
    → line_count r.rest + line_count (b ∷ []) ≤ line_count text
unfolding read_item starts_with
byte_lines letters b [] r e = absurd (not_done 2 r e)
byte_lines letters b (x ∷ text) r e =
    ⊎_elim
    (λ c.
    let q : text ≡ r.rest = ap (λ (z : Reading). z.rest) (done_same _ r c.1) in
    let s : line_count (x ∷ []) ≡ line_count (b ∷ []) = ap (λ (z : ℕ). line_count (z ∷ [])) (eqb-true x b c.0) in
    let t : line_count text ≡ line_count r.rest = ap line_count q in
    omega (arith, count_step x text, s, t))
    (λ c. absurd (not_done 2 r c.1))
    (either_done (eqb x b) _ _ e)

item_lines : (letters : List ℕ) (i : Item) (text : List ℕ) (r : Reading) → read_item letters i text ≡ done r
    → line_count r.rest + item_ends i ≤ line_count text
unfolding item_ends read_item
item_lines letters (byte b) text r e = byte_lines letters b text r e
item_lines letters (field k c) text r e = let h = later_lines text r (field_later letters k text r e) in omega arith

items_lines : (letters : List ℕ) (items : List Item) (row : Row) (text : List ℕ) (r : Reading) → read_items letters items row text ≡ done r
    → line_count r.rest + line_ends items ≤ line_count text
unfolding read_items line_ends
items_lines letters [] row text r e = let q = ap (λ (z : Reading). line_count z.rest) (done_same _ r e) in omega arith
items_lines letters (i ∷ items) row text r e =
    let s = and_then_done (read_item letters i text) _ e in
    let f = item_lines letters i text s.0 s.1 in
    let g = items_lines letters items (sets row (place_of i) s.0.values) s.0.rest r s.2 in
    omega arith

pub line_passed : (letters : List ℕ) (items : List Item) (row : Row) (s text : List ℕ) (l : Line) → line_outcome (Some l) text ≡ read_items letters items row s → line_count (drop l.next text) ≤ line_count s
unfolding line_outcome
line_passed letters items row s text l e = omega (arith, items_lines letters items row s (record { values = l.row; rest = drop l.next text }) (sym e))

-- each section's row ends its line, in every form
edge_ends : (turns : Bool) → line_ends (edge_shape turns).row ≡ 1
unfolding line_ends item_ends line_count edge_shape
edge_ends true = refl
edge_ends false = refl

declaration_ends : (kinds : Bool) → line_ends (declaration_shape kinds).row ≡ 1
unfolding line_ends item_ends line_count declaration_shape
declaration_ends true = refl
declaration_ends false = refl

query_ends : (kinds : Bool) → line_ends (query_shape kinds).row ≡ 1
unfolding line_ends item_ends line_count query_shape
query_ends true = refl
query_ends false = refl

row_ends : (f k : ℕ) → line_ends (shape_at f k).row ≡ 1
unfolding line_ends item_ends line_count shapes_of shape_at
row_ends f zero = refl
row_ends f (suc zero) = refl
row_ends f (suc (suc zero)) = refl
row_ends f (suc (suc (suc zero))) = refl
row_ends f (suc (suc (suc (suc zero)))) = refl
row_ends f (suc (suc (suc (suc (suc zero))))) = edge_ends (has_turns f)
row_ends f (suc (suc (suc (suc (suc (suc zero)))))) = declaration_ends (has_kinds f)
row_ends f (suc (suc (suc (suc (suc (suc (suc zero))))))) = refl
row_ends f (suc (suc (suc (suc (suc (suc (suc (suc zero)))))))) = query_ends (has_kinds f)
row_ends f (suc (suc (suc (suc (suc (suc (suc (suc (suc k))))))))) = refl

names_lines : (f k : ℕ) (text : List ℕ) (p : Piece) → read_names f k text ≡ done p → line_count p.rest ≤ line_count text
unfolding read_names
names_lines f k text p e =
    let s = and_then_done (read_items [] (map byte (shape_at f k).names) blank text) _ e in
    let h = items_lines [] (map byte (shape_at f k).names) blank text s.0 s.1 in
    let q = ap (λ (z : Piece). line_count z.rest) (done_is s.2) in
    omega arith

row_lines_lem : (f k : ℕ) (letters text : List ℕ) (p : Piece) → read_row f k letters text ≡ done p → suc (line_count p.rest) ≤ line_count text
unfolding read_row
row_lines_lem f k letters text p e =
    let s = and_then_done (read_items letters (shape_at f k).row blank text) _ e in
    let h = items_lines letters (shape_at f k).row blank text s.0 s.1 in
    let q = ap (λ (z : Piece). line_count z.rest) (done_is s.2) in
    omega (arith, row_ends f k)

-- the rows of the section so far, and the lines that are left
unfoldable weight : Stage → ℕ
weight g = g.sofar.rows + line_count g.rest

one_weight : (f k : ℕ) (g h : Stage) → one_row (reading f) k g ≡ done h → weight h ≤ weight g
unfolding weight reading after_row taken
one_weight f k g h e =
    let r = row_split (reading f) k g h e in
    let l = row_lines_lem f k g.sofar.letters g.rest r.0 r.1 in
    let q = ap weight r.3 in
    omega arith

rows_weight : (f turns k : ℕ) (g h : Stage) → through_rows (reading f) turns k g ≡ done h → weight h ≤ weight g
unfolding through_rows
rows_weight f zero k g h e = absurd (not_done 5 h e)
rows_weight f (suc turns) k g h e =
    ⊎_elim
    (λ c.
    let m = and_then_done (one_row (reading f) k g) (through_rows (reading f) turns k) c.1 in
    let a = one_weight f k g m.0 m.1 in
    let b = rows_weight f turns k m.0 h m.2 in
    omega arith)
    (λ c. let q = ap weight (done_is c.1) in omega arith)
    (either_done ((reading f).more k g.rest) _ _ e)

section_weight : (f k : ℕ) (g h : Stage) → through_section (reading f) k g ≡ done h → weight h ≤ line_count g.rest
unfolding weight reading after_names begun
section_weight f k g h e =
    let s = section_split (reading f) k g h e in
    let l = names_lines f k g.rest s.0 s.1 in
    let r = rows_weight f (suc (section_at k).most) k (after_names g s.0) h s.2 in
    omega arith

-- the same of the tables that the reader has come to
pub row_passed : (f k n m : ℕ) (t u : List ℕ) (c d : Counts) (s rest : List ℕ) → one_row (reading f) k (stage_at t n c s) ≡ done (stage_at u m d rest)
    → d.rows + line_count rest ≤ c.rows + line_count s
unfolding weight stage_at sofar_at
row_passed f k n m t u c d s rest e = one_weight f k (stage_at t n c s) (stage_at u m d rest) e

pub section_passed : (f k n m : ℕ) (t u : List ℕ) (c d : Counts) (s rest : List ℕ) → through_section (reading f) k (stage_at t n c s) ≡ done (stage_at u m d rest)
    → d.rows + line_count rest ≤ line_count s
unfolding weight stage_at sofar_at
section_passed f k n m t u c d s rest e = section_weight f k (stage_at t n c s) (stage_at u m d rest) e

-- room for rows: at the next row, at a later place, in the next section
pub room_here : (k n m rows size : ℕ) (s rest : List ℕ) → RowsRoom k n s size → m ≡ n + 6 * rows → rows ≤ (section_at k).most
    → rows + line_count rest ≤ line_count s → m + 6 ≤ size
room_here k n m rows size s rest room e h l = ⊎_elim (λ a. omega arith) (λ a. omega arith) room

pub room_later : (k n size : ℕ) (s rest : List ℕ) → line_count rest ≤ line_count s → RowsRoom k n s size → RowsRoom k n rest size
room_later k n size s rest l room = ⊎_elim (λ a. inl a) (λ a. inr (omega arith)) room

pub room_section : (k n old size : ℕ) (text rest : List ℕ) → TextRoom text old → size ≡ old → k < 9 → n ≤ room_before k → n + 6 * line_count rest ≤ 1 + 6 * line_count text
    → RowsRoom k n rest size
room_section k n old size text rest room e h b l =
    ⊎_elim
    (λ a. inl (omega (arith, room_next k, room_below (k + 1) (omega arith))))
    (λ a. inr (omega arith))
    room

-- room is a matter of the table's size alone
pub room_same : (text : List ℕ) (old size : ℕ) → TextRoom text old → size ≡ old → TextRoom text size
room_same text old size room e = ⊎_elim (λ a. inl (omega arith)) (λ a. inr (omega arith)) room

-- a table with room has its first cell
pub room_first : (text : List ℕ) (size : ℕ) → TextRoom text size → 0 < size
room_first text size room = ⊎_elim (λ a. omega arith) (λ a. omega arith) room

-- what was read is in the table
pub room_cells : (k n size : ℕ) (text rest : List ℕ) → TextRoom text size → k ≤ 9 → n ≤ room_before k → n + 6 * line_count rest ≤ 1 + 6 * line_count text → n ≤ size
room_cells k n size text rest room h b l = ⊎_elim (λ a. omega (arith, room_below k h)) (λ a. omega arith) room
