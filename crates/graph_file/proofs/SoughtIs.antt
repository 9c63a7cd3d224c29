-- The name sought is the query's name, at the place of that name in the query's line, and nothing
-- where there is no such query (specs/Sought). Assumes nothing.
use Prim.Native.Nat.{ℕ, zero, suc, ◌+◌, ◌-◌, ◌≤◌, ◌<◌}
use mathlib.Core.Path.{◌≡◌, refl, sym, ap, ◌∙◌}
use mathlib.Core.Bool.{Bool, true, false}
use mathlib.Core.List.{List, [], ◌∷◌, ◌++◌, map, append_assoc}
use native.Mathlib.Omega.{arith}
use lib.ListN.{length, get_or, take, drop, length-append, length-map}
use lib.Seq.{split_at, take_at, drop-append_seam, length-take-le}
use borrow.Author.Tests.{lt-ltb, le-ltb}
use Rattle.text_field.specs.Bytes.{within, is_lower, is_digit, is_name_byte}
use Rattle.text_field.specs.Number.{number_text, number_meaning}
use Rattle.text_field.specs.Name.{name_text, is_name_cells, name_here}
use Rattle.text_field.proofs.NumberLaws.{number_back}
use Rattle.text_field.proofs.NameLaws.{name_back, cells_name}
use Rattle.graph_rows.specs.Format.{values_of, has_kinds, query_shape, shapes_of, shape_at, query_section}
use Rattle.text_field.specs.Outcome.{Outcome, refused, done, and_then}
use Rattle.graph_rows.specs.Admission.{Row, value, blank}
use Rattle.graph_file.specs.Line.{number_taken, byte_taken, read_field, read_item}
use Rattle.graph_rows.specs.Way.{starts_with, Stage}
use Rattle.graph_file.specs.File.{form_of, read_stage, made_of, read_cells}
use Rattle.graph_rows.specs.Tested.{form_in}
use Rattle.graph_rows.specs.Decode.{rules_of, name_at, query_of, rows_in, queries_of}
use Rattle.graph_file.specs.NameSought.{after_lines, line_count, name_part, rest_of, is_name_field, from_name, query_from, from_within, from_sought, name_front, name_sought, place_from, place_sought}
use Rattle.graph_file.specs.Sought.{TableQuery, shown_kind, seek_text, kind_text, query_lines, before_line, SoughtIn, SoughtRight, NothingSought, SoughtNone}
use Rattle.graph_file.proofs.InverseFile.{form_read}
use Rattle.graph_file.proofs.SoughtLaws.{nowhere}
use Rattle.graph_file.proofs.SoughtLines.{count_append, Ended, ended_line, ended_append, between, row_line, row_lines, Named, AllNamed, named_apart, lines_append, line_then, lines_ended, lines_count}
use Rattle.graph_file.proofs.SoughtRows.{QueriesRead, queries_read}

-- in a query's line the name comes behind the scope's number, the space and the kind if it is shown
after_scope : (form : ℕ) (row : Row) (u : List ℕ) → Named row → from_name (shape_at form query_section).row (number_text (value row 0) ++ (between (has_kinds form) row ++ u)) ≡ u
unfolding from_name is_name_field values_of rest_of read_item read_field number_taken number_meaning byte_taken and_then starts_with query_shape shape_at shapes_of between shown_kind is_digit within
after_scope form row u h = by (has_kinds form)
  where
    by : (t : Bool) → from_name (query_shape t).row (number_text (value row 0) ++ (between t row ++ u)) ≡ u
    by true = rw (number_back (value row 0) (32 ∷ value row 1 ∷ 32 ∷ u) h.scope refl, drop-append_seam (number_text (value row 0)) (32 ∷ value row 1 ∷ 32 ∷ u), h.kind)
    by false = rw (number_back (value row 0) (32 ∷ u) h.scope refl, drop-append_seam (number_text (value row 0)) (32 ∷ u))

name_first : (high low : ℕ) (s : List ℕ) → is_name_cells high low ≡ true → name_front (name_text high low ++ (10 ∷ s)) ≡ name_text high low
unfolding name_front name_part is_name_byte is_lower is_digit within
name_first high low s h = rw (name_back high low (10 ∷ s) h refl) (take_at (name_text high low) (10 ∷ s) (length (name_text high low)) refl)

-- the names line ends with LF
names_ended : (form : ℕ) (above : List ℕ) → Ended (above ++ (shape_at form query_section).names)
unfolding query_shape shape_at shapes_of
names_ended form above n t = by (has_kinds form)
  where
    line : (begin : List ℕ) → after_lines (line_count (above ++ (begin ++ (10 ∷ []))) + n) ((above ++ (begin ++ (10 ∷ []))) ++ t) ≡ after_lines n t
    line begin =
        let e : (above ++ begin) ++ (10 ∷ []) ≡ above ++ (begin ++ (10 ∷ [])) = append_assoc above begin (10 ∷ []) in
        ap (λ (s : List ℕ). after_lines (line_count s + n) (s ++ t)) (sym e) ∙ ended_line (above ++ begin) n t

    by : (k : Bool) → after_lines (line_count (above ++ (query_shape k).names) + n) ((above ++ (query_shape k).names) ++ t) ≡ after_lines n t
    by true = line (115 ∷ 116 ∷ 97 ∷ 114 ∷ 116 ∷ 32 ∷ 107 ∷ 105 ∷ 110 ∷ 100 ∷ 32 ∷ 115 ∷ 101 ∷ 101 ∷ 107 ∷ [])
    by false = line (115 ∷ 116 ∷ 97 ∷ 114 ∷ 116 ∷ 32 ∷ 115 ∷ 101 ∷ 101 ∷ 107 ∷ [])

-- the lines of rows a, of one row, and of rows b, behind a part that ends with its last line
module _ (form : ℕ) (base : List ℕ) (ended : Ended base) (a : List Row) (row : Row) (b : List Row) (named : AllNamed (a ++ (row ∷ b))) where
  abbrev lines : List Row → List ℕ
  lines rows = row_lines (has_kinds form) rows

  abbrev all : List Row
  all = a ++ (row ∷ b)

  abbrev front : List ℕ
  front = base ++ lines a

  abbrev mid : List ℕ
  mid = between (has_kinds form) row

  abbrev last : List ℕ
  last = name_text (value row 2) (value row 3) ++ (10 ∷ lines b)

  lines_split : base ++ lines all ≡ front ++ (row_line (has_kinds form) row ++ lines b)
  unfolding row_lines
  lines_split = ap (λ (s : List ℕ). base ++ s) (lines_append (has_kinds form) a (row ∷ b)) ∙ sym (append_assoc base (lines a) (row_line (has_kinds form) row ++ lines b))

  line_there : base ++ lines all ≡ front ++ (number_text (value row 0) ++ (mid ++ last))
  line_there = lines_split ∙ ap (λ (s : List ℕ). front ++ s) (line_then (has_kinds form) row (lines b))

  -- counted from the end
  counted : line_count (base ++ lines all) - length all + length a ≡ line_count front + 0
  counted =
      omega (arith, count_append base (lines all), lines_count (has_kinds form) all named, count_append base (lines a), lines_count (has_kinds form) a (named_apart a (row ∷ b) named).0)

  line_found : after_lines (line_count (base ++ lines all) - length all + length a) (base ++ lines all) ≡ number_text (value row 0) ++ (mid ++ last)
  unfolding after_lines
  line_found =
      ap (λ (n : ℕ). after_lines n (base ++ lines all)) counted
      ∙ ap (after_lines (line_count front + 0)) line_there
      ∙ ended_append base (lines a) ended (lines_ended (has_kinds form) a) 0 (number_text (value row 0) ++ (mid ++ last))

  this : Named row
  this = (named_apart a (row ∷ b) named).1.0

  query_found : query_from form (length all) (base ++ lines all) (length a) ≡ last
  unfolding query_from
  query_found =
      rw (lt-ltb (length a) (length all) (omega (arith, length-append a (row ∷ b))), query_from)
      (ap (from_name (shape_at form query_section).row) line_found ∙ after_scope form row last this)

  front_found : name_front last ≡ name_text (value row 2) (value row 3)
  front_found = name_first (value row 2) (value row 3) (lines b) this.name

  place_found : length (base ++ lines all) - length last ≡ length front + length (number_text (value row 0)) + 1 + length (shown_kind (has_kinds form) (value row 1))
  unfolding between
  place_found = omega (arith, ap length line_there, length-append front (number_text (value row 0) ++ (mid ++ last)), length-append (number_text (value row 0)) (mid ++ last), length-append (shown_kind (has_kinds form) (value row 1)) last)

-- what is sought in a text, by the stage that reading ends at
sought_by : (text : List ℕ) (q : ℕ) (g : Stage) → read_stage text ≡ done g → from_sought text q ≡ query_from (form_of text) g.sofar.rows text q
unfolding from_sought from_within
sought_by text q g e = rw e

-- the rows' lines are the queries'
module _ (cells : List ℕ) where
  abbrev as_query : Row → TableQuery cells
  as_query = query_of (rules_of cells)

  abbrev kinds : Bool
  kinds = has_kinds (form_in cells)

  lines_are : (rows : List Row) → query_lines cells (map as_query rows) ≡ row_lines kinds rows
  unfolding query_lines row_lines seek_text kind_text query_of name_at between
  lines_are [] = refl
  lines_are (row ∷ rows) =
      ap (λ (s : List ℕ). number_text (value row 0) ++ (32 ∷ (shown_kind kinds (value row 1) ++ (name_text (value row 2) (value row 3) ++ (10 ∷ s))))) (lines_are rows)
      ∙ sym (line_then kinds row (row_lines kinds rows))

  taken_are : (q : ℕ) (rows : List Row) → take q (map as_query rows) ≡ map as_query (take q rows)
  taken_are zero rows = refl
  taken_are (suc q) [] = refl
  taken_are (suc q) (row ∷ rows) = ap (λ (l : List (TableQuery cells)). as_query row ∷ l) (taken_are q rows)

  dropped_are : (q : ℕ) (rows : List Row) → drop q (map as_query rows) ≡ map as_query (drop q rows)
  dropped_are zero rows = refl
  dropped_are (suc q) [] = refl
  dropped_are (suc q) (row ∷ rows) = dropped_are q rows

  query_at_lem : (q : ℕ) (rows : List Row) (d : TableQuery cells) → q < length rows → get_or (map as_query rows) q d ≡ as_query (get_or rows q blank)
  query_at_lem q [] d h = absurd (omega arith)
  query_at_lem zero (row ∷ rows) d h = refl
  query_at_lem (suc q) (row ∷ rows) d h = query_at_lem q rows d (omega arith)

  -- the query of a row
  row_sought : (text : List ℕ) → QueriesRead text cells → form_of text ≡ form_in cells → (q : ℕ) → q < length (rows_in query_section cells)
      → SoughtIn cells text q (as_query (get_or (rows_in query_section cells) q blank))
  unfolding queries_of query_of name_at seek_text kind_text query_lines before_line name_sought place_sought place_from between
  row_sought text r same q h =
      let rows = rows_in query_section cells in
      let a = take q rows in
      let row = get_or rows q blank in
      let b = drop (suc q) rows in
      let form = form_in cells in
      let names = (shape_at form query_section).names in
      let base = r.above ++ names in
      let split : rows ≡ a ++ (row ∷ b) = split_at rows q blank h in
      let named : AllNamed (a ++ (row ∷ b)) = rw split at r.named in
      let long : length a ≡ q = length-take-le q rows (omega (arith, h)) in
      let whole : text ≡ base ++ row_lines kinds (a ++ (row ∷ b)) = r.whole ∙ sym (append_assoc r.above names (row_lines kinds rows)) ∙ ap (λ (l : List Row). base ++ row_lines kinds l) split in
      let ended = names_ended form r.above in
      let found : from_sought text q ≡ last form base ended a row b named =
      sought_by text q r.stage r.came
      ∙ ap (λ (f : ℕ). query_from f r.stage.sofar.rows text q) same
      ∙ ap (λ (n : ℕ). query_from form n text q) (r.count ∙ ap length split)
      ∙ ap (λ (t : List ℕ). query_from form (length (a ++ (row ∷ b))) t q) whole
      ∙ ap (query_from form (length (a ++ (row ∷ b))) (base ++ row_lines kinds (a ++ (row ∷ b)))) (sym long)
      ∙ query_found form base ended a row b named in
      let name : name_front (from_sought text q) ≡ name_text (value row 2) (value row 3) = ap name_front found ∙ front_found form base ended a row b named in
      let before : row_lines kinds a ≡ query_lines cells (take q (queries_of cells)) = sym (ap (query_lines cells) (taken_are q rows) ∙ lines_are a) in
      let before-is : base ++ row_lines kinds a ≡ before_line cells r.above q = append_assoc r.above names (row_lines kinds a) ∙ ap (λ (s : List ℕ). r.above ++ (names ++ s)) before in
      let after : row_lines kinds b ≡ query_lines cells (drop (suc q) (queries_of cells)) = sym (ap (query_lines cells) (dropped_are (suc q) rows) ∙ lines_are b) in
      let around : List ℕ → List ℕ → List ℕ = λ s t. s ++ (number_text (value row 0) ++ (32 ∷ (shown_kind kinds (value row 1) ++ (name_text (value row 2) (value row 3) ++ (10 ∷ t))))) in
      record {
        above = r.above;
        lines =
            whole ∙ line_there form base ended a row b named ∙ ap (around (base ++ row_lines kinds a)) after
            ∙ ap (λ (s : List ℕ). around s (query_lines cells (drop (suc q) (queries_of cells)))) before-is;
        name = name;
        is_name = (cells_name (value row 2) (value row 3) (this form base ended a row b named).name).name;
        from =
            ap (λ (s : List ℕ). length text - length s) found
            ∙ ap (λ (t : List ℕ). length t - length (last form base ended a row b named)) whole
            ∙ place_found form base ended a row b named
            ∙ ap (λ (s : List ℕ). length s + length (number_text (value row 0)) + 1 + length (shown_kind kinds (value row 1))) before-is;
        to = ap (λ (s : List ℕ). length text - length (from_sought text q) + length s) name;
      }

pub sought_right : SoughtRight
unfolding queries_of
sought_right text cells e q h d =
    let rows = rows_in query_section cells in
    let k : q < length rows = rw (length-map rows (query_of (rules_of cells))) at h in
    rw (query_at_lem cells q rows d k) (row_sought cells text (queries_read text cells e) (sym (form_read text cells e)) q k)

-- where no part of the text is sought
nothing : (text : List ℕ) (q : ℕ) → from_sought text q ≡ [] → NothingSought text q
unfolding name_sought place_sought name_front name_part name_here
nothing text q e =
    let p = nowhere text (from_sought text q) e in
    record { name = ap name_front e; from = sym p.0; to = sym p.1 }

from_refused : (text : List ℕ) (q n : ℕ) → read_cells text ≡ refused n → from_sought text q ≡ []
unfolding read_cells made_of and_then from_sought from_within
from_refused text q n e = go (read_stage text) e
  where
    go : (o : Outcome Stage) → made_of o ≡ refused n → from_within o text q ≡ []
    go (refused m) f = refl
    go (done g) f = absurd (let z : ◌≡◌ {A = ℕ} 0 1 = cc in omega arith)

from_absent : (text cells : List ℕ) → QueriesRead text cells → (q : ℕ) → length (queries_of cells) ≤ q → from_sought text q ≡ []
unfolding queries_of query_from
from_absent text cells r q h =
    let none : r.stage.sofar.rows ≤ q = omega (arith, h, r.count, length-map (rows_in query_section cells) (query_of (rules_of cells))) in
    sought_by text q r.stage r.came ∙ rw (le-ltb q r.stage.sofar.rows none, query_from)

pub sought_none : SoughtNone
sought_none = record {
  file_refused = λ text n e q. nothing text q (from_refused text q n e);
  query_absent = λ text cells e q h. nothing text q (from_absent text cells (queries_read text cells e) q h);
}
