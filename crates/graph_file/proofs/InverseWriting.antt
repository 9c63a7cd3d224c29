-- Reading mirrors writing: the text that cells were written as is read into those cells, and is
-- short enough to be read. Assumes nothing.
use Prim.Native.Nat.{ℕ, suc, ◌+◌, ◌*◌, ◌≤◌, ◌<◌}
use mathlib.Core.Path.{◌≡◌, refl, sym, ◌∙◌, ap}
use mathlib.Core.List.{List, [], ◌∷◌, ◌++◌}
use mathlib.Core.Bool.{Bool, true, false, not}
use native.Mathlib.Nat.{suc-mul}
use native.Mathlib.Omega.{arith}
use lib.Dec.{eqb}
use lib.ListN.{length, drop, length-append}
use borrow.Author.Tests.{eqb-true}
use Rattle.text_field.specs.Bytes.{within, is_digit, is_capital, is_lower}
use Rattle.text_field.specs.Number.{number_here, number_meaning}
use Rattle.text_field.proofs.ByteLaws.{clash, within_bounds, within_below, digit_bounds}
use Rattle.text_field.proofs.NumberLaws.{first_off}
use Rattle.graph_rows.specs.Format.{Content, state, scope, mark, count, letter, label, end, name, kind, plain, turn, Item, byte, field, section_at, shape_at}
use Rattle.text_field.specs.Outcome.{done, and_then}
use Rattle.graph_rows.specs.Admission.{Row, row_of, blank, Sofar, in_range, place}
use Rattle.graph_file.specs.Line.{Reading, number_taken, byte_taken, end_taken, first, read_field, read_item, place_of, read_items, line_text}
use Rattle.graph_rows.specs.Values.{formed}
use Rattle.graph_rows.specs.Way.{Piece, starts_with}
use Rattle.graph_file.specs.File.{read_names, row_follows, read_row, reading, write_names, write_row, writing}
use Rattle.graph_rows.specs.Tested.{test_row}
use Rattle.text_field.proofs.OutcomeLaws.{done_same, not_done, went}
use Rattle.graph_file.proofs.InverseTable.{starts_field, starts_row, starts_names, longest, room, section_fine}
use Rattle.graph_file.proofs.InverseField.{end_label}
use Rattle.graph_file.proofs.InverseLine.{byte_found, line_again}
use Rattle.graph_file.proofs.InverseNames.{names_again}
use Rattle.graph_file.proofs.InverseSofar.{Sound, Admitted, line_width}
use Rattle.graph_file.proofs.InverseWays.{RowBack, Mirror}
use lib.Seq.{sets}
use Rattle.graph_rows.proofs.RowLaws.{row_of_five}
use Rattle.graph_rows.proofs.TestedAdmitted.{row_tested}

-- a digit, the end mark or a capital is no lower-case letter
not_lower : (x : ℕ) → x < 97 → not (is_lower x) ≡ true
unfolding is_lower
not_lower x h = rw (within_below 97 122 x h)

number_starts : (text : List ℕ) (r : Reading) → number_taken (number_here text) text ≡ done r → row_follows text ≡ true
unfolding number_taken number_meaning number_here row_follows and_then
number_starts [] r e = absurd (not_done 2 r e)
number_starts (x ∷ text) r e = by (is_digit x) refl
  where
    by : (t : Bool) → is_digit x ≡ t → not (is_lower x) ≡ true
    by true t = let b = digit_bounds x t in not_lower x (omega arith)
    by false t = absurd (not_done 2 r (rw (first_off x text t) at e))

capital_starts : (v : ℕ) (text : List ℕ) (r : Reading) → byte_taken (is_capital (first text)) v text ≡ done r → row_follows text ≡ true
unfolding byte_taken row_follows is_capital
capital_starts v [] r e = absurd (not_done 2 r (unfold within in e))
capital_starts v (x ∷ text) r e = by (within 65 90 x) refl
  where
    by : (t : Bool) → within 65 90 x ≡ t → not (is_lower x) ≡ true
    by true t = let b = within_bounds 65 90 x t in not_lower x (omega arith)
    by false t = absurd (not_done 2 r (rw t at e))

end_starts : (letters text : List ℕ) (r : Reading) → end_taken letters (first text) text ≡ done r → row_follows text ≡ true
end_starts letters text r e = by (eqb (first text) 36) refl
  where
    mark_starts : (s : List ℕ) → first s ≡ 36 → row_follows s ≡ true
    mark_starts [] h = absurd (omega arith)
    mark_starts (x ∷ s) h = unfold row_follows in not_lower x (omega arith)

    by : (t : Bool) → eqb (first text) 36 ≡ t → row_follows text ≡ true
    by true t = mark_starts text (eqb-true (first text) 36 t)
    by false t = capital_starts (suc (place (first text) letters)) text r (sym (end_label letters (first text) text t) ∙ e)

field_starts : (letters : List ℕ) (k : Content) (text : List ℕ) (r : Reading) → starts_field k ≡ true → read_field letters k text ≡ done r
    → row_follows text ≡ true
unfolding read_field starts_field
field_starts letters state text r h e = number_starts text r e
field_starts letters scope text r h e = number_starts text r e
field_starts letters mark text r h e = number_starts text r e
field_starts letters count text r h e = number_starts text r e
field_starts letters letter text r h e = capital_starts (first text) text r e
field_starts letters label text r h e = capital_starts (place (first text) letters) text r e
field_starts letters end text r h e = end_starts letters text r e
field_starts letters name text r h e = absurd (clash h refl)
field_starts letters kind text r h e = absurd (clash h refl)
field_starts letters plain text r h e = absurd (clash h refl)
field_starts letters turn text r h e = number_starts text r e

-- a text that was read as a row does not begin with a lower-case letter
row_starts : (letters : List ℕ) (items : List Item) (acc : Row) (text : List ℕ) (r : Reading) → starts_row items ≡ true
    → read_items letters items acc text ≡ done r → row_follows text ≡ true
unfolding starts_row read_items row_follows read_item
row_starts letters [] acc text r h e = absurd (clash h refl)
row_starts letters (byte b ∷ items) acc text r h e =
    let a = went (read_item letters (byte b) text) (λ t. read_items letters items (sets acc (place_of (byte b)) t.values) t.rest) r e
    in rw (byte_found letters b text a.gained a.before).0 h
row_starts letters (field k c ∷ items) acc text r h e =
    let a = went (read_item letters (field k c) text) (λ t. read_items letters items (sets acc (place_of (field k c)) t.values) t.rest) r e
    in field_starts letters k text a.gained h a.before

-- a names line begins with a lower-case letter
names_start : (bs t : List ℕ) → starts_names bs ≡ true → row_follows (bs ++ t) ≡ false
unfolding starts_names row_follows
names_start [] t h = absurd (clash h refl)
names_start (b ∷ bs) t h = rw h

-- what writing a row makes and leaves
pub record RowWritten (form k : ℕ) (letters s : List ℕ) (p : Piece) : Type 0 where
  pub stands : s ≡ (k ∷ row_of s) ++ drop 6 s
  pub proper : formed (shape_at form k).row (row_of s) ≡ true
  pub piece : p ≡ record { row = row_of s; made = line_text letters (shape_at form k).row (row_of s); rest = drop 6 s }

pub row_written_lem : (form k : ℕ) (letters s : List ℕ) (p : Piece) → starts_with k s ≡ true → write_row form k letters s ≡ done p → RowWritten form k letters s p
unfolding write_row
row_written_lem form k letters s p h e =
    let w = went (test_row form k letters s) (λ q. done (record { row = q.row; made = line_text letters (shape_at form k).row q.row; rest = q.rest })) p e
    in let t = row_tested form k letters s w.gained h w.before
    in record { stands = t.stands; proper = t.proper; piece = sym (done_same _ p w.after) ∙ ap (λ (q : Piece). record { row = q.row; made = line_text letters (shape_at form k).row q.row; rest = q.rest }) t.piece }

names_piece : (form k : ℕ) (s : List ℕ) (p : Piece) → write_names form k s ≡ done p → p ≡ record { row = blank; made = (shape_at form k).names; rest = s }
unfolding write_names
names_piece form k s p e = sym (done_same (record { row = blank; made = (shape_at form k).names; rest = s }) p e)

names_read : (form k : ℕ) (t : List ℕ) → read_names form k ((shape_at form k).names ++ t) ≡ done (record { row = blank; made = []; rest = t })
unfolding read_names and_then
names_read form k t = rw (names_again (shape_at form k).names t)

-- a text that begins at a names line or is at its end, and is no longer than the sections' room
abbrev Outer : ℕ → ℕ → ℕ → List ℕ → Type 0
Outer form left k t = (row_follows t ≡ false) × (length t ≤ room form left k)

-- at most n lines of section k and the sections after it
abbrev Inner : ℕ → ℕ → ℕ → ℕ → List ℕ → Type 0
Inner form left k n t = length t ≤ n * longest (shape_at form k).row + room form left (suc k)

mirrored : (form k : ℕ) (st : Sofar) (s : List ℕ) (p : Piece) → k < 9 → Sound st → starts_with k s ≡ true → write_row form k st.letters s ≡ done p
    → Admitted form k st p.row → RowBack form (reading form) k st.letters s p
unfolding reading read_row and_then
mirrored form k st s p l S h e A =
    let r = row_written_lem form k st.letters s p h e
    in let ranges : in_range (length st.letters) st.scopes (shape_at form k).row (row_of s) ≡ true = rw r.piece at A.ranges
    in let f = section_fine form k l
    in let back : (t : List ℕ) → read_items st.letters (shape_at form k).row blank (line_text st.letters (shape_at form k).row (row_of s) ++ t) ≡ done (record { values = row_of s; rest = t }) = λ t. line_again st.letters S.letters st.scopes (shape_at form k).row (row_of s) t f.line (row_of_five s) r.proper ranges
    in rw r.piece (record {
      used = k ∷ row_of s;
      whole = r.stands;
      formed = r.proper;
      more = λ t. row_starts st.letters (shape_at form k).row blank (line_text st.letters (shape_at form k).row (row_of s) ++ t) (record { values = row_of s; rest = t }) f.row_first (back t);
      back = λ t. rw (back t);
    })

line_inner : (form left k n : ℕ) (st : Sofar) (s : List ℕ) (p : Piece) (t : List ℕ) → Sound st → starts_with k s ≡ true
    → write_row form k st.letters s ≡ done p → Admitted form k st p.row → Inner form left k n t → Inner form left k (suc n) (p.made ++ t)
unfolding in_range
line_inner form left k n st s p t S h e A i =
    let q = (row_written_lem form k st.letters s p h e).piece
    in let g = line_width st.letters st.scopes (shape_at form k).row (row_of s) S.few (rw q at A.ranges)
    in rw q (omega (arith, length-append (line_text st.letters (shape_at form k).row (row_of s)) t, suc-mul n (longest (shape_at form k).row)))

names_outer : (form left k : ℕ) (s : List ℕ) (p : Piece) (t : List ℕ) → k < 9 → write_names form k s ≡ done p → Inner form left k (section_at k).most t
    → Outer form (suc left) k (p.made ++ t)
unfolding room
names_outer form left k s p t l e i = rw (names_piece form k s p e) (names_start (shape_at form k).names t (section_fine form k l).names_first, omega (arith, length-append (shape_at form k).names t))

pub writing_mirrored : (form : ℕ) → Mirror (writing form) (reading form)
unfolding reading writing room row_follows
writing_mirrored form =
    record {
      same = refl;
      Outer = Outer form;
      Inner = Inner form;
      ended = λ k. (refl, omega arith);
      resting = λ left k n t o. let h = o.1 in omega arith;
      halts = λ left k t o. o.0;
      names = λ k s p e. rw (names_piece form k s p e) (record { used = []; whole = refl; back = λ t. names_read form k t });
      names_outer = names_outer form;
      row = mirrored form;
      row_inner = line_inner form;
    }

-- the nine sections' text is no longer than their room
pub written_fits : (form : ℕ) (t : List ℕ) → (writing_mirrored form).Outer 9 0 t → length t ≤ room form 9 0
unfolding writing_mirrored
written_fits form t o = o.1
