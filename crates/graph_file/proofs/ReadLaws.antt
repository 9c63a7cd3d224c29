-- Laws of reading a row into the table. Assumes nothing.
use Prim.Native.Nat.{ℕ, zero, suc, ◌+◌, ◌≤◌, ◌<◌}
use mathlib.Core.Path.{◌≡◌, refl, sym, ap, ◌∙◌}
use mathlib.Core.List.{List, ◌∷◌, append_assoc}
use mathlib.Core.Bool.{false, not}
use native.Mathlib.Omega.{arith}
use lib.ListN.{length, get_or, take, drop, drop_of_length-le}
use lib.Seq.{drop-cons}
use Rattle.text_field.specs.Bytes.{is_lower}
use Rattle.text_field.specs.Buffer.{Buf, puts}
use Rattle.text_field.proofs.BufferLaws.{puts_fits}
use Rattle.std.specs.declared.option.Option.TheVariants.{Some}
use Rattle.std.specs.declared.result.Result.{Result}
use Rattle.std.specs.declared.result.Result.TheVariants.{Err}
use Rattle.text_field.specs.declared.refusal.Refusal.{Refusal}
use Rattle.text_field.specs.Refusal.{number_of}
use Rattle.text_field.specs.Answer.{fault_of}
use Rattle.graph_file.specs.declared.line.Line.{Line}
use Rattle.graph_rows.specs.declared.rows.Counts.{Counts}
use Rattle.graph_file.specs.declared.reader.Part.{Part}
use Rattle.graph_rows.specs.Format.{section_at}
use Rattle.text_field.specs.Outcome.{Outcome, refused, done, and_then}
use Rattle.graph_rows.specs.Admission.{Row, value, row_of, blank, admission}
use Rattle.graph_file.specs.Line.{read_items}
use Rattle.graph_rows.specs.Way.{Stage, if_admitted, after_row, one_row}
use Rattle.graph_file.specs.File.{row_follows, read_row, reading}
use Rattle.graph_rows.specs.Table.{items_at, row_place, letters_at, sofar_at}
use Rattle.graph_file.specs.Reader.{line_outcome, stage_at, part_outcome}
use Rattle.graph_rows.specs.Counting.{Placed, counts_after}
use Rattle.graph_rows.proofs.FormatLaws.{row_items}
use Rattle.text_field.proofs.RefusalLaws.{number_positive}
use Rattle.graph_file.proofs.StageLaws.{grown, grown_row, grown_kept, sofar_grown, made_grown}
use Rattle.graph_rows.proofs.CountLaws.{admitted_room}
use Rattle.graph_rows.proofs.WayLaws.{at}

-- the table after a row was put
pub put_grown : (k n : ℕ) (t u : List ℕ) (r : ℕ) (row : Row) → n + 6 ≤ length t → length row ≡ 5 → ◌≡◌ {A = Buf} (u, r) (puts (t, n) (k ∷ row)) → u ≡ grown k n t row
unfolding grown
put_grown k n t u r row h w e =
    let d : n + length (k ∷ row) ≡ n + 6 = omega arith in
    ap (λ (b : Buf). b.0) (e ∙ puts_fits t n (k ∷ row) (omega arith)) ∙ rw (d, append_assoc (take n t) (k ∷ row) (drop (n + 6) t))

-- what a refusal's number says to an admission
not_admitted : (n : ℕ) (next : Outcome Stage) → 0 < n → refused n ≡ if_admitted n next
unfolding if_admitted
not_admitted zero next h = absurd (omega arith)
not_admitted (suc n) next h = refl

module _ (form k n : ℕ) (t text : List ℕ) (at : ℕ) (c : Counts) where
  -- the line is not of its form
  pub one_refused : refused 2 ≡ read_items (letters_at c.labels (drop 1 t)) (items_at (row_place form k)) blank (drop at text) → refused 2 ≡ one_row (reading form) k (stage_at t n c (drop at text))
  unfolding one_row reading read_row stage_at sofar_at and_then
  one_refused e = sym (rw (← row_items form k, ← e))

  -- the line is read, and the row admitted or not
  module _ (l : Line) (e : line_outcome (Some l) text ≡ read_items (letters_at c.labels (drop 1 t)) (items_at (row_place form k)) blank (drop at text)) where
    one_read : one_row (reading form) k (stage_at t n c (drop at text)) ≡ if_admitted (admission form k (sofar_at t n c) l.row) (done (after_row k (stage_at t n c (drop at text)) (record { row = l.row; made = k ∷ l.row; rest = drop l.next text })))
    unfolding one_row reading read_row stage_at sofar_at and_then line_outcome
    one_read = rw (← row_items form k, ← e)

    module _ (p : Placed k n c) (fits : n + 6 ≤ length t) (five : length l.row ≡ 5) (u : List ℕ) (g : u ≡ grown k n t l.row) where
      admission_same : admission form k (sofar_at u n c) (row_of (drop n u)) ≡ admission form k (sofar_at t n c) l.row
      admission_same = rw (g, grown_kept k n t l.row c p (omega arith) five, grown_row k n t l.row c p (omega arith) five)

      pub one_row_lem : (a : ℕ) → a ≡ admission form k (sofar_at u n c) (row_of (drop n u)) → if_admitted a (done (stage_at u (n + 6) (counts_after k c (value l.row 0)) (drop l.next text))) ≡ one_row (reading form) k (stage_at t n c (drop at text))
      unfolding after_row stage_at
      one_row_lem a h = sym (one_read ∙ rw (← admission_same, ← h) (ap (λ (x : Stage). if_admitted a (done x)) stage))
        where
          stage : after_row k (stage_at t n c (drop at text)) (record { row = l.row; made = k ∷ l.row; rest = drop l.next text }) ≡ stage_at u (n + 6) (counts_after k c (value l.row 0)) (drop l.next text)
          stage = rw g (λ i. record { sofar = sym (sofar_grown k n t l.row c p (omega arith) five) i; made = sym (made_grown k n t l.row c p (omega arith) five) i; rest = drop l.next text })

      -- a row that is not admitted
      pub one_not : (r : Refusal) → fault_of {A = Unit {0}} (Err r) ≡ admission form k (sofar_at u n c) (row_of (drop n u)) → refused (number_of r) ≡ one_row (reading form) k (stage_at t n c (drop at text))
      unfolding fault_of
      one_not r h = not_admitted (number_of r) _ (number_positive r) ∙ one_row_lem (number_of r) h

      -- a row that is admitted
      pub one_taken : 0 ≡ admission form k (sofar_at u n c) (row_of (drop n u)) → done (stage_at u (n + 6) (counts_after k c (value l.row 0)) (drop l.next text)) ≡ one_row (reading form) k (stage_at t n c (drop at text))
      unfolding if_admitted
      one_taken h = one_row_lem 0 h

      pub one_room : 0 ≡ admission form k (sofar_at u n c) (row_of (drop n u)) → c.rows < (section_at k).most
      unfolding sofar_at
      one_room h = admitted_room form k (sofar_at u n c) (row_of (drop n u)) (sym h)

-- whether a row follows, at the text's end and before it
pub follows_none : (text : List ℕ) (at : ℕ) → length text ≤ at → false ≡ row_follows (drop at text)
unfolding row_follows
follows_none text at h = rw (drop_of_length-le text {i = at} h)

pub follows_byte : (text : List ℕ) (at : ℕ) → at < length text → not (is_lower (get_or text at 0)) ≡ row_follows (drop at text)
unfolding row_follows
follows_byte text at h = rw (drop-cons text at 0 h)

-- a part that was refused
pub part_refused : (x : Result Part Refusal) (table text : List ℕ) (r : Refusal) → x ≡ Err r → part_outcome x table text ≡ refused (number_of r)
unfolding part_outcome
part_refused x table text r e = rw e
