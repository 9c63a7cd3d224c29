-- Laws of writing, row by row and section by section into a buffer, a table that its test refuses
-- nothing of. Assumes nothing.
use Prim.Native.Nat.{ℕ, suc, ◌+◌, ◌-◌, ◌≤◌, ◌<◌}
use mathlib.Core.Path.{◌≡◌, refl, sym, ap, ◌∙◌}
use mathlib.Core.List.{List, [], append-nil}
use mathlib.Core.Bool.{true, false, not}
use native.Mathlib.Omega.{arith}
use native.Mathlib.Numerals.{add-one}
use lib.ListN.{length, drop, length-drop}
use lib.Seq.{drop-drop}
use Rattle.text_field.specs.Buffer.{Buf, puts}
use Rattle.text_field.specs.declared.writer.Writer.{Writer}
use Rattle.text_field.specs.Writing.{buf}
use Rattle.text_field.specs.Outcome.{Outcome, refused, done, and_then}
use Rattle.text_field.proofs.OutcomeLaws.{done_same, not_done, went, passed}
use Rattle.graph_rows.specs.declared.rows.Counts.{Counts}
use Rattle.graph_file.specs.declared.writer.Put.{Put}
use Rattle.graph_rows.specs.Format.{section_at, shape_at}
use Rattle.graph_rows.specs.Admission.{Row, value, row_of, blank, nothing, begun, admission}
use Rattle.graph_rows.specs.Way.{Piece, Stage, after_row, one_row, through_rows, after_names, through_section, is_empty, through_sections, whole, starts_with}
use Rattle.graph_rows.specs.Tested.{form_in, tested, table_refusal, stage_from}
use Rattle.graph_rows.specs.Table.{items_at, names_place, row_place, rows_at, letters_at, pairs_at, rows_back, sofar_at}
use Rattle.graph_rows.specs.Counting.{Placed, counts_after, counts_begun}
use Rattle.graph_file.specs.Line.{line_text}
use Rattle.graph_file.specs.File.{made_of, write_names, writing, write_text}
use Rattle.graph_file.specs.Writer.{Poured, poured, pour, put_at, Passes, text_in, made_in}
use Rattle.graph_rows.proofs.FormatLaws.{names_items, row_items}
use Rattle.graph_rows.proofs.TakenLaws.{no_counts, sofar_taken}
use Rattle.graph_rows.proofs.CountLaws.{admitted_room}
use Rattle.graph_rows.proofs.DecodeWay.{row_split, section_split, whole_split}
use Rattle.graph_rows.proofs.WayLaws.{rows_on, rows_off}
use Rattle.graph_rows.proofs.ProperLaws.{not_refused, tested_proper}
use Rattle.graph_file.proofs.ForgetLaws.{tests_pass}
use Rattle.graph_file.proofs.InverseWriting.{row_written_lem}
use Rattle.graph_file.proofs.WriteLaws.{text_bytes_lem}
use Rattle.graph_file.proofs.PourLaws.{after, mapped, Onward, onward_rows, onward_sections, pour_from, pour_then}

-- A step was poured and another follows: what is left passes, and pours what the two pour.
mapped_passes : (m : List ℕ) (o : Outcome Stage) → Passes (mapped m o) → Passes o
unfolding mapped and_then
mapped_passes m (refused n) p = absurd (not_done n p.0 p.1)
mapped_passes m (done g) p = (g, refl)

from_bare : (g : Stage) → g ≡ after g.made (stage_from g.sofar g.rest)
unfolding after stage_from
from_bare g = λ i. record { sofar = g.sofar; made = sym (append-nil g.made) i; rest = g.rest }

module _ (h : Stage → Outcome Stage) (onward : Onward h) (q : Poured) (b : Buf) where
  pub passes_on : (o : Outcome Stage) → done q ≡ pour b o → Passes (and_then o h) → Passes (h (stage_from q.sofar q.rest))
  unfolding pour poured and_then stage_from
  passes_on (refused n) e p = absurd (not_done n q (sym e))
  passes_on (done g) e p =
      let same : q ≡ poured b g = done_same q (poured b g) e in
      rw same (mapped_passes g.made (h (stage_from g.sofar g.rest)) (p.0, sym (onward g.made (stage_from g.sofar g.rest)) ∙ ap h (sym (from_bare g)) ∙ p.1))

  pub pour_on : (o : Outcome Stage) → done q ≡ pour b o → pour q.buffer (h (stage_from q.sofar q.rest)) ≡ pour b (and_then o h)
  unfolding and_then
  pour_on o e = sym (pour_then h onward b o ∙ ap (λ (x : Outcome Poured). and_then x (λ q. pour q.buffer (h (stage_from q.sofar q.rest)))) (sym e))

-- the first of two steps that pass, passes
pub first_passes : (o : Outcome Stage) (h : Stage → Outcome Stage) → Passes (and_then o h) → Passes o
first_passes o h p = let w = went o h p.0 p.1 in (w.gained, w.before)

-- nothing more is poured
pub pour_here : (r : Put) (t : List ℕ) (to : Writer) → done (put_at r t to) ≡ pour (buf to) (done (stage_from (sofar_at t r.cells r.counts) (drop r.cells t)))
unfolding pour poured put_at stage_from puts
pour_here r t to = refl

-- the rows of section k: after d.rows of them, the turns left
module _ (form k m : ℕ) (t : List ℕ) (d : Counts) (few : d.rows ≤ (section_at k).most) where
  here : Stage
  here = stage_from (sofar_at t m d) (drop m t)

  turns : ℕ
  turns = (section_at k).most - d.rows

  left_now : through_rows (writing form) (suc (section_at k).most - d.rows) k here ≡ through_rows (writing form) (suc turns) k here
  unfolding turns
  left_now = let e : suc (section_at k).most - d.rows ≡ suc ((section_at k).most - d.rows) = omega arith in rw e

  pub rows_stop : (to : Writer) → starts_with k (drop m t) ≡ false → done (put_at (record { cells = m; counts = d }) t to) ≡ pour (buf to) (through_rows (writing form) (suc (section_at k).most - d.rows) k (stage_from (sofar_at t m d) (drop m t)))
  unfolding here writing stage_from
  rows_stop to h =
      pour_here (record { cells = m; counts = d }) t to ∙ ap (pour (buf to)) (sym (left_now ∙ rows_off (writing form) turns k here h))

  -- a row follows: it is written, and the rest of the rows passes
  module _ (follows : starts_with k (drop m t) ≡ true) (passes : Passes (through_rows (writing form) (suc (section_at k).most - d.rows) k (stage_from (sofar_at t m d) (drop m t)))) where
    turn : through_rows (writing form) (suc (section_at k).most - d.rows) k here ≡ and_then (one_row (writing form) k here) (through_rows (writing form) turns k)
    unfolding here writing stage_from
    turn = left_now ∙ rows_on (writing form) turns k here follows

    both_pass : Passes (and_then (one_row (writing form) k here) (through_rows (writing form) turns k))
    unfolding here
    both_pass = (passes.0, sym turn ∙ passes.1)

    row : Row
    row = row_of (drop m t)

    line : List ℕ
    line = line_text (letters_at d.labels (drop 1 t)) (shape_at form k).row row

    piece : Piece
    piece = record { row = row; made = line; rest = drop 6 (drop m t) }

    taken_row : (admission form k (sofar_at t m d) row ≡ 0) × (one_row (writing form) k here ≡ done (after_row k here piece))
    unfolding here row line piece writing stage_from sofar_at
    taken_row =
        let o = first_passes (one_row (writing form) k here) (through_rows (writing form) turns k) both_pass in
        let r = row_split (writing form) k here o.0 o.1 in
        let w = row_written_lem form k (letters_at d.labels (drop 1 t)) (drop m t) r.0 follows r.1 in
        (ap (λ (p : Piece). admission form k (sofar_at t m d) p.row) (sym w.piece) ∙ r.2, o.1 ∙ ap done (sym r.3 ∙ ap (after_row k here) w.piece))

    -- the table holds all of the row
    pub row_whole : m + 6 ≤ length t
    unfolding here row line piece writing stage_from sofar_at row_of
    row_whole =
        let o = first_passes (one_row (writing form) k here) (through_rows (writing form) turns k) both_pass in
        let r = row_split (writing form) k here o.0 o.1 in
        let w = row_written_lem form k (letters_at d.labels (drop 1 t)) (drop m t) r.0 follows r.1 in
        let six : length (drop m t) ≡ suc (suc (suc (suc (suc (suc (length (drop 6 (drop m t)))))))) = ap length w.stands in
        omega (arith, length-drop m t)

    pub row_room : d.rows < (section_at k).most
    unfolding sofar_at row
    row_room = admitted_room form k (sofar_at t m d) (row_of (drop m t)) taken_row.0

    -- the row's line was put, and the next row's place reached
    module _ (placed : Placed k m d) (v : ℕ) (first : v ≡ value (row_of (drop m t)) 0) (b : Buf) (to : Writer)
        (put : buf to ≡ puts b (line_text (letters_at d.labels (drop 1 t)) (items_at (row_place form k)) (row_of (drop m t)))) where
      there : Poured
      there = put_at (record { cells = m + 6; counts = counts_after k d v }) t to

      row_poured : done there ≡ pour b (one_row (writing form) k here)
      unfolding there put_at here row line piece pour poured after_row stage_from
      row_poured =
          sym (ap (pour b) taken_row.1 ∙ rw first (λ i. done (record { sofar = sym (sofar_taken k m t d placed) i; buffer = written i; rest = drop-drop 6 m t i })))
        where
          written : puts b (line_text (letters_at d.labels (drop 1 t)) (shape_at form k).row (row_of (drop m t))) ≡ buf to
          written = sym (put ∙ rw (row_items form k))

      left_then : suc (section_at k).most - (counts_after k d v).rows ≡ turns
      unfolding counts_after turns
      left_then = let r = row_room in omega arith

      pub rows_pass : Passes (through_rows (writing form) (suc (section_at k).most - (counts_after k d v).rows) k (stage_from (sofar_at t (m + 6) (counts_after k d v)) (drop (m + 6) t)))
      unfolding there put_at
      rows_pass = rw left_then (passes_on (through_rows (writing form) turns k) (onward_rows (writing form) turns k) there b (one_row (writing form) k here) row_poured both_pass)

      pub rows_again : pour (buf to) (through_rows (writing form) (suc (section_at k).most - (counts_after k d v).rows) k (stage_from (sofar_at t (m + 6) (counts_after k d v)) (drop (m + 6) t))) ≡ pour b (through_rows (writing form) (suc (section_at k).most - d.rows) k (stage_from (sofar_at t m d) (drop m t)))
      unfolding there put_at here
      rows_again = rw left_then (pour_on (through_rows (writing form) turns k) (onward_rows (writing form) turns k) there b (one_row (writing form) k here) row_poured ∙ ap (pour b) (sym turn))

pub rows_start : (form k : ℕ) (g : Stage) (c : Counts) → c.rows ≡ 0 → through_rows (writing form) (suc (section_at k).most - c.rows) k g ≡ through_rows (writing form) (suc (section_at k).most) k g
rows_start form k g c z = let e : suc (section_at k).most - c.rows ≡ suc (section_at k).most = omega arith in rw e

-- the names line
names_text : (form k : ℕ) (letters : List ℕ) (row : Row) → line_text letters (items_at (names_place form k)) row ≡ (shape_at form k).names
names_text form k letters row = rw (names_items form k) (text_bytes_lem letters (shape_at form k).names row)

pub names_put : (form k o : ℕ) (letters : List ℕ) (row : Row) (b b' : Buf) → b' ≡ puts b (line_text letters (items_at o) row) → o ≡ names_place form k → b' ≡ puts b (shape_at form k).names
names_put form k o letters row b b' e f = e ∙ ap (puts b) (ap (λ (x : ℕ). line_text letters (items_at x) row) f ∙ names_text form k letters row)

-- a section after its names line
module _ (form k : ℕ) (t : List ℕ) (p : ℕ) (c : Counts) (passes : Passes (through_section (writing form) k (stage_from (sofar_at t p c) (drop p t)))) where
  named : Stage
  named = after_names (stage_from (sofar_at t p c) (drop p t)) (record { row = blank; made = (shape_at form k).names; rest = drop p t })

  rows_named : through_section (writing form) k (stage_from (sofar_at t p c) (drop p t)) ≡ through_rows (writing form) (suc (section_at k).most) k named
  unfolding through_section writing write_names and_then named stage_from
  rows_named =
      let s = section_split (writing form) k (stage_from (sofar_at t p c) (drop p t)) passes.0 passes.1 in
      passes.1 ∙ sym (ap (through_rows (writing form) (suc (section_at k).most) k) (ap (after_names (stage_from (sofar_at t p c) (drop p t))) (done_same _ _ s.1)) ∙ s.2)

  begun_here : named ≡ after (shape_at form k).names (stage_from (sofar_at t p (counts_begun c)) (drop p t))
  unfolding named after after_names stage_from begun sofar_at counts_begun rows_back
  begun_here = λ i. record { sofar = sofar_at t p (counts_begun c); made = sym (append-nil (shape_at form k).names) i; rest = drop p t }

  pub section_passes : Passes (through_rows (writing form) (suc (section_at k).most) k (stage_from (sofar_at t p (counts_begun c)) (drop p t)))
  section_passes =
      mapped_passes (shape_at form k).names _
      (passes.0, sym (onward_rows (writing form) (suc (section_at k).most) k (shape_at form k).names (stage_from (sofar_at t p (counts_begun c)) (drop p t))) ∙ ap (through_rows (writing form) (suc (section_at k).most) k) (sym begun_here) ∙ sym rows_named ∙ passes.1)

  pub section_poured : (b b' : Buf) → b' ≡ puts b (shape_at form k).names → pour b' (through_rows (writing form) (suc (section_at k).most) k (stage_from (sofar_at t p (counts_begun c)) (drop p t))) ≡ pour b (through_section (writing form) k (stage_from (sofar_at t p c) (drop p t)))
  unfolding named after_names stage_from begun sofar_at counts_begun rows_back
  section_poured b b' e =
      rw e (sym (ap (pour b) rows_named ∙ pour_from (through_rows (writing form) (suc (section_at k).most) k) (onward_rows (writing form) (suc (section_at k).most) k) b named))

-- the sections from section k on
module _ (form k : ℕ) (t : List ℕ) (p : ℕ) (c : Counts) where
  module _ (within : k < 9) (passes : Passes (through_sections (writing form) (9 - k) k (stage_from (sofar_at t p c) (drop p t)))) where
    next_section : through_sections (writing form) (9 - k) k (stage_from (sofar_at t p c) (drop p t)) ≡ and_then (through_section (writing form) k (stage_from (sofar_at t p c) (drop p t))) (through_sections (writing form) (9 - (k + 1)) (k + 1))
    unfolding through_sections
    next_section = let z : 9 - k ≡ suc (9 - (k + 1)) = omega arith in rw (z, add-one k)

    two_pass : Passes (and_then (through_section (writing form) k (stage_from (sofar_at t p c) (drop p t))) (through_sections (writing form) (9 - (k + 1)) (k + 1)))
    two_pass = (passes.0, sym next_section ∙ passes.1)

    pub sections_first : Passes (through_section (writing form) k (stage_from (sofar_at t p c) (drop p t)))
    sections_first = first_passes _ (through_sections (writing form) (9 - (k + 1)) (k + 1)) two_pass

    module _ (b : Buf) (r : Put) (to : Writer) (e : done (put_at r t to) ≡ pour b (through_section (writing form) k (stage_from (sofar_at t p c) (drop p t)))) where
      pub sections_pass : Passes (through_sections (writing form) (9 - (k + 1)) (k + 1) (stage_from (sofar_at t r.cells r.counts) (drop r.cells t)))
      unfolding put_at
      sections_pass = passes_on (through_sections (writing form) (9 - (k + 1)) (k + 1)) (onward_sections (writing form) (9 - (k + 1)) (k + 1)) (put_at r t to) b _ e two_pass

      pub sections_again : pour (buf to) (through_sections (writing form) (9 - (k + 1)) (k + 1) (stage_from (sofar_at t r.cells r.counts) (drop r.cells t))) ≡ pour b (through_sections (writing form) (9 - k) k (stage_from (sofar_at t p c) (drop p t)))
      unfolding put_at
      sections_again = pour_on (through_sections (writing form) (9 - (k + 1)) (k + 1)) (onward_sections (writing form) (9 - (k + 1)) (k + 1)) (put_at r t to) b _ e ∙ ap (pour b) (sym next_section)

  -- after the last one nothing is left
  pub sections_end : 9 ≤ k → Passes (through_sections (writing form) (9 - k) k (stage_from (sofar_at t p c) (drop p t))) → (to : Writer)
      → done (put_at (record { cells = p; counts = c }) t to) ≡ pour (buf to) (through_sections (writing form) (9 - k) k (stage_from (sofar_at t p c) (drop p t)))
  unfolding through_sections
  sections_end h passes to =
      let z : 9 - k ≡ 0 = omega arith in
      let e : through_sections (writing form) 0 k (stage_from (sofar_at t p c) (drop p t)) ≡ done passes.0 = ap (λ (j : ℕ). through_sections (writing form) j k (stage_from (sofar_at t p c) (drop p t))) (sym z) ∙ passes.1 in
      let q = passed (not (is_empty (stage_from (sofar_at t p c) (drop p t)).rest)) 2 (done (stage_from (sofar_at t p c) (drop p t))) passes.0 e in
      pour_here (record { cells = p; counts = c }) t to ∙ ap (pour (buf to)) (q.1 ∙ sym passes.1)

-- what was poured of a stage is what it made
pub made_poured : (r : Put) (t : List ℕ) (b : Buf) (to : Writer) (g : Stage) → done (put_at r t to) ≡ pour b (done g) → buf to ≡ puts b g.made
unfolding put_at pour poured
made_poured r t b to g e = ap (λ (x : Poured). x.buffer) (done_same (put_at r t to) (poured b g) e)

-- before any row
sofar_none : (t : List ℕ) → sofar_at t 1 no_counts ≡ nothing
unfolding sofar_at nothing letters_at pairs_at rows_at rows_back
sofar_none t = refl

pub sections_start : (form : ℕ) (t : List ℕ) → through_sections (writing form) 9 0 (stage_from (sofar_at t 1 no_counts) (drop 1 t)) ≡ through_sections (writing form) 9 0 (stage_from nothing (drop 1 t))
sections_start form t = rw (sofar_none t)

-- the whole table: its sections pass, and what they pour is the text
module _ (t : List ℕ) (graph : table_refusal t ≡ 0) where
  whole_passes : Passes (whole (writing (form_in t)) [] (drop 1 t))
  unfolding table_refusal
  whole_passes = let g = not_refused (tested t) (tested_proper t) graph in let w = tests_pass t g.0 g.1 in (w.0, w.1)

  pub graph_passes : Passes (through_sections (writing (form_in t)) 9 0 (stage_from nothing (drop 1 t)))
  unfolding stage_from
  graph_passes = (whole_passes.0, (whole_split (writing (form_in t)) [] (drop 1 t) whole_passes.0 whole_passes.1).0)

  pub text_written : write_text t ≡ done (text_in t)
  unfolding text_in made_in write_text made_of and_then table_refusal
  text_written =
      let g = not_refused (tested t) (tested_proper t) graph in
      let w = tests_pass t g.0 g.1 in
      let e : write_text t ≡ done w.0.made = rw (w.2, write_text, w.1) in
      e ∙ ap done (sym (ap made_in e))

  pub text_made : text_in t ≡ graph_passes.0.made
  unfolding text_in made_in write_text made_of and_then table_refusal whole_passes graph_passes
  text_made =
      let g = not_refused (tested t) (tested_proper t) graph in
      let w = tests_pass t g.0 g.1 in
      let e : write_text t ≡ done w.0.made = rw (w.2, write_text, w.1) in
      ap made_in e
