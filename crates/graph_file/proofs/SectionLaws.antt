-- Laws of reading a section, and the sections one after the other. Assumes nothing.
use Prim.Native.Nat.{ℕ, min, suc, ◌+◌, ◌-◌, ◌≤◌, ◌<◌}
use mathlib.Core.Path.{◌≡◌, refl, sym, ap, subst, ◌∙◌}
use mathlib.Core.List.{List, [], ◌∷◌, map, append-nil}
use mathlib.Core.Bool.{Bool, true, false}
use native.Mathlib.Omega.{arith}
use native.Mathlib.Numerals.{add-one}
use borrow.Author.Tests.{lt-ltb, le-ltb, leb-true, leb-false}
use lib.Dec.{leb}
use lib.ListN.{length, take, drop, set, length-drop, drop_of_length-le}
use lib.Seq.{take_all, drop-length}
use Rattle.std.specs.declared.option.Option.{Option}
use Rattle.std.specs.declared.option.Option.TheVariants.{Some, None}
use Rattle.graph_file.specs.declared.line.Line.{Line}
use Rattle.graph_rows.specs.declared.rows.Counts.{Counts}
use Rattle.graph_file.specs.declared.reader.Part.{Part}
use Rattle.graph_rows.specs.Format.{Item, byte, old_form, section_at, shape_at}
use Rattle.text_field.specs.Outcome.{Outcome, refused, done, and_then, refuse_if}
use Rattle.graph_rows.specs.Admission.{blank, nothing, begun}
use Rattle.graph_file.specs.Line.{read_items}
use Rattle.graph_rows.specs.Way.{Way, Stage, through_rows, after_names, enough, through_section, through_sections, through_some, at_start, ordered, whole}
use Rattle.graph_file.specs.File.{read_names, reading, form_of, read_stage}
use Rattle.graph_rows.specs.Order.{order_fault}
use Rattle.graph_rows.specs.Table.{items_at, names_place, rows_at, letters_at, pairs_at, rows_back, sofar_at}
use Rattle.graph_file.specs.Reader.{line_outcome, stage_at, SomeTaken}
use Rattle.graph_rows.proofs.FormatLaws.{names_items}
use Rattle.graph_rows.specs.Counting.{counts_begun}
use Rattle.graph_rows.proofs.WayLaws.{at}

module _ (form k n : ℕ) (t text : List ℕ) (at : ℕ) (c : Counts) (o : Option Line) (e : line_outcome o text ≡ read_items (letters_at 0 (drop 1 t)) (items_at (names_place form k)) blank (drop at text)) where
  named : read_items [] (map byte (shape_at form k).names) blank (drop at text) ≡ line_outcome o text
  unfolding letters_at rows_at
  named = sym (e ∙ ap (λ (i : List Item). read_items [] i blank (drop at text)) (names_items form k))

  -- another names line, or none
  pub names_refused : o ≡ None → refused 2 ≡ through_section (reading form) k (stage_at t n c (drop at text))
  unfolding through_section reading read_names stage_at and_then line_outcome
  names_refused p = sym (rw (named, p))

  -- the names line stands there
  module _ (l : Line) (p : o ≡ Some l) where
    pub names_read : through_section (reading form) k (stage_at t n c (drop at text)) ≡ and_then (through_rows (reading form) (suc (section_at k).most) k (stage_at t n (counts_begun c) (drop l.next text))) (enough k)
    unfolding through_section reading read_names stage_at and_then after_names begun sofar_at rows_back counts_begun line_outcome
    names_read = rw (named, p, append-nil (take n t))

    -- a row is refused
    pub section_refused : (m : ℕ) → refused m ≡ through_rows (reading form) (suc (section_at k).most) k (stage_at t n (counts_begun c) (drop l.next text)) → refused m ≡ through_section (reading form) k (stage_at t n c (drop at text))
    unfolding and_then
    section_refused m h = sym (names_read ∙ rw (← h))

    module _ (r : Part) (u : List ℕ) (h : done (stage_at u r.cells r.counts (drop r.next text)) ≡ through_rows (reading form) (suc (section_at k).most) k (stage_at t n (counts_begun c) (drop l.next text))) where
      section_end : through_section (reading form) k (stage_at t n c (drop at text)) ≡ enough k (stage_at u r.cells r.counts (drop r.next text))
      unfolding and_then
      section_end = names_read ∙ rw (← h)

      -- too few rows
      pub section_few : r.counts.rows < (section_at k).least → refused 2 ≡ through_section (reading form) k (stage_at t n c (drop at text))
      unfolding enough refuse_if stage_at sofar_at
      section_few f = sym (section_end ∙ rw (lt-ltb r.counts.rows (section_at k).least f))

      -- the section is taken
      pub section_done : (section_at k).least ≤ r.counts.rows → done (stage_at u r.cells r.counts (drop r.next text)) ≡ through_section (reading form) k (stage_at t n c (drop at text))
      unfolding enough refuse_if stage_at sofar_at
      section_done f = sym (section_end ∙ rw (le-ltb r.counts.rows (section_at k).least f))

-- some sections one after the other, up to section `last`
module _ (w : Way) (k left : ℕ) (g : Stage) where
  pub some_refused : (n : ℕ) → through_section w k g ≡ refused n → through_some w (suc left) k g ≡ refused n
  unfolding through_some and_then
  some_refused n e = rw e

  pub some_next : (h : Stage) → through_section w k g ≡ done h → through_some w left (k + 1) h ≡ through_some w (suc left) k g
  unfolding through_some and_then
  some_next h e = sym (rw (e, add-one k))

pub some_more : (w : Way) (k last : ℕ) (g : Stage) → k < last → through_some w (last - k) k g ≡ through_some w (suc (last - (k + 1))) k g
some_more w k last g h = let e : last - k ≡ suc (last - (k + 1)) = omega arith in rw e

pub some_over : (w : Way) (k last : ℕ) (g : Stage) → last ≤ k → through_some w (last - k) k g ≡ done g
unfolding through_some
some_over w k last g h = let z : last - k ≡ 0 = omega arith in rw (z, through_some)

pub some_taken : (k last : ℕ) (text : List ℕ) (r : Part) → k ≡ last → SomeTaken k text r → SomeTaken last text r
some_taken k last text r e s = subst (λ (j : ℕ). SomeTaken j text r) e s

-- the empty table's stage
pub start_stage : (t text : List ℕ) → 0 < length t → stage_at (set t 0 0) 1 (record { labels = 0; pairs = 0; scopes = 0; rows = 0 }) text ≡ at_start (old_form ∷ []) text
unfolding stage_at at_start sofar_at nothing letters_at pairs_at rows_at rows_back
start_stage [] text h = absurd (omega arith)
start_stage (x ∷ t) text h = refl

-- the rest of the text from a place on
pub part_is : (s : List ℕ) (at : ℕ) → take (length s - at) (drop at s) ≡ drop at s
part_is s at = take_all (length s - at) (drop at s) (omega (arith, length-drop at s))

pub part_length : (s : List ℕ) (at : ℕ) → length (take (length s - at) (drop at s)) ≡ length s - at
part_length s at = rw (part_is s at) (length-drop at s)

-- a place past the end leaves as little as the end
pub clipped : (s : List ℕ) (at : ℕ) → drop (min at (length s)) s ≡ drop at s
clipped s at = by (leb at (length s)) refl
  where
    by : (t : Bool) → leb at (length s) ≡ t → drop (min at (length s)) s ≡ drop at s
    by true t = let m : min at (length s) ≡ at = omega (arith, leb-true at (length s) t) in rw m
    by false t =
        let h : length s < at = leb-false at (length s) t in
        let m : min at (length s) ≡ length s = omega arith in
        rw (m, drop_of_length-le s {i = at} (omega arith)) (drop-length s)

-- the whole file: too long, refused in a section, refused for its order, taken
pub whole_long : (text : List ℕ) → 32768 < length text → refused 1 ≡ read_stage text
unfolding read_stage
whole_long text h = sym (rw (lt-ltb 32768 (length text) h, read_stage))

module _ (text : List ℕ) (short : length text ≤ 32768) where
  whole_is : (o : Outcome Stage) → o ≡ through_sections (reading (form_of text)) 9 0 (at_start (form_of text ∷ []) text) → read_stage text ≡ and_then o ordered
  unfolding read_stage whole
  whole_is o h = rw (le-ltb 32768 (length text) short, read_stage, h)

  pub whole_refused : (m : ℕ) → refused m ≡ through_sections (reading (form_of text)) 9 0 (at_start (form_of text ∷ []) text) → refused m ≡ read_stage text
  unfolding and_then
  whole_refused m h = sym (whole_is (refused m) h)

  module _ (u : List ℕ) (r : Part) (h : done (stage_at u r.cells r.counts (drop r.next text)) ≡ through_sections (reading (form_of text)) 9 0 (at_start (form_of text ∷ []) text)) where
    whole_ordered : (b : Bool) → order_fault (pairs_at r.counts.labels r.counts.pairs u) ≡ b → read_stage text ≡ refuse_if b 6 (done (stage_at u r.cells r.counts (drop r.next text)))
    unfolding and_then ordered stage_at sofar_at
    whole_ordered b e = whole_is (done (stage_at u r.cells r.counts (drop r.next text))) h ∙ rw e

    pub whole_fault : order_fault (pairs_at r.counts.labels r.counts.pairs u) ≡ true → refused 6 ≡ read_stage text
    unfolding refuse_if
    whole_fault e = sym (whole_ordered true e)

    pub whole_done : order_fault (pairs_at r.counts.labels r.counts.pairs u) ≡ false → done (stage_at u r.cells r.counts (drop r.next text)) ≡ read_stage text
    unfolding refuse_if
    whole_done e = sym (whole_ordered false e)
