-- The writer's way makes a text of what the test goes through, and is refused where the test is:
-- forget the text, and the two ways are one. Assumes nothing.
use Prim.Native.Nat.{ℕ, zero, suc}
use mathlib.Core.Path.{◌≡◌, refl, sym, ap, ◌∙◌}
use mathlib.Core.Bool.{Bool, true, false, not}
use mathlib.Core.List.{List, []}
use lib.Dec.{ltb}
use lib.ListN.{length, drop}
use Rattle.text_field.specs.Outcome.{Outcome, refused, done, and_then, refuse_if}
use Rattle.text_field.proofs.OutcomeLaws.{not_done, went}
use Rattle.graph_rows.specs.Format.{section_at, shape_at}
use Rattle.graph_rows.specs.Admission.{row_of, blank, admission}
use Rattle.graph_rows.specs.Order.{order_fault}
use Rattle.graph_rows.specs.Values.{formed}
use Rattle.graph_rows.specs.Way.{Stage, if_admitted, after_row, one_row, through_rows, after_names, enough, through_section, is_empty, through_sections, ordered, at_start, whole, starts_with}
use Rattle.graph_rows.specs.Tested.{test_row, test_names, testing, has_form, form_in, tested, refusal_in, table_refusal}
use Rattle.graph_file.specs.File.{made_of, write_names, write_row, writing, write_text}
use Rattle.graph_rows.proofs.WayLaws.{rows_on, rows_off}

-- a stage without what it made
unfoldable pub bare : Stage → Stage
bare g = record { sofar = g.sofar; made = []; rest = g.rest }

unfoldable pub bared : Outcome Stage → Outcome Stage
bared o = and_then o (λ g. done (bare g))

-- the second step, on the bare stage, does what the first does
abbrev Alike : (Stage → Outcome Stage) → (Stage → Outcome Stage) → Type 0
Alike f h = (g : Stage) → h (bare g) ≡ bared (f g)

alike_then : (f f' h h' : Stage → Outcome Stage) → Alike f f' → Alike h h' → Alike (λ g. and_then (f g) h) (λ g. and_then (f' g) h')
unfolding bared and_then
alike_then f f' h h' p q g = ap (λ (o : Outcome Stage). and_then o h') (p g) ∙ inner (f g)
  where
    inner : (o : Outcome Stage) → and_then (bared o) h' ≡ bared (and_then o h)
    inner (refused n) = refl
    inner (done x) = q x

admit_alike : (a : ℕ) (g h : Stage) → bare g ≡ h → if_admitted a (done h) ≡ bared (if_admitted a (done g))
unfolding if_admitted bared and_then
admit_alike zero g h e = ap done (sym e)
admit_alike (suc a) g h e = refl

refuse_alike : (b : Bool) (n : ℕ) (g : Stage) → refuse_if b n (done (bare g)) ≡ bared (refuse_if b n (done g))
unfolding refuse_if bared and_then
refuse_alike true n g = refl
refuse_alike false n g = refl

module _ (form : ℕ) where
  row_alike : (k : ℕ) → Alike (one_row (writing form) k) (one_row (testing form) k)
  unfolding one_row writing testing write_row test_row and_then refuse_if bare after_row bared
  row_alike k g = by (ltb (length g.rest) 6) (formed (shape_at form k).row (row_of g.rest)) refl refl
    where
      by : (a b : Bool) → ltb (length g.rest) 6 ≡ a → formed (shape_at form k).row (row_of g.rest) ≡ b → one_row (testing form) k (bare g) ≡ bared (one_row (writing form) k g)
      by true b d e = rw d
      by false false d e = rw (d, e)
      by false true d e = rw (d, e) (admit_alike (admission form k g.sofar (row_of g.rest)) _ _ refl)

  rows_alike : (turns k : ℕ) → Alike (through_rows (writing form) turns k) (through_rows (testing form) turns k)
  unfolding through_rows bared and_then bare writing testing
  rows_alike zero k g = refl
  rows_alike (suc turns) k g = by (starts_with k g.rest) refl (rows_alike turns k)
    where
      by : (t : Bool) → starts_with k g.rest ≡ t → Alike (through_rows (writing form) turns k) (through_rows (testing form) turns k)
          → through_rows (testing form) (suc turns) k (bare g) ≡ bared (through_rows (writing form) (suc turns) k g)
      by true e ih =
          rows_on (testing form) turns k (bare g) e
          ∙ alike_then (one_row (writing form) k) (one_row (testing form) k) (through_rows (writing form) turns k) (through_rows (testing form) turns k) (row_alike k) ih g
          ∙ ap bared (sym (rows_on (writing form) turns k g e))
      by false e ih = rows_off (testing form) turns k (bare g) e ∙ ap bared (sym (rows_off (writing form) turns k g e))

  enough_alike : (k : ℕ) → Alike (enough k) (enough k)
  unfolding enough bare
  enough_alike k g = refuse_alike (ltb g.sofar.rows (section_at k).least) 2 g

  section_alike : (k : ℕ) → Alike (through_section (writing form) k) (through_section (testing form) k)
  unfolding through_section writing testing write_names test_names and_then after_names bare
  section_alike k g =
      alike_then (through_rows (writing form) (suc (section_at k).most) k) (through_rows (testing form) (suc (section_at k).most) k) (enough k) (enough k)
      (rows_alike (suc (section_at k).most) k) (enough_alike k)
      (after_names g (record { row = blank; made = (shape_at form k).names; rest = g.rest }))

  sections_alike : (left k : ℕ) → Alike (through_sections (writing form) left k) (through_sections (testing form) left k)
  unfolding through_sections bare
  sections_alike zero k g = refuse_alike (not (is_empty g.rest)) 2 g
  sections_alike (suc left) k g =
      alike_then (through_section (writing form) k) (through_section (testing form) k) (through_sections (writing form) left (suc k)) (through_sections (testing form) left (suc k))
      (section_alike k) (sections_alike left (suc k)) g

  ordered_alike : Alike ordered ordered
  unfolding ordered bare
  ordered_alike g = refuse_alike (order_fault g.sofar.pairs) 6 g

  pub whole_alike : (cells : List ℕ) → whole (testing form) [] cells ≡ bared (whole (writing form) [] cells)
  unfolding whole at_start bare
  whole_alike cells =
      alike_then (through_sections (writing form) 9 0) (through_sections (testing form) 9 0) ordered ordered (sections_alike 9 0) ordered_alike (at_start [] cells)

-- the text that was made, or the refusal, of what was tested
refused_alike : (o : Outcome Stage) → refusal_in (made_of o) ≡ refusal_in (bared o)
unfolding made_of bared and_then refusal_in
refused_alike (refused n) = refl
refused_alike (done g) = refl

pub same_refusal : (cells : List ℕ) → refusal_in (write_text cells) ≡ table_refusal cells
unfolding write_text table_refusal tested refuse_if
same_refusal cells = by (has_form cells) refl
  where
    by : (t : Bool) → has_form cells ≡ t → refusal_in (write_text cells) ≡ refusal_in (tested cells)
    by true e = rw (e, write_text, whole_alike (form_in cells) (drop 1 cells)) (refused_alike (whole (writing (form_in cells)) [] (drop 1 cells)))
    by false e = unfold refusal_in in rw (e, write_text)

-- What was tested to its end is written, and the other way round.
bared_done : (o : Outcome Stage) (g : Stage) → bared o ≡ done g → (h : Stage) × (o ≡ done h)
unfolding bared and_then
bared_done (refused n) g e = absurd (not_done n g e)
bared_done (done h) g e = (h, refl)

pub tests_pass : (cells : List ℕ) (g : Stage) → tested cells ≡ done g → (h : Stage) × (whole (writing (form_in cells)) [] (drop 1 cells) ≡ done h) × (has_form cells ≡ true)
unfolding tested refuse_if
tests_pass cells g e = by (has_form cells) refl
  where
    by : (t : Bool) → has_form cells ≡ t → (h : Stage) × (whole (writing (form_in cells)) [] (drop 1 cells) ≡ done h) × (has_form cells ≡ true)
    by true t =
        let r = bared_done (whole (writing (form_in cells)) [] (drop 1 cells)) g (sym (whole_alike (form_in cells) (drop 1 cells)) ∙ (rw t at e)) in
        (r.0, r.1, t)
    by false t = absurd (not_done 2 g (rw t at e))

pub tests_written : (cells : List ℕ) (g : Stage) → tested cells ≡ done g → (text : List ℕ) × (write_text cells ≡ done text)
unfolding write_text made_of and_then
tests_written cells g e = let r = tests_pass cells g e in (r.0.made, rw (r.2, write_text, r.1))

formed_text : (cells : List ℕ) → has_form cells ≡ true → write_text cells ≡ and_then (whole (writing (form_in cells)) [] (drop 1 cells)) (λ g. done g.made)
unfolding write_text made_of
formed_text cells h = rw (h, write_text)

formless_text : (cells : List ℕ) → has_form cells ≡ false → write_text cells ≡ refused 2
unfolding write_text
formless_text cells h = rw (h, write_text)

formed_test : (cells : List ℕ) → has_form cells ≡ true → tested cells ≡ whole (testing (form_in cells)) [] (drop 1 cells)
unfolding tested refuse_if
formed_test cells h = rw h

pub written_tests : (cells text : List ℕ) → write_text cells ≡ done text → (g : Stage) × (tested cells ≡ done g)
unfolding bared and_then
written_tests cells text e = by (has_form cells) refl
  where
    by : (t : Bool) → has_form cells ≡ t → (g : Stage) × (tested cells ≡ done g)
    by true t =
        let m = went (whole (writing (form_in cells)) [] (drop 1 cells)) (λ g. done g.made) text (sym (formed_text cells t) ∙ e) in
        (bare m.gained, formed_test cells t ∙ whole_alike (form_in cells) (drop 1 cells) ∙ ap bared m.before)
    by false t = absurd (not_done 2 text (sym (formless_text cells t) ∙ e))
