-- Laws of testing a table row by row and section by section (specs/Tested). Assumes nothing.
use Prim.Native.Nat.{ℕ, zero, suc, ◌+◌, ◌-◌, ◌≤◌, ◌<◌}
use mathlib.Core.Path.{◌≡◌, refl, sym, ap, ◌∙◌}
use mathlib.Core.List.{List, [], ◌∷◌}
use mathlib.Core.Bool.{Bool, true, false}
use native.Mathlib.Omega.{arith}
use native.Mathlib.Numerals.{add-one}
use lib.Dec.{eqb, leb}
use lib.ListN.{length, get_or, drop, length-drop, drop_of_length-le}
use lib.Seq.{drop-drop, drop-cons, get_or-drop}
use borrow.Author.Tests.{lt-ltb, le-ltb}
use Rattle.std.specs.declared.result.Result.TheVariants.{Ok}
use Rattle.text_field.specs.Outcome.{Outcome, refused, done, and_then, refuse_if}
use Rattle.graph_rows.specs.declared.rows.Counts.{Counts}
use Rattle.graph_rows.specs.declared.tested.Tested.{Tested}
use Rattle.graph_rows.specs.Format.{section_at, shape_at}
use Rattle.graph_rows.specs.Admission.{value, row_of, nothing, begun, taken, admission}
use Rattle.graph_rows.specs.LookBack.{SortedSofar}
use Rattle.graph_rows.specs.Order.{order_fault}
use Rattle.graph_rows.specs.Values.{formed}
use Rattle.graph_rows.specs.Way.{Piece, Stage, if_admitted, after_row, one_row, through_rows, after_names, enough, through_section, through_sections, at_start, ordered, whole, starts_with}
use Rattle.graph_rows.specs.Tested.{test_row, test_names, testing, has_form, form_in, tested, refusal_in, table_refusal, stage_from, test_outcome}
use Rattle.graph_rows.specs.Table.{rows_at, letters_at, pairs_at, rows_back, sofar_at}
use Rattle.graph_rows.specs.Counting.{Placed, counts_after, counts_begun}
use Rattle.graph_rows.proofs.DecodeWay.{row_split, refuse_if_done}
use Rattle.graph_rows.proofs.DecodeRows.{passed}
use Rattle.graph_rows.proofs.TakenLaws.{no_counts, sofar_taken}
use Rattle.graph_rows.proofs.CountLaws.{admitted_room}
use Rattle.graph_rows.proofs.LookBackLaws.{sorted_on}
use Rattle.graph_rows.proofs.WayLaws.{rows_off, rows_refused, rows_next, rows_turn, sections_refused, sections_next, sections_more, sections_over, sections_left}
use Rattle.graph_rows.proofs.ProperLaws.{not_refused, row_proper_tested}

-- whether a row comes next
pub no_cells : (k p : ℕ) (t : List ℕ) → length t ≤ p → false ≡ starts_with k (drop p t)
unfolding starts_with
no_cells k p t h = sym (rw (drop_of_length-le t {i = p} h))

pub next_cell_lem : (k p : ℕ) (t : List ℕ) → p < length t → eqb (get_or t p 0) k ≡ starts_with k (drop p t)
unfolding starts_with
next_cell_lem k p t h = sym (rw (drop-cons t p 0 h))

-- whether the table has a form
pub no_form : (t : List ℕ) → length t ≡ 0 → false ≡ has_form t
unfolding has_form
no_form [] e = refl
no_form (x ∷ t) e = absurd (omega arith)

pub form_cell : (t : List ℕ) → (length t ≡ 0 → ⊥) → leb (get_or t 0 0) 2 ≡ has_form t
unfolding has_form
form_cell [] n = absurd (n refl)
form_cell (x ∷ t) n = refl

-- what is not 0 is the refusal
pub refused_by_lem : {A : Type 0} (o : Outcome A) (n : ℕ) → n ≡ refusal_in o → (n ≡ 0 → ⊥) → o ≡ refused n
unfolding refusal_in
refused_by_lem (refused m) n e z = ap refused (sym e)
refused_by_lem (done a) n e z = absurd (z e)

-- one row: too few cells, values that no line has, and the rest of the tests
module _ (form k : ℕ) (t : List ℕ) (p : ℕ) (c : Counts) where
  pub row_short : length t < p + 6 → 2 ≡ refusal_in (one_row (testing form) k (stage_from (sofar_at t p c) (drop p t)))
  unfolding one_row testing test_row stage_from refuse_if and_then refusal_in
  row_short h = let e : length (drop p t) ≡ length t - p = length-drop p t in sym (rw (lt-ltb (length (drop p t)) 6 (omega arith)))

  module _ (long : p + 6 ≤ length t) where
    pub row_unformed : formed (shape_at form k).row (row_of (drop p t)) ≡ false → 2 ≡ refusal_in (one_row (testing form) k (stage_from (sofar_at t p c) (drop p t)))
    unfolding one_row testing test_row stage_from refuse_if and_then refusal_in
    row_unformed f = let e : length (drop p t) ≡ length t - p = length-drop p t in sym (rw (le-ltb (length (drop p t)) 6 (omega arith), f))

    pub row_formed : formed (shape_at form k).row (row_of (drop p t)) ≡ true → admission form k (sofar_at t p c) (row_of (drop p t)) ≡ refusal_in (one_row (testing form) k (stage_from (sofar_at t p c) (drop p t)))
    unfolding one_row testing test_row stage_from refuse_if and_then
    row_formed f =
        let e : length (drop p t) ≡ length t - p = length-drop p t in
        sym (rw (le-ltb (length (drop p t)) 6 (omega arith), f) (admits (admission form k (sofar_at t p c) (row_of (drop p t))) _))
      where
        admits : (a : ℕ) (g : Stage) → refusal_in (if_admitted a (done g)) ≡ a
        admits zero g = unfold if_admitted in unfold refusal_in in refl
        admits (suc a) g = unfold if_admitted in unfold refusal_in in refl

-- a row that is not refused: the stage after it, its room, and the rows so far still ascend
module _ (form k : ℕ) (t : List ℕ) (p : ℕ) (c : Counts) (z : 0 ≡ refusal_in (one_row (testing form) k (stage_from (sofar_at t p c) (drop p t)))) where
  came : (g : Stage) × (one_row (testing form) k (stage_from (sofar_at t p c) (drop p t)) ≡ done g)
  came = not_refused (one_row (testing form) k (stage_from (sofar_at t p c) (drop p t))) (row_proper_tested form k _) (sym z)

  -- the piece is the row's
  row_piece : (s : List ℕ) (q : Piece) → test_row form k (sofar_at t p c).letters s ≡ done q → record { row = row_of s; made = []; rest = drop 6 s } ≡ q
  unfolding test_row
  row_piece s q e = let a = refuse_if_done _ 2 _ e in let b = refuse_if_done _ 2 _ a.1 in cc

  allowed : admission form k (sofar_at t p c) (row_of (drop p t)) ≡ 0
  unfolding testing stage_from
  allowed =
      let r = row_split (testing form) k (stage_from (sofar_at t p c) (drop p t)) came.0 came.1 in
      ap (λ (q : Piece). admission form k (sofar_at t p c) q.row) (row_piece (drop p t) r.0 r.1) ∙ r.2

  pub row_room : c.rows < (section_at k).most
  unfolding sofar_at
  row_room = admitted_room form k (sofar_at t p c) (row_of (drop p t)) allowed

  pub row_taken : Placed k p c → (v : ℕ) → v ≡ get_or t (p + 1) 0 → one_row (testing form) k (stage_from (sofar_at t p c) (drop p t)) ≡ done (stage_from (sofar_at t (p + 6) (counts_after k c v)) (drop (p + 6) t))
  unfolding testing stage_from after_row
  row_taken d v e =
      let r = row_split (testing form) k (stage_from (sofar_at t p c) (drop p t)) came.0 came.1 in
      let first : value (row_of (drop p t)) 0 ≡ v = unfold row_of in get_or-drop p t 1 0 ∙ sym e in
      came.1 ∙ ap done (sym r.3 ∙ ap (after_row k (stage_from (sofar_at t p c) (drop p t))) (sym (row_piece (drop p t) r.0 r.1)) ∙ (λ i. record { sofar = sym (sofar_taken k p t c d) i; made = []; rest = drop-drop 6 p t i }) ∙ rw first)

  pub row_sorted : Placed k p c → (v : ℕ) → SortedSofar k (rows_back c.rows p t) → SortedSofar k (rows_back (counts_after k c v).rows (p + 6) t)
  unfolding sofar_at counts_after taken rows_back
  row_sorted d v s =
      let own : p + 6 - 6 ≡ p = omega arith in
      rw (add-one c.rows, own) (sorted_on k (sofar_at t p c) (row_of (drop p t)) (passed form k (sofar_at t p c) (row_of (drop p t)) allowed).follow s)

-- the rows of a section: refused at a row, a row taken, no row left
module _ (form k m : ℕ) (t : List ℕ) (d : Counts) (few : d.rows ≤ (section_at k).most) where
  pub rows_turned : through_rows (testing form) (suc (section_at k).most - d.rows) k (stage_from (sofar_at t m d) (drop m t)) ≡ through_rows (testing form) (suc ((section_at k).most - d.rows)) k (stage_from (sofar_at t m d) (drop m t))
  rows_turned = rows_turn (testing form) k (section_at k).most d.rows (stage_from (sofar_at t m d) (drop m t)) few

  module _ (follows : starts_with k (drop m t) ≡ true) (n : ℕ) (e : n ≡ refusal_in (one_row (testing form) k (stage_from (sofar_at t m d) (drop m t)))) where
    pub rows_end : (n ≡ 0 → ⊥) → refused n ≡ through_rows (testing form) (suc (section_at k).most - d.rows) k (stage_from (sofar_at t m d) (drop m t))
    unfolding testing stage_from
    rows_end z =
        sym (rows_turned ∙ rows_refused (testing form) k ((section_at k).most - d.rows) (stage_from (sofar_at t m d) (drop m t)) n follows (refused_by_lem _ n e z))

    pub rows_again : n ≡ 0 → Placed k m d → (v : ℕ) → v ≡ get_or t (m + 1) 0
        → through_rows (testing form) (suc (section_at k).most - (counts_after k d v).rows) k (stage_from (sofar_at t (m + 6) (counts_after k d v)) (drop (m + 6) t))
        ≡ through_rows (testing form) (suc (section_at k).most - d.rows) k (stage_from (sofar_at t m d) (drop m t))
    unfolding testing stage_from counts_after
    rows_again z p v f =
        let left : suc (section_at k).most - (d.rows + 1) ≡ (section_at k).most - d.rows = omega arith in
        rw left (sym (rows_turned ∙ rows_next (testing form) k ((section_at k).most - d.rows) (stage_from (sofar_at t m d) (drop m t)) _ follows (row_taken form k t m d (sym z ∙ e) p v f)))

  pub rows_stop : starts_with k (drop m t) ≡ false → done (stage_from (sofar_at t m d) (drop m t)) ≡ through_rows (testing form) (suc (section_at k).most - d.rows) k (stage_from (sofar_at t m d) (drop m t))
  unfolding testing stage_from
  rows_stop h = sym (rows_turned ∙ rows_off (testing form) ((section_at k).most - d.rows) k (stage_from (sofar_at t m d) (drop m t)) h)

pub rows_start : (form k : ℕ) (g : Stage) (c : Counts) → c.rows ≡ 0 → through_rows (testing form) (suc (section_at k).most - c.rows) k g ≡ through_rows (testing form) (suc (section_at k).most) k g
rows_start form k g c z = let e : suc (section_at k).most - c.rows ≡ suc (section_at k).most = omega arith in rw e

-- a section: refused at a row, too few rows, enough
module _ (form k : ℕ) (t : List ℕ) (p : ℕ) (c : Counts) where
  section_is : {o : Outcome Stage} → o ≡ through_rows (testing form) (suc (section_at k).most) k (stage_from (sofar_at t p (counts_begun c)) (drop p t)) → through_section (testing form) k (stage_from (sofar_at t p c) (drop p t)) ≡ and_then o (enough k)
  unfolding through_section testing test_names and_then after_names stage_from sofar_at begun counts_begun rows_back
  section_is e = ap (λ (o : Outcome Stage). and_then o (enough k)) (sym e)

  pub section_refused : (n : ℕ) → refused n ≡ through_rows (testing form) (suc (section_at k).most) k (stage_from (sofar_at t p (counts_begun c)) (drop p t)) → refused n ≡ through_section (testing form) k (stage_from (sofar_at t p c) (drop p t))
  unfolding and_then
  section_refused n e = sym (section_is e)

  module _ (r : Tested) (e : test_outcome (Ok r) t ≡ through_rows (testing form) (suc (section_at k).most) k (stage_from (sofar_at t p (counts_begun c)) (drop p t))) where
    pub section_few : r.counts.rows < (section_at k).least → refused 2 ≡ through_section (testing form) k (stage_from (sofar_at t p c) (drop p t))
    unfolding test_outcome and_then enough refuse_if stage_from sofar_at
    section_few h = sym (section_is e ∙ rw (lt-ltb r.counts.rows (section_at k).least h))

    pub section_enough : (section_at k).least ≤ r.counts.rows → test_outcome (Ok r) t ≡ through_section (testing form) k (stage_from (sofar_at t p c) (drop p t))
    unfolding test_outcome and_then enough refuse_if stage_from sofar_at
    section_enough h = sym (section_is e ∙ rw (le-ltb r.counts.rows (section_at k).least h))

-- the sections from section k on
module _ (form k : ℕ) (t : List ℕ) (p : ℕ) (c : Counts) where
  module _ (within : k < 9) where
    pub sections_end : (n : ℕ) → refused n ≡ through_section (testing form) k (stage_from (sofar_at t p c) (drop p t)) → refused n ≡ through_sections (testing form) (9 - k) k (stage_from (sofar_at t p c) (drop p t))
    sections_end n e = sym (sections_more (testing form) k _ within ∙ sections_refused (testing form) k (9 - (k + 1)) _ n (sym e))

    pub sections_again : (r : Tested) → test_outcome (Ok r) t ≡ through_section (testing form) k (stage_from (sofar_at t p c) (drop p t)) → through_sections (testing form) (9 - (k + 1)) (k + 1) (stage_from (sofar_at t r.cells r.counts) (drop r.cells t)) ≡ through_sections (testing form) (9 - k) k (stage_from (sofar_at t p c) (drop p t))
    unfolding test_outcome
    sections_again r e = sections_next (testing form) k (9 - (k + 1)) _ _ (sym e) ∙ sym (sections_more (testing form) k _ within)

  -- after the last one something is left, or nothing
  pub sections_rest : 9 ≤ k → p < length t → refused 2 ≡ through_sections (testing form) (9 - k) k (stage_from (sofar_at t p c) (drop p t))
  unfolding stage_from
  sections_rest h l = sym (sections_left (testing form) k (stage_from (sofar_at t p c) (drop p t)) h (get_or t p 0) (drop (suc p) t) (drop-cons t p 0 l))

  pub sections_done : 9 ≤ k → length t ≤ p → done (stage_from (sofar_at t p c) (drop p t)) ≡ through_sections (testing form) (9 - k) k (stage_from (sofar_at t p c) (drop p t))
  unfolding stage_from
  sections_done h l = sym (sections_over (testing form) k (stage_from (sofar_at t p c) (drop p t)) h (drop_of_length-le t {i = p} l))

-- before any row
sofar_none : (t : List ℕ) → sofar_at t 1 no_counts ≡ nothing
unfolding sofar_at nothing letters_at pairs_at rows_at rows_back
sofar_none t = refl

pub sections_start : (form : ℕ) (t : List ℕ) → through_sections (testing form) 9 0 (stage_from (sofar_at t 1 no_counts) (drop 1 t)) ≡ through_sections (testing form) 9 0 (stage_from nothing (drop 1 t))
sections_start form t = rw (sofar_none t)

-- the whole table: without a form, refused in a section, by its order, or not
pub table_unformed : (t : List ℕ) → has_form t ≡ false → 2 ≡ table_refusal t
unfolding table_refusal tested refuse_if refusal_in
table_unformed t h = sym (rw h)

module _ (t : List ℕ) (known : has_form t ≡ true) where
  table_is : {o : Outcome Stage} → o ≡ through_sections (testing (form_in t)) 9 0 (stage_from nothing (drop 1 t)) → tested t ≡ and_then o ordered
  unfolding tested refuse_if whole at_start stage_from
  table_is e = rw (known, e)

  pub table_refused : (n : ℕ) → refused n ≡ through_sections (testing (form_in t)) 9 0 (stage_from nothing (drop 1 t)) → n ≡ table_refusal t
  unfolding table_refusal and_then refusal_in
  table_refused n e = sym (rw (table_is e))

  module _ (r : Tested) (e : test_outcome (Ok r) t ≡ through_sections (testing (form_in t)) 9 0 (stage_from nothing (drop 1 t))) where
    table_ordered : (b : Bool) → order_fault (pairs_at r.counts.labels r.counts.pairs t) ≡ b → tested t ≡ refuse_if b 6 (done (stage_from (sofar_at t r.cells r.counts) (drop r.cells t)))
    unfolding test_outcome and_then ordered stage_from sofar_at
    table_ordered b f = table_is e ∙ rw f

    pub table_fault : order_fault (pairs_at r.counts.labels r.counts.pairs t) ≡ true → 6 ≡ table_refusal t
    unfolding table_refusal refuse_if refusal_in
    table_fault f = sym (rw (table_ordered true f))

    pub table_passes : order_fault (pairs_at r.counts.labels r.counts.pairs t) ≡ false → 0 ≡ table_refusal t
    unfolding table_refusal refuse_if refusal_in
    table_passes f = sym (rw (table_ordered false f))
