-- One listing held against its query, and all of them in turn. Assumes nothing.
use Prim.Native.Nat.{ℕ, ◌+◌, ◌*◌, ◌≤◌, ◌<◌}
use mathlib.Core.Path.{◌≡◌, refl, sym, ap, ◌∙◌}
use mathlib.Core.Bool.{Bool, true, false, ◌&&◌}
use mathlib.Core.List.{List, [], ◌∷◌, flat_map}
use native.Mathlib.Numerals.{add-one}
use native.Mathlib.Omega.{arith}
use lib.Dec.{eqb}
use lib.ListN.{length, drop, length-append, drop_of_length-le}
use borrow.Author.Tests.{eq-eqb, eqb-true}
use Rattle.scope_graph.specs.Graph.{Query}
use Rattle.scope_graph.specs.Rows.{language}
use Rattle.scope_graph.specs.Computed.{entries}
use Rattle.text_field.specs.Number.{number_text}
use Rattle.text_field.specs.Outcome.{Outcome, refused, done, and_then}
use Rattle.text_field.proofs.ByteLaws.{both, clash}
use Rattle.text_field.proofs.OutcomeLaws.{done_same, not_done, Went, went}
use Rattle.graph_rows.specs.Decode.{rules_of, graph_of, queries_of}
use Rattle.board.specs.Queries.{query_at, Asked}
use Rattle.path_row.specs.Form.{PathRow, front_text, row_text, steps_text}
use Rattle.resolution.specs.Summary.{same_found}
use Rattle.resolution.specs.Listing.{found_for}
use Rattle.told.specs.Delivered.{Delivered, row_line, are_rows}
use Rattle.told.specs.Apart.{rows_in, told_from, told_of}
use Rattle.told.specs.Steps.{RowsSpan, is_done}
use Rattle.told.proofs.Apart.{rows_are}
use Rattle.told.proofs.ListingLaws.{queries_from}
use Rattle.scope_graph.specs.Own.{all_of}
use Rattle.accepting.specs.Tests.{none_twice, row_visible, may_await, is_right}
use Rattle.accepting.specs.Steps.{CountTold}
use Rattle.accepting.specs.Verdict.{all_right, wrong_at, first_wrong, accept_of}
use Rattle.accepting.proofs.CountLaws.{found_same, found_self}
use Rattle.accepting.proofs.Rules.{right_long}

and_no : (a : Bool) → (a && false) ≡ false
and_no true = refl
and_no false = refl

-- a row has two bytes at least, so rows are few
line_two : (r : PathRow) → 2 ≤ length (row_line r)
unfolding row_line row_text front_text
line_two r =
    let a = length-append (row_text r) (10 ∷ []) in
    let b = length-append (front_text r.mark r.start) (steps_text r.steps) in
    let c = length-append (number_text r.mark) (32 ∷ number_text r.start) in
    omega arith

lines_two : (rows : List PathRow) → 2 * length rows ≤ length (flat_map row_line rows)
unfolding flat_map
lines_two [] = omega arith
lines_two (r ∷ rows) =
    let k = lines_two rows in
    let l = line_two r in
    let a = length-append (row_line r) (flat_map row_line rows) in
    omega arith

module _ (s : List ℕ) (first count next : ℕ) (w : RowsSpan s first count next) where
  pub span_from : first ≤ next
  span_from = omega (arith, w.spans)

  pub span_few : next < 18446744073709551616 → count < 9223372036854775808
  span_few h = let k = lines_two (rows_in (drop first s)).0 in omega (arith, w.spans, w.counted)

-- the tests of a listing, one after the other
module _ (cells : List ℕ) (q : Query (language (rules_of cells))) (d : Delivered) where
  abbrev visible : Bool
  visible = all_of (row_visible cells q) d.rows

  abbrev different : Bool
  different = none_twice d.rows

  abbrev whole : Bool
  whole = eqb (length d.rows) (length (entries (language (rules_of cells)) (graph_of cells) q))

  abbrev word : Bool
  word = same_found (found_for cells q) d.found

  pub not_visible : visible ≡ false → false ≡ is_right cells q d
  unfolding is_right
  not_visible e = sym (rw e)

  pub not_different : different ≡ false → false ≡ is_right cells q d
  unfolding is_right
  not_different e = sym (ap (λ (b : Bool). visible && (b && (whole && (word && may_await cells q d.awaits)))) e ∙ and_no visible)

  module _ (count bytes : ℕ) (counted : count ≡ length d.rows) (r : Bool) (told : CountTold cells q d.found count bytes r) where
    pub all_but_awaits : r ≡ true → visible ≡ true → different ≡ true → (b : Bool) → b ≡ may_await cells q d.awaits → b ≡ is_right cells q d
    unfolding is_right
    all_but_awaits t v o b e =
        let y = told.yes t in
        let c : whole ≡ true = eq-eqb (length d.rows) (length (entries (language (rules_of cells)) (graph_of cells) q)) (sym counted ∙ y.0) in
        let w : word ≡ true = found_self (found_for cells q) d.found y.1 in
        e ∙ sym (ap (λ (x : Bool). x && (different && (whole && (word && may_await cells q d.awaits)))) v
        ∙ ap (λ (x : Bool). x && (whole && (word && may_await cells q d.awaits))) o
        ∙ ap (λ (x : Bool). x && (word && may_await cells q d.awaits)) c
        ∙ ap (λ (x : Bool). x && may_await cells q d.awaits) w)

    pub not_counted : Asked cells q → are_rows d.rows ≡ true → bytes ≡ length (flat_map row_line d.rows) → r ≡ false → false ≡ is_right cells q d
    unfolding is_right
    not_counted asked formed span f = by (is_right cells q d) refl
      where
        by : (t : Bool) → is_right cells q d ≡ t → false ≡ t
        by false e = refl
        by true e =
            let a = both visible _ e in
            let b = both different _ a.1 in
            let c = both whole _ b.1 in
            let w = both word _ c.1 in
            let long = right_long asked.read.0 cells asked.read.1 q asked.starts d formed e in
            let short = told.no f (counted ∙ eqb-true (length d.rows) (length (entries (language (rules_of cells)) (graph_of cells) q)) c.0) (found_same (found_for cells q) d.found w.0) in
            absurd (omega arith)

-- rows that were read are rows
pub rows_formed : (s : List ℕ) → are_rows (rows_in s).0 ≡ true
rows_formed s = (rows_are s).rows

-- the first wrong one, from query i on
module _ (cells lists : List ℕ) where
  abbrev Q : Type 0
  Q = Query (language (rules_of cells))

  pub record Left (i at : ℕ) : Type 0 where
    pub ds : List Delivered
    pub told : told_from cells (drop i (queries_of cells)) (drop at lists) ≡ done ds
    pub verdict : accept_of cells lists ≡ done (first_wrong cells i (drop i (queries_of cells)) ds)

  pub left_all : is_done (told_of cells lists) ≡ true → Left 0 0
  unfolding told_of accept_of and_then is_done
  left_all e = by (told_of cells lists) refl e
    where
      by : (o : Outcome (List Delivered)) → told_from cells (queries_of cells) lists ≡ o → is_done o ≡ true → Left 0 0
      by (refused n) f g = absurd (clash g refl)
      by (done ds) f g = record { ds = ds; told = f; verdict = rw f }

  module _ (i at : ℕ) (left : Left i at) where
    pub left_absent : told_from cells (drop i (queries_of cells)) (drop at lists) ≡ refused 10 → ⊥
    left_absent e = not_done 10 left.ds (sym e ∙ left.told)

    module _ (h : i < length (queries_of cells)) (q : Q) (same : q ≡ query_at cells i) (d : Delivered) (next : ℕ)
        (on : told_from cells (drop i (queries_of cells)) (drop at lists) ≡ and_then (told_from cells (drop (i + 1) (queries_of cells)) (drop next lists)) (λ ds. done (d ∷ ds))) where
      w : Went (told_from cells (drop (i + 1) (queries_of cells)) (drop next lists)) (λ ds. done (d ∷ ds)) left.ds
      w = went (told_from cells (drop (i + 1) (queries_of cells)) (drop next lists)) (λ ds. done (d ∷ ds)) left.ds (sym on ∙ left.told)

      here : accept_of cells lists ≡ done (first_wrong cells i (q ∷ drop (i + 1) (queries_of cells)) (d ∷ w.gained))
      here =
          left.verdict
          ∙ ap (λ (l : List Q). done (first_wrong cells i l left.ds)) (queries_from cells i h)
          ∙ ap (λ (p : Q). done (first_wrong cells i (p ∷ drop (i + 1) (queries_of cells)) left.ds)) (sym same)
          ∙ ap (λ (l : List Delivered). done (first_wrong cells i (q ∷ drop (i + 1) (queries_of cells)) l)) (sym (done_same (d ∷ w.gained) left.ds w.after))

      pub wrong_here : is_right cells q d ≡ false → done (wrong_at i) ≡ accept_of cells lists
      unfolding first_wrong
      wrong_here e = sym (here ∙ rw (e, first_wrong))

      pub right_here : is_right cells q d ≡ true → Left (i + 1) next
      unfolding first_wrong
      right_here e = record { ds = w.gained; told = w.before; verdict = here ∙ rw (e, first_wrong, add-one i) }

    pub left_none : length (queries_of cells) ≤ i → done all_right ≡ accept_of cells lists
    unfolding first_wrong
    left_none h = sym (left.verdict ∙ ap (λ (l : List Q). done (first_wrong cells i l left.ds)) (drop_of_length-le (queries_of cells) {i = i} h))
