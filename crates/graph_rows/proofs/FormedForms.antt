-- A formed table in another form (specs/Formed): only edges, declarations and queries have another
-- line there, and of their values only the turn and the kind are asked. Assumes nothing.
use Prim.Native.Nat.{ℕ, zero, suc, ◌≤◌, ◌<◌}
use mathlib.Core.Path.{◌≡◌, refl, sym, ap, subst, ◌∙◌}
use mathlib.Core.Bool.{Bool, true, false, not, ◌&&◌, true≢false}
use mathlib.Core.List.{List, ◌∷◌}
use native.Mathlib.Omega.{arith}
use lib.Dec.{eqb, leb, ltb}
use lib.ListN.{length, drop}
use borrow.Author.Tests.{not-false, eqb-true}
use Rattle.scope_graph.specs.Language.{◌∈◌}
use Rattle.scope_graph.proofs.Lists.{here, there, and_left, and_right, and_both, not_true}
use Rattle.text_field.specs.Bytes.{is_lower}
use Rattle.text_field.specs.Name.{is_name_cells}
use Rattle.graph_rows.specs.Format.{plain_kind, plain, field, values_of, every_item, has_kinds, has_turns, edge_shape, declaration_shape, query_shape, shapes_of, shape_at, old_form, kind_form, turn_form, label_section, edge_section, declaration_section, query_section}
use Rattle.graph_rows.specs.Admission.{Row, value, content_in_range, item_in_range, in_range}
use Rattle.graph_rows.specs.Values.{field_formed, item_formed, spares_place, idle_zero, idle_zeros, formed}
use Rattle.graph_rows.specs.Order.{some_row}
use Rattle.graph_rows.specs.Tested.{form_in}
use Rattle.graph_rows.specs.Decode.{rows_in}
use Rattle.graph_rows.specs.Formed.{table_of, scopes_in, FormedRow, FormedRows, FormedTable, other_kind, other_kinds, other_turn, other_turns, in_form, RowsStay, FormChanged}
use Rattle.graph_rows.proofs.DecodeRows.{item_in}
use Rattle.graph_rows.proofs.DecodeOrder.{or_false, some_none, some_row_lem}
use Rattle.graph_rows.proofs.DecodeKinds.{plain_lower}

-- one test of a line for another
swap : (a b c d e : Bool) → (b ≡ true → c ≡ true) → ((a && (b && d)) && e) ≡ true → ((a && (c && d)) && e) ≡ true
swap a b c d e f h =
    let x = and_left (a && (b && d)) e h in
    let y = and_right a (b && d) x in
    and_both (a && (c && d)) e (and_both a (c && d) (and_left a (b && d) x) (and_both c d (f (and_left b d y)) (and_right b d y))) (and_right (a && (b && d)) e h)

-- the kind is `v`
abbrev Plain : Row → Type 0
Plain row = eqb (value row 1) plain_kind ≡ true

-- the turn is 0
abbrev Unturned : Row → Type 0
Unturned row = eqb (value row 3) 0 ≡ true

-- the test of a turn left out, with its place then idle, and the other way round
hide : (a b c z w : Bool) → z ≡ true → ((a && (b && c)) && w) ≡ true → ((a && c) && (z && w)) ≡ true
hide a b c z w e h =
    let x = and_left (a && (b && c)) w h in
    and_both (a && c) (z && w) (and_both a c (and_left a (b && c) x) (and_right b c (and_right a (b && c) x))) (and_both z w e (and_right (a && (b && c)) w h))

show : (a b c z w : Bool) → (z ≡ true → b ≡ true) → ((a && c) && (z && w)) ≡ true → ((a && (b && c)) && w) ≡ true
show a b c z w e h =
    let x = and_left (a && c) (z && w) h in
    let y = and_right (a && c) (z && w) h in
    and_both (a && (b && c)) w (and_both a (b && c) (and_left a c x) (and_both b c (e (and_left z w y)) (and_right a c x))) (and_right z w y)

-- one test of a row's ranges less, and one more
left_out : (a b c d : Bool) → (a && (b && (c && d))) ≡ true → (a && (b && d)) ≡ true
left_out a b c d h =
    let x = and_right a (b && (c && d)) h in
    and_both a (b && d) (and_left a (b && (c && d)) h) (and_both b d (and_left b (c && d) x) (and_right c d (and_right b (c && d) x)))

put_in : (a b c d : Bool) → c ≡ true → (a && (b && d)) ≡ true → (a && (b && (c && d))) ≡ true
put_in a b c d e h =
    let x = and_right a (b && d) h in
    and_both a (b && (c && d)) (and_left a (b && d) h) (and_both b (c && d) (and_left b d x) (and_both c d e (and_right b d x)))

-- a line without turns leaves the turn's place idle
unturned : (labels scopes : ℕ) (row : Row) → FormedRow labels scopes (edge_shape false).row row → Unturned row
unfolding edge_shape formed every_item item_formed idle_zeros idle_zero spares_place values_of
unturned labels scopes row r = and_left (eqb (value row 3) 0) (eqb (value row 4) 0) (and_right (every_item (item_formed row) (edge_shape false).row) _ r.formed)

module _ (labels scopes : ℕ) (row : Row) where
  abbrev mark_tests : Bool
  mark_tests = is_name_cells (value row 2) (value row 3) && (leb (value row 4) 99999 && true)

  declaration_changed : (a b : Bool) → (b ≡ false → Plain row) → FormedRow labels scopes (declaration_shape a).row row → FormedRow labels scopes (declaration_shape b).row row
  unfolding declaration_shape formed every_item item_formed field_formed idle_zeros idle_zero spares_place values_of in_range item_in_range content_in_range
  declaration_changed true true p r = r
  declaration_changed false false p r = r
  declaration_changed true false p r = record {
    five = r.five;
    formed = swap (leb (value row 0) 99999) (is_lower (value row 1)) (eqb (value row 1) plain_kind) mark_tests true (λ _. p refl) r.formed;
    in_range = r.in_range;
  }
  declaration_changed false true p r = record {
    five = r.five;
    formed = swap (leb (value row 0) 99999) (eqb (value row 1) plain_kind) (is_lower (value row 1)) mark_tests true (plain_lower (value row 1)) r.formed;
    in_range = r.in_range;
  }

  abbrev name_tests : Bool
  name_tests = is_name_cells (value row 2) (value row 3) && true

  query_changed : (a b : Bool) → (b ≡ false → Plain row) → FormedRow labels scopes (query_shape a).row row → FormedRow labels scopes (query_shape b).row row
  unfolding query_shape formed every_item item_formed field_formed idle_zeros idle_zero spares_place values_of in_range item_in_range content_in_range
  query_changed true true p r = r
  query_changed false false p r = r
  query_changed true false p r = record {
    five = r.five;
    formed = swap (leb (value row 0) 99999) (is_lower (value row 1)) (eqb (value row 1) plain_kind) name_tests (eqb (value row 4) 0) (λ _. p refl) r.formed;
    in_range = r.in_range;
  }
  query_changed false true p r = record {
    five = r.five;
    formed = swap (leb (value row 0) 99999) (eqb (value row 1) plain_kind) (is_lower (value row 1)) name_tests (eqb (value row 4) 0) (plain_lower (value row 1)) r.formed;
    in_range = r.in_range;
  }

  -- an edge with turns and without
  abbrev ends : Bool
  ends = leb (value row 2) 99999 && true

  unturned_small : Unturned row → (test : ℕ → Bool) → test 0 ≡ true → test (value row 3) ≡ true
  unturned_small z test h = rw (eqb-true (value row 3) 0 z) h

  edge_changed : (a b : Bool) → (b ≡ false → Unturned row) → FormedRow labels scopes (edge_shape a).row row → FormedRow labels scopes (edge_shape b).row row
  unfolding edge_shape formed every_item item_formed field_formed idle_zeros idle_zero spares_place values_of in_range item_in_range content_in_range
  edge_changed true true p r = r
  edge_changed false false p r = r
  edge_changed true false p r = record {
    five = r.five;
    formed = hide (leb (value row 0) 99999) (leb (value row 3) 99999) ends (eqb (value row 3) 0) (eqb (value row 4) 0) (p refl) r.formed;
    in_range = left_out (ltb (value row 0) scopes) (ltb (value row 1) labels) (ltb (value row 3) 100) _ r.in_range;
  }
  edge_changed false true p r =
      let told = show (leb (value row 0) 99999) (leb (value row 3) 99999) ends (eqb (value row 3) 0) (eqb (value row 4) 0) (λ z. unturned_small z (λ v. leb v 99999) refl) r.formed in
      record {
        five = r.five;
        formed = told;
        in_range = put_in (ltb (value row 0) scopes) (ltb (value row 1) labels) (ltb (value row 3) 100) _ (unturned_small (unturned labels scopes row r) (λ v. ltb v 100) refl) r.in_range;
      }

  -- a row of section k, which in a form without kinds has the kind `v` where it has one, and in a
  -- form without turns the turn 0
  row_changed : (f g k : ℕ) → k < 9 → (k ≡ edge_section → has_turns g ≡ false → Unturned row) → (k ≡ declaration_section → has_kinds g ≡ false → Plain row)
      → (k ≡ query_section → has_kinds g ≡ false → Plain row) → FormedRow labels scopes (shape_at f k).row row → FormedRow labels scopes (shape_at g k).row row
  unfolding shapes_of shape_at
  row_changed f g zero h e d q r = r
  row_changed f g (suc zero) h e d q r = r
  row_changed f g (suc (suc zero)) h e d q r = r
  row_changed f g (suc (suc (suc zero))) h e d q r = r
  row_changed f g (suc (suc (suc (suc zero)))) h e d q r = r
  row_changed f g (suc (suc (suc (suc (suc zero))))) h e d q r = edge_changed (has_turns f) (has_turns g) (e refl) r
  row_changed f g (suc (suc (suc (suc (suc (suc zero)))))) h e d q r = declaration_changed (has_kinds f) (has_kinds g) (d refl) r
  row_changed f g (suc (suc (suc (suc (suc (suc (suc zero))))))) h e d q r = r
  row_changed f g (suc (suc (suc (suc (suc (suc (suc (suc zero)))))))) h e d q r = query_changed (has_kinds f) (has_kinds g) (q refl) r
  row_changed f g (suc (suc (suc (suc (suc (suc (suc (suc (suc k))))))))) h e d q r = absurd (omega arith)

-- every declaration and query has the kind `v`, every edge the turn 0
abbrev PlainRows : (ℕ → List Row) → Type 0
PlainRows rows = ((row : Row) → row ∈ rows declaration_section → Plain row) × ((row : Row) → row ∈ rows query_section → Plain row)

abbrev UnturnedRows : (ℕ → List Row) → Type 0
UnturnedRows rows = (row : Row) → row ∈ rows edge_section → Unturned row

-- formed rows of one form in another
rows_changed : (f g : ℕ) (rows : ℕ → List Row) → g ≤ turn_form → (has_kinds g ≡ false → PlainRows rows) → (has_turns g ≡ false → UnturnedRows rows) → FormedRows f rows → FormedRows g rows
rows_changed f g rows known p u r = record {
  known = known;
  sections = λ k h.
      let s = r.sections k h in
      record {
        each = λ row m.
            row_changed _ _ row f g k h (λ e n. u n row (rw e at m)) (λ e n. (p n).0 row (rw e at m)) (λ e n. (p n).1 row (rw e at m)) (s.each row m);
        in_turn = s.in_turn;
        least = s.least;
        most = s.most;
      };
  order = r.order;
}

-- the rows of a table are those of the table in another form
table_changed : (g : ℕ) (cells : List ℕ) → FormedTable cells → FormedRows g (λ k. rows_in k cells) → FormedTable (in_form g cells)
unfolding in_form form_in rows_in table_of
table_changed g cells t r = record {
  in_turn = ap (λ (l : List ℕ). g ∷ drop 1 l) t.in_turn;
  rows = r;
}

own_form : (cells : List ℕ) → FormedTable cells → in_form (form_in cells) cells ≡ cells
unfolding in_form form_in table_of
own_form cells t = ap (λ (l : List ℕ). form_in cells ∷ drop 1 l) t.in_turn ∙ sym t.in_turn

-- the tests of the kinds and of the turns
plain_row : (row : Row) → other_kind row ≡ false → Plain row
unfolding other_kind
plain_row row h = not-false (eqb (value row 1) plain_kind) h

plain_rows : (cells : List ℕ) → other_kinds cells ≡ false → PlainRows (λ k. rows_in k cells)
unfolding other_kinds
plain_rows cells h =
    let c = or_false _ _ h in (
      (λ row m. plain_row row (some_none other_kind (rows_in declaration_section cells) c.0 row m)),
      (λ row m. plain_row row (some_none other_kind (rows_in query_section cells) c.1 row m)),
    )

unturned_row : (row : Row) → other_turn row ≡ false → Unturned row
unfolding other_turn
unturned_row row h = not-false (eqb (value row 3) 0) h

unturned_rows : (cells : List ℕ) → other_turns cells ≡ false → UnturnedRows (λ k. rows_in k cells)
unfolding other_turns
unturned_rows cells h = λ row m. unturned_row row (some_none other_turn (rows_in edge_section cells) h row m)

-- no row is another where each is as it should be
none_other : (other proper : Row → Bool) → ((row : Row) → other row ≡ not (proper row)) → (rows : List Row) → ((row : Row) → row ∈ rows → proper row ≡ true) → some_row other rows ≡ false
none_other other proper same rows p =
    not_true (some_row other rows) (λ h. let r = some_row_lem other rows h in true≢false (sym r.2 ∙ same r.0 ∙ ap not (p r.0 r.1)))

none_kind : (rows : List Row) → ((row : Row) → row ∈ rows → Plain row) → some_row other_kind rows ≡ false
unfolding other_kind
none_kind = none_other other_kind (λ row. eqb (value row 1) plain_kind) (λ row. refl)

-- the old form's rows are plain, and those of a form without turns have the turn 0
old_plain : (cells : List ℕ) → FormedRows old_form (λ k. rows_in k cells) → other_kinds cells ≡ false
unfolding other_kinds has_kinds declaration_shape query_shape shapes_of shape_at formed item_formed field_formed
old_plain cells r =
    let declared = none_kind (rows_in declaration_section cells) (λ row m. item_in (item_formed row) (declaration_shape false).row (field plain 1) (there (there here)) (and_left _ _ ((r.sections declaration_section (omega arith)).each row m).formed)) in
    let asked = none_kind (rows_in query_section cells) (λ row m. item_in (item_formed row) (query_shape false).row (field plain 1) (there (there here)) (and_left _ _ ((r.sections query_section (omega arith)).each row m).formed)) in
    rw (declared, asked)

unturned_form : (form : ℕ) (cells : List ℕ) → has_turns form ≡ false → FormedRows form (λ k. rows_in k cells) → other_turns cells ≡ false
unfolding other_turns other_turn shapes_of shape_at
unturned_form form cells n r =
    none_other other_turn (λ row. eqb (value row 3) 0) (λ row. refl) (rows_in edge_section cells)
    (λ row m. unturned labels scopes row (subst (λ (b : Bool). FormedRow labels scopes (edge_shape b).row row) n ((r.sections edge_section (omega arith)).each row m)))
  where
    labels : ℕ
    labels = length (rows_in label_section cells)

    scopes : ℕ
    scopes = scopes_in (λ k. rows_in k cells)

pub rows_stay : RowsStay
unfolding in_form rows_in
rows_stay form k cells = refl

-- a formed table in a form that shows all that it holds
module _ (cells : List ℕ) (t : FormedTable cells) where
  in_form_lem : (form : ℕ) → form ≤ turn_form → (has_kinds form ≡ false → other_kinds cells ≡ false) → (has_turns form ≡ false → other_turns cells ≡ false) → FormedTable (in_form form cells)
  in_form_lem form known kinds turns =
      table_changed form cells t (rows_changed (form_in cells) form (λ k. rows_in k cells) known (λ n. plain_rows cells (kinds n)) (λ n. unturned_rows cells (turns n)) t.rows)

  -- the rows of the table in a form
  rows_of : (form : ℕ) → FormedTable (in_form form cells) → FormedRows form (λ k. rows_in k cells)
  unfolding in_form form_in rows_in
  rows_of form f = f.rows

pub form_changed : FormChanged
unfolding has_kinds has_turns
form_changed cells t = record {
  turned = in_form_lem cells t turn_form (omega arith) (λ n. absurd (true≢false n)) (λ n. absurd (true≢false n));
  kinded = ((λ f. unturned_form kind_form cells refl (rows_of cells t kind_form f)), λ h. in_form_lem cells t kind_form (omega arith) (λ n. absurd (true≢false n)) (λ n. h));
  old = (
    (λ f. (old_plain cells (rows_of cells t old_form f), unturned_form old_form cells refl (rows_of cells t old_form f))),
    λ h. in_form_lem cells t old_form (omega arith) (λ n. h.0) (λ n. h.1),
  );
  own = own_form cells t;
}
