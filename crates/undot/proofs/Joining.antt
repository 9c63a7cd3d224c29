-- A drawn edge's row joins a formed table: whether it is known there, whether it was met, and what
-- the table is then. Assumes nothing.
use Prim.Native.Nat.{ℕ, suc, ◌≤◌, ◌<◌}
use mathlib.Core.Path.{◌≡◌, refl, sym, ap, subst, ◌∙◌}
use mathlib.Core.List.{List, [], ◌∷◌}
use mathlib.Core.Bool.{Bool, true, false, ◌&&◌}
use mathlib.Core.Logic.{⊎_elim}
use native.Mathlib.Omega.{arith}
use lib.Dec.{eqb, ltb}
use lib.ListN.{length}
use borrow.Author.Tests.{ltb-true, lt-ltb, le-leb, eqb-false, eq-eqb}
use Rattle.scope_graph.specs.Language.{◌∈◌}
use Rattle.scope_graph.proofs.Lists.{Two, and_left, and_right, true_false}
use Rattle.graph_rows.specs.Format.{values_of, every_item, section_at, shape_at, shapes_of, edge_shape, has_turns, edges, sections, label_section, edge_section}
use Rattle.graph_rows.specs.Admission.{Row, value, place, listed, repeats, same_source, same_edge, in_range, item_in_range, content_in_range}
use Rattle.graph_rows.specs.Values.{formed, item_formed, field_formed, spares_place, idle_zero, idle_zeros}
use Rattle.graph_rows.specs.Tested.{form_in}
use Rattle.graph_rows.specs.Decode.{rows_in, letters_of, scopes_of}
use Rattle.graph_rows.specs.Formed.{scopes_in, FormedRow}
use Rattle.graph_rows.proofs.AdmissionLaws.{listed_place}
use Rattle.graph_rows.proofs.LookBackLaws.{repeats_none, none_repeated}
use Rattle.std.specs.declared.result.Result.TheVariants.{Ok, Err}
use Rattle.graph_change.specs.Place.{same_key, place_in}
use Rattle.graph_change.specs.Changed.{inserted, with_row}
use Rattle.graph_change.specs.Promises.{NoneLike, ChangedAt, scopes_at}
use Rattle.graph_change.proofs.FormedLaws.{formed_put, formed_found}
use Rattle.graph_change.proofs.RowLaws.{inserted_is}
use Rattle.dot_text.specs.Grammar.{DrawnEdge}
use Rattle.undot.specs.Edges.{edge_row, edge_known}
use Rattle.undot.specs.Rows.{Ready}
use Rattle.undot.proofs.Places.{labels_are}
use Rattle.undot.proofs.Tables.{accepted, letters_stay, scopes_stay, not_pairs}

-- where both turns are 0, one key is one edge
four : (p q s : Bool) → (p && (q && (true && (s && true)))) ≡ ((p && q) && s)
four true true true = refl
four true true false = refl
four true false s = refl
four false q s = refl

pub key_edge : (a b : Row) → value a 3 ≡ 0 → value b 3 ≡ 0 → same_key (section_at edge_section).key a b ≡ same_edge a b
unfolding section_at sections edges same_key same_edge same_source
key_edge a b x y =
    rw (eq-eqb (value a 3) (value b 3) (x ∙ sym y)) (four (eqb (value a 0) (value b 0)) (eqb (value a 1) (value b 1)) (eqb (value a 2) (value b 2)))

-- a row that is there repeats
pub repeats_there : (rows : List Row) (row a : Row) → a ∈ rows → same_edge a row ≡ true → repeats rows row ≡ true
repeats_there rows row a m e = ⊎_elim (λ h. h) (λ h. absurd (true_false e (none_repeated rows row h a m))) (Two (repeats rows row))

-- what is known of an edge that the file has
pub record Known (letters : List ℕ) (scopes : ℕ) (e : DrawnEdge) : Type 0 where
  pub from : e.from < scopes
  pub label : place e.letter letters < length letters
  pub to : e.to < scopes

place_most : (x : ℕ) (l : List ℕ) → place x l ≤ length l
unfolding place
place_most x [] = omega arith
place_most x (y ∷ l) = by (eqb y x) refl (place_most x l)
  where
    by : (t : Bool) → eqb y x ≡ t → place x l ≤ length l → place x (y ∷ l) ≤ suc (length l)
    by true t h = rw (t, place) (omega arith)
    by false t h = rw (t, place) (omega arith)

pub listed_below : (x : ℕ) (l : List ℕ) → listed x l ≡ true → place x l < length l
listed_below x l h =
    let most = place_most x l in
    let n = eqb-false (place x l) (length l) (listed_place x l ∙ rw h) in
    omega (arith, n)

pub known_is : (letters : List ℕ) (scopes : ℕ) (e : DrawnEdge) → edge_known letters scopes e ≡ true → Known letters scopes e
unfolding edge_known
known_is letters scopes e h =
    let a = and_left (ltb e.from scopes) (listed e.letter letters && ltb e.to scopes) h in
    let b = and_right (ltb e.from scopes) (listed e.letter letters && ltb e.to scopes) h in
    record {
      from = ltb-true e.from scopes a;
      label = listed_below e.letter letters (and_left (listed e.letter letters) (ltb e.to scopes) b);
      to = ltb-true e.to scopes (and_right (listed e.letter letters) (ltb e.to scopes) b);
    }

-- an edge's row with turn 0 fits its line, with or without turns
pub edge_formed : (t : Bool) (labels scopes from l to : ℕ) → scopes ≤ 64 → from < scopes → l < labels → to < scopes
    → FormedRow labels scopes (edge_shape t).row (from ∷ l ∷ to ∷ 0 ∷ 0 ∷ [])
unfolding edge_shape formed every_item item_formed field_formed idle_zeros idle_zero spares_place values_of in_range item_in_range content_in_range
edge_formed true labels scopes from l to few a b c = record {
  five = refl;
  formed = rw (le-leb from 99999 (omega arith), le-leb to 99999 (omega arith));
  in_range = rw (lt-ltb from scopes a, lt-ltb l labels b, lt-ltb to scopes c);
}
edge_formed false labels scopes from l to few a b c = record {
  five = refl;
  formed = rw (le-leb from 99999 (omega arith), le-leb to 99999 (omega arith));
  in_range = rw (lt-ltb from scopes a, lt-ltb l labels b, lt-ltb to scopes c);
}

module _ (labels scopes : ℕ) (cells : List ℕ) (r : Ready labels scopes cells) (e : DrawnEdge) where
  abbrev row : Row
  row = edge_row (letters_of cells) e

  abbrev rows : List Row
  rows = rows_in edge_section cells

  row_turn : value row 3 ≡ 0
  unfolding edge_row
  row_turn = refl

  same : (a : Row) → a ∈ rows → same_key (section_at edge_section).key a row ≡ same_edge a row
  same a m = key_edge a row (r.turns a m) row_turn

  -- a row of its key stands there: it was met; none does, and it is new
  pub met_there : (p : ℕ) → place_in edge_section row cells ≡ Ok p → repeats rows row ≡ true
  unfolding section_at sections edges
  met_there p h =
      let f = ((formed_found cells r.formed edge_section (omega arith) tt).1 row).there p h in
      repeats_there rows row f.0 f.1 (sym (same f.0 f.1) ∙ f.2)

  pub none_like : (p : ℕ) → place_in edge_section row cells ≡ Err p → NoneLike (section_at edge_section).key row rows
  unfolding section_at sections edges
  none_like p h = ((formed_found cells r.formed edge_section (omega arith) tt).1 row).free p h

  pub met_never : (p : ℕ) → place_in edge_section row cells ≡ Err p → repeats rows row ≡ false
  met_never p h = repeats_none rows row (λ a m. sym (same a m) ∙ none_like p h a m)

  -- A new edge that the file knows joins the rows, if they are few.
  module _ (k : Known (letters_of cells) (scopes_of cells) e) (new : repeats rows row ≡ false) (few : length rows < 512) where
    row_formed : FormedRow (length (rows_in label_section cells)) (scopes_at cells) (shape_at (form_in cells) edge_section).row row
    unfolding shape_at shapes_of edge_row scopes_in scopes_of
    row_formed =
        edge_formed (has_turns (form_in cells)) (length (rows_in label_section cells)) (scopes_of cells) e.from (place e.letter (letters_of cells)) e.to
        (accepted cells r.formed).scopes_most k.from (omega (arith, k.label, labels_are cells r.formed)) k.to

    apart_from : (a : Row) → a ∈ rows → same_edge a row ≡ false
    apart_from a m = none_repeated rows row new a m

    pub joined : ChangedAt edge_section (inserted (section_at edge_section).key row rows) cells (with_row edge_section row cells)
    unfolding section_at sections edges
    joined = formed_put cells r.formed edge_section (omega arith) row apart_from row_formed few (λ a m. same a m ∙ apart_from a m) (λ q. not_pairs q)

    -- the table is ready for the next
    pub still_ready : Ready labels scopes (with_row edge_section row cells)
    still_ready =
        record {
          formed = joined.formed;
          turns = λ a m. turns a (subst (λ (l : List Row). a ∈ l) joined.own m);
          label_count = r.label_count ∙ sym (ap length (letters_stay _ cells (with_row edge_section row cells) joined));
          scope_count = r.scope_count ∙ sym (scopes_stay _ cells (with_row edge_section row cells) joined);
        }
      where
        turns : (a : Row) → a ∈ inserted (section_at edge_section).key row rows → value a 3 ≡ 0
        turns a m = ⊎_elim (λ (q : a ≡ row). ap (λ (z : Row). value z 3) q ∙ row_turn) (λ (q : a ∈ rows). r.turns a q) (((inserted_is (section_at edge_section).key row rows).has a).0 m)
