-- A file takes in its own drawing. Assumes nothing.
use Prim.Native.Nat.{ℕ, zero, suc, ◌≤◌, ◌<◌}
use mathlib.Core.Path.{◌≡◌, refl, sym, ap, subst, ◌∙◌}
use mathlib.Core.List.Memᴰ
use mathlib.Core.List.{List, [], ◌∷◌, ◌++◌, map, map-append, append_assoc}
use mathlib.Core.Bool.{Bool, true, false, ◌&&◌}
use native.Mathlib.Omega.{arith}
use lib.Dec.{eqb, ltb}
use lib.ListN.{length, get_or, length-append, length-map}
use borrow.Author.Tests.{ltb-true, eqb-true, eq-eqb, ne_eqb, not-false}
use Rattle.scope_graph.specs.Language.{◌∈◌}
use Rattle.scope_graph.specs.Path.{Distinct}
use Rattle.scope_graph.specs.Listing.{Pairwise}
use Rattle.scope_graph.specs.Readers.{numbers_below}
use Rattle.scope_graph.proofs.Lists.{here, map_intro, map_elim, and_left, and_right, true_false}
use Rattle.scope_graph.proofs.Sequences.{parts}
use Rattle.scope_graph.proofs.Readers.{numbers_elim, numbers_intro, numbers_ascend}
use Rattle.text_field.specs.Bytes.{is_capital}
use Rattle.text_field.specs.Outcome.{done}
use Rattle.text_field.proofs.OutcomeLaws.{done_same, went}
use Rattle.graph_rows.specs.Format.{section_at, sections, edges, edge_shape, shape_at, shapes_of, has_turns, Item, every_item, values_of, label_section, edge_section}
use Rattle.graph_rows.specs.Admission.{Row, value, place, same_source, same_edge, in_range, item_in_range, content_in_range}
use Rattle.graph_rows.specs.Values.{formed, spares_place, idle_zero, idle_zeros, item_formed}
use Rattle.graph_rows.specs.Tested.{form_in}
use Rattle.graph_rows.specs.Decode.{rows_in, letters_of, scopes_of}
use Rattle.graph_rows.specs.Formed.{FormedTable, other_turn, other_turns}
use Rattle.graph_rows.proofs.DecodeOrder.{some_none}
use Rattle.graph_file.specs.File.{read_cells}
use Rattle.graph_file.proofs.Promises.{read_formed}
use Rattle.graph_file.proofs.InverseFile.{read_then_written}
use Rattle.graph_change.proofs.ChangeLaws.{five_cells}
use Rattle.graph_change.proofs.RowLaws.{one_list}
use Rattle.graph_change.proofs.FormedLaws.{formed_found}
use Rattle.board.proofs.Capitals.{capitals}
use Rattle.board.proofs.Queries.{get_d_in}
use Rattle.dot_text.specs.Grammar.{DrawnEdge, Drawing, Drawn}
use Rattle.dot.specs.Drawing as export
use Rattle.dot.specs.Promises.{InFile}
use Rattle.dot.proofs.Promises as told
use Rattle.undot.specs.Edges.{edge_row}
use Rattle.undot.specs.Undrawn.{undot_of}
use Rattle.undot.specs.Promises.{SameScopes, FaultlessAfter, PutOut}
use Rattle.undot.specs.Back.{at_zero, AtZero, TakesOwn, SameBytes}
use Rattle.undot.proofs.Places.{labels_are}
use Rattle.undot.proofs.Tables.{accepted, same_table, by_section}
use Rattle.undot.proofs.Spelling.{Fit, export_drawn}
use Rattle.undot.proofs.Promises as own

-- each letter has its place
place_at : (l : List ℕ) → Distinct l → (i : ℕ) → i < length l → place (get_or l i 0) l ≡ i
unfolding place
place_at [] d i h = absurd (omega arith)
place_at (x ∷ l) d zero h = rw (eq-eqb x x refl, place)
place_at (x ∷ l) d (suc i) h =
    rw (ne_eqb x (get_or l i 0) (λ e. d.0 (subst (λ (z : ℕ). z ∈ l) (sym e) (get_d_in l i 0 (omega arith)))), place) (ap suc (place_at l d.1 i (omega arith)))

distinct_below : (n : ℕ) (l : List ℕ) → Pairwise ◌<◌ l → Distinct l
distinct_below n [] p = tt
distinct_below n (x ∷ l) p = ((λ m. let z = p.0 x m in omega arith), distinct_below n l p.1)

-- an edge row's label is one, and its last value is idle
label_below : (b : Bool) (labels scopes : ℕ) (row : Row) → in_range labels scopes (edge_shape b).row row ≡ true → value row 1 < labels
unfolding edge_shape in_range every_item item_in_range content_in_range
label_below true labels scopes row h =
    ltb-true (value row 1) labels (and_left (ltb (value row 1) labels) _ (and_right (ltb (value row 0) scopes) _ h))
label_below false labels scopes row h =
    ltb-true (value row 1) labels (and_left (ltb (value row 1) labels) _ (and_right (ltb (value row 0) scopes) _ h))

idle_zero_lem : (items : List Item) (row : Row) → formed items row ≡ true → idle_zero items row 4 ≡ true
unfolding formed idle_zeros
idle_zero_lem items row h =
    let idle : ℕ → Bool = idle_zero items row in
    and_right (idle 3) (idle 4)
    (and_right (idle 2) (idle 3 && idle 4)
    (and_right (idle 1) (idle 2 && (idle 3 && idle 4))
    (and_right (idle 0) (idle 1 && (idle 2 && (idle 3 && idle 4)))
    (and_right (every_item (item_formed row) items) (idle_zeros items row) h))))

idle_last : (b : Bool) (row : Row) → formed (edge_shape b).row row ≡ true → value row 4 ≡ 0
unfolding edge_shape idle_zero every_item spares_place values_of
idle_last true row h = eqb-true (value row 4) 0 (idle_zero_lem (edge_shape true).row row h)
idle_last false row h = eqb-true (value row 4) 0 (idle_zero_lem (edge_shape false).row row h)

-- five values, of which the last two are 0
zero_same : (row : Row) → length row ≡ 5 → value row 3 ≡ 0 → value row 4 ≡ 0 → at_zero row ≡ row
zero_same row five a b = ap (λ (z : ℕ). value row 0 ∷ value row 1 ∷ value row 2 ∷ z ∷ 0 ∷ []) (sym a) ∙ ap (λ (z : ℕ). value row 0 ∷ value row 1 ∷ value row 2 ∷ value row 3 ∷ z ∷ []) (sym b) ∙ five_cells row five

module _ (text cells : List ℕ) (read : read_cells text ≡ done cells) where
  abbrev t : FormedTable cells
  t = read_formed text cells read

  abbrev rows : List Row
  rows = rows_in edge_section cells

  abbrev letters : List ℕ
  letters = letters_of cells

  -- what is drawn of a row
  abbrev shown : Row → DrawnEdge
  shown row = export.drawn_edge letters row

  in_file : (row : Row) → row ∈ rows → InFile cells (export.drawn_edge letters row)
  unfolding export.drawn_edges
  in_file row m = (told.promises).in_file text cells read (export.drawn_edge letters row) (map_intro (export.drawn_edge letters) m)

  few_scopes : scopes_of cells ≤ 64
  few_scopes = (accepted cells t).scopes_most

  capital : (x : ℕ) → x ∈ letters → is_capital x ≡ true
  unfolding letters_of
  capital x m = let o = map_elim (λ (row : Row). value row 0) (rows_in label_section cells) m in subst (λ (z : ℕ). is_capital z ≡ true) (sym o.2) (capitals text cells read o.0 o.1)

  drawing_is : Drawn (export.drawing_of cells) (record { scopes = numbers_below (scopes_of cells); edges = export.drawn_edges cells })
  unfolding export.drawing_of
  drawing_is = export_drawn (numbers_below (scopes_of cells)) (export.drawn_edges cells)
      (λ n m. let z = numbers_elim (scopes_of cells) n m in let f = few_scopes in omega arith) fit (other_turns cells)
    where
      fit : (e : DrawnEdge) → e ∈ export.drawn_edges cells → Fit e
      fit e m =
          let i = (told.promises).in_file text cells read e m in
          let f = few_scopes in
          record { from = omega (arith, i.from); letter = capital e.letter i.letter; to = omega (arith, i.to) }

  scopes_are : SameScopes (scopes_of cells) (numbers_below (scopes_of cells))
  scopes_are = record {
    once = distinct_below 0 (numbers_below (scopes_of cells)) (numbers_ascend (scopes_of cells));
    all = λ s. (numbers_elim (scopes_of cells) s, numbers_intro (scopes_of cells) s);
  }

  -- the label's letter has the label's number
  label_is : (row : Row) → row ∈ rows → place (get_or letters (value row 1) 0) letters ≡ value row 1
  unfolding shape_at shapes_of
  label_is row m =
      let below = label_below (has_turns (form_in cells)) (length (rows_in label_section cells)) _ row ((t.rows.sections edge_section (omega arith)).each row m).in_range in
      let n = labels_are cells t in
      place_at letters (accepted cells t).letters (value row 1) (omega arith)

  row_is : (row : Row) → row ∈ rows → edge_row letters (shown row) ≡ at_zero row
  unfolding edge_row export.drawn_edge
  row_is row m = ap (λ (l : ℕ). value row 0 ∷ l ∷ value row 2 ∷ 0 ∷ 0 ∷ []) (label_is row m)

  -- two rows drawn alike are one edge
  shown_same : (a b : Row) → a ∈ rows → b ∈ rows → shown a ≡ shown b → same_edge a b ≡ true
  unfolding same_edge same_source export.drawn_edge
  shown_same a b m k e =
      let f : value a 0 ≡ value b 0 = ap (λ (z : DrawnEdge). z.from) e in
      let l : value a 1 ≡ value b 1 = sym (label_is a m) ∙ ap (λ (z : DrawnEdge). place z.letter letters) e ∙ label_is b k in
      let o : value a 2 ≡ value b 2 = ap (λ (z : DrawnEdge). z.to) e in
      rw (eq-eqb (value a 0) (value b 0) f, eq-eqb (value a 1) (value b 1) l, eq-eqb (value a 2) (value b 2) o)

  -- no edge of the file's drawing has a fault
  apart : Pairwise (λ (a b : Row). same_edge a b ≡ false) rows
  unfolding section_at sections edges
  apart = (t.rows.sections edge_section (omega arith)).in_turn.1

  most : length rows ≤ 512
  unfolding section_at sections edges
  most = (t.rows.sections edge_section (omega arith)).most

  faultless : (above below : List Row) → rows ≡ above ++ below → FaultlessAfter cells (map shown above) (map shown below)
  unfolding section_at sections edges export.drawn_edge
  faultless above [] e = tt
  faultless above (row ∷ below) e =
      let in_rows : row ∈ rows = subst (λ (z : List Row). row ∈ z) (sym e) (Memᴰ.append_right above here) in
      let i = in_file row in_rows in
      let n = ap length e ∙ length-append above (row ∷ below) in
      let size = length-map above shown in
      let far = (parts (λ (a b : Row). same_edge a b ≡ false) above (row ∷ below) (subst (Pairwise (λ (a b : Row). same_edge a b ≡ false)) e apart)).2 in (
        record {
          few = omega (arith, most);
          known = λ u. u (i.from, (i.letter, i.to));
          new = λ m. let o = map_elim shown above m in
              true_false (shown_same o.0 row (subst (λ (z : List Row). o.0 ∈ z) (sym e) (Memᴰ.append_left (row ∷ below) o.1)) in_rows (sym o.2)) (far o.0 row o.1 here);
        },
        subst (λ (z : List DrawnEdge). FaultlessAfter cells z (map shown below)) (map-append shown above (row ∷ []))
            (faultless (above ++ (row ∷ [])) below (e ∙ sym (append_assoc above (row ∷ []) below))),
      )

  -- the drawing, as its text draws it
  abbrev drawing : Drawing
  drawing = record { scopes = numbers_below (scopes_of cells); edges = map shown rows }

  drawn_is : (dot : List ℕ) → export.dot_of text ≡ done dot → Drawn dot drawing
  unfolding export.dot_of export.drawn_edges
  drawn_is dot e =
      let w = went (read_cells text) (λ c. done (export.drawing_of c)) dot e in
      let same : w.gained ≡ cells = done_same w.gained cells (sym w.before ∙ read) in
      let is : export.drawing_of cells ≡ dot = ap export.drawing_of (sym same) ∙ done_same (export.drawing_of w.gained) dot w.after in
      subst (λ (z : List ℕ). Drawn z drawing) is drawing_is

  module _ (dot : List ℕ) (e : export.dot_of text ≡ done dot) where
    put : (out : List ℕ) × (undot_of text dot ≡ done out)
    put = (own.taken text dot cells drawing read (drawn_is dot e)).1 (scopes_are, faultless [] rows refl)

    at_zero_lem : AtZero cells put.0
    at_zero_lem =
        let p = own.is_put_out text dot cells put.0 drawing read (drawn_is dot e) put.1 in
        record { after = p.after; read = p.read; form = p.form; others = p.others; has = λ a. (into p a, out p a); ascends = p.ascends }
      where
        into : (p : PutOut cells (map shown rows) put.0) (a : Row) → a ∈ rows_in edge_section p.after → a ∈ map at_zero rows
        into p a m =
            let o = map_elim (edge_row letters) (map shown rows) ((p.has a).0 m) in
            let q = map_elim shown rows o.1 in
            subst (λ (z : Row). z ∈ map at_zero rows) (sym (o.2 ∙ ap (edge_row letters) q.2 ∙ row_is q.0 q.1)) (map_intro at_zero q.1)

        out : (p : PutOut cells (map shown rows) put.0) (a : Row) → a ∈ map at_zero rows → a ∈ rows_in edge_section p.after
        out p a m =
            let q = map_elim at_zero rows m in
            (p.has a).1 (subst (λ (z : Row). z ∈ map (edge_row letters) (map shown rows)) (row_is q.0 q.1 ∙ sym q.2) (map_intro (edge_row letters) (map_intro shown q.1)))

    -- where all turns are 0 already, the rows stay
    module _ (none : other_turns cells ≡ false) where
      unturned : (row : Row) → row ∈ rows → at_zero row ≡ row
      unfolding other_turns other_turn shape_at shapes_of
      unturned row m =
          let f = (t.rows.sections edge_section (omega arith)).each row m in
          zero_same row f.five (eqb-true (value row 3) 0 (not-false (eqb (value row 3) 0) (some_none other_turn rows none row m))) (idle_last (has_turns (form_in cells)) row f.formed)

      rows_same : rows_in edge_section at_zero_lem.after ≡ rows
      unfolding section_at sections edges
      rows_same = one_list (section_at edge_section).key (rows_in edge_section at_zero_lem.after) rows at_zero_lem.ascends (formed_found cells t edge_section (omega arith) tt).0
          (λ a. (
            (λ m. let q = map_elim at_zero rows ((at_zero_lem.has a).0 m) in subst (λ (z : Row). z ∈ rows) (sym (q.2 ∙ unturned q.0 q.1)) q.1),
            (λ m. (at_zero_lem.has a).1 (subst (λ (z : Row). z ∈ map at_zero rows) (unturned a m) (map_intro at_zero m))),
          ))

      table_same : at_zero_lem.after ≡ cells
      table_same =
          (read_formed put.0 at_zero_lem.after at_zero_lem.read).in_turn
          ∙ same_table (form_in at_zero_lem.after) (form_in cells) (λ k. rows_in k at_zero_lem.after) (λ k. rows_in k cells) at_zero_lem.form
          (λ k h. by_section k (λ q. rw q rows_same) (λ n. at_zero_lem.others k h n))
          ∙ sym t.in_turn

      same_text : put.0 ≡ text
      same_text =
          done_same put.0 text
          (sym (read_then_written put.0 cells (at_zero_lem.read ∙ ap done table_same)) ∙ read_then_written text cells read)

pub takes_own : TakesOwn
takes_own text cells dot read e = let p = put text cells read dot e in (p.0, p.1, at_zero_lem text cells read dot e)

pub same_bytes_lem : SameBytes
same_bytes_lem text cells dot read none e = (put text cells read dot e).1 ∙ ap done (same_text text cells read dot e none)
