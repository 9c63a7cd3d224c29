-- What the code finds in a table that was read is what the graph has. Assumes nothing.
use Prim.Native.Nat.{ℕ, zero, suc, ◌+◌, ◌-◌, ◌*◌, ◌/◌, ◌%◌, ◌≤◌, ◌<◌}
use mathlib.Core.Path.{◌≡◌, refl, sym, ap, ◌∙◌}
use mathlib.Core.Bool.{Bool, true, false, not, ◌||◌}
use mathlib.Core.List.{List, [], ◌∷◌, ◌++◌, map, flat_map}
use native.Mathlib.Omega.{arith}
use borrow.Author.Tests.{eq-eqb, ne_eqb}
use lib.Dec.{eqb}
use lib.ListN.{length, get_or, drop, length-map, get_or-map, replicate, length-replicate}
use Rattle.std.specs.List.{list_any, range_with_len}
use Rattle.scope_graph.specs.Language.{◌∈◌}
use Rattle.scope_graph.specs.Graph.{Edge, InRange}
use Rattle.scope_graph.specs.Rows.{language}
use Rattle.scope_graph.specs.Readers.{numbers_below}
use Rattle.scope_graph.proofs.Lists.{here, there, map_intro, map_elim}
use Rattle.scope_graph.proofs.Readers.{numbers_elim}
use Rattle.text_field.specs.Buffer.{Buf, puts}
use Rattle.graph_rows.specs.Format.{label_section, edge_section}
use Rattle.graph_rows.specs.Admission.{Row, value, row_of, blank}
use Rattle.graph_rows.specs.Order.{some_row}
use Rattle.graph_rows.specs.Decode.{rows_in, letters_of, rules_of, scopes_of, edge_of, graph_of}
use Rattle.graph_rows.specs.Formed.{other_turn, other_turns}
use Rattle.graph_rows.specs.Accepted.{AcceptedTable}
use Rattle.graph_rows.proofs.RowLaws.{row_cells}
use Rattle.graph_file.specs.File.{WasRead}
use Rattle.graph_file.proofs.InverseField.{capital_byte}
use Rattle.graph_table.specs.declared.rows.EdgeRow.{EdgeRow}
use Rattle.graph_table.specs.Values.{edge_row}
use Rattle.graph_table.specs.Sections.{part_of, rows_of}
use Rattle.graph_table.proofs.Parts.{rows_count, rows_next, rows_none, row_at, value_cell}
use Rattle.board.proofs.Capitals.{capitals}
use Rattle.board.proofs.Queries.{get_d_in, accepted, sound, rows_are}
use Rattle.dot_text.specs.Grammar.{DrawnEdge}
use Rattle.dot.specs.Drawing.{dropped_if, open_line, edge_line, close_line, drawn_edge, drawn_edges, drawing_of}
use Rattle.dot.specs.Promises.{InFile}
use Rattle.dot.specs.Rows.{letter_byte, drawn_by, edge_lines}
use Rattle.dot.proofs.Texts.{scope_lines, whole_puts, below_length, Narrow, drawing_short}

-- whether some row from a place on has another turn than 0
module _ (edges : List ℕ) (p : ℕ) (row : EdgeRow) (e : row ≡ edge_row edges p) (h : 6 ≤ length edges - p) where
  turn_here : other_turn (row_of (drop p edges)) ≡ not (eqb row.turn 0)
  unfolding other_turn
  turn_here = ap (λ (r : Row). not (eqb (value r 3) 0)) (row_cells edges p) ∙ ap (λ (r : EdgeRow). not (eqb r.turn 0)) (sym e)

  turn_next : some_row other_turn (rows_of (drop p edges)) ≡ (not (eqb row.turn 0) || some_row other_turn (rows_of (drop (p + 6) edges)))
  unfolding some_row
  turn_next =
      ap (some_row other_turn) (rows_next edges p h)
      ∙ ap (λ (b : Bool). b || some_row other_turn (rows_of (drop (p + 6) edges))) turn_here

  pub turn_hit : (row.turn ≡ 0 → ⊥) → some_row other_turn (rows_of (drop p edges)) ≡ true
  turn_hit n = turn_next ∙ rw (ne_eqb row.turn 0 n)

  pub turn_miss : row.turn ≡ 0 → some_row other_turn (rows_of (drop (p + 6) edges)) ≡ some_row other_turn (rows_of (drop p edges))
  turn_miss z = sym (turn_next ∙ rw (eq-eqb row.turn 0 z))

pub turn_end : (edges : List ℕ) (p : ℕ) → length edges - p < 6 → some_row other_turn (rows_of (drop p edges)) ≡ false
unfolding some_row
turn_end edges p h = ap (some_row other_turn) (rows_none edges p h)

-- whether the row of a number has another turn than 0, and whether one of the rows has
abbrev pub turned : List ℕ → ℕ → Bool
turned edges i = not (eqb (edge_row edges (6 * i)).turn 0)

turned_from : (edges : List ℕ) (n i : ℕ) → n ≡ (length edges - 6 * i) / 6 → list_any (turned edges) (range_with_len i n) ≡ some_row other_turn (rows_of (drop (6 * i) edges))
turned_from edges zero i h = sym (turn_end edges (6 * i) (omega arith))
turned_from edges (suc n) i h =
    let next : 6 * (i + 1) ≡ 6 * i + 6 = omega arith in
    ap (λ (b : Bool). turned edges i || b)
    (turned_from edges n (i + 1) (omega arith) ∙ ap (λ (p : ℕ). some_row other_turn (rows_of (drop p edges))) next)
    ∙ sym (turn_next edges (6 * i) (edge_row edges (6 * i)) refl (omega arith))

pub turned_some : (edges : List ℕ) (n : ℕ) → n ≡ length (rows_of edges) → list_any (turned edges) (range_with_len 0 n) ≡ some_row other_turn (rows_of edges)
turned_some edges n h = let count = rows_count (length edges) edges (omega arith) in turned_from edges n 0 (omega arith)

-- functions that agree on a list's elements
map_same : {A B : Type 0} (f g : A → B) (l : List A) → ((a : A) → a ∈ l → f a ≡ g a) → map f l ≡ map g l
map_same f g [] h = refl
map_same {A} {B} f g (x ∷ l) h = ap (λ (y : B). y ∷ map f l) (h x here) ∙ ap (λ (r : List B). g x ∷ r) (map_same f g l (λ a m. h a (there m)))

-- a table that was read
module _ (cells : List ℕ) (was : WasRead cells) where
  t : AcceptedTable cells
  t = accepted cells was

  pub turn_is : some_row other_turn (rows_of (part_of edge_section cells)) ≡ other_turns cells
  unfolding other_turns
  turn_is = ap (some_row other_turn) (rows_are cells was edge_section)

  in_range : InRange (language (rules_of cells)) (graph_of cells)
  in_range =
      let least = t.scopes_least in
      (t.accepted (record { start = 0; name = record { kind = 0; high = 0; low = 0 } }) (omega arith)).in_range

  -- an edge row's label is listed, and its letter is found
  module _ (row : Row) (m : row ∈ rows_in edge_section cells) where
    abbrev edge : Edge (language (rules_of cells))
    edge = edge_of (rules_of cells) row

    stands : edge ∈ (graph_of cells).edges
    unfolding graph_of
    stands = map_intro (edge_of (rules_of cells)) m

    label_listed : value row 1 < length (rows_in label_section cells)
    unfolding edge_of rules_of letters_of
    label_listed =
        let h = in_range.listed edge stands in
        let n = length-map (rows_in label_section cells) (λ (r : Row). value r 0) in
        omega arith

    label_small : value row 1 < 8
    unfolding edge_of
    label_small = (sound cells was).edges_label edge stands

    letter_is : letter_byte (part_of label_section cells) (value row 1) ≡ get_or (letters_of cells) (value row 1) 0
    unfolding letter_byte letters_of
    letter_is =
        let l = value row 1 in
        let labels = part_of label_section cells in
        let small = label_small in
        let listed = label_listed in
        let l-is : l % 8 ≡ l = omega arith in
        let count = rows_count (length labels) labels (omega arith) in
        let same = ap (λ (rows : List Row). length rows) (rows_are cells was label_section) in
        let place : 6 * l + 1 + 0 ≡ 6 * (l % 8) + 1 = omega arith in
        let found : value (get_or (rows_in label_section cells) l blank) 0 ≡ get_or labels (6 * (l % 8) + 1) 0 =
        ap (λ (rows : List Row). value (get_or rows l blank) 0) (sym (rows_are cells was label_section))
        ∙ ap (λ (r : Row). value r 0) (row_at labels l (omega arith))
        ∙ value_cell labels (6 * l) 0 (omega arith)
        ∙ ap (λ (n : ℕ). get_or labels n 0) place in
        let capital = capitals was.0 cells was.1 (get_or (rows_in label_section cells) l blank) (get_d_in (rows_in label_section cells) l blank listed) in
        ap (λ (v : ℕ). v % 256) (sym found)
        ∙ (capital_byte (value (get_or (rows_in label_section cells) l blank) 0) capital).1
        ∙ sym (get_or-map (λ (r : Row). value r 0) (rows_in label_section cells) l blank)

    pub row_drawn : drawn_by (part_of label_section cells) row ≡ drawn_edge (letters_of cells) row
    unfolding drawn_by drawn_edge
    row_drawn = rw letter_is

    -- what is drawn of the row is in the file
    pub row_in_file : InFile cells (drawn_edge (letters_of cells) row)
    unfolding drawn_edge edge_of graph_of letters_of
    row_in_file = record {
      from = in_range.from_scope edge stands;
      to = in_range.to_scope edge stands;
      letter =
          let n = length-map (rows_in label_section cells) (λ (r : Row). value r 0) in
          let listed = label_listed in
          get_d_in (letters_of cells) (value row 1) 0 (omega arith);
    }

    row_narrow : Narrow (drawn_edge (letters_of cells) row)
    unfolding drawn_edge edge_of
    row_narrow = record { from = (sound cells was).edges_from edge stands; to = (sound cells was).edges_to edge stands }

  -- the edges' lines
  pub edges_are : edge_lines (part_of label_section cells) (part_of edge_section cells) ≡ flat_map edge_line (drawn_edges cells)
  unfolding edge_lines drawn_edges
  edges_are =
      ap (λ (rows : List Row). flat_map edge_line (map (drawn_by (part_of label_section cells)) rows)) (rows_are cells was edge_section)
      ∙ ap (λ (l : List DrawnEdge). flat_map edge_line l) (map_same (drawn_by (part_of label_section cells)) (drawn_edge (letters_of cells)) (rows_in edge_section cells) row_drawn)

  pub edges_narrow : (e : DrawnEdge) → e ∈ drawn_edges cells → Narrow e
  unfolding drawn_edges
  edges_narrow e m =
      let r = map_elim (drawn_edge (letters_of cells)) (rows_in edge_section cells) m in
      rw r.2 (row_narrow r.0 r.1)

  -- the drawing, by what the code finds of the table
  pub table_puts : (edges labels : List ℕ) → edges ≡ part_of edge_section cells → labels ≡ part_of label_section cells → (dropped : Bool) → dropped ≡ some_row other_turn (rows_of edges)
      → (count : ℕ) → count ≡ scopes_of cells → (b c d e f : Buf) → c ≡ puts b (dropped_if dropped ++ open_line) → d ≡ puts c (scope_lines count)
      → e ≡ puts d (edge_lines labels edges) → f ≡ puts e close_line → f ≡ puts b (drawing_of cells)
  unfolding drawing_of
  table_puts edges labels edges_at labels_at dropped told count counted b c d e f head lines rows close =
      let lost : dropped ≡ other_turns cells = told ∙ ap (λ (l : List ℕ). some_row other_turn (rows_of l)) edges_at ∙ turn_is in
      let drawn-lines : edge_lines labels edges ≡ flat_map edge_line (drawn_edges cells) =
      ap (λ (l : List ℕ). edge_lines l edges) labels_at ∙ ap (edge_lines (part_of label_section cells)) edges_at ∙ edges_are in
      whole_puts (other_turns cells) (numbers_below (scopes_of cells)) (drawn_edges cells) b c d e f
      (head ∙ ap (λ (t : Bool). puts b (dropped_if t ++ open_line)) lost)
      (lines ∙ ap (λ (n : ℕ). puts c (scope_lines n)) counted)
      (rows ∙ ap (puts d) drawn-lines)
      close

  -- and how long it can be
  pub drawing_most : length (drawing_of cells) ≤ 11556
  unfolding drawing_of drawn_edges
  drawing_most =
      let scopes = t.scopes_most in
      let count = below_length (scopes_of cells) in
      let edges = (sound cells was).edges_few in
      let drawn = length-map (rows_in edge_section cells) (drawn_edge (letters_of cells)) in
      let short = drawing_short (other_turns cells) (numbers_below (scopes_of cells)) (drawn_edges cells)
      (λ s m. let k = numbers_elim (scopes_of cells) s m in omega arith) edges_narrow in
      omega arith

-- the code's own memory has room for the drawing
pub drawing_room : (cells : List ℕ) → WasRead cells → length (drawing_of cells) ≤ length (replicate {A = ℕ} 11556 0)
drawing_room cells was = let f = drawing_most cells was in let r = length-replicate {A = ℕ} 11556 0 in omega arith
