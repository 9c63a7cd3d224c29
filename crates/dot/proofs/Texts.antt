-- The text of a drawing as it grows line by line, and how long it can be. Assumes nothing.
use Prim.Native.Nat.{ℕ, zero, suc, ◌+◌, ◌-◌, ◌*◌, ◌≤◌, ◌<◌}
use mathlib.Core.Path.{◌≡◌, refl, sym, ap, ◌∙◌}
use mathlib.Core.Bool.{Bool, true, false}
use mathlib.Core.List.{List, [], ◌∷◌, ◌++◌, map, flat_map, append_assoc, append-nil}
use native.Mathlib.Omega.{arith}
use native.Mathlib.Numerals.{add-one}
use lib.ListN.{length, length-append, drop}
use Rattle.scope_graph.specs.Language.{◌∈◌}
use Rattle.scope_graph.specs.Readers.{numbers_below}
use Rattle.scope_graph.proofs.Lists.{here, there}
use Rattle.text_field.specs.Number.{number_text}
use Rattle.text_field.specs.Buffer.{Buf, puts}
use Rattle.text_field.proofs.NumberLaws.{length_below}
use Rattle.text_field.proofs.BufferLaws.{puts_then}
use Rattle.graph_rows.specs.Admission.{Row, row_of}
use Rattle.graph_rows.proofs.RowLaws.{row_cells}
use Rattle.graph_table.specs.declared.rows.EdgeRow.{EdgeRow}
use Rattle.graph_table.specs.Values.{edge_row}
use Rattle.graph_table.proofs.Parts.{rows_next, rows_none}
use Rattle.dot_text.specs.Grammar.{DrawnEdge}
use Rattle.dot.specs.Drawing.{dropped_if, open_line, scope_line, arrow, before_letter, after_letter, edge_line, close_line, drawing_text}
use Rattle.dot.specs.Rows.{drawn, drawn_by, letter_byte, edge_lines}

-- the scopes below n, one after the other
abbrev pub scope_lines : ℕ → List ℕ
scope_lines n = flat_map scope_line (numbers_below n)

lines_append : (l k : List ℕ) → flat_map scope_line (l ++ k) ≡ flat_map scope_line l ++ flat_map scope_line k
unfolding flat_map
lines_append [] k = refl
lines_append (x ∷ l) k =
    ap (λ (z : List ℕ). scope_line x ++ z) (lines_append l k) ∙ sym (append_assoc (scope_line x) (flat_map scope_line l) (flat_map scope_line k))

pub scopes_more : (n : ℕ) → scope_lines (n + 1) ≡ scope_lines n ++ scope_line n
unfolding numbers_below flat_map
scopes_more n =
    ap scope_lines (add-one n)
    ∙ lines_append (numbers_below n) (n ∷ [])
    ∙ ap (λ (l : List ℕ). scope_lines n ++ l) (append-nil (scope_line n))

-- the lines of the edge rows from a place on
module _ (labels edges : List ℕ) (p : ℕ) where
  row_drawn : (row : EdgeRow) → row ≡ edge_row edges p → (x : ℕ) → x ≡ letter_byte labels row.label → drawn row x ≡ drawn_by labels (row_of (drop p edges))
  unfolding drawn_by
  row_drawn row e x f =
      ap (drawn row) f
      ∙ ap (λ (r : EdgeRow). drawn r (letter_byte labels r.label)) e
      ∙ sym (ap (drawn_by labels) (row_cells edges p))

  edges_next_lem : 6 ≤ length edges - p → edge_lines labels (drop p edges) ≡ edge_line (drawn_by labels (row_of (drop p edges))) ++ edge_lines labels (drop (p + 6) edges)
  unfolding edge_lines flat_map
  edges_next_lem h = ap (λ (l : List Row). flat_map edge_line (map (drawn_by labels) l)) (rows_next edges p h)

  pub edges_first : 6 ≤ length edges - p → (row : EdgeRow) → row ≡ edge_row edges p → (x : ℕ) → x ≡ letter_byte labels row.label
      → edge_lines labels (drop p edges) ≡ edge_line (drawn row x) ++ edge_lines labels (drop (p + 6) edges)
  edges_first h row e x f = edges_next_lem h ∙ ap (λ (d : DrawnEdge). edge_line d ++ edge_lines labels (drop (p + 6) edges)) (sym (row_drawn row e x f))

  pub edges_none : length edges - p < 6 → edge_lines labels (drop p edges) ≡ []
  unfolding edge_lines flat_map
  edges_none h = ap (λ (l : List Row). flat_map edge_line (map (drawn_by labels) l)) (rows_none edges p h)

-- the four parts of a drawing
pub whole_puts : (dropped : Bool) (scopes : List ℕ) (edges : List DrawnEdge) (b c d e f : Buf) → c ≡ puts b (dropped_if dropped ++ open_line)
    → d ≡ puts c (flat_map scope_line scopes) → e ≡ puts d (flat_map edge_line edges) → f ≡ puts e close_line → f ≡ puts b (drawing_text dropped scopes edges)
unfolding drawing_text
whole_puts dropped scopes edges b c d e f head lines rows close =
    let y = puts_then d e f (flat_map edge_line edges) close_line rows close in
    let x = puts_then c d f (flat_map scope_line scopes) (flat_map edge_line edges ++ close_line) lines y in
    puts_then b c f (dropped_if dropped ++ open_line) (flat_map scope_line scopes ++ (flat_map edge_line edges ++ close_line)) head x
    ∙ ap (puts b) (append_assoc (dropped_if dropped) open_line (flat_map scope_line scopes ++ (flat_map edge_line edges ++ close_line)))

-- there are n numbers below n
pub below_length : (n : ℕ) → length (numbers_below n) ≡ n
unfolding numbers_below
below_length zero = refl
below_length (suc n) = let l = length-append (numbers_below n) (n ∷ []) in let h = below_length n in omega arith

-- how long the lines are: a scope's has four bytes at most, an edge's 22
scope_short : (s : ℕ) → s < 64 → length (scope_line s) ≤ 4
unfolding scope_line
scope_short s h = let n = length_below 1 s (omega arith) in let l = length-append (number_text s) (59 ∷ 10 ∷ []) in omega arith

scopes_short : (l : List ℕ) → ((s : ℕ) → s ∈ l → s < 64) → length (flat_map scope_line l) ≤ 4 * length l
unfolding flat_map
scopes_short [] h = omega arith
scopes_short (s ∷ l) h =
    let one = scope_short s (h s here) in
    let rest = scopes_short l (λ x m. h x (there m)) in
    let sum = length-append (scope_line s) (flat_map scope_line l) in
    omega arith

-- both scopes of an edge have at most two digits
pub record Narrow (e : DrawnEdge) : Type 0 where
  pub from : e.from < 64
  pub to : e.to < 64

edge_short : (e : DrawnEdge) → Narrow e → length (edge_line e) ≤ 22
unfolding edge_line
edge_short e narrow =
    let near = narrow.from in
    let far = narrow.to in
    let n = length_below 1 e.from (omega arith) in
    let m = length_below 1 e.to (omega arith) in
    let a = length-append (number_text e.from) (arrow ++ (number_text e.to ++ (before_letter ++ (e.letter ∷ after_letter)))) in
    let b = length-append (number_text e.to) (before_letter ++ (e.letter ∷ after_letter)) in
    omega arith

edges_short : (l : List DrawnEdge) → ((e : DrawnEdge) → e ∈ l → Narrow e) → length (flat_map edge_line l) ≤ 22 * length l
unfolding flat_map
edges_short [] h = omega arith
edges_short (e ∷ l) h =
    let one = edge_short e (h e here) in
    let rest = edges_short l (λ x m. h x (there m)) in
    let sum = length-append (edge_line e) (flat_map edge_line l) in
    omega arith

dropped_short : (dropped : Bool) → length (dropped_if dropped) ≤ 17
unfolding dropped_if
dropped_short true = omega arith
dropped_short false = omega arith

pub drawing_short : (dropped : Bool) (scopes : List ℕ) (edges : List DrawnEdge) → ((s : ℕ) → s ∈ scopes → s < 64) → ((e : DrawnEdge) → e ∈ edges → Narrow e)
    → length (drawing_text dropped scopes edges) ≤ 36 + 4 * length scopes + 22 * length edges
unfolding drawing_text open_line close_line
drawing_short dropped scopes edges near narrow =
    let a = length-append (dropped_if dropped) (open_line ++ (flat_map scope_line scopes ++ (flat_map edge_line edges ++ close_line))) in
    let b = length-append (flat_map scope_line scopes) (flat_map edge_line edges ++ close_line) in
    let c = length-append (flat_map edge_line edges) close_line in
    let d = dropped_short dropped in
    let e = scopes_short scopes near in
    let f = edges_short edges narrow in
    omega arith
