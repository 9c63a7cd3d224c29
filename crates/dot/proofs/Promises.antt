-- The promises of a drawing. Assumes nothing.
use Prim.Native.Nat.{ℕ, ◌≤◌, ◌<◌}
use mathlib.Core.Path.{◌≡◌, refl, sym, ap, subst, ◌∙◌}
use mathlib.Core.Logic.{⊎_elim}
use mathlib.Core.Bool.{true, false, not}
use mathlib.Core.Option.{Option, some}
use mathlib.Core.List.{List, ◌++◌, flat_map}
use native.Mathlib.Omega.{arith}
use borrow.Author.Tests.{eqb-false, ne_eqb}
use lib.Dec.{eqb}
use lib.ListN.{length, get_or}
use Rattle.scope_graph.specs.Readers.{numbers_below}
use Rattle.scope_graph.proofs.Lists.{Two, true_false, not_is, is_not, map_intro, map_elim}
use Rattle.text_field.specs.Number.{digits_of, number_text}
use Rattle.text_field.specs.Outcome.{Outcome, refused, done, and_then}
use Rattle.text_field.specs.Answer.{answer}
use Rattle.text_field.proofs.AnswerLaws.{answer_short, answer_fits}
use Rattle.graph_rows.specs.Format.{edge_section}
use Rattle.graph_rows.specs.Admission.{value}
use Rattle.graph_rows.specs.Order.{some_row}
use Rattle.graph_rows.specs.Decode.{kept_if, rows_among, rows_in, letters_of, rules_of, scopes_of, edge_of, graph_of}
use Rattle.graph_rows.specs.Formed.{other_turn, other_turns}
use Rattle.graph_rows.proofs.DecodeOrder.{some_row_lem, some_none}
use Rattle.graph_table.proofs.Tests.{below_or}
use Rattle.graph_file.specs.File.{read_cells}
use Rattle.board.specs.Example.{example_text}
use Rattle.board.proofs.Example.{example_cells, example_read}
use Rattle.dot_text.specs.Tokens.{comment}
use Rattle.dot.specs.Drawing.{dropped_if, open_line, scope_line, edge_line, close_line, drawing_text, drawn_edge, drawn_edges, drawing_of, dot_of}
use Rattle.dot.specs.Promises.{Begins, Turned, TurnsTold, Refusals, Longest, InFile, EdgesInFile, example_drawing, ExampleDrawn, Promises}
use Rattle.dot.proofs.Found.{row_in_file, drawing_most}

-- the line about turns
one_turn : (v : ℕ) → ◌≡◌ {A = Option ℕ} (some v) (some 0) → v ≡ 0
one_turn v e = cc

module _ (cells : List ℕ) where
  turned_found : other_turns cells ≡ true → Turned cells
  unfolding other_turns other_turn graph_of edge_of
  turned_found h =
      let r = some_row_lem other_turn (rows_in edge_section cells) h in
      record {
        edge = edge_of (rules_of cells) r.0;
        stands = map_intro (edge_of (rules_of cells)) r.1;
        turned = λ e. eqb-false (value r.0 3) 0 (not_is (eqb (value r.0 3) 0) r.2) (one_turn (value r.0 3) e);
      }

  turned_told : Turned cells → other_turns cells ≡ true
  unfolding other_turns other_turn graph_of edge_of
  turned_told k =
      let r = map_elim (edge_of (rules_of cells)) (rows_in edge_section cells) k.stands in
      let other : not (eqb (value r.0 3) 0) ≡ true =
      is_not (eqb (value r.0 3) 0)
      (ne_eqb (value r.0 3) 0 (λ z. k.turned (ap (λ e. e.step.turn) r.2 ∙ ap {B = Option ℕ} (λ (v : ℕ). some v) z))) in
      ⊎_elim (λ (y : some_row other_turn (rows_in edge_section cells) ≡ true). y)
      (λ (n : some_row other_turn (rows_in edge_section cells) ≡ false). absurd (true_false other (some_none other_turn (rows_in edge_section cells) n r.0 r.1)))
      (Two (some_row other_turn (rows_in edge_section cells)))

  after_head : List ℕ
  after_head = flat_map scope_line (numbers_below (scopes_of cells)) ++ (flat_map edge_line (drawn_edges cells) ++ close_line)

  by_head : drawing_of cells ≡ dropped_if (other_turns cells) ++ (open_line ++ after_head)
  unfolding drawing_of drawing_text after_head
  by_head = refl

  begins : other_turns cells ≡ true → Begins comment (drawing_of cells)
  unfolding dropped_if
  begins h = (open_line ++ after_head, by_head ∙ rw h)

  begins_not : other_turns cells ≡ false → Begins comment (drawing_of cells) → ⊥
  unfolding dropped_if open_line
  begins_not h b =
      let e : open_line ++ after_head ≡ comment ++ b.0 = sym (by_head ∙ rw h) ∙ b.1 in
      let first : ◌≡◌ {A = ℕ} 100 47 = ap (λ (l : List ℕ). get_or l 0 0) e in
      omega arith

turns_told : TurnsTold
turns_told cells = (
  (λ b.
      ⊎_elim (λ (y : other_turns cells ≡ true). turned_found cells y)
      (λ (n : other_turns cells ≡ false). absurd (begins_not cells n b))
      (Two (other_turns cells))),
  (λ k. begins cells (turned_told cells k)),
)

-- what refuses
number : (m n : ℕ) → ◌≡◌ {A = Outcome ℕ} (refused m) (refused n) → m ≡ n
number m n e = cc

not_refused : (m n : ℕ) → ◌≡◌ {A = Outcome ℕ} (done m) (refused n) → ⊥
not_refused m n e = let z : ◌≡◌ {A = ℕ} 0 1 = cc in omega arith

module _ (text : List ℕ) where
  read_refused : (n : ℕ) → read_cells text ≡ refused n → dot_of text ≡ refused n
  unfolding dot_of and_then
  read_refused n e = rw e

  read_drawn : (cells : List ℕ) → read_cells text ≡ done cells → dot_of text ≡ done (drawing_of cells)
  unfolding dot_of and_then
  read_drawn cells e = rw e

  module _ (cells : List ℕ) (e : read_cells text ≡ done cells) (room n : ℕ) where
    nine_only : answer (dot_of text) room ≡ refused n → (n ≡ 9) × (room < length (drawing_of cells))
    nine_only h =
        ⊎_elim
        (λ (short : room < length (drawing_of cells)).
        (number n 9 (sym h ∙ sym (answer_short (dot_of text) (drawing_of cells) (read_drawn cells e) room short)), short))
        (λ (fits : length (drawing_of cells) ≤ room).
        absurd (not_refused _ n (answer_fits (dot_of text) (drawing_of cells) (read_drawn cells e) room _ refl fits ∙ h)))
        (below_or room (length (drawing_of cells)))

    nine_so : (n ≡ 9) × (room < length (drawing_of cells)) → answer (dot_of text) room ≡ refused n
    nine_so h =
        sym (answer_short (dot_of text) (drawing_of cells) (read_drawn cells e) room h.1) ∙ ap {B = Outcome ℕ} (λ (k : ℕ). refused k) (sym h.0)

refusals : Refusals
refusals = record {
  reading = read_refused;
  read = read_drawn;
  nine = λ text cells e room n. (nine_only text cells e room n, nine_so text cells e room n);
}

longest : Longest
longest text cells e = drawing_most cells (text, e)

in_file : EdgesInFile
unfolding drawn_edges
in_file text cells e d m =
    let r = map_elim (drawn_edge (letters_of cells)) (rows_in edge_section cells) m in
    subst (InFile cells) (sym r.2) (row_in_file cells (text, e) r.0 r.1)

-- the example, computed by the checker
drawn_at_once : drawing_of example_cells ≡ example_drawing
unfolding flat_map rows_in rows_among kept_if letters_of scopes_of some_row other_turn other_turns numbers_below digits_of number_text dropped_if open_line scope_line edge_line close_line drawing_text drawn_edge drawn_edges drawing_of
drawn_at_once = refl

example : ExampleDrawn
example = read_drawn example_text example_cells example_read ∙ ap {B = Outcome (List ℕ)} (λ (l : List ℕ). done l) drawn_at_once

pub promises : Promises
promises = record {
  turns = turns_told;
  refusals = refusals;
  longest = longest;
  in_file = in_file;
  example = example;
}
