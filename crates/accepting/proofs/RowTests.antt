-- A test of every row of a listing, as code goes from row to row. Assumes nothing.
use Prim.Native.Nat.{ℕ, ◌≤◌}
use mathlib.Core.Path.{◌≡◌, sym, ap, ◌∙◌}
use mathlib.Core.Bool.{Bool, true, false}
use mathlib.Core.Option.{none}
use mathlib.Core.List.{List, [], ◌∷◌}
use lib.ListN.{length, drop}
use Rattle.scope_graph.specs.Rows.{any_of}
use Rattle.text_field.specs.Outcome.{refused, done}
use Rattle.text_field.proofs.Steps.{drop_end}
use Rattle.path_row.specs.declared.form.Step.{Step}
use Rattle.path_row.specs.declared.taken.Steps.{Steps}
use Rattle.path_row.specs.Form.{PathRow, row_here, steps_in, steps_taken, steps_held}
use Rattle.path_row.proofs.Promises.{held_are_taken}
use Rattle.judge.specs.declared.standing.Judged.{Judged}
use Rattle.judge.specs.Judge.{standing_in}
use Rattle.judge.specs.Steps.{judged_row}
use Rattle.judge.proofs.Calls.{RowRead_is}
use Rattle.graph_table.specs.declared.rows.QueryRow.{QueryRow}
use Rattle.board.specs.Queries.{query_on}
use Rattle.told.specs.Apart.{first_row, rows_in}
use Rattle.told.specs.Steps.{RowStands}
use Rattle.told.proofs.RowLaws.{rows_none, rows_some}
use Rattle.told.proofs.Printing.{ends_none}
use Rattle.scope_graph.specs.Own.{all_of}
use Rattle.accepting.specs.Tests.{is_visible, row_visible}
use Rattle.accepting.specs.Steps.{visible_by, text_visible}

-- the rows from a place on: none, or one and those after it
module _ (s : List ℕ) (at : ℕ) where
  pub no_rows : first_row (drop at s) ≡ none → (rows_in (drop at s)).0 ≡ []
  no_rows e = ap (λ (p : List PathRow × List ℕ). p.0) (rows_none (drop at s) e)

  pub rows_out : length s ≤ at → (rows_in (drop at s)).0 ≡ []
  rows_out h = no_rows (ap first_row (drop_end s at h) ∙ ends_none)

  pub rows_on : (end next : ℕ) (w : RowStands s at end next) → (rows_in (drop at s)).0 ≡ w.row ∷ (rows_in (drop next s)).0
  rows_on end next w = ap (λ (p : List PathRow × List ℕ). p.0) (rows_some (drop at s) w.row (drop next s) w.first)

-- a test that all of them meet
module _ (f : PathRow → Bool) (s : List ℕ) (at : ℕ) where
  pub all_end : (rows_in (drop at s)).0 ≡ [] → true ≡ all_of f (rows_in (drop at s)).0
  unfolding all_of
  all_end e = sym (ap (all_of f) e)

  module _ (end next : ℕ) (w : RowStands s at end next) where
    pub all_no : f w.row ≡ false → false ≡ all_of f (rows_in (drop at s)).0
    unfolding all_of
    all_no e = sym (ap (all_of f) (rows_on s at end next w) ∙ rw e)

    pub all_yes : f w.row ≡ true → all_of f (rows_in (drop next s)).0 ≡ all_of f (rows_in (drop at s)).0
    unfolding all_of
    all_yes e = sym (ap (all_of f) (rows_on s at end next w) ∙ rw e)

-- a test that some of them meets
module _ (f : PathRow → Bool) (s : List ℕ) (at : ℕ) where
  pub any_end : (rows_in (drop at s)).0 ≡ [] → false ≡ any_of f (rows_in (drop at s)).0
  unfolding any_of
  any_end e = sym (ap (any_of f) e)

  module _ (end next : ℕ) (w : RowStands s at end next) where
    pub any_yes : f w.row ≡ true → true ≡ any_of f (rows_in (drop at s)).0
    unfolding any_of
    any_yes e = sym (ap (any_of f) (rows_on s at end next w) ∙ rw (e, any_of))

    pub any_no : f w.row ≡ false → any_of f (rows_in (drop next s)).0 ≡ any_of f (rows_in (drop at s)).0
    unfolding any_of
    any_no e = sym (ap (any_of f) (rows_on s at end next w) ∙ rw (e, any_of))

-- the judge's answer for a row's text
module _ (cells : List ℕ) (q : QueryRow) (row : List ℕ) where
  pub text_none : row_here row ≡ refused 8 → false ≡ text_visible cells (query_on cells q) row
  unfolding visible_by
  text_none e = sym (ap (visible_by cells (query_on cells q)) e)

  pub text_judged : (mark start count : ℕ) → RowRead_is row mark start count → (t : Steps) → t ≡ steps_held (steps_in row) → (ss : List Step) → ss ≡ steps_taken t
      → (j : Judged) → standing_in j ≡ judged_row cells q mark start ss → (r : Bool) → r ≡ is_visible (standing_in j)
      → r ≡ text_visible cells (query_on cells q) row
  unfolding visible_by row_visible
  text_judged mark start count w t held ss taken j e r is =
      let same : ss ≡ steps_in row = taken ∙ ap steps_taken held ∙ held_are_taken (steps_in row) in
      is ∙ ap is_visible (e ∙ ap (judged_row cells q mark start) same) ∙ sym (ap (visible_by cells (query_on cells q)) w.read)

  -- what the text says of its row
  pub text_tells : (r : PathRow) → row_here row ≡ done r → (b c : Bool) → b ≡ text_visible cells (query_on cells q) row → b ≡ c → row_visible cells (query_on cells q) r ≡ c
  unfolding visible_by
  text_tells r e b c is to = sym (ap (visible_by cells (query_on cells q)) e) ∙ sym is ∙ to
