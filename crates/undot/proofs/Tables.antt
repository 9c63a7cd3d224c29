-- A formed table with other edge rows. Assumes nothing.
use Prim.Native.Nat.{ℕ, ◌≤◌, ◌<◌}
use mathlib.Core.Path.{◌≡◌, refl, sym, ap, ◌∙◌}
use mathlib.Core.List.Memᴰ
use mathlib.Core.List.{List, [], ◌∷◌, map}
use mathlib.Core.Logic.{⊎_elim}
use native.Mathlib.Omega.{arith}
use lib.Dec.{eqb}
use lib.ListN.{length, get_or, drop}
use borrow.Author.Tests.{eqb-true, eqb-false, eq-eqb, ne_eqb}
use Rattle.scope_graph.proofs.Lists.{Two}
use Rattle.graph_rows.specs.Format.{section_at, edges, sections, label_section, pair_section, count_section, edge_section, table_cells}
use Rattle.graph_rows.specs.Admission.{Row, value, blank}
use Rattle.graph_rows.specs.Tested.{form_in}
use Rattle.graph_rows.specs.Accepted.{AcceptedTable}
use Rattle.graph_rows.specs.Decode.{rows_in, letters_of, scopes_of, section_place}
use Rattle.graph_rows.specs.Table.{rows_at, letters_at}
use Rattle.graph_rows.specs.Formed.{cells_of, table_of, FormedSection, FormedTable, replaced}
use Rattle.graph_file.specs.File.{WasRead}
use Rattle.graph_file.proofs.Promises.{read_formed, formed_written, written_accepted}
use Rattle.graph_change.specs.Changed.{with_rows}
use Rattle.graph_change.specs.Promises.{ChangedAt, scopes_at}
use Rattle.graph_change.proofs.SectionLaws.{sections_same}
use Rattle.graph_change.proofs.TableLaws.{rows_put}
use Rattle.graph_change.proofs.FormedLaws.{formed_replaced}
use Rattle.undot.specs.Undrawn.{with_edges}
use Rattle.undot.specs.Rows.{without_edges}
use Rattle.undot.proofs.Places.{five, labels_are}

-- the sections stand apart
pub not_edges : (k : ℕ) → k < 5 → ¬ (k ≡ edge_section)
not_edges k h e = omega arith

pub not_labels : ¬ (edge_section ≡ label_section)
not_labels e = omega arith

pub not_count : ¬ (edge_section ≡ count_section)
not_count e = omega arith

pub not_pairs : {A : Type 0} → edge_section ≡ pair_section → A
not_pairs e = absurd (omega arith)

-- tables with the same form and the same rows are one
pub same_table : (form other : ℕ) (rows others : ℕ → List Row) → form ≡ other → ((k : ℕ) → k < 9 → rows k ≡ others k) → table_of form rows ≡ table_of other others
unfolding table_of
same_table form other rows others e h = rw e (ap (λ (l : List ℕ). other ∷ l) (sections_same 9 0 rows others (λ i a b. h i (omega arith))))

pub replaced_own : (k : ℕ) (new : List Row) (rows : ℕ → List Row) → replaced k new rows k ≡ new
unfolding replaced
replaced_own k new rows = rw (eq-eqb k k refl, replaced)

pub replaced_other : (k : ℕ) (new : List Row) (rows : ℕ → List Row) (j : ℕ) → ¬ (j ≡ k) → replaced k new rows j ≡ rows j
unfolding replaced
replaced_other k new rows j n = rw (ne_eqb j k n, replaced)

-- whether a section is the edges', and then or else what holds of it
pub by_section : {A : Type 0} (j : ℕ) → (j ≡ edge_section → A) → (¬ (j ≡ edge_section) → A) → A
by_section j f g = ⊎_elim (λ e. f (eqb-true j edge_section e)) (λ e. g (eqb-false j edge_section e)) (Two (eqb j edge_section))

pub read_table : (cells : List ℕ) → WasRead cells → FormedTable cells
read_table cells was = read_formed was.0 cells was.1

module _ (cells : List ℕ) (t : FormedTable cells) where
  pub accepted : AcceptedTable cells
  accepted = let w = formed_written cells t in written_accepted cells w.0 w.1

  pub size_most : length cells ≤ table_cells
  size_most = accepted.size_most

  -- the letters, as the code looks for one
  pub letters_at_lem : letters_at (length (letters_of cells)) (drop 1 cells) ≡ letters_of cells
  unfolding letters_at letters_of section_place
  letters_at_lem =
      ap (λ (n : ℕ). map (λ (row : Row). value row 0) (rows_at n (drop 1 cells))) (labels_are cells t)
      ∙ ap (λ (rows : List Row). map (λ (row : Row). value row 0) rows) (accepted.places label_section (omega arith))

  -- the table with some edge rows, by its sections
  with_is : (rows : List Row) → with_edges cells rows ≡ table_of (form_in cells) (replaced edge_section rows (λ k. rows_in k cells))
  unfolding with_edges
  with_is rows =
      ap (λ (c : List ℕ). with_rows edge_section (cells_of edge_section rows) c) t.in_turn
      ∙ rows_put (form_in cells) (λ k. rows_in k cells) (five cells t) edge_section (omega arith) rows

  -- its own rows leave it as it is
  pub with_own : with_edges cells (rows_in edge_section cells) ≡ cells
  with_own =
      with_is (rows_in edge_section cells)
      ∙ same_table (form_in cells) (form_in cells) (replaced edge_section (rows_in edge_section cells) (λ k. rows_in k cells)) (λ k. rows_in k cells) refl
      (λ k h. by_section k
      (λ e. rw e (replaced_own edge_section (rows_in edge_section cells) (λ k. rows_in k cells)))
      (λ n. replaced_other edge_section (rows_in edge_section cells) (λ k. rows_in k cells) k n))
      ∙ sym t.in_turn

-- rows put in once more replace those put in before
pub with_again : (cells : List ℕ) → FormedTable cells → (new : List Row) (changed : List ℕ) → ChangedAt edge_section new cells changed
    → (rows : List Row) → with_edges changed rows ≡ with_edges cells rows
with_again cells t new changed c rows =
    with_is changed c.formed rows
    ∙ same_table (form_in changed) (form_in cells) (replaced edge_section rows (λ k. rows_in k changed)) (replaced edge_section rows (λ k. rows_in k cells)) c.form
    (λ k h. by_section k
    (λ e. rw e (replaced_own edge_section rows (λ k. rows_in k changed) ∙ sym (replaced_own edge_section rows (λ k. rows_in k cells))))
    (λ n. replaced_other edge_section rows (λ k. rows_in k changed) k n ∙ c.others k h n ∙ sym (replaced_other edge_section rows (λ k. rows_in k cells) k n)))
    ∙ sym (with_is cells t rows)

-- what an edge's change leaves: the letters and the scopes
module _ (new : List Row) (cells changed : List ℕ) (c : ChangedAt edge_section new cells changed) where
  pub letters_stay : letters_of changed ≡ letters_of cells
  unfolding letters_of
  letters_stay = ap (λ (rows : List Row). map (λ (row : Row). value row 0) rows) (c.others label_section (omega arith) (λ e. omega arith))

  pub scopes_stay : scopes_of changed ≡ scopes_of cells
  unfolding scopes_of
  scopes_stay = ap (λ (rows : List Row). value (get_or rows 0 blank) 0) (c.others count_section (omega arith) (λ e. omega arith))

-- a table without its edges
module _ (cells : List ℕ) (t : FormedTable cells) where
  none_formed : FormedSection (length (rows_in label_section cells)) (scopes_at cells) (form_in cells) edge_section []
  unfolding section_at sections edges
  none_formed = record { each = λ row m. absurd (Memᴰ.not-nil m); in_turn = (tt, tt); least = omega arith; most = omega arith }

  pub none_left : ChangedAt edge_section [] cells (without_edges cells)
  unfolding without_edges cells_of
  none_left = formed_replaced cells t edge_section (omega arith) not_labels not_count [] none_formed (λ e. not_pairs e)
