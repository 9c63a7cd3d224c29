-- An admitted table, by the rows of its sections: limits, ranges, order. Assumes nothing.
use Prim.Native.Nat.{ℕ, ◌≤◌, ◌<◌}
use mathlib.Core.Path.{◌≡◌, refl, sym, ap, ◌∙◌}
use mathlib.Core.Bool.{true, false}
use mathlib.Core.Logic.{inl}
use mathlib.Core.List.{List, [], ◌∷◌, ◌++◌, map, append-nil}
use native.Mathlib.Omega.{arith}
use lib.ListN.{length, get_or, drop}
use lib.Seq.{append_snoc}
use Rattle.scope_graph.specs.Language.{◌∈◌}
use Rattle.scope_graph.specs.Path.{Distinct}
use Rattle.scope_graph.specs.Listing.{Pairwise}
use Rattle.graph_rows.specs.Format.{scope_count, sections, section_at, shape_at, label_section, pair_section, count_section, edge_section}
use Rattle.graph_rows.specs.Admission.{Row, value, blank, Sofar, nothing, begun, joined, counted, taken, in_range, same_edge}
use Rattle.graph_rows.specs.Values.{formed}
use Rattle.graph_rows.specs.Order.{order_fault}
use Rattle.graph_rows.specs.Decode.{rows_among, rows_in, letters_of, scopes_of}
use Rattle.graph_rows.proofs.DecodeWay.{sofar_after, AdmittedTable}
use Rattle.graph_rows.proofs.KeyLaws.{KeyBefore}
use Rattle.graph_rows.proofs.DecodeRows.{Ascends, rows_stand, rows_limit, rows_in_range, rows_ascend, rows_once}
use Rattle.graph_rows.proofs.ApartLaws.{rows_apart}
use Rattle.graph_rows.proofs.DecodeSections.{gathered, among_sections, SectionAt, section_at_lem, fold, folded}

-- the one row of a list of one
one_row_lem : (rows : List Row) → 1 ≤ length rows → length rows ≤ 1 → rows ≡ get_or rows 0 blank ∷ []
one_row_lem [] h k = absurd (omega arith)
one_row_lem (row ∷ []) h k = refl
one_row_lem (row ∷ next ∷ rows) h k = absurd (omega arith)

fold_end : {A : Type 0} (v : Row → A) (a : List A) (rows : List Row) → fold (λ (xs : List A) row. xs ++ (v row ∷ [])) a rows ≡ a ++ map v rows
unfolding fold
fold_end v a [] = sym (append-nil a)
fold_end v a (row ∷ rows) = fold_end v (a ++ (v row ∷ [])) rows ∙ append_snoc a (v row) (map v rows)

map_itself : (rows : List Row) → map (λ (row : Row). row) rows ≡ rows
map_itself [] = refl
map_itself (row ∷ rows) = ap (λ (l : List Row). row ∷ l) (map_itself rows)

-- the order pairs at the end are the rows of their section
pub pairs_gathered : (sections : List (List Row)) → (sofar_after 0 nothing sections).pairs ≡ gathered pair_section 0 sections
unfolding nothing begun taken joined
pairs_gathered sections =
    folded (λ (st : Sofar). st.pairs) (λ xs row. xs ++ (row ∷ [])) pair_section
    (λ k st row e. rw e) (λ k st row e. rw e) (λ st. refl) 0 nothing sections
    ∙ fold_end (λ (row : Row). row) [] (gathered pair_section 0 sections)
    ∙ map_itself (gathered pair_section 0 sections)

module _ (cells : List ℕ) (t : AdmittedTable cells) where
  -- what the rows leave at the table's end
  pub at_end : Sofar
  at_end = sofar_after 0 nothing t.sections

  pub rows_are : (k : ℕ) → gathered k 0 t.sections ≡ rows_in k cells
  unfolding rows_in
  rows_are k =
      sym (among_sections t.form k 0 nothing t.sections t.admitted)
      ∙ ap (λ (l : List ℕ). rows_among k (drop 1 l)) (sym t.cells_are)

  pub section_in : (k : ℕ) → k < 9 → SectionAt t.form at_end k (rows_in k cells)
  unfolding at_end nothing begun
  section_in k h =
      let c = t.count in
      rw (rows_are k) at (section_at_lem t.form k 0 nothing t.sections t.admitted (inl refl) (omega arith) (omega arith))

  end_letters : at_end.letters ≡ letters_of cells
  unfolding at_end nothing begun taken joined letters_of
  end_letters =
      folded (λ (st : Sofar). st.letters) (λ xs row. xs ++ (value row 0 ∷ [])) label_section
      (λ k st row e. rw e) (λ k st row e. rw e) (λ st. refl) 0 nothing t.sections
      ∙ fold_end (λ (row : Row). value row 0) [] (gathered label_section 0 t.sections)
      ∙ ap (map (λ (row : Row). value row 0)) (rows_are label_section)

  end_pairs : at_end.pairs ≡ rows_in pair_section cells
  unfolding at_end
  end_pairs = pairs_gathered t.sections ∙ rows_are pair_section

  -- a section has no more rows than its limit
  pub table_limit : (k : ℕ) → k < 9 → length (rows_in k cells) ≤ (section_at k).most
  unfolding begun
  table_limit k h = let s = section_in k h in let l = rows_limit t.form k (begun s.before) (rows_in k cells) s.admitted (omega arith) in omega arith

  -- the count has one row, no less and no more
  pub table_count : rows_in count_section cells ≡ get_or (rows_in count_section cells) 0 blank ∷ []
  unfolding section_at sections scope_count
  table_count = one_row_lem (rows_in count_section cells) (section_in count_section (omega arith)).enough (table_limit count_section (omega arith))

  end_scopes : at_end.scopes ≡ scopes_of cells
  unfolding at_end nothing begun taken counted fold scopes_of
  end_scopes =
      folded (λ (st : Sofar). st.scopes) (λ n row. value row 0) count_section
      (λ k st row e. rw e) (λ k st row e. rw e) (λ st. refl) 0 nothing t.sections
      ∙ ap (fold (λ n row. value row 0) 0) (rows_are count_section ∙ table_count)

  -- every row is in range by all the labels and the count of scopes
  pub table_in_range : (k : ℕ) → k < 9 → (row : Row) → row ∈ rows_in k cells → in_range (length (letters_of cells)) (scopes_of cells) (shape_at t.form k).row row ≡ true
  table_in_range k h row m =
      let s = section_in k h in
      rw (end_letters, end_scopes) at (rows_in_range t.form k (begun s.before) at_end (rows_in k cells) s.admitted s.fresh s.grows row m)

  -- every row has a text
  pub table_formed : (k : ℕ) → k < 9 → (row : Row) → row ∈ rows_in k cells → formed (shape_at t.form k).row row ≡ true
  table_formed k h row m = let s = section_in k h in (rows_stand t.form k (begun s.before) (rows_in k cells) s.admitted row m).1

  -- the rows of a section that is to ascend do so by its key
  pub table_ascends : (k : ℕ) → k < 9 → Ascends (section_at k).sequence → Pairwise (KeyBefore (section_at k).key) (rows_in k cells)
  table_ascends k h a = let s = section_in k h in rows_ascend t.form k (begun s.before) (rows_in k cells) a s.admitted

  -- no edge stands twice
  pub table_apart : Pairwise (λ (a b : Row). same_edge a b ≡ false) (rows_in edge_section cells)
  unfolding begun
  table_apart = let s = section_in edge_section (omega arith) in (rows_apart t.form (begun s.before) (rows_in edge_section cells) s.admitted).1

  -- refusal 6 is not met
  pub table_order_lem : order_fault (rows_in pair_section cells) ≡ false
  unfolding at_end
  table_order_lem = rw end_pairs at t.order

  -- a label stands once
  pub table_letters : Distinct (letters_of cells)
  unfolding letters_of
  table_letters = let s = section_in label_section (omega arith) in (rows_once t.form (begun s.before) (rows_in label_section cells) s.admitted).1
