-- The bytes that the code takes for letters are the letters of the table. Assumes nothing.
use Prim.Native.Nat.{ℕ, zero, suc, ◌+◌, ◌*◌, ◌%◌, ◌≤◌, ◌<◌}
use mathlib.Core.Path.{◌≡◌, refl, sym, ap, ◌∙◌}
use mathlib.Core.Bool.{true}
use mathlib.Core.List.{List, [], ◌∷◌, map}
use native.Mathlib.Omega.{arith}
use lib.Dec.{leb}
use lib.ListN.{length, get_or, take, drop, length-map}
use lib.Seq.{get_or-drop, ext_get_or}
use borrow.Author.Tests.{leb-true}
use Rattle.scope_graph.specs.Language.{◌∈◌}
use Rattle.scope_graph.proofs.Lists.{here, there, and_right}
use Rattle.text_field.specs.Bytes.{within, is_capital}
use Rattle.graph_rows.specs.Format.{letter, field, shapes_of, shape_at, label_section}
use Rattle.graph_rows.specs.Admission.{Row, value, row_of}
use Rattle.graph_rows.specs.Values.{field_formed, item_formed}
use Rattle.graph_rows.specs.Accepted.{AcceptedTable}
use Rattle.graph_rows.specs.Decode.{rows_in, letters_of, rules_of, section_place}
use Rattle.graph_file.specs.File.{WasRead}
use Rattle.graph_rows.specs.Table.{rows_at}
use Rattle.graph_file.proofs.Promises.{read_accepted, items_formed}
use Rattle.path_rules.specs.Parts.{tabulate}
use Rattle.path_rules.proofs.Fill.{tabulate_length, tabulate_at}
use Rattle.ruled.specs.Letters.{letter_byte, label_count}
use Rattle.ruled.proofs.Places.{count_is, labels_within}

abbrev firsts : List Row → List ℕ
firsts rows = map (λ (row : Row). value row 0) rows

letter_of_lem : (n : ℕ) (l : List ℕ) (i : ℕ) → i < n → get_or (firsts (rows_at n l)) i 0 ≡ get_or l (6 * i + 1) 0
unfolding rows_at row_of
letter_of_lem zero l i h = absurd (omega arith)
letter_of_lem (suc n) l zero h = refl
letter_of_lem (suc n) l (suc i) h =
    let on : 6 + (6 * i + 1) ≡ 6 * suc i + 1 = omega arith in
    letter_of_lem n (drop 6 l) i (omega arith) ∙ get_or-drop 6 l (6 * i + 1) 0 ∙ ap (λ (j : ℕ). get_or l j 0) on

bytes_only : (rows : List Row) → ((row : Row) → row ∈ rows → value row 0 < 256) → (i : ℕ) → get_or (firsts rows) i 0 < 256
bytes_only [] h i = omega arith
bytes_only (row ∷ rows) h zero = h row here
bytes_only (row ∷ rows) h (suc i) = bytes_only rows (λ x m. h x (there m)) i

capital_byte : (v : ℕ) → is_capital v ≡ true → v < 256
unfolding is_capital within
capital_byte v e = let most = leb-true v 90 (and_right (leb 65 v) (leb v 90) e) in omega arith

module _ (cells : List ℕ) (was : WasRead cells) where
  accepted : AcceptedTable cells
  accepted = read_accepted was.0 cells was.1

  pub labels_are : length (letters_of cells) ≡ length (rows_in 0 cells)
  unfolding letters_of
  labels_are = length-map (rows_in label_section cells) (λ (row : Row). value row 0)

  pub letters_most : length (letters_of cells) ≤ 8
  unfolding rules_of
  letters_most = accepted.labels

  pub count_most : label_count cells ≤ 8
  count_most = let a = count_is cells was in let b = labels_are in let d = letters_most in omega arith

  row_byte : (row : Row) → row ∈ rows_in label_section cells → value row 0 < 256
  unfolding shape_at shapes_of item_formed field_formed
  row_byte row m = capital_byte (value row 0) (items_formed label_section (omega arith) was.0 cells was.1 row m (field letter 0) here)

  letter_at : (i : ℕ) → i < length (rows_in 0 cells) → get_or (letters_of cells) i 0 ≡ get_or cells (1 + 6 * i + 1) 0
  unfolding letters_of section_place
  letter_at i h =
      let on : 1 + (6 * i + 1) ≡ 1 + 6 * i + 1 = omega arith in
      ap (λ (rows : List Row). get_or (firsts rows) i 0) (sym (accepted.places 0 (omega arith)))
      ∙ letter_of_lem (length (rows_in 0 cells)) (drop 1 cells) i h
      ∙ get_or-drop 1 cells (6 * i + 1) 0
      ∙ ap (λ (j : ℕ). get_or cells j 0) on

  letter_byte_lem : (i : ℕ) → i < length (rows_in 0 cells) → letter_byte cells i ≡ get_or (letters_of cells) i 0
  unfolding letter_byte letters_of
  letter_byte_lem i h =
      let e : get_or (letters_of cells) i 0 ≡ get_or cells (1 + 6 * i + 1) 0 = letter_at i h in
      let small : get_or (letters_of cells) i 0 < 256 = bytes_only (rows_in label_section cells) row_byte i in
      let same : get_or cells (1 + 6 * i + 1) 0 % 256 ≡ get_or cells (1 + 6 * i + 1) 0 = omega arith in
      same ∙ sym e

  letters_taken : tabulate (letter_byte cells) (label_count cells) ≡ letters_of cells
  letters_taken =
      let n = count_is cells was in
      let m = labels_are in
      let size = tabulate_length (letter_byte cells) (label_count cells) in
      ext_get_or 0 (tabulate (letter_byte cells) (label_count cells)) (letters_of cells) (omega arith)
      (λ i h. tabulate_at (letter_byte cells) (label_count cells) i 0 (omega arith) ∙ letter_byte_lem i (omega arith))

  -- what the code counts, and the bytes that it holds
  module _ (n : ℕ) (count : n ≡ label_count cells) where
    pub few_labels : (n ≤ 8) × (1 + 6 * n ≤ length cells)
    few_labels = let most = count_most in let w = labels_within cells was in (omega arith, omega arith)

    pub few_letters : (bytes : List ℕ) → length bytes ≡ 8 → n ≤ length bytes
    few_letters bytes size = let most = count_most in omega arith

    pub letters_are : (bytes : List ℕ) → take n bytes ≡ tabulate (letter_byte cells) n → take n bytes ≡ letters_of cells
    letters_are bytes all = all ∙ ap (tabulate (letter_byte cells)) count ∙ letters_taken
