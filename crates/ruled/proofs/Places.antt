-- Where the sections of a table that was read stand, and the table with other rules by its parts.
-- Assumes nothing.
use Prim.Native.Nat.{ℕ, zero, suc, ◌+◌, ◌*◌, ◌≤◌, ◌<◌}
use mathlib.Core.Path.{◌≡◌, refl, sym, ap, ◌∙◌}
use mathlib.Core.List.{List, [], ◌∷◌, ◌++◌, append_assoc}
use native.Mathlib.Omega.{arith}
use lib.ListN.{length, take, drop, length-append}
use lib.Seq.{take_at, drop_at}
use Rattle.scope_graph.specs.Language.{◌∈◌}
use Rattle.scope_graph.proofs.Lists.{here, there}
use Rattle.graph_rows.specs.Admission.{Row}
use Rattle.graph_rows.specs.Tested.{form_in}
use Rattle.graph_rows.specs.Decode.{rows_in}
use Rattle.graph_file.specs.File.{WasRead}
use Rattle.graph_rows.specs.Formed.{cells_of, cells_from, table_of, replaced, FormedTable}
use Rattle.graph_file.proofs.Promises.{read_formed}
use Rattle.graph_table.specs.Sections.{leading, start_of}
use Rattle.graph_table.proofs.Leading.{leading_few, leading_yes, leading_no, start_within}
use Rattle.path_rules.specs.declared.Rules.{Rules}
use Rattle.ruled.specs.Ruled.{transition_rows, accept_rows, ruled_rows, ruled_cells}
use Rattle.ruled.specs.Letters.{label_count}

pub start_at : (k : ℕ) (t : List ℕ) → 0 < length t → 1 + leading 0 k (drop 1 t) ≡ start_of k t
unfolding start_of
start_at k [] h = absurd (omega arith)
start_at k (x ∷ t) h = omega arith

-- one row of an earlier section, or of a later one
pass_row : (k s : ℕ) (row : Row) (l : List ℕ) → length row ≡ 5 → s < k → leading 0 k (s ∷ (row ++ l)) ≡ 6 + leading 0 k l
pass_row k s [] l f h = absurd (omega arith)
pass_row k s (a ∷ []) l f h = absurd (omega arith)
pass_row k s (a ∷ b ∷ []) l f h = absurd (omega arith)
pass_row k s (a ∷ b ∷ c ∷ []) l f h = absurd (omega arith)
pass_row k s (a ∷ b ∷ c ∷ d ∷ []) l f h = absurd (omega arith)
pass_row k s (a ∷ b ∷ c ∷ d ∷ e ∷ []) l f h = leading_yes 0 k (s ∷ a ∷ b ∷ c ∷ d ∷ e ∷ l) (omega arith) h
pass_row k s (a ∷ b ∷ c ∷ d ∷ e ∷ g ∷ row) l f h = absurd (omega arith)

stop_row : (k s : ℕ) (row : Row) (l : List ℕ) → length row ≡ 5 → k ≤ s → leading 0 k (s ∷ (row ++ l)) ≡ 0
stop_row k s [] l f h = absurd (omega arith)
stop_row k s (a ∷ []) l f h = absurd (omega arith)
stop_row k s (a ∷ b ∷ []) l f h = absurd (omega arith)
stop_row k s (a ∷ b ∷ c ∷ []) l f h = absurd (omega arith)
stop_row k s (a ∷ b ∷ c ∷ d ∷ []) l f h = absurd (omega arith)
stop_row k s (a ∷ b ∷ c ∷ d ∷ e ∷ []) l f h = leading_no 0 k (s ∷ a ∷ b ∷ c ∷ d ∷ e ∷ l) (omega arith) h
stop_row k s (a ∷ b ∷ c ∷ d ∷ e ∷ g ∷ row) l f h = absurd (omega arith)

-- each row has five values
abbrev pub Five : List Row → Type 0
Five rows = (row : Row) → row ∈ rows → length row ≡ 5

pub cells_size : (s : ℕ) (rows : List Row) → Five rows → length (cells_of s rows) ≡ 6 * length rows
unfolding cells_of
cells_size s [] five = refl
cells_size s (row ∷ rows) five =
    let l = length-append row (cells_of s rows) in
    let f = five row here in
    let r = cells_size s rows (λ x m. five x (there m)) in
    omega arith

pass : (k s : ℕ) (rows : List Row) (rest : List ℕ) → s < k → Five rows → leading 0 k (cells_of s rows ++ rest) ≡ 6 * length rows + leading 0 k rest
unfolding cells_of
pass k s [] rest h five = omega arith
pass k s (row ∷ rows) rest h five =
    let r = pass k s rows rest h (λ x m. five x (there m)) in
    let e = pass_row k s row (cells_of s rows ++ rest) (five row here) h in
    ap (λ (l : List ℕ). leading 0 k (s ∷ l)) (append_assoc row (cells_of s rows) rest) ∙ e ∙ omega arith

stop : (k s : ℕ) (rows : List Row) (rest : List ℕ) → k ≤ s → Five rows → leading 0 k rest ≡ 0 → leading 0 k (cells_of s rows ++ rest) ≡ 0
unfolding cells_of
stop k s [] rest h five e = e
stop k s (row ∷ rows) rest h five e =
    ap (λ (l : List ℕ). leading 0 k (s ∷ l)) (append_assoc row (cells_of s rows) rest) ∙ stop_row k s row (cells_of s rows ++ rest) (five row here) h

stop_from : (left j k : ℕ) (rows : ℕ → List Row) → k ≤ j → ((i : ℕ) → j ≤ i → i < j + left → Five (rows i)) → leading 0 k (cells_from left j rows) ≡ 0
unfolding cells_from
stop_from zero j k rows h five = leading_few 0 k [] (omega arith)
stop_from (suc left) j k rows h five =
    stop k j (rows j) (cells_from left (suc j) rows) h (five j (omega arith) (omega arith))
    (stop_from left (suc j) k rows (omega arith) (λ i a b. five i (omega arith) (omega arith)))

-- a formed table by its sections
module _ (form : ℕ) (rows : ℕ → List Row) (five : (k : ℕ) → k < 9 → Five (rows k)) where
  abbrev n : ℕ → ℕ
  n k = length (rows k)

  abbrev above : List ℕ
  above = cells_of 0 (rows 0) ++ cells_of 1 (rows 1)

  abbrev between : List ℕ
  between = cells_of 2 (rows 2) ++ cells_of 3 (rows 3)

  abbrev behind : List ℕ
  behind = cells_from 5 4 rows

  table_is : table_of form rows ≡ (form ∷ above) ++ (between ++ behind)
  unfolding table_of cells_from
  table_is =
      ap (λ (l : List ℕ). form ∷ l) (
      ap (λ (l : List ℕ). cells_of 0 (rows 0) ++ (cells_of 1 (rows 1) ++ l)) (sym (append_assoc (cells_of 2 (rows 2)) (cells_of 3 (rows 3)) behind))
      ∙ sym (append_assoc (cells_of 0 (rows 0)) (cells_of 1 (rows 1)) (between ++ behind)))

  start_one : start_of 1 (table_of form rows) ≡ 1 + 6 * n 0
  unfolding start_of table_of cells_from
  start_one =
      let a = pass 1 0 (rows 0) (cells_from 8 1 rows) (omega arith) (five 0 (omega arith)) in
      let z = stop_from 8 1 1 rows (omega arith) (λ i a b. five i (omega arith)) in
      omega arith

  start_two : start_of 2 (table_of form rows) ≡ 1 + 6 * n 0 + 6 * n 1
  unfolding start_of table_of cells_from
  start_two =
      let a = pass 2 0 (rows 0) (cells_from 8 1 rows) (omega arith) (five 0 (omega arith)) in
      let b = pass 2 1 (rows 1) (cells_from 7 2 rows) (omega arith) (five 1 (omega arith)) in
      let z = stop_from 7 2 2 rows (omega arith) (λ i a b. five i (omega arith)) in
      omega arith

  start_four : start_of 4 (table_of form rows) ≡ 1 + 6 * n 0 + 6 * n 1 + 6 * n 2 + 6 * n 3
  unfolding start_of table_of cells_from
  start_four =
      let a = pass 4 0 (rows 0) (cells_from 8 1 rows) (omega arith) (five 0 (omega arith)) in
      let b = pass 4 1 (rows 1) (cells_from 7 2 rows) (omega arith) (five 1 (omega arith)) in
      let d = pass 4 2 (rows 2) (cells_from 6 3 rows) (omega arith) (five 2 (omega arith)) in
      let e = pass 4 3 (rows 3) (cells_from 5 4 rows) (omega arith) (five 3 (omega arith)) in
      let z = stop_from 5 4 4 rows (omega arith) (λ i a b. five i (omega arith)) in
      omega arith

  above_size : length (form ∷ above) ≡ start_of 2 (table_of form rows)
  above_size =
      let a = cells_size 0 (rows 0) (five 0 (omega arith)) in
      let b = cells_size 1 (rows 1) (five 1 (omega arith)) in
      let l = length-append (cells_of 0 (rows 0)) (cells_of 1 (rows 1)) in
      let s = start_two in
      omega arith

  between_size : length ((form ∷ above) ++ between) ≡ start_of 4 (table_of form rows)
  between_size =
      let a = cells_size 2 (rows 2) (five 2 (omega arith)) in
      let b = cells_size 3 (rows 3) (five 3 (omega arith)) in
      let l = length-append (cells_of 2 (rows 2)) (cells_of 3 (rows 3)) in
      let m = length-append (form ∷ above) between in
      let s = start_four in
      let t = start_two in
      let u = above_size in
      omega arith

  front_is : take (start_of 2 (table_of form rows)) (table_of form rows) ≡ form ∷ above
  front_is = ap (take (start_of 2 (table_of form rows))) table_is ∙ take_at (form ∷ above) (between ++ behind) (start_of 2 (table_of form rows)) above_size

  back_is : drop (start_of 4 (table_of form rows)) (table_of form rows) ≡ behind
  back_is =
      ap (drop (start_of 4 (table_of form rows))) (table_is ∙ sym (append_assoc (form ∷ above) between behind))
      ∙ drop_at ((form ∷ above) ++ between) behind (start_of 4 (table_of form rows)) between_size

  -- the table with other rules, by the parts that stay and the rows that come
  ruled_is : (r : Rules) → table_of form (ruled_rows r rows)
      ≡ (form ∷ above) ++ (cells_of 2 (transition_rows r (n 0)) ++ (cells_of 3 (accept_rows r) ++ behind))
  unfolding table_of cells_from ruled_rows replaced
  ruled_is r =
      ap (λ (l : List ℕ). form ∷ l)
      (sym (append_assoc (cells_of 0 (rows 0)) (cells_of 1 (rows 1)) (cells_of 2 (transition_rows r (n 0)) ++ (cells_of 3 (accept_rows r) ++ behind))))

-- of a table that was read
module _ (cells : List ℕ) (was : WasRead cells) where
  formed : FormedTable cells
  formed = read_formed was.0 cells was.1

  five_in : (k : ℕ) → k < 9 → Five (rows_in k cells)
  five_in k h row m = ((formed.rows.sections k h).each row m).five

  whole : cells ≡ table_of (form_in cells) (λ k. rows_in k cells)
  whole = formed.in_turn

  pub read_some : 0 < length cells
  unfolding table_of
  read_some = let e : length cells ≡ suc (length (cells_from 9 0 (λ k. rows_in k cells))) = ap length whole in omega arith

  labels_end : start_of 1 cells ≡ 1 + 6 * length (rows_in 0 cells)
  labels_end = ap (start_of 1) whole ∙ start_one (form_in cells) (λ k. rows_in k cells) five_in

  pub count_is : label_count cells ≡ length (rows_in 0 cells)
  unfolding label_count
  count_is = let s = labels_end in omega arith

  pub labels_within : 1 + 6 * label_count cells ≤ length cells
  labels_within = let s = labels_end in let n = count_is in let w = start_within 1 cells in omega arith

  pub ruled_parts : (r : Rules)
      → ruled_cells r cells ≡ take (start_of 2 cells) cells ++ (cells_of 2 (transition_rows r (label_count cells)) ++ (cells_of 3 (accept_rows r) ++ drop (start_of 4 cells) cells))
  unfolding ruled_cells
  ruled_parts r =
      let front : take (start_of 2 cells) cells ≡ form_in cells ∷ above (form_in cells) (λ k. rows_in k cells) five_in =
      ap (λ (l : List ℕ). take (start_of 2 l) l) whole ∙ front_is (form_in cells) (λ k. rows_in k cells) five_in in
      let back : drop (start_of 4 cells) cells ≡ behind (form_in cells) (λ k. rows_in k cells) five_in =
      ap (λ (l : List ℕ). drop (start_of 4 l) l) whole ∙ back_is (form_in cells) (λ k. rows_in k cells) five_in in
      ruled_is (form_in cells) (λ k. rows_in k cells) five_in r
      ∙ ap (λ (l : List ℕ). l ++ (cells_of 2 (transition_rows r (length (rows_in 0 cells))) ++ (cells_of 3 (accept_rows r) ++ behind (form_in cells) (λ k. rows_in k cells) five_in))) (sym front)
      ∙ ap (λ (l : List ℕ). take (start_of 2 cells) cells ++ (cells_of 2 (transition_rows r (length (rows_in 0 cells))) ++ (cells_of 3 (accept_rows r) ++ l))) (sym back)
      ∙ ap (λ (j : ℕ). take (start_of 2 cells) cells ++ (cells_of 2 (transition_rows r j) ++ (cells_of 3 (accept_rows r) ++ drop (start_of 4 cells) cells))) (sym count_is)
