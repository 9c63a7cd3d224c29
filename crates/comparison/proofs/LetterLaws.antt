-- A letter's number over the board's block, label by label; and that the letters of the block of a
-- table that was read are the file's. Assumes nothing.
use mathlib.Core.Path.{◌≡◌, refl, sym, ap, ◌∙◌}
use mathlib.Core.List.{List, [], ◌∷◌}
use Prim.Native.Nat.{ℕ, zero, suc, ◌+◌, ◌-◌, ◌%◌, ◌≤◌, ◌<◌}
use native.Mathlib.Omega.{arith}
use borrow.Author.Tests.{ne_eqb, eq-eqb}
use lib.ListN.{length, get_or}
use Rattle.text_field.specs.Bytes.{is_capital}
use Rattle.text_field.proofs.ByteLaws.{within_bounds}
use Rattle.scope_graph.specs.Language.{◌∈◌}
use Rattle.scope_graph.proofs.Lists.{here, there, map_elim}
use Rattle.graph_rows.specs.Format.{label_section}
use Rattle.graph_rows.specs.Admission.{Row, value}
use Rattle.graph_rows.specs.Decode.{rows_in, letters_of, rules_of}
use Rattle.graph_file.specs.File.{WasRead}
use Rattle.block.specs.Block.{letter_cell}
use Rattle.board.specs.Made.{Made}
use Rattle.board.proofs.Capitals.{capitals}
use Rattle.board.proofs.Queries.{accepted, sound}
use Rattle.board.proofs.Board.{letters_are}
use Rattle.path_row.specs.Numbering.{number_from, label_number}
use Rattle.path_row.proofs.NumberingLaws.{number_on, number_off}
use Rattle.comparison.specs.Letters.{letters_from, block_letters}

-- the letters from a label on: none, or one and those after it
module _ (block : List ℕ) (l : ℕ) where
  letters_off : (n : ℕ) → letter_cell block l ≡ 0 → letters_from block n l ≡ []
  unfolding letters_from
  letters_off zero e = refl
  letters_off (suc n) e = rw (eq-eqb (letter_cell block l) 0 e, letters_from)

  letters_on : (n : ℕ) → (letter_cell block l ≡ 0 → ⊥) → letters_from block (suc n) l ≡ letter_cell block l ∷ letters_from block n (suc l)
  unfolding letters_from
  letters_on n e = rw (ne_eqb (letter_cell block l) 0 e, letters_from)

-- the number of x, sought from label l on
abbrev pub seek : List ℕ → ℕ → ℕ → ℕ
seek block x l = number_from l x (letters_from block (8 - l) l)

pub seek_first : (block : List ℕ) (x : ℕ) → label_number (block_letters block) x ≡ seek block x 0
unfolding label_number block_letters
seek_first block x = refl

none_left : (x l : ℕ) (ys : List ℕ) → ys ≡ [] → number_from l x ys ≡ l + x
unfolding number_from
none_left x l ys e = rw e

module _ (block : List ℕ) (x l y : ℕ) (h : l < 8) (is : y ≡ letter_cell block l) where
  pub seek_none : y ≡ 0 → seek block x l ≡ l + x
  seek_none e = none_left x l _ (letters_off block l (8 - l) (sym is ∙ e))

  module _ (some : y ≡ 0 → ⊥) where
    seen : seek block x l ≡ number_from l x (y ∷ letters_from block (8 - (l + 1)) (suc l))
    seen =
        let n : 8 - l ≡ suc (8 - (l + 1)) = omega arith in
        ap (λ (k : ℕ). number_from l x (letters_from block k l)) n
        ∙ ap (number_from l x) (letters_on block l (8 - (l + 1)) (λ e. some (is ∙ e)))
        ∙ ap (λ (z : ℕ). number_from l x (z ∷ letters_from block (8 - (l + 1)) (suc l))) (sym is)

    pub seek_here : y ≡ x → seek block x l ≡ l
    seek_here e = seen ∙ number_on l x y _ (eq-eqb y x e)

    pub seek_next : (y ≡ x → ⊥) → seek block x l ≡ seek block x (l + 1)
    seek_next e =
        let s : suc l ≡ l + 1 = omega arith in
        seen ∙ number_off l x y _ (ne_eqb y x e) ∙ ap (λ (k : ℕ). number_from k x (letters_from block (8 - (l + 1)) k)) s

pub seek_full : (block : List ℕ) (x l : ℕ) → 8 ≤ l → seek block x l ≡ l + x
unfolding letters_from
seek_full block x l h = let n : 8 - l ≡ 0 = omega arith in none_left x l _ (ap (λ (k : ℕ). letters_from block k l) n)

-- letters that are capitals, and whose cells are theirs
letters_as : (block : List ℕ) (n l : ℕ) (ys : List ℕ) → length ys ≤ n → ((i : ℕ) → i < n → letter_cell block (l + i) ≡ get_or ys i 0 % 256)
    → ((y : ℕ) → y ∈ ys → (65 ≤ y) × (y ≤ 90)) → letters_from block n l ≡ ys
unfolding letters_from
letters_as block zero l [] few cells capital = refl
letters_as block zero l (y ∷ ys) few cells capital = absurd (omega arith)
letters_as block (suc n) l [] few cells capital =
    let z : l ≡ l + 0 = omega arith in
    letters_off block l (suc n) (ap (letter_cell block) z ∙ cells 0 (omega arith))
letters_as block (suc n) l (y ∷ ys) few cells capital =
    let z : l ≡ l + 0 = omega arith in
    let low = (capital y here).0 in
    let high = (capital y here).1 in
    let small : y % 256 ≡ y = omega arith in
    let first : letter_cell block l ≡ y = ap (letter_cell block) z ∙ cells 0 (omega arith) ∙ small in
    letters_on block l n (λ e. omega arith)
    ∙ ap (λ (k : ℕ). k ∷ letters_from block n (suc l)) first
    ∙ ap (λ (rest : List ℕ). y ∷ rest)
    (letters_as block n (suc l) ys (omega arith)
    (λ i k. let s : suc l + i ≡ l + suc i = omega arith in ap (letter_cell block) s ∙ cells (suc i) (omega arith))
    (λ x m. capital x (there m)))

module _ (cells block : List ℕ) (was : WasRead cells) (made : Made cells block) where
  bounds : (y : ℕ) → y ∈ letters_of cells → (65 ≤ y) × (y ≤ 90)
  unfolding letters_of is_capital
  bounds y m =
      let r = map_elim (λ (row : Row). value row 0) (rows_in label_section cells) m in
      within_bounds 65 90 y (ap is_capital r.2 ∙ capitals was.0 cells was.1 r.0 r.1)

  -- the block's letters are the file's
  pub letters_same : block_letters block ≡ letters_of cells
  unfolding block_letters rules_of
  letters_same =
      letters_as block 8 0 (letters_of cells) (accepted cells was).labels
      (λ i h. let z : 0 + i ≡ i = omega arith in ap (letter_cell block) z ∙ letters_are cells block (sound cells was) made i h)
      bounds
