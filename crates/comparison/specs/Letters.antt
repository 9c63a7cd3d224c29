-- The labels' letters as the board's block has them. On the block of a table that was read they are
-- the file's (proofs/LetterLaws). Assumes nothing: these are definitions.
use Rattle.std.specs.Prelude.{ℕ, zero, suc, List, [], ◌∷◌, true, false, eqb}
use Rattle.block.specs.Block.{letter_cell}

-- the letters of the labels from number l on, at most n of them: a cell with 0 has none, and ends
-- them
unfoldable pub letters_from : List ℕ → ℕ → ℕ → List ℕ
letters_from block zero l = []
letters_from block (suc n) l = elim (eqb (letter_cell block l) 0) [ true ↦ [] | false ↦ letter_cell block l ∷ letters_from block n (suc l) ]

-- all of them: a file has eight labels at the most (01, "The gym file")
unfoldable pub block_letters : List ℕ → List ℕ
block_letters block = letters_from block 8 0
