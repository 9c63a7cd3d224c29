-- What is read of the words and of the input, and the promise that it is enough. Assumes nothing:
-- these are definitions, and a statement.
use Rattle.std.specs.Prelude.{ℕ, ◌≡◌, List, [], length, get_or, take}
use Rattle.gym.specs.Said.{said}
use Rattle.gym.specs.Handed.{handed}

-- one byte more than a path row may have, and one more than a gym file
abbrev pub word_bytes : ℕ
word_bytes = 257

abbrev pub input_bytes : ℕ
input_bytes = 32769

-- what is read of a list of words: how many there are, and the first three as far as that
unfoldable pub words_read : List (List ℕ) → List (List ℕ)
words_read words =
    handed (length words) (take word_bytes (get_or words 0 [])) (take word_bytes (get_or words 1 [])) (take word_bytes (get_or words 2 []))

-- That is enough: whatever else the words and the input have, what is said is the same. A second file
-- is read whole, or nothing is said of it.
abbrev pub ReadEnough : Type 0
ReadEnough = (words : List (List ℕ)) (input more : List ℕ) → said (words_read words) (take input_bytes input) more ≡ said words input more
