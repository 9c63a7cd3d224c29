-- What is kept of a part of an expression while it is read: may it be the empty word, which
-- positions may come first and last. Positions are the part's label letters in the text's sequence.
-- Which position may follow which stands in one table for all parts. Assumes nothing: these are
-- definitions.
use Rattle.std.specs.Prelude.{ℕ, zero, suc, true, false, ◌&&◌, ◌||◌, List, [], ◌∷◌, ◌++◌, get_or}
use Rattle.std.specs.Int.Bits.{bit_or}
use Rattle.path_rules.specs.Sets.{has, only_if}
use Rattle.path_rules.specs.declared.reading.Part.{Part}

-- the part that is the empty word only, and the part that is no word: nothing stands before the
-- first item of a sequence, or of a choice
abbrev pub empty_part : Part
empty_part = record { nullable = true; first = 0; last = 0 }

abbrev pub no_part : Part
no_part = record { nullable = false; first = 0; last = 0 }

-- one letter, whose position alone is in the set
abbrev pub letter_part : ℕ → Part
letter_part at = record { nullable = false; first = at; last = at }

abbrev pub seq_part : Part → Part → Part
seq_part a b = record {
  nullable = a.nullable && b.nullable;
  first = bit_or a.first (only_if a.nullable b.first);
  last = bit_or b.last (only_if b.nullable a.last);
}

abbrev pub alt_part : Part → Part → Part
alt_part a b = record { nullable = a.nullable || b.nullable; first = bit_or a.first b.first; last = bit_or a.last b.last }

abbrev pub star_part : Part → Part
star_part a = record { nullable = true; first = a.first; last = a.last }

-- f 0, f 1, .. up to n, without f n
unfoldable pub tabulate : {A : Type 0} → (ℕ → A) → ℕ → List A
tabulate f zero = []
tabulate f (suc n) = tabulate f n ++ (f n ∷ [])

-- the table when each position of `lasts` may be followed by those of `firsts` too
unfoldable pub link_cell : List ℕ → ℕ → ℕ → ℕ → ℕ
link_cell after lasts firsts p = bit_or (get_or after p 0) (only_if (has lasts p) firsts)

unfoldable pub linked : List ℕ → ℕ → ℕ → List ℕ
linked after lasts firsts = tabulate (link_cell after lasts firsts) 10
