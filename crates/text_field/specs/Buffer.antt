-- Writing into lent memory. Assumes nothing: these are definitions.
use Rattle.std.specs.Prelude.{List, [], ◌∷◌, true, false, ℕ, ◌+◌, ltb, length, set}

-- a lent buffer, and the place of its next byte
abbrev pub Buf : Type 0
Buf = List ℕ × ℕ

-- x is written where there is room. In a full buffer nothing is written and the place stays, so the
-- place does not tell an exact fit from a text that was cut: who must know measures first, and
-- writes only what fits (laws `puts_fits`, and `puts_cut` for what a cut text leaves)
unfoldable pub put : Buf → ℕ → Buf
put b x = elim (ltb b.1 (length b.0)) [ true ↦ (set b.0 b.1 x, b.1 + 1) | false ↦ b ]

-- one byte after the other
unfoldable pub puts : Buf → List ℕ → Buf
puts b [] = b
puts b (x ∷ rest) = puts (put b x) rest
