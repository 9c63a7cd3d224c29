-- Cells of a table replaced by others, the cells after them moved. Assumes nothing: this is a
-- definition.
use Rattle.std.specs.Prelude.{ℕ, ◌+◌, List, ◌++◌, take, drop}

-- in place of `count` cells from place `from` on, or of as many as there are, the cells `new`
unfoldable pub spliced : ℕ → ℕ → List ℕ → List ℕ → List ℕ
spliced from count new cells = take from cells ++ new ++ drop (from + count) cells
