-- Rows compared by a file's text that is refused, over plain lists. Assumes nothing.
use mathlib.Core.Path.{◌≡◌}
use mathlib.Core.List.{List}
use Prim.Native.Nat.{ℕ}
use Rattle.text_field.specs.Outcome.{refused, and_then}
use Rattle.graph_file.specs.File.{read_cells}
use Rattle.comparison.specs.Compare.{compare_answer}

pub text_refused : (text a b : List ℕ) (n m k : ℕ) → read_cells text ≡ refused k → refused k ≡ compare_answer text a b n m
unfolding compare_answer and_then
text_refused text a b n m k e = rw e
