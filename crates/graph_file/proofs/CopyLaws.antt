-- Laws of the cells that reading gives, and of copying what was made to the lent memory. Assumes
-- nothing.
use Prim.Native.Nat.{ℕ, ◌≤◌}
use mathlib.Core.Path.{◌≡◌, ap, sym}
use mathlib.Core.List.{List, ◌++◌}
use native.Mathlib.Omega.{arith}
use borrow.Author.Tests.{le-ltb}
use lib.ListN.{length, take, drop}
use Rattle.graph_file.specs.declared.reader.Part.{Part}
use Rattle.text_field.specs.Outcome.{Outcome, refused, done, and_then}
use Rattle.text_field.specs.Answer.{written, leaves}
use Rattle.graph_file.specs.File.{read_stage, made_of, read_cells}
use Rattle.graph_file.specs.Reader.{stage_at}

-- what was made, copied to the front of the lent memory
pub copied : (o : Outcome (List ℕ)) (out lent front : List ℕ) (n : ℕ) → o ≡ done out → front ≡ out → length out ≡ n → n ≤ length lent → front ++ drop n lent ≡ leaves o lent
unfolding leaves written
copied o out lent front n e f l h = rw (e, f, le-ltb (length lent) (length out) (omega arith)) (ap (λ (k : ℕ). out ++ drop k lent) (sym l))

-- the cells that reading gives
pub cells_refused : (text : List ℕ) (n : ℕ) → refused n ≡ read_stage text → read_cells text ≡ refused n
unfolding read_cells made_of and_then
cells_refused text n e = rw (← e)

pub cells_done : (r : Part) (u text : List ℕ) → done (stage_at u r.cells r.counts (drop r.next text)) ≡ read_stage text → read_cells text ≡ done (take r.cells u)
unfolding read_cells made_of and_then stage_at
cells_done r u text e = rw (← e)
