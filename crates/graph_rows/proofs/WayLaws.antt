-- Laws of going through rows and sections, whatever the way (specs/Way). Assumes nothing.
use Prim.Native.Nat.{ℕ, suc, ◌+◌, ◌<◌, ◌-◌, ◌≤◌}
use mathlib.Core.Path.{◌≡◌, sym}
use mathlib.Core.List.{List, [], ◌∷◌}
use mathlib.Core.Bool.{true, false}
use Rattle.text_field.specs.Outcome.{refused, done, and_then, refuse_if}
use Rattle.graph_rows.specs.Admission.{admission, Sofar}
use Rattle.graph_rows.specs.Way.{Piece, Way, Stage, if_admitted, after_row, one_row, through_rows, through_section, is_empty, through_sections}
use native.Mathlib.Omega.{arith}
use native.Mathlib.Numerals.{add-one}

-- the rows of a section where one follows, and where none does
module _ (w : Way) (turns k : ℕ) (g : Stage) where
  pub rows_on : w.more k g.rest ≡ true → through_rows w (suc turns) k g ≡ and_then (one_row w k g) (through_rows w turns k)
  unfolding through_rows
  rows_on e = rw (e, through_rows)

  pub rows_off : w.more k g.rest ≡ false → through_rows w (suc turns) k g ≡ done g
  unfolding through_rows
  rows_off e = rw (e, through_rows)

pub rows_take : (w : Way) (n k : ℕ) (g : Stage) (p : Piece) → w.more k g.rest ≡ true → w.row k g.sofar.letters g.rest ≡ done p
    → admission w.form k g.sofar p.row ≡ 0 → through_rows w (suc n) k g ≡ through_rows w n k (after_row k g p)
unfolding through_rows one_row and_then if_admitted
rows_take w n k g p h e a = rw (h, through_rows) (rw (e, a))

-- a stage that makes t of what is left
abbrev pub at : Sofar → List ℕ → List ℕ → Stage
at st m s = record { sofar = st; made = m; rest = s }

-- the rows of a section: a row is refused, a row is taken, no row follows
module _ (w : Way) (k turns : ℕ) (g : Stage) where
  pub rows_refused : (n : ℕ) → w.more k g.rest ≡ true → one_row w k g ≡ refused n → through_rows w (suc turns) k g ≡ refused n
  unfolding through_rows and_then
  rows_refused n m e = rw (m, through_rows, e)

  pub rows_next : (h : Stage) → w.more k g.rest ≡ true → one_row w k g ≡ done h → through_rows w (suc turns) k g ≡ through_rows w turns k h
  unfolding through_rows and_then
  rows_next h m e = rw (m, through_rows, e)

-- the turns that are left before the limit is passed
pub rows_turn : (w : Way) (k most rows : ℕ) (g : Stage) → rows ≤ most → through_rows w (suc most - rows) k g ≡ through_rows w (suc (most - rows)) k g
rows_turn w k most rows g h = let e : suc most - rows ≡ suc (most - rows) = omega arith in rw e

-- the sections one after the other
module _ (w : Way) (k left : ℕ) (g : Stage) where
  pub sections_refused : (n : ℕ) → through_section w k g ≡ refused n → through_sections w (suc left) k g ≡ refused n
  unfolding through_sections and_then
  sections_refused n e = rw e

  pub sections_next : (h : Stage) → through_section w k g ≡ done h → through_sections w left (k + 1) h ≡ through_sections w (suc left) k g
  unfolding through_sections and_then
  sections_next h e = sym (rw (e, add-one k))

pub sections_more : (w : Way) (k : ℕ) (g : Stage) → k < 9 → through_sections w (9 - k) k g ≡ through_sections w (suc (9 - (k + 1))) k g
sections_more w k g h = let e : 9 - k ≡ suc (9 - (k + 1)) = omega arith in rw e

-- after the last section nothing is left, or something is
pub sections_over : (w : Way) (k : ℕ) (g : Stage) → 9 ≤ k → g.rest ≡ [] → through_sections w (9 - k) k g ≡ done g
unfolding through_sections refuse_if is_empty
sections_over w k g h e = let z : 9 - k ≡ 0 = omega arith in rw (z, through_sections, e)

pub sections_left : (w : Way) (k : ℕ) (g : Stage) → 9 ≤ k → (x : ℕ) (xs : List ℕ) → g.rest ≡ x ∷ xs → through_sections w (9 - k) k g ≡ refused 2
unfolding through_sections refuse_if is_empty
sections_left w k g h x xs e = let z : 9 - k ≡ 0 = omega arith in rw (z, through_sections, e)
