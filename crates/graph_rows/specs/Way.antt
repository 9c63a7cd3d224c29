-- Going through a graph row by row and section by section, with the tests that every row meets on
-- the way: 2, 5, 3 and 4 at each row, then 6 (document 01, "Who can cause a refusal"). Reading a
-- text, writing one and testing a table are three such ways; they differ only in what a row is made
-- from and what is made of it. Assumes nothing: these are definitions.
use Rattle.std.specs.Prelude.{ℕ, zero, suc, List, [], ◌∷◌, ◌++◌, Bool, true, false, not, ltb, eqb}
use Rattle.graph_rows.specs.Format.{section_at}
use Rattle.text_field.specs.Outcome.{Outcome, refused, done, and_then, refuse_if}
use Rattle.graph_rows.specs.Admission.{Row, Sofar, nothing, begun, taken, admission}
use Rattle.graph_rows.specs.Order.{order_fault}

-- One step of a way: the row that it takes (none at a names line), what is made of it (cells, text
-- or nothing), and what is left to go through (text or cells).
pub record Piece : Type 0 where
  pub row : Row
  pub made : List ℕ
  pub rest : List ℕ

-- A way through a graph of some form. For a section's number it says how the names line is taken,
-- whether another row of the section comes next, and how one row is taken, given the labels'
-- letters.
pub record Way : Type 0 where
  pub form : ℕ
  pub names : ℕ → List ℕ → Outcome Piece
  pub more : ℕ → List ℕ → Bool
  pub row : ℕ → List ℕ → List ℕ → Outcome Piece

-- How far the way has come: what is known of the rows so far, what is made, what is left.
pub record Stage : Type 0 where
  pub sofar : Sofar
  pub made : List ℕ
  pub rest : List ℕ

-- go on if the row was admitted, which 0 says
unfoldable pub if_admitted : ℕ → Outcome Stage → Outcome Stage
if_admitted zero next = next
if_admitted (suc n) next = refused (suc n)

-- the stage after a row of section k
unfoldable pub after_row : ℕ → Stage → Piece → Stage
after_row k g p = record { sofar = taken k g.sofar p.row; made = g.made ++ p.made; rest = p.rest }

-- one row of section k: tested by 2, then 5, 3, 4
unfoldable pub one_row : Way → ℕ → Stage → Outcome Stage
one_row w k g =
    and_then (w.row k g.sofar.letters g.rest)
    (λ p. if_admitted (admission w.form k g.sofar p.row) (done (after_row k g p)))

-- The rows of section k. A section admits at most as many rows as its limit, so the turns, one more
-- than that, never run out.
unfoldable pub through_rows : Way → ℕ → ℕ → Stage → Outcome Stage
through_rows w zero k g = refused 5
through_rows w (suc turns) k g =
    elim (w.more k g.rest) [ true ↦ and_then (one_row w k g) (through_rows w turns k) | false ↦ done g ]

-- the stage after the names line of a section
unfoldable pub after_names : Stage → Piece → Stage
after_names g p = record { sofar = begun g.sofar; made = g.made ++ p.made; rest = p.rest }

-- too few rows are refused by 2 when the section ends
unfoldable pub enough : ℕ → Stage → Outcome Stage
enough k g = refuse_if (ltb g.sofar.rows (section_at k).least) 2 (done g)

-- section k: its names line, then its rows, of which there must be enough
unfoldable pub through_section : Way → ℕ → Stage → Outcome Stage
through_section w k g =
    and_then (w.names k g.rest) (λ p. and_then (through_rows w (suc (section_at k).most) k (after_names g p)) (enough k))

-- Does this number come first?
unfoldable pub starts_with : ℕ → List ℕ → Bool
starts_with b [] = false
starts_with b (x ∷ rest) = eqb x b

unfoldable pub is_empty : List ℕ → Bool
is_empty [] = true
is_empty (x ∷ xs) = false

-- `left` sections from section k on, in turn; after the last one nothing may be left
unfoldable pub through_sections : Way → ℕ → ℕ → Stage → Outcome Stage
through_sections w zero k g = refuse_if (not (is_empty g.rest)) 2 (done g)
through_sections w (suc left) k g = and_then (through_section w k g) (through_sections w left (suc k))

-- `left` sections from section k on, whatever is left after them
unfoldable pub through_some : Way → ℕ → ℕ → Stage → Outcome Stage
through_some w zero k g = done g
through_some w (suc left) k g = and_then (through_section w k g) (through_some w left (suc k))

-- the order pairs are tested last
unfoldable pub ordered : Stage → Outcome Stage
ordered g = refuse_if (order_fault g.sofar.pairs) 6 (done g)

-- before the first section
unfoldable pub at_start : List ℕ → List ℕ → Stage
at_start made rest = record { sofar = nothing; made = made; rest = rest }

-- the nine sections and the order
unfoldable pub whole : Way → List ℕ → List ℕ → Outcome Stage
whole w made rest = and_then (through_sections w 9 0 (at_start made rest)) ordered
