-- A way that came to its end, step by step; and what the rows are that it went through: admitted,
-- each after those before it. Assumes nothing.
use Prim.Native.Nat.{ℕ, zero, suc, ◌+◌, ◌≤◌}
use mathlib.Core.Path.{◌≡◌, refl, sym, ap, ◌∙◌}
use mathlib.Core.Bool.{Bool, true, false, not, true≢false, false≢true}
use mathlib.Core.Logic.{◌⊎◌, inl, inr}
use mathlib.Core.List.{List, [], ◌∷◌, ◌++◌}
use native.Mathlib.Omega.{arith}
use lib.ListN.{length, drop}
use borrow.Author.Tests.{ltb-false, leb-true, eqb-true}
use Rattle.graph_rows.specs.Format.{section_at, shape_at, turn_form}
use Rattle.text_field.specs.Outcome.{Outcome, refused, done, and_then, refuse_if}
use Rattle.graph_rows.specs.Admission.{Row, row_of, Sofar, nothing, begun, taken, admission}
use Rattle.graph_rows.specs.Values.{formed}
use Rattle.graph_rows.specs.Order.{order_fault}
use Rattle.graph_rows.specs.Way.{Piece, Way, Stage, if_admitted, after_row, one_row, through_rows, after_names, enough, through_section, is_empty, through_sections, ordered, at_start, whole, starts_with}
use Rattle.graph_rows.specs.Tested.{has_form, form_in}
unfoldable pub use Rattle.graph_rows.specs.Formed.{cells_of}

-- what is done was not refused on the way
pub and_then_done : {A B : Type 0} (o : Outcome A) (next : A → Outcome B) {b : B} → and_then o next ≡ done b → (a : A) × (o ≡ done a) × (next a ≡ done b)
unfolding and_then
and_then_done (refused n) next e = absurd (let z : ◌≡◌ {A = ℕ} 0 1 = cc in omega arith)
and_then_done (done a) next e = (a, refl, e)

pub refuse_if_done : {A : Type 0} (t : Bool) (n : ℕ) (o : Outcome A) {a : A} → refuse_if t n o ≡ done a → (t ≡ false) × (o ≡ done a)
unfolding refuse_if
refuse_if_done true n o e = absurd (let z : ◌≡◌ {A = ℕ} 0 1 = cc in omega arith)
refuse_if_done false n o e = (refl, e)

pub if_admitted_done : (n : ℕ) (o : Outcome Stage) {g : Stage} → if_admitted n o ≡ done g → (n ≡ 0) × (o ≡ done g)
unfolding if_admitted
if_admitted_done zero o e = (refl, e)
if_admitted_done (suc n) o e = absurd (let z : ◌≡◌ {A = ℕ} 0 1 = cc in omega arith)

pub done_is : {A : Type 0} {a b : A} → ◌≡◌ {A = Outcome A} (done a) (done b) → a ≡ b
done_is e = cc

pub either_done : {A : Type 0} (t : Bool) (x y : Outcome A) {a : A} → (elim t as (λ _. Outcome A) [ true ↦ x | false ↦ y ]) ≡ done a
    → ((t ≡ true) × (x ≡ done a)) ⊎ ((t ≡ false) × (y ≡ done a))
either_done true x y e = inl (refl, e)
either_done false x y e = inr (refl, e)

-- the rows so far after rows of section k
unfoldable pub taken_all : ℕ → Sofar → List Row → Sofar
taken_all k st [] = st
taken_all k st (row ∷ rows) = taken_all k (taken k st row) rows

-- in a file of a form, each row is admitted after those before it, has its five values, and these
-- have a text
abbrev pub AdmittedRows : ℕ → ℕ → Sofar → List Row → Type 0
AdmittedRows form k st [] = Unit {0}
AdmittedRows form k st (row ∷ rows) = (admission form k st row ≡ 0) × (length row ≡ 5) × AdmittedRows form k (taken k st row) rows × (formed (shape_at form k).row row ≡ true)

-- the cells of the rows of sections from section k on, the rows so far after them, and that they
-- are admitted and enough
unfoldable pub table_cells : ℕ → List (List Row) → List ℕ
table_cells k [] = []
table_cells k (rows ∷ rest) = cells_of k rows ++ table_cells (suc k) rest

unfoldable pub sofar_after : ℕ → Sofar → List (List Row) → Sofar
sofar_after k st [] = st
sofar_after k st (rows ∷ rest) = sofar_after (suc k) (taken_all k (begun st) rows) rest

abbrev pub AdmittedSections : ℕ → ℕ → Sofar → List (List Row) → Type 0
AdmittedSections form k st [] = Unit {0}
AdmittedSections form k st (rows ∷ rest) = AdmittedRows form k (begun st) rows × ((section_at k).least ≤ length rows) × AdmittedSections form (suc k) (taken_all k (begun st) rows) rest

-- how many rows the section has by now
pub rows_counted : (k : ℕ) (st : Sofar) (rows : List Row) → (taken_all k st rows).rows ≡ st.rows + length rows
unfolding taken_all taken
rows_counted k st [] = omega arith
rows_counted k st (row ∷ rows) = omega (arith, rows_counted k (taken k st row) rows)

pub row_split : (w : Way) (k : ℕ) (g h : Stage) → one_row w k g ≡ done h
    → (p : Piece) × (w.row k g.sofar.letters g.rest ≡ done p) × (admission w.form k g.sofar p.row ≡ 0) × (after_row k g p ≡ h)
unfolding one_row
row_split w k g h e =
    let r = and_then_done (w.row k g.sofar.letters g.rest) _ e in
    let a = if_admitted_done _ _ r.2 in
    (r.0, r.1, a.0, done_is a.1)

pub enough_done : (k : ℕ) (g h : Stage) → enough k g ≡ done h → (g ≡ h) × ((section_at k).least ≤ h.sofar.rows)
unfolding enough
enough_done k g h e =
    let f = refuse_if_done _ _ _ e in
    let s = done_is f.1 in
    (s, rw s at (ltb-false g.sofar.rows (section_at k).least f.0))

pub section_split : (w : Way) (k : ℕ) (g h : Stage) → through_section w k g ≡ done h
    → (p : Piece) × (w.names k g.rest ≡ done p) × (through_rows w (suc (section_at k).most) k (after_names g p) ≡ done h) × ((section_at k).least ≤ h.sofar.rows)
unfolding through_section
section_split w k g h e =
    let n = and_then_done (w.names k g.rest) _ e in
    let m = and_then_done (through_rows w (suc (section_at k).most) k (after_names g n.0)) (enough k) n.2 in
    let f = enough_done k m.0 h m.2 in
    (n.0, n.1, m.1 ∙ ap {B = Outcome Stage} (λ x. done x) f.0, f.1)

pub empty_nil : (l : List ℕ) → not (is_empty l) ≡ false → l ≡ []
unfolding is_empty
empty_nil [] e = refl
empty_nil (x ∷ l) e = absurd (true≢false e)

-- the six cells of a row of section k, and what stands behind them
pub split_six : (k : ℕ) (l : List ℕ) → starts_with k l ≡ true → 6 ≤ length l → l ≡ (k ∷ row_of l) ++ drop 6 l
unfolding starts_with row_of
split_six k [] c h = absurd (omega arith)
split_six k (s ∷ []) c h = absurd (omega arith)
split_six k (s ∷ a ∷ []) c h = absurd (omega arith)
split_six k (s ∷ a ∷ b ∷ []) c h = absurd (omega arith)
split_six k (s ∷ a ∷ b ∷ d ∷ []) c h = absurd (omega arith)
split_six k (s ∷ a ∷ b ∷ d ∷ e ∷ []) c h = absurd (omega arith)
split_six k (s ∷ a ∷ b ∷ d ∷ e ∷ f ∷ l) c h = ap (λ x. x ∷ a ∷ b ∷ d ∷ e ∷ f ∷ l) (eqb-true s k c)

-- a table's first cell is its form, which is a known one
pub form_first : (cells : List ℕ) → has_form cells ≡ true → cells ≡ form_in cells ∷ drop 1 cells
unfolding has_form form_in
form_first [] h = absurd (false≢true h)
form_first (x ∷ cells) h = refl

pub known_form : (cells : List ℕ) → has_form cells ≡ true → form_in cells ≤ turn_form
unfolding has_form form_in
known_form [] h = absurd (false≢true h)
known_form (x ∷ cells) h = leb-true x turn_form h

-- A table whose rows, section by section, are admitted in a file of its form, which is a known one,
-- and whose order pairs have no fault.
pub record AdmittedTable (cells : List ℕ) : Type 0 where
  pub form : ℕ
  pub known : form ≤ turn_form
  pub sections : List (List Row)
  pub count : length sections ≡ 9
  pub cells_are : cells ≡ form ∷ table_cells 0 sections
  pub admitted : AdmittedSections form 0 nothing sections
  pub order : order_fault (sofar_after 0 nothing sections).pairs ≡ false

pub whole_split : (w : Way) (made rest : List ℕ) (h : Stage) → whole w made rest ≡ done h
    → (through_sections w 9 0 (record { sofar = nothing; made = made; rest = rest }) ≡ done h) × (order_fault h.sofar.pairs ≡ false)
unfolding whole ordered at_start
whole_split w made rest h e =
    let c = and_then_done (through_sections w 9 0 (record { sofar = nothing; made = made; rest = rest })) ordered e in
    let o = refuse_if_done _ _ _ c.2 in
    let m : c.0 ≡ h = done_is o.1 in
    (c.1 ∙ ap {B = Outcome Stage} (λ x. done x) m, ap (λ (x : Stage). order_fault x.sofar.pairs) (sym m) ∙ o.0)
