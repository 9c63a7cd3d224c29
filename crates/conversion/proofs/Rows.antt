-- Laws of looking for what the old form cannot show, row by row. Assumes nothing.
use Prim.Native.Nat.{ℕ, zero, suc, ◌+◌, ◌-◌, ◌*◌, ◌/◌, ◌≤◌, ◌<◌}
use mathlib.Core.Path.{◌≡◌, refl, sym, ap, ◌∙◌}
use mathlib.Core.Bool.{Bool, true, false, not, ◌&&◌, ◌||◌}
use mathlib.Core.List.{List, [], ◌∷◌}
use native.Mathlib.Omega.{arith}
use borrow.Author.Tests.{eqb-true}
use lib.Dec.{eqb}
use lib.ListN.{length, get_or, take, drop, length-drop}
use lib.Seq.{drop-drop, get_or-drop}
use Rattle.std.proofs.Math.Seq.{take-length}
use Rattle.std.specs.List.{list_any, range_with_len}
use Rattle.graph_rows.specs.Format.{plain_kind, edge_section, declaration_section, query_section}
use Rattle.graph_rows.specs.Admission.{Row, row_of}
use Rattle.graph_rows.specs.Way.{starts_with}
use Rattle.graph_rows.specs.Order.{some_row}
use Rattle.graph_rows.specs.Decode.{kept_if, rows_among, rows_in}
use Rattle.graph_rows.specs.Formed.{other_kind, other_kinds, other_turn, other_turns}
use Rattle.graph_table.specs.Sections.{first_row, rows_of}
use Rattle.graph_table.proofs.Parts.{rows_count}
use Rattle.graph_table.specs.Values.{edge_row, declaration_row, query_row}
use Rattle.graph_table.specs.declared.rows.EdgeRow.{EdgeRow}
use Rattle.graph_table.specs.declared.rows.DeclarationRow.{DeclarationRow}
use Rattle.graph_table.specs.declared.rows.QueryRow.{QueryRow}
use Rattle.graph_table.specs.declared.sections.Form.{Form}
use Rattle.graph_table.specs.declared.sections.Form.TheVariants.{Old, Kinds}
use Rattle.conversion.specs.Conversion.{unshown}
use Rattle.conversion.specs.Rows.{kind_here, other_here, unfit}

-- Is there a row of another kind among these cells, an edge of another turn, one of either?
unfoldable pub kind_among : List ℕ → Bool
kind_among cells = some_row other_kind (rows_among declaration_section cells) || some_row other_kind (rows_among query_section cells)

unfoldable pub turn_among : List ℕ → Bool
turn_among cells = some_row other_turn (rows_among edge_section cells)

unfoldable pub among : List ℕ → Bool
among cells = kind_among cells || turn_among cells

some_kept : (test : Row → Bool) (t : Bool) (row : Row) (rows : List Row) → some_row test (kept_if t row rows) ≡ ((t && test row) || some_row test rows)
unfolding some_row kept_if
some_kept test true row rows = refl
some_kept test false row rows = refl

-- two tests of one row, each before those of the other rows
both : (t u o x y : Bool) → (((t && o) || x) || ((u && o) || y)) ≡ (((t || u) && o) || (x || y))
both true u true x y = refl
both true true false x y = refl
both true false false x y = refl
both false true true true y = refl
both false true true false y = refl
both false true false x y = refl
both false false o x y = refl

kind_six : (s a b c d e : ℕ) (l : List ℕ) → kind_among (s ∷ a ∷ b ∷ c ∷ d ∷ e ∷ l) ≡ (kind_here (s ∷ a ∷ b ∷ c ∷ d ∷ e ∷ l) || kind_among l)
unfolding kind_among kind_here rows_among starts_with row_of
kind_six s a b c d e l =
    let row : Row = a ∷ b ∷ c ∷ d ∷ e ∷ [] in
    rw (some_kept other_kind (eqb s 6) row (rows_among 6 l), some_kept other_kind (eqb s 8) row (rows_among 8 l))
    (both (eqb s 6) (eqb s 8) (other_kind row) (some_row other_kind (rows_among 6 l)) (some_row other_kind (rows_among 8 l)))

turn_six : (s a b c d e : ℕ) (l : List ℕ) → turn_among (s ∷ a ∷ b ∷ c ∷ d ∷ e ∷ l) ≡ ((eqb s 5 && other_turn (a ∷ b ∷ c ∷ d ∷ e ∷ [])) || turn_among l)
unfolding turn_among rows_among
turn_six s a b c d e l = some_kept other_turn (eqb s 5) (a ∷ b ∷ c ∷ d ∷ e ∷ []) (rows_among 5 l)

-- a row is of one section alone
edge_kindless : (s : ℕ) (l : List ℕ) → eqb s 5 ≡ true → kind_here (s ∷ l) ≡ false
unfolding kind_here starts_with
edge_kindless s l h = rw (eqb-true s 5 h)

-- the tests of a row's kind and its turn, each before those of the other rows, are one test
one : (i k t x y : Bool) → (i ≡ true → k ≡ false) → ((k || x) || ((i && t) || y)) ≡ ((elim i as (λ _. Bool) [ true ↦ t | false ↦ k ]) || (x || y))
one true k t x y h = rw (h refl) (swap t x y)
  where
    swap : (t x y : Bool) → (x || (t || y)) ≡ (t || (x || y))
    swap true true y = refl
    swap true false y = refl
    swap false x y = refl
one false true t x y h = refl
one false false t x y h = refl

among_six : (l : List ℕ) → 6 ≤ length l → among l ≡ (other_here l || among (drop 6 l))
unfolding among other_here starts_with row_of
among_six [] h = absurd (omega arith)
among_six (s ∷ []) h = absurd (omega arith)
among_six (s ∷ a ∷ []) h = absurd (omega arith)
among_six (s ∷ a ∷ b ∷ []) h = absurd (omega arith)
among_six (s ∷ a ∷ b ∷ c ∷ []) h = absurd (omega arith)
among_six (s ∷ a ∷ b ∷ c ∷ d ∷ []) h = absurd (omega arith)
among_six (s ∷ a ∷ b ∷ c ∷ d ∷ e ∷ l) h =
    rw (kind_six s a b c d e l, turn_six s a b c d e l)
    (one (eqb s 5) (kind_here (s ∷ a ∷ b ∷ c ∷ d ∷ e ∷ l)) (other_turn (a ∷ b ∷ c ∷ d ∷ e ∷ [])) (kind_among l) (turn_among l) (edge_kindless s (a ∷ b ∷ c ∷ d ∷ e ∷ l)))

among_few : (l : List ℕ) → length l < 6 → among l ≡ false
unfolding among kind_among turn_among rows_among some_row
among_few [] h = refl
among_few (s ∷ []) h = refl
among_few (s ∷ a ∷ []) h = refl
among_few (s ∷ a ∷ b ∷ []) h = refl
among_few (s ∷ a ∷ b ∷ c ∷ []) h = refl
among_few (s ∷ a ∷ b ∷ c ∷ d ∷ []) h = refl
among_few (s ∷ a ∷ b ∷ c ∷ d ∷ e ∷ l) h = absurd (omega arith)

-- from a place on
module _ (t : List ℕ) (p : ℕ) where
  among_step : 6 ≤ length t - p → among (drop p t) ≡ (other_here (drop p t) || among (drop (p + 6) t))
  among_step h = among_six (drop p t) (rw (length-drop p t) h) ∙ ap (λ (l : List ℕ). other_here (drop p t) || among l) (drop-drop 6 p t)

  pub among_hit : 6 ≤ length t - p → other_here (drop p t) ≡ true → among (drop p t) ≡ true
  among_hit h e = among_six (drop p t) (rw (length-drop p t) h) ∙ rw e

  pub among_next : 6 ≤ length t - p → other_here (drop p t) ≡ false → among (drop (p + 6) t) ≡ among (drop p t)
  among_next h e = ap among (sym (drop-drop 6 p t)) ∙ sym (among_six (drop p t) (rw (length-drop p t) h) ∙ rw e)

  pub among_end : length t - p < 6 → among (drop p t) ≡ false
  among_end h = among_few (drop p t) (rw (length-drop p t) h)

-- the row of a number, and the rows from there on
abbrev pub other_at : List ℕ → ℕ → Bool
other_at t i = other_here (drop (6 * i) t)

other_from : (t : List ℕ) (n i : ℕ) → n ≡ (length t - 6 * i) / 6 → list_any (other_at t) (range_with_len i n) ≡ among (drop (6 * i) t)
other_from t zero i h = sym (among_end t (6 * i) (omega arith))
other_from t (suc n) i h =
    let next : 6 * (i + 1) ≡ 6 * i + 6 = omega arith in
    ap (λ (b : Bool). other_at t i || b) (other_from t n (i + 1) (omega arith) ∙ ap (λ (p : ℕ). among (drop p t)) next)
    ∙ sym (among_step t (6 * i) (omega arith))

-- the rows behind the form are all
pub among_all : (t : List ℕ) (p : ℕ) → p ≡ first_row t → among (drop p t) ≡ unshown t
unfolding among kind_among turn_among unshown other_kinds other_turns rows_in first_row
among_all [] p e = rw e
among_all (form ∷ t) p e = rw e

-- the rows behind the form are the rest of the table
abbrev pub behind : List ℕ → ℕ → List ℕ
behind t p = take (length t - p) (drop p t)

pub other_some : (t : List ℕ) (p n : ℕ) → p ≡ first_row t → n ≡ length (rows_of (behind t p)) → list_any (other_at (behind t p)) (range_with_len 0 n) ≡ unshown t
other_some t p n e h =
    let rest : behind t p ≡ drop p t = ap (λ (k : ℕ). take k (drop p t)) (sym (length-drop p t)) ∙ take-length (drop p t) in
    let count = rows_count (length (behind t p)) (behind t p) (omega arith) in
    other_from (behind t p) n 0 (omega arith) ∙ ap among rest ∙ among_all t p e

-- one row, by its section
module _ (t : List ℕ) (p : ℕ) where
  kind_cell : other_kind (row_of (drop p t)) ≡ not (eqb (get_or t (p + 2) 0) plain_kind)
  unfolding other_kind row_of
  kind_cell = ap (λ (v : ℕ). not (eqb v plain_kind)) (get_or-drop p t 2 0)

  turn_cell_lem : other_turn (row_of (drop p t)) ≡ not (eqb (get_or t (p + 4) 0) 0)
  unfolding other_turn row_of
  turn_cell_lem = ap (λ (v : ℕ). not (eqb v 0)) (get_or-drop p t 4 0)

  module _ (h : Bool) (edge : h ≡ starts_with edge_section (drop p t)) where
    by_turn : h ≡ true → other_turn (row_of (drop p t)) ≡ other_here (drop p t)
    unfolding other_here
    by_turn so = rw (sym edge ∙ so, other_here)

    pub other_edge : h ≡ true → (row : EdgeRow) → row ≡ edge_row t p → (r : Bool) → r ≡ not (eqb row.turn 0) → r ≡ other_here (drop p t)
    other_edge so row e r test = test ∙ rw e (sym turn_cell_lem) ∙ by_turn so

    -- any other row is told by its kind
    module _ (no : h ≡ false) where
      by_kind : kind_here (drop p t) ≡ other_here (drop p t)
      unfolding other_here
      by_kind = rw (sym edge ∙ no, other_here)

      module _ (i : Bool) (is : i ≡ starts_with declaration_section (drop p t)) where
        pub other_declared : i ≡ true → (row : DeclarationRow) → row ≡ declaration_row t p → (r : Bool) → r ≡ not (eqb row.name.kind plain_kind) → r ≡ other_here (drop p t)
        unfolding kind_here
        other_declared so row e r test = test ∙ rw (e, sym is ∙ so) (sym kind_cell) ∙ by_kind

        module _ (but : i ≡ false) (j : Bool) (there : j ≡ starts_with query_section (drop p t)) where
          pub other_query : j ≡ true → (row : QueryRow) → row ≡ query_row t p → (r : Bool) → r ≡ not (eqb row.name.kind plain_kind) → r ≡ other_here (drop p t)
          unfolding kind_here
          other_query so row e r test = test ∙ rw (e, sym is ∙ but, sym there ∙ so) (sym kind_cell) ∙ by_kind

          kindless : j ≡ false → false ≡ kind_here (drop p t)
          unfolding kind_here
          kindless neither = rw (sym is ∙ but, sym there ∙ neither)

          pub other_none : j ≡ false → false ≡ other_here (drop p t)
          other_none neither = kindless neither ∙ by_kind

-- the whole table, by the form
pub unfit_old : (form : Form) (t : List ℕ) → form ≡ Old → (r : Bool) → r ≡ unshown t → r ≡ unfit form t
unfolding unfit
unfit_old form t e r is = is ∙ rw e

pub unfit_kinds : (form : Form) (t : List ℕ) → form ≡ Kinds → false ≡ unfit form t
unfolding unfit
unfit_kinds form t e = rw e
