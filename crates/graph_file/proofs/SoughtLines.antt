-- Lines of a text: how many there are in parts put together, and what comes after them; a query's
-- line is one. Assumes nothing.
use Prim.Native.Nat.{ℕ, zero, suc, ◌+◌, ◌-◌, ◌/◌, ◌%◌, ◌≤◌}
use mathlib.Core.Path.{◌≡◌, refl, sym, ap, ◌∙◌}
use mathlib.Core.Bool.{Bool, true, false}
use mathlib.Core.List.{List, [], ◌∷◌, ◌++◌, append_assoc}
use native.Mathlib.Omega.{arith}
use lib.Dec.{ltb}
use lib.ListN.{length}
use borrow.Author.Tests.{ltb-true, ltb-false}
use Rattle.text_field.specs.Bytes.{within, is_lower, is_digit, is_name_byte}
use Rattle.text_field.specs.Number.{number_text}
use Rattle.text_field.specs.Name.{all_name_bytes, name_text, is_name_cells}
use Rattle.text_field.proofs.ByteLaws.{clash}
use Rattle.text_field.proofs.NumberLaws.{number_short, number_long}
use Rattle.text_field.proofs.NameLaws.{all_tail, name_form, cells_name}
use Rattle.graph_rows.specs.Admission.{Row, value}
use Rattle.graph_file.specs.NameSought.{after_lines, line_count}
use Rattle.graph_file.specs.Sought.{shown_kind}
use Rattle.graph_file.proofs.SoughtLaws.{count_step, count_end, count_other, after_step}

count_none : line_count [] ≡ 0
unfolding line_count
count_none = refl

pub count_append : (s t : List ℕ) → line_count (s ++ t) ≡ line_count s + line_count t
count_append [] t = omega (arith, count_none)
count_append (b ∷ s) t = omega (arith, count_step b (s ++ t), count_step b s, count_append s t)

-- A part that ends with its last line: what is left after its lines and n more is what is left
-- after n lines behind it.
abbrev pub Ended : List ℕ → Type 0
Ended s = (n : ℕ) (t : List ℕ) → after_lines (line_count s + n) (s ++ t) ≡ after_lines n t

pub ended_none : Ended []
ended_none n t = let e : line_count [] + n ≡ n = omega (arith, count_none) in ap (λ (k : ℕ). after_lines k t) e

pub ended_line : (s : List ℕ) → Ended (s ++ (10 ∷ []))
ended_line [] n t =
    let c = count_end 10 refl in
    let k : line_count (10 ∷ []) + n - line_count (10 ∷ []) ≡ n = omega (arith, c) in
    after_step (line_count (10 ∷ []) + n) 10 t (λ z. omega (arith, c)) ∙ ap (λ (m : ℕ). after_lines m t) k
ended_line (b ∷ s) n t =
    let c = count_step b (s ++ (10 ∷ [])) in
    let d = count_append s (10 ∷ []) in
    let l = count_end 10 refl in
    let k : line_count (b ∷ (s ++ (10 ∷ []))) + n - line_count (b ∷ []) ≡ line_count (s ++ (10 ∷ [])) + n = omega (arith, c) in
    after_step (line_count (b ∷ (s ++ (10 ∷ []))) + n) b ((s ++ (10 ∷ [])) ++ t) (λ z. omega (arith, c, d, l))
    ∙ ap (λ (m : ℕ). after_lines m ((s ++ (10 ∷ [])) ++ t)) k
    ∙ ended_line s n t

pub ended_append : (s t : List ℕ) → Ended s → Ended t → Ended (s ++ t)
ended_append s t h k n u =
    let c : line_count (s ++ t) + n ≡ line_count s + (line_count t + n) = omega (arith, count_append s t) in
    ap (λ (m : ℕ). after_lines m ((s ++ t) ++ u)) c ∙ ap (after_lines (line_count s + (line_count t + n))) (append_assoc s t u)
    ∙ h (line_count t + n) (t ++ u) ∙ k n u

-- numbers and names have no line's end
number_plain : (k v : ℕ) → v ≤ k → line_count (number_text v) ≡ 0
number_plain zero v h = ap line_count (number_short v (omega arith)) ∙ sym (count_other (48 + v) (λ e. omega arith))
number_plain (suc k) v h = by (ltb v 10) refl (number_plain k (v / 10))
  where
    by : (t : Bool) → ltb v 10 ≡ t → (v / 10 ≤ k → line_count (number_text (v / 10)) ≡ 0) → line_count (number_text v) ≡ 0
    by true t rest = ap line_count (number_short v (ltb-true v 10 t)) ∙ sym (count_other (48 + v) (λ e. omega arith))
    by false t rest =
        let g : 10 ≤ v = ltb-false v 10 t in
        let a : line_count (number_text (v / 10)) ≡ 0 = rest (omega arith) in
        let b : 0 ≡ line_count ((48 + v % 10) ∷ []) = count_other (48 + v % 10) (λ e. omega arith) in
        let c : line_count (number_text v) ≡ line_count (number_text (v / 10)) + line_count ((48 + v % 10) ∷ []) = ap line_count (number_long v g) ∙ count_append (number_text (v / 10)) ((48 + v % 10) ∷ []) in
        omega (arith, a, b, c)

no_name_byte : (b : ℕ) → is_name_byte b ≡ true → b ≡ 10 → ⊥
unfolding is_name_byte is_lower is_digit within
no_name_byte b h e = clash (rw e at h) refl

lower_no_end : (b : ℕ) → is_lower b ≡ true → b ≡ 10 → ⊥
unfolding is_lower within
lower_no_end b h e = clash (rw e at h) refl

bytes_plain : (s : List ℕ) → all_name_bytes s ≡ true → line_count s ≡ 0
bytes_plain [] h = count_none
bytes_plain (b ∷ s) h =
    let p = all_tail b s h in
    omega (arith, count_step b s, count_other b (no_name_byte b p.0), bytes_plain s p.1)

name_plain : (high low : ℕ) → is_name_cells high low ≡ true → line_count (name_text high low) ≡ 0
name_plain high low h = bytes_plain (name_text high low) (name_form (name_text high low) (cells_name high low h).name).bytes

-- what stands between the scope's number and the name in a query row's line: a space, and the kind
-- with a space where kinds are shown
unfoldable pub between : Bool → Row → List ℕ
between t row = 32 ∷ shown_kind t (value row 1)

-- a query row's line, with kinds or without
unfoldable pub row_line : Bool → Row → List ℕ
row_line t row = number_text (value row 0) ++ (between t row ++ (name_text (value row 2) (value row 3) ++ (10 ∷ [])))

unfoldable pub row_lines : Bool → List Row → List ℕ
row_lines t [] = []
row_lines t (row ∷ rows) = row_line t row ++ row_lines t rows

-- a row that can be written: a scope's number of five digits at most, a kind and a name
pub record Named (row : Row) : Type 0 where
  pub scope : value row 0 ≤ 99999
  pub kind : is_lower (value row 1) ≡ true
  pub name : is_name_cells (value row 2) (value row 3) ≡ true

abbrev pub AllNamed : List Row → Type 0
AllNamed [] = Unit {0}
AllNamed (row ∷ rows) = Named row × AllNamed rows

pub named_apart : (a b : List Row) → AllNamed (a ++ b) → AllNamed a × AllNamed b
named_apart [] b h = (tt, h)
named_apart (row ∷ a) b h = let r = named_apart a b h.1 in ((h.0, r.0), r.1)

pub lines_append : (t : Bool) (a b : List Row) → row_lines t (a ++ b) ≡ row_lines t a ++ row_lines t b
unfolding row_lines
lines_append t [] b = refl
lines_append t (row ∷ a) b = ap (λ (s : List ℕ). row_line t row ++ s) (lines_append t a b) ∙ sym (append_assoc (row_line t row) (row_lines t a) (row_lines t b))

-- the line before a text
pub line_then : (t : Bool) (row : Row) (s : List ℕ) → row_line t row ++ s ≡ number_text (value row 0) ++ (between t row ++ (name_text (value row 2) (value row 3) ++ (10 ∷ s)))
unfolding row_line
line_then t row s =
    let name = name_text (value row 2) (value row 3) in
    append_assoc (number_text (value row 0)) (between t row ++ (name ++ (10 ∷ []))) s
    ∙ ap (λ (u : List ℕ). number_text (value row 0) ++ u) (append_assoc (between t row) (name ++ (10 ∷ [])) s)
    ∙ ap (λ (u : List ℕ). number_text (value row 0) ++ (between t row ++ u)) (append_assoc name (10 ∷ []) s)

line_ended : (t : Bool) (row : Row) → Ended (row_line t row)
unfolding row_line
line_ended t row n u =
    let name = name_text (value row 2) (value row 3) in
    let body : List ℕ = number_text (value row 0) ++ (between t row ++ name) in
    let e : body ++ (10 ∷ []) ≡ row_line t row =
    append_assoc (number_text (value row 0)) (between t row ++ name) (10 ∷ [])
    ∙ ap (λ (s : List ℕ). number_text (value row 0) ++ s) (append_assoc (between t row) name (10 ∷ [])) in
    ap (λ (s : List ℕ). after_lines (line_count s + n) (s ++ u)) (sym e) ∙ ended_line body n u

pub lines_ended : (t : Bool) (rows : List Row) → Ended (row_lines t rows)
unfolding row_lines
lines_ended t [] = ended_none
lines_ended t (row ∷ rows) = ended_append (row_line t row) (row_lines t rows) (line_ended t row) (lines_ended t rows)

-- a kind ends no line
between_plain : (t : Bool) (row : Row) → is_lower (value row 1) ≡ true → line_count (between t row) ≡ 0
unfolding between shown_kind
between_plain true row h =
    let k = lower_no_end (value row 1) h in
    let s = count_other 32 (λ e. omega arith) in
    omega (arith, count_step 32 (value row 1 ∷ 32 ∷ []), count_step (value row 1) (32 ∷ []), count_other (value row 1) k, s)
between_plain false row h = sym (count_other 32 (λ e. omega arith))

line_one : (t : Bool) (row : Row) → Named row → line_count (row_line t row) ≡ 1
unfolding row_line
line_one t row h =
    let name = name_text (value row 2) (value row 3) in
    let a = count_append (number_text (value row 0)) (between t row ++ (name ++ (10 ∷ []))) in
    let b = count_append (between t row) (name ++ (10 ∷ [])) in
    let c = count_append name (10 ∷ []) in
    omega (arith, a, b, c, count_end 10 refl, between_plain t row h.kind, number_plain (value row 0) (value row 0) (omega arith), name_plain (value row 2) (value row 3) h.name)

-- as many lines as rows
pub lines_count : (t : Bool) (rows : List Row) → AllNamed rows → line_count (row_lines t rows) ≡ length rows
unfolding row_lines
lines_count t [] h = count_none
lines_count t (row ∷ rows) h = omega (arith, count_append (row_line t row) (row_lines t rows), line_one t row h.0, lines_count t rows h.1)
