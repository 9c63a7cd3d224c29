-- The rows of a listing: one at a place, and all of them one after the other. Assumes nothing.
use Prim.Native.Nat.{ℕ, zero, suc, ◌+◌, ◌-◌, ◌≤◌, ◌<◌}
use mathlib.Core.Path.{◌≡◌, refl, sym, ap, ◌∙◌, subst}
use mathlib.Core.Bool.{true}
use mathlib.Core.Option.{Option, some, none}
use mathlib.Core.List.{List, [], ◌∷◌, ◌++◌, flat_map, append_assoc}
use native.Mathlib.Omega.{arith}
use lib.ListN.{length, take, drop, length-append, length-drop}
use lib.Seq.{drop-drop, take_at, drop-append-add}
use Rattle.std.proofs.lemmas.Option.{some_pair_parts}
use Rattle.std.specs.declared.option.Option.{Option as Maybe}
use Rattle.std.specs.declared.option.Option.TheVariants.{Some, None as Nothing}
use Rattle.text_field.specs.Lines.{line_placed, line_here, LineAt}
use Rattle.text_field.specs.Outcome.{Outcome, refused, done}
use Rattle.text_field.proofs.LineLaws.{LineFound, line_found, line_told}
use Rattle.text_field.proofs.Steps.{drop_end}
use Rattle.path_row.specs.Form.{PathRow, row_here, row_text, is_row}
use Rattle.path_row.proofs.FormLaws.{read_then_written}
use Rattle.told.specs.Delivered.{row_line}
use Rattle.told.specs.Apart.{row_by, row_of_line, first_row, rows_from, rows_in}
use Rattle.told.specs.Steps.{RowStands, RowTold, RowsSpan}

-- what was read as a first row: its line stands at the start, and it is a row
pub record FirstIs (s : List ℕ) (r : PathRow) (rest : List ℕ) : Type 0 where
  pub text : s ≡ row_line r ++ rest
  pub row : is_row r ≡ true

pub first_is : (s : List ℕ) (r : PathRow) (rest : List ℕ) → first_row s ≡ some (r, rest) → FirstIs s r rest
unfolding first_row row_line row_by row_of_line
first_is s r rest e = by (line_here s) refl e
  where
    read : (end next : ℕ) → LineFound s end next → (o : Outcome PathRow) → row_here (take end s) ≡ o → row_by o (drop next s) ≡ some (r, rest) → FirstIs s r rest
    read end next f (refused n) g h = absurd (let z : ◌≡◌ {A = ℕ} 0 1 = cc in omega arith)
    read end next f (done p) g h =
        let pair : ◌≡◌ {A = PathRow × List ℕ} (p, drop next s) (r, rest) = cc in
        let same : p ≡ r = ap (λ (x : PathRow × List ℕ). x.0) pair in
        let tail : drop next s ≡ rest = ap (λ (x : PathRow × List ℕ). x.1) pair in
        let line : take end s ≡ f.line = ap (take end) f.whole ∙ take_at f.line (10 ∷ f.rest) end f.width in
        let w = read_then_written (take end s) p g in
        let m : next ≡ length f.line + 1 = omega (arith, f.width, f.after) in
        let left : drop next s ≡ f.rest = ap (drop next) f.whole ∙ ap (λ (n : ℕ). drop n (f.line ++ (10 ∷ f.rest))) m ∙ drop-append-add f.line (10 ∷ f.rest) 1 in
        record {
          text =
              f.whole
              ∙ ap (λ (l : List ℕ). l ++ (10 ∷ f.rest)) (sym line ∙ sym w.0 ∙ ap row_text same)
              ∙ ap (λ (l : List ℕ). row_text r ++ (10 ∷ l)) (sym left ∙ tail)
              ∙ sym (append_assoc (row_text r) (10 ∷ []) rest);
          row = rw (← same) w.1;
        }

    by : (l : Maybe (ℕ × ℕ)) → line_here s ≡ l → row_of_line l s ≡ some (r, rest) → FirstIs s r rest
    by Nothing g h = absurd (let z : ◌≡◌ {A = ℕ} 0 1 = cc in omega arith)
    by (Some (end, next)) g h = read end next (line_found s end next g) (row_here (take end s)) refl h

line_some : (r : PathRow) → 1 ≤ length (row_line r)
unfolding row_line
line_some r = let l = length-append (row_text r) (10 ∷ []) in omega arith

pub first_shorter : (s : List ℕ) (r : PathRow) (rest : List ℕ) → first_row s ≡ some (r, rest) → length s ≡ length (row_line r) + length rest
first_shorter s r rest e = ap length (first_is s r rest e).text ∙ length-append (row_line r) rest

-- any number of rows that is enough gives all of them
abbrev Rows : Type 0
Rows = List PathRow × List ℕ

pub from_none : (n : ℕ) (s : List ℕ) → first_row s ≡ none → rows_from n s ≡ ([], s)
unfolding rows_from
from_none zero s e = refl
from_none (suc n) s e = rw (e, rows_from)

pub from_some : (n : ℕ) (s : List ℕ) (r : PathRow) (rest : List ℕ) → first_row s ≡ some (r, rest) → rows_from (suc n) s ≡ (r ∷ (rows_from n rest).0, (rows_from n rest).1)
unfolding rows_from
from_some n s r rest e = rw (e, rows_from)

none_empty : first_row [] ≡ none
unfolding first_row row_of_line line_here
none_empty = refl

enough : (n m : ℕ) (s : List ℕ) → length s ≤ n → length s ≤ m → rows_from n s ≡ rows_from m s
unfolding rows_from
enough zero m [] h k = sym (from_none m [] none_empty)
enough zero m (x ∷ s) h k = absurd (omega arith)
enough (suc n) zero [] h k = from_none (suc n) [] none_empty
enough (suc n) zero (x ∷ s) h k = absurd (omega arith)
enough (suc n) (suc m) s h k = by (first_row s) refl (enough n m)
  where
    by : (o : Option (PathRow × List ℕ)) → first_row s ≡ o → ((t : List ℕ) → length t ≤ n → length t ≤ m → rows_from n t ≡ rows_from m t)
        → rows_from (suc n) s ≡ rows_from (suc m) s
    by none e so = from_none (suc n) s e ∙ sym (from_none (suc m) s e)
    by (some (r, rest)) e so =
        let l = first_shorter s r rest e in
        let g = line_some r in
        from_some n s r rest e ∙ ap (λ (p : Rows). (r ∷ p.0, p.1)) (so rest (omega arith) (omega arith)) ∙ sym (from_some m s r rest e)

module _ (s : List ℕ) where
  pub rows_none : first_row s ≡ none → rows_in s ≡ ([], s)
  unfolding rows_in
  rows_none e = from_none (length s) s e

  pub rows_some : (r : PathRow) (rest : List ℕ) → first_row s ≡ some (r, rest) → rows_in s ≡ (r ∷ (rows_in rest).0, (rows_in rest).1)
  unfolding rows_in
  rows_some r rest e =
      let l = first_shorter s r rest e in
      let m = line_some r in
      let n : length s ≡ suc (length s - 1) = omega arith in
      let f : rows_from (length s - 1) rest ≡ rows_from (length rest) rest = enough (length s - 1) (length rest) rest (omega arith) (omega arith) in
      ap (λ (k : ℕ). rows_from k s) n ∙ from_some (length s - 1) s r rest e ∙ ap (λ (p : Rows). (r ∷ p.0, p.1)) f

-- the row at a place, by the line that stands there
module _ (s : List ℕ) (at : ℕ) (a : Maybe (ℕ × ℕ)) (e : a ≡ line_placed at (line_here (drop at s))) where
  pub row_none : a ≡ Nothing → first_row (drop at s) ≡ none
  unfolding first_row line_placed row_of_line
  row_none f = by (line_here (drop at s)) (sym e ∙ f)
    where
      by : (l : Maybe (ℕ × ℕ)) → line_placed at l ≡ Nothing → row_of_line l (drop at s) ≡ none
      by Nothing g = refl
      by (Some (x, y)) g = absurd (let z : ◌≡◌ {A = ℕ} 0 1 = cc in omega arith)

  module _ (end next : ℕ) (f : a ≡ Some (end, next)) where
    stands : LineAt s at end next
    stands = (line_told s at end next).0 (sym e ∙ f)

    pub line_from : at ≤ end
    line_from = stands.from

    pub line_inside : end < length s
    line_inside = omega (arith, stands.inside, stands.grows)

    first_by : first_row (drop at s) ≡ row_by (row_here (take (end - at) (drop at s))) (drop next s)
    unfolding first_row line_placed row_of_line
    first_by = by (line_here (drop at s)) (sym e ∙ f)
      where
        by : (l : Maybe (ℕ × ℕ)) → line_placed at l ≡ Some (end, next) → row_of_line l (drop at s) ≡ row_by (row_here (take (end - at) (drop at s))) (drop next s)
        by Nothing g = absurd (let z : ◌≡◌ {A = ℕ} 0 1 = cc in omega arith)
        by (Some (x, y)) g =
            let z = some_pair_parts (at + x) end (at + y) next g in
            let p : at + x ≡ end = z.0 in
            let q : at + y ≡ next = z.1 in
            let w : x ≡ end - at = omega arith in
            let d : drop y (drop at s) ≡ drop next s = drop-drop y at s ∙ ap (λ (n : ℕ). drop n s) q in
            ap (λ (n : ℕ). row_by (row_here (take n (drop at s))) (drop y (drop at s))) w ∙ ap (row_by (row_here (take (end - at) (drop at s)))) d

    pub row_other : row_here (take (end - at) (drop at s)) ≡ refused 8 → first_row (drop at s) ≡ none
    unfolding row_by
    row_other g = first_by ∙ ap (λ (o : Outcome PathRow). row_by o (drop next s)) g

    pub row_stands : (r : PathRow) → row_here (take (end - at) (drop at s)) ≡ done r → RowStands s at end next
    unfolding row_by
    row_stands r g = record {
      row = r;
      read = g;
      first = first_by ∙ ap (λ (o : Outcome PathRow). row_by o (drop next s)) g;
      from = stands.from;
      grows = stands.grows;
      inside = stands.inside;
    }

-- what is told of a place
module _ (s : List ℕ) (at : ℕ) (r : Maybe (ℕ × ℕ)) (t : RowTold s at r) where
  pub told_none : r ≡ Nothing → first_row (drop at s) ≡ none
  told_none e = subst (RowTold s at) e t

  pub told_row : (end next : ℕ) → r ≡ Some (end, next) → RowStands s at end next
  told_row end next e = subst (RowTold s at) e t

-- a loop over the rows from place `at` on has come to place k
pub record Passed (s : List ℕ) (at k count : ℕ) : Type 0 where
  pub few : count + at ≤ k
  pub counted : count + length (rows_in (drop k s)).0 ≡ length (rows_in (drop at s)).0
  pub rest : (rows_in (drop k s)).1 ≡ (rows_in (drop at s)).1
  pub spans : k + length (flat_map row_line (rows_in (drop k s)).0) ≡ at + length (flat_map row_line (rows_in (drop at s)).0)

module _ (s : List ℕ) (at : ℕ) where
  pub passed_first : Passed s at at 0
  passed_first = record { few = omega arith; counted = omega arith; rest = refl; spans = refl }

  module _ (k count : ℕ) (p : Passed s at k count) where
    pub passed_on : (end next : ℕ) → RowStands s k end next → Passed s at next (count + 1)
    unfolding flat_map
    passed_on end next w =
        let all : rows_in (drop k s) ≡ (w.row ∷ (rows_in (drop next s)).0, (rows_in (drop next s)).1) = rows_some (drop k s) w.row (drop next s) w.first in
        let l = first_shorter (drop k s) w.row (drop next s) w.first in
        let d = length-drop k s in
        let e = length-drop next s in
        let g = w.grows in
        let i = w.inside in
        let f = w.from in
        let a : length (rows_in (drop k s)).0 ≡ suc (length (rows_in (drop next s)).0) = ap (λ (x : Rows). length x.0) all in
        let b : length (flat_map row_line (rows_in (drop k s)).0) ≡ length (row_line w.row) + length (flat_map row_line (rows_in (drop next s)).0) =
        ap (λ (x : Rows). length (flat_map row_line x.0)) all ∙ length-append (row_line w.row) (flat_map row_line (rows_in (drop next s)).0) in
        record {
          few = omega (arith, p.few);
          counted = omega (arith, p.counted);
          rest = ap (λ (x : Rows). x.1) (sym all) ∙ p.rest;
          spans = omega (arith, p.spans);
        }

    pub passed_end : first_row (drop k s) ≡ none → RowsSpan s at count k
    unfolding flat_map
    passed_end e =
        let all : rows_in (drop k s) ≡ ([], drop k s) = rows_none (drop k s) e in
        let a : length (rows_in (drop k s)).0 ≡ 0 = ap (λ (x : Rows). length x.0) all in
        let b : length (flat_map row_line (rows_in (drop k s)).0) ≡ 0 = ap (λ (x : Rows). length (flat_map row_line x.0)) all in
        record {
          counted = omega (arith, p.counted);
          rest = ap (λ (x : Rows). x.1) (sym all) ∙ p.rest;
          spans = omega (arith, p.spans);
        }

    pub passed_out : length s ≤ k → RowsSpan s at count k
    passed_out h = passed_end (ap first_row (drop_end s k h) ∙ none_empty)
