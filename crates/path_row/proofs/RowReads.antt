-- What the answers of a path row's readers tell of the row, over plain lists: where its steps
-- begin, and the row in the large. Assumes nothing.
use mathlib.Core.Path.{◌≡◌, refl, sym, ap, ◌∙◌}
use mathlib.Core.Bool.{not}
use mathlib.Core.List.{List}
use Prim.Native.Nat.{ℕ}
use native.Mathlib.Omega.{arith}
use lib.Dec.{ltb}
use lib.ListN.{length, drop}
use lib.Seq.{drop-length}
use Rattle.std.specs.declared.option.Option.{Option}
use Rattle.std.specs.declared.option.Option.TheVariants.{Some, None}
use Rattle.text_field.specs.Outcome.{Outcome, refused, done, and_then}
use Rattle.graph_rows.specs.Way.{is_empty}
use Rattle.graph_rows.proofs.DecodeWay.{and_then_done, done_is}
use Rattle.path_row.specs.Form.{PathRow, most_steps, most_bytes, step_here, steps_of, after_steps, Front, head_meaning, head_here, behind_front, first_step, row_by, row_here, InLarge, in_large, row_in_large, row_meaning, steps_after, steps_in}
use Rattle.path_row.proofs.FormLaws.{refuse_done, refuse_through}

-- where a row's steps begin
pub first_none : (s : List ℕ) (a : Option (ℕ × ℕ × ℕ)) → head_meaning a ≡ head_here s → a ≡ None → length s ≡ first_step s
unfolding head_meaning first_step behind_front
first_none s a e f = rw (← e, f)

pub first_some : (s : List ℕ) (a : Option (ℕ × ℕ × ℕ)) (m v w : ℕ) → head_meaning a ≡ head_here s → a ≡ Some (m, v, w) → w ≡ first_step s
unfolding head_meaning first_step behind_front
first_some s a m v w e f = rw (← e, f)

-- the steps that a text shows are read from there on
first_steps : (s : List ℕ) (o : Outcome Front) → steps_of most_steps (drop (behind_front o s) s) ≡ steps_after o s
unfolding behind_front steps_after steps_of step_here
first_steps s (done h) = refl
first_steps s (refused n) = rw (drop-length s)

pub steps_first : (s : List ℕ) (i : ℕ) → i ≡ first_step s → steps_of most_steps (drop i s) ≡ steps_in s
unfolding first_step steps_in
steps_first s i e = rw e (first_steps s (head_here s))

-- a row that was read in the large
pub record RowIs (s : List ℕ) (mark start count : ℕ) : Type 0 where
  pub row : PathRow
  pub read : row_here s ≡ done row
  pub marks : row.mark ≡ mark
  pub starts : row.start ≡ start
  pub counts : length row.steps ≡ count
  pub steps : row.steps ≡ steps_in s

-- the steps of a row are those that its text shows
pub steps_shown : (s : List ℕ) (r : PathRow) → row_here s ≡ done r → r.steps ≡ steps_in s
unfolding row_here row_by steps_in steps_after
steps_shown s r e =
    let c = and_then_done (head_here s) (λ h. row_by h s) (refuse_through (ltb most_bytes (length s)) (and_then (head_here s) (λ h. row_by h s)) r e)
    in let w = c.0.width
    in let q = refuse_done (not (is_empty (after_steps most_steps (drop w s)))) (record { mark = c.0.mark; start = c.0.start; steps = steps_of most_steps (drop w s) }) r c.2
    in rw c.1 (ap (λ (x : PathRow). x.steps) (sym q.1))

-- what the reader's answer tells of the row
read_refused : (o : Outcome PathRow) → row_meaning None ≡ and_then o (λ r. done (in_large r)) → o ≡ refused 8
unfolding row_meaning and_then
read_refused (refused n) e = let z : n ≡ 8 = cc in ap refused z
read_refused (done r) e = absurd (let z : ◌≡◌ {A = ℕ} 0 1 = cc in omega arith)

read_done : (s : List ℕ) (o : Outcome PathRow) (m start count : ℕ) → row_here s ≡ o → row_meaning (Some (m, start, count)) ≡ and_then o (λ r. done (in_large r)) → RowIs s m start count
unfolding row_meaning and_then
read_done s (refused n) m start count f e = absurd (let z : ◌≡◌ {A = ℕ} 0 1 = cc in omega arith)
read_done s (done r) m start count f e =
    let q : record { mark = m; start = start; count = count } ≡ in_large r = done_is e
    in record {
      row = r;
      read = f;
      marks = ap (λ (x : InLarge). x.mark) (sym q);
      starts = ap (λ (x : InLarge). x.start) (sym q);
      counts = ap (λ (x : InLarge). x.count) (sym q);
      steps = steps_shown s r f;
    }

module _ (s : List ℕ) (a : Option (ℕ × ℕ × ℕ)) (e : row_meaning a ≡ row_in_large s) where
  pub row_is_refused : a ≡ None → row_here s ≡ refused 8
  unfolding row_in_large
  row_is_refused f = read_refused (row_here s) (ap row_meaning (sym f) ∙ e)

  pub row_is : (m start count : ℕ) → a ≡ Some (m, start, count) → RowIs s m start count
  unfolding row_in_large
  row_is m start count f = read_done s (row_here s) m start count refl (ap row_meaning (sym f) ∙ e)
