-- What a comparison hands out for the two lent step tables. Assumes nothing.
use mathlib.Core.Path.{◌≡◌, refl, sym, ap, ◌∙◌}
use mathlib.Core.Bool.{Bool, true, false}
use mathlib.Core.List.{List, []}
use Prim.Native.Nat.{ℕ, ◌≤◌}
use native.Mathlib.Omega.{arith}
use borrow.Author.Tests.{ltb-false}
use lib.Dec.{ltb}
use lib.ListN.{length}
use Rattle.text_field.specs.Outcome.{Outcome, refused, done, and_then, refuse_if}
use Rattle.graph_file.specs.File.{read_cells}
use Rattle.path_row.specs.declared.form.Step.{Step}
use Rattle.path_row.specs.declared.taken.Steps.{Steps}
use Rattle.path_row.specs.Form.{PathRow, row_here, steps_in, steps_taken, steps_held}
use Rattle.path_row.specs.Numbering.{path_of}
use Rattle.path_row.specs.Lent.{steps_lent}
use Rattle.path_row.proofs.RowReads.{RowIs}
use Rattle.path_row.proofs.TakenLaws.{taken_held}
use Rattle.path_row.proofs.LentLaws.{lent_all}
use Rattle.comparison.specs.declared.rows.Compared.{Compared}
use Rattle.std.specs.declared.result.Result.TheVariants.{Ok, Err}
use Rattle.text_field.specs.declared.refusal.Refusal.{Refusal}
use Rattle.text_field.specs.Refusal.{number_of}
use Rattle.comparison.specs.declared.rows.ComparedRows.{ComparedRows}
use Rattle.comparison.specs.Compare.{Told, told_in, meaning, row_before, comparison, agreement, told, told_of, compare_rows, compare_answer, HandsOut}

-- a refusal hands out no steps
pub hands_none : (o : Outcome Told) (a b : List ℕ) (k : Refusal) (r : ComparedRows) → (r.answer ≡ Err k) × ((r.first ≡ steps_held []) × (r.second ≡ steps_held [])) → refused (number_of k) ≡ o → HandsOut o a b r
unfolding meaning steps_lent
hands_none o a b k r (e, (f, g)) h = rw (← h) (record { answer = ap meaning e; first = f; second = g })

-- what is told of two rows is told by their starts and steps
same_told : (cells : List ℕ) (s t : ℕ) (ts us : List Step) (p q : PathRow) → p.start ≡ s → q.start ≡ t → p.steps ≡ ts → q.steps ≡ us → told_of cells s t ts us ≡ told cells p q
unfolding told_of told comparison agreement row_before path_of
same_told cells s t ts us p q e f g h = rw (← e, ← f, ← g, ← h) refl

-- rows that were read and fit: each hands out its steps
pub hands_all : (cells a b : List ℕ) (o : Outcome Told) (mark start count : ℕ) (p : RowIs a mark start count) (mark' other more : ℕ) (q : RowIs b mark' other more) → o ≡ done (told cells p.row q.row) → (ts us : Steps) → ts ≡ steps_held (steps_in a)
    → us ≡ steps_held (steps_in b) → (r : Compared) → told_in r ≡ told_of cells start other (steps_taken ts) (steps_taken us) → HandsOut o a b (record { answer = Ok r; first = ts; second = us })
unfolding meaning
hands_all cells a b o mark start count p mark' other more q w ts us e f r h =
    let x : steps_taken ts ≡ p.row.steps = ap steps_taken e ∙ taken_held (steps_in a) ∙ sym p.steps in
    let y : steps_taken us ≡ q.row.steps = ap steps_taken f ∙ taken_held (steps_in b) ∙ sym q.steps in
    record {
      answer = ap {B = Outcome Told} (λ (z : Told). done z) (h ∙ same_told cells start other (steps_taken ts) (steps_taken us) p.row q.row p.starts q.starts (sym x) (sym y)) ∙ sym w;
      first = e ∙ ap steps_held (sym (ap (λ (z : Outcome Told). steps_lent z a) w ∙ lent_all _ a p.row p.read ∙ p.steps));
      second = f ∙ ap steps_held (sym (ap (λ (z : Outcome Told). steps_lent z b) w ∙ lent_all _ b q.row q.read ∙ q.steps));
    }

-- a comparison that was not refused: both rows are rows, and their steps fit
record Passed (a b : List ℕ) (n m : ℕ) : Type 0 where
  p : PathRow
  q : PathRow
  reads_a : row_here a ≡ done p
  reads_b : row_here b ≡ done q
  fits_a : length p.steps ≤ n
  fits_b : length q.steps ≤ m

pub refuse_not : {A : Type 0} (t : Bool) (k : ℕ) (o : Outcome A) (x : A) → refuse_if t k o ≡ done x → (t ≡ false) × (o ≡ done x)
unfolding refuse_if
refuse_not true k o x e = absurd (let z : ◌≡◌ {A = ℕ} 0 1 = cc in omega arith)
refuse_not false k o x e = (refl, e)

passed : (cells a b : List ℕ) (n m : ℕ) (c : Told) → compare_rows cells a b n m ≡ done c → Passed a b n m
unfolding compare_rows and_then
passed cells a b n m c e = by (row_here a) refl (row_here b) refl e
  where
    by : (o : Outcome PathRow) → row_here a ≡ o → (o' : Outcome PathRow) → row_here b ≡ o'
        → and_then o (λ p. and_then o' (λ q. refuse_if (ltb n (length p.steps)) 9 (refuse_if (ltb m (length q.steps)) 9 (done (told cells p q))))) ≡ done c → Passed a b n m
    by (refused k) f o' g h = absurd (let z : ◌≡◌ {A = ℕ} 0 1 = cc in omega arith)
    by (done p) f (refused k) g h = absurd (let z : ◌≡◌ {A = ℕ} 0 1 = cc in omega arith)
    by (done p) f (done q) g h =
        let u = refuse_not (ltb n (length p.steps)) 9 (refuse_if (ltb m (length q.steps)) 9 (done (told cells p q))) c h
        in let v = refuse_not (ltb m (length q.steps)) 9 (done (told cells p q)) c u.1
        in record { p = p; q = q; reads_a = f; reads_b = g; fits_a = ltb-false n (length p.steps) u.0; fits_b = ltb-false m (length q.steps) v.0 }

module _ (text a b : List ℕ) (n m : ℕ) where
  by_cells : (c : Told) (cells : Outcome (List ℕ)) → done c ≡ and_then cells (λ x. compare_rows x a b n m) → Passed a b n m
  unfolding and_then
  by_cells c (refused k) e = absurd (let z : ◌≡◌ {A = ℕ} 0 1 = cc in omega arith)
  by_cells c (done cells) e = passed cells a b n m c (sym e)

  -- what is handed out fits the tables
  lent_fit : (o : Outcome Told) → o ≡ compare_answer text a b n m → (length (steps_lent o a) ≤ n) × (length (steps_lent o b) ≤ m)
  unfolding compare_answer steps_lent
  lent_fit (refused k) e = (omega arith, omega arith)
  lent_fit (done c) e =
      let r = by_cells c (read_cells text) e in
      (rw (lent_all c a r.p r.reads_a) r.fits_a, rw (lent_all c b r.q r.reads_b) r.fits_b)

  pub first_fits : length (steps_lent (compare_answer text a b n m) a) ≤ n
  first_fits = (lent_fit (compare_answer text a b n m) refl).0

  pub second_fits : length (steps_lent (compare_answer text a b n m) b) ≤ m
  second_fits = (lent_fit (compare_answer text a b n m) refl).1
