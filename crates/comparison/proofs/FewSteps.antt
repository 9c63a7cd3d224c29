-- A row has 63 steps at the most, so rows agree in no more. Assumes nothing.
use mathlib.Core.Path.{◌≡◌, refl, sym}
use mathlib.Core.Logic.{⊎_elim}
use mathlib.Core.List.{List, [], ◌∷◌}
use Prim.Native.Nat.{ℕ, zero, suc, ◌≤◌}
use native.Mathlib.Omega.{arith}
use borrow.Author.Tests.{eqb-true, eqb-false}
use lib.Dec.{eqb, ltb}
use lib.ListN.{length, drop}
use Rattle.scope_graph.proofs.Lists.{Two}
use Rattle.std.specs.declared.option.Option.{Option}
use Rattle.std.specs.declared.option.Option.TheVariants.{Some, None}
use Rattle.text_field.specs.Outcome.{Outcome, refused, done, and_then, refuse_if}
use Rattle.graph_file.specs.File.{read_cells}
use Rattle.path_row.specs.declared.form.Step.{Step}
use Rattle.path_row.specs.Form.{PathRow, Front, row_here, head_here, step_here, steps_of, steps_after, steps_in}
use Rattle.path_row.proofs.FormLaws.{steps_on, steps_off}
use Rattle.path_row.proofs.RowReads.{steps_shown}
use Rattle.comparison.specs.Compare.{Told, agreement, told, compare_rows, compare_answer}
use Rattle.comparison.specs.Promises.{same_shown, agree_steps}
use Rattle.comparison.proofs.AgreeLaws.{steps_ended, steps_over, steps_same, steps_apart, agreement_apart, agreement_same}
use Rattle.comparison.proofs.LentLaws.{refuse_not}

few_of : (n : ℕ) (s : List ℕ) → length (steps_of n s) ≤ n
unfolding steps_of
few_of zero s = omega arith
few_of (suc n) s = by (step_here s) refl (few_of n)
  where
    by : (r : Option (Step × ℕ)) → step_here s ≡ r → ((u : List ℕ) → length (steps_of n u) ≤ n) → length (steps_of (suc n) s) ≤ suc n
    by None e ih = rw (steps_off n s e) (omega arith)
    by (Some (t, w)) e ih = rw (steps_on n s t w e) (let z = ih (drop w s) in omega arith)

steps_few : (o : Outcome Front) (s : List ℕ) → length (steps_after o s) ≤ 63
unfolding steps_after
steps_few (done h) s = few_of 63 (drop h.width s)
steps_few (refused n) s = omega arith

pub row_few : (s : List ℕ) (r : PathRow) → row_here s ≡ done r → length r.steps ≤ 63
unfolding steps_in
row_few s r e = rw (steps_shown s r e) (steps_few (head_here s) s)

agree_few : (ts us : List Step) → agree_steps ts us ≤ length ts
agree_few [] us = let z = steps_ended us in omega arith
agree_few (t ∷ ts) [] = let z = steps_over (t ∷ ts) in omega arith
agree_few (t ∷ ts) (u ∷ us) =
    let ih = agree_few ts us in
    ⊎_elim (λ e. let z = steps_same t u ts us e in omega arith) (λ e. let z = steps_apart t u ts us e in omega arith) (Two (same_shown t u))

agreement_few : (cells : List ℕ) (p q : PathRow) → agreement cells p q ≤ length p.steps
agreement_few cells p q =
    ⊎_elim
    (λ e. let z = agreement_same cells p q (eqb-true p.start q.start e) in let y = agree_few p.steps q.steps in omega arith)
    (λ e. let z = agreement_apart cells p q (eqb-false p.start q.start e) in omega arith)
    (Two (eqb p.start q.start))

told_few : (cells : List ℕ) (p q : PathRow) (t : Told) → length p.steps ≤ 63 → done (told cells p q) ≡ done t → t.steps ≤ 63
unfolding told
told_few cells p q t h e = let z : told cells p q ≡ t = cc in rw (sym z) (let y = agreement_few cells p q in omega arith)

rows_few : (cells a b : List ℕ) (n m : ℕ) (t : Told) → compare_rows cells a b n m ≡ done t → t.steps ≤ 63
unfolding compare_rows and_then
rows_few cells a b n m t e = by (row_here a) refl (row_here b) e
  where
    by : (o : Outcome PathRow) → row_here a ≡ o → (o' : Outcome PathRow)
        → and_then o (λ p. and_then o' (λ q. refuse_if (ltb n (length p.steps)) 9 (refuse_if (ltb m (length q.steps)) 9 (done (told cells p q))))) ≡ done t → t.steps ≤ 63
    by (refused k) f o' h = absurd (let z : ◌≡◌ {A = ℕ} 0 1 = cc in omega arith)
    by (done p) f (refused k) h = absurd (let z : ◌≡◌ {A = ℕ} 0 1 = cc in omega arith)
    by (done p) f (done q) h =
        let u = refuse_not (ltb n (length p.steps)) 9 (refuse_if (ltb m (length q.steps)) 9 (done (told cells p q))) t h in
        let v = refuse_not (ltb m (length q.steps)) 9 (done (told cells p q)) t u.1 in
        told_few cells p q t (row_few a p f) v.1

pub compare_few : (text a b : List ℕ) (n m : ℕ) (t : Told) → compare_answer text a b n m ≡ done t → t.steps ≤ 63
unfolding compare_answer and_then
compare_few text a b n m t e = by (read_cells text) e
  where
    by : (o : Outcome (List ℕ)) → and_then o (λ cells. compare_rows cells a b n m) ≡ done t → t.steps ≤ 63
    by (refused k) h = absurd (let z : ◌≡◌ {A = ℕ} 0 1 = cc in omega arith)
    by (done cells) h = rows_few cells a b n m t h
