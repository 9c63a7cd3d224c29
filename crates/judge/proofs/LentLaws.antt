-- What a judgement hands out for the lent step table. Assumes nothing.
use mathlib.Core.Path.{◌≡◌, refl, sym, ap, ◌∙◌}
use mathlib.Core.List.{List, []}
use Prim.Native.Nat.{ℕ, ◌≤◌}
use native.Mathlib.Omega.{arith}
use borrow.Author.Tests.{ltb-false}
use lib.Dec.{leb, ltb}
use lib.ListN.{length}
use Rattle.scope_graph.specs.Rows.{language}
use Rattle.scope_graph.specs.Agree.{Judgement, judgement}
use Rattle.text_field.specs.Outcome.{Outcome, refused, done, and_then, refuse_if}
use Rattle.graph_file.specs.File.{read_cells}
use Rattle.graph_rows.specs.Decode.{rules_of, graph_of, queries_of}
use Rattle.path_row.specs.declared.taken.Steps.{Steps}
use Rattle.path_row.specs.Form.{PathRow, row_here, steps_held}
use Rattle.path_row.specs.Lent.{steps_lent}
use Rattle.path_row.proofs.LentLaws.{lent_all}
use Rattle.board.specs.Queries.{query_at}
use Rattle.comparison.proofs.LentLaws.{refuse_not}
use Rattle.judge.specs.declared.standing.Judged.{Judged}
use Rattle.std.specs.declared.result.Result.{Result}
use Rattle.std.specs.declared.result.Result.TheVariants.{Err}
use Rattle.text_field.specs.declared.refusal.Refusal.{Refusal}
use Rattle.text_field.specs.Refusal.{number_of}
use Rattle.judge.specs.declared.text.JudgedRow.{JudgedRow}
use Rattle.judge.specs.Judge.{meaning, as_rules_row, judge_of, judge_answer, HandsOut}

-- a refusal hands out no steps
pub hands_none : (o : Outcome Judgement) (row : List ℕ) (k : Refusal) (r : JudgedRow) → (r.answer ≡ Err k) × (r.steps ≡ steps_held []) → refused (number_of k) ≡ o → HandsOut o row r
unfolding meaning steps_lent
hands_none o row k r (e, f) h = rw (← h) (record { answer = ap meaning e; steps = f })

-- a row that was read and fits hands out its steps
pub hands_all : (row : List ℕ) (p : PathRow) → row_here row ≡ done p → (o : Outcome Judgement) (c : Judgement) → o ≡ done c → (t : Steps) → t ≡ steps_held p.steps → (r : Result Judged Refusal) → meaning r ≡ o → HandsOut o row (record { answer = r; steps = t })
hands_all row p e o c w t held r h = record { answer = h; steps = held ∙ ap steps_held (sym (ap (λ (z : Outcome Judgement). steps_lent z row) w ∙ lent_all c row p e)) }

-- an answer that is no refusal: the row is one, and its steps fit
record Passed (row : List ℕ) (n : ℕ) : Type 0 where
  p : PathRow
  reads : row_here row ≡ done p
  fits : length p.steps ≤ n

module _ (i : ℕ) (row : List ℕ) (n : ℕ) where
  passed : (cells : List ℕ) (s : Judgement) → judge_of cells i row n ≡ done s → Passed row n
  unfolding judge_of and_then
  passed cells s e = by (row_here row) refl (refuse_not (leb (length (queries_of cells)) i) 7 (and_then (row_here row) next) s e).1
    where
      next : PathRow → Outcome Judgement
      next p = refuse_if (ltb n (length p.steps)) 9 (done (judgement (language (rules_of cells)) (graph_of cells) (query_at cells i) (as_rules_row cells p)))

      by : (o : Outcome PathRow) → row_here row ≡ o → and_then o next ≡ done s → Passed row n
      by (refused k) f g = absurd (let z : ◌≡◌ {A = ℕ} 0 1 = cc in omega arith)
      by (done p) f g =
          let u = refuse_not (ltb n (length p.steps)) 9 (done (judgement (language (rules_of cells)) (graph_of cells) (query_at cells i) (as_rules_row cells p))) s g in
          record { p = p; reads = f; fits = ltb-false n (length p.steps) u.0 }

  by_cells : (s : Judgement) (cells : Outcome (List ℕ)) → done s ≡ and_then cells (λ x. judge_of x i row n) → Passed row n
  unfolding and_then
  by_cells s (refused k) e = absurd (let z : ◌≡◌ {A = ℕ} 0 1 = cc in omega arith)
  by_cells s (done cells) e = passed cells s (sym e)

  -- what is handed out fits the table
  lent_fit : (text : List ℕ) (o : Outcome Judgement) → o ≡ judge_answer text i row n → length (steps_lent o row) ≤ n
  unfolding judge_answer steps_lent
  lent_fit text (refused k) e = omega arith
  lent_fit text (done s) e = let r = by_cells s (read_cells text) e in rw (lent_all s row r.p r.reads) r.fits

  pub steps_fit : (text : List ℕ) → length (steps_lent (judge_answer text i row n) row) ≤ n
  steps_fit text = lent_fit text (judge_answer text i row n) refl
