-- A row has 63 steps at the most, so it is shadowed with no more. Assumes nothing.
use mathlib.Core.Path.{◌≡◌, refl, ap}
use mathlib.Core.List.{List, [], ◌∷◌}
use Prim.Native.Nat.{ℕ, suc, ◌≤◌}
use native.Mathlib.Omega.{arith}
use lib.Dec.{leb, ltb}
use lib.ListN.{length}
use Rattle.scope_graph.specs.Rows.{language}
use Rattle.scope_graph.specs.Path.{HopOf}
use Rattle.scope_graph.specs.Turns.{Turned}
use Rattle.scope_graph.specs.Computed.{judged}
use Rattle.scope_graph.specs.Agree.{Judgement, as_shadowed, caught, judgement}
use Rattle.scope_graph.proofs.Agree.{is_shadowed_with, caught_within}
use Rattle.text_field.specs.Outcome.{Outcome, refused, done, and_then, refuse_if}
use Rattle.graph_file.specs.File.{read_cells}
use Rattle.graph_rows.specs.Decode.{rules_of, graph_of, queries_of}
use Rattle.path_row.specs.declared.form.Step.{Step}
use Rattle.path_row.specs.Form.{PathRow, row_here}
use Rattle.path_row.specs.Numbering.{hops_of, path_of}
use Rattle.comparison.proofs.LentLaws.{refuse_not}
use Rattle.comparison.proofs.FewSteps.{row_few}
use Rattle.board.specs.Queries.{query_at}
use Rattle.judge.specs.Judge.{as_rules_row, judge_of, judge_answer}

hops_long : (leaving : ℕ → List (HopOf Turned)) (letters : List ℕ) (s : ℕ) (ts : List Step) → length (hops_of leaving letters s ts) ≡ length ts
unfolding hops_of
hops_long leaving letters s [] = refl
hops_long leaving letters s (t ∷ ts) = ap suc (hops_long leaving letters t.scope ts)

path_long : (cells : List ℕ) (p : PathRow) → length (as_rules_row cells p).path.hops ≡ length p.steps
unfolding as_rules_row path_of
path_long cells p = hops_long _ _ p.start p.steps

told_few : (cells : List ℕ) (i : ℕ) (p : PathRow) (n : ℕ) → length p.steps ≤ 63
    → ◌≡◌ {A = Outcome Judgement} (done (judgement (language (rules_of cells)) (graph_of cells) (query_at cells i) (as_rules_row cells p))) (done (as_shadowed n)) → n ≤ 63
unfolding judgement
told_few cells i p n h e =
    let z : judgement (language (rules_of cells)) (graph_of cells) (query_at cells i) (as_rules_row cells p) ≡ as_shadowed n = cc in
    let s = is_shadowed_with (judged (language (rules_of cells)) (graph_of cells) (query_at cells i) (as_rules_row cells p)) (caught (language (rules_of cells)) (graph_of cells) (query_at cells i) (as_rules_row cells p).path) n z in
    let w = caught_within (language (rules_of cells)) (graph_of cells) (query_at cells i) (as_rules_row cells p).path in
    let l = path_long cells p in
    omega (arith, s.1)

table_few : (cells : List ℕ) (i : ℕ) (row : List ℕ) (room n : ℕ) → judge_of cells i row room ≡ done (as_shadowed n) → n ≤ 63
unfolding judge_of and_then
table_few cells i row room n e =
    by (row_here row) refl (refuse_not (leb (length (queries_of cells)) i) 7 (and_then (row_here row) next) (as_shadowed n) e).1
  where
    next : PathRow → Outcome Judgement
    next p = refuse_if (ltb room (length p.steps)) 9 (done (judgement (language (rules_of cells)) (graph_of cells) (query_at cells i) (as_rules_row cells p)))

    by : (o : Outcome PathRow) → row_here row ≡ o → and_then o next ≡ done (as_shadowed n) → n ≤ 63
    by (refused k) f g = absurd (let z : ◌≡◌ {A = ℕ} 0 1 = cc in omega arith)
    by (done p) f g =
        told_few cells i p n (row_few row p f)
        (refuse_not (ltb room (length p.steps)) 9 (done (judgement (language (rules_of cells)) (graph_of cells) (query_at cells i) (as_rules_row cells p))) (as_shadowed n) g).1

pub judge_few : (text : List ℕ) (i : ℕ) (row : List ℕ) (room n : ℕ) → judge_answer text i row room ≡ done (as_shadowed n) → n ≤ 63
unfolding judge_answer and_then
judge_few text i row room n e = by (read_cells text) e
  where
    by : (o : Outcome (List ℕ)) → and_then o (λ cells. judge_of cells i row room) ≡ done (as_shadowed n) → n ≤ 63
    by (refused k) h = absurd (let z : ◌≡◌ {A = ℕ} 0 1 = cc in omega arith)
    by (done cells) h = table_few cells i row room n h
