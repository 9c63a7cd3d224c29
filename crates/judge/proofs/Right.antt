-- The judge's answer is the row's standing by the rules, and the only one (specs/Standing). Assumes
-- nothing.
use mathlib.Core.Path.{◌≡◌, refl, sym, ap, ◌∙◌}
use mathlib.Core.Logic.{◌↔◌}
use mathlib.Core.List.{List}
use Prim.Native.Nat.{ℕ, ◌≤◌, ◌<◌}
use borrow.Author.Tests.{lt-leb, le-ltb}
use lib.ListN.{length}
use Rattle.scope_graph.specs.Language.{Language}
use Rattle.scope_graph.specs.Graph.{Graph, Query}
use Rattle.scope_graph.specs.Rows.{language}
use Rattle.scope_graph.specs.Agree.{Judgement, as_visible, as_shadowed, as_unreached, judgement, CaughtIs}
use Rattle.scope_graph.proofs.Agree.{agree_promises}
use Rattle.text_field.specs.Outcome.{Outcome, done, and_then, refuse_if}
use Rattle.graph_file.specs.File.{read_cells}
use Rattle.graph_rows.specs.Decode.{rules_of, graph_of, opens_of, queries_of, scopes_of}
use Rattle.path_row.specs.Form.{PathRow, row_here}
use Rattle.board.specs.Queries.{query_at}
use Rattle.board.proofs.Queries.{get_d_in, accepted}
use Rattle.judge.specs.Judge.{as_rules_row, judge_of, judge_answer}
use Rattle.judge.specs.Standing.{Stands, JudgedRight}

done_same : {A : Type 0} (a b : A) → ◌≡◌ {A = Outcome A} (done a) (done b) → a ≡ b
done_same a b e = cc

module _ (text cells : List ℕ) (read : read_cells text ≡ done cells) (i : ℕ) (inside : i < length (queries_of cells)) (row : List ℕ) (p : PathRow)
    (row_is : row_here row ≡ done p) (room : ℕ) (fits : length p.steps ≤ room) where
  abbrev L : Language
  L = language (rules_of cells)

  abbrev g : Graph L
  g = graph_of cells

  abbrev q : Query L
  q = query_at cells i

  abbrev found : Judgement
  found = judgement L g q (as_rules_row cells p)

  starts : (query_at cells i).start < scopes_of cells
  unfolding query_at
  starts = (accepted cells (text, read)).starts (query_at cells i) (get_d_in (queries_of cells) i _ inside)

  kept : CaughtIs L g q
  kept = agree_promises.query L g (opens_of cells) q ((accepted cells (text, read)).accepted q starts) (agree_promises.language (rules_of cells))

  answer_is : judge_answer text i row room ≡ done found
  unfolding judge_answer judge_of and_then refuse_if
  answer_is = rw (read, lt-leb (length (queries_of cells)) i inside, row_is, le-ltb room (length p.steps) fits)

  by_rules : (s : Judgement) → (found ≡ s) ↔ Stands cells i p s
  by_rules as_visible = kept.visible (as_rules_row cells p)
  by_rules (as_shadowed n) = kept.shadowed (as_rules_row cells p) n
  by_rules as_unreached = kept.unreached (as_rules_row cells p)

  pub answers : (s : Judgement) → (judge_answer text i row room ≡ done s) ↔ Stands cells i p s
  answers s = (λ e. (by_rules s).0 (done_same found s (sym answer_is ∙ e)), λ k. answer_is ∙ ap {B = Outcome Judgement} (λ (z : Judgement). done z) ((by_rules s).1 k))

  pub holds : Stands cells i p found
  holds = (by_rules found).0 refl

  pub no_other : (s : Judgement) → Stands cells i p s → s ≡ found
  no_other s k = sym ((by_rules s).1 k)

-- every answer is right
pub judged_right : JudgedRight
judged_right text cells read i inside row p row_is room fits = record {
  answered = answers text cells read i inside row p row_is room fits;
  standing = judgement (language (rules_of cells)) (graph_of cells) (query_at cells i) (as_rules_row cells p);
  stands = holds text cells read i inside row p row_is room fits;
  only = no_other text cells read i inside row p row_is room fits;
}
