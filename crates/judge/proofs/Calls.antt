-- How a row is refused, and how it is judged, call by call: of a table that was read, and of a
-- text. Assumes nothing.
use mathlib.Core.Path.{◌≡◌, refl, sym, ap, ◌∙◌}
use mathlib.Core.List.{List}
use Prim.Native.Nat.{ℕ, ◌*◌, ◌≤◌, ◌<◌}
use native.Mathlib.Omega.{arith}
use borrow.Author.Tests.{le-leb, lt-leb, le-ltb, lt-ltb}
use lib.Dec.{ltb}
use lib.ListN.{length}
use Rattle.scope_graph.specs.Graph.{Query}
use Rattle.scope_graph.specs.Rows.{language}
use Rattle.scope_graph.specs.Agree.{Judgement, judgement}
use Rattle.graph_rows.specs.Format.{query_section}
use Rattle.std.specs.declared.option.Option.{Option}
use Rattle.std.specs.declared.option.Option.TheVariants.{Some}
use Rattle.std.specs.declared.result.Result.TheVariants.{Ok}
use Rattle.text_field.specs.Outcome.{Outcome, refused, done, and_then, refuse_if}
use Rattle.graph_file.specs.File.{read_cells, WasRead}
use Rattle.graph_rows.specs.Decode.{rules_of, graph_of, queries_of}
use Rattle.graph_table.specs.Sections.{part_of, rows_of}
use Rattle.path_row.specs.declared.form.Step.{Step}
use Rattle.path_row.specs.declared.taken.Steps.{Steps}
use Rattle.path_row.specs.Form.{PathRow, row_here, row_meaning, row_in_large, steps_in, steps_taken, steps_held}
use Rattle.path_row.proofs.RowReads.{row_is}
use Rattle.path_row.proofs.TakenLaws.{taken_held}
use Rattle.graph_table.specs.declared.rows.QueryRow.{QueryRow}
use Rattle.graph_table.specs.Values.{query_row}
use Rattle.board.specs.Queries.{query_at}
use Rattle.board.proofs.Queries.{count_is, query_is}
use Rattle.judge.specs.declared.standing.Judged.{Judged}
use Rattle.judge.specs.Judge.{standing_in, meaning, as_rules_row, judge_of, judge_answer, HandsOut}
use Rattle.judge.specs.Steps.{judged_row}
use Rattle.judge.proofs.LentLaws.{hands_all}

-- a row that was read: all of it but its steps stands in the reader's answer, and its steps in its
-- text
pub record RowRead_is (s : List ℕ) (mark start count : ℕ) : Type 0 where
  pub read : row_here s ≡ done (record { mark = mark; start = start; steps = steps_in s })
  pub counts : length (steps_in s) ≡ count

by_parts : (p : PathRow) (mark start : ℕ) (steps : List Step) → p.mark ≡ mark → p.start ≡ start → p.steps ≡ steps → p ≡ record { mark = mark; start = start; steps = steps }
by_parts p mark start steps m t k = rw (← m, ← t, ← k) refl

pub row_read : (s : List ℕ) (a : Option (ℕ × ℕ × ℕ)) → row_meaning a ≡ row_in_large s → (mark start count : ℕ) → a ≡ Some (mark, start, count) → RowRead_is s mark start count
row_read s a e mark start count f =
    let p = row_is s a e mark start count f in
    let w = by_parts p.row mark start (steps_in s) p.marks p.starts p.steps in
    record { read = p.read ∙ ap {B = Outcome PathRow} (λ (z : PathRow). done z) w; counts = ap length (sym p.steps) ∙ p.counts }

-- query i of a table that was read
module _ (cells : List ℕ) (was : WasRead cells) (queries : List ℕ) (i n : ℕ) (part : queries ≡ part_of query_section cells) (counted : n ≡ length (rows_of queries))
    (row : List ℕ) (room : ℕ) where
  pub no_query_lem : n ≤ i → refused 7 ≡ judge_of cells i row room
  unfolding judge_of refuse_if
  no_query_lem h = rw (le-leb (length (queries_of cells)) i (let c = count_is cells was queries part i n counted in omega arith))

  module _ (h : i < n) where
    asked : judge_of cells i row room
        ≡ and_then (row_here row) (λ p. refuse_if (ltb room (length p.steps)) 9 (done (judgement (language (rules_of cells)) (graph_of cells) (query_at cells i) (as_rules_row cells p))))
    unfolding judge_of refuse_if
    asked = rw (lt-leb (length (queries_of cells)) i (let c = count_is cells was queries part i n counted in omega arith))

    pub bare_row : row_here row ≡ refused 8 → refused 8 ≡ judge_of cells i row room
    unfolding and_then
    bare_row e = sym (asked ∙ rw e)

    module _ (mark from count : ℕ) (p : RowRead_is row mark from count) where
      abbrev the_row : PathRow
      the_row = record { mark = mark; start = from; steps = steps_in row }

      opened : judge_of cells i row room ≡ refuse_if (ltb room count) 9 (done (judgement (language (rules_of cells)) (graph_of cells) (query_at cells i) (as_rules_row cells the_row)))
      unfolding and_then
      opened = asked ∙ rw (p.read, p.counts)

      pub no_room : room < count → refused 9 ≡ judge_of cells i row room
      unfolding refuse_if
      no_room k = sym (opened ∙ rw (lt-ltb room count k))

      pub judges : count ≤ room → (q : QueryRow) (at : ℕ) → at ≡ 6 * i → q ≡ query_row queries at → (t : Steps) → t ≡ steps_held (steps_in row) → (r : Judged)
          → standing_in r ≡ judged_row cells q mark from (steps_taken t) → HandsOut (judge_of cells i row room) row (record { answer = Ok r; steps = t })
      unfolding refuse_if meaning
      judges k q at placed is t held r e =
          let fits : judge_of cells i row room ≡ done (judgement (language (rules_of cells)) (graph_of cells) (query_at cells i) (as_rules_row cells the_row)) = opened ∙ rw (le-ltb room count k) in
          hands_all row the_row p.read (judge_of cells i row room) _ fits t held (Ok r)
          (ap {B = Outcome Judgement} (λ (z : Judgement). done z) e
          ∙ ap {B = Outcome Judgement} (λ (z : List Step). done (judged_row cells q mark from z)) (ap steps_taken held ∙ taken_held (steps_in row))
          ∙ ap {B = Outcome Judgement}
          (λ (z : Query (language (rules_of cells))). done (judgement (language (rules_of cells)) (graph_of cells) z (as_rules_row cells the_row)))
          (query_is cells was queries part i n counted h q at placed is)
          ∙ sym fits)

-- a text that is refused
pub text_refused : (text : List ℕ) (i : ℕ) (row : List ℕ) (records n : ℕ) → read_cells text ≡ refused n → refused n ≡ judge_answer text i row records
unfolding judge_answer and_then
text_refused text i row records n e = rw e
