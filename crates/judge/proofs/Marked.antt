-- Document 01's M10 by the judge (specs/Marked): computed on what the example's text is read as.
-- Assumes nothing.
use mathlib.Core.Path.{◌≡◌, refl, ap, ◌∙◌}
use mathlib.Core.List.{List, [], ◌∷◌, flat_map}
use Prim.Native.Nat.{ℕ}
use Rattle.scope_graph.specs.Turns.{same_turn, same_turned, later, later_step, turn_by}
use Rattle.scope_graph.specs.Rows.{same_end, same_name, any_of, preferred_by, next_by}
use Rattle.scope_graph.specs.Order.{end_of}
use Rattle.scope_graph.specs.Agree.{most, Judgement, as_visible, as_shadowed, as_unreached, with_steps, same_step, agree_hops, caught, judgement}
use Rattle.scope_graph.specs.Computed.{keep, hops_at, marks_at, declares_any, behind, hop_on, nodes_from, leads_on, same_hop, same_hops, preferred_to, nodes, reached_nodes, cut, is_reached, standing, judged}
use Rattle.text_field.specs.Bytes.{within, is_digit, is_capital}
use Rattle.text_field.specs.Number.{growing, digits_from, number_here, number_placed, number_meaning}
use Rattle.text_field.specs.Outcome.{Outcome, done, and_then, refuse_if}
use Rattle.graph_rows.specs.Way.{is_empty, starts_with}
use Rattle.graph_rows.specs.Decode.{kept_if, rows_among, rows_in, letters_of, order_pair_of, transition_of, rules_of, name_at, edge_of, declaration_of, query_of, scopes_of, graph_of, queries_of}
use Rattle.path_row.specs.Form.{at_most, number_up_to, step_by, step_here, steps_of, after_steps, start_by, space_by, mark_by, head_here, row_by, row_here}
use Rattle.path_row.specs.Numbering.{number_from, label_number, hop_of, hops_of, path_of}
use Rattle.board.specs.Queries.{query_at}
use Rattle.board.specs.Example.{example_text}
use Rattle.board.proofs.Example.{example_cells, example_read}
use Rattle.judge.specs.Judge.{as_rules_row, judge_of, judge_answer}
use Rattle.judge.specs.Marked.{M10}

-- the text is read, so the table's judgement is the text's
of_table : (row : List ℕ) (s : Judgement) → judge_of example_cells 0 row 63 ≡ done s → judge_answer example_text 0 row 63 ≡ done s
unfolding judge_answer and_then
of_table row s e = ap (λ (o : Outcome (List ℕ)). and_then o (λ cells. judge_of cells 0 row 63)) example_read ∙ e

-- what a standing computes with
answers : Unit {0}
unfolding flat_map same_turn same_turned later later_step turn_by same_end same_name any_of preferred_by next_by keep hops_at marks_at declares_any behind hop_on nodes_from leads_on same_hop same_hops preferred_to nodes reached_nodes cut is_reached standing judged most with_steps same_step agree_hops caught judgement end_of kept_if rows_among rows_in letters_of order_pair_of transition_of rules_of name_at edge_of declaration_of query_of scopes_of graph_of queries_of query_at
answers = tt

pub m10 : M10
unfolding answers within is_digit is_capital growing digits_from number_here number_placed number_meaning and_then refuse_if is_empty starts_with at_most number_up_to step_by step_here steps_of after_steps start_by space_by mark_by head_here row_by row_here number_from label_number hop_of hops_of path_of judgement as_rules_row judge_of
m10 = record {
  shadowed = of_table (49 ∷ 48 ∷ 32 ∷ 50 ∷ 80 ∷ 49 ∷ []) (as_shadowed 0) refl;
  visible = of_table (50 ∷ 49 ∷ 32 ∷ 50 ∷ []) as_visible refl;
  unreached = of_table (53 ∷ 32 ∷ 50 ∷ 80 ∷ 49 ∷ 80 ∷ 48 ∷ []) as_unreached refl;
}
