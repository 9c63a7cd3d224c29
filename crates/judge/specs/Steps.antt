-- What the steps of the judge's code answer: a declaration with the mark, an edge that leaves a scope, the state after a hop, whether a row's path is reached and where it is
-- cut. Assumes nothing: these are definitions.
use Rattle.std.specs.Prelude.{ℕ, suc, ◌≤◌, ◌≡◌, Bool, true, false, not, ◌&&◌, List, map, eqb, length}
use Rattle.std.proofs.Math.Option.{Option}
use Rattle.scope_graph.specs.Language.{End, stop}
use Rattle.scope_graph.specs.Path.{HopOf, last_from}
use Rattle.scope_graph.specs.Turns.{Turned, same_turned, turn_by}
use Rattle.scope_graph.specs.Rows.{any_of, language}
use Rattle.scope_graph.specs.Computed.{same_hop}
use Rattle.scope_graph.specs.Agree.{Judgement, judgement}
use Rattle.graph_rows.specs.Admission.{Row}
use Rattle.graph_rows.specs.Decode.{rules_of, graph_of}
use Rattle.block.specs.Sets.{has_scope}
use Rattle.block.specs.Block.{Bounds, next_cell, scopes_cell, block_hops}
use Rattle.search.specs.declared.Node.{Node}
use Rattle.search.specs.Board.{reached_by, cut_here}
use Rattle.search.specs.Conditions.{Inside, LiveAt, free_at}
use Rattle.search.specs.Tables.{table_board, table_order}
use Rattle.graph_table.specs.declared.rows.DeclarationRow.{DeclarationRow}
use Rattle.graph_table.specs.declared.rows.QueryRow.{QueryRow}
use Rattle.graph_table.specs.Sections.{rows_of}
use Rattle.graph_table.specs.Values.{packed, row_declared, declares}
use Rattle.board.specs.Queries.{query_on}
use Rattle.path_row.specs.declared.form.Step.{Step}
use Rattle.path_row.specs.Numbering.{hops_of}
use Rattle.comparison.specs.Letters.{block_letters}
use Rattle.judge.specs.Judge.{as_rules_row}
use Rattle.judge.specs.LastCut.{last_cut}

-- is the declaration one of what is sought at the scope, with the mark?
unfoldable pub is_marked : QueryRow → ℕ → ℕ → DeclarationRow → Bool
is_marked x mark s d = declares (packed x.name) s d && eqb mark d.mark

unfoldable pub has_mark : QueryRow → ℕ → ℕ → List Row → Bool
has_mark x mark s rows = any_of (is_marked x mark s) (map row_declared rows)

-- a step that leaves scope s by a label to a scope, with the turn of the edge that it goes along,
-- if there is one (02, K12); is it one of these hops?
abbrev pub hop_to : List ℕ → ℕ → ℕ → ℕ → HopOf Turned
hop_to block s label to = record { step = record { label = label; turn = turn_by (block_hops block s) label to }; to = to }

unfoldable pub has_hop : HopOf Turned → List (HopOf Turned) → Bool
has_hop h hops = any_of (λ k. same_hop same_turned k h) hops

-- steps as hops that leave scope s: by their letters' numbers, with their turns
abbrev pub step_hops : List ℕ → List Step → ℕ → List (HopOf Turned)
step_hops block steps s = hops_of (block_hops block) (block_letters block) s steps

-- the state after a hop from a node to a free scope, or 16; and the same for a hop along an edge
-- that leaves the node's scope
unfoldable pub state_on : List ℕ → Node → HopOf Turned → ℕ
state_on block n h = elim (has_scope n.free h.to) [ true ↦ next_cell block n.state h.step.label | false ↦ 16 ]

unfoldable pub state_along : List ℕ → Node → HopOf Turned → ℕ
state_along block n h = elim (has_hop h (block_hops block n.scope)) [ true ↦ state_on block n h | false ↦ 16 ]

-- Where a query's paths begin: at its start, in state 0, with all other scopes free. A path has
-- fewer hops than there are scopes.
pub record Begins (block : List ℕ) (start : ℕ) (n : Node) : Type 0 where
  pub free : (t : ℕ) → has_scope n.free t ≡ free_at start t
  pub left_is : suc n.left ≡ scopes_cell block
  pub scope : n.scope ≡ start
  pub state : n.state ≡ 0

-- The node behind a hop to a scope, in state r: the scope is free no more. How many hops may still
-- be entered is for the walk to say.
pub record Behind (n : Node) (to r left : ℕ) (m : Node) : Type 0 where
  pub free : (t : ℕ) → has_scope m.free t ≡ (has_scope n.free t && not (eqb t to))
  pub left_is : m.left ≡ left
  pub scope : m.scope ≡ to
  pub state : m.state ≡ r

-- the hops lead from the node to what is sought, and the mark is that of a matching declaration
-- where they end
unfoldable pub row_reached : List ℕ → List ℕ → ℕ → QueryRow → ℕ → Node → List (HopOf Turned) → Bool
row_reached block decls goal x mark n hs =
    reached_by (table_board block goal) (has_scope n.free) n.scope n.state hs
    && has_mark x mark (last_from n.scope hs) (rows_of decls)

-- what is asked of a node's ends: the node is within the tables, and the table of places worth
-- entering is closed for it
pub record Ready (block : List ℕ) (goal : ℕ) (live : List ℕ) (n : Node) : Type 0 where
  pub bounds : Bounds block
  pub table : 64 ≤ length live
  pub inside : Inside n
  pub closed : LiveAt block goal (has_scope n.free) live

-- an end is cut at the node
unfoldable pub end_cut : List ℕ → ℕ → Node → End Turned → Bool
end_cut block goal n e =
    cut_here (table_board block goal) (table_order block) n.left (has_scope n.free) n.scope n.state e

-- the last place along the hops from the node whose own end is cut, that where they end included
unfoldable pub row_last : List ℕ → ℕ → Node → List (HopOf Turned) → Option ℕ
row_last block goal n hs =
    last_cut (table_board block goal) (table_order block) (suc n.left) (has_scope n.free) n.scope n.state hs stop

-- the standing of a row with this mark, this start and these steps, for a query
abbrev pub judged_row : List ℕ → QueryRow → ℕ → ℕ → List Step → Judgement
judged_row cells x mark from steps =
    judgement (language (rules_of cells)) (graph_of cells) (query_on cells x)
    (as_rules_row cells (record { mark = mark; start = from; steps = steps }))
