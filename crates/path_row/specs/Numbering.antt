-- A path row by a file's rules (document 01, "Paths"): its letters as labels' numbers, its steps as
-- hops with the turns of their edge rows (02, K12). The file's letters, rules and edges are
-- graph_rows's Decode. Assumes nothing: these are definitions.
use Rattle.std.specs.Prelude.{ℕ, suc, ◌+◌, List, [], ◌∷◌, true, false, eqb}
use Rattle.graph_rows.specs.Decode.{letters_of, rules_of, graph_of}
use Rattle.scope_graph.specs.Rows.{Rules, language}
use Rattle.scope_graph.specs.Graph.{Edge}
use Rattle.scope_graph.specs.Path.{HopOf, Path}
use Rattle.scope_graph.specs.Turns.{Turned, turn_by}
use Rattle.scope_graph.specs.Computed.{hops_at}
use Rattle.path_row.specs.declared.form.Step.{Step}
use Rattle.path_row.specs.Form.{PathRow}

-- The number of x, where the letters ys are numbered from n on. Where none of them is x, and so
-- where there are none, it is the number after theirs with x added to it, which no other letter
-- gets.
unfoldable pub number_from : ℕ → ℕ → List ℕ → ℕ
number_from n x [] = n + x
number_from n x (y ∷ ys) = elim (eqb y x) [ true ↦ n | false ↦ number_from (suc n) x ys ]

-- A letter's number among the labels' letters. A letter that is not listed has a number past
-- theirs, and each such letter another: no order pair of an accepted file has it (01, "Paths";
-- Promises says so).
unfoldable pub label_number : List ℕ → ℕ → ℕ
label_number letters x = number_from 0 x letters

-- A step that leaves a scope, as the rules have it: its label's number, and the turn of the edge
-- row that it goes along, looked up among the hops that leave that scope (02, K12). Where no row
-- goes there it has no turn; a self-edge's row is one like others.
unfoldable pub hop_of : (ℕ → List (HopOf Turned)) → List ℕ → ℕ → Step → HopOf Turned
hop_of leaving letters s t = record {
  step = record {
    label = label_number letters t.label;
    turn = turn_by (leaving s) (label_number letters t.label) t.scope;
  };
  to = t.scope;
}

-- steps one after the other from a scope on: each leaves the scope that the one before it comes to
unfoldable pub hops_of : (ℕ → List (HopOf Turned)) → List ℕ → ℕ → List Step → List (HopOf Turned)
hops_of leaving letters s [] = []
hops_of leaving letters s (t ∷ ts) = hop_of leaving letters s t ∷ hops_of leaving letters t.scope ts

-- a row's path (01, "Paths"): its mark is left out, and it need not be a path of the graph
unfoldable pub path_of : (r : Rules) → List (Edge (language r)) → List ℕ → PathRow → Path (language r)
path_of r edges letters row = record { start = row.start; hops = hops_of (hops_at (language r) edges) letters row.start row.steps }

-- a step and a row's path by a file's own rules and edge rows
abbrev pub hop_in : List ℕ → ℕ → Step → HopOf Turned
hop_in cells s t = hop_of (hops_at (language (rules_of cells)) (graph_of cells).edges) (letters_of cells) s t

abbrev pub path_in : (cells : List ℕ) → PathRow → Path (language (rules_of cells))
path_in cells row = path_of (rules_of cells) (graph_of cells).edges (letters_of cells) row
