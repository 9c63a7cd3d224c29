-- Proves specs/Alike. Assumes nothing.
use Prim.Native.Nat.{ℕ, ◌<◌}
use mathlib.Core.Path.{refl, subst}
use mathlib.Core.List.{List}
use Rattle.scope_graph.specs.Rows.{Rules, language}
use Rattle.scope_graph.specs.Graph.{Query}
use Rattle.scope_graph.specs.Listing.{Accepted}
use Rattle.graph_rows.specs.Decode.{scopes_of, graph_in, opens_in, graph_of, opens_of, queries_of}
use Rattle.graph_rows.specs.Alike.{OwnRules, AcceptedIn}

pub own_rules : (cells : List ℕ) → OwnRules cells
unfolding graph_of opens_of queries_of
own_rules cells = record { graph = refl; opens = refl; queries = refl }

pub accepted_in : AcceptedIn
unfolding graph_of opens_of
accepted_in cells table r e =
    subst (λ (z : Rules). (q : Query (language z)) → q.start < scopes_of cells → Accepted (language z) (graph_in z cells) (opens_in z cells) q)
    e table.accepted
