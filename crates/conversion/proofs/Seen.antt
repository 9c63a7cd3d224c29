-- A table in another form has the same queries, answered alike: all that is decoded of a table goes
-- by its rows. Assumes nothing.
use Prim.Native.Nat.{ℕ}
use mathlib.Core.Path.{◌≡◌, refl}
use mathlib.Core.Option.{Option, some, none}
use mathlib.Core.List.{List}
use Rattle.scope_graph.specs.Graph.{OpenPair}
use Rattle.scope_graph.specs.Rows.{language}
use Rattle.scope_graph.specs.Computed.{awaits}
use Rattle.graph_rows.specs.Decode.{rows_in, letters_of, rules_of, scopes_of, graph_of, opens_of, queries_of}
use Rattle.graph_rows.specs.Formed.{in_form}
use Rattle.board.specs.Queries.{query_at}
use Rattle.resolution.specs.Listing.{awaits_text, found_for, entries_text}
use Rattle.conversion.specs.Promises.{SameListings}

pub same_listings : (form : ℕ) (cells : List ℕ) → SameListings cells (in_form form cells)
unfolding in_form rows_in letters_of rules_of scopes_of graph_of opens_of queries_of query_at found_for entries_text awaits_text
same_listings form cells = record {
  rows = λ k. refl;
  count = refl;
  start = λ i. refl;
  name = λ i. refl;
  entries = λ i. refl;
  found = λ i. refl;
  awaits = λ i. pair (awaits (language (rules_of cells)) (graph_of cells) (query_at cells i) (opens_of cells));
}
  where
    pair : (o : Option (OpenPair (language (rules_of cells)))) → awaits_text (in_form form cells) o ≡ awaits_text cells o
    pair none = refl
    pair (some o) = refl
