-- What is promised of a renumbered table (02, K13), for every formed table and every list that has
-- each of its scopes once. These are the statements; their values are in proofs/Promises.antt.
-- Assumes nothing: these are definitions.
use Rattle.std.specs.Prelude.{ℕ, ◌<◌, ◌≡◌, ◌↔◌, List, map, length}
use Rattle.std.proofs.Math.Option.{none}
use Rattle.scope_graph.specs.Rows.{language}
use Rattle.scope_graph.specs.Graph.{Query}
use Rattle.scope_graph.specs.Computed.{awaits}
use Rattle.scope_graph.specs.Listing.{Accepted}
use Rattle.scope_graph.specs.Renamed.{new_number, old_number, SameElements, open_under, query_under, Renamed, RenamedPromises}
use Rattle.scope_graph.specs.Language.{◌∈◌}
use Rattle.graph_rows.specs.Format.{label_section, pair_section, transition_section, accept_section, count_section}
use Rattle.graph_rows.specs.Tested.{form_in}
use Rattle.graph_rows.specs.Decode.{rows_in, rules_of, scopes_of, graph_in, opens_in, queries_in}
use Rattle.graph_rows.specs.Formed.{FormedTable}
use Rattle.renumbered.specs.Renumbered.{renumbered_by, EachOnce, back_of}

-- The way back: renumbered by the list and then by its inverse, a table is the first one, cell for
-- cell. The inverse has each number once too, and its inverse is the list.
pub record WayBack (was cells : List ℕ) : Type 0 where
  pub back : renumbered_by (back_of was) (renumbered_by was cells) ≡ cells
  pub forth : renumbered_by was (renumbered_by (back_of was) cells) ≡ cells
  pub once : EachOnce (scopes_of cells) (back_of was)
  pub twice : back_of (back_of was) ≡ was

-- The new table is formed, so it can be written (graph_file/specs/Promises). Its form, its labels,
-- order, automaton and count of scopes are the same, and each section has as many rows.
pub record StillFormed (cells after : List ℕ) : Type 0 where
  pub formed : FormedTable after
  pub form : form_in after ≡ form_in cells
  pub size : length after ≡ length cells
  pub rules : rules_of after ≡ rules_of cells
  pub scopes : scopes_of after ≡ scopes_of cells
  pub labels_stay : rows_in label_section after ≡ rows_in label_section cells
  pub order_stays : rows_in pair_section after ≡ rows_in pair_section cells
  pub transitions_stay : rows_in transition_section after ≡ rows_in transition_section cells
  pub accepts_stay : rows_in accept_section after ≡ rows_in accept_section cells
  pub count_stays : rows_in count_section after ≡ rows_in count_section cells
  pub as_many : (k : ℕ) → k < 9 → length (rows_in k after) ≡ length (rows_in k cells)

-- Read with the first table's rules, the new table is the first graph under the new numbers: its
-- open pairs are those of the first one renumbered, and its queries too, in the same sequence.
pub record SameGraph (was cells : List ℕ) : Type 0 where
  pub graph : Renamed (language (rules_of cells)) (new_number was) (graph_in (rules_of cells) cells) (graph_in (rules_of cells) (renumbered_by was cells))
  pub opens : SameElements (opens_in (rules_of cells) (renumbered_by was cells))
      (map (open_under (language (rules_of cells)) (new_number was)) (opens_in (rules_of cells) cells))
  pub queries : queries_in (rules_of cells) (renumbered_by was cells)
      ≡ map (query_under (language (rules_of cells)) (new_number was)) (queries_in (rules_of cells) cells)
  -- it is accepted with these rules, for a query at any scope
  pub accepted : (q : Query (language (rules_of cells))) → q.start < scopes_of cells
      → Accepted (language (rules_of cells)) (graph_in (rules_of cells) (renumbered_by was cells)) (opens_in (rules_of cells) (renumbered_by was cells)) q
  -- and all that scope_graph/specs/Renamed says of a query holds of each: its entries are the first
  -- table's under the new numbers, `found` is what it was, and so is whether it is settled
  pub seen : (q : Query (language (rules_of cells))) → q ∈ queries_in (rules_of cells) cells
      → RenamedPromises (language (rules_of cells)) (new_number was) (old_number was) (graph_in (rules_of cells) cells)
      (graph_in (rules_of cells) (renumbered_by was cells)) (opens_in (rules_of cells) cells) (opens_in (rules_of cells) (renumbered_by was cells)) q
  -- both tables are accepted, so `awaits` is `-` in both or in neither
  pub awaits_none : (q : Query (language (rules_of cells))) → q ∈ queries_in (rules_of cells) cells
      → (awaits (language (rules_of cells)) (graph_in (rules_of cells) cells) q (opens_in (rules_of cells) cells) ≡ none)
      ↔ (awaits (language (rules_of cells)) (graph_in (rules_of cells) (renumbered_by was cells)) (query_under (language (rules_of cells)) (new_number was) q)
      (opens_in (rules_of cells) (renumbered_by was cells)) ≡ none)

abbrev pub WayBackGiven : Type 0
WayBackGiven = (was cells : List ℕ) → FormedTable cells → EachOnce (scopes_of cells) was → WayBack was cells

abbrev pub FormedGiven : Type 0
FormedGiven = (was cells : List ℕ) → FormedTable cells → EachOnce (scopes_of cells) was → StillFormed cells (renumbered_by was cells)

abbrev pub GraphGiven : Type 0
GraphGiven = (was cells : List ℕ) → FormedTable cells → EachOnce (scopes_of cells) was → SameGraph was cells
