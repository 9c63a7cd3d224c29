-- When a table is a scope graph as the rules want it (01's term *accepted*, "The listing"). Every
-- formed table is one: `FormedAccepted`, whose value is in proofs/FormedTable. That a text is read as
-- such a table is stated in graph_file/specs/Promises. Assumes nothing: these are definitions.
use Rattle.std.specs.Prelude.{ℕ, ◌≤◌, ◌<◌, ◌≡◌, ◌⊎◌, true, false, List, length, drop}
use Rattle.std.proofs.Math.Option.{some}
use Rattle.scope_graph.specs.Language.{◌∈◌, End, stop, by}
use Rattle.scope_graph.specs.Rows.{OrderPair, Transition, RulesPass, language}
use Rattle.scope_graph.specs.Graph.{Edge, Declaration, Query, OpenPair}
use Rattle.scope_graph.specs.Path.{Distinct}
use Rattle.scope_graph.specs.Listing.{Pairwise, Accepted}
use Rattle.graph_rows.specs.Format.{plain_kind, has_kinds, has_turns, section_at, state_count, mark_count, turn_count, most_scopes, table_cells}
use Rattle.text_field.specs.Bytes.{is_lower}
use Rattle.graph_rows.specs.Tested.{form_in}
use Rattle.graph_rows.specs.Table.{rows_at}
use Rattle.graph_rows.specs.Decode.{rows_in, letters_of, rules_of, scopes_of, graph_of, opens_of, queries_of, section_place}
use Rattle.graph_rows.specs.Formed.{FormedTable}

-- the end mark, or a label of the list
abbrev pub EndListed : ℕ → End ℕ → Type 0
EndListed labels stop = Unit {0}
EndListed labels (by l) = l < labels

-- transitions ascend by state and label only
abbrev pub TransitionBefore : Transition → Transition → Type 0
TransitionBefore t u = (t.state < u.state) ⊎ ((t.state ≡ u.state) × (t.label < u.label))

pub record AcceptedTable (cells : List ℕ) : Type 0 where
  -- refusals 3 and 6: the order is irreflexive and transitive, labels and states are in their lists
  pub rules : RulesPass (rules_of cells)
  -- refusals 3 and 4: the rows are in range and ascend, for a query at any scope, and each query of
  -- the file is at one
  pub accepted : (q : Query (language (rules_of cells))) → q.start < scopes_of cells
      → Accepted (language (rules_of cells)) (graph_of cells) (opens_of cells) q
  pub starts : (q : Query (language (rules_of cells))) → q ∈ queries_of cells → q.start < scopes_of cells
  pub transitions_ascend : Pairwise TransitionBefore (rules_of cells).transitions
  -- refusal 5: no section is past its limit
  pub limits : (k : ℕ) → k < 9 → length (rows_in k cells) ≤ (section_at k).most
  pub labels : (rules_of cells).labels ≤ 8
  -- a label stands once
  pub letters : Distinct (letters_of cells)
  -- refusal 3: the ranges of the values
  pub scopes_least : 1 ≤ scopes_of cells
  pub scopes_most : scopes_of cells ≤ most_scopes
  pub order_ends : (p : OrderPair) → p ∈ (rules_of cells).order
      → EndListed (rules_of cells).labels p.less × EndListed (rules_of cells).labels p.more
  pub states : (t : Transition) → t ∈ (rules_of cells).transitions → t.state < state_count
  pub accepts : (s : ℕ) → s ∈ (rules_of cells).accept → s < state_count
  pub turns : (e : Edge (language (rules_of cells))) → e ∈ (graph_of cells).edges → (n : ℕ) → e.step.turn ≡ some n → n < turn_count
  -- where the edge line is the old one every turn is 0 (02, K12)
  pub old_line : has_turns (form_in cells) ≡ false → (e : Edge (language (rules_of cells))) → e ∈ (graph_of cells).edges → e.step.turn ≡ some 0
  -- a kind is a letter a to z, and where the names lines of declarations and queries are the old
  -- ones every kind is `v` (02, K8)
  pub declared_kinds : (d : Declaration (language (rules_of cells))) → d ∈ (graph_of cells).declarations → is_lower d.name.kind ≡ true
  pub sought_kinds : (q : Query (language (rules_of cells))) → q ∈ queries_of cells → is_lower q.name.kind ≡ true
  pub old_declared : has_kinds (form_in cells) ≡ false → (d : Declaration (language (rules_of cells))) → d ∈ (graph_of cells).declarations → d.name.kind ≡ plain_kind
  pub old_sought : has_kinds (form_in cells) ≡ false → (q : Query (language (rules_of cells))) → q ∈ queries_of cells → q.name.kind ≡ plain_kind
  pub marks : (d : Declaration (language (rules_of cells))) → d ∈ (graph_of cells).declarations → d.mark < mark_count
  pub open_at : (o : OpenPair (language (rules_of cells))) → o ∈ opens_of cells → o.at < scopes_of cells
  pub open_end : (o : OpenPair (language (rules_of cells))) → o ∈ opens_of cells
      → EndListed (rules_of cells).labels o.end
  -- how the table is laid out: a section's rows stand together at its place, and the last section's
  -- end is the table's
  pub places : (k : ℕ) → k < 9 → rows_at (length (rows_in k cells)) (drop (section_place k cells) cells) ≡ rows_in k cells
  pub size : length cells ≡ section_place 9 cells
  pub size_most : length cells ≤ table_cells

-- a formed table is accepted, whoever made it
abbrev pub FormedAccepted : Type 0
FormedAccepted = (cells : List ℕ) → FormedTable cells → AcceptedTable cells
