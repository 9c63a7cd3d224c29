-- What is known of a declaration that stands in a table that was read, and of the queries for it.
-- Assumes nothing.
use Prim.Native.Nat.{ℕ, ◌≤◌, ◌<◌}
use mathlib.Core.Path.{◌≡◌, ap, ◌∙◌}
use mathlib.Core.Bool.{Bool}
use mathlib.Core.List.{List}
use native.Mathlib.Omega.{arith}
use borrow.Author.Tests.{leb-true}
use lib.Dec.{leb}
use Rattle.scope_graph.specs.Language.{Language, Laws}
use Rattle.scope_graph.specs.Graph.{InRange, Query}
use Rattle.scope_graph.specs.Rows.{language}
use Rattle.scope_graph.specs.Listing.{Accepted}
use Rattle.scope_graph.specs.Ends.{ends_at}
use Rattle.scope_graph.specs.Readers.{query_for}
use Rattle.scope_graph.proofs.Lists.{and_right}
use Rattle.text_field.specs.Bytes.{within, is_lower}
use Rattle.graph_rows.specs.Decode.{rules_of, scopes_of, graph_of, opens_of}
use Rattle.graph_file.specs.File.{WasRead}
use Rattle.graph_rows.specs.Accepted.{AcceptedTable}
use Rattle.graph_table.specs.declared.rows.DeclarationRow.{DeclarationRow}
use Rattle.board.specs.Queries.{query_on, Asked}
use Rattle.board.proofs.Queries.{accepted}
use Rattle.block.specs.Block.{scopes_cell}
use Rattle.resolution.specs.Asked.{query_in, Asking}
use Rattle.resolution.proofs.Given.{scopes_same}
use Rattle.readers.specs.Given.{declaration_on, Stands}

-- a table that was read is a graph in range, under the laws
module _ (cells : List ℕ) (was : WasRead cells) where
  abbrev L : Language
  L = language (rules_of cells)

  t : AcceptedTable cells
  t = accepted cells was

  pub scopes_few : scopes_of cells ≤ 64
  scopes_few = t.scopes_most

  so : Accepted L (graph_of cells) (opens_of cells) (record { start = 0; name = record { kind = 0; high = 0; low = 0 } })
  so = t.accepted _ (let n = t.scopes_least in omega arith)

  pub table_laws : Laws L
  table_laws = so.laws

  pub table_range : InRange L (graph_of cells)
  table_range = so.in_range

module _ (cells block : List ℕ) (d : DeclarationRow) (known : Stands cells block d) where
  pub scope_small : d.at < 64
  unfolding graph_of
  scope_small =
      let s : d.at < scopes_of cells = (table_range cells known.read).at_scope (declaration_on cells d) known.stands in
      let n = scopes_few cells known.read in
      omega arith

  kind_small : d.name.kind < 256
  unfolding is_lower within
  kind_small =
      let k : ℕ = d.name.kind in
      let most : k ≤ 122 =
      leb-true k 122 (and_right (leb 97 k) (leb k 122) ((accepted cells known.read).declared_kinds (declaration_on cells d) known.stands)) in
      omega arith

  -- a query for it may be asked from each scope
  pub reader_asked : (s : ℕ) → s < scopes_of cells → Asked cells (query_on cells (record { start = s; name = d.name }))
  reader_asked s h = record { read = known.read; starts = h; kind = kind_small }

  -- as many scopes as the board says are asked
  pub scopes_counted : scopes_cell block ≡ scopes_of cells
  scopes_counted = scopes_same cells known.read block known.made

  pub scopes_all : scopes_cell block ≡ (graph_of cells).scopes
  unfolding graph_of
  scopes_all = scopes_counted

  -- the answer of the ask is that of the declaration's query
  pub reader_told : (s : ℕ) (ask : List ℕ) → Asking cells block (record { start = s; name = d.name }) ask
      → (r : Bool) → r ≡ ends_at (language (rules_of cells)) (graph_of cells) (query_in cells ask) d.at
      → r ≡ ends_at (language (rules_of cells)) (graph_of cells) (query_for (language (rules_of cells)) (declaration_on cells d) s) d.at
  reader_told s ask asking r e =
      e ∙ ap (λ (q : Query (language (rules_of cells))). ends_at (language (rules_of cells)) (graph_of cells) q d.at) asking.query
