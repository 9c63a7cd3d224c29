-- The kind of a query of a table that was read is a byte, since it is a letter a to z. Assumes
-- nothing.
use Prim.Native.Nat.{ℕ, ◌≤◌, ◌<◌}
use mathlib.Core.Path.{◌≡◌}
use mathlib.Core.List.{List}
use native.Mathlib.Omega.{arith}
use borrow.Author.Tests.{leb-true}
use lib.Dec.{leb}
use Rattle.scope_graph.specs.Language.{◌∈◌}
use Rattle.scope_graph.proofs.Lists.{and_right}
use Rattle.text_field.specs.Bytes.{within, is_lower}
use Rattle.text_field.specs.Outcome.{done}
use Rattle.graph_rows.specs.Format.{query_section}
use Rattle.graph_rows.specs.Admission.{Row, value}
use Rattle.graph_file.specs.File.{read_cells}
use Rattle.graph_rows.specs.Decode.{rows_in}
use Rattle.graph_file.proofs.Promises.{read_admitted}
use Rattle.graph_rows.proofs.DecodeKinds.{sought_lower}
use Rattle.graph_table.proofs.RowLaws.{row_query}

module _ (text cells : List ℕ) (e : read_cells text ≡ done cells) (row : Row) (m : row ∈ rows_in query_section cells) where
  pub query_kinds : (row_query row).name.kind < 256
  unfolding is_lower within
  query_kinds =
      let most : value row 1 ≤ 122 = leb-true (value row 1) 122 (and_right (leb 97 (value row 1)) (leb (value row 1) 122) (sought_lower cells (read_admitted text cells e) row m)) in
      omega arith
