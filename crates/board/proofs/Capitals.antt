-- The labels' letters of a table that was read are capitals, so each fits a byte. Assumes nothing.
use Prim.Native.Nat.{ℕ}
use mathlib.Core.Path.{◌≡◌}
use mathlib.Core.Bool.{true}
use mathlib.Core.List.{List}
use native.Mathlib.Omega.{arith}
use Rattle.scope_graph.specs.Language.{◌∈◌}
use Rattle.scope_graph.proofs.Lists.{here}
use Rattle.text_field.specs.Bytes.{is_capital}
use Rattle.text_field.specs.Outcome.{done}
use Rattle.graph_rows.specs.Format.{letter, field, shapes_of, shape_at, label_section}
use Rattle.graph_rows.specs.Admission.{Row, value}
use Rattle.graph_rows.specs.Values.{field_formed, item_formed}
use Rattle.graph_file.specs.File.{read_cells}
use Rattle.graph_rows.specs.Decode.{rows_in}
use Rattle.graph_file.proofs.Promises.{items_formed}

pub capitals : (text cells : List ℕ) → read_cells text ≡ done cells → (row : Row) → row ∈ rows_in label_section cells → is_capital (value row 0) ≡ true
unfolding shape_at shapes_of item_formed field_formed
capitals text cells e row m = items_formed label_section (omega arith) text cells e row m (field letter 0) here
