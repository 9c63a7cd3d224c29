use Prim.Native.Nat.{ℕ, ◌+◌, ◌*◌, ◌≤◌, ◌<◌}
use mathlib.Core.Path.{◌≡◌}
use mathlib.Core.List.{List}
use lib.ListN.{length}
use Rattle.std.specs.Option.{option_to_list}
use Rattle.std.specs.declared.option.Option.{Option}
use Rattle.text_field.specs.Buffer.{Buf, puts}
use Rattle.graph_rows.specs.Admission.{Row}
use Rattle.graph_rows.specs.Formed.{cells_of}
use Rattle.ruled.specs.Ruled.{rows_to}
use Rattle.ruled.proofs.put.put_rows.Given as goal

abbrev pub invariant-loop-k : goal.invariant-loop-k
invariant-loop-k g l = record {
  size : length l.table ≡ length l.initial.table;
  written : (f : ℕ → List Row) → ((k : ℕ) (o : Option Row) → k < l.count → goal.F-post g l.row_of k o → option_to_list o ≡ f k)
      → ◌≡◌ {A = Buf} (l.table, l.at) (puts (l.initial.table, l.n) (cells_of l.section (rows_to f l.k)));
  place : l.at ≤ l.n + 6 * l.k;
}
