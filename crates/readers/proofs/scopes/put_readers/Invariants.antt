use Prim.Native.Nat.{ℕ}
use mathlib.Core.Bool.{Bool}
use mathlib.Core.List.{List}
use Rattle.scope_graph.specs.Rows.{language}
use Rattle.scope_graph.specs.Ends.{ends_at}
use Rattle.scope_graph.specs.Readers.{query_for}
use Rattle.text_field.specs.Writing.{Wrote}
use Rattle.graph_rows.specs.Decode.{rules_of, graph_of}
use Rattle.graph_table.specs.declared.rows.DeclarationRow.{DeclarationRow}
use Rattle.readers.specs.Given.{declaration_on}
use Rattle.readers.proofs.Texts.{lines_to}
use Rattle.readers.proofs.scopes.put_readers.Given as goal

abbrev test : List ℕ → DeclarationRow → ℕ → Bool
test cells d s = ends_at (language (rules_of cells)) (graph_of cells) (query_for (language (rules_of cells)) (declaration_on cells d) s) d.at

abbrev pub invariant-loop-s : goal.invariant-loop-s
invariant-loop-s l = Wrote l.initial.to l.to (lines_to (test l.table l.d) l.s)
