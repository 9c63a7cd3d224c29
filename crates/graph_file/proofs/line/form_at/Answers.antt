use Prim.Native.Nat.{ℕ}
use mathlib.Core.Path.{ap, ◌∙◌}
use lib.ListN.{drop}
use Rattle.graph_rows.specs.Admission.{blank}
use Rattle.graph_rows.specs.Table.{items_at, letters_at}
use Rattle.graph_file.specs.Line.{read_items}
use Rattle.graph_file.proofs.ReadForm.{line_shown, line_hidden}
use Rattle.graph_file.proofs.line.form_at.Goals as goal

pub returns-in-Some : goal.returns-in-Some
returns-in-Some c = record { answer = line_shown c.args.table.now c.args.text.now c.args.at c.args.form c.args.k c.read_line.result (c.read_line.ensures.answer ∙ ap (λ (o : ℕ). read_items (letters_at 0 (drop 1 c.args.table.now)) (items_at o) blank (drop c.args.at c.args.text.now)) c.names_place.ensures.answer) _ c.in-Some.is }

pub returns-in-None : goal.returns-in-None
returns-in-None c = record { answer = line_hidden c.args.table.now c.args.text.now c.args.at c.args.form c.args.k c.read_line.result (c.read_line.ensures.answer ∙ ap (λ (o : ℕ). read_items (letters_at 0 (drop 1 c.args.table.now)) (items_at o) blank (drop c.args.at c.args.text.now)) c.names_place.ensures.answer) c.in-None.is }
