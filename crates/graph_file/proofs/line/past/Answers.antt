use mathlib.Core.Path.{sym}
use lib.Seq.{drop-drop}
use Rattle.graph_file.proofs.line.past.Goals as goal

pub returns-then-at-text : goal.returns-then-at-text
returns-then-at-text c = record { place = sym (drop-drop 1 c.args.at c.args.text.now) }
