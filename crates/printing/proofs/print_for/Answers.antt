-- `printing::print_for` hands over the output of the text: the parts printed are those of the text's
-- table. Assumes nothing.
use mathlib.Core.Path.{ap}
use native.Mathlib.Omega.{arith}
use borrow.Author.Rules.{rules}
use lib.ListN.{length}
use Rattle.graph_file.specs.File.{WasRead}
use Rattle.text_field.proofs.RefusalLaws.{number_below}
use Rattle.printing.proofs.Laws.{for_refused, for_read, refused_due, read_due}
use Rattle.printing.proofs.print_for.Goals as goal

pub with_graph-requires : goal.with_graph-requires
with_graph-requires c = record { callable = λ cells e. let d = read_due c.args.text.now cells e in let r : WasRead cells = (c.args.text.now, e) in search rules }

pub returns-in-Ok : goal.returns-in-Ok
returns-in-Ok c = record { answer = rw (for_read c.args.text.now _ c.in-Ok.ensures.read.1) (search rules) }

pub print_refused-requires : goal.print_refused-requires
print_refused-requires c = record { due = refused_due c.args.text.now _ c.in-Err.ensures.refused.0 (let h = number_below c.in-Err.r in omega arith) }

pub returns-in-Err : goal.returns-in-Err
returns-in-Err c = record { answer = let w = ap length (for_refused c.args.text.now _ c.in-Err.ensures.refused.0) in omega arith }
