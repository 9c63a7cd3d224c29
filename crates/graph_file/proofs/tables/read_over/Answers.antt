use mathlib.Core.Path.{◌≡◌, sym, ◌∙◌}
use native.Mathlib.Omega.{arith}
use borrow.Author.Rules.{rules}
use Rattle.std.specs.declared.result.Result.TheVariants.{Err}
use Rattle.text_field.specs.Refusal.{number_of}
use Rattle.graph_file.specs.Reader.{part_outcome, table_read}
use Rattle.graph_file.proofs.CopyLaws.{cells_refused, cells_done}
use Rattle.graph_file.proofs.TableLaws.{refused_written, written_same, table_refused}
use Rattle.graph_file.proofs.tables.read_over.Goals as goal

pub returns-in_err-r : goal.returns-in_err-r
unfolding part_outcome
returns-in_err-r c =
    let e : c.from_residual.result ≡ Err c.in_err-r.field-0.0 = search rules
    in record {
      answer = table_refused _ c.read_whole.new.table _ e ∙ sym (cells_refused c.args.text.now (number_of c.in_err-r.field-0.0) c.in_err-r.ensures.answer);
      within = λ n h. absurd (refused_written c.in_err-r.field-0.0 n (sym e ∙ h));
    }

pub returns : goal.returns
unfolding part_outcome table_read
returns c = record {
  answer = sym (cells_done c.in_ok-r.r c.read_whole.new.table c.args.text.now c.in_ok-r.ensures.answer);
  within = λ n h. let z = written_same _ n h in omega (arith, z, c.in_ok-r.ensures.size, c.read_whole.auto.table);
}
