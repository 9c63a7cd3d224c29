-- What holds of the tables that texts are read as and that texts are written of (specs/Promises).
-- Assumes nothing.
use Prim.Native.Nat.{ℕ, ◌<◌}
use mathlib.Core.Path.{◌≡◌, refl, sym, ◌∙◌}
use mathlib.Core.Bool.{true, Bool, false}
use mathlib.Core.List.{List}
use native.Mathlib.Omega.{arith}
use lib.ListN.{length}
use borrow.Author.Tests.{ltb-true}
use Rattle.scope_graph.proofs.Lists.{and_left}
use Rattle.graph_rows.specs.Format.{section_at, shape_at, declarations, sections, has_kinds, shapes_of, declaration_section, Item}
use Rattle.graph_rows.specs.Admission.{Row, value}
use Rattle.graph_rows.specs.Values.{formed, item_formed}
use Rattle.graph_rows.specs.Tested.{form_in}
use Rattle.graph_rows.specs.Decode.{rows_in}
use Rattle.graph_file.specs.Promises.{FormedWritten, WrittenFormed, ReadFormed, NothingButNine, ReadAccepted, WrittenAccepted, ReadDeclarationsAscend, WriterTests}
use Rattle.graph_file.proofs.InverseFile.{written_then_read, written_short, read_then_written}
use Rattle.graph_rows.proofs.DecodeWay.{AdmittedTable}
use Rattle.graph_rows.proofs.DecodeRows.{item_in}
use Rattle.graph_rows.proofs.DecodeTable.{table_ascends}
use lib.Dec.{ltb}
use Rattle.scope_graph.specs.Language.{◌∈◌}
use Rattle.text_field.specs.Outcome.{refused, done, and_then, refuse_if}
use Rattle.text_field.specs.Answer.{answer}
use Rattle.graph_file.specs.File.{write_text, read_cells}
use Rattle.graph_rows.proofs.DecodeKinds.{declared_lower}
use Rattle.text_field.specs.Name.{is_name_cells}
use Rattle.graph_rows.proofs.FormedTable.{admitted_formed, formed_admitted}
use Rattle.graph_file.proofs.ForgetLaws.{same_refusal, tests_written, written_tests}
use Rattle.graph_rows.proofs.TestedAdmitted.{tested_admitted}
use Rattle.graph_rows.proofs.AdmittedTested.{admitted_tested}
use Rattle.graph_rows.proofs.DecodeAccepted.{table_accepted}
use Rattle.graph_rows.proofs.NameOrderLaws.{all_declared, name_formed}

-- the tables that a text is written of, and those that a text is read as
pub written_admitted : (cells text : List ℕ) → write_text cells ≡ done text → AdmittedTable cells
written_admitted cells text e = let t = written_tests cells text e in tested_admitted cells t.0 t.1

pub read_admitted : (text cells : List ℕ) → read_cells text ≡ done cells → AdmittedTable cells
read_admitted text cells e = written_admitted cells text (read_then_written text cells e)

pub read_accepted : ReadAccepted
read_accepted text cells e = table_accepted cells (read_admitted text cells e)

pub written_accepted : WrittenAccepted
written_accepted cells text e = table_accepted cells (written_admitted cells text e)

pub read_formed : ReadFormed
read_formed text cells e = admitted_formed cells (read_admitted text cells e)

pub written_formed : WrittenFormed
written_formed cells text e = admitted_formed cells (written_admitted cells text e)

-- a formed table is written, and its text is read back as the table
pub formed_written : FormedWritten
formed_written cells t =
    let g = admitted_tested cells (formed_admitted cells t) in
    let w = tests_written cells g.0 g.1 in
    (w.0, w.1, written_then_read cells w.0 w.1)

pub writer_tests : WriterTests
writer_tests cells = same_refusal cells

-- refused by nothing but 9
refused_nine : (t : Bool) (m n : ℕ) → refuse_if t 9 (done m) ≡ refused n → (t ≡ true) × (n ≡ 9)
unfolding refuse_if
refused_nine true m n e = (refl, cc)
refused_nine false m n e = absurd (let z : ◌≡◌ {A = ℕ} 0 1 = cc in omega arith)

answer_is : (cells text : List ℕ) (room : ℕ) → write_text cells ≡ done text
    → answer (write_text cells) room ≡ refuse_if (ltb room (length text)) 9 (done (length text))
unfolding answer and_then
answer_is cells text room e = rw e

pub nothing_but_nine : NothingButNine
nothing_but_nine cells t room n e =
    let w = formed_written cells t in
    let r = refused_nine (ltb room (length w.0)) (length w.0) n (sym (answer_is cells w.0 room w.1) ∙ e) in
    let short = ltb-true room (length w.0) r.0 in
    (r.1, omega (arith, written_short cells w.0 w.1))

pub items_formed : (j : ℕ) → j < 9 → (text cells : List ℕ) → read_cells text ≡ done cells → (row : Row) → row ∈ rows_in j cells → (i : Item) → i ∈ (shape_at (form_in cells) j).row → item_formed row i ≡ true
unfolding formed
items_formed j h text cells e row m i n = item_in (item_formed row) (shape_at (form_in cells) j).row i n (and_left _ _ (((read_formed text cells e).rows.sections j h).each row m).formed)

names_read : (text cells : List ℕ) → read_cells text ≡ done cells → (row : Row) → row ∈ rows_in declaration_section cells → is_name_cells (value row 2) (value row 3) ≡ true
unfolding shape_at shapes_of
names_read text cells e row m = name_formed (has_kinds (form_in cells)) row (items_formed declaration_section (omega arith) text cells e row m)

pub read_declarations_ascend : ReadDeclarationsAscend
unfolding section_at sections declarations
read_declarations_ascend text cells e = record {
  kinds = declared_lower cells (read_admitted text cells e);
  names = names_read text cells e;
  ascend = all_declared (rows_in declaration_section cells) (names_read text cells e)
      (table_ascends cells (read_admitted text cells e) declaration_section (omega arith) tt);
}
