-- The promises that tie reading and writing together, and the form to both, proved. Assumes
-- nothing.
use Prim.Native.Nat.{ℕ, ◌≤◌}
use mathlib.Core.Path.{◌≡◌, refl, sym, ap, ◌∙◌}
use mathlib.Core.List.{List, [], ◌∷◌}
use mathlib.Core.Bool.{Bool, true, false}
use native.Mathlib.Omega.{arith}
use lib.Dec.{ltb, leb}
use lib.ListN.{length, drop}
use borrow.Author.Tests.{leb-true, le-ltb}
use Rattle.graph_rows.specs.Format.{turn_form}
use Rattle.text_field.specs.Outcome.{Outcome, refused, done, and_then}
use Rattle.graph_rows.specs.Way.{Stage, whole}
use Rattle.graph_file.specs.File.{reading, writing, form_of, read_stage, made_of, read_cells, write_text}
use Rattle.graph_rows.specs.Tested.{has_form, form_in}
use Rattle.graph_file.specs.Inverse.{ReadThenWritten, WrittenThenRead}
use Rattle.graph_file.specs.Forms.{FormRead, FormWritten}
use Rattle.text_field.proofs.OutcomeLaws.{done_same, not_done, went}
use Rattle.graph_file.proofs.InverseTable.{room, room_enough}
use Rattle.graph_file.proofs.InverseWays.{whole_back}
use Rattle.graph_file.proofs.InverseReading.{reading_mirrored}
use Rattle.graph_file.proofs.InverseWriting.{writing_mirrored, written_fits}
use Rattle.graph_file.proofs.FormLaws.{form_told, form_known}
use Rattle.graph_rows.proofs.DecodeWay.{form_first, known_form}

stage_long : (text : List ℕ) → ltb 32768 (length text) ≡ true → read_stage text ≡ refused 1
unfolding read_stage
stage_long text h = rw (h, read_stage)

stage_short : (text : List ℕ) → ltb 32768 (length text) ≡ false → read_stage text ≡ whole (reading (form_of text)) (form_of text ∷ []) text
unfolding read_stage
stage_short text h = rw (h, read_stage)

text_formed : (cells : List ℕ) → has_form cells ≡ true → write_text cells ≡ made_of (whole (writing (form_in cells)) [] (drop 1 cells))
unfolding write_text
text_formed cells h = rw (h, write_text)

text_unformed : (cells : List ℕ) → has_form cells ≡ false → write_text cells ≡ refused 2
unfolding write_text
text_unformed cells h = rw (h, write_text)

-- a stage whose product was made
record Made (o : Outcome Stage) (s : List ℕ) : Type 0 where
  stage : Stage
  came : o ≡ done stage
  product : stage.made ≡ s

made : (o : Outcome Stage) (s : List ℕ) → made_of o ≡ done s → Made o s
unfolding made_of
made o s e = let a = went o (λ g. done g.made) s e in record { stage = a.gained; came = a.before; product = done_same a.gained.made s a.after }

pub made_of_lem : (o : Outcome Stage) (g : Stage) → o ≡ done g → made_of o ≡ done g.made
unfolding made_of and_then
made_of_lem o g e = rw e

-- a table's cells: their form, and the rows
pub cells_written : (form : ℕ) (rows : List ℕ) → leb form turn_form ≡ true → write_text (form ∷ rows) ≡ made_of (whole (writing form) [] rows)
unfolding has_form form_in
cells_written form rows h = text_formed (form ∷ rows) h

-- A text that was read, in its form: the cells are the form and the rows, which are written as the
-- text.
record ReadBack (text cells : List ℕ) : Type 0 where
  rows : List ℕ
  cells_are : cells ≡ form_of text ∷ rows
  written_back : write_text cells ≡ done text

read_back : (text cells : List ℕ) → read_cells text ≡ done cells → ReadBack text cells
unfolding read_cells
read_back text cells e = by (ltb 32768 (length text)) refl (made (read_stage text) cells e)
  where
    by : (t : Bool) → ltb 32768 (length text) ≡ t → Made (read_stage text) cells → ReadBack text cells
    by true t m = absurd (not_done 1 m.stage (sym (stage_long text t) ∙ m.came))
    by false t m =
        let form = form_of text
        in let b = whole_back (reading form) (writing form) (reading_mirrored form) (form ∷ []) text m.stage (sym (stage_short text t) ∙ m.came)
        in let c : cells ≡ form ∷ b.made = sym m.product ∙ b.grown
        in record {
          rows = b.made;
          cells_are = c;
          written_back = ap write_text c ∙ cells_written form b.made (form_known text) ∙ made_of_lem (whole (writing form) [] b.made) (record { sofar = m.stage.sofar; made = text; rest = [] }) (b.back []);
        }

-- what was read is written back byte for byte
pub read_then_written : ReadThenWritten
read_then_written text cells e = (read_back text cells e).written_back

-- a graph has the form of the text that it was read from
pub form_read : FormRead
unfolding form_in
form_read text cells e = ap (λ (l : List ℕ). form_in l) (read_back text cells e).cells_are

-- What was written goes back whole, and takes no more than the sections' room.
record Written (cells text : List ℕ) : Type 0 where
  stage : Stage
  known : form_in cells ≤ turn_form
  back : whole (reading (form_in cells)) (form_in cells ∷ []) text ≡ done stage
  product : stage.made ≡ cells
  short : length text ≤ room (form_in cells) 9 0

written : (cells text : List ℕ) → write_text cells ≡ done text → Written cells text
written cells text e = by (has_form cells) refl
  where
    by : (t : Bool) → has_form cells ≡ t → Written cells text
    by true t =
        let form = form_in cells
        in let m = made (whole (writing form) [] (drop 1 cells)) text (sym (text_formed cells t) ∙ e)
        in let b = whole_back (writing form) (reading form) (writing_mirrored form) [] (drop 1 cells) m.stage m.came
        in let z : b.made ≡ text = sym b.grown ∙ m.product
        in record {
          known = known_form cells t;
          stage = record { sofar = m.stage.sofar; made = form ∷ drop 1 cells; rest = [] };
          back = ap (whole (reading form) (form ∷ [])) (sym z) ∙ b.back (form ∷ []);
          product = sym (form_first cells t);
          short = rw z at (written_fits form b.made b.outer);
        }
    by false t = absurd (not_done 2 text (sym (text_unformed cells t) ∙ e))

-- no text that was written is too long to be read
pub written_short : (cells text : List ℕ) → write_text cells ≡ done text → length text ≤ 32768
written_short cells text e = omega (arith, leb-true (room (form_in cells) 9 0) 32768 (room_enough (form_in cells)), (written cells text e).short)

-- a text has the form of the graph that it was written of
pub form_written : FormWritten
form_written cells text e =
    let w = written cells text e
    in form_told (form_in cells) (form_in cells ∷ []) text w.stage w.known w.back

-- what was written is read back cell for cell
pub written_then_read : WrittenThenRead
unfolding read_cells
written_then_read cells text e =
    let w = written cells text e
    in made_of_lem (read_stage text) w.stage
    (stage_short text (le-ltb 32768 (length text) (written_short cells text e))
    ∙ ap (λ (f : ℕ). whole (reading f) (f ∷ []) text) (form_written cells text e)
    ∙ w.back)
    ∙ ap done w.product
