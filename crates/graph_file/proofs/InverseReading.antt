-- Writing mirrors reading: the cells that a text was read into are written as that text. Assumes
-- nothing.
use Prim.Native.Nat.{ℕ, suc, ◌<◌}
use mathlib.Core.Path.{◌≡◌, refl, sym, ap, ◌∙◌}
use mathlib.Core.List.{List, [], ◌∷◌, ◌++◌, map}
use mathlib.Core.Bool.{true, false}
use native.Mathlib.Omega.{arith}
use lib.ListN.{length}
use borrow.Author.Tests.{eq-eqb, ne_eqb, le-ltb}
use Rattle.graph_rows.specs.Format.{byte, shape_at}
use Rattle.text_field.specs.Outcome.{done, refuse_if, and_then}
use Rattle.graph_rows.specs.Admission.{Row, row_of, blank, Sofar}
use Rattle.graph_file.specs.Line.{Reading, read_items, line_text}
use Rattle.graph_rows.specs.Values.{formed}
use Rattle.graph_rows.specs.Way.{Piece, starts_with}
use Rattle.graph_file.specs.File.{read_names, read_row, reading, write_names, write_row, writing}
use Rattle.graph_rows.specs.Tested.{test_row}
use Rattle.text_field.proofs.OutcomeLaws.{done_same, went}
use Rattle.graph_file.proofs.InverseTable.{section_fine}
use Rattle.graph_file.proofs.InverseLine.{line_found}
use Rattle.graph_file.proofs.InverseNames.{names_found}
use Rattle.graph_file.proofs.InverseSofar.{Admitted}
use Rattle.graph_file.proofs.InverseWays.{RowBack, Mirror}

-- six cells that hold a row which can be written are written as its line
row_written_lem : (form k : ℕ) (letters : List ℕ) (row : Row) (t : List ℕ) → length row ≡ 5 → formed (shape_at form k).row row ≡ true
    → write_row form k letters ((k ∷ row) ++ t) ≡ done (record { row = row; made = line_text letters (shape_at form k).row row; rest = t })
unfolding write_row test_row and_then row_of refuse_if
row_written_lem form k letters [] t h f = absurd (omega arith)
row_written_lem form k letters (a ∷ []) t h f = absurd (omega arith)
row_written_lem form k letters (a ∷ b ∷ []) t h f = absurd (omega arith)
row_written_lem form k letters (a ∷ b ∷ c ∷ []) t h f = absurd (omega arith)
row_written_lem form k letters (a ∷ b ∷ c ∷ d ∷ []) t h f = absurd (omega arith)
row_written_lem form k letters (a ∷ b ∷ c ∷ d ∷ e ∷ []) t h f = rw (le-ltb (suc (suc (suc (suc (suc (suc (length t))))))) 6 (omega arith), f)
row_written_lem form k letters (a ∷ b ∷ c ∷ d ∷ e ∷ x ∷ row) t h f = absurd (omega arith)

-- what reading a names line makes and leaves
pub record NamesRead (form k : ℕ) (s : List ℕ) (p : Piece) : Type 0 where
  pub stands : s ≡ (shape_at form k).names ++ p.rest
  pub silent : p.made ≡ []

pub names_read : (form k : ℕ) (s : List ℕ) (p : Piece) → read_names form k s ≡ done p → NamesRead form k s p
unfolding read_names
names_read form k s p e =
    let a = went (read_items [] (map byte (shape_at form k).names) blank s) (λ r. done (record { row = blank; made = []; rest = r.rest })) p e
    in let q = done_same (record { row = blank; made = []; rest = a.gained.rest }) p a.after
    in record { stands = names_found (shape_at form k).names s a.gained a.before ∙ ap (λ (z : Piece). (shape_at form k).names ++ z.rest) q; silent = sym (ap (λ (z : Piece). z.made) q) }

-- what reading a row makes and leaves
record RowRead (form k : ℕ) (letters s : List ℕ) (p : Piece) : Type 0 where
  result : Reading
  read : read_items letters (shape_at form k).row blank s ≡ done result
  piece : p ≡ record { row = result.values; made = k ∷ result.values; rest = result.rest }

row_read : (form k : ℕ) (letters s : List ℕ) (p : Piece) → read_row form k letters s ≡ done p → RowRead form k letters s p
unfolding read_row
row_read form k letters s p e =
    let a = went (read_items letters (shape_at form k).row blank s) (λ r. done (record { row = r.values; made = k ∷ r.values; rest = r.rest })) p e
    in record { result = a.gained; read = a.before; piece = sym (done_same (record { row = a.gained.values; made = k ∷ a.gained.values; rest = a.gained.rest }) p a.after) }

-- no row of a section before section k comes next
abbrev Later : ℕ → List ℕ → Type 0
Later k t = (j : ℕ) → j < k → starts_with j t ≡ false

pub reading_mirrored : (form : ℕ) → Mirror (reading form) (writing form)
unfolding reading writing write_names starts_with
reading_mirrored form = record {
  same = refl;
  Outer = λ left k t. Later k t;
  Inner = λ left k n t. Later k t;
  ended = λ k j h. refl;
  resting = λ left k n t o j h. o j (omega arith);
  halts = λ left k t o. o k (omega arith);
  names = λ k s p e. let r = names_read form k s p e in record { used = (shape_at form k).names; whole = r.stands; back = λ t. rw r.silent };
  names_outer = λ left k s p t l e i j h. rw (names_read form k s p e).silent (i j h);
  row = λ k st s p l S h e A. mirrored k st s p l e A;
  row_inner = λ left k n st s p t S m e A i j h. rw (row_read form k st.letters s p e).piece (ne_eqb k j (λ z. omega arith));
}
  where
    mirrored : (k : ℕ) (st : Sofar) (s : List ℕ) (p : Piece) → k < 9 → read_row form k st.letters s ≡ done p → Admitted form k st p.row
        → RowBack form (writing form) k st.letters s p
    mirrored k st s p l e A =
        let r = row_read form k st.letters s p e
        in let f = line_found st.letters st.scopes (shape_at form k).row s r.result (section_fine form k l).line r.read (rw r.piece at A.ranges)
        in rw r.piece (record {
          used = line_text st.letters (shape_at form k).row r.result.values;
          whole = f.whole;
          formed = f.formed;
          more = λ t. eq-eqb k k refl;
          back = λ t. row_written_lem form k st.letters r.result.values t f.five f.formed;
        })
