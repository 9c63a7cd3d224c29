-- A names line is read exactly where it stands byte for byte: the law of lines, for a line without
-- fields. Assumes nothing.
use Prim.Native.Nat.{ℕ}
use mathlib.Core.Path.{◌≡◌, refl, ap, ◌∙◌}
use mathlib.Core.List.{List, [], ◌∷◌, ◌++◌, map}
use mathlib.Core.Bool.{true}
use Rattle.graph_rows.specs.Format.{byte}
use Rattle.text_field.specs.Outcome.{done}
use Rattle.graph_rows.specs.Admission.{Row, blank, item_in_range, in_range}
use Rattle.graph_file.specs.Line.{Reading, read_items, item_text, line_text}
use Rattle.graph_rows.specs.Values.{formed, item_formed}
use Rattle.graph_file.proofs.InverseLetters.{no_letters}
use Rattle.graph_file.proofs.InverseTable.{bytes_orderly, bytes_every}
use Rattle.graph_file.proofs.InversePlaces.{idle_all, blank_zero}
use Rattle.graph_file.proofs.InverseLine.{line_found, line_again}

-- a line without fields has its bytes as text
bytes_text : (bs : List ℕ) (row : Row) → line_text [] (map byte bs) row ≡ bs
unfolding line_text item_text
bytes_text [] row = refl
bytes_text (b ∷ bs) row = ap (λ (z : List ℕ). b ∷ z) (bytes_text bs row)

bytes_range : (bs : List ℕ) (row : Row) → in_range 0 0 (map byte bs) row ≡ true
unfolding in_range item_in_range
bytes_range bs row = bytes_every (item_in_range 0 0 row) (λ b. refl) bs

bytes_formed : (bs : List ℕ) → formed (map byte bs) blank ≡ true
unfolding formed item_formed
bytes_formed bs = rw (bytes_every (item_formed blank) (λ b. refl) bs) (idle_all (map byte bs) blank (λ d s. blank_zero d))

pub names_found : (bs text : List ℕ) (r : Reading) → read_items [] (map byte bs) blank text ≡ done r → text ≡ bs ++ r.rest
names_found bs text r e =
    let f = line_found [] 0 (map byte bs) text r (bytes_orderly bs) e (bytes_range bs r.values)
    in f.whole ∙ ap (λ (z : List ℕ). z ++ r.rest) (bytes_text bs r.values)

pub names_again : (bs rest : List ℕ) → read_items [] (map byte bs) blank (bs ++ rest) ≡ done (record { values = blank; rest = rest })
names_again bs rest = rw (bytes_text bs blank) at (line_again [] no_letters 0 (map byte bs) blank rest (bytes_orderly bs) refl (bytes_formed bs) (bytes_range bs blank))
