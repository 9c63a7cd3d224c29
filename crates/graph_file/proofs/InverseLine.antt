-- A row and its line tell each other: the law of lines, over any items that pass the test of the
-- format. Assumes nothing.
use Prim.Native.Nat.{ℕ, ◌+◌}
use mathlib.Core.Path.{◌≡◌, refl, sym, ap, ◌∙◌}
use mathlib.Core.List.{List, [], ◌∷◌, ◌++◌, append_assoc}
use mathlib.Core.Bool.{Bool, true, false}
use native.Mathlib.Omega.{arith}
use lib.Dec.{eqb}
use lib.ListN.{length}
use lib.Seq.{sets, length-sets}
use borrow.Author.Tests.{eqb-true, eq-eqb}
use Rattle.text_field.proofs.ByteLaws.{both, clash}
use Rattle.graph_rows.specs.Format.{Content, Item, byte, field, values_of, every_item}
use Rattle.text_field.specs.Outcome.{done, and_then}
use Rattle.graph_rows.specs.Admission.{Row, value, blank, content_in_range, item_in_range, in_range}
use Rattle.graph_file.specs.Line.{Reading, first, read_field, read_item, place_of, read_items, field_text, item_text, line_text}
use Rattle.graph_rows.specs.Way.{starts_with}
use Rattle.graph_rows.specs.Values.{formed, item_formed, spares_place, idle_zeros}
use Rattle.text_field.proofs.OutcomeLaws.{done_same, not_done, went}
use Rattle.graph_file.proofs.InverseLetters.{Letters}
use Rattle.graph_file.proofs.InverseTable.{closes, ends_closes, bounded, last_place, clear, orderly, Clear, field_clear}
use Rattle.graph_file.proofs.InverseField.{field_count, field_found, field_again}
use Rattle.graph_file.proofs.InversePlaces.{put_values, item_values, filled, filled_row, idle_all, blank_zero}

-- a byte that stands there as it is
pub byte_found : (letters : List ℕ) (b : ℕ) (text : List ℕ) (r : Reading) → read_item letters (byte b) text ≡ done r
    → (text ≡ b ∷ r.rest) × (r.values ≡ [])
unfolding read_item starts_with
byte_found letters b [] r e = absurd (not_done 2 r e)
byte_found letters b (x ∷ text) r e = by (eqb x b) refl
  where
    by : (t : Bool) → eqb x b ≡ t → (x ∷ text ≡ b ∷ r.rest) × (r.values ≡ [])
    by true t =
        let q = done_same (record { values = []; rest = text }) r (rw (t, read_item) at e)
        in (rw (eqb-true x b t, ← q), sym (ap (λ (z : Reading). z.values) q))
    by false t = absurd (not_done 2 r (rw (t, read_item) at e))

byte_again : (letters : List ℕ) (b : ℕ) (rest : List ℕ) → read_item letters (byte b) (b ∷ rest) ≡ done (record { values = []; rest = rest })
unfolding read_item starts_with
byte_again letters b rest = rw (eq-eqb b b refl, read_item)

-- what reading a line tells: the text is the row's line and what is left, the row is of the form,
-- and other places are as they were
record Found (letters : List ℕ) (items : List Item) (acc : Row) (text : List ℕ) (r : Reading) : Type 0 where
  whole : text ≡ line_text letters items r.values ++ r.rest
  fields : every_item (item_formed r.values) items ≡ true
  five : length r.values ≡ 5
  kept : (d : ℕ) → every_item (spares_place d) items ≡ true → value r.values d ≡ value acc d

found_byte : (letters : List ℕ) (b : ℕ) (items : List Item) (acc : Row) (text : List ℕ) (t r : Reading) → read_item letters (byte b) text ≡ done t
    → Found letters items (sets acc 0 t.values) t.rest r → Found letters (byte b ∷ items) acc text r
unfolding line_text item_text every_item item_formed spares_place
found_byte letters b items acc text t r e f =
    let p = byte_found letters b text t e
    in record { whole = p.0 ∙ ap (λ (z : List ℕ). b ∷ z) f.whole; fields = f.fields; five = f.five; kept = λ d s. f.kept d s ∙ ap (λ (z : List ℕ). value (sets acc 0 z) d) p.1 }

found_field : (letters : List ℕ) (scopes : ℕ) (k : Content) (c : ℕ) (items : List Item) (acc : Row) (text : List ℕ) (t r : Reading) → length acc ≡ 5
    → Clear k c items → read_field letters k text ≡ done t → content_in_range (length letters) scopes k (value r.values c) ≡ true
    → Found letters items (sets acc c t.values) t.rest r → Found letters (field k c ∷ items) acc text r
unfolding line_text item_text every_item item_formed last_place
found_field letters scopes k c items acc text t r h C e g f =
    let n = field_count letters k text t e
    in let p = put_values k c acc t.values h n C.inside
    in let q = field_found letters scopes k text t (value r.values c) (value r.values (c + 1)) e (f.kept c C.spared ∙ p.at) (λ z. next z ∙ p.next z) g
    in record {
      whole = q.whole ∙ ap (λ (z : List ℕ). field_text letters k (value r.values c) (value r.values (c + 1)) ++ z) f.whole ∙ sym (append_assoc (field_text letters k (value r.values c) (value r.values (c + 1))) (line_text letters items r.values) r.rest);
      fields = rw q.formed f.fields;
      five = f.five;
      kept = λ d s. let u = both (spares_place d (field k c)) (every_item (spares_place d) items) s in f.kept d u.1 ∙ p.others d u.0;
    }
  where
    next : values_of k ≡ 2 → value r.values (c + 1) ≡ value (sets acc c t.values) (c + 1)
    next z = let l : last_place k c ≡ c + 1 = omega arith in f.kept (c + 1) (rw l at C.last_spared)

found : (letters : List ℕ) (scopes : ℕ) (items : List Item) (acc : Row) (text : List ℕ) (r : Reading) → length acc ≡ 5 → orderly items ≡ true
    → read_items letters items acc text ≡ done r → every_item (item_in_range (length letters) scopes r.values) items ≡ true
    → Found letters items acc text r
unfolding read_items orderly every_item line_text place_of read_item item_in_range
found letters scopes [] acc text r h o e g =
    let q = done_same (record { values = acc; rest = text }) r e
    in record { whole = ap (λ (z : Reading). z.rest) q; fields = refl; five = sym (ap (λ (z : Reading). length z.values) q) ∙ h; kept = λ d s. sym (ap (λ (z : Reading). value z.values d) q) }
found letters scopes (i ∷ items) acc text r h o e g =
    let s = went (read_item letters i text) (λ t. read_items letters items (sets acc (place_of i) t.values) t.rest) r e
    in let p = both (clear i items) (orderly items) o
    in let q = both (item_in_range (length letters) scopes r.values i) (every_item (item_in_range (length letters) scopes r.values) items) g
    in step i s.gained s.before p.0 q.0 (found letters scopes items (sets acc (place_of i) s.gained.values) s.gained.rest r (length-sets acc (place_of i) s.gained.values ∙ h) p.1 s.after q.1)
  where
    step : (i : Item) (t : Reading) → read_item letters i text ≡ done t → clear i items ≡ true
        → item_in_range (length letters) scopes r.values i ≡ true → Found letters items (sets acc (place_of i) t.values) t.rest r
        → Found letters (i ∷ items) acc text r
    step (byte b) t e o g f = found_byte letters b items acc text t r e f
    step (field k c) t e o g f = found_field letters scopes k c items acc text t r h (field_clear k c items o) e g f

-- What a row's line tells: the text is the line of the row that was read and what is left, and the
-- row can be written.
pub record LineFound (letters : List ℕ) (items : List Item) (text : List ℕ) (r : Reading) : Type 0 where
  pub whole : text ≡ line_text letters items r.values ++ r.rest
  pub formed : formed items r.values ≡ true
  pub five : length r.values ≡ 5

-- the law of lines, from the text: what was read is written back
pub line_found : (letters : List ℕ) (scopes : ℕ) (items : List Item) (text : List ℕ) (r : Reading) → orderly items ≡ true
    → read_items letters items blank text ≡ done r → in_range (length letters) scopes items r.values ≡ true → LineFound letters items text r
unfolding in_range formed
line_found letters scopes items text r o e g =
    let f = found letters scopes items blank text r refl o e g
    in record { whole = f.whole; formed = rw f.fields (idle_all items r.values (λ d s. f.kept d s ∙ blank_zero d)); five = f.five }

-- a line's text goes on with a byte that ends the field before
closed_by : (letters : List ℕ) (k : Content) (items : List Item) (row : Row) (rest : List ℕ) → bounded k items ≡ true
    → closes k (first (line_text letters items row ++ rest)) ≡ true
unfolding bounded line_text item_text
closed_by letters k [] row rest h = absurd (clash h refl)
closed_by letters k (byte b ∷ items) row rest h = h
closed_by letters k (field j c ∷ items) row rest h = ends_closes k _ h

module _ (letters : List ℕ) (L : Letters letters) where
  item_again : (scopes : ℕ) (i : Item) (items : List Item) (row : Row) (rest : List ℕ) → clear i items ≡ true → item_formed row i ≡ true
      → item_in_range (length letters) scopes row i ≡ true
      → read_item letters i (item_text letters row i ++ (line_text letters items row ++ rest)) ≡ done (record { values = item_values row i; rest = line_text letters items row ++ rest })
  unfolding item_text item_values item_formed item_in_range
  item_again scopes (byte b) items row rest o f g = byte_again letters b (line_text letters items row ++ rest)
  item_again scopes (field k c) items row rest o f g = unfold read_item in field_again letters L scopes k (value row c) (value row (c + 1)) (line_text letters items row ++ rest) f g (closed_by letters k items row rest (field_clear k c items o).closed)

  again : (scopes : ℕ) (items : List Item) (row acc : Row) (rest : List ℕ) → orderly items ≡ true → every_item (item_formed row) items ≡ true
      → every_item (item_in_range (length letters) scopes row) items ≡ true
      → read_items letters items acc (line_text letters items row ++ rest) ≡ done (record { values = filled items row acc; rest = rest })
  unfolding read_items orderly every_item line_text filled and_then
  again scopes [] row acc rest o f g = refl
  again scopes (i ∷ items) row acc rest o f g =
      let p = both (clear i items) (orderly items) o
      in let q = both (item_in_range (length letters) scopes row i) (every_item (item_in_range (length letters) scopes row) items) g
      in let u = both (item_formed row i) (every_item (item_formed row) items) f
      in rw (append_assoc (item_text letters row i) (line_text letters items row) rest, item_again scopes i items row rest p.0 u.0 q.0) (again scopes items row (sets acc (place_of i) (item_values row i)) rest p.1 u.1 q.1)

  -- the law of lines, from the row: what was written is read back
  pub line_again : (scopes : ℕ) (items : List Item) (row : Row) (rest : List ℕ) → orderly items ≡ true → length row ≡ 5 → formed items row ≡ true
      → in_range (length letters) scopes items row ≡ true
      → read_items letters items blank (line_text letters items row ++ rest) ≡ done (record { values = row; rest = rest })
  unfolding in_range formed
  line_again scopes items row rest o h f g =
      let p = both (every_item (item_formed row) items) (idle_zeros items row) f
      in again scopes items row blank rest o p.0 g ∙ rw (filled_row items row h o p.1)
