-- Laws of writing a row's line. Assumes nothing.
use Prim.Native.Nat.{ℕ, zero, suc, ◌+◌, ◌-◌, ◌*◌, ◌%◌, ◌≤◌, ◌<◌}
use mathlib.Core.Path.{◌≡◌, refl, sym, ap}
use mathlib.Core.List.{List, [], ◌∷◌, ◌++◌, map}
use native.Mathlib.Omega.{arith}
use lib.ListN.{length, get_or, drop, get_or-eq_default}
use lib.Seq.{get_or-drop, drop-drop}
use Rattle.graph_rows.specs.Format.{Item, byte}
use Rattle.graph_rows.specs.Admission.{Row, row_of}
use Rattle.graph_file.specs.Line.{end_byte, field_text, item_text, line_text}
use Rattle.text_field.specs.Number.{number_text}
use mathlib.Core.Bool.{true, false, ◌||◌}
use mathlib.Core.Logic.{◌⊎◌, inl, inr}
use lib.Dec.{ltb}
use borrow.Author.Tests.{ltb-false}
use Rattle.graph_rows.specs.declared.items.Content as held
use Rattle.graph_rows.specs.declared.items.Content.TheVariants.{Letter, Kind}
use Rattle.graph_rows.specs.Table.{content_meaning, item_of, line_of, rows_at, letters_at}
use Rattle.graph_rows.proofs.RowLaws.{letters_length}
use Rattle.graph_rows.proofs.DecodeOrder.{or_false}
use Rattle.graph_file.proofs.LineLaws.{NumberContent, code_more}

-- a content that is neither a number nor a name or the plain kind has one byte
pub one_byte : (n : ℕ) → (ltb n 4 || ltb 9 n) ≡ false → (n ≡ 7 → ⊥) → (n ≡ 9 → ⊥) → (4 ≤ n) × (n < 9) × (n ≡ 7 → ⊥)
one_byte n h s p =
    let c = or_false (ltb n 4) (ltb 9 n) h in
    let least = ltb-false n 4 c.0 in
    let most = ltb-false 9 n c.1 in
    (least, omega arith, s)

-- the text of a number, and of a letter or a kind
module _ (letters : List ℕ) (k : held.Content) (v w : ℕ) where
  pub text_number : NumberContent k → number_text v ≡ field_text letters (content_meaning k) v w
  unfolding field_text content_meaning
  text_number (inl e) = rw e
  text_number (inr (inl e)) = rw e
  text_number (inr (inr (inl e))) = rw e
  text_number (inr (inr (inr (inl e)))) = rw e
  text_number (inr (inr (inr (inr e)))) = rw e

  pub text_byte : (k ≡ Letter) ⊎ (k ≡ Kind) → (v % 256) ∷ [] ≡ field_text letters (content_meaning k) v w
  unfolding field_text content_meaning
  text_byte (inl e) = rw e
  text_byte (inr e) = rw e

-- the letter of label i, and none past the last
pub letter_at : (n f i : ℕ) (t : List ℕ) → i < n → get_or t (f + 6 * i + 1) 0 ≡ get_or (letters_at n (drop f t)) i 0
unfolding letters_at rows_at row_of
letter_at zero f i t h = absurd (omega arith)
letter_at (suc n) f zero t h = let e : f + 6 * 0 + 1 ≡ f + 1 = omega arith in rw e (sym (get_or-drop f t 1 0))
letter_at (suc n) f (suc i) t h =
    let e : f + 6 * suc i + 1 ≡ f + 6 + 6 * i + 1 = omega arith in
    rw (e, drop-drop 6 f t) (letter_at n (f + 6) i t (omega arith))

pub letter_past : (n i : ℕ) (t : List ℕ) → n ≤ i → 0 ≡ get_or (letters_at n t) i 0
letter_past n i t h = let e : length (letters_at n t) ≡ n = letters_length n t in sym (get_or-eq_default (letters_at n t) 0 {n = i} (omega arith))

-- an end's byte
module _ (letters : List ℕ) where
  pub end_mark : (v : ℕ) → v ≡ 0 → 36 ≡ end_byte letters v
  unfolding end_byte
  end_mark v e = sym (rw e)

  pub end_letter : (v : ℕ) → (v ≡ 0 → ⊥) → get_or letters (v - 1) 0 % 256 ≡ end_byte letters v
  unfolding end_byte
  end_letter zero n = absurd (n refl)
  end_letter (suc v) n = let e : suc v - 1 ≡ v = omega arith in rw e

-- a line's text from the code in place i of the format's codes on
pub text_more : (letters codes : List ℕ) (i : ℕ) (row : Row) (item : Item) → i < length codes → (get_or codes i 0 ≡ 10 → ⊥) → item ≡ item_of (get_or codes i 0)
    → line_text letters (line_of (drop i codes)) row ≡ item_text letters row item ++ line_text letters (line_of (drop (i + 1) codes)) row
unfolding line_text
text_more letters codes i row item h n is = rw (code_more codes i h n, is)

-- and at its end
pub text_last : (letters : List ℕ) (items : List Item) (row : Row) → items ≡ byte 10 ∷ [] → line_text letters items row ≡ (10 ∷ []) ++ []
unfolding line_text item_text
text_last letters items row e = rw e

-- a line of bytes is these bytes
pub text_bytes_lem : (letters s : List ℕ) (row : Row) → line_text letters (map byte s) row ≡ s
unfolding line_text item_text
text_bytes_lem letters [] row = refl
text_bytes_lem letters (x ∷ s) row = ap (λ (l : List ℕ). x ∷ l) (text_bytes_lem letters s row)
