-- What the rows so far are known to be: the letters tell the labels' numbers, and the scopes are at
-- most 64. Each admitted row keeps that. Assumes nothing.
use Prim.Native.Nat.{ℕ, ◌+◌, ◌≤◌}
use mathlib.Core.Path.{◌≡◌, refl}
use mathlib.Core.List.{List, [], ◌∷◌}
use mathlib.Core.Bool.{Bool, true, false, ◌&&◌}
use native.Mathlib.Omega.{arith}
use lib.Dec.{eqb, leb, ltb}
use lib.ListN.{length, length-append}
use borrow.Author.Tests.{ltb-true, leb-true, eqb-true, not-true}
use Rattle.text_field.specs.Bytes.{is_capital}
use Rattle.text_field.proofs.ByteLaws.{both}
use Rattle.text_field.proofs.NumberLaws.{length_below, length_most}
use Rattle.text_field.proofs.CellLaws.{name_length}
use Rattle.graph_rows.specs.Format.{Content, state, scope, mark, count, letter, label, end, name, kind, plain, turn, Item, byte, field, every_item, labels, sections, section_at, shapes_of, shape_at, label_section, count_section}
use Rattle.graph_rows.specs.Admission.{Row, value, Sofar, nothing, begun, joined, counted, taken, content_in_range, item_in_range, in_range, listed, follows, unless, admission}
use Rattle.graph_file.specs.Line.{field_text, item_text, line_text}
use Rattle.graph_rows.specs.Values.{formed, field_formed, item_formed, idle_zeros}
use Rattle.graph_file.proofs.InverseOutcome.{held}
use Rattle.graph_file.proofs.InverseLetters.{Letters, no_letters, letters_joined}
use Rattle.graph_file.proofs.InverseTable.{widest, longest}

pub record Sound (st : Sofar) : Type 0 where
  pub letters : Letters st.letters
  pub few : st.scopes ≤ 64

pub sound_nothing : Sound nothing
unfolding nothing
sound_nothing = record { letters = no_letters; few = omega arith }

pub sound_begun : (st : Sofar) → Sound st → Sound (begun st)
unfolding begun
sound_begun st S = record { letters = S.letters; few = S.few }

-- the two tests that an admitted row has passed, besides the section's limit
pub record Admitted (form k : ℕ) (st : Sofar) (row : Row) : Type 0 where
  pub ranges : in_range (length st.letters) st.scopes (shape_at form k).row row ≡ true
  pub turn : follows (section_at k).sequence (section_at k).key st.letters st.own row ≡ true

pub row_admitted : (form k : ℕ) (st : Sofar) (row : Row) → admission form k st row ≡ 0 → Admitted form k st row
unfolding admission
row_admitted form k st row e =
    let ranges = in_range (length st.letters) st.scopes (shape_at form k).row row
    in let after = follows (section_at k).sequence (section_at k).key st.letters st.own row
    in let p = held (ltb st.rows (section_at k).most) 4 (unless ranges 3 (unless after 4 0)) e
    in let q = held ranges 2 (unless after 4 0) p.1
    in record { ranges = q.0; turn = (held after 3 0 q.1).0 }

-- a label's row holds a capital
label_capital : (form : ℕ) (row : Row) → formed (shape_at form 0).row row ≡ true → is_capital (value row 0) ≡ true
unfolding shape_at shapes_of formed every_item item_formed field_formed
label_capital form row h = let p = both (is_capital (value row 0) && true) (idle_zeros (field letter 0 ∷ byte 10 ∷ []) row) h in (both (is_capital (value row 0)) true p.0).0

-- it was not yet listed
label_new : (letters : List ℕ) (own : List Row) (row : Row) → follows (section_at 0).sequence (section_at 0).key letters own row ≡ true
    → listed (value row 0) letters ≡ false
unfolding section_at sections labels follows
label_new letters own row h = not-true (listed (value row 0) letters) h

-- the count of scopes is at most 64
count_few : (form n m : ℕ) (row : Row) → in_range n m (shape_at form 4).row row ≡ true → value row 0 ≤ 64
unfolding shape_at shapes_of in_range every_item item_in_range content_in_range
count_few form n m row h =
    let p = both (leb 1 (value row 0) && leb (value row 0) 64) true h
    in leb-true (value row 0) 64 (both (leb 1 (value row 0)) (leb (value row 0) 64) p.0).1

pub sound_taken : (form k : ℕ) (st : Sofar) (row : Row) → Sound st → formed (shape_at form k).row row ≡ true → Admitted form k st row
    → Sound (taken k st row)
unfolding taken
sound_taken form k st row S f A = record { letters = labelled (eqb k label_section) refl; few = numbered (eqb k count_section) refl }
  where
    labelled : (t : Bool) → eqb k label_section ≡ t → Letters (joined t st.letters (value row 0))
    labelled true e =
        let z = eqb-true k 0 e
        in unfold joined in letters_joined st.letters (value row 0) S.letters (label_capital form row (rw z at f)) (label_new st.letters st.own row (rw z at A.turn))
    labelled false e = unfold joined in S.letters

    numbered : (t : Bool) → eqb k count_section ≡ t → counted t (value row 0) st.scopes ≤ 64
    numbered true e = unfold counted in count_few form (length st.letters) st.scopes row (rw (eqb-true k 4 e) at A.ranges)
    numbered false e = unfold counted in S.few

-- a value in its range takes no more bytes than the widest of what its field holds
field_width : (letters : List ℕ) (scopes : ℕ) (k : Content) (v w : ℕ) → scopes ≤ 64 → content_in_range (length letters) scopes k v ≡ true
    → length (field_text letters k v w) ≤ widest k
unfolding content_in_range field_text widest
field_width letters scopes state v w h g = let l = ltb-true v 16 g in length_below 1 v (omega arith)
field_width letters scopes scope v w h g = let l = ltb-true v scopes g in length_below 1 v (omega arith)
field_width letters scopes mark v w h g = let l = ltb-true v 65536 g in length_most v (omega arith)
field_width letters scopes count v w h g = let l = leb-true v 64 (both (leb 1 v) (leb v 64) g).1 in length_below 1 v (omega arith)
field_width letters scopes letter v w h g = omega arith
field_width letters scopes label v w h g = omega arith
field_width letters scopes end v w h g = omega arith
field_width letters scopes name v w h g = name_length v w
field_width letters scopes kind v w h g = omega arith
field_width letters scopes plain v w h g = omega arith
field_width letters scopes turn v w h g = let l = ltb-true v 100 g in length_below 1 v (omega arith)

pub line_width : (letters : List ℕ) (scopes : ℕ) (items : List Item) (row : Row) → scopes ≤ 64
    → every_item (item_in_range (length letters) scopes row) items ≡ true → length (line_text letters items row) ≤ longest items
unfolding every_item line_text longest item_text item_in_range
line_width letters scopes [] row h g = omega arith
line_width letters scopes (byte b ∷ items) row h g = omega (arith, line_width letters scopes items row h g)
line_width letters scopes (field k c ∷ items) row h g =
    let p = both (content_in_range (length letters) scopes k (value row c)) (every_item (item_in_range (length letters) scopes row) items) g
    in omega (arith, length-append (field_text letters k (value row c) (value row (c + 1))) (line_text letters items row), field_width letters scopes k (value row c) (value row (c + 1)) h p.0, line_width letters scopes items row h p.1)
