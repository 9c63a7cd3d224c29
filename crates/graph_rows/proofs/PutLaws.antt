-- Laws of a row put into a table, cell by cell. Assumes nothing.
use Prim.Native.Nat.{ℕ, ◌+◌, ◌-◌, ◌≤◌}
use mathlib.Core.Path.{◌≡◌, refl, sym, ap, ◌∙◌}
use mathlib.Core.List.{List, [], ◌∷◌, append_assoc}
use native.Mathlib.Omega.{arith}
use lib.ListN.{length, get_or, take, drop, set, length-set}
use lib.Seq.{drop-drop}
use borrow.Rule.Slice.PartMut.{put_mid}
use Rattle.text_field.specs.Buffer.{Buf, puts}
use Rattle.text_field.proofs.BufferLaws.{put_in, puts_fits}

-- five values are the row
pub five : (row : List ℕ) → length row ≡ 5 → get_or row 0 0 ∷ get_or row 1 0 ∷ get_or row 2 0 ∷ get_or row 3 0 ∷ get_or row 4 0 ∷ [] ≡ row
five [] h = absurd (omega arith)
five (a ∷ []) h = absurd (omega arith)
five (a ∷ b ∷ []) h = absurd (omega arith)
five (a ∷ b ∷ c ∷ []) h = absurd (omega arith)
five (a ∷ b ∷ c ∷ d ∷ []) h = absurd (omega arith)
five (a ∷ b ∷ c ∷ d ∷ e ∷ []) h = refl
five (a ∷ b ∷ c ∷ d ∷ e ∷ f ∷ row) h = absurd (omega arith)

-- a row put after its section's number, where there is room for both
pub row_set : (t : List ℕ) (n k : ℕ) (row part : List ℕ) → part ≡ row → length row ≡ 5 → n + 6 ≤ length t → ◌≡◌ {A = Buf} (put_mid (n + 1) (n + 6 - (n + 1)) (set t n k) part, n + 6) (puts (t, n) (k ∷ row))
unfolding puts
row_set t n k row part e h r =
    let five : n + 6 - (n + 1) ≡ 5 = omega arith
    in let end : n + 6 ≡ n + 1 + 5 = omega arith
    in sym (ap (λ (b : Buf). puts b row) (put_in t n k (omega arith)) ∙ puts_fits (set t n k) (n + 1) row (rw (h, length-set) (omega arith)) ∙ rw (five, e, h, end, drop-drop 5 (n + 1) (set t n k), append_assoc (take (n + 1) (set t n k)) row (drop (n + 1 + 5) (set t n k))))
