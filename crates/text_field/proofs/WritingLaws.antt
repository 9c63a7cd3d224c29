-- Laws of what a writer wrote. Assumes nothing.
use mathlib.Core.Path.{◌≡◌, refl, ap, ◌∙◌}
use mathlib.Core.List.{List, [], ◌++◌}
use Prim.Native.Nat.{ℕ, ◌+◌, ◌≤◌}
use native.Mathlib.Omega.{arith}
use lib.ListN.{length, take, drop}
use lib.Seq.{take_at}
use Rattle.text_field.specs.Buffer.{Buf, puts}
use Rattle.text_field.proofs.BufferLaws.{puts_then, puts_none, puts_step, puts_fits}
use Rattle.text_field.specs.declared.writer.Writer.{Writer}
use Rattle.text_field.specs.Writing.{buf, Wrote}

-- nothing yet
pub wrote_none : (a : Writer) → Wrote a a []
wrote_none a = record { same = refl; bytes = puts_none _ [] refl }

infixr 25 ◌then◌
-- one text and then another
pub ◌then◌ : {a b c : Writer} {xs ys : List ℕ} → Wrote a b xs → Wrote b c ys → Wrote a c (xs ++ ys)
◌then◌ {xs = xs} {ys = ys} f g = record { same = g.same ∙ f.same; bytes = puts_then _ _ _ xs ys f.bytes g.bytes }

-- where two ways of a branch met
pub wrote_from : {a b c : Writer} {xs : List ℕ} → b ≡ a → Wrote b c xs → Wrote a c xs
wrote_from e w = rw (← e) w

-- a writer that begins at a buffer and ends: what its memory then holds
pub written : (a b : Writer) (o : Buf) (xs : List ℕ) → buf a ≡ o → Wrote a b xs → buf b ≡ puts o xs
written a b o xs e f = rw (← e) f.bytes

-- in a loop: of the text that the writer `a` is to be given, `rest` is left for the writer `b`
pub record Left (a b : Writer) (whole rest : List ℕ) : Type 0 where
  pub same : b.out.ghost_name ≡ a.out.ghost_name
  pub bytes : puts (buf b) rest ≡ puts (buf a) whole

pub left_start : (a : Writer) (whole : List ℕ) → Left a a whole whole
left_start a whole = record { same = refl; bytes = refl }

pub left_step : {a b c : Writer} {whole left xs : List ℕ} (rest : List ℕ) → Left a b whole left → left ≡ xs ++ rest → Wrote b c xs → Left a c whole rest
left_step {left = left} {xs = xs} rest l e w = record { same = w.same ∙ l.same; bytes = puts_step _ _ _ xs rest left w.bytes e l.bytes }

pub left_end : {a b : Writer} {whole rest : List ℕ} → Left a b whole rest → rest ≡ [] → Wrote a b whole
left_end l e = record { same = l.same; bytes = puts_none _ _ e ∙ l.bytes }

-- a text that fits into the memory stands there, and the place is its end
pub stands : (o xs : List ℕ) (b : Buf) → b ≡ puts (o, 0) xs → length xs ≤ length o → (b.1 ≡ length xs) × (take (length xs) b.0 ≡ xs)
stands o xs b e h =
    let n : 0 + length xs ≡ length xs = omega arith
    in let p = e ∙ puts_fits o 0 xs (omega arith)
    in (ap (λ (z : Buf). z.1) p ∙ n, ap (λ (z : Buf). take (length xs) z.0) p ∙ take_at xs (drop (0 + length xs) o) (length xs) refl)
