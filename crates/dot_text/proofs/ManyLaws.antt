-- As many statements as there are: one turn, and the end. Assumes nothing.
use Prim.Native.Nat.{ℕ, zero, suc, ◌≤◌, ◌<◌}
use mathlib.Core.Path.{◌≡◌, refl, ap, ◌∙◌}
use mathlib.Core.List.{List, [], ◌∷◌}
use native.Mathlib.Omega.{arith}
use lib.ListN.{length}
use Rattle.text_field.specs.Outcome.{Outcome, refused, done}
use Rattle.dot_text.specs.Reading.{Taken, more_of, many}

-- a reading leaves less than there was
abbrev pub Shrinks : {A : Type 0} → (List ℕ → Outcome (Taken A)) → Type 0
Shrinks {A} read = (s : List ℕ) (t : Taken A) → read s ≡ done t → length t.rest < length s

-- what `many` gives by one more reading
abbrev pub joined : {A : Type 0} → Taken A → Taken (List A) → Taken (List A)
joined t more = record { value = t.value ∷ more.value; rest = more.rest }

module _ {A : Type 0} (read : List ℕ → Outcome (Taken A)) (shrinks : Shrinks read) where
  -- as many turns as there are bytes are enough
  enough : (m n : ℕ) (s : List ℕ) → length s ≤ m → length s ≤ n → many read m s ≡ many read n s
  unfolding many more_of
  enough zero zero s h k = refl
  enough zero (suc n) s h k = by (read s) refl
    where
      by : (o : Outcome (Taken A)) → read s ≡ o → record { value = []; rest = s } ≡ more_of o s (many read n)
      by (refused x) e = refl
      by (done t) e = absurd (let z = shrinks s t e in omega arith)
  enough (suc m) zero s h k = by (read s) refl
    where
      by : (o : Outcome (Taken A)) → read s ≡ o → more_of o s (many read m) ≡ record { value = []; rest = s }
      by (refused x) e = refl
      by (done t) e = absurd (let z = shrinks s t e in omega arith)
  enough (suc m) (suc n) s h k = by (read s) refl (λ r. enough m n r)
    where
      by : (o : Outcome (Taken A)) → read s ≡ o → ((r : List ℕ) → length r ≤ m → length r ≤ n → many read m r ≡ many read n r)
          → more_of o s (many read m) ≡ more_of o s (many read n)
      by (refused x) e same = refl
      by (done t) e same = let z = shrinks s t e in ap (joined t) (same t.rest (omega arith) (omega arith))

  pub many_none : (s : List ℕ) (n : ℕ) → read s ≡ refused n → many read (length s) s ≡ record { value = []; rest = s }
  unfolding many more_of
  many_none s n e = enough (length s) (suc (length s)) s (omega arith) (omega arith) ∙ rw (e, more_of)

  pub many_some : (s : List ℕ) (t : Taken A) → read s ≡ done t → many read (length s) s ≡ joined t (many read (length t.rest) t.rest)
  unfolding many more_of
  many_some s t e =
      let z = shrinks s t e in
      enough (length s) (suc (length s)) s (omega arith) (omega arith) ∙ rw (e, more_of)
      (ap (joined t) (enough (length s) (length t.rest) t.rest (omega arith) (omega arith)))
