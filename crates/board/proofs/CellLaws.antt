-- Laws of parts of a block: what is written, what is kept. Assumes nothing.
use mathlib.Core.Path.{◌≡◌, refl, sym, ap, ◌∙◌}
use mathlib.Core.Logic.{⊎_elim}
use mathlib.Core.List.{List, [], ◌∷◌}
use Prim.Native.Nat.{ℕ, zero, suc, ◌+◌, ◌-◌, ◌≤◌, ◌<◌}
use native.Mathlib.Omega.{arith}
use lib.ListN.{length, get_or, set, length-set}
use lib.Seq.{get_or-set_same, get_or-set_other, ext_get_or}
use borrow.Author.Rules.{rules}
use borrow.Rule.Slice.PartMut.{put_mid}
use Rattle.std.proofs.lemmas.List.{places}
use Rattle.graph_table.proofs.Tests.{below_or}
use Rattle.block.specs.Layout.{HINT, SIZE}
use Rattle.board.specs.Cells.{puts, Only, HINTS, HintsOnly}

pub puts_size : (xs b : List ℕ) (i : ℕ) → length (puts b i xs) ≡ length b
unfolding puts
puts_size [] b i = refl
puts_size (x ∷ xs) b i = puts_size xs (set b i x) (suc i) ∙ length-set b i x

pub puts_before : (xs b : List ℕ) (i j : ℕ) → j < i → get_or (puts b i xs) j 0 ≡ get_or b j 0
unfolding puts
puts_before [] b i j h = refl
puts_before (x ∷ xs) b i j h =
    let other : j ≡ i → ⊥ = λ e. omega arith in
    puts_before xs (set b i x) (suc i) j (omega arith) ∙ get_or-set_other b i j x 0 other

pub puts_behind : (xs b : List ℕ) (i j : ℕ) → i + length xs ≤ j → get_or (puts b i xs) j 0 ≡ get_or b j 0
unfolding puts
puts_behind [] b i j h = refl
puts_behind (x ∷ xs) b i j h =
    let other : j ≡ i → ⊥ = λ e. omega arith in
    puts_behind xs (set b i x) (suc i) j (omega arith) ∙ get_or-set_other b i j x 0 other

pub puts_at : (xs b : List ℕ) (i k : ℕ) → i + length xs ≤ length b → k < length xs → get_or (puts b i xs) (i + k) 0 ≡ get_or xs k 0
unfolding puts
puts_at [] b i k h m = absurd (omega arith)
puts_at (x ∷ xs) b i zero h m =
    let here : i + 0 ≡ i = omega arith in
    rw here (puts_before xs (set b i x) (suc i) i (omega arith) ∙ get_or-set_same b i x 0 (omega arith))
puts_at (x ∷ xs) b i (suc k) h m =
    let next : i + suc k ≡ suc i + k = omega arith in
    rw next (puts_at xs (set b i x) (suc i) k (simp length-set (omega arith)) (omega arith))

module _ (at n : ℕ) where
  pub only_none : (b : List ℕ) → Only at n b b
  only_none b = record { size = refl; before = λ j h. refl; behind = λ j h. refl }

  pub only_then : (a b c : List ℕ) → Only at n a b → Only at n b c → Only at n a c
  only_then a b c x y = record {
    size = y.size ∙ x.size;
    before = λ j h. y.before j h ∙ x.before j h;
    behind = λ j h. y.behind j h ∙ x.behind j h;
  }

  pub only_set : (b : List ℕ) (i v : ℕ) → at ≤ i → i < at + n → Only at n b (set b i v)
  only_set b i v h k = record {
    size = length-set b i v;
    before = λ j m. let other : j ≡ i → ⊥ = λ e. omega arith in get_or-set_other b i j v 0 other;
    behind = λ j m. let other : j ≡ i → ⊥ = λ e. omega arith in get_or-set_other b i j v 0 other;
  }

  pub only_puts : (xs b : List ℕ) (i : ℕ) → at ≤ i → i + length xs ≤ at + n → Only at n b (puts b i xs)
  only_puts xs b i h k = record {
    size = puts_size xs b i;
    before = λ j m. puts_before xs b i j (omega arith);
    behind = λ j m. puts_behind xs b i j (omega arith);
  }

-- cells copied to a part of the block are put there
puts_part : (b : List ℕ) (at n : ℕ) (xs : List ℕ) → length xs ≡ n → at + n ≤ length b → put_mid at n b xs ≡ puts b at xs
puts_part b at n xs size fits =
    ext_get_or 0 (put_mid at n b xs) (puts b at xs) (whole ∙ sym (puts_size xs b at))
    (λ j h.
    ⊎_elim
    (λ (k : j < at). search (rules, places) ∙ sym (puts_before xs b at j k))
    (λ (k : at ≤ j).
    ⊎_elim
    (λ (m : j < at + n). let here : at + (j - at) ≡ j = omega arith in inside j k m ∙ sym (rw here at (puts_at xs b at (j - at) (omega arith) (omega arith))))
    (λ (m : at + n ≤ j). behind j m ∙ sym (puts_behind xs b at j (omega arith)))
    (below_or j (at + n)))
    (below_or j at))
  where
    whole : length (put_mid at n b xs) ≡ length b
    whole = search (rules, places)

    inside : (j : ℕ) → at ≤ j → j < at + n → get_or (put_mid at n b xs) j 0 ≡ get_or xs (j - at) 0
    inside j k m = search (rules, places)

    behind : (j : ℕ) → at + n ≤ j → get_or (put_mid at n b xs) j 0 ≡ get_or b j 0
    behind j m = search (rules, places)

pub copied : (b : List ℕ) (at n : ℕ) (xs ys : List ℕ) → xs ≡ ys → length ys ≡ n → at + n ≤ length b → put_mid at n b xs ≡ puts b at ys
copied b at n xs ys e size fits = ap (put_mid at n b) e ∙ puts_part b at n ys size fits

-- hints: one cell more is put
pub hints_none : (b : List ℕ) → HintsOnly b b
hints_none b = only_none HINT HINTS b

pub hints_set : (old b : List ℕ) (i v : ℕ) → HintsOnly old b → HINT ≤ i → i < SIZE → HintsOnly old (set b i v)
hints_set old b i v so h k = only_then HINT HINTS old b (set b i v) so (only_set HINT HINTS b i v h (omega arith))

pub hints_then : (a b c : List ℕ) → HintsOnly a b → HintsOnly b c → HintsOnly a c
hints_then a b c x y = only_then HINT HINTS a b c x y
