-- Which columns a file's form shows, the places that go by them, what is looked up of a section,
-- and the contents by number. Assumes nothing.
use Prim.Native.Nat.{ℕ, zero, suc, ◌≤◌}
use mathlib.Core.Path.{◌≡◌, refl, sym, ap, ◌∙◌}
use mathlib.Core.Bool.{Bool, true, false}
use native.Mathlib.Omega.{arith}
use lib.Dec.{eqb}
use borrow.Author.Tests.{ne_eqb}
use Rattle.graph_rows.specs.Format.{turn, kind_form, turn_form, has_kinds, has_turns, section_at}
use Rattle.graph_rows.specs.Table.{content_of, place_by, row_place, range_place, filled_place, layout_of, Known}
use Rattle.graph_rows.specs.declared.format.Layout.{Layout}

-- the place by whether the column is shown
pub place_shown : (shown : Bool) (old new : ℕ) → shown ≡ true → new ≡ place_by shown old new
unfolding place_by
place_shown shown old new e = rw e

pub place_hidden : (shown : Bool) (old new : ℕ) → shown ≡ false → old ≡ place_by shown old new
unfolding place_by
place_hidden shown old new e = rw e

-- a place by a test of the form
pub place_told : (t u : Bool) (o old new : ℕ) → o ≡ place_by t old new → t ≡ u → o ≡ place_by u old new
place_told t u o old new e f = e ∙ ap (λ (b : Bool). place_by b old new) f

-- which forms show kinds, and which turns
pub turns_told : (form : ℕ) → eqb form turn_form ≡ has_turns form
unfolding has_turns
turns_told zero = refl
turns_told (suc zero) = refl
turns_told (suc (suc zero)) = refl
turns_told (suc (suc (suc n))) = ne_eqb (suc (suc (suc n))) 2 (λ e. omega arith)

pub kinds_first : (form : ℕ) → form ≡ kind_form → true ≡ has_kinds form
unfolding has_kinds
kinds_first form e = sym (rw e)

pub kinds_other : (form : ℕ) → (form ≡ kind_form → ⊥) → eqb form turn_form ≡ has_kinds form
unfolding has_kinds
kinds_other zero n = refl
kinds_other (suc zero) n = absurd (n refl)
kinds_other (suc (suc zero)) n = refl
kinds_other (suc (suc (suc n))) m = ne_eqb (suc (suc (suc n))) 2 (λ e. omega arith)

-- a number that is none of the first ten contents' is a turn's
pub content_turn : (n : ℕ) → 10 ≤ n → content_of n ≡ turn
unfolding content_of
content_turn zero h = absurd (omega arith)
content_turn (suc zero) h = absurd (omega arith)
content_turn (suc (suc zero)) h = absurd (omega arith)
content_turn (suc (suc (suc zero))) h = absurd (omega arith)
content_turn (suc (suc (suc (suc zero)))) h = absurd (omega arith)
content_turn (suc (suc (suc (suc (suc zero))))) h = absurd (omega arith)
content_turn (suc (suc (suc (suc (suc (suc zero)))))) h = absurd (omega arith)
content_turn (suc (suc (suc (suc (suc (suc (suc zero))))))) h = absurd (omega arith)
content_turn (suc (suc (suc (suc (suc (suc (suc (suc zero)))))))) h = absurd (omega arith)
content_turn (suc (suc (suc (suc (suc (suc (suc (suc (suc zero))))))))) h = absurd (omega arith)
content_turn (suc (suc (suc (suc (suc (suc (suc (suc (suc (suc n)))))))))) h = refl

pub past_plain : (n : ℕ) → (n ≡ 0 → ⊥) → (n ≡ 1 → ⊥) → (n ≡ 2 → ⊥) → (n ≡ 3 → ⊥) → (n ≡ 4 → ⊥) → (n ≡ 5 → ⊥) → (n ≡ 6 → ⊥) → (n ≡ 7 → ⊥) → (n ≡ 8 → ⊥) → (n ≡ 9 → ⊥) → 10 ≤ n
past_plain zero a b c d e f g h i j = absurd (a refl)
past_plain (suc zero) a b c d e f g h i j = absurd (b refl)
past_plain (suc (suc zero)) a b c d e f g h i j = absurd (c refl)
past_plain (suc (suc (suc zero))) a b c d e f g h i j = absurd (d refl)
past_plain (suc (suc (suc (suc zero)))) a b c d e f g h i j = absurd (e refl)
past_plain (suc (suc (suc (suc (suc zero))))) a b c d e f g h i j = absurd (f refl)
past_plain (suc (suc (suc (suc (suc (suc zero)))))) a b c d e f g h i j = absurd (g refl)
past_plain (suc (suc (suc (suc (suc (suc (suc zero))))))) a b c d e f g h i j = absurd (h refl)
past_plain (suc (suc (suc (suc (suc (suc (suc (suc zero)))))))) a b c d e f g h i j = absurd (i refl)
past_plain (suc (suc (suc (suc (suc (suc (suc (suc (suc zero))))))))) a b c d e f g h i j = absurd (j refl)
past_plain (suc (suc (suc (suc (suc (suc (suc (suc (suc (suc n)))))))))) a b c d e f g h i j = omega arith

-- what was looked up of a section
module _ (s : Layout) (known : Known s) where
  pub layout_limit : s.limit ≡ (section_at s.section).most
  unfolding layout_of
  layout_limit = ap (λ (z : Layout). z.limit) known

  pub layout_line : s.line ≡ row_place s.form s.section
  unfolding layout_of
  layout_line = ap (λ (z : Layout). z.line) known

  pub layout_range : s.range ≡ range_place s.form s.section
  unfolding layout_of
  layout_range = ap (λ (z : Layout). z.range) known

  pub layout_filled : s.filled ≡ filled_place s.form s.section
  unfolding layout_of
  layout_filled = ap (λ (z : Layout). z.filled) known

-- it is the section's that it was looked up of
module _ (form k : ℕ) (s : Layout) (e : s ≡ layout_of form k) where
  pub layout_form : s.form ≡ form
  unfolding layout_of
  layout_form = ap (λ (z : Layout). z.form) e

  pub layout_section : s.section ≡ k
  unfolding layout_of
  layout_section = ap (λ (z : Layout). z.section) e

  pub layout_known : Known s
  layout_known = e ∙ (λ i. layout_of (sym layout_form i) (sym layout_section i))
