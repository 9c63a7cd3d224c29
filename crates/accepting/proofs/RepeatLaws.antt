-- Rows that are the same, by their bytes. Assumes nothing.
use Prim.Native.Nat.{ℕ, ◌-◌}
use mathlib.Core.Path.{◌≡◌, refl, sym, ap, ◌∙◌}
use mathlib.Core.Bool.{Bool, true, false, ◌&&◌}
use mathlib.Core.List.{List, [], ◌∷◌}
use native.Mathlib.Omega.{arith}
use lib.Dec.{eqb}
use lib.ListN.{take, drop}
use borrow.Author.Tests.{eq-eqb, eqb-true}
use Rattle.std.specs.Cmp.Lexicographic.{pointwise}
use Rattle.text_field.proofs.ByteLaws.{both}
use Rattle.path_row.specs.Form.{row_text}
use Rattle.path_row.proofs.FormLaws.{read_then_written}
use Rattle.told.specs.Apart.{rows_in}
use Rattle.told.specs.Steps.{RowStands}
use Rattle.accepting.specs.Tests.{same_bytes, is_among, none_twice}
use Rattle.accepting.specs.Steps.{text_among}
use Rattle.accepting.proofs.RowTests.{rows_on}

-- as code compares them
pub pointwise_same : (a b : List ℕ) → pointwise eqb a b ≡ same_bytes a b
unfolding same_bytes
pointwise_same [] [] = refl
pointwise_same [] (y ∷ b) = refl
pointwise_same (x ∷ a) [] = refl
pointwise_same (x ∷ a) (y ∷ b) = ap (λ (t : Bool). eqb x y && t) (pointwise_same a b)

pub same_is : (a b : List ℕ) → same_bytes a b ≡ true → a ≡ b
unfolding same_bytes
same_is [] [] e = refl
same_is [] (y ∷ b) e = absurd (let z : ◌≡◌ {A = ℕ} 0 1 = cc in omega arith)
same_is (x ∷ a) [] e = absurd (let z : ◌≡◌ {A = ℕ} 0 1 = cc in omega arith)
same_is (x ∷ a) (y ∷ b) e =
    let w = both (eqb x y) (same_bytes a b) e in
    let f : x ≡ y = eqb-true x y w.0 in
    let g = same_is a b w.1 in
    rw (f, g)

pub same_self : (a : List ℕ) → same_bytes a a ≡ true
unfolding same_bytes
same_self [] = refl
same_self (x ∷ a) = rw (eq-eqb x x refl) (same_self a)

-- a row's text as it stands
module _ (s : List ℕ) (at end next : ℕ) (w : RowStands s at end next) where
  pub text_is : take (end - at) (drop at s) ≡ row_text w.row
  text_is = sym (read_then_written (take (end - at) (drop at s)) w.row w.read).0

  -- it is held against another
  pub text_same : (row : List ℕ) (b c : Bool) → b ≡ same_bytes row (take (end - at) (drop at s)) → b ≡ c → same_bytes row (row_text w.row) ≡ c
  text_same row b c e f = ap (same_bytes row) (sym text_is) ∙ sym e ∙ f

  -- and looked for among the rows after it
  module _ (b : Bool) (e : b ≡ text_among (take (end - at) (drop at s)) (rows_in (drop next s)).0) where
    among : is_among w.row (rows_in (drop next s)).0 ≡ b
    unfolding is_among text_among
    among = sym (e ∙ ap (λ (t : List ℕ). text_among t (rows_in (drop next s)).0) text_is)

    pub twice_here : b ≡ true → false ≡ none_twice (rows_in (drop at s)).0
    unfolding none_twice
    twice_here t = sym (ap none_twice (rows_on s at end next w) ∙ rw (among ∙ t))

    pub once_here : b ≡ false → none_twice (rows_in (drop next s)).0 ≡ none_twice (rows_in (drop at s)).0
    unfolding none_twice
    once_here t = sym (ap none_twice (rows_on s at end next w) ∙ rw (among ∙ t))

pub once_end : (s : List ℕ) (at : ℕ) → (rows_in (drop at s)).0 ≡ [] → true ≡ none_twice (rows_in (drop at s)).0
unfolding none_twice
once_end s at e = sym (ap none_twice e)
