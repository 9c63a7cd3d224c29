-- Laws of the memo: what a slot tells, and that it stays right when a slot is filled. Assumes
-- nothing.
use Prim.Native.Nat.{ℕ, ◌+◌, ◌*◌, ◌/◌, ◌%◌, ◌≤◌, ◌<◌}
use mathlib.Core.Path.{◌≡◌, sym, ap, ◌∙◌}
use mathlib.Core.Logic.{◌⊎◌, inl, inr}
use mathlib.Core.Bool.{true, false}
use mathlib.Core.List.{List}
use native.Mathlib.Omega.{arith}
use borrow.Author.Tests.{eqb-true, eqb-false}
use lib.Dec.{eqb}
use lib.ListN.{get_or, set, length-set, replicate, length-replicate, get_or-replicate}
use lib.Seq.{get_or-set_same, get_or-set_other, lt-length-set}
use Rattle.scope_graph.proofs.Lists.{Two}
use Rattle.beginnings.specs.Beginnings.{MOST}
use Rattle.beginnings.specs.Steps.{SLOTS, VALUES, tag_of, Recalls, MemoRight}

module _ (block near ask memo : List ℕ) (right : MemoRight block near ask memo) (at free s q : ℕ) (slot : at < SLOTS) (state : q < 16) where
  pub recall : get_or memo (2 * at) 0 ≡ free → (cell : ℕ) → cell ≡ get_or memo (2 * at + 1) 0 → cell / VALUES ≡ tag_of s q
      → Recalls block near ask free s q (cell % VALUES)
  recall is cell e tag = rw (← is, e) (right.slots at s q slot state (rw e at tag))

  module _ (n : ℕ) (most : n ≤ MOST) (told : Recalls block near ask free s q n) where
    abbrev cell : ℕ
    cell = tag_of s q * VALUES + n

    abbrev after : List ℕ
    after = set (set memo (2 * at) free) (2 * at + 1) cell

    free_is : get_or after (2 * at) 0 ≡ free
    free_is =
        get_or-set_other (set memo (2 * at) free) (2 * at + 1) (2 * at) cell 0 (λ e. omega arith)
        ∙ get_or-set_same memo (2 * at) free 0 (omega (arith, right.size))

    cell_is : get_or after (2 * at + 1) 0 ≡ cell
    cell_is = get_or-set_same (set memo (2 * at) free) (2 * at + 1) cell 0 (lt-length-set memo (2 * at) free (omega (arith, right.size)))

    same : (i : ℕ) → (i ≡ 2 * at → ⊥) → (i ≡ 2 * at + 1 → ⊥) → get_or after i 0 ≡ get_or memo i 0
    same i h k = get_or-set_other (set memo (2 * at) free) (2 * at + 1) i cell 0 k ∙ get_or-set_other memo (2 * at) i free 0 h

    value_is : cell % VALUES ≡ n
    value_is = omega arith

    tag_is : cell / VALUES ≡ tag_of s q
    tag_is = omega arith

    filled : (i t r : ℕ) → i < SLOTS → r < 16 → get_or after (2 * i + 1) 0 / VALUES ≡ tag_of t r
        → (eqb i at ≡ true) ⊎ (eqb i at ≡ false) → Recalls block near ask (get_or after (2 * i) 0) t r (get_or after (2 * i + 1) 0 % VALUES)
    filled i t r h k tag (inl e) =
        let is : i ≡ at = eqb-true i at e in
        let one : tag_of s q ≡ tag_of t r = sym tag_is ∙ ap (λ (y : ℕ). y / VALUES) (sym cell_is) ∙ rw is at tag in
        let scope : t ≡ s = omega arith in
        let state : r ≡ q = omega arith in
        rw (is, free_is, cell_is, value_is, scope, state) told
    filled i t r h k tag (inr e) =
        let other : i ≡ at → ⊥ = eqb-false i at e in
        let first = same (2 * i) (λ y. other (omega arith)) (λ y. omega arith) in
        let second = same (2 * i + 1) (λ y. omega arith) (λ y. other (omega arith)) in
        rw (first, second) (right.slots i t r h k (ap (λ (y : ℕ). y / VALUES) (sym second) ∙ tag))

    pub stored : MemoRight block near ask after
    stored = record {
      size = simp length-set right.size;
      slots = λ i t r h k tag. filled i t r h k tag (Two (eqb i at));
    }

-- a memo of zeros tells nothing
pub memo_none : (block near ask : List ℕ) (n : ℕ) → n ≡ 2 * SLOTS → MemoRight block near ask (replicate n 0)
memo_none block near ask n size = record {
  size = length-replicate {A = ℕ} n 0 ∙ size;
  slots = λ i s q h k tag.
      let none : get_or {A = ℕ} (replicate n 0) (2 * i + 1) 0 ≡ 0 = get_or-replicate {A = ℕ} n (2 * i + 1) 0 0 (omega (arith, size)) in
      absurd (omega (arith, none, tag));
}
