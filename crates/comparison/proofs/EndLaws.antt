-- The preference test by the ends' numbers, and at one label by the turns: a label past the table
-- is in no pair, by its own number and by the one that stands for it. Assumes nothing.
use mathlib.Core.Path.{◌≡◌, sym, ap, ◌∙◌}
use mathlib.Core.Bool.{Bool, true, false, ◌&&◌, ◌||◌, or-false}
use mathlib.Core.Logic.{◌⊎◌, inl, inr}
use mathlib.Core.List.{List}
use Prim.Native.Nat.{ℕ, suc, ◌+◌, ◌≤◌, ◌<◌}
use native.Mathlib.Omega.{arith}
use native.Mathlib.Numerals.{add-one}
use borrow.Author.Tests.{eq-eqb, ne_eqb, lt-ltb, le-ltb, ltb-true, ltb-false}
use lib.Dec.{eqb, ltb}
use Rattle.scope_graph.specs.Language.{by}
use Rattle.scope_graph.specs.Turns.{later as later_turn, later_step}
use Rattle.scope_graph.specs.Order.{turn_meaning, meaning}
use Rattle.std.specs.declared.option.Option.{Option}
use Rattle.std.specs.declared.option.Option.TheVariants.{Some, None}
use Rattle.scope_graph.specs.declared.End.{End}
use Rattle.scope_graph.specs.declared.End.TheVariants.{Stop, Label}
use Rattle.scope_graph.proofs.Lists.{Two}
use Rattle.block.specs.Block.{pair_flag}
use Rattle.block.proofs.BlockLaws.{pair_no_first, pair_no_second}
use Rattle.search.specs.Tables.{end_number, table_order}
use Rattle.comparison.specs.Steps.{label_place}

pub label_past : (l : ℕ) → 8 ≤ l → 9 ≡ label_place l
unfolding label_place
label_past l h = rw (le-ltb l 8 h, label_place)

pub label_in_lem : (l : ℕ) → l < 8 → l + 1 ≡ label_place l
unfolding label_place
label_in_lem l h = add-one l ∙ rw (lt-ltb l 8 h, label_place)

module _ (block : List ℕ) (l : ℕ) where
  inside : l < 8 → label_place l ≡ suc l
  inside h = sym (label_in_lem l h) ∙ add-one l

  past : 8 ≤ l → label_place l ≡ 9
  past h = sym (label_past l h)

  first_end : (c : ℕ) → pair_flag block (label_place l) c ≡ pair_flag block (suc l) c
  first_end c = at (Two (ltb l 8))
    where
      at : (ltb l 8 ≡ true) ⊎ (ltb l 8 ≡ false) → pair_flag block (label_place l) c ≡ pair_flag block (suc l) c
      at (inl e) = ap (λ (k : ℕ). pair_flag block k c) (inside (ltb-true l 8 e))
      at (inr e) =
          let h = ltb-false l 8 e in
          ap (λ (k : ℕ). pair_flag block k c) (past h) ∙ pair_no_first block 9 c (omega arith) ∙ sym (pair_no_first block (suc l) c (omega arith))

  second_end : (a : ℕ) → pair_flag block a (label_place l) ≡ pair_flag block a (suc l)
  second_end a = at (Two (ltb l 8))
    where
      at : (ltb l 8 ≡ true) ⊎ (ltb l 8 ≡ false) → pair_flag block a (label_place l) ≡ pair_flag block a (suc l)
      at (inl e) = ap (pair_flag block a) (inside (ltb-true l 8 e))
      at (inr e) =
          let h = ltb-false l 8 e in
          ap (pair_flag block a) (past h) ∙ pair_no_second block a 9 (omega arith) ∙ sym (pair_no_second block a (suc l) (omega arith))

-- turns, by whether the steps are edge rows
module _ (t u : Option ℕ) where
  pub none_first : t ≡ None → false ≡ later_turn (turn_meaning t) (turn_meaning u)
  unfolding turn_meaning later_turn
  none_first e = rw e

  pub none_second : (n : ℕ) → t ≡ Some n → u ≡ None → false ≡ later_turn (turn_meaning t) (turn_meaning u)
  unfolding turn_meaning later_turn
  none_second n e f = rw (e, f)

  pub both_turns : (n m : ℕ) → t ≡ Some n → u ≡ Some m → ltb m n ≡ later_turn (turn_meaning t) (turn_meaning u)
  unfolding turn_meaning later_turn
  both_turns n m e f = rw (e, f)

-- two steps, by the order pairs and at one label by their turns
module _ (block : List ℕ) (l k n m : ℕ) (t u : Option ℕ) (is : n ≡ label_place l) (it : m ≡ label_place k) (v : Bool) (g : v ≡ pair_flag block n m) where
  abbrev due_steps : Bool
  due_steps = table_order block (by (record { label = l; turn = turn_meaning t })) (by (record { label = k; turn = turn_meaning u }))

  opened : due_steps ≡ (v || eqb l k && later_turn (turn_meaning t) (turn_meaning u))
  unfolding table_order end_number later_step
  opened =
      ap (λ (z : Bool). z || eqb l k && later_turn (turn_meaning t) (turn_meaning u))
      (sym (g ∙ ap (λ (i : ℕ). pair_flag block i m) is ∙ first_end block l m ∙ ap (pair_flag block (suc l)) it ∙ second_end block k (suc l)))

  pub steps_paired : v ≡ true → true ≡ due_steps
  steps_paired e = sym (opened ∙ rw e)

  module _ (e : v ≡ false) where
    pub steps_apart : (l ≡ k → ⊥) → false ≡ due_steps
    steps_apart z = sym (opened ∙ rw (e, ne_eqb l k z))

    pub steps_later : l ≡ k → (w : Bool) → w ≡ later_turn (turn_meaning t) (turn_meaning u) → w ≡ due_steps
    steps_later z w f = sym (opened ∙ rw (e, eq-eqb l k z, f))

-- the test, by what the two ends are
module _ (block : List ℕ) (a c : End) (u : Bool) where
  abbrev due : Bool
  due = table_order block (meaning a) (meaning c)

  pub both_stop : a ≡ Stop → c ≡ Stop → u ≡ pair_flag block 0 0 → u ≡ due
  unfolding table_order end_number meaning later_step
  both_stop e f g = g ∙ rw (e, f) (sym (or-false (pair_flag block 0 0)))

  pub second_label : (k : ℕ) (t : Option ℕ) (n : ℕ) → a ≡ Stop → c ≡ Label k t → n ≡ label_place k → u ≡ pair_flag block 0 n → u ≡ due
  unfolding table_order end_number meaning later_step
  second_label k t n e f is g =
      g ∙ ap (pair_flag block 0) is ∙ second_end block k 0 ∙ rw (e, f) (sym (or-false (pair_flag block 0 (suc k))))

  pub first_label : (l : ℕ) (t : Option ℕ) (n : ℕ) → a ≡ Label l t → c ≡ Stop → n ≡ label_place l → u ≡ pair_flag block n 0 → u ≡ due
  unfolding table_order end_number meaning later_step
  first_label l t n e f is g =
      g ∙ ap (λ (k : ℕ). pair_flag block k 0) is ∙ first_end block l 0 ∙ rw (e, f) (sym (or-false (pair_flag block (suc l) 0)))

  pub both_label : (l k : ℕ) (t s : Option ℕ) → a ≡ Label l t → c ≡ Label k s
      → u ≡ table_order block (by (record { label = l; turn = turn_meaning t })) (by (record { label = k; turn = turn_meaning s })) → u ≡ due
  unfolding meaning
  both_label l k t s e f g = g ∙ rw (e, f)
