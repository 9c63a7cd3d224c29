-- The last steps of the code: the walk, the sets found, and the whole. Assumes nothing.
use Prim.Native.Nat.{ℕ, ◌/◌, ◌%◌, ◌<◌, ◌≤◌}
use mathlib.Core.Path.{◌≡◌, sym, subst}
use mathlib.Core.Bool.{true, false}
use mathlib.Core.List.{List}
use native.Mathlib.Omega.{arith}
use lib.ListN.{length, get_or, take}
use borrow.Author.Tests.{lt-ltb, le-ltb}
use Rattle.std.specs.declared.option.Option.TheVariants.{Some, None}
use Rattle.std.specs.declared.result.Result.TheVariants.{Err}
use Rattle.text_field.specs.declared.refusal.Refusal.TheVariants.{NoExpression}
use Rattle.path_rules.specs.Reading.{fresh, read_all}
use Rattle.path_rules.specs.Vectors.{vectors, onward, same_on, place_same}
use Rattle.path_rules.specs.Walk.{arrived, reached, walk_turn}
use Rattle.path_rules.specs.Rules.{is_whole, whole_of, whole_rules, read_whole, rules_of}
use Rattle.path_rules.specs.declared.reading.Reading.{Reading}
use Rattle.path_rules.specs.declared.vectors.Found.{Found}
use Rattle.path_rules.specs.declared.walk.Walk.{Walk}
use Rattle.path_rules.proofs.Closed.{closed_all}

module _ (vs : List ℕ) (w : Walk) (k t : ℕ) where
  pub reached_dead : same_on vs t 0 ≡ true → Some w ≡ reached vs w k t
  unfolding reached
  reached_dead e = rw (e, reached)

  pub reached_live : same_on vs t 0 ≡ false → arrived w k t (place_same vs (take w.states w.sets) t) ≡ reached vs w k t
  unfolding reached
  reached_live e = rw (e, reached)

module _ (vs after labels : List ℕ) (k : ℕ) (w : Walk) where
  pub turn_on : k / 8 < w.states → reached vs w k (onward after labels (get_or w.sets (k / 8) 0) (k % 8)) ≡ walk_turn vs after labels k w
  unfolding walk_turn
  turn_on h = rw (lt-ltb (k / 8) w.states h, walk_turn)

  pub turn_idle : w.states ≤ k / 8 → Some w ≡ walk_turn vs after labels k w
  unfolding walk_turn
  turn_idle h = rw (le-ltb (k / 8) w.states h, walk_turn)

pub found_fits : (after labels : List ℕ) (f : Found) → f ≡ vectors after labels → f.count ≤ length f.cells
found_fits after labels f e =
    let c = closed_all after labels in let r = c.room in let w = c.within in
    subst (λ x. x.count ≤ length x.cells) (sym e) (omega arith)

-- a text as a whole expression, and its rules
module _ (labels text : List ℕ) where
  pub whole_long : 64 < length text → None ≡ read_whole labels text
  unfolding read_whole
  whole_long h = rw (lt-ltb 64 (length text) h, read_whole)

  pub whole_none : length text ≤ 64 → read_all labels fresh text ≡ None → None ≡ read_whole labels text
  unfolding read_whole
  whole_none h e = rw (le-ltb 64 (length text) h, e, read_whole)

  module _ (s : Reading) (h : length text ≤ 64) (e : read_all labels fresh text ≡ Some s) where
    pub whole_not : is_whole s ≡ false → None ≡ read_whole labels text
    unfolding read_whole whole_of
    whole_not w = rw (le-ltb 64 (length text) h, e, read_whole, w, whole_of)

  pub rules_none : None ≡ read_whole labels text → Err NoExpression ≡ rules_of labels text
  unfolding rules_of
  rules_none h = rw (sym h, rules_of)

  pub rules_long : 64 < length text → Err NoExpression ≡ rules_of labels text
  rules_long h = rules_none (whole_long h)

  pub rules_whole : (s : Reading) → Some s ≡ read_whole labels text → whole_rules s ≡ rules_of labels text
  unfolding rules_of
  rules_whole s h = rw (sym h, rules_of)
