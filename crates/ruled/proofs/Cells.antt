-- The cells of the table that an expression becomes: there are 128, and a number that no label has
-- leads nowhere. Assumes nothing.
use Prim.Native.Nat.{ℕ, zero, suc, ◌+◌, ◌/◌, ◌%◌, ◌≤◌, ◌<◌}
use mathlib.Core.Path.{◌≡◌, refl, sym, ap, subst, ◌∙◌}
use mathlib.Core.Bool.{Bool, true, false, ◌&&◌}
use mathlib.Core.Logic.{◌⊎◌, inl, inr, ⊎_elim}
use mathlib.Core.List.{List, [], ◌∷◌}
use native.Mathlib.Omega.{arith}
use lib.Dec.{eqb, ltb}
use lib.ListN.{length, get_or, set, take, replicate, length-set, length-replicate, get_or-replicate}
use lib.Seq.{get_or-set_other}
use borrow.Author.Tests.{eqb-true, eqb-false, ne_eqb}
use Rattle.scope_graph.proofs.Lists.{Two}
use Rattle.std.specs.Option.{is_some}
use Rattle.std.specs.declared.option.Option.{Option}
use Rattle.std.specs.declared.option.Option.TheVariants.{Some, None}
use Rattle.std.specs.declared.result.Result.{Result}
use Rattle.std.specs.declared.result.Result.TheVariants.{Ok, Err}
use Rattle.text_field.specs.declared.refusal.Refusal.{Refusal}
use Rattle.text_field.specs.declared.refusal.Refusal.TheVariants.{NoExpression}
use Rattle.path_rules.specs.Grammar.{place_of}
use Rattle.path_rules.specs.Sets.{only_if, gather}
use Rattle.path_rules.specs.Reading.{fresh, merged, chosen, pushed, popped, repeated, placed, opened, closed, starred, barred, lettered, by_kind, read_byte, read_all}
use Rattle.path_rules.specs.Rules.{is_whole, after_end, start_set, table_of, walk_of, rules_from, whole_rules, whole_of, read_whole, rules_of}
use Rattle.path_rules.specs.Walk.{to_new, arrived, reached, walk_turn, walk_to}
use Rattle.path_rules.specs.Vectors.{onward_cell, onward, vectors_of, vectors, same_on, place_same}
use Rattle.path_rules.specs.declared.reading.Part.{Part}
use Rattle.path_rules.specs.declared.reading.Reading.{Reading}
use Rattle.path_rules.specs.declared.walk.Walk.{Walk}
use Rattle.path_rules.specs.declared.Rules.{Rules}
use Rattle.path_rules.proofs.Alike.{same_self}

-- what holds either way
either : {A : Type 0} (P : A → Type 0) (t : Bool) (x y : A) → P x → P y → P (elim t as (λ _. A) [ true ↦ x | false ↦ y ])
either P true x y h k = h
either P false x y h k = k

-- What holds of the cells of a walk's start and stays when a cell is set, turn by turn, holds of
-- the cells that an expression becomes.
module _ (P : List ℕ → Type 0) where
  abbrev OfWalk : Option Walk → Type 0
  OfWalk None = Unit {0}
  OfWalk (Some w) = P w.next

  abbrev OfRules : Result Rules Refusal → Type 0
  OfRules (Err f) = Unit {0}
  OfRules (Ok r) = P r.next

  arrived_has : (w : Walk) (k t : ℕ) (j : Option ℕ) → ((v : ℕ) → P (set w.next k v)) → OfWalk (arrived w k t j)
  unfolding arrived
  arrived_has w k t (Some j) stays = stays j
  arrived_has w k t None stays = either OfWalk (ltb w.states 16) (Some (to_new w k t)) None (stays w.states) tt

  reached_has : (vs : List ℕ) (w : Walk) (k t : ℕ) → ((v : ℕ) → P (set w.next k v)) → P w.next → OfWalk (reached vs w k t)
  unfolding reached
  reached_has vs w k t stays h =
      let j : Option ℕ = place_same vs (take w.states w.sets) t in
      either OfWalk (same_on vs t 0) (Some w) (arrived w k t j) h (arrived_has w k t j stays)

  walk_has : (vs after labels : List ℕ) (start : ℕ) → P (replicate 128 16) → ((k : ℕ) (w : Walk) → P w.next → OfWalk (walk_turn vs after labels k w)) → (k : ℕ)
      → OfWalk (walk_to vs after labels start k)
  unfolding walk_to
  walk_has vs after labels start first turn zero = first
  walk_has vs after labels start first turn (suc k) = on (walk_to vs after labels start k) (walk_has vs after labels start first turn k)
    where
      on : (o : Option Walk) → OfWalk o → OfWalk (elim o as (λ _. Option Walk) [ None ↦ None | Some w ↦ walk_turn vs after labels k w ])
      on None h = tt
      on (Some w) h = turn k w h

  from_has : (o : Option Walk) → OfWalk o → OfRules (rules_from o)
  unfolding rules_from table_of
  from_has None h = tt
  from_has (Some w) h = h

  rules_have : (labels text : List ℕ) → ((s : Reading) → read_whole labels text ≡ Some s → OfWalk (walk_of (after_end s) s.labels (start_set s.alt)))
      → (r : Rules) → rules_of labels text ≡ Ok r → P r.next
  unfolding rules_of whole_rules
  rules_have labels text h r e = subst OfRules e (by (read_whole labels text) refl)
    where
      by : (o : Option Reading) → read_whole labels text ≡ o
          → OfRules (elim o as (λ _. Result Rules Refusal) [ None ↦ Err NoExpression | Some s ↦ whole_rules s ])
      by None e = tt
      by (Some s) e = from_has (walk_of (after_end s) s.labels (start_set s.alt)) (h s e)

-- there are 128
abbrev Sized : List ℕ → Type 0
Sized next = length next ≡ 128

pub next_size : (labels text : List ℕ) (r : Rules) → rules_of labels text ≡ Ok r → length r.next ≡ 128
unfolding walk_of walk_turn
next_size labels text =
    rules_have Sized labels text
    (λ s e. walk_has Sized (vectors_of (vectors (after_end s) s.labels)) (after_end s) s.labels (start_set s.alt) (length-replicate {A = ℕ} 128 16)
    (turn (vectors_of (vectors (after_end s) s.labels)) (after_end s) s.labels) 128)
  where
    turn : (vs after labels : List ℕ) (k : ℕ) (w : Walk) → Sized w.next → OfWalk Sized (walk_turn vs after labels k w)
    turn vs after labels k w h =
        let t : ℕ = onward after labels (get_or w.sets (k / 8) 0) (k % 8) in
        either (OfWalk Sized) (ltb (k / 8) w.states) (reached vs w k t) (Some w) (reached_has Sized vs w k t (λ v. length-set w.next k v ∙ h) h) h

pub same_default : (l : List ℕ) (i d e : ℕ) → i < length l → get_or l i d ≡ get_or l i e
same_default [] i d e h = absurd (omega arith)
same_default (x ∷ l) zero d e h = refl
same_default (x ∷ l) (suc i) d e h = same_default l i d e (omega arith)

-- no letter has a place at or behind the number of labels
place_apart : (i c l : ℕ) (ls : List ℕ) → i + length ls ≤ l → l < 8 → place_of i c ls ≡ l → ⊥
unfolding place_of
place_apart i c l [] h low e = omega arith
place_apart i c l (x ∷ ls) h low e = by (eqb c x) (place_apart (suc i) c l ls (omega arith) low) e
  where
    by : (t : Bool) → (place_of (suc i) c ls ≡ l → ⊥) → ◌≡◌ {A = ℕ} (elim t as (λ _. ℕ) [ true ↦ i | false ↦ place_of (suc i) c ls ]) l → ⊥
    by true ih z = omega arith
    by false ih z = ih z

set_either : (ls : List ℕ) (i v p : ℕ) → (get_or (set ls i v) p 0 ≡ v) ⊎ (get_or (set ls i v) p 0 ≡ get_or ls p 0)
set_either [] i v p = inr refl
set_either (x ∷ ls) zero v zero = inl refl
set_either (x ∷ ls) zero v (suc p) = inr refl
set_either (x ∷ ls) (suc i) v zero = inr refl
set_either (x ∷ ls) (suc i) v (suc p) = set_either ls i v p

module _ (l : ℕ) (low : l < 8) where
  -- none of ten positions has the label number
  abbrev Without : List ℕ → Type 0
  Without ls = (p : ℕ) → p < 10 → get_or ls p 0 ≡ l → ⊥

  abbrev Apart : Reading → Type 0
  Apart s = Without s.labels

  abbrev OfReading : Option Reading → Type 0
  OfReading None = Unit {0}
  OfReading (Some s) = Apart s

  kind_apart : (opens closes stars bars : Bool) (s : Reading) (label : ℕ) → (label ≡ l → ⊥) → Apart s → OfReading (by_kind opens closes stars bars s label)
  unfolding by_kind opened closed starred barred lettered
  kind_apart true closes stars bars s label n h = either OfReading (ltb s.depth 64) (Some (pushed (merged s))) None h tt
  kind_apart false true stars bars s label n h = either OfReading (is_some s.atom && ltb 0 s.depth) (Some (popped (chosen (merged s)))) None h tt
  kind_apart false false true bars s label n h = by s.atom
    where
      by : (o : Option Part) → OfReading (elim o as (λ _. Option Reading) [ None ↦ None | Some a ↦ Some (repeated s a) ])
      by None = tt
      by (Some a) = h
  kind_apart false false false true s label n h = either OfReading (is_some s.atom) (Some (chosen (merged s))) None h tt
  kind_apart false false false false s label n h =
      either OfReading (ltb label 8 && ltb s.letters 10) (Some (placed (merged s) label)) None
      (λ p b e. ⊎_elim (λ (y : get_or (set s.labels s.letters label) p 0 ≡ label). n (sym y ∙ e))
      (λ (y : get_or (set s.labels s.letters label) p 0 ≡ get_or s.labels p 0). h p b (sym y ∙ e))
      (set_either s.labels s.letters label p))
      tt

  all_apart : (labels : List ℕ) → length labels ≤ l → (text : List ℕ) (s : Reading) → Apart s → OfReading (read_all labels s text)
  unfolding read_all read_byte
  all_apart labels few [] s h = h
  all_apart labels few (b ∷ text) s h =
      on (read_byte labels s b)
      (kind_apart (eqb b 40) (eqb b 41) (eqb b 42) (eqb b 124) s (place_of 0 b labels) (place_apart 0 b l labels (omega arith) low) h)
      (all_apart labels few text)
    where
      on : (o : Option Reading) → OfReading o → ((s : Reading) → Apart s → OfReading (read_all labels s text))
          → OfReading (elim o as (λ _. Option Reading) [ None ↦ None | Some t ↦ read_all labels t text ])
      on None h ih = tt
      on (Some t) h ih = ih t h

  fresh_apart : Apart fresh
  unfolding fresh
  fresh_apart p b e = let z : ◌≡◌ {A = ℕ} (get_or (replicate 10 8) p 0) 8 = get_or-replicate {A = ℕ} 10 p 8 0 b in omega arith

  whole_apart : (labels text : List ℕ) → length labels ≤ l → OfReading (read_whole labels text)
  unfolding read_whole whole_of
  whole_apart labels text few = either OfReading (ltb 64 (length text)) None _ tt (on (read_all labels fresh text) (all_apart labels few text fresh fresh_apart))
    where
      on : (o : Option Reading) → OfReading o → OfReading (elim o as (λ _. Option Reading) [ None ↦ None | Some s ↦ whole_of s ])
      on None h = tt
      on (Some s) h = either OfReading (is_whole s) (Some (chosen (merged s))) None h tt

  -- so its cells stay 16
  abbrev Nowhere : List ℕ → Type 0
  Nowhere next = (j : ℕ) → j < 128 → j % 8 ≡ l → get_or next j 16 ≡ 16

  none_nowhere : Nowhere (replicate 128 16)
  none_nowhere j b e = get_or-replicate {A = ℕ} 128 j 16 16 b

  gather_zero : (f : ℕ → ℕ) (n : ℕ) → ((p : ℕ) → p < n → f p ≡ 0) → gather f n ≡ 0
  unfolding gather
  gather_zero f zero h = refl
  gather_zero f (suc n) h = rw (gather_zero f n (λ p b. h p (omega arith)), h n (omega arith))

  onward_none : (after labels : List ℕ) (s : ℕ) → Without labels → onward after labels s l ≡ 0
  unfolding onward onward_cell only_if
  onward_none after labels s h = gather_zero (onward_cell after labels s l) 10 (λ p b. rw (ne_eqb (get_or labels p 0) l (h p b)))

  module _ (vs after labels : List ℕ) (h : Without labels) where
    turn_nowhere : (k : ℕ) (w : Walk) → Nowhere w.next → OfWalk Nowhere (walk_turn vs after labels k w)
    unfolding walk_turn reached
    turn_nowhere k w n =
        either (OfWalk Nowhere) (ltb (k / 8) w.states) (reached vs w k t) (Some w)
        (⊎_elim (λ (y : eqb (k % 8) l ≡ true). subst (λ (x : ℕ). OfWalk Nowhere (reached vs w k x)) (sym (zero_at (eqb-true (k % 8) l y))) dead)
        (λ (z : eqb (k % 8) l ≡ false). reached_has Nowhere vs w k t (λ v j b e. get_or-set_other w.next k j v 16 (λ x. eqb-false (k % 8) l z (omega arith)) ∙ n j b e) n)
        (Two (eqb (k % 8) l)))
        n
      where
        t : ℕ
        t = onward after labels (get_or w.sets (k / 8) 0) (k % 8)

        zero_at : k % 8 ≡ l → t ≡ 0
        zero_at e = ap (onward after labels (get_or w.sets (k / 8) 0)) e ∙ onward_none after labels (get_or w.sets (k / 8) 0) h

        dead : OfWalk Nowhere (reached vs w k 0)
        dead = rw (same_self vs 0, reached) n

  pub leads_nowhere : (labels text : List ℕ) → length labels ≤ l → (r : Rules) → rules_of labels text ≡ Ok r → (j : ℕ) → j < 128 → j % 8 ≡ l → get_or r.next j 16 ≡ 16
  unfolding walk_of
  leads_nowhere labels text few =
      rules_have Nowhere labels text
      (λ s e.
      walk_has Nowhere (vectors_of (vectors (after_end s) s.labels)) (after_end s) s.labels (start_set s.alt) none_nowhere
      (turn_nowhere (vectors_of (vectors (after_end s) s.labels)) (after_end s) s.labels (subst OfReading e (whole_apart labels text few))) 128)
