-- Steps of the code's loops, over plain lists. Assumes nothing.
use Prim.Native.Nat.{ℕ, zero, suc, ◌+◌, ◌-◌, ◌/◌, ◌%◌, ◌<◌, ◌≤◌}
use mathlib.Core.Path.{◌≡◌, refl, sym, ap, ◌∙◌, subst}
use mathlib.Core.Bool.{Bool, true, false, not, cond, ◌&&◌, ◌||◌, false≢true}
use mathlib.Core.List.{List, [], ◌∷◌}
use native.Mathlib.Omega.{arith}
use native.Mathlib.Numerals.{add-one}
use lib.Dec.{eqb, ltb}
use lib.ListN.{length, get_or, drop, set, take, replicate, length-set, length-replicate, drop_of_length-le}
use lib.Seq.{drop-cons}
use borrow.Author.Tests.{eq-eqb, ne_eqb, eqb-true, eqb-false, lt-ltb, le-ltb, ltb-true}
use Rattle.std.specs.List.{position_from, list_any, list_all}
use Rattle.std.specs.Option.{is_some, unwrap_or}
use Rattle.std.specs.declared.option.Option.{Option}
use Rattle.std.specs.declared.option.Option.TheVariants.{Some, None}
use Rattle.scope_graph.specs.Rows.{any_of}
use Rattle.scope_graph.proofs.Lists.{and_left, and_right}
use Rattle.path_rules.specs.Sets.{meets}
use Rattle.path_rules.specs.Grammar.{place_of}
use Rattle.path_rules.specs.Reading.{merged, chosen, pushed, popped, repeated, placed, opened, closed, starred, barred, lettered, by_kind, read_byte, read_all}
use Rattle.path_rules.specs.Vectors.{end_set, is_new, first_found, noted, note_turn, turns, before, alike_on, same_on}
use Rattle.path_rules.specs.Walk.{start_walk, arrived, reached, walk_turn, walk_to}
use Rattle.path_rules.specs.declared.reading.Part.{Part}
use Rattle.path_rules.specs.declared.reading.Reading.{Reading}
use Rattle.path_rules.specs.declared.vectors.Found.{Found}
use Rattle.path_rules.specs.declared.walk.Walk.{Walk}

-- a byte's place among the labels, from place i on
eqb_swap : (a b : ℕ) → eqb a b ≡ eqb b a
eqb_swap a b = by (eqb b a) refl
  where
    by : (c : Bool) → eqb b a ≡ c → eqb a b ≡ c
    by true e = eq-eqb a b (sym (eqb-true b a e))
    by false e = ne_eqb a b (λ h. eqb-false b a e (sym h))

pub place_is : (b : ℕ) (ls : List ℕ) (i : ℕ) → unwrap_or (position_from (λ l. eqb l b) i ls) 8 ≡ place_of i b ls
unfolding place_of
place_is b [] i = refl
place_is b (l ∷ ls) i = rw (eqb_swap l b) (by (eqb b l) (place_is b ls (i + 1) ∙ ap (λ k. place_of k b ls) (add-one i)))
  where
    by : (c : Bool) → unwrap_or (position_from (λ l. eqb l b) (i + 1) ls) 8 ≡ place_of (suc i) b ls
        → unwrap_or (cond c (Some i) (position_from (λ l. eqb l b) (i + 1) ls)) 8 ≡ (elim c as (λ _. ℕ) [ true ↦ i | false ↦ place_of (suc i) b ls ])
    by true h = refl
    by false h = h

-- is it one of the list?
pub known_is : (v : ℕ) (l : List ℕ) → list_any (λ y. eqb y v) l ≡ any_of (eqb v) l
unfolding any_of
known_is v [] = refl
known_is v (x ∷ l) = rw (eqb_swap x v) (by (eqb v x) (known_is v l))
  where
    by : (c : Bool) → list_any (λ y. eqb y v) l ≡ any_of (eqb v) l → (c || list_any (λ y. eqb y v) l) ≡ (elim c as (λ _. Bool) [ true ↦ true | false ↦ any_of (eqb v) l ])
    by true h = refl
    by false h = h

-- do two sets meet the same ones of the list?
pub same_is : (vs : List ℕ) (a b : ℕ) → list_all (λ v. alike_on v a b) vs ≡ same_on vs a b
unfolding same_on
same_is [] a b = refl
same_is (v ∷ vs) a b = by (alike_on v a b) (same_is vs a b)
  where
    by : (c : Bool) → list_all (λ v. alike_on v a b) vs ≡ same_on vs a b → (c && list_all (λ v. alike_on v a b) vs) ≡ (elim c as (λ _. Bool) [ true ↦ same_on vs a b | false ↦ false ])
    by true h = h
    by false h = refl

-- bytes read one by one
pub read_on : (ls : List ℕ) (s t : Reading) (text : List ℕ) (i : ℕ) → i < length text → read_byte ls s (get_or text i 0) ≡ Some t
    → read_all ls t (drop (i + 1) text) ≡ read_all ls s (drop i text)
unfolding read_all
read_on ls s t text i h e = rw (add-one i, drop-cons text i 0 h, e, read_all)

pub read_stop : (ls : List ℕ) (s : Reading) (text : List ℕ) (i : ℕ) → i < length text → read_byte ls s (get_or text i 0) ≡ None
    → None ≡ read_all ls s (drop i text)
unfolding read_all
read_stop ls s text i h e = rw (drop-cons text i 0 h, e, read_all)

pub read_end : (ls : List ℕ) (s : Reading) (text : List ℕ) (i : ℕ) → length text ≤ i → Some s ≡ read_all ls s (drop i text)
unfolding read_all
read_end ls s text i h = rw (drop_of_length-le text h)

-- never more than 64 brackets are open
abbrev pub Shallow : Option Reading → Type 0
Shallow None = Unit {0}
Shallow (Some s) = s.depth ≤ 64

pick_depth : (c : Bool) (a : Reading) → (c ≡ true → a.depth ≤ 64) → Shallow (elim c as (λ _. Option Reading) [ true ↦ Some a | false ↦ None ])
pick_depth true a h = h refl
pick_depth false a h = tt

depth_kind : (x y z w : Bool) (s : Reading) (l : ℕ) → s.depth ≤ 64 → Shallow (by_kind x y z w s l)
unfolding by_kind opened closed starred barred lettered
depth_kind true y z w s l h = pick_depth (ltb s.depth 64) _ (λ e. let y = ltb-true s.depth 64 e in omega arith)
depth_kind false true z w s l h = pick_depth (is_some s.atom && ltb 0 s.depth) _ (λ e. omega arith)
depth_kind false false true w s l h = by s.atom
  where
    by : (o : Option Part) → Shallow (elim o as (λ _. Option Reading) [ None ↦ None | Some a ↦ Some (repeated s a) ])
    by None = tt
    by (Some a) = h
depth_kind false false false true s l h = pick_depth (is_some s.atom) _ (λ e. h)
depth_kind false false false false s l h = pick_depth (ltb l 8 && ltb s.letters 10) _ (λ e. h)

pub depth_byte : (ls : List ℕ) (s t : Reading) (b : ℕ) → s.depth ≤ 64 → read_byte ls s b ≡ Some t → t.depth ≤ 64
unfolding read_byte
depth_byte ls s t b h e = subst Shallow e (depth_kind (eqb b 40) (eqb b 41) (eqb b 42) (eqb b 124) s (place_of 0 b ls) h)

-- what a test says of a computed choice
pub if_true : {A : Type 0} (c : Bool) (a b : A) → c ≡ true → a ≡ (elim c as (λ _. A) [ true ↦ a | false ↦ b ])
if_true true a b e = refl
if_true false a b e = absurd (false≢true e)

pub if_false : {A : Type 0} (c : Bool) (a b : A) → c ≡ false → b ≡ (elim c as (λ _. A) [ true ↦ a | false ↦ b ])
if_false true a b e = absurd (false≢true (sym e))
if_false false a b e = refl

-- sets found fit
pick_room : (c : Bool) (a b : Found) → (c ≡ true → a.count ≤ length a.cells) → b.count ≤ length b.cells
    → (elim c as (λ _. Found) [ true ↦ a | false ↦ b ]).count ≤ length (elim c as (λ _. Found) [ true ↦ a | false ↦ b ]).cells
pick_room true a b h k = h refl
pick_room false a b h k = k

pub noted_room : (f : Found) (v : ℕ) → f.count ≤ length f.cells → (noted f v).count ≤ length (noted f v).cells
unfolding noted is_new
noted_room f v h =
    pick_room (is_new f v) _ f
    (λ e. let y = ltb-true f.count (length f.cells) (and_left _ _ e) in let z = length-set f.cells f.count v in omega (arith, y, z)) h

pub turn_room : (after labels : List ℕ) (k : ℕ) (f : Found) → f.count ≤ length f.cells
    → (note_turn after labels k f).count ≤ length (note_turn after labels k f).cells
unfolding note_turn
turn_room after labels k f h = pick_room (ltb _ f.count) _ f (λ e. noted_room f _ h) h

pub first_room : first_found.count ≤ length first_found.cells
unfolding first_found
first_room = omega (arith, length-set (replicate 2048 0) 0 end_set, length-replicate {A = ℕ} 2048 0)

pub turns_on : (after labels : List ℕ) (k : ℕ) (f g h : Found) → g ≡ turns after labels k f → h ≡ note_turn after labels k g → h ≡ turns after labels (k + 1) f
unfolding turns
turns_on after labels k f g h e d = d ∙ ap (note_turn after labels k) e ∙ ap (λ n. turns after labels n f) (sym (add-one k))

-- never more than 16 states
abbrev pub Fits : Option Walk → Type 0
Fits None = Unit {0}
Fits (Some w) = (w.states ≤ 16) × (length w.sets ≡ 16)

pick_fits : (c : Bool) (a b : Option Walk) → (c ≡ true → Fits a) → Fits b → Fits (elim c as (λ _. Option Walk) [ true ↦ a | false ↦ b ])
pick_fits true a b h k = h refl
pick_fits false a b h k = k

fits_arrived : (w : Walk) (k t : ℕ) (j : Option ℕ) → Fits (Some w) → Fits (arrived w k t j)
unfolding arrived
fits_arrived w k t (Some j) h = h
fits_arrived w k t None h = pick_fits (ltb w.states 16) _ _ (λ b. let y = ltb-true w.states 16 b in (omega arith, length-set w.sets w.states t ∙ h.1)) tt

pub fits_start : (start : ℕ) (w : Walk) → w ≡ start_walk start → Fits (Some w)
fits_start start w e = subst (λ v. Fits (Some v)) (sym e) (omega arith, length-set (replicate 16 0) 0 start ∙ length-replicate {A = ℕ} 16 0)

pub fits_turn : (vs after labels : List ℕ) (k : ℕ) (w v : Walk) → Fits (Some w) → walk_turn vs after labels k w ≡ Some v → Fits (Some v)
unfolding walk_turn reached
fits_turn vs after labels k w v h e =
    subst Fits e
    (pick_fits (ltb (k / 8) w.states) _ _ (λ y. pick_fits (same_on vs _ 0) _ _ (λ d. h) (fits_arrived w k _ _ h)) h)

-- each of the two by itself
abbrev Few : Option Walk → Type 0
Few None = Unit {0}
Few (Some w) = w.states ≤ 16

pick_few : (c : Bool) (a b : Option Walk) → (c ≡ true → Few a) → Few b → Few (elim c as (λ _. Option Walk) [ true ↦ a | false ↦ b ])
pick_few true a b h k = h refl
pick_few false a b h k = k

few_arrived : (w : Walk) (k t : ℕ) (j : Option ℕ) → w.states ≤ 16 → Few (arrived w k t j)
unfolding arrived
few_arrived w k t (Some j) h = h
few_arrived w k t None h = pick_few (ltb w.states 16) _ _ (λ b. let y = ltb-true w.states 16 b in omega arith) tt

pub few_turn : (vs after labels : List ℕ) (k : ℕ) (w v : Walk) → w.states ≤ 16 → walk_turn vs after labels k w ≡ Some v → v.states ≤ 16
unfolding walk_turn reached
few_turn vs after labels k w v h e =
    subst Few e
    (pick_few (ltb (k / 8) w.states) _ _ (λ y. pick_few (same_on vs _ 0) _ _ (λ d. h) (few_arrived w k _ _ h)) h)

abbrev Sized : Option Walk → Type 0
Sized None = Unit {0}
Sized (Some w) = length w.sets ≡ 16

pick_sets : (c : Bool) (a b : Option Walk) → Sized a → Sized b → Sized (elim c as (λ _. Option Walk) [ true ↦ a | false ↦ b ])
pick_sets true a b h k = h
pick_sets false a b h k = k

sets_arrived : (w : Walk) (k t : ℕ) (j : Option ℕ) → length w.sets ≡ 16 → Sized (arrived w k t j)
unfolding arrived
sets_arrived w k t (Some j) h = h
sets_arrived w k t None h = pick_sets (ltb w.states 16) _ _ (length-set w.sets w.states t ∙ h) tt

pub sets_turn : (vs after labels : List ℕ) (k : ℕ) (w v : Walk) → length w.sets ≡ 16 → walk_turn vs after labels k w ≡ Some v → length v.sets ≡ 16
unfolding walk_turn reached
sets_turn vs after labels k w v h e =
    subst Sized e
    (pick_sets (ltb (k / 8) w.states) _ _ (pick_sets (same_on vs _ 0) _ _ h (sets_arrived w k _ _ h)) h)

-- the walk cell by cell
module _ (vs after labels : List ℕ) (start : ℕ) where
  pub walk_on : (k : ℕ) (w : Walk) → walk_to vs after labels start k ≡ Some w → walk_turn vs after labels k w ≡ walk_to vs after labels start (k + 1)
  unfolding walk_to
  walk_on k w e = rw (add-one k, e, walk_to)

  walk_stays : (k n m : ℕ) → n + k ≡ m → walk_to vs after labels start k ≡ None → walk_to vs after labels start m ≡ None
  unfolding walk_to
  walk_stays k zero m q e = let z : k ≡ m = omega arith in subst (λ i. walk_to vs after labels start i ≡ None) z e
  walk_stays k (suc n) zero q e = absurd (omega arith)
  walk_stays k (suc n) (suc m) q e = rw (walk_stays k n m (omega arith) e, walk_to)

  pub walk_stop : (k n : ℕ) (w : Walk) → k < n → walk_to vs after labels start k ≡ Some w → walk_turn vs after labels k w ≡ None
      → None ≡ walk_to vs after labels start n
  walk_stop k n w lt e d =
      sym (walk_stays (k + 1) (n - (k + 1)) n (omega arith) (sym (walk_on k w e) ∙ d))

-- what the code's tests say
pub alike_yes : (v a b : ℕ) → meets a v ≡ true → meets b v ≡ alike_on v a b
unfolding alike_on
alike_yes v a b e = rw (e, alike_on)

pub alike_no : (v a b : ℕ) → meets a v ≡ false → not (meets b v) ≡ alike_on v a b
unfolding alike_on
alike_no v a b e = rw (e, alike_on)

module _ (s : Reading) where
  pub opened_so : s.depth < 64 → Some (pushed (merged s)) ≡ opened s
  unfolding opened
  opened_so h = rw (lt-ltb s.depth 64 h, opened)

  pub closed_so : (is_some s.atom && ltb 0 s.depth) ≡ true → Some (popped (chosen (merged s))) ≡ closed s
  unfolding closed
  closed_so h = rw (h, closed)

  pub starred_so : (a : Part) → s.atom ≡ Some a → Some (repeated s a) ≡ starred s
  unfolding starred
  starred_so a h = rw (h, starred)

  pub barred_so : is_some s.atom ≡ true → Some (chosen (merged s)) ≡ barred s
  unfolding barred
  barred_so h = rw (h, barred)

  pub lettered_so : (l : ℕ) → (ltb l 8 && ltb s.letters 10) ≡ true → Some (placed (merged s) l) ≡ lettered s l
  unfolding lettered
  lettered_so l h = rw (h, lettered)

  -- what the parts of a byte's work require
  pub pop_fits : (m k : Reading) (r : Bool) → k ≡ chosen m → m ≡ merged s → r ≡ (is_some s.atom && ltb 0 s.depth) → r ≡ true → s.depth ≤ 64
      → (0 < k.depth) × (k.depth ≤ 64)
  pop_fits m k r a b d e h =
      let z : k.depth ≡ s.depth = ap (λ x. x.depth) (a ∙ ap chosen b) in
      let y = ltb-true 0 s.depth (and_right (is_some s.atom) _ (sym d ∙ e)) in
      (omega arith, omega arith)

  pub letter_fits : (m : Reading) (l : ℕ) (r : Bool) → m ≡ merged s → r ≡ (ltb l 8 && ltb s.letters 10) → r ≡ true → m.letters < 10
  letter_fits m l r b d e =
      let z : m.letters ≡ s.letters = ap (λ x. x.letters) b in
      let y = ltb-true s.letters 10 (and_right (ltb l 8) _ (sym d ∙ e)) in
      omega arith

  pub push_fits : (m : Reading) → m ≡ merged s → s.depth < 64 → m.depth < 64
  push_fits m b h = let z : m.depth ≡ s.depth = ap (λ x. x.depth) b in omega arith

-- which byte it is
module _ (ls : List ℕ) (s : Reading) (b : ℕ) where
  pub byte_open : b ≡ 40 → opened s ≡ read_byte ls s b
  unfolding read_byte by_kind
  byte_open e = rw (eq-eqb b 40 e, read_byte)

  pub byte_close : (b ≡ 40 → ⊥) → b ≡ 41 → closed s ≡ read_byte ls s b
  unfolding read_byte by_kind
  byte_close n₁ e = rw (ne_eqb b 40 n₁, eq-eqb b 41 e, read_byte)

  pub byte_star : (b ≡ 40 → ⊥) → (b ≡ 41 → ⊥) → b ≡ 42 → starred s ≡ read_byte ls s b
  unfolding read_byte by_kind
  byte_star n₁ n₂ e = rw (ne_eqb b 40 n₁, ne_eqb b 41 n₂, eq-eqb b 42 e, read_byte)

  pub byte_bar : (b ≡ 40 → ⊥) → (b ≡ 41 → ⊥) → (b ≡ 42 → ⊥) → b ≡ 124 → barred s ≡ read_byte ls s b
  unfolding read_byte by_kind
  byte_bar n₁ n₂ n₃ e = rw (ne_eqb b 40 n₁, ne_eqb b 41 n₂, ne_eqb b 42 n₃, eq-eqb b 124 e, read_byte)

  pub byte_letter : (b ≡ 40 → ⊥) → (b ≡ 41 → ⊥) → (b ≡ 42 → ⊥) → (b ≡ 124 → ⊥) → lettered s (place_of 0 b ls) ≡ read_byte ls s b
  unfolding read_byte by_kind
  byte_letter n₁ n₂ n₃ n₄ = rw (ne_eqb b 40 n₁, ne_eqb b 41 n₂, ne_eqb b 42 n₃, ne_eqb b 124 n₄, read_byte)

-- sets noted
module _ (f : Found) (v : ℕ) where
  pub noted_known : any_of (eqb v) (take f.count f.cells) ≡ true → f ≡ noted f v
  unfolding noted is_new
  noted_known e = at (ltb f.count (length f.cells))
    where
      at : (c : Bool) → f ≡ (elim (c && not (any_of (eqb v) (take f.count f.cells))) as (λ _. Found)
          [ true ↦ record { cells = set f.cells f.count v; count = f.count + 1 } | false ↦ f ])
      at true = rw e
      at false = refl

  pub noted_new : any_of (eqb v) (take f.count f.cells) ≡ false → f.count < length f.cells
      → record { cells = set f.cells f.count v; count = f.count + 1 } ≡ noted f v
  unfolding noted is_new
  noted_new e h = rw (lt-ltb f.count (length f.cells) h, e, noted)

  pub noted_full : length f.cells ≤ f.count → f ≡ noted f v
  unfolding noted is_new
  noted_full h = rw (le-ltb f.count (length f.cells) h, noted)

module _ (after labels : List ℕ) (k : ℕ) (f : Found) where
  pub turn_so : k / 8 < f.count → noted f (before after labels (get_or f.cells (k / 8) 0) (k % 8)) ≡ note_turn after labels k f
  unfolding note_turn
  turn_so h = rw (lt-ltb (k / 8) f.count h, note_turn)

  pub turn_not : f.count ≤ k / 8 → f ≡ note_turn after labels k f
  unfolding note_turn
  turn_not h = rw (le-ltb (k / 8) f.count h, note_turn)

pub room_by : (f g : Found) → f ≡ g → g.count ≤ length g.cells → f.count ≤ length f.cells
room_by f g e h = subst (λ x. x.count ≤ length x.cells) (sym e) h
