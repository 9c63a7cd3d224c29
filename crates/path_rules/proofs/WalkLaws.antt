-- What holds of the walk at each cell: its states are reached, live and told apart, and its cells
-- lead where the sets say. Assumes nothing.
use Prim.Native.Nat.{ℕ, zero, suc, ◌+◌, ◌*◌, ◌/◌, ◌%◌, ◌<◌, ◌≤◌, min}
use mathlib.Core.Path.{◌≡◌, refl, ap, ◌∙◌}
use mathlib.Core.Bool.{true, false}
use mathlib.Core.Logic.{◌⊎◌, inl, inr, ⊎_elim}
use mathlib.Core.List.{List, [], ◌∷◌, ◌++◌}
use native.Mathlib.Omega.{arith}
use native.Mathlib.Numerals.{add-one}
use lib.Dec.{ltb}
use lib.ListN.{length, get_or, set, take, replicate, length-set, length-replicate, get_or-replicate}
use lib.Seq.{take-suc, take-suc-set, length-take-le, get_or-take, get_or-set_same, get_or-set_other}
use borrow.Author.Tests.{ltb-true, ltb-false}
use Rattle.std.specs.declared.option.Option.{Option}
use Rattle.std.specs.declared.option.Option.TheVariants.{Some, None}
use Rattle.scope_graph.proofs.Lists.{Two}
use Rattle.path_rules.specs.Table.{Over, Met, start, nowhere, again, new}
use Rattle.path_rules.specs.Vectors.{onward, same_on, place_same}
use Rattle.path_rules.specs.Walk.{start_walk, to_state, to_new, arrived, reached, walk_turn, walk_to}
use Rattle.path_rules.specs.declared.walk.Walk.{Walk}
use Rattle.path_rules.proofs.Fill.{below_suc}
use Rattle.path_rules.proofs.VectorLaws.{set_after}
use Rattle.path_rules.proofs.Alike.{same_self, place_found, place_none}

abbrev pub set_at : Walk → ℕ → ℕ
set_at w i = get_or w.sets i 0

abbrev pub next_at : Walk → ℕ → ℕ
next_at w j = get_or w.next j 16

over_more : (u : List ℕ) (l : ℕ) → Over 8 u → l < 8 → Over 8 (u ++ l ∷ [])
over_more [] l o h = (h, tt)
over_more (x ∷ u) l o h = (o.0, over_more u l o.1 h)

module _ (vs after labels : List ℕ) (begin : ℕ) where
  abbrev pub Reached : ℕ → Type 0
  Reached t = (u : List ℕ) × Over 8 u × (set_after after labels begin u ≡ t)

  abbrev pub goes_to : Walk → ℕ → ℕ
  goes_to w j = onward after labels (set_at w (j / 8)) (j % 8)

  -- cell j is right: the set that it leads to is dead, or like that of the state in the cell
  abbrev pub Row : Walk → ℕ → Type 0
  Row w j =
      ((same_on vs (goes_to w j) 0 ≡ true) × (next_at w j ≡ 16))
      ⊎ ((next_at w j < w.states) × (same_on vs (set_at w (next_at w j)) (goes_to w j) ≡ true))

  -- a set that is reached, live and like no state
  abbrev pub OneMore : Walk → ℕ → Type 0
  OneMore w t = Reached t × (same_on vs t 0 ≡ false) × ((i : ℕ) → i < w.states → same_on vs (set_at w i) t ≡ false)

  pub record Walked (k : ℕ) (w : Walk) : Type 0 where
    pub room_sets : length w.sets ≡ 16
    pub room_next : length w.next ≡ 128
    pub some : 0 < w.states
    pub few : w.states ≤ 16
    pub head : set_at w 0 ≡ begin
    pub from : (i : ℕ) → i < w.states → Reached (set_at w i)
    pub live : (i : ℕ) → i < w.states → same_on vs (set_at w i) 0 ≡ false
    pub apart : (i j : ℕ) → i < j → j < w.states → same_on vs (set_at w i) (set_at w j) ≡ false
    pub unset : (j : ℕ) → k ≤ j → j < 128 → next_at w j ≡ 16
    pub rows : (j : ℕ) → j < k → j / 8 < w.states → Row w j
    pub met : Met (take (min k (w.states * 8)) w.next) w.states

  -- a seventeenth state was met
  pub record Full : Type 0 where
    pub cell : ℕ
    pub walk : Walk
    pub walked : Walked cell walk
    pub full : walk.states ≡ 16
    pub set : ℕ
    pub more : OneMore walk set

  abbrev pub WalkedOrFull : ℕ → Option Walk → Type 0
  WalkedOrFull k None = Full
  WalkedOrFull k (Some w) = Walked k w

  set_after_more : (s : ℕ) (u : List ℕ) (l : ℕ) → set_after after labels s (u ++ l ∷ []) ≡ onward after labels (set_after after labels s u) l
  unfolding set_after
  set_after_more s [] l = refl
  set_after_more s (x ∷ u) l = set_after_more (onward after labels s x) u l

  module _ (k : ℕ) (w : Walk) (c : Walked k w) (low : k < 128) where
    -- the cell's state is not met: nothing is done
    walked_idle : w.states ≤ k / 8 → Walked (suc k) w
    walked_idle h = record {
      room_sets = c.room_sets;
      room_next = c.room_next;
      some = c.some;
      few = c.few;
      head = c.head;
      from = c.from;
      live = c.live;
      apart = c.apart;
      unset = λ j b d. c.unset j (omega arith) d;
      rows = λ j b d. c.rows j (let y : j / 8 < w.states = d in omega arith) d;
      met = (let e : min (suc k) (w.states * 8) ≡ min k (w.states * 8) = omega arith in rw e c.met);
    }

    module _ (lt : k / 8 < w.states) where
      cells : min k (w.states * 8) ≡ k
      cells = omega arith

      met_here : Met (take k w.next) w.states
      met_here = rw cells at c.met

      met_length : length (take k w.next) / 8 < w.states
      met_length = let e : length (take k w.next) ≡ k = (let r = c.room_next in length-take-le k w.next (omega arith)) in rw e lt

      reached_here : Reached (goes_to w k)
      reached_here =
          let (u, o, e) = c.from (k / 8) lt in
          (u ++ k % 8 ∷ [], over_more u (k % 8) o (omega arith), set_after_more begin u (k % 8) ∙ ap (λ s. onward after labels s (k % 8)) e)

      -- dead: the cell stays as it was
      walked_dead : same_on vs (goes_to w k) 0 ≡ true → Walked (suc k) w
      walked_dead dead =
          let e : min (suc k) (w.states * 8) ≡ suc k = omega arith in
          let r = c.room_next in
          let none : next_at w k ≡ 16 = c.unset k (omega arith) low in
          record {
            room_sets = c.room_sets;
            room_next = c.room_next;
            some = c.some;
            few = c.few;
            head = c.head;
            from = c.from;
            live = c.live;
            apart = c.apart;
            unset = λ j b d. c.unset j (omega arith) d;
            rows = λ j b d. ⊎_elim (λ (y : j < k). c.rows j y d) (λ (y : j ≡ k). rw y (inl (dead, none))) (below_suc j k b);
            met = rw (e, take-suc w.next k 16 (omega arith), none) (nowhere (take k w.next) w.states met_here met_length);
          }

      next_other : (v j : ℕ) → (j ≡ k → ⊥) → get_or (set w.next k v) j 16 ≡ next_at w j
      next_other v j h = get_or-set_other w.next k j v 16 h

      next_here : (v : ℕ) → get_or (set w.next k v) k 16 ≡ v
      next_here v = let r = c.room_next in get_or-set_same w.next k v 16 (omega arith)

      -- a state like it is known
      walked_known : (i : ℕ) → i < w.states → same_on vs (set_at w i) (goes_to w k) ≡ true → Walked (suc k) (to_state w k i)
      walked_known i b same =
          let e : min (suc k) (w.states * 8) ≡ suc k = omega arith in
          let r = c.room_next in
          record {
            room_sets = c.room_sets;
            room_next = length-set w.next k i ∙ r;
            some = c.some;
            few = c.few;
            head = c.head;
            from = c.from;
            live = c.live;
            apart = c.apart;
            unset = λ j b d. next_other i j (λ y. omega arith) ∙ c.unset j (omega arith) d;
            rows = λ j b d. ⊎_elim (λ (y : j < k). old j y d) (λ (y : j ≡ k). rw y (rw (next_here i) (inr (now, same)))) (below_suc j k b);
            met = rw (e, take-suc-set w.next k i (omega arith)) (again (take k w.next) w.states i met_here met_length b);
          }
        where
          now : i < w.states
          now = b

          old : (j : ℕ) → j < k → j / 8 < w.states → Row (to_state w k i) j
          old j y d = rw (next_other i j (λ z. omega arith)) (c.rows j y d)

      -- a new state
      set_other : (t i : ℕ) → i < w.states → get_or (set w.sets w.states t) i 0 ≡ set_at w i
      set_other t i b = get_or-set_other w.sets w.states i t 0 (λ y. omega arith)

      set_here : (t : ℕ) → w.states < 16 → get_or (set w.sets w.states t) w.states 0 ≡ t
      set_here t h = let r = c.room_sets in get_or-set_same w.sets w.states t 0 (omega arith)

      walked_new : w.states < 16 → OneMore w (goes_to w k) → Walked (suc k) (to_new w k (goes_to w k))
      walked_new room (way, alive, others) =
          let e : min (suc k) ((w.states + 1) * 8) ≡ suc k = omega arith in
          let r = c.room_next in let s = c.room_sets in
          let t = goes_to w k in
          record {
            room_sets = length-set w.sets w.states t ∙ s;
            room_next = length-set w.next k w.states ∙ r;
            some = omega arith;
            few = omega arith;
            head = set_other t 0 c.some ∙ c.head;
            from = λ i b. ⊎_elim (λ (y : i < w.states). rw (set_other t i y) (c.from i y)) (λ (y : i ≡ w.states). rw (y, set_here t room) way) (below i b);
            live = λ i b. ⊎_elim (λ (y : i < w.states). rw (set_other t i y) (c.live i y)) (λ (y : i ≡ w.states). rw (y, set_here t room) alive) (below i b);
            apart = λ i j l b.
                ⊎_elim (λ (y : j < w.states). rw (set_other t i (omega arith), set_other t j y) (c.apart i j l y))
                (λ (y : j ≡ w.states). rw (y, set_here t room, set_other t i (omega arith)) (others i (omega arith))) (below j b);
            unset = λ j b d. next_other w.states j (λ y. omega arith) ∙ c.unset j (omega arith) d;
            rows = λ j b d. ⊎_elim (old j) (λ (y : j ≡ k). rw y fresh_row) (below_suc j k b);
            met =
                rw (e, take-suc-set w.next k w.states (omega arith), add-one w.states)
                (new (take k w.next) w.states met_here met_length);
          }
        where
          below : (i : ℕ) → i < w.states + 1 → (i < w.states) ⊎ (i ≡ w.states)
          below i b = below_suc i w.states (omega arith)

          fresh_row : Row (to_new w k (goes_to w k)) k
          fresh_row =
              rw (next_here w.states, set_other (goes_to w k) (k / 8) lt, set_here (goes_to w k) room)
              (inr (omega arith, same_self vs (goes_to w k)))

          old : (j : ℕ) → j < k → Row (to_new w k (goes_to w k)) j
          old j y =
              let q : j / 8 < w.states = omega arith in
              rw (next_other w.states j (λ z. omega arith), set_other (goes_to w k) (j / 8) q)
              (⊎_elim (λ x. inl x)
              (λ x. inr ((let g = x.0 in omega arith), rw (set_other (goes_to w k) (next_at w j) x.0) x.1))
              (c.rows j y q))

      sets_length : length (take w.states w.sets) ≡ w.states
      sets_length = let r = c.room_sets in let f = c.few in length-take-le w.states w.sets (omega arith)

      states_at : (i : ℕ) → i < w.states → get_or (take w.states w.sets) i 0 ≡ set_at w i
      states_at i b = get_or-take w.states w.sets i 0 b

      abbrev place : Option ℕ
      place = place_same vs (take w.states w.sets) (goes_to w k)

      walked_arrived : same_on vs (goes_to w k) 0 ≡ false → WalkedOrFull (suc k) (arrived w k (goes_to w k) place)
      unfolding arrived
      walked_arrived alive = at place refl (Two (ltb w.states 16))
        where
          none : place ≡ None → OneMore w (goes_to w k)
          none e = (
            reached_here,
            alive,
            λ i b. rw (states_at i b) at (place_none vs (take w.states w.sets) (goes_to w k) e i (let z = sets_length in omega arith)),
          )

          at : (j : Option ℕ) → place ≡ j → (ltb w.states 16 ≡ true) ⊎ (ltb w.states 16 ≡ false) → WalkedOrFull (suc k) (arrived w k (goes_to w k) j)
          at (Some j) e f =
              let (l, s) = place_found vs (take w.states w.sets) (goes_to w k) j e in
              let b : j < w.states = (let z = sets_length in omega arith) in
              walked_known j b (rw (states_at j b) at s)
          at None e (inl f) = rw (f, WalkedOrFull) (walked_new (ltb-true w.states 16 f) (none e))
          at None e (inr f) = rw (f, WalkedOrFull) record {
            cell = k;
            walk = w;
            walked = c;
            full = (let y = ltb-false w.states 16 f in let z = c.few in omega arith);
            set = goes_to w k;
            more = none e;
          }

      walked_reached : WalkedOrFull (suc k) (reached vs w k (goes_to w k))
      unfolding reached
      walked_reached = at (Two (same_on vs (goes_to w k) 0))
        where
          at : (same_on vs (goes_to w k) 0 ≡ true) ⊎ (same_on vs (goes_to w k) 0 ≡ false) → WalkedOrFull (suc k) (reached vs w k (goes_to w k))
          at (inl e) = rw (e, reached) (walked_dead e)
          at (inr e) = rw (e, reached) (walked_arrived e)

    walked_turn : WalkedOrFull (suc k) (walk_turn vs after labels k w)
    unfolding walk_turn
    walked_turn = at (Two (ltb (k / 8) w.states))
      where
        at : (ltb (k / 8) w.states ≡ true) ⊎ (ltb (k / 8) w.states ≡ false) → WalkedOrFull (suc k) (walk_turn vs after labels k w)
        at (inl e) = rw (e, walk_turn) (walked_reached (ltb-true _ _ e))
        at (inr e) = rw (e, walk_turn) (walked_idle (ltb-false _ _ e))

  walked_start : same_on vs begin 0 ≡ false → Walked 0 (start_walk begin)
  unfolding set_after
  walked_start alive = record {
    room_sets = length-set (replicate 16 0) 0 begin ∙ length-replicate {A = ℕ} 16 0;
    room_next = length-replicate {A = ℕ} 128 16;
    some = omega arith;
    few = omega arith;
    head = refl;
    from = λ i b. (let e : i ≡ 0 = omega arith in rw e ([], tt, refl));
    live = λ i b. (let e : i ≡ 0 = omega arith in rw e alive);
    apart = λ i j l b. absurd (omega arith);
    unset = λ j b d. get_or-replicate {A = ℕ} 128 j 16 16 d;
    rows = λ j b. absurd (omega arith);
    met = start;
  }

  pub walked_to : same_on vs begin 0 ≡ false → (k : ℕ) → k ≤ 128 → WalkedOrFull k (walk_to vs after labels begin k)
  unfolding walk_to
  walked_to alive zero b = walked_start alive
  walked_to alive (suc k) b = on (walk_to vs after labels begin k) (walked_to alive k (omega arith))
    where
      on : (o : Option Walk) → WalkedOrFull k o
          → WalkedOrFull (suc k) (elim o as (λ _. Option Walk) [ None ↦ None | Some w ↦ walk_turn vs after labels k w ])
      on None h = h
      on (Some w) h = walked_turn k w h (omega arith)
