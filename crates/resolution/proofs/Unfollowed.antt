-- An open pair whose places are all barred or away from the start is not followed. Assumes nothing.
use Prim.Native.Nat.{ℕ, zero, suc, ◌^◌, ◌<◌}
use mathlib.Core.Path.{◌≡◌, refl, sym, ap, ◌∙◌, fun_ext}
use mathlib.Core.Bool.{Bool, true, false, not, ◌&&◌, ◌||◌, and-false, or-false, false≢true}
use mathlib.Core.Logic.{◌⊎◌, inl, inr}
use mathlib.Core.List.{List, [], ◌∷◌, ◌++◌, flat_map}
use native.Mathlib.Omega.{arith}
use borrow.Author.Tests.{eqb-true, lt-ltb, le-ltb, ltb-true}
use lib.Dec.{eqb, leb, ltb}
use lib.ListN.{get_or, replicate, get_or-replicate}
use Rattle.scope_graph.specs.Language.{End, stop, by}
use Rattle.scope_graph.specs.Order.{end_of}
use Rattle.scope_graph.specs.Rows.{any_of}
use Rattle.scope_graph.specs.Turns.{Turned, later_step}
use Rattle.scope_graph.specs.Computed.{NodeOf}
use Rattle.scope_graph.proofs.Lists.{and_left, and_right}
use Rattle.block.specs.Sets.{has_scope, has_state, places_of}
use Rattle.block.specs.Block.{accept_set, usable_set, scopes_cell, pair_flag}
use Rattle.block.specs.Ask.{ask_start, ask_goal}
use Rattle.block.proofs.SetLaws.{scopes_one, states_none, places_no_scope, places_scope, places_state, places_none}
use Rattle.search.specs.Board.{Board, without, hop_leads, node_at, cut_here, own_hit, hop_hits, hits_from}
use Rattle.search.specs.Live.{Closed, open_way}
use Rattle.search.specs.Tables.{place_flag, end_number, plain_end, table_order, table_board}
use Rattle.search.specs.Conditions.{free_at, way_of, AwayAt}
use Rattle.search.proofs.RulesLists.{flat_map_same}
use Rattle.search.proofs.Closed.{without_within, closed_hits}
use Rattle.follow.specs.Walk.{places_from, followed_in}
use Rattle.resolution.specs.Asked.{barred, AwayFrom, followed_by}

-- a place's flag by its scope's set
pub place_set : (t : List ℕ) (s q : ℕ) → s < 64 → place_flag t s q ≡ has_state (get_or t s 0) q
unfolding place_flag
place_set t s q h = rw (lt-ltb s 64 h, place_flag)

-- the states that are left of those where the end is usable
module _ (block : List ℕ) (goal : ℕ) (away : List ℕ) (at end : ℕ) (inside : at < 64) (states u : ℕ) (is : u ≡ usable_set block end)
    (less-away : (q : ℕ) → has_state states q ≡ (has_state u q && not (has_state (get_or away at 0) q))) where
  left : (q : ℕ) → has_state states q ≡ (has_state (usable_set block end) q && not (has_state (get_or away at 0) q))
  left q = less-away q ∙ ap (λ (x : ℕ). has_state x q && not (has_state (get_or away at 0) q)) is

  -- where what is sought cuts nothing
  pub left_open : (has_scope goal at ≡ false) ⊎ (pair_flag block 0 end ≡ false) → (q : ℕ)
      → has_state states q ≡ (has_state (usable_set block end) q && not (barred block goal away at end q))
  unfolding barred
  left_open c q = left q ∙ ap (λ (x : Bool). has_state (usable_set block end) q && not x) (sym (plain c))
    where
      plain : (has_scope goal at ≡ false) ⊎ (pair_flag block 0 end ≡ false) → barred block goal away at end q ≡ has_state (get_or away at 0) q
      plain (inl e) = rw (places_no_scope goal (accept_set block) at q e, place_set away at q inside, barred) (or-false (has_state (get_or away at 0) q))
      plain (inr e) = rw (e, place_set away at q inside, barred, and-false (places_of goal (accept_set block) at q)) (or-false (has_state (get_or away at 0) q))

  -- where it cuts the end in the accepting states
  pub left_cut : has_scope goal at ≡ true → pair_flag block 0 end ≡ true → (fewer accepts : ℕ) → accepts ≡ accept_set block
      → ((q : ℕ) → has_state fewer q ≡ (has_state states q && not (has_state accepts q))) → (q : ℕ)
      → has_state fewer q ≡ (has_state (usable_set block end) q && not (barred block goal away at end q))
  unfolding barred places_of
  left_cut g p fewer accepts same less q =
      less q ∙ ap (λ (x : ℕ). has_state states q && not (has_state x q)) same ∙ ap (λ (x : Bool). x && not (has_state (accept_set block) q)) (left q)
      ∙ both (has_state (usable_set block end) q) (has_state (get_or away at 0) q) (has_state (accept_set block) q)
      ∙ ap (λ (x : Bool). has_state (usable_set block end) q && not x) (sym here)
    where
      both : (u a c : Bool) → ((u && not a) && not c) ≡ (u && not (a || c))
      both true true c = refl
      both true false c = refl
      both false a c = refl

      alone : (a : Bool) → (a && true) ≡ a
      alone true = refl
      alone false = refl

      here : barred block goal away at end q ≡ (has_state (get_or away at 0) q || has_state (accept_set block) q)
      here = rw (g, p, place_set away at q inside, barred, alone (has_state (accept_set block) q))

-- no place of the scope shows the pair followed: each where its end is usable is barred
abbrev Missed : List ℕ → ℕ → List ℕ → ℕ → ℕ → Type 0
Missed block goal away at end = (q : ℕ) → has_state (usable_set block end) q ≡ true → barred block goal away at end q ≡ true

-- none is left: each place is barred
pub none_left : (block : List ℕ) (goal : ℕ) (away : List ℕ) (at end states g : ℕ) → g ≡ goal
    → ((q : ℕ) → has_state states q ≡ (has_state (usable_set block end) q && not (barred block g away at end q))) → states ≡ 0 → Missed block goal away at end
none_left block goal away at end states g is e z q u =
    off (has_state (usable_set block end) q) (barred block goal away at end q) u
    (ap (λ (x : ℕ). has_state (usable_set block end) q && not (barred block x away at end q)) (sym is) ∙ sym (e q) ∙ ap (λ (x : ℕ). has_state x q) z ∙ states_none q)
  where
    off : (a c : Bool) → a ≡ true → (a && not c) ≡ false → c ≡ true
    off true true h k = refl
    off true false h k = sym k
    off false c h k = absurd (let z : ◌≡◌ {A = ℕ} 0 1 = cc in omega arith)

-- a place where stopping cuts the end gives no hit, whether it is asked for or not
cut_anyway : (k x y : Bool) → (k && not (x || y)) ≡ ((k && not x) && not (x || y))
cut_anyway false x y = refl
cut_anyway true true y = refl
cut_anyway true false y = refl

module _ {A : Type 0} (b : Board A) (prefers : End A → End A → Bool) (seek : ℕ → ℕ → Bool) (e : End A) where
  abbrev open_seek : ℕ → ℕ → Bool
  open_seek s q = seek s q && not (b.here s q && prefers stop e)

  own_same : (fuel : ℕ) (free : ℕ → Bool) (s q : ℕ) → own_hit b prefers seek e fuel free s q ≡ own_hit b prefers open_seek e fuel free s q
  unfolding own_hit cut_here
  own_same fuel free s q =
      ap (λ (t : Bool). elim t as (λ _. List (NodeOf A)) [ true ↦ node_at b s q ∷ [] | false ↦ [] ])
      (cut_anyway (seek s q) (b.here s q && prefers stop e) (any_of (λ h. prefers (by h.step) e && hop_leads b fuel free q h) (b.hops s)))

  hits_same : (fuel : ℕ) (free : ℕ → Bool) (s q : ℕ) → hits_from b prefers seek e fuel free s q ≡ hits_from b prefers open_seek e fuel free s q
  unfolding hits_from hop_hits
  hits_same zero free s q = refl
  hits_same (suc fuel) free s q =
      ap (λ (l : List (NodeOf A)). l ++ flat_map (hop_hits b prefers seek e (λ t r. hits_from b prefers seek e fuel (without free t) t r) fuel free s q) (b.hops s)) (own_same fuel free s q)
      ∙ ap (λ (l : List (NodeOf A)). own_hit b prefers open_seek e fuel free s q ++ l)
      (flat_map_same _ _ (b.hops s) (λ h m.
      ap (λ (enter : ℕ → ℕ → List (NodeOf A)). hop_hits b prefers open_seek e enter fuel free s q h) (fun_ext (λ t. fun_ext (λ r. hits_same fuel (without free t) t r)))))

-- an end's number, and whether stopping is preferred to it
stop_end : (block : List ℕ) (end : ℕ) → table_order block stop (plain_end (end_of end)) ≡ pair_flag block 0 end
unfolding table_order end_number end_of plain_end later_step
stop_end block zero = or-false (pair_flag block 0 0)
stop_end block (suc l) = or-false (pair_flag block 0 (suc l))

bar : (a x : Bool) → (a || x) ≡ true → not x ≡ true → a ≡ true
bar true x h k = refl
bar false true h k = k
bar false false h k = h

-- the steps that are not cut, as the table and as the search has them
way_is_open : (block : List ℕ) (goal : ℕ) → way_of block goal ≡ open_way (table_board block goal) (table_order block)
unfolding way_of open_way table_board
way_is_open block goal = refl

module _ (block table ask : List ℕ) (at end : ℕ) (away : List ℕ) where
  abbrev goal : ℕ
  goal = ask_goal ask

  abbrev start : ℕ
  start = ask_start ask

  abbrev b : Board Turned
  b = table_board block goal

  abbrev seek : ℕ → ℕ → Bool
  seek = places_of (2 ^ at) (usable_set block end)

  abbrev all : ℕ → Bool
  all = λ t. ltb t 64

  -- the table of what is away is closed for the pair's places too, but for those where stopping
  -- cuts its end
  away_closed : at < 64 → AwayAt block goal away → Missed block goal away at end
      → Closed b (open_seek b (table_order block) seek (plain_end (end_of end))) (way_of block goal) all (place_flag away)
  unfolding table_board barred
  away_closed h c missed = record {
    asked = λ s q k.
        let f : seek s q ≡ true = and_left (seek s q) _ k in
        let same : s ≡ at = eqb-true s at (sym (scopes_one at s h) ∙ places_scope (2 ^ at) (usable_set block end) s q f) in
        let n : not (places_of goal (accept_set block) s q && pair_flag block 0 end) ≡ true = rw (stop_end block end) at (and_right (seek s q) _ k) in
        let m : barred block goal away s end q ≡ true = rw same (missed q (places_state (2 ^ at) (usable_set block end) s q f)) in
        bar (place_flag away s q) (places_of goal (accept_set block) s q && pair_flag block 0 end) m n;
    back = c.back;
  }

  no_places : (fuel : ℕ) → at < 64 → start < 64 → AwayFrom block goal start away → Missed block goal away at end
      → places_from block table ask (2 ^ at) (usable_set block end) end fuel (free_at start) start 0 ≡ []
  unfolding places_from free_at
  no_places fuel h inside from missed =
      hits_same b (table_order block) seek (plain_end (end_of end)) fuel (without all start) start 0
      ∙ closed_hits b all (place_flag away) (table_order block) (open_seek b (table_order block) seek (plain_end (end_of end))) (plain_end (end_of end))
      (rw (way_is_open block goal) at (away_closed h from.closed missed)) fuel (without all start) start 0
      (without_within all all start (λ t k. k)) (lt-ltb start 64 inside) from.begins

  unfollowed : at < 64 → start < 64 → AwayFrom block goal start away → Missed block goal away at end
      → followed_in block table ask (2 ^ at) (usable_set block end) end ≡ false
  unfolding followed_in any_of
  unfollowed h inside from missed = one (leb (scopes_cell block) 64)
    where
      places : List (NodeOf Turned)
      places = places_from block table ask (2 ^ at) (usable_set block end) end (scopes_cell block) (free_at start) start 0

      one : (t : Bool) → (elim t as (λ _. Bool) [ true ↦ any_of (λ (n : NodeOf Turned). true) places | false ↦ false ]) ≡ false
      one true = ap (any_of (λ (n : NodeOf Turned). true)) (no_places (scopes_cell block) h inside from missed)
      one false = refl

  -- what the code answers, way by way
  pub no_scope : 63 < at → false ≡ followed_by block table ask at end
  unfolding followed_by
  no_scope h = sym (rw (le-ltb at 64 (omega arith), followed_by))

  pub no_end : 8 < end → false ≡ followed_by block table ask at end
  unfolding followed_by
  no_end h = sym (rw (le-ltb end 9 (omega arith), and-false (ltb at 64), followed_by))

  followed_is : at < 64 → end < 9 → followed_by block table ask at end ≡ followed_in block table ask (2 ^ at) (usable_set block end) end
  unfolding followed_by
  followed_is h k = rw (lt-ltb at 64 h, lt-ltb end 9 k, followed_by)

  pub all_barred : at < 64 → end < 9 → start < 64 → AwayFrom block goal start away → Missed block goal away at end → false ≡ followed_by block table ask at end
  all_barred h k inside from missed = sym (followed_is h k ∙ unfollowed h inside from missed)

  pub by_walk : at < 64 → end < 9 → (scopes : ℕ) → ((u : ℕ) → has_scope scopes u ≡ eqb u at) → (states : ℕ) → states ≡ usable_set block end
      → (r : Bool) → r ≡ followed_in block table ask scopes states end → r ≡ followed_by block table ask at end
  unfolding followed_in places_from places_of
  by_walk h k scopes one states is r e =
      e ∙ ap (λ (x : ℕ). followed_in block table ask scopes x end) is ∙ ap (λ (has : ℕ → Bool). elim (leb (scopes_cell block) 64) as (λ _. Bool) [ true ↦ any_of (λ (n : NodeOf Turned). true) (hits_from b (table_order block) (λ s q. has s && has_state (usable_set block end) q) (plain_end (end_of end)) (scopes_cell block) (free_at start) start 0) | false ↦ false ])
      (fun_ext (λ u. one u ∙ sym (scopes_one at u h)))
      ∙ sym (followed_is h k)

-- no place of the empty table is away
no_place : (s q : ℕ) → place_flag (replicate 64 0) s q ≡ false
unfolding place_flag
no_place s q = one (ltb s 64) refl
  where
    one : (t : Bool) → ltb s 64 ≡ t → (elim t as (λ _. Bool) [ true ↦ has_state (get_or (replicate 64 0) s 0) q | false ↦ false ]) ≡ false
    one true t = ap (λ (x : ℕ). has_state x q) (get_or-replicate 64 s 0 0 (ltb-true s 64 t)) ∙ states_none q
    one false t = refl

pub none_away : (block : List ℕ) (goal start : ℕ) → AwayFrom block goal start (replicate 64 0)
none_away block goal start = record {
  closed = record {
    asked = λ s q h. absurd (false≢true (sym (places_none 0 s q) ∙ h));
    back = λ s q h r f m g n w l. absurd (false≢true (sym (no_place h.to r) ∙ l));
  };
  begins = no_place start 0;
}
