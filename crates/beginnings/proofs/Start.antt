-- What is counted from a query's start: the file's scopes, the states that lead on, and the places
-- as the board has them. Assumes nothing.
use Prim.Native.Nat.{ℕ, zero, suc, ◌+◌, ◌-◌, ◌*◌, ◌/◌, ◌%◌, ◌^◌, ◌≤◌, ◌<◌}
use mathlib.Core.Path.{◌≡◌, refl, sym, ap, ap₂, ◌∙◌, subst, fun_ext}
use mathlib.Core.Logic.{◌⊎◌, inl, inr}
use mathlib.Core.Bool.{Bool, true, false, not, ◌&&◌}
use mathlib.Core.Option.{Option, some, none}
use mathlib.Core.List.{List, [], ◌∷◌, ◌++◌, map}
use native.Mathlib.Omega.{arith}
use borrow.Author.Tests.{lt-ltb, ltb-true, ltb-false}
use lib.Dec.{eqb, ltb}
use lib.ListN.{length, take}
use lib.Seq.{get_or-take}
use lib.Pow.{shr_le, shr-shr}
use Rattle.scope_graph.specs.Language.{by}
use Rattle.scope_graph.specs.Path.{HopOf}
use Rattle.scope_graph.specs.Turns.{Turned}
use Rattle.scope_graph.specs.Computed.{NodeOf}
use Rattle.scope_graph.proofs.Lists.{Two, and_left, and_right, and_both}
use Rattle.block.specs.Sets.{has_bit, has_scope, has_state, places_of}
use Rattle.block.specs.Layout.{DELTA}
use Rattle.block.specs.Block.{next_cell, scopes_cell, block_hops}
use Rattle.block.specs.Ask.{ask_start, ask_goal}
use Rattle.block.proofs.SetLaws.{bits_all, scope_in, scope_past, scopes_all}
use Rattle.block.proofs.BlockLaws.{next_in_lem, next_no_state, next_no_label, hops_small}
use Rattle.search.specs.Board.{Board, without, cut_here, node_at, after, own_hit, hop_hits, hits_from}
use Rattle.search.specs.Tables.{place_flag, table_order, table_board}
use Rattle.search.specs.Live.{Closed}
use Rattle.search.specs.Conditions.{free_at, Inside, LiveAt, WorthAt}
use Rattle.search.specs.declared.Node.{Node}
use Rattle.search.proofs.Closed.{closed_less}
use Rattle.search.proofs.Leads.{Taken, taken_is}
use Rattle.search.proofs.RulesLists.{flat_map_same}
use Rattle.follow.specs.Walk.{places_from}
use Rattle.beginnings.specs.Tables.{hopes_in, past_ends, places_behind, InScopes}
use Rattle.beginnings.specs.Steps.{ALL_SCOPES, Few, behind}
use Rattle.beginnings.proofs.Few.{few_below}
use Rattle.beginnings.proofs.Narrow.{Enclosed}
use Rattle.beginnings.proofs.Recall.{behind_narrow}

-- the scopes below n, as the machine shifts them
pub scopes_first : (n t : ℕ) → n ≤ 64 → has_scope (ALL_SCOPES / 2 ^ (64 - n)) t ≡ ltb t n
unfolding has_bit
scopes_first n t few = at (Two (ltb t 64)) (Two (ltb t n))
  where
    bit : (u : ℕ) → u ≡ 64 - n + t → has_bit (ALL_SCOPES / 2 ^ (64 - n)) t ≡ has_bit ALL_SCOPES u
    bit u e = ap (λ (x : ℕ). eqb (x % 2) 1) (shr-shr ALL_SCOPES (64 - n) t ∙ ap (λ (k : ℕ). ALL_SCOPES / 2 ^ k) (sym e))

    past : (j : ℕ) → has_bit ALL_SCOPES (64 + j) ≡ false
    past j =
        let none : 0 / 2 ^ j ≡ 0 = omega (arith, shr_le 0 j) in
        ap (λ (x : ℕ). eqb (x % 2) 1) (sym (shr-shr ALL_SCOPES 64 j) ∙ none)

    at : (ltb t 64 ≡ true) ⊎ (ltb t 64 ≡ false) → (ltb t n ≡ true) ⊎ (ltb t n ≡ false) → has_scope (ALL_SCOPES / 2 ^ (64 - n)) t ≡ ltb t n
    at (inl e) (inl f) =
        let h : t < 64 = ltb-true t 64 e in
        let k : t < n = ltb-true t n f in
        scope_in (ALL_SCOPES / 2 ^ (64 - n)) t h ∙ bit (64 - n + t) refl ∙ bits_all (64 - n + t) (omega arith) ∙ sym f
    at (inl e) (inr f) =
        let h : t < 64 = ltb-true t 64 e in
        let k : n ≤ t = ltb-false t n f in
        scope_in (ALL_SCOPES / 2 ^ (64 - n)) t h ∙ bit (64 + (t - n)) (omega arith) ∙ past (t - n) ∙ sym f
    at (inr e) (inl f) =
        let h : 64 ≤ t = ltb-false t 64 e in
        let k : t < n = ltb-true t n f in absurd (omega arith)
    at (inr e) (inr f) = let h : 64 ≤ t = ltb-false t 64 e in scope_past (ALL_SCOPES / 2 ^ (64 - n)) t h ∙ sym f

-- what is asked for only matters at scopes of the tables
module _ (block : List ℕ) (goal : ℕ) (seek part : ℕ → ℕ → Bool) (same : (s q : ℕ) → s < 64 → seek s q ≡ part s q) where
  abbrev b : Board Turned
  b = table_board block goal

  hits_seek : (fuel : ℕ) (free : ℕ → Bool) (s q : ℕ) → s < 64
      → hits_from b (table_order block) seek past_ends fuel free s q ≡ hits_from b (table_order block) part past_ends fuel free s q
  unfolding hits_from own_hit hop_hits table_board
  hits_seek zero free s q h = refl
  hits_seek (suc fuel) free s q h =
      ap₂ (λ (x y : List (NodeOf Turned)). x ++ y)
      (ap (λ (x : Bool). elim (x && not (cut_here b (table_order block) fuel free s q past_ends)) as (λ _. List (NodeOf Turned)) [ true ↦ node_at b s q ∷ [] | false ↦ [] ]) (same s q h))
      (flat_map_same _ _ (block_hops block s)
      (λ k m. hop k (hops_small block s k m).0 (cut_here b (table_order block) fuel free s q (by k.step)) (free k.to) (b.next q k.step)
      (λ r. hits_seek fuel (without free k.to) k.to r (hops_small block s k m).0)))
    where
      hits : (ℕ → ℕ → Bool) → HopOf Turned → Bool → Bool → Option ℕ → List (NodeOf Turned)
      hits f k x y o =
          elim x as (λ _. List (NodeOf Turned)) [
            | true ↦ []
            | false ↦ elim y as (λ _. List (NodeOf Turned)) [
              | false ↦ []
              | true ↦ elim o as (λ _. List (NodeOf Turned)) [
                | none ↦ []
                | some r ↦ map (after b k) (hits_from b (table_order block) f past_ends fuel (without free k.to) k.to r)
              ]
            ]
          ]

      hop : (k : HopOf Turned) → k.to < 64 → (x y : Bool) (o : Option ℕ)
          → ((r : ℕ) → hits_from b (table_order block) seek past_ends fuel (without free k.to) k.to r
          ≡ hits_from b (table_order block) part past_ends fuel (without free k.to) k.to r)
          → hits seek k x y o ≡ hits part k x y o
      hop k h true y o ih = refl
      hop k h false false o ih = refl
      hop k h false true none ih = refl
      hop k h false true (some r) ih = ap (map (after b k)) (ih r)

pub behind_places : (block ask : List ℕ) (fuel : ℕ) (free : ℕ → Bool) (s q : ℕ) → s < 64
    → behind block ask fuel free s q ≡ length (places_behind block (ask_goal ask) fuel free s q)
unfolding behind places_from places_behind places_of
behind_places block ask fuel free s q h =
    ap length (hits_seek block (ask_goal ask) (places_of ALL_SCOPES (hopes_in block)) (λ t r. has_state (hopes_in block) r)
    (λ t r k. ap (λ (x : Bool). x && has_state (hopes_in block) r) (scopes_all t k)) fuel free s q h)

-- a query's start, as the code has it: the free scopes are the file's but the start
module _ (block ask : List ℕ) (scopes start first free : ℕ) (all : scopes ≡ scopes_cell block) (own : start ≡ ask_start ask) (few : scopes ≤ 64)
    (inside : start < scopes) (below : (t : ℕ) → has_scope first t ≡ ltb t scopes) (taken : Taken first start free) where
  free_is : has_scope free ≡ without (λ t. ltb t scopes) start
  free_is = taken_is first start free taken ∙ ap (λ (f : ℕ → Bool). without f start) (fun_ext below)

  start_few : Few (scopes - 1) (has_scope free)
  unfolding Few
  start_few =
      let one : scopes ≡ suc (scopes - 1) = omega arith in
      rw free_is (subst (λ (n : ℕ). Few n (λ t. ltb t scopes)) one (few_below scopes) start (lt-ltb start scopes inside))

  in_free : (t : ℕ) → has_scope free t ≡ true → free_at start t ≡ true
  unfolding free_at without
  in_free t h =
      let both : (has_scope first t && not (eqb t start)) ≡ true = sym (taken t) ∙ h in
      let in_file : t < scopes = ltb-true t scopes (sym (below t) ∙ and_left (has_scope first t) _ both) in
      and_both (ltb t 64) _ (lt-ltb t 64 (omega arith)) (and_right (has_scope first t) _ both)

  -- a table for the free scopes of any file serves for those of this one
  start_less : (seek : ℕ → ℕ → Bool) (way : ℕ → ℕ → Turned → Bool) (table : List ℕ)
      → Closed (table_board block (ask_goal ask)) seek way (free_at (ask_start ask)) (place_flag table)
      → Closed (table_board block (ask_goal ask)) seek way (has_scope free) (place_flag table)
  start_less seek way table =
      closed_less (table_board block (ask_goal ask)) seek way (has_scope free) (free_at (ask_start ask)) (place_flag table) (λ t h. rw (← own) (in_free t h))

  start_live : LiveAt block (ask_goal ask) (free_at (ask_start ask)) ask → LiveAt block (ask_goal ask) (has_scope free) ask
  start_live = start_less _ _ ask

  start_worth : (onward : List ℕ) → WorthAt block (ask_goal ask) ALL_SCOPES (hopes_in block) (free_at (ask_start ask)) onward
      → WorthAt block (ask_goal ask) ALL_SCOPES (hopes_in block) (has_scope free) onward
  start_worth onward = start_less _ _ onward

  module _ (stays : InScopes block) where
    back : (t : ℕ) → t < scopes → free_at start t ≡ true → has_scope free t ≡ true
    unfolding free_at without
    back t h k = taken t ∙ and_both (has_scope first t) _ (below t ∙ lt-ltb t scopes h) (and_right (ltb t 64) _ k)

    enclosed : Enclosed (table_board block (ask_goal ask)) (free_at start) (has_scope free) start
    unfolding table_board
    enclosed = record {
      less = in_free;
      first = λ h m e. back h.to (omega (arith, stays start h m)) e;
      on = λ u h o m e. back h.to (omega (arith, stays u h m)) e;
    }

    start_count : behind block ask (suc (scopes - 1)) (has_scope free) start 0
        ≡ length (places_behind block (ask_goal ask) (scopes_cell block) (free_at (ask_start ask)) (ask_start ask) 0)
    start_count =
        let one : suc (scopes - 1) ≡ scopes = omega arith in
        sym (behind_narrow block ask ask (scopes - 1) (scopes - 1) (free_at start) (has_scope free) start 0 start_few start_few enclosed)
        ∙ behind_places block ask (suc (scopes - 1)) (free_at start) start 0 (omega arith)
        ∙ rw (← all, ← own) (ap (λ (n : ℕ). length (places_behind block (ask_goal ask) n (free_at start) start 0)) one)

-- the node that the code begins with: what is asked there, and what lies behind it
pub record AtStart (block ask onward : List ℕ) (n : Node) : Type 0 where
  pub live : LiveAt block (ask_goal ask) (has_scope n.free) ask
  pub worth : WorthAt block (ask_goal ask) ALL_SCOPES (hopes_in block) (has_scope n.free) onward
  pub inside : Inside n
  pub few : Few n.left (has_scope n.free)
  pub count : behind block ask (suc n.left) (has_scope n.free) n.scope n.state
      ≡ length (places_behind block (ask_goal ask) (scopes_cell block) (free_at (ask_start ask)) (ask_start ask) 0)

pub at_start_lem : (block ask onward : List ℕ) (scopes start first free : ℕ) → scopes ≡ scopes_cell block → start ≡ ask_start ask
    → ((t : ℕ) → has_scope first t ≡ ltb t scopes) → Taken first start free
    → LiveAt block (ask_goal ask) (free_at (ask_start ask)) ask → ask_start ask < scopes_cell block → scopes_cell block ≤ 64 → InScopes block
    → WorthAt block (ask_goal ask) ALL_SCOPES (hopes_in block) (free_at (ask_start ask)) onward
    → AtStart block ask onward (record { free = free; left = scopes - 1; scope = start; state = 0 })
at_start_lem block ask onward scopes start first free all own below taken live begins most stays worth =
    let few : scopes ≤ 64 = omega arith in
    let inside : start < scopes = omega arith in
    record {
      live = start_live block ask scopes start first free all own few inside below taken live;
      worth = start_worth block ask scopes start first free all own few inside below taken onward worth;
      inside = record { scope = omega arith; state = omega arith };
      few = start_few block ask scopes start first free all own few inside below taken;
      count = start_count block ask scopes start first free all own few inside below taken stays;
    }
