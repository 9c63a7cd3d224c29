-- Laws of the whole walk from a query's start, and of the question whether a place is followed.
-- Assumes nothing.
use mathlib.Core.Path.{◌≡◌, refl, sym, ap, ◌∙◌, fun_ext}
use mathlib.Core.Bool.{Bool, true, false, not, ◌&&◌}
use mathlib.Core.Logic.{◌⊎◌, inl, inr}
use mathlib.Core.List.{List, [], ◌∷◌, flat_map}
use Prim.Native.Nat.{ℕ, suc, ◌-◌, ◌≤◌, ◌<◌}
use native.Mathlib.Omega.{arith}
use borrow.Author.Tests.{lt-leb, le-leb, ltb-true, ltb-false, ne_eqb}
use lib.Dec.{eqb, ltb, leb}
use Rattle.scope_graph.specs.Rows.{any_of}
use Rattle.scope_graph.specs.Computed.{NodeOf}
use Rattle.scope_graph.specs.Turns.{Turned}
use Rattle.scope_graph.proofs.Lists.{Two}
use Rattle.block.specs.Sets.{has_scope}
use Rattle.block.specs.Block.{scopes_cell}
use Rattle.block.specs.Ask.{ask_start}
use Rattle.block.proofs.SetLaws.{scopes_all, scope_past}
use Rattle.search.specs.Board.{without, hits_from}
use Rattle.search.specs.Conditions.{free_at}
use Rattle.search.proofs.Leads.{Taken}
use Rattle.follow.specs.declared.Task.TheVariants.{Place}
use Rattle.follow.specs.declared.Bounds.{Bounds}
use Rattle.follow.specs.declared.Aim.{Aim}
use Rattle.follow.specs.Tally.{State, none, take_rows}
use Rattle.follow.specs.Walk.{path_hops, place_row, place_rows, places_from, rows_from, walked, followed_in}
use Rattle.follow.proofs.TallyLaws.{rows_some}

-- the scopes that are free when a query begins, as the code makes them
pub start_free : (ask : List ℕ) (s r : ℕ) → s ≡ ask_start ask → Taken 18446744073709551615 s r → has_scope r ≡ free_at (ask_start ask)
unfolding free_at without
start_free ask s r e taken = rw (← e) (fun_ext (λ u. taken u ∙ ap (λ (b : Bool). b && not (eqb u s)) (all u (Two (ltb u 64)))))
  where
    all : (u : ℕ) → (ltb u 64 ≡ true) ⊎ (ltb u 64 ≡ false) → has_scope 18446744073709551615 u ≡ ltb u 64
    all u (inl h) = scopes_all u (ltb-true u 64 h) ∙ sym h
    all u (inr h) = scope_past 18446744073709551615 u (ltb-false u 64 h) ∙ sym h

module _ (block table ask : List ℕ) (aim : Aim) (st : State) where
  -- more scopes than a file may have, and none
  pub walked_over : 64 < scopes_cell block → st ≡ walked block table ask aim st
  unfolding walked
  walked_over h = sym (rw (lt-leb (scopes_cell block) 64 h, walked))

  pub walked_none : scopes_cell block ≡ 0 → st ≡ walked block table ask aim st
  unfolding walked rows_from places_from hits_from take_rows flat_map
  walked_none h =
      let within : leb (scopes_cell block) 64 ≡ true = le-leb (scopes_cell block) 64 (omega arith) in
      sym (rw (within, walked)
      (ap (λ (k : ℕ). take_rows aim.bounds st (rows_from block table ask aim [] k (free_at (ask_start ask)) (ask_start ask) 0)) h))

  -- else the walk from the start's node, behind no hop
  pub walked_all : (scopes start free : ℕ) (hops : List ℕ) → scopes ≡ scopes_cell block → scopes ≤ 64 → (scopes ≡ 0 → ⊥)
      → start ≡ ask_start ask → Taken 18446744073709551615 start free
      → take_rows aim.bounds st
      (rows_from block table ask aim (path_hops (record { hops = hops; depth = 0 })) (suc (scopes - 1)) (has_scope free) start 0)
      ≡ walked block table ask aim st
  unfolding walked path_hops
  walked_all scopes start free hops is few some at_start_lem taken =
      let one : suc (scopes - 1) ≡ scopes_cell block = omega arith in
      let within : leb (scopes_cell block) 64 ≡ true = le-leb (scopes_cell block) 64 (omega arith) in
      rw (one, start_free ask start free at_start_lem taken, at_start_lem, within, walked)

-- the question of its own: places are counted up to one
module _ (block table ask : List ℕ) where
  any_place_lem : (b : Bounds) (out : List ℕ) → b.most ≡ 1 → (places : List (NodeOf Turned))
      → not (eqb (take_rows b (out, none) (flat_map (place_rows block table ask Place []) places)).1.entries 0)
      ≡ any_of (λ n. true) places
  unfolding place_rows flat_map any_of take_rows
  any_place_lem b out one [] = refl
  any_place_lem b out one (n ∷ places) =
      let some = rows_some b (omega arith) out place_row (flat_map (place_rows block table ask Place []) places) in
      rw (ne_eqb (take_rows b (out, none) (place_row ∷ flat_map (place_rows block table ask Place []) places)).1.entries 0 (λ z. omega arith))

  module _ (scopes states e : ℕ) where
    abbrev aim : Aim
    aim = record { scopes = scopes; states = states; end = e; task = Place; bounds = record { limit = 0; kept = 0; most = 1 } }

    pub followed_is : (out : List ℕ) (st : State) → st ≡ walked block table ask aim (out, none)
        → not (eqb st.1.entries 0) ≡ followed_in block table ask scopes states e
    unfolding walked followed_in rows_from
    followed_is out st is = ap (λ (s : State). not (eqb s.1.entries 0)) is ∙ at (leb (scopes_cell block) 64) refl
      where
        at : (b : Bool) → leb (scopes_cell block) 64 ≡ b
            → not (eqb (walked block table ask aim (out, none)).1.entries 0) ≡ followed_in block table ask scopes states e
        at true h =
            rw (h, walked, followed_in)
            (any_place_lem aim.bounds out refl (places_from block table ask scopes states e (scopes_cell block) (free_at (ask_start ask)) (ask_start ask) 0))
        at false h = rw (h, walked, followed_in)
