-- A walk that takes one row for each place counts the places, if they are fewer than the most that
-- it counts. Assumes nothing.
use Prim.Native.Nat.{ℕ, ◌+◌, ◌≤◌, ◌<◌}
use mathlib.Core.Path.{◌≡◌, refl, sym, ap, ◌∙◌}
use mathlib.Core.Logic.{◌⊎◌, inl, inr}
use mathlib.Core.Bool.{Bool, true, false, false≢true}
use mathlib.Core.List.{List, [], ◌∷◌, flat_map}
use native.Mathlib.Omega.{arith}
use borrow.Author.Tests.{le-leb, ltb-true, ltb-false}
use lib.Dec.{ltb, leb}
use lib.ListN.{length}
use Rattle.scope_graph.specs.Computed.{NodeOf}
use Rattle.scope_graph.specs.Turns.{Turned}
use Rattle.block.specs.Block.{scopes_cell}
use Rattle.block.specs.Ask.{ask_start, ask_goal}
use Rattle.search.specs.Conditions.{free_at}
use Rattle.follow.specs.declared.Bounds.{Bounds}
use Rattle.follow.specs.declared.Seen.{Seen}
use Rattle.follow.specs.declared.Seen.TheVariants.{None, One}
use Rattle.follow.specs.declared.Task.TheVariants.{Place}
use Rattle.follow.specs.declared.Aim.{Aim}
use Rattle.follow.specs.Tally.{Taken, State, none, noted, is_several, is_done, take_row, take_rows}
use Rattle.follow.specs.Walk.{place_row, place_rows, places_from, rows_from, walked}
use Rattle.follow.proofs.TakeLaws.{more_on, more_off, noted_same, done_over, done_seen, take_entries, take_seen}
use Rattle.follow.proofs.TallyLaws.{rows_done}
use Rattle.beginnings.specs.Beginnings.{capped}
use Rattle.beginnings.specs.Tables.{hopes_in, places_behind}
use Rattle.beginnings.specs.Steps.{ALL_SCOPES, ENOUGH, behind}
use Rattle.beginnings.proofs.Tells.{capped_few}
use Rattle.beginnings.proofs.Start.{behind_places}

-- the same is noted of each place, so never several
abbrev Alike : Seen → Type 0
Alike seen = (seen ≡ None) ⊎ (seen ≡ One 0 0)

alike_on_lem : (seen : Seen) → Alike seen → Alike (noted seen 0 0)
unfolding noted
alike_on_lem seen (inl e) = inr (rw e)
alike_on_lem seen (inr e) = inr (rw e (noted_same 0 0 0 0 refl refl))

alike_one : (seen : Seen) → Alike seen → is_several seen ≡ false
unfolding is_several
alike_one seen (inl e) = rw e
alike_one seen (inr e) = rw e

module _ (block table ask : List ℕ) (b : Bounds) where
  abbrev rows : List (NodeOf Turned) → List Taken
  rows places = flat_map (place_rows block table ask Place []) places

  counted : (places : List (NodeOf Turned)) (st : State) → Alike st.1.seen → (take_rows b st (rows places)).1.entries < b.most
      → (take_rows b st (rows places)).1.entries ≡ st.1.entries + length places
  unfolding take_rows place_rows flat_map
  counted [] st one few = omega arith
  counted (n ∷ places) st one few = by (is_done b st.1) refl (λ a. counted places (take_row b st place_row) a few)
    where
      all : ℕ
      all = (take_rows b (take_row b st place_row) (rows places)).1.entries

      by : (d : Bool) → is_done b st.1 ≡ d → (Alike (take_row b st place_row).1.seen → all ≡ (take_row b st place_row).1.entries + length places)
          → all ≡ st.1.entries + length (n ∷ places)
      by true d ih =
          let same : all ≡ st.1.entries = ap (λ (s : State). s.1.entries) (rows_done b st.0 st.1 (place_row ∷ rows places) d) in
          let still : is_done b st.1 ≡ is_several st.1.seen = done_seen b st.1 (done_over b st.1 d) (omega (arith, few)) in
          absurd (false≢true (sym (alike_one st.1.seen one) ∙ sym still ∙ d))
      by false d ih =
          let rest = ih (rw (take_seen b st place_row d) (alike_on_lem st.1.seen one)) in
          on rest (ltb st.1.entries b.most) refl
        where
          on : all ≡ (take_row b st place_row).1.entries + length places → (t : Bool) → ltb st.1.entries b.most ≡ t
              → all ≡ st.1.entries + length (n ∷ places)
          on rest true t = omega (arith, rest, take_entries b st place_row d, more_on b.most st.1.entries (ltb-true st.1.entries b.most t))
          on rest false t =
              let past : b.most ≤ st.1.entries = ltb-false st.1.entries b.most t in
              absurd (omega (arith, few, rest, take_entries b st place_row d, more_off b.most st.1.entries past))

module _ (block table ask : List ℕ) where
  abbrev aim : ℕ → Aim
  aim hopes = record { scopes = ALL_SCOPES; states = hopes; end = 9; task = Place; bounds = record { limit = 0; kept = 0; most = ENOUGH } }

  abbrev all : ℕ
  all = length (places_behind block (ask_goal ask) (scopes_cell block) (free_at (ask_start ask)) (ask_start ask) 0)

  -- the walk from a query's start
  pub few_counted : (hopes : ℕ) (out : List ℕ) (st : State) → hopes ≡ hopes_in block → ask_start ask < 64 → scopes_cell block ≤ 64
      → st ≡ walked block table ask (aim hopes) (out, none) → st.1.entries < ENOUGH → st.1.entries ≡ all
  unfolding walked rows_from places_from behind
  few_counted hopes out st h start few is less =
      let within : leb (scopes_cell block) 64 ≡ true = le-leb (scopes_cell block) 64 few in
      let taken : st ≡ take_rows (aim hopes).bounds (out, none) (rows_from block table ask (aim hopes) [] (scopes_cell block) (free_at (ask_start ask)) (ask_start ask) 0) = is ∙ rw (within, walked) in
      let places : ℕ = length (places_from block table ask ALL_SCOPES hopes 9 (scopes_cell block) (free_at (ask_start ask)) (ask_start ask) 0) in
      let none_before : 0 + places ≡ places = omega arith in
      ap (λ (s : State). s.1.entries) taken
      ∙ counted block table ask (aim hopes).bounds (places_from block table ask ALL_SCOPES hopes 9 (scopes_cell block) (free_at (ask_start ask)) (ask_start ask) 0) (out, none) (inl refl) (rw taken at less)
      ∙ none_before
      ∙ rw h (behind_places block ask (scopes_cell block) (free_at (ask_start ask)) (ask_start ask) 0 start)

-- so many are below the cap
pub enough_few : (r n : ℕ) → r < ENOUGH → (r < ENOUGH → r ≡ n) → r ≡ capped n
enough_few r n h told = let e = told h in e ∙ sym (capped_few n (omega (arith, e, h)))
