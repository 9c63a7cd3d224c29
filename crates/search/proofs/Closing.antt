-- A table that lacks nothing an edge leads from is closed, and so is the table of all places; and
-- what the test for that goes by. Assumes nothing.
use mathlib.Core.Path.{◌≡◌, refl, sym, ◌∙◌, fun_ext, subst}
use mathlib.Core.Logic.{◌⊎◌, inl, inr, ⊎_elim}
use mathlib.Core.Bool.{Bool, true, false, not, ◌&&◌, and-false, false≢true}
use mathlib.Core.List.Memᴰ
use mathlib.Core.List.{List}
use Prim.Native.Nat.{ℕ, suc, ◌+◌, ◌-◌, ◌*◌, ◌%◌, ◌^◌, ◌≤◌, ◌<◌}
use native.Mathlib.Omega.{arith}
use native.Mathlib.Numerals.{add-one}
use borrow.Author.Tests.{ltb-true, ltb-false, eq-eqb}
use lib.Bits.{bit_and, bit_or, bit_xor, and_mask}
use lib.Dec.{ltb}
use lib.ListN.{get_or, replicate}
use lib.Pow.{shl_exact}
use Rattle.scope_graph.specs.Language.{◌∈◌}
use Rattle.scope_graph.specs.Path.{HopOf}
use Rattle.scope_graph.specs.Turns.{Turned}
use Rattle.scope_graph.proofs.Lists.{Two, and_right}
use Rattle.block.specs.Sets.{has_bit, has_scope, has_state, places_of}
use Rattle.block.specs.Block.{Bounds, next_cell, accept_set, states_cell, pair_flag, first_edge, edge_cell, hop_of, hops_on}
use Rattle.block.proofs.SetLaws.{bits_one, bits_and, one_shifted, state_in, scope_past, scope_below, scopes_all, state_below, state_past, states_or, states_less, places_in_lem, places_scope, places_state, places_none}
use Rattle.block.proofs.BlockLaws.{next_no_state, state_cell_lem, step_state, on_none, on_more, block_hops_in}
use Rattle.search.specs.Live.{Closed, any_way}
use Rattle.search.specs.Tables.{place_flag, table_order, end_number, table_board}
use Rattle.search.specs.Conditions.{way_of}
use Rattle.search.specs.Steps.{lacks, HopClosed, ScopeClosed, HopsClosed, Leading}
use Rattle.search.proofs.Cells.{place_in, place_empty, place_no_state, place_all, states_within}

-- the set of the first n states, as the machine makes it
full_bits : (n q : ℕ) → q < n → n < 64 → has_bit (2 ^ n - 1) q ≡ true
full_bits n q h few =
    let same : bit_and (1 * 2 ^ q) (2 ^ n - 1) ≡ 1 * 2 ^ q = and_mask (1 * 2 ^ q) n ∙ shl_exact 1 q n (omega arith) (omega arith) in
    let one : 1 * 2 ^ q ≡ 2 ^ q = omega arith in
    let own : has_bit (2 ^ q) q ≡ true = bits_one q q (omega arith) (omega arith) ∙ eq-eqb q q refl in
    and_right (has_bit (2 ^ q) q) (has_bit (2 ^ n - 1) q)
    (sym (bits_and (2 ^ q) (2 ^ n - 1) q) ∙ rw (rw one at same) own)

pub states_first : (n q : ℕ) → n < 16 → q < n → has_state (1 * 2 ^ n % 18446744073709551616 - 1) q ≡ true
states_first n q few h =
    rw (one_shifted n (omega arith)) (state_in (2 ^ n - 1) q (omega arith) ∙ full_bits n q h (omega arith))

-- no label leads on from a state outside a set that has all states below the block's count
pub leading_below : (block : List ℕ) (full : ℕ) → Bounds block → ((q : ℕ) → q < 16 → q < states_cell block → has_state full q ≡ true)
    → Leading block full
leading_below block full bounds has q l out = at (Two (ltb q 16)) (Two (ltb q (states_cell block)))
  where
    at : (ltb q 16 ≡ true) ⊎ (ltb q 16 ≡ false) → (ltb q (states_cell block) ≡ true) ⊎ (ltb q (states_cell block) ≡ false)
        → 16 ≤ next_cell block q l
    at (inr e) f = rw (next_no_state block q l (ltb-false q 16 e)) (omega arith)
    at (inl e) (inr f) = bounds.states q l (ltb-false q (states_cell block) f)
    at (inl e) (inl f) = absurd (false≢true (sym out ∙ has q (ltb-true q 16 e) (ltb-true q (states_cell block) f)))

-- a state that is read at its place in a table of 16 leads where it leads, and one past the table
-- nowhere
pub leads_not : (block : List ℕ) (set q l : ℕ) → has_state set (next_cell block (q % 16) l) ≡ false → has_state set (next_cell block q l) ≡ false
leads_not block set q l h = at (Two (ltb q 16))
  where
    at : (ltb q 16 ≡ true) ⊎ (ltb q 16 ≡ false) → has_state set (next_cell block q l) ≡ false
    at (inl e) =
        let below : q < 16 = ltb-true q 16 e in
        let same : q % 16 ≡ q = omega arith in
        rw same at h
    at (inr e) = rw (next_no_state block q l (ltb-false q 16 e)) (state_past set 16 (omega arith))

-- ways: a step that stopping cuts is none, and the empty set cuts no step
pub way_cut : (block : List ℕ) (cutting s q : ℕ) (t : Turned) → has_scope cutting s ≡ true → pair_flag block 0 (t.label + 1) ≡ true
    → has_state (accept_set block) q ≡ true → way_of block cutting s q t ≡ false
unfolding way_of table_order end_number
way_cut block cutting s q t h k m =
    let next : pair_flag block 0 (suc t.label) ≡ true = rw add-one at k in
    rw (places_in_lem cutting (accept_set block) s q h m, next, way_of)

pub way_any : (block : List ℕ) (goal : ℕ) → way_of block 0 ≡ any_way (table_board block goal)
unfolding way_of any_way
way_any block goal = fun_ext (λ s. fun_ext (λ q. fun_ext (λ t. rw (places_none (accept_set block) s q, way_of))))

-- all scopes are free
pub all_free : has_scope 18446744073709551615 ≡ (λ t. ltb t 64)
all_free = fun_ext (λ t. at t (Two (ltb t 64)))
  where
    at : (t : ℕ) → (ltb t 64 ≡ true) ⊎ (ltb t 64 ≡ false) → has_scope 18446744073709551615 t ≡ ltb t 64
    at t (inl e) = scopes_all t (ltb-true t 64 e) ∙ sym e
    at t (inr e) = scope_past 18446744073709551615 t (ltb-false t 64 e) ∙ sym e

-- one state at a hop's scope: held already, cut, without a step on, or with one to a place that is
-- not held
module _ (block : List ℕ) (way : ℕ → ℕ → Turned → Bool) (live : ℕ → ℕ → Bool) (s q : ℕ) (h : HopOf Turned) where
  lacks_held : live s q ≡ true → lacks block way live s h q ≡ false
  unfolding lacks
  lacks_held e = rw (e, lacks)

  lacks_way : way s q h.step ≡ false → lacks block way live s h q ≡ false
  unfolding lacks
  lacks_way e = rw (e, and-false (live h.to (next_cell block q h.step.label)), and-false (not (live s q)), lacks)

  lacks_no : live h.to (next_cell block q h.step.label) ≡ false → lacks block way live s h q ≡ false
  unfolding lacks
  lacks_no e = rw (e, and-false (not (live s q)), lacks)

module _ (block table : List ℕ) (way : ℕ → ℕ → Turned → Bool) (free : ℕ → Bool) (full : ℕ) (leads : Leading block full) (s : ℕ) (below : s < 64) where
  -- a state from which no label leads on
  lacks_idle : (h : HopOf Turned) (q : ℕ) → has_state full q ≡ false → lacks block way (place_flag table) s h q ≡ false
  lacks_idle h q e =
      lacks_no block way (place_flag table) s q h (place_no_state table h.to (next_cell block q h.step.label) (leads q h.step.label e))

  -- nothing is lacked by a scope that holds all states that matter
  pub full_closed : bit_or (get_or table s 0) full ≡ get_or table s 0 → ScopeClosed block way free (place_flag table) s
  full_closed e h m f q b = at (Two (has_state full q))
    where
      at : (has_state full q ≡ true) ⊎ (has_state full q ≡ false) → lacks block way (place_flag table) s h q ≡ false
      at (inl k) =
          lacks_held block way (place_flag table) s q h (place_in table s q below ∙ states_within (get_or table s 0) full q e k)
      at (inr k) = lacks_idle h q k

  -- nor by a hop to a scope that holds no place
  pub empty_closed : (h : HopOf Turned) → get_or table h.to 0 ≡ 0 → HopClosed block way free (place_flag table) s h
  empty_closed h e f q b =
      lacks_no block way (place_flag table) s q h (place_empty table h.to (next_cell block q h.step.label) e)

  -- nor by one that leads to no place held from the states that matter and are neither held nor cut
  pub hop_closed : (h : HopOf Turned) (bar : ℕ) → h.to < 64 → ((q : ℕ) → has_state bar q ≡ true → way s q h.step ≡ false)
      → ((q : ℕ) → has_state (bit_xor full (bit_and full (bit_or (get_or table s 0) bar))) q ≡ true
      → has_state (get_or table h.to 0) (next_cell block q h.step.label) ≡ false)
      → HopClosed block way free (place_flag table) s h
  hop_closed h bar inside cut none f q b = at (Two (has_state full q)) (Two (has_state (get_or table s 0) q)) (Two (has_state bar q))
    where
      at : (has_state full q ≡ true) ⊎ (has_state full q ≡ false) → (has_state (get_or table s 0) q ≡ true) ⊎ (has_state (get_or table s 0) q ≡ false)
          → (has_state bar q ≡ true) ⊎ (has_state bar q ≡ false) → lacks block way (place_flag table) s h q ≡ false
      at (inr k) u v = lacks_idle h q k
      at (inl k) (inl u) v = lacks_held block way (place_flag table) s q h (place_in table s q below ∙ u)
      at (inl k) (inr u) (inl v) = lacks_way block way (place_flag table) s q h (cut q v)
      at (inl k) (inr u) (inr v) =
          let have : has_state (bit_or (get_or table s 0) bar) q ≡ false = states_or (get_or table s 0) bar q ∙ rw (u, v) in
          let left : has_state (bit_xor full (bit_and full (bit_or (get_or table s 0) bar))) q ≡ true =
          states_less full (bit_or (get_or table s 0) bar) q ∙ rw (k, have)
          in
          lacks_no block way (place_flag table) s q h (place_in table h.to (next_cell block q h.step.label) inside ∙ none q left)

-- the edges of a scope from number p on
module _ (block : List ℕ) (way : ℕ → ℕ → Turned → Bool) (free : ℕ → Bool) (live : ℕ → ℕ → Bool) (s : ℕ) where
  abbrev pub OnClosed : ℕ → Type 0
  OnClosed p = (h : HopOf Turned) → h ∈ hops_on block s p → HopClosed block way free live s h

  pub on_closed_all : s < 64 → OnClosed (first_edge block s) → ScopeClosed block way free live s
  on_closed_all below on h m = on h (rw (block_hops_in block s below) at m)

  pub on_closed_none : (p : ℕ) → first_edge block (suc s) ≤ p → OnClosed p
  on_closed_none p past h m = absurd (Memᴰ.not-nil (rw (on_none block s p past) at m))

  pub on_closed_more : (p : ℕ) → p < first_edge block (suc s) → HopClosed block way free live s (hop_of (edge_cell block p))
      → OnClosed (p + 1) → OnClosed p
  on_closed_more p more here rest h m =
      ⊎_elim (λ e. subst (λ (z : HopOf Turned). HopClosed block way free live s z) (sym e) here)
      (λ k. rest h (rw (add-one p) k)) (Memᴰ.cases_cons (rw (on_more block s p more) at m))

lacks_back : (n y w : Bool) → (not n && (y && w)) ≡ false → y ≡ true → w ≡ true → n ≡ true
lacks_back true y w h k m = refl
lacks_back false y w h k m = absurd (false≢true (sym h ∙ rw (k, m)))

-- a table that holds what is asked for and lacks nothing is closed
module _ (block : List ℕ) (goal : ℕ) (seek : ℕ → ℕ → Bool) (way : ℕ → ℕ → Turned → Bool) (free : ℕ → Bool) where
  pub hops_closed : (live : ℕ → ℕ → Bool) → ((s q : ℕ) → seek s q ≡ true → live s q ≡ true) → HopsClosed block way free live
      → Closed (table_board block goal) seek way free live
  unfolding table_board lacks
  hops_closed live asked closed = record {
    asked = asked;
    back = λ s q h r own m f e w k.
        lacks_back (live s q) (live h.to (next_cell block q h.step.label)) (way s q h.step)
        (closed s own h m f q (step_state block q h.step.label r e)) (rw (state_cell_lem (next_cell block q h.step.label) r e) k) w;
  }

-- the table of all places is closed
pub all_closed : (block : List ℕ) (goal scopes states free n : ℕ) (way : ℕ → ℕ → Turned → Bool) → 64 ≤ n
    → Closed (table_board block goal) (places_of scopes states) way (has_scope free) (place_flag (replicate n 65535))
unfolding table_board
all_closed block goal scopes states free n way size = record {
  asked = λ s q h.
      place_all n s q size (scope_below scopes s (places_scope scopes states s q h)) (state_below states q (places_state scopes states s q h));
  back = λ s q h r own m f e w k. place_all n s q size (scope_below free s own) (step_state block q h.step.label r e);
}

-- the same closedness by other names: with all scopes free, and by any step where no scope cuts
module _ (block : List ℕ) (goal : ℕ) (seek live : ℕ → ℕ → Bool) where
  pub closed_all_free : (way : ℕ → ℕ → Turned → Bool) → Closed (table_board block goal) seek way (has_scope 18446744073709551615) live
      → Closed (table_board block goal) seek way (λ t. ltb t 64) live
  closed_all_free way c = subst (λ (free : ℕ → Bool). Closed (table_board block goal) seek way free live) all_free c

  pub closed_any_way : (free : ℕ → Bool) → Closed (table_board block goal) seek (way_of block 0) free live
      → Closed (table_board block goal) seek (any_way (table_board block goal)) free live
  closed_any_way free c = subst (λ (way : ℕ → ℕ → Turned → Bool). Closed (table_board block goal) seek way free live) (way_any block goal) c
