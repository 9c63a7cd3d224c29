-- Single cells of the automaton's tables: what a test says of them. Assumes nothing.
use Prim.Native.Nat.{ℕ, zero, suc, ◌+◌, ◌-◌, ◌*◌, ◌≤◌, ◌<◌}
use mathlib.Core.Path.{◌≡◌, refl, sym, ap, ◌∙◌, fun_ext}
use mathlib.Core.Bool.{Bool, true, false}
use mathlib.Core.List.{List}
use mathlib.Core.Logic.{⊎_elim, ◌⊎◌, inl, inr}
use native.Mathlib.Omega.{arith}
use lib.Dec.{eqb, ltb}
use lib.ListN.{length, get_or, take}
use lib.Seq.{get_or-take}
use borrow.Author.Tests.{eqb-true, eqb-false, ltb-true, ltb-false}
use Rattle.scope_graph.specs.Computed.{any_below}
use Rattle.scope_graph.proofs.Lists.{Two}
use Rattle.block.specs.Sets.{has_bit, has_state}
use Rattle.block.specs.Layout.{DELTA}
use Rattle.block.specs.Block.{next_cell}
use Rattle.block.proofs.SetLaws.{bits_none}
use Rattle.block.proofs.BlockLaws.{get_d_any, next_in_lem, next_no_state, next_no_label}
use Rattle.board.specs.Tables.{leads_into, round_flag, round_set, hopes_after, hopeful_set, usable_flag}
use Rattle.graph_table.proofs.Tests.{below_or, or_rest}

-- the next state's cell as it is read of 128 cells
pub next_at_lem : (delta : List ℕ) (q l : ℕ) → length delta ≡ 128 → q < 16 → l < 8 → get_or delta (q * 8 + l) 0 ≡ next_cell delta q l
next_at_lem delta q l e h k =
    let here : DELTA + (q * 8 + l) ≡ q * 8 + l = omega arith in
    get_d_any delta (q * 8 + l) 0 16 (omega arith) ∙ sym (next_in_lem delta q l h k ∙ ap (λ i. get_or delta i 16) here)

-- the next states are the first 128 cells of a block
pub next_first : (block : List ℕ) → next_cell (take 128 block) ≡ next_cell block
next_first block = fun_ext (λ q. fun_ext (λ l. at q l (Two (ltb q 16)) (Two (ltb l 8))))
  where
    at : (q l : ℕ) → (ltb q 16 ≡ true) ⊎ (ltb q 16 ≡ false) → (ltb l 8 ≡ true) ⊎ (ltb l 8 ≡ false)
        → next_cell (take 128 block) q l ≡ next_cell block q l
    at q l (inl e) (inl f) =
        let h : q < 16 = ltb-true q 16 e in
        let k : l < 8 = ltb-true l 8 f in
        next_in_lem (take 128 block) q l h k ∙ get_or-take 128 block (DELTA + (q * 8 + l)) 16 (omega arith) ∙ sym (next_in_lem block q l h k)
    at q l (inr e) f = let h : 16 ≤ q = ltb-false q 16 e in next_no_state (take 128 block) q l h ∙ sym (next_no_state block q l h)
    at q l (inl e) (inr f) = let h : 8 ≤ l = ltb-false l 8 f in next_no_label (take 128 block) q l h ∙ sym (next_no_label block q l h)

-- is the test met by a number below n: the greatest of them first
above_hit : (f : ℕ → Bool) (n : ℕ) → f n ≡ true → any_below f (suc n) ≡ true
unfolding any_below
above_hit f n e = rw (e, any_below)

pub above_miss : (f : ℕ → Bool) (n : ℕ) → f n ≡ false → any_below f (suc n) ≡ any_below f n
unfolding any_below
above_miss f n e = rw (e, any_below)

pub below_hit : (f : ℕ → Bool) (n : ℕ) → 0 < n → f (n - 1) ≡ true → any_below f n ≡ true
below_hit f n h e = let s : n ≡ suc (n - 1) = omega arith in ap (any_below f) s ∙ above_hit f (n - 1) e

pub below_miss : (f : ℕ → Bool) (n : ℕ) → 0 < n → f (n - 1) ≡ false → any_below f n ≡ any_below f (n - 1)
below_miss f n h e = let s : n ≡ suc (n - 1) = omega arith in ap (any_below f) s ∙ above_miss f (n - 1) e

pub below_none : (f : ℕ → Bool) (n : ℕ) → n ≤ 0 → any_below f n ≡ false
unfolding any_below
below_none f zero h = refl
below_none f (suc n) h = absurd (omega arith)

-- no state leads into the empty set
below_false : (f : ℕ → Bool) (n : ℕ) → ((k : ℕ) → f k ≡ false) → any_below f n ≡ false
unfolding any_below
below_false f zero h = refl
below_false f (suc n) h = above_miss f n (h n) ∙ below_false f n h

state_none : (q : ℕ) → has_state 0 q ≡ false
unfolding has_state
state_none q = by (ltb q 16)
  where
    by : (t : Bool) → (elim t as (λ _. Bool) [ true ↦ has_bit 0 q | false ↦ false ]) ≡ false
    by true = bits_none q
    by false = refl

pub leads_none : (next : ℕ → ℕ → ℕ) (set q : ℕ) → set ≡ 0 → leads_into next set q ≡ false
unfolding leads_into
leads_none next set q e = below_false (λ l. has_state set (next q l)) 8 (λ l. rw e (state_none (next q l)))

module _ (next : ℕ → ℕ → ℕ) (accept : ℕ) where
  pub round_accepts : (set q : ℕ) → has_state accept q ≡ true → round_flag next accept set q ≡ true
  unfolding round_flag
  round_accepts set q e = rw e

  pub round_leads : (set q : ℕ) → has_state accept q ≡ false → round_flag next accept set q ≡ leads_into next set q
  unfolding round_flag
  round_leads set q e = or_rest (has_state accept q) (leads_into next set q) e

  pub usable_stop : (hopes q end : ℕ) → end ≡ 0 → usable_flag next accept hopes q end ≡ has_state accept q
  unfolding usable_flag
  usable_stop hopes q zero h = refl
  usable_stop hopes q (suc l) h = absurd (omega arith)

  pub usable_label : (hopes q end : ℕ) → (end ≡ 0 → ⊥) → usable_flag next accept hopes q end ≡ has_state hopes (next q (end - 1))
  unfolding usable_flag
  usable_label hopes q zero h = absurd (h refl)
  usable_label hopes q (suc l) h = ap (λ n. has_state hopes (next q n)) (omega arith)

  -- once a round adds nothing, none does
  still_after : (n k : ℕ) → round_set next accept (hopes_after next accept n) ≡ hopes_after next accept n → hopes_after next accept (k + n) ≡ hopes_after next accept n
  unfolding hopes_after
  still_after n zero e = let s : 0 + n ≡ n = omega arith in ap (hopes_after next accept) s
  still_after n (suc k) e =
      let s : suc k + n ≡ suc (k + n) = omega arith in
      ap (hopes_after next accept) s ∙ ap (round_set next accept) (still_after n k e) ∙ e

  pub hopes_still : (n set : ℕ) → n ≤ 17 → set ≡ hopes_after next accept n → round_set next accept set ≡ set → set ≡ hopeful_set next accept
  unfolding hopeful_set
  hopes_still n set h is e =
      let last : 17 ≡ 17 - n + n = omega arith in
      let same : round_set next accept (hopes_after next accept n) ≡ hopes_after next accept n = ap (round_set next accept) (sym is) ∙ e ∙ is in
      is ∙ sym (ap (hopes_after next accept) last ∙ still_after n (17 - n) same)

-- cells from number i on hold no state
abbrev pub NoneFrom : List ℕ → ℕ → Type 0
NoneFrom block i = (j : ℕ) → i ≤ j → j < 128 → 16 ≤ get_or block (DELTA + j) 0

pub none_next : (block : List ℕ) (i : ℕ) → NoneFrom block (i + 1) → 16 ≤ get_or block (DELTA + i) 0 → NoneFrom block i
none_next block i so e j k few =
    ⊎_elim (λ (y : eqb j i ≡ true). let same = eqb-true j i y in rw same e)
    (λ (n : eqb j i ≡ false). let other = eqb-false j i n in so j (omega arith) few)
    (Two (eqb j i))

pub none_still : (block : List ℕ) (i n : ℕ) → 128 ≤ length block → NoneFrom block i → i ≤ n * 8 → (q l : ℕ) → n ≤ q → 16 ≤ next_cell block q l
none_still block i n size so h q l k =
    ⊎_elim
    (λ (a : q < 16). ⊎_elim
    (λ (b : l < 8).
    let e = next_in_lem block q l a b in let any = get_d_any block (DELTA + (q * 8 + l)) 16 0 (omega arith) in let z = so (q * 8 + l) (omega arith) (omega arith) in omega arith)
    (λ (b : 8 ≤ l). let e = next_no_label block q l b in omega arith)
    (below_or l 8))
    (λ (a : 16 ≤ q). let e = next_no_state block q l a in omega arith)
    (below_or q 16)
