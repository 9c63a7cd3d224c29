-- Laws of tables of places: what a table holds, and what a table that grows keeps. Assumes nothing.
use mathlib.Core.Path.{◌≡◌, refl, sym, ap, ◌∙◌, fun_ext}
use mathlib.Core.Logic.{◌⊎◌, inl, inr}
use mathlib.Core.Bool.{Bool, true, false, ◌||◌}
use mathlib.Core.List.{List}
use Prim.Native.Nat.{ℕ, ◌*◌, ◌≤◌, ◌<◌}
use native.Mathlib.Nat.{mul-le-mul_right}
use native.Mathlib.Omega.{arith}
use borrow.Author.Tests.{lt-ltb, le-ltb, ltb-true, ltb-false, eqb-true, eqb-false}
use lib.Bits.{bit_or}
use lib.Dec.{eqb, ltb}
use lib.ListN.{length, get_or, set, replicate, get_or-replicate}
use lib.Seq.{get_or-set_same, get_or-set_other}
use Rattle.scope_graph.proofs.Lists.{Two}
use Rattle.block.specs.Sets.{has_state}
use Rattle.block.proofs.SetLaws.{state_past, state_below, states_none, states_all, states_or, states_left}
use Rattle.search.specs.Tables.{place_flag}
use Rattle.search.specs.Steps.{Kept}

-- a union holds what its second set does
or_right : (x : Bool) → (x || true) ≡ true
or_right true = refl
or_right false = refl

states_right : (a c q : ℕ) → has_state c q ≡ true → has_state (bit_or a c) q ≡ true
states_right a c q h = states_or a c q ∙ rw h (or_right (has_state a q))

-- a flag behind a test
abbrev when : Bool → Bool → Bool
when t x = elim t [ true ↦ x | false ↦ false ]

when_test : (t x : Bool) → when t x ≡ true → t ≡ true
when_test true x h = refl
when_test false x h = h

module _ (t : List ℕ) (s q : ℕ) where
  pub place_in : s < 64 → place_flag t s q ≡ has_state (get_or t s 0) q
  unfolding place_flag
  place_in h = rw (lt-ltb s 64 h, place_flag)

  pub place_no_scope : 64 ≤ s → place_flag t s q ≡ false
  unfolding place_flag
  place_no_scope h = rw (le-ltb s 64 h, place_flag)

  pub place_no_state : 16 ≤ q → place_flag t s q ≡ false
  place_no_state h = at (Two (ltb s 64))
    where
      at : (ltb s 64 ≡ true) ⊎ (ltb s 64 ≡ false) → place_flag t s q ≡ false
      at (inl e) = place_in (ltb-true s 64 e) ∙ state_past (get_or t s 0) q h
      at (inr e) = place_no_scope (ltb-false s 64 e)

  pub place_scope : place_flag t s q ≡ true → s < 64
  unfolding place_flag
  place_scope h = ltb-true s 64 (when_test _ _ h)

  pub place_held : place_flag t s q ≡ true → has_state (get_or t s 0) q ≡ true
  place_held h = sym (place_in (place_scope h)) ∙ h

  pub place_state : place_flag t s q ≡ true → q < 16
  place_state h = state_below (get_or t s 0) q (place_held h)

  -- a scope whose set is empty has no place
  pub place_empty : get_or t s 0 ≡ 0 → place_flag t s q ≡ false
  place_empty e = at (Two (ltb s 64))
    where
      at : (ltb s 64 ≡ true) ⊎ (ltb s 64 ≡ false) → place_flag t s q ≡ false
      at (inl h) = place_in (ltb-true s 64 h) ∙ rw e (states_none q)
      at (inr h) = place_no_scope (ltb-false s 64 h)

-- only the first 64 cells of a table matter
pub place_same_lem : (a c : List ℕ) → ((s : ℕ) → s < 64 → get_or a s 0 ≡ get_or c s 0) → place_flag a ≡ place_flag c
place_same_lem a c h = fun_ext (λ s. fun_ext (λ q. at s q (Two (ltb s 64))))
  where
    at : (s q : ℕ) → (ltb s 64 ≡ true) ⊎ (ltb s 64 ≡ false) → place_flag a s q ≡ place_flag c s q
    at s q (inl e) =
        let inside : s < 64 = ltb-true s 64 e in
        place_in a s q inside ∙ ap (λ (x : ℕ). has_state x q) (h s inside) ∙ sym (place_in c s q inside)
    at s q (inr e) = let past : 64 ≤ s = ltb-false s 64 e in place_no_scope a s q past ∙ sym (place_no_scope c s q past)

-- the table of all places holds each place of 64 scopes and 16 states
pub place_all : (n s q : ℕ) → 64 ≤ n → s < 64 → q < 16 → place_flag (replicate n 65535) s q ≡ true
place_all n s q h k m =
    place_in (replicate n 65535) s q k ∙ rw (get_or-replicate {A = ℕ} n s 65535 0 (omega arith)) (states_all q m)

-- a table is kept by one whose sets hold what its 64 sets hold
pub kept_cells : (a c : List ℕ) → ((s q : ℕ) → s < 64 → has_state (get_or a s 0) q ≡ true → has_state (get_or c s 0) q ≡ true) → Kept a c
kept_cells a c h = record {
  flags = λ s q f.
      let inside : s < 64 = place_scope a s q f in
      place_in c s q inside ∙ h s q inside (place_held a s q f);
}

pub kept_same : (a : List ℕ) → Kept a a
kept_same a = record { flags = λ s q f. f }

pub kept_on : (a c d : List ℕ) → Kept a c → Kept c d → Kept a d
kept_on a c d h k = record { flags = λ s q f. k.flags s q (h.flags s q f) }

-- a set that grows keeps what it held, and holds what is added
module _ (a : List ℕ) (i x : ℕ) (h : i < length a) where
  pub kept_add : Kept a (set a i (bit_or (get_or a i 0) x))
  kept_add = kept_cells a (set a i (bit_or (get_or a i 0) x)) (λ s q below f. at s q f (Two (eqb s i)))
    where
      at : (s q : ℕ) → has_state (get_or a s 0) q ≡ true → (eqb s i ≡ true) ⊎ (eqb s i ≡ false)
          → has_state (get_or (set a i (bit_or (get_or a i 0) x)) s 0) q ≡ true
      at s q f (inl e) =
          let same : s ≡ i = eqb-true s i e in
          rw (same, get_or-set_same a i (bit_or (get_or a i 0) x) 0 h) (states_left (get_or a i 0) x q (rw same at f))
      at s q f (inr e) = rw (get_or-set_other a i s (bit_or (get_or a i 0) x) 0 (eqb-false s i e)) f

  pub held_add : i < 64 → (q : ℕ) → has_state x q ≡ true → place_flag (set a i (bit_or (get_or a i 0) x)) i q ≡ true
  held_add below q f =
      place_in (set a i (bit_or (get_or a i 0) x)) i q below
      ∙ rw (get_or-set_same a i (bit_or (get_or a i 0) x) 0 h) (states_right (get_or a i 0) x q f)

-- a set that has nothing to gain holds what would be added
pub states_within : (a x q : ℕ) → bit_or a x ≡ a → has_state x q ≡ true → has_state a q ≡ true
states_within a x q e f = ap (λ (y : ℕ). has_state y q) (sym e) ∙ states_right a x q f

pub held_within : (a : List ℕ) (i x : ℕ) → i < 64 → bit_or (get_or a i 0) x ≡ get_or a i 0 → (q : ℕ) → has_state x q ≡ true → place_flag a i q ≡ true
held_within a i x below e q f = place_in a i q below ∙ states_within (get_or a i 0) x q e f

-- eight flags of a byte each, times a byte
pub bytes_times : (x d : ℕ) → x ≤ 72340172838076673 → d < 256 → x * d < 18446744073709551616
bytes_times x d h k = let most : x * d ≤ 72340172838076673 * d = mul-le-mul_right d h in omega arith
