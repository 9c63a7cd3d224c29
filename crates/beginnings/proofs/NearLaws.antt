-- Laws of neighbours: those of a scope edge by edge, and the free scopes that can be come to,
-- neighbour by neighbour. Assumes nothing.
use Prim.Native.Nat.{ℕ, suc, ◌+◌, ◌≤◌, ◌<◌}
use mathlib.Core.Path.{◌≡◌, sym, ap, ◌∙◌}
use mathlib.Core.Logic.{◌⊎◌, inl, inr, ⊎_elim}
use mathlib.Core.Bool.{true, false, ◌&&◌}
use mathlib.Core.List.Memᴰ
use mathlib.Core.List.{List}
use native.Mathlib.Omega.{arith}
use native.Mathlib.Numerals.{add-one}
use borrow.Author.Tests.{eqb-true, eqb-false, eq-eqb, ltb-true, ltb-false}
use lib.Bits.{bit_and, bit_or, bit_xor}
use lib.Dec.{eqb, ltb}
use lib.ListN.{length, get_or, set}
use lib.Seq.{get_or-set_same, get_or-set_other}
use Rattle.scope_graph.specs.Language.{◌∈◌}
use Rattle.scope_graph.specs.Path.{HopOf}
use Rattle.scope_graph.specs.Turns.{Turned}
use Rattle.scope_graph.proofs.Lists.{Two, true_false, and_left, and_right, and_both, or_cases, or_left, or_right, is_not}
use Rattle.block.specs.Sets.{has_scope}
use Rattle.block.specs.Block.{first_edge, edge_cell, scope_of, hop_of, hops_on, block_hops}
use Rattle.block.proofs.SetLaws.{bits_and, scope_in, scope_past, scopes_none, scopes_or, scopes_less}
use Rattle.block.proofs.BlockLaws.{on_none, on_more, block_hops_in, hops_scope}
use Rattle.search.proofs.Leads.{Taken}
use Rattle.beginnings.specs.Steps.{Covers, Flooded}

pub scopes_and : (a c s : ℕ) → has_scope (bit_and a c) s ≡ (has_scope a s && has_scope c s)
scopes_and a c s = at (Two (ltb s 64))
  where
    at : (ltb s 64 ≡ true) ⊎ (ltb s 64 ≡ false) → has_scope (bit_and a c) s ≡ (has_scope a s && has_scope c s)
    at (inl e) = let h : s < 64 = ltb-true s 64 e in scope_in (bit_and a c) s h ∙ bits_and a c s ∙ sym (rw (scope_in a s h, scope_in c s h))
    at (inr e) = let h : 64 ≤ s = ltb-false s 64 e in scope_past (bit_and a c) s h ∙ sym (rw (scope_past a s h))

-- the neighbours of a scope, with those of its edges from number p on to come
abbrev pub NearBut : List ℕ → ℕ → ℕ → ℕ → Type 0
NearBut block s p out = (h : HopOf Turned) → h ∈ block_hops block s → (h ∈ hops_on block s p) ⊎ (has_scope out h.to ≡ true)

module _ (block : List ℕ) (s : ℕ) where
  pub near_none : s < 64 → NearBut block s (first_edge block s) 0
  near_none inside h m = inl (rw (block_hops_in block s inside) at m)

  pub near_more : (p out x r : ℕ) → p < first_edge block (suc s) → NearBut block s p out → x ≡ edge_cell block p
      → ((u : ℕ) → has_scope r u ≡ eqb u (scope_of x)) → NearBut block s (p + 1) (bit_or out r)
  unfolding hop_of
  near_more p out x r inside so edge one h m =
      ⊎_elim
      (λ k. ⊎_elim (λ e. inr (scopes_or out r h.to ∙ or_right (has_scope out h.to) _ (one h.to ∙ eq-eqb h.to (scope_of x) (to h e))))
      (λ k. inl (rw (add-one p) k)) (Memᴰ.cases_cons (rw (on_more block s p inside) at k)))
      (λ k. inr (scopes_or out r h.to ∙ or_left (has_scope out h.to) _ k)) (so h m)
    where
      to : (h : HopOf Turned) → h ≡ hop_of (edge_cell block p) → h.to ≡ scope_of x
      to h e = ap (λ (k : HopOf Turned). k.to) e ∙ ap scope_of (sym edge)

  pub near_all : (p out : ℕ) → first_edge block (suc s) ≤ p → NearBut block s p out
      → (h : HopOf Turned) → h ∈ block_hops block s → has_scope out h.to ≡ true
  near_all p out past so h m = ⊎_elim (λ k. absurd (Memᴰ.not-nil (rw (on_none block s p past) at k))) (λ k. k) (so h m)

-- on the way: each free neighbour of a scope that was seen is seen too, or the scope is still to be
-- looked at
pub record Flooding (near : List ℕ) (free s seen todo : ℕ) : Type 0 where
  pub less : (t : ℕ) → has_scope seen t ≡ true → has_scope free t ≡ true
  pub first : (t : ℕ) → has_scope (get_or near s 0) t ≡ true → has_scope free t ≡ true → has_scope seen t ≡ true
  pub on : (u t : ℕ) → has_scope seen u ≡ true → has_scope (get_or near u 0) t ≡ true → has_scope free t ≡ true
      → (has_scope todo u ≡ true) ⊎ (has_scope seen t ≡ true)

module _ (near : List ℕ) (free s : ℕ) where
  pub flood_first : (x : ℕ) → x ≡ get_or near s 0 → Flooding near free s (bit_and x free) (bit_and x free)
  flood_first x e = record {
    less = λ t h. and_right (has_scope x t) (has_scope free t) (sym (scopes_and x free t) ∙ h);
    first = λ t h k. scopes_and x free t ∙ and_both (has_scope x t) (has_scope free t) (rw e h) k;
    on = λ u t h k f. inl h;
  }

  pub flood_done : (seen todo : ℕ) → todo ≡ 0 → Flooding near free s seen todo → Flooded near free s seen
  flood_done seen todo e so = record {
    less = so.less;
    first = so.first;
    on = λ u t h k f. ⊎_elim (λ y. absurd (true_false (rw e at y) (scopes_none u))) (λ y. y) (so.on u t h k f);
  }

  pub flood_all : Flooded near free s free
  flood_all = record { less = λ t h. h; first = λ t h k. k; on = λ u t h k f. f }

  -- one scope is looked at
  module _ (seen todo u x rest : ℕ) (neighbours : x ≡ get_or near u 0) (taken : Taken todo u rest) (so : Flooding near free s seen todo) where
    abbrev next : ℕ
    next = bit_and x free

    abbrev more : ℕ
    more = bit_xor next (bit_and next seen)

    more_free : (t : ℕ) → has_scope more t ≡ true → has_scope free t ≡ true
    more_free t h = and_right (has_scope x t) (has_scope free t) (sym (scopes_and x free t) ∙ and_left (has_scope next t) _ (sym (scopes_less next seen t) ∙ h))

    more_is : (t : ℕ) → has_scope x t ≡ true → has_scope free t ≡ true → has_scope seen t ≡ false → has_scope more t ≡ true
    more_is t h f k =
        scopes_less next seen t
        ∙ and_both (has_scope next t) _ (scopes_and x free t ∙ and_both (has_scope x t) (has_scope free t) h f) (is_not (has_scope seen t) k)

    seen_still : (t : ℕ) → has_scope seen t ≡ true → has_scope (bit_or seen more) t ≡ true
    seen_still t h = scopes_or seen more t ∙ or_left (has_scope seen t) _ h

    todo_more : (t : ℕ) → has_scope more t ≡ true → has_scope (bit_or rest more) t ≡ true
    todo_more t h = scopes_or rest more t ∙ or_right (has_scope rest t) _ h

    all_seen : (t : ℕ) → has_scope x t ≡ true → has_scope free t ≡ true → has_scope (bit_or seen more) t ≡ true
    all_seen t h f =
        ⊎_elim (seen_still t) (λ k. scopes_or seen more t ∙ or_right (has_scope seen t) _ (more_is t h f k)) (Two (has_scope seen t))

    old : (v t : ℕ) → has_scope (get_or near v 0) t ≡ true → has_scope free t ≡ true → (has_scope todo v ≡ true) ⊎ (has_scope seen t ≡ true)
        → (has_scope (bit_or rest more) v ≡ true) ⊎ (has_scope (bit_or seen more) t ≡ true)
    old v t k f (inr y) = inr (seen_still t y)
    old v t k f (inl y) =
        ⊎_elim (λ e. inr (all_seen t (rw (neighbours, sym (eqb-true v u e)) k) f))
        (λ e. inl (scopes_or rest more v ∙ or_left (has_scope rest v) _ (taken v ∙ and_both (has_scope todo v) _ y (is_not (eqb v u) e)))) (Two (eqb v u))

    pub flood_next : Flooding near free s (bit_or seen more) (bit_or rest more)
    flood_next = record {
      less = λ t h. ⊎_elim (so.less t) (more_free t) (or_cases (has_scope seen t) (has_scope more t) (sym (scopes_or seen more t) ∙ h));
      first = λ t h k. seen_still t (so.first t h k);
      on = λ v t h k f. ⊎_elim (λ y. old v t k f (so.on v t y k f)) (λ y. inl (todo_more v y))
          (or_cases (has_scope seen v) (has_scope more v) (sym (scopes_or seen more v) ∙ h));
    }

-- the table of neighbours up to a scope
abbrev pub CoversTo : List ℕ → ℕ → List ℕ → Type 0
CoversTo block k near = (s : ℕ) (h : HopOf Turned) → s < k → h ∈ block_hops block s → has_scope (get_or near s 0) h.to ≡ true

module _ (block near : List ℕ) (size : length near ≡ 64) where
  pub covers_more : (s x : ℕ) → s < 64 → CoversTo block s near → ((h : HopOf Turned) → h ∈ block_hops block s → has_scope x h.to ≡ true)
      → CoversTo block (s + 1) (set near s x)
  covers_more s x inside so own t h below m = at (Two (eqb t s))
    where
      at : (eqb t s ≡ true) ⊎ (eqb t s ≡ false) → has_scope (get_or (set near s x) t 0) h.to ≡ true
      at (inl e) =
          let is : t ≡ s = eqb-true t s e in
          rw (is, get_or-set_same near s x 0 (omega (arith, size))) (own h (rw is at m))
      at (inr e) =
          let other : t ≡ s → ⊥ = eqb-false t s e in
          rw (get_or-set_other near s t x 0 other) (so t h (omega arith) m)

  pub covers_all : (k : ℕ) → 64 ≤ k → CoversTo block k near → Covers block near
  covers_all k past so s h m = let inside = hops_scope block s h m in so s h (omega arith) m
