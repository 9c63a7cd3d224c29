-- The promises (specs/Promises). Assumes nothing.
use mathlib.Core.Path.{◌≡◌, refl, sym, ap, subst, ◌∙◌}
use mathlib.Core.Logic.{◌⊎◌, inl, inr}
use mathlib.Core.Bool.{true, false}
use mathlib.Core.List.{List, [], ◌∷◌, ◌++◌, append-nil}
use Prim.Native.Nat.{ℕ, zero, suc, ◌+◌, ◌*◌, ◌≤◌, ◌<◌}
use native.Mathlib.Nat.{eq-or-lt_of_le}
use native.Mathlib.Omega.{arith}
use borrow.Author.Tests.{ltb-true, ltb-false}
use lib.Dec.{ltb}
use lib.ListN.{length, get_or, drop}
use Rattle.scope_graph.specs.Path.{HopOf}
use Rattle.scope_graph.specs.Turns.{Turned}
use Rattle.scope_graph.specs.Order.{end_of, meaning}
use Rattle.scope_graph.proofs.Lists.{Two}
use Rattle.graph_table.specs.Rows.{hop_to, if_own, by_scope, row_hops, all_hops, RowsAscend, next_row}
use Rattle.graph_table.specs.Values.{row_end}
use Rattle.graph_table.specs.Promises.{NextRow, NextIs, NextOne, AboveLater, WithoutLater, AscendingAll, RowEndIs}
use Rattle.graph_table.proofs.Laws.{if_own_lem, if_other, by_later, by_own, by_earlier, compare, next_from}

-- a row up to scope s, before what both find alike
module _ (s from label turn to : ℕ) (found all : List (HopOf Turned)) (so : found ≡ all) where
  step_all : (from ≡ s) ⊎ (from < s) → by_scope s from [] (hop_to label turn to ∷ found) found ≡ if_own s from (hop_to label turn to ∷ all) all
  step_all (inl m) =
      by_own s from [] (hop_to label turn to ∷ found) found m
      ∙ ap (λ (z : List (HopOf Turned)). hop_to label turn to ∷ z) so
      ∙ sym (if_own_lem s from (hop_to label turn to ∷ all) all m)
  step_all (inr m) =
      by_earlier s from [] (hop_to label turn to ∷ found) found m
      ∙ so
      ∙ sym (if_other s from (hop_to label turn to ∷ all) all (λ e. omega arith))

-- a row of a later scope ends the look
later_ends : (s a from label to turn x : ℕ) (behind : List ℕ) → s < from → row_hops (a ∷ from ∷ label ∷ to ∷ turn ∷ x ∷ behind) s ≡ []
unfolding row_hops
later_ends s a from label to turn x behind m = by_later s from [] (hop_to label turn to ∷ row_hops behind s) (row_hops behind s) m

no_cells : (s : ℕ) → row_hops [] s ≡ []
unfolding row_hops
no_cells s = refl

-- the next row's cell is six further on
the_place : (k : ℕ) → 6 * suc k + 1 ≡ suc (suc (suc (suc (suc (suc (6 * k + 1))))))
the_place k = omega arith

pub next_is : NextIs
next_is rows s p = next_from rows s (length rows) p (omega arith)

-- two next rows from one cell on: neither stands above the other
not_above : (l : List ℕ) (s p a b : ℕ) → NextRow l s p a → NextRow l s p b → a < b → ⊥
not_above l s p a b first other less = at (Two (ltb b (length l)))
  where
    inside : a < length l
    inside = let m = other.most in omega arith

    at : (ltb b (length l) ≡ true) ⊎ (ltb b (length l) ≡ false) → ⊥
    at (inl e) =
        let (k, a-is, above-a) = first.passed inside in
        let (n, b-is, above-b) = other.passed (ltb-true b (length l) e) in
        let own : get_or l (p + 6 * k + 1) 0 ≡ s = subst (λ (i : ℕ). get_or l (i + 1) 0 ≡ s) a-is (first.leaves inside) in
        let earlier : get_or l (p + 6 * k + 1) 0 < s = above-b k (omega arith) in
        omega arith
    at (inr e) =
        let none : 0 ≡ length (row_hops (drop p l) s) = sym (ap length (other.none (ltb-false b (length l) e))) in
        let some : length (row_hops (drop p l) s) ≡ suc (length (row_hops (drop (a + 6) l) s)) = ap length (first.hops inside) in
        omega arith

pub next_one : NextOne
next_one rows s p r row = at (compare r (next_row rows s p))
  where
    at : (r < next_row rows s p) ⊎ ((next_row rows s p ≡ r) ⊎ (next_row rows s p < r)) → r ≡ next_row rows s p
    at (inl m) = absurd (not_above rows s p r (next_row rows s p) row (next_is rows s p) m)
    at (inr (inl m)) = sym m
    at (inr (inr m)) = absurd (not_above rows s p (next_row rows s p) r (next_is rows s p) row m)

-- n whole rows up to scope s, and cells behind them in which none is found
module _ (s : ℕ) (behind : List ℕ) (none : row_hops behind s ≡ []) where
  above_all : (n : ℕ) (l : List ℕ) → length l ≡ 6 * n → ((k : ℕ) → k < n → get_or l (6 * k + 1) 0 ≤ s) → row_hops (l ++ behind) s ≡ all_hops l s
  unfolding row_hops all_hops
  above_all n [] is most = none
  above_all n (a ∷ []) is most = absurd (omega arith)
  above_all n (a ∷ from ∷ []) is most = absurd (omega arith)
  above_all n (a ∷ from ∷ label ∷ []) is most = absurd (omega arith)
  above_all n (a ∷ from ∷ label ∷ to ∷ []) is most = absurd (omega arith)
  above_all n (a ∷ from ∷ label ∷ to ∷ turn ∷ []) is most = absurd (omega arith)
  above_all zero (a ∷ from ∷ label ∷ to ∷ turn ∷ x ∷ cells) is most = absurd (omega arith)
  above_all (suc n) (a ∷ from ∷ label ∷ to ∷ turn ∷ x ∷ cells) is most =
      step_all s from label turn to (row_hops (cells ++ behind) s) (all_hops cells s) (above_all n cells (omega arith) rest_most)
      (eq-or-lt_of_le (most 0 (omega arith)))
    where
      rest_most : (k : ℕ) → k < n → get_or cells (6 * k + 1) 0 ≤ s
      rest_most k m =
          subst (λ (i : ℕ). get_or (a ∷ from ∷ label ∷ to ∷ turn ∷ x ∷ cells) i 0 ≤ s) (the_place k) (most (suc k) (omega arith))

pub above_later : AboveLater
above_later above behind s a from label to turn x up later =
    above_all s (a ∷ from ∷ label ∷ to ∷ turn ∷ x ∷ behind) (later_ends s a from label to turn x behind later) up.count above up.whole up.most

pub without_later : WithoutLater
without_later rows s up = ap (λ (l : List ℕ). row_hops l s) (sym (append-nil rows)) ∙ above_all s [] (no_cells s) up.count rows up.whole up.most

-- behind a row of a later scope there is none
later_none : (least s : ℕ) (l : List ℕ) → RowsAscend least l → s < least → all_hops l s ≡ []
unfolding all_hops
later_none least s [] up h = refl
later_none least s (a ∷ []) up h = refl
later_none least s (a ∷ from ∷ []) up h = refl
later_none least s (a ∷ from ∷ label ∷ []) up h = refl
later_none least s (a ∷ from ∷ label ∷ to ∷ []) up h = refl
later_none least s (a ∷ from ∷ label ∷ to ∷ turn ∷ []) up h = refl
later_none least s (a ∷ from ∷ label ∷ to ∷ turn ∷ x ∷ cells) up h =
    let m = up.0 in
    if_other s from (hop_to label turn to ∷ all_hops cells s) (all_hops cells s) (λ e. omega arith) ∙ later_none from s cells up.1 (omega arith)

all_from : (least : ℕ) (l : List ℕ) → RowsAscend least l → (s : ℕ) → row_hops l s ≡ all_hops l s
unfolding row_hops all_hops
all_from least [] up s = refl
all_from least (a ∷ []) up s = refl
all_from least (a ∷ from ∷ []) up s = refl
all_from least (a ∷ from ∷ label ∷ []) up s = refl
all_from least (a ∷ from ∷ label ∷ to ∷ []) up s = refl
all_from least (a ∷ from ∷ label ∷ to ∷ turn ∷ []) up s = refl
all_from least (a ∷ from ∷ label ∷ to ∷ turn ∷ x ∷ cells) up s = at (compare s from) (all_from from cells up.1 s)
  where
    at : (s < from) ⊎ ((from ≡ s) ⊎ (from < s)) → row_hops cells s ≡ all_hops cells s → row_hops (a ∷ from ∷ label ∷ to ∷ turn ∷ x ∷ cells) s ≡ all_hops (a ∷ from ∷ label ∷ to ∷ turn ∷ x ∷ cells) s
    at (inl m) so =
        later_ends s a from label to turn x cells m
        ∙ sym (if_other s from (hop_to label turn to ∷ all_hops cells s) (all_hops cells s) (λ e. omega arith) ∙ later_none from s cells up.1 m)
    at (inr m) so = step_all s from label turn to (row_hops cells s) (all_hops cells s) so m

pub ascending_all : AscendingAll
ascending_all rows up s = all_from 0 rows up s

pub row_end_is : RowEndIs
unfolding row_end meaning end_of
row_end_is zero = refl
row_end_is (suc n) = refl
