-- Laws of the rows of a scope, from a cell on, for any rows. Assumes nothing.
use mathlib.Core.Path.{◌≡◌, refl, sym, ap, subst, ◌∙◌}
use mathlib.Core.Logic.{◌⊎◌, inl, inr}
use mathlib.Core.Bool.{true, false}
use mathlib.Core.List.{List, [], ◌∷◌}
use Prim.Native.Nat.{ℕ, zero, suc, ◌+◌, ◌*◌, ◌≤◌, ◌<◌}
use native.Mathlib.Omega.{arith}
use native.Mathlib.Numerals.{towards_suc}
use borrow.Author.Tests.{ne_eqb, eq-eqb, eqb-true, eqb-false, lt-ltb, le-ltb, ltb-true, ltb-false}
use lib.Dec.{ltb, eqb}
use lib.ListN.{length, get_or, drop, length-drop}
use lib.Seq.{drop-cons}
use Rattle.scope_graph.specs.Path.{HopOf}
use Rattle.scope_graph.specs.Turns.{Turned}
use Rattle.scope_graph.proofs.Lists.{Two}
use Rattle.graph_table.specs.Rows.{hop_at, if_own, by_scope, row_hops, place_from, next_row}
use Rattle.graph_table.specs.Promises.{NextRow}

-- one row, by the scope that it leaves
module _ {A : Type 0} (s from : ℕ) (own other : A) where
  pub if_own_lem : from ≡ s → if_own s from own other ≡ own
  unfolding if_own
  if_own_lem h = rw (eq-eqb from s h, if_own)

  pub if_other : (from ≡ s → ⊥) → if_own s from own other ≡ other
  unfolding if_own
  if_other h = rw (ne_eqb from s h, if_own)

module _ {A : Type 0} (s from : ℕ) (later own earlier : A) where
  pub by_later : s < from → by_scope s from later own earlier ≡ later
  unfolding by_scope
  by_later h = rw (lt-ltb s from h, by_scope)

  pub by_own : from ≡ s → by_scope s from later own earlier ≡ own
  unfolding by_scope
  by_own h = rw (le-ltb s from (omega arith), by_scope) (if_own_lem s from own earlier h)

  pub by_earlier : from < s → by_scope s from later own earlier ≡ earlier
  unfolding by_scope
  by_earlier h = rw (le-ltb s from (omega arith), by_scope) (if_other s from own earlier (λ e. omega arith))

-- fewer cells than a row has
module _ (s : ℕ) where
  few_hops : (l : List ℕ) → length l < 6 → row_hops l s ≡ []
  unfolding row_hops
  few_hops [] k = refl
  few_hops (a ∷ []) k = refl
  few_hops (a ∷ b ∷ []) k = refl
  few_hops (a ∷ b ∷ c ∷ []) k = refl
  few_hops (a ∷ b ∷ c ∷ d ∷ []) k = refl
  few_hops (a ∷ b ∷ c ∷ d ∷ e ∷ []) k = refl
  few_hops (a ∷ b ∷ c ∷ d ∷ e ∷ f ∷ l) k = absurd (omega arith)

  few_places : (none at : ℕ) (l : List ℕ) → length l < 6 → place_from none s l at ≡ none
  unfolding place_from
  few_places none at [] k = refl
  few_places none at (a ∷ []) k = refl
  few_places none at (a ∷ b ∷ []) k = refl
  few_places none at (a ∷ b ∷ c ∷ []) k = refl
  few_places none at (a ∷ b ∷ c ∷ d ∷ []) k = refl
  few_places none at (a ∷ b ∷ c ∷ d ∷ e ∷ []) k = refl
  few_places none at (a ∷ b ∷ c ∷ d ∷ e ∷ f ∷ l) k = absurd (omega arith)

module _ (l : List ℕ) (s p : ℕ) where
  -- no row is left
  pub rows_none : length l < p + 6 → row_hops (drop p l) s ≡ []
  rows_none h = few_hops s (drop p l) (simp length-drop (omega arith))

  pub next_none : length l < p + 6 → next_row l s p ≡ length l
  unfolding next_row
  next_none h = few_places s (length l) p (drop p l) (simp length-drop (omega arith))

  -- the row at p, and those behind it
  module _ (h : p + 6 ≤ length l) where
    pub six : drop p l ≡ get_or l p 0 ∷ get_or l (p + 1) 0 ∷ get_or l (p + 2) 0 ∷ get_or l (p + 3) 0 ∷ get_or l (p + 4) 0 ∷ get_or l (p + 5) 0 ∷ drop (p + 6) l
    six =
        drop-cons l p 0 (omega arith)
        ∙ ap (λ (x : List ℕ). get_or l p 0 ∷ x) (drop-cons l (suc p) 0 (omega arith)
        ∙ ap (λ (x : List ℕ). get_or l (suc p) 0 ∷ x) (drop-cons l (suc (suc p)) 0 (omega arith)
        ∙ ap (λ (x : List ℕ). get_or l (suc (suc p)) 0 ∷ x) (drop-cons l (suc (suc (suc p))) 0 (omega arith)
        ∙ ap (λ (x : List ℕ). get_or l (suc (suc (suc p))) 0 ∷ x) (drop-cons l (suc (suc (suc (suc p)))) 0 (omega arith)
        ∙ ap (λ (x : List ℕ). get_or l (suc (suc (suc (suc p)))) 0 ∷ x) (drop-cons l (suc (suc (suc (suc (suc p))))) 0 (omega arith))))))
        ∙ sym (simp towards_suc)

    -- the scope that it leaves, and what is found behind it
    abbrev from : ℕ
    from = get_or l (p + 1) 0

    abbrev rest : List (HopOf Turned)
    rest = row_hops (drop (p + 6) l) s

    hops_row : row_hops (drop p l) s ≡ by_scope s from [] (hop_at l p ∷ rest) rest
    unfolding row_hops
    hops_row = ap (λ (x : List ℕ). row_hops x s) six

    next_at_lem : next_row l s p ≡ by_scope s from (length l) p (next_row l s (p + 6))
    unfolding next_row place_from
    next_at_lem = ap (λ (x : List ℕ). place_from (length l) s x p) six

    pub rows_later : s < from → row_hops (drop p l) s ≡ []
    rows_later k = hops_row ∙ by_later s from [] (hop_at l p ∷ rest) rest k

    pub rows_own : from ≡ s → row_hops (drop p l) s ≡ hop_at l p ∷ rest
    rows_own k = hops_row ∙ by_own s from [] (hop_at l p ∷ rest) rest k

    pub rows_earlier : from < s → row_hops (drop p l) s ≡ rest
    rows_earlier k = hops_row ∙ by_earlier s from [] (hop_at l p ∷ rest) rest k

    pub next_later : s < from → next_row l s p ≡ length l
    next_later k = next_at_lem ∙ by_later s from (length l) p (next_row l s (p + 6)) k

    pub next_own : from ≡ s → next_row l s p ≡ p
    next_own k = next_at_lem ∙ by_own s from (length l) p (next_row l s (p + 6)) k

    pub next_earlier : from < s → next_row l s p ≡ next_row l s (p + 6)
    next_earlier k = next_at_lem ∙ by_earlier s from (length l) p (next_row l s (p + 6)) k

pub ruleset next_steps = (next_none, next_later, next_own, next_earlier)

-- which of the three a row is
pub compare : (s from : ℕ) → (s < from) ⊎ ((from ≡ s) ⊎ (from < s))
compare s from = at (Two (ltb s from)) (Two (eqb from s))
  where
    at : (ltb s from ≡ true) ⊎ (ltb s from ≡ false) → (eqb from s ≡ true) ⊎ (eqb from s ≡ false) → (s < from) ⊎ ((from ≡ s) ⊎ (from < s))
    at (inl k) e = inl (ltb-true s from k)
    at (inr k) (inl e) = inr (inl (eqb-true from s e))
    at (inr k) (inr e) = let least : from ≤ s = ltb-false s from k in let other : from ≡ s → ⊥ = eqb-false from s e in inr (inr (omega arith))

-- the next row is the first that is found: none, the row at p, or the one from the row behind it on
module _ (l : List ℕ) (s p r : ℕ) where
  next_end : row_hops (drop p l) s ≡ [] → r ≡ length l → NextRow l s p r
  next_end e is = record {
    most = omega arith;
    none = λ h. e;
    on = λ h. absurd (omega arith);
    whole = λ h. absurd (omega arith);
    leaves = λ h. absurd (omega arith);
    passed = λ h. absurd (omega arith);
    hops = λ h. absurd (omega arith);
  }

  next_here : p + 6 ≤ length l → get_or l (p + 1) 0 ≡ s → row_hops (drop p l) s ≡ hop_at l p ∷ row_hops (drop (p + 6) l) s → r ≡ p → NextRow l s p r
  next_here inside own e is = record {
    most = omega arith;
    none = λ h. absurd (omega arith);
    on = λ h. omega arith;
    whole = λ h. omega arith;
    leaves = λ h. rw is own;
    passed = λ h. (0, omega arith, λ j m. absurd (omega arith));
    hops = λ h. rw is e;
  }

  -- a row of an earlier scope, and k such rows behind it
  one_more_lem : get_or l (p + 1) 0 < s → (k : ℕ) → ((j : ℕ) → j < k → get_or l (p + 6 + 6 * j + 1) 0 < s) → (j : ℕ) → j < suc k → get_or l (p + 6 * j + 1) 0 < s
  one_more_lem first k others zero m = subst (λ (i : ℕ). get_or l i 0 < s) (omega arith) first
  one_more_lem first k others (suc j) m = subst (λ (i : ℕ). get_or l i 0 < s) (omega arith) (others j (omega arith))

  next_behind : get_or l (p + 1) 0 < s → row_hops (drop p l) s ≡ row_hops (drop (p + 6) l) s → NextRow l s (p + 6) r → NextRow l s p r
  next_behind first e row = record {
    most = row.most;
    none = λ h. e ∙ row.none h;
    on = λ h. let on = row.on h in omega arith;
    whole = row.whole;
    leaves = row.leaves;
    passed = λ h. let (k, is, others) = row.passed h in (suc k, omega arith, one_more_lem first k others);
    hops = λ h. e ∙ row.hops h;
  }

pub next_from : (l : List ℕ) (s k p : ℕ) → length l ≤ p + k → NextRow l s p (next_row l s p)
next_from l s zero p h = next_end l s p (next_row l s p) (rows_none l s p (omega arith)) (next_none l s p (omega arith))
next_from l s (suc k) p h = at (λ inside. next_from l s k (p + 6) (omega arith)) (Two (ltb (length l) (p + 6)))
  where
    by_scope_lem : (p + 6 ≤ length l → NextRow l s (p + 6) (next_row l s (p + 6))) → (inside : p + 6 ≤ length l) → (s < get_or l (p + 1) 0) ⊎ ((get_or l (p + 1) 0 ≡ s) ⊎ (get_or l (p + 1) 0 < s)) → NextRow l s p (next_row l s p)
    by_scope_lem so inside (inl m) = next_end l s p (next_row l s p) (rows_later l s p inside m) (next_later l s p inside m)
    by_scope_lem so inside (inr (inl m)) = next_here l s p (next_row l s p) inside m (rows_own l s p inside m) (next_own l s p inside m)
    by_scope_lem so inside (inr (inr m)) =
        rw (next_earlier l s p inside m)
        (next_behind l s p (next_row l s (p + 6)) m (rows_earlier l s p inside m) (so inside))

    at : (p + 6 ≤ length l → NextRow l s (p + 6) (next_row l s (p + 6))) → (ltb (length l) (p + 6) ≡ true) ⊎ (ltb (length l) (p + 6) ≡ false) → NextRow l s p (next_row l s p)
    at so (inl e) =
        let short : length l < p + 6 = ltb-true (length l) (p + 6) e in
        next_end l s p (next_row l s p) (rows_none l s p short) (next_none l s p short)
    at so (inr e) = by_scope_lem so (ltb-false (length l) (p + 6) e) (compare s (get_or l (p + 1) 0))

-- what the answer of the finder says
pub next_row_lem : {l : List ℕ} {s p r : ℕ} → r ≡ next_row l s p → NextRow l s p r
next_row_lem {l} {s} {p} {r} is = rw is (next_from l s (length l) p (omega arith))
