-- The first wrong listing, by its number. Assumes nothing.
use Prim.Native.Nat.{ℕ, zero, suc, ◌+◌, ◌<◌}
use mathlib.Core.Path.{◌≡◌, refl, sym, ap, ◌∙◌}
use mathlib.Core.Bool.{Bool, true, false}
use mathlib.Core.List.{List, [], ◌∷◌}
use native.Mathlib.Omega.{arith}
use lib.ListN.{length, get_or}
use Rattle.scope_graph.specs.Graph.{Query}
use Rattle.scope_graph.specs.Rows.{language}
use Rattle.graph_rows.specs.Decode.{rules_of}
use Rattle.told.specs.Delivered.{Delivered}
use Rattle.accepting.specs.Tests.{is_right}
use Rattle.accepting.specs.Verdict.{all_right, wrong_at, first_wrong}

module _ (cells : List ℕ) (x : Query (language (rules_of cells))) (y : Delivered) where
  abbrev Q : Type 0
  Q = Query (language (rules_of cells))

  -- the test of the listing in place j
  abbrev pub right_at : List Q → List Delivered → ℕ → Bool
  right_at qs ds j = is_right cells (get_or qs j x) (get_or ds j y)

  right_on : (i : ℕ) (q : Q) (qs : List Q) (d : Delivered) (ds : List Delivered) → is_right cells q d ≡ true → first_wrong cells i (q ∷ qs) (d ∷ ds) ≡ first_wrong cells (suc i) qs ds
  unfolding first_wrong
  right_on i q qs d ds e = rw (e, first_wrong)

  wrong_on : (i : ℕ) (q : Q) (qs : List Q) (d : Delivered) (ds : List Delivered) → is_right cells q d ≡ false → first_wrong cells i (q ∷ qs) (d ∷ ds) ≡ wrong_at i
  unfolding first_wrong
  wrong_on i q qs d ds e = rw (e, first_wrong)

  not_all : (i : ℕ) → wrong_at i ≡ all_right → ⊥
  not_all i e = let z : ◌≡◌ {A = ℕ} 0 1 = cc in omega arith

  -- none is wrong
  pub all_forth : (i : ℕ) (qs : List Q) (ds : List Delivered) → length ds ≡ length qs → first_wrong cells i qs ds ≡ all_right
      → (j : ℕ) → j < length qs → right_at qs ds j ≡ true
  all_forth i [] ds n e j h = absurd (omega arith)
  all_forth i (q ∷ qs) [] n e j h = absurd (omega arith)
  all_forth i (q ∷ qs) (d ∷ ds) n e j h = by (is_right cells q d) refl (all_forth (suc i) qs ds (omega arith)) j h
    where
      at : is_right cells q d ≡ true → ((k : ℕ) → k < length qs → right_at qs ds k ≡ true) → (k : ℕ) → k < suc (length qs) → right_at (q ∷ qs) (d ∷ ds) k ≡ true
      at t so zero g = t
      at t so (suc k) g = so k (omega arith)

      by : (t : Bool) → is_right cells q d ≡ t → (first_wrong cells (suc i) qs ds ≡ all_right → (k : ℕ) → k < length qs → right_at qs ds k ≡ true)
          → (k : ℕ) → k < suc (length qs) → right_at (q ∷ qs) (d ∷ ds) k ≡ true
      by true t so = at t (so (sym (right_on i q qs d ds t) ∙ e))
      by false t so = absurd (not_all i (sym (wrong_on i q qs d ds t) ∙ e))

  pub all_back : (i : ℕ) (qs : List Q) (ds : List Delivered) → length ds ≡ length qs → ((j : ℕ) → j < length qs → right_at qs ds j ≡ true)
      → first_wrong cells i qs ds ≡ all_right
  unfolding first_wrong
  all_back i [] ds n h = refl
  all_back i (q ∷ qs) [] n h = refl
  all_back i (q ∷ qs) (d ∷ ds) n h =
      right_on i q qs d ds (h 0 (omega arith)) ∙ all_back (suc i) qs ds (omega arith) (λ j g. h (suc j) (omega arith))

  -- or one is, and none before it
  pub record First (qs : List Q) (ds : List Delivered) (k : ℕ) : Type 0 where
    pub inside : k < length qs
    pub wrong : right_at qs ds k ≡ false
    pub before : (j : ℕ) → j < k → right_at qs ds j ≡ true

  wrong_same : (i j : ℕ) → wrong_at i ≡ wrong_at j → i ≡ j
  wrong_same i j e = cc

  pub first_forth : (i : ℕ) (qs : List Q) (ds : List Delivered) → length ds ≡ length qs → (n : ℕ) → first_wrong cells i qs ds ≡ wrong_at n
      → (k : ℕ) × (n ≡ i + k) × First qs ds k
  unfolding first_wrong
  first_forth i [] ds l n e = absurd (not_all n (sym e))
  first_forth i (q ∷ qs) [] l n e = absurd (not_all n (sym e))
  first_forth i (q ∷ qs) (d ∷ ds) l n e = by (is_right cells q d) refl (first_forth (suc i) qs ds (omega arith) n)
    where
      at : is_right cells q d ≡ true → (k : ℕ) → First qs ds k → First (q ∷ qs) (d ∷ ds) (suc k)
      at t k f = record { inside = omega (arith, f.inside); wrong = f.wrong; before = to }
        where
          to : (j : ℕ) → j < suc k → right_at (q ∷ qs) (d ∷ ds) j ≡ true
          to zero h = t
          to (suc j) h = f.before j (omega arith)

      by : (t : Bool) → is_right cells q d ≡ t → (first_wrong cells (suc i) qs ds ≡ wrong_at n → (k : ℕ) × (n ≡ suc i + k) × First qs ds k)
          → (k : ℕ) × (n ≡ i + k) × First (q ∷ qs) (d ∷ ds) k
      by true t so =
          let w = so (sym (right_on i q qs d ds t) ∙ e) in
          let m = w.1 in
          (suc w.0, omega arith, at t w.0 w.2)
      by false t so =
          let m = wrong_same i n (sym (wrong_on i q qs d ds t) ∙ e) in
          (0, omega arith, record { inside = omega arith; wrong = t; before = λ j h. absurd (omega arith) })

  pub first_back : (i : ℕ) (qs : List Q) (ds : List Delivered) → length ds ≡ length qs → (k : ℕ) → First qs ds k → first_wrong cells i qs ds ≡ wrong_at (i + k)
  first_back i [] ds l k f = absurd (omega (arith, f.inside))
  first_back i (q ∷ qs) [] l k f = absurd (omega arith)
  first_back i (q ∷ qs) (d ∷ ds) l zero f = let z : i ≡ i + 0 = omega arith in wrong_on i q qs d ds f.wrong ∙ ap wrong_at z
  first_back i (q ∷ qs) (d ∷ ds) l (suc k) f =
      let z : suc i + k ≡ i + suc k = omega arith in
      right_on i q qs d ds (f.before 0 (omega arith))
      ∙ first_back (suc i) qs ds (omega arith) k (record { inside = omega (arith, f.inside); wrong = f.wrong; before = λ j h. f.before (suc j) (omega arith) })
      ∙ ap wrong_at z
