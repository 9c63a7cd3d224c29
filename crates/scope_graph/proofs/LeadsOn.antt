-- The automaton's hope, computed: `leads_on` with fuel for every state, and `usable` (specs/Computed), say what they are to say. Assumes nothing.
use Prim.Native.Nat.{ℕ, zero, suc, ◌≤◌, ◌<◌}
use mathlib.Core.Path.{◌≡◌, refl, sym, ap, subst, ◌∙◌}
use mathlib.Core.Bool.{Bool, true, false, false≢true}
use mathlib.Core.Logic.{◌↔◌, ◌⊎◌, inl, inr, ⊎_elim}
use mathlib.Core.Option.{Option, some, none}
use mathlib.Core.List.Memᴰ
use mathlib.Core.List.{List, [], ◌∷◌}
use native.Mathlib.Nat.{eq-or-lt_of_le}
use native.Mathlib.Omega.{arith}
use lib.Dec.{eqb}
use lib.ListN.{length}
use Rattle.scope_graph.specs.Language.{◌∈◌, End, stop, by, Language, Laws}
use Rattle.scope_graph.specs.Path.{Distinct, Leads}
use Rattle.scope_graph.specs.Rows.{any_of}
use Rattle.scope_graph.specs.Followed.{Usable}
use Rattle.scope_graph.specs.Computed.{any_below, leads_on, usable}
use Rattle.scope_graph.proofs.Lists.{Two}
use Rattle.scope_graph.proofs.Pigeon.{in_true, not_in, distinct_bounded}

-- a test, or else another
abbrev else_test : Bool → Bool → Bool
else_test a b = elim a [ true ↦ true | false ↦ b ]

else_cases : (a b : Bool) → else_test a b ≡ true → (a ≡ true) ⊎ (b ≡ true)
else_cases true b h = inl refl
else_cases false b h = inr h

else_first : (a b : Bool) → a ≡ true → else_test a b ≡ true
else_first a b h = rw h

else_second : (a b : Bool) → b ≡ true → else_test a b ≡ true
else_second true b h = refl
else_second false b h = h

-- a test of what may be missing
abbrev some_test : (ℕ → Bool) → Option ℕ → Bool
some_test t o = elim o [ none ↦ false | some r ↦ t r ]

some_test_elim : (t : ℕ → Bool) (o : Option ℕ) → some_test t o ≡ true → (r : ℕ) × (o ≡ some r) × (t r ≡ true)
some_test_elim t none h = absurd (false≢true h)
some_test_elim t (some r) h = (r, refl, h)

some_test_intro : (t : ℕ → Bool) (o : Option ℕ) (r : ℕ) → o ≡ some r → t r ≡ true → some_test t o ≡ true
some_test_intro t o r e h = rw e h

-- some number below n meets the test
pub any_below_elim : (f : ℕ → Bool) (n : ℕ) → any_below f n ≡ true → (k : ℕ) × (k < n) × (f k ≡ true)
unfolding any_below
any_below_elim f zero h = absurd (false≢true h)
any_below_elim f (suc n) h =
    ⊎_elim (λ e. (n, omega arith, e)) (λ e. let r = any_below_elim f n e in (r.0, omega (arith, r.1), r.2))
    (else_cases (f n) (any_below f n) h)

pub any_below_intro : (f : ℕ → Bool) (n k : ℕ) → k < n → f k ≡ true → any_below f n ≡ true
unfolding any_below
any_below_intro f zero k lt h = absurd (omega arith)
any_below_intro f (suc n) k lt h =
    let le : k ≤ n = omega arith in
    ⊎_elim (λ e. else_first (f n) (any_below f n) (sym (ap f e) ∙ h)) (λ e. else_second (f n) (any_below f n) (any_below_intro f n k e h))
    (eq-or-lt_of_le le)

module _ (L : Language) where
  -- a word leads from the state to an accepting one
  abbrev pub Hope : ℕ → Type 0
  Hope q = (w : List ℕ) × (f : ℕ) × Leads L q w f × (L.accepts f ≡ true)

  pub leads_on_sound : (n q : ℕ) → leads_on L n q ≡ true → Hope q
  unfolding leads_on
  leads_on_sound zero q h = ([], q, refl, h)
  leads_on_sound (suc n) q h =
      ⊎_elim (λ a. ([], q, refl, a))
      (λ k.
      let l = any_below_elim _ L.labels k in
      let r = some_test_elim (leads_on L n) (L.next q l.0) l.2 in
      let h = leads_on_sound n r.0 r.2 in
      (l.0 ∷ h.0, h.1, (r.0, r.1, h.2), h.3))
      (else_cases (L.accepts q) _ h)

  -- the states that a run comes to, one after another
  abbrev Run : ℕ → List ℕ → ℕ → Type 0
  Run q [] f = q ≡ f
  Run q (s ∷ ss) f = ((l : ℕ) × (L.next q l ≡ some s)) × Run s ss f

  -- a run that comes to x has a rest that starts at x and does not come back
  rest : (x q : ℕ) (ss : List ℕ) (f : ℕ) → Run q ss f → Distinct ss → x ∈ ss → (ts : List ℕ) × Run x ts f × Distinct ts × ¬ (x ∈ ts)
  rest x q [] f r d m = absurd (Memᴰ.not-nil m)
  rest x q (s ∷ ss) f r d m =
      ⊎_elim (λ e. (ss, subst (λ y. Run y ss f) (sym e) r.1, d.1, λ k. d.0 (Memᴰ.cast (sym e) k)))
      (λ k. rest x s ss f r.1 d.1 k) (Memᴰ.cases_cons m)

  -- loops cut out, a run comes to no state twice
  cut_loops : (q : ℕ) (w : List ℕ) (f : ℕ) → Leads L q w f → (ss : List ℕ) × Run q ss f × Distinct ss
  cut_loops q [] f e = ([], e, tt)
  cut_loops q (l ∷ w) f (s, e, k) = step (cut_loops s w f k)
    where
      step : (ss : List ℕ) × Run s ss f × Distinct ss → (ss : List ℕ) × Run q ss f × Distinct ss
      step (ss, r, d) =
          ⊎_elim (λ b. let (ts, t, u, v) = rest s s ss f r d (in_true s ss b) in (s ∷ ts, ((l, e), t), (v, u)))
          (λ b. (s ∷ ss, ((l, e), r), (not_in s ss b, d))) (Two (any_of (eqb s) ss))

  module _ (laws : Laws L) where
    run_below : (q : ℕ) (ss : List ℕ) (f : ℕ) → Run q ss f → (x : ℕ) → x ∈ ss → x < L.states
    run_below q [] f r x m = absurd (Memᴰ.not-nil m)
    run_below q (s ∷ ss) f r x m =
        ⊎_elim (λ e. rw e (laws.next_state q r.0.0 s r.0.1)) (λ k. run_below s ss f r.1 x k) (Memᴰ.cases_cons m)

    -- a run of at most n transitions is found
    run_found : (n q : ℕ) (ss : List ℕ) (f : ℕ) → Run q ss f → length ss ≤ n → L.accepts f ≡ true → leads_on L n q ≡ true
    unfolding leads_on
    run_found zero q [] f r le a = ap L.accepts r ∙ a
    run_found zero q (s ∷ ss) f r le a = absurd (omega arith)
    run_found (suc n) q [] f r le a = else_first (L.accepts q) _ (ap L.accepts r ∙ a)
    run_found (suc n) q (s ∷ ss) f ((l, e), r) le a =
        else_second (L.accepts q) _
        (any_below_intro _ L.labels l (laws.next_label q l s e)
        (some_test_intro (leads_on L n) (L.next q l) s e (run_found n s ss f r (omega arith) a)))

    -- Fuel for every state is enough, wherever the run starts: only the states that it comes to are counted.
    pub leads_on_complete : (q : ℕ) → Hope q → leads_on L L.states q ≡ true
    leads_on_complete q (w, f, k, a) =
        let c = cut_loops q w f k in
        run_found L.states q c.0 f c.1 (distinct_bounded L.states c.0 c.2 (run_below q c.0 f c.1)) a

    pub leads_on_is : (q : ℕ) → (leads_on L L.states q ≡ true) ↔ Hope q
    leads_on_is q = (leads_on_sound L.states q, leads_on_complete q)

    pub usable_is : (q : ℕ) (e : End L.Step) → (usable L q e ≡ true) ↔ Usable L q e
    unfolding usable
    usable_is q stop = ((λ h. h), (λ h. h))
    usable_is q (by t) = (ahead, λ (r, e, w, f, k, a). some_test_intro hope (L.next q (L.label t)) r e (leads_on_complete r (w, f, k, a)))
      where
        hope : ℕ → Bool
        hope = leads_on L L.states

        ahead : usable L q (by t) ≡ true → Usable L q (by t)
        ahead h =
            let (r, e, u) = some_test_elim hope (L.next q (L.label t)) h in
            let (w, f, k, a) = leads_on_sound L.states r u in
            (r, e, w, f, k, a)
