-- The steps that are taken from a row, one by one, over plain lists; and how they are gone through
-- then. Assumes nothing.
use mathlib.Core.Path.{◌≡◌, refl, sym, ap, ◌∙◌}
use mathlib.Core.List.{List, [], ◌∷◌, ◌++◌, append_assoc, append-nil}
use Prim.Native.Nat.{ℕ, zero, suc, ◌+◌, ◌-◌, ◌≤◌, ◌<◌, min}
use native.Mathlib.Omega.{arith}
use native.Mathlib.Numerals.{add-one}
use lib.ListN.{length, get_or, set, take, drop, replicate, length-append, length-take, drop_of_length-le}
use lib.Seq.{drop-cons, set_at, append_snoc, take_at, take_all}
use lib.Dec.{leb}
use borrow.Author.Tests.{leb-true, leb-false}
use mathlib.Core.Bool.{true, false}
use mathlib.Core.Logic.{⊎_elim}
use Rattle.scope_graph.proofs.Lists.{Two}
use Rattle.std.proofs.Math.Nat.{min-eq_left, min_comm, min-le_left}
use Rattle.std.proofs.lemmas.List.{get_or-take, take-append-le, length-replicate}
use Rattle.std.specs.declared.option.Option.{Option}
use Rattle.std.specs.declared.option.Option.TheVariants.{Some, None}
use Rattle.path_row.specs.declared.form.Step.{Step}
use Rattle.path_row.specs.declared.taken.Steps.{Steps}
use Rattle.path_row.specs.Form.{steps_of, step_meaning, step_from, no_step, steps_taken, steps_at_hand, padded, steps_held}
use Rattle.path_row.specs.Promises.{HeldAreTaken, HeldAreAtHand}
use Rattle.path_row.proofs.Steps.{steps_next, steps_none}

-- what is held of steps is those steps again
pub taken_held : HeldAreTaken
unfolding steps_taken padded
taken_held ss =
    let zeros = replicate (length ss) no_step in
    rw (append_assoc ss (replicate (63 - length ss) no_step) zeros) (take_at ss (replicate (63 - length ss) no_step ++ zeros) (length ss) refl)

-- and all of them are at hand
pub at_hand_held : HeldAreAtHand
unfolding steps_at_hand padded
at_hand_held ss = take_at ss (replicate (63 - length ss) no_step) (length ss) refl

-- so of a value that was made of steps those at hand are those taken
pub at_hand_all : (t : Steps) (ss : List Step) → t ≡ steps_held ss → steps_at_hand t ≡ steps_taken t
at_hand_all t ss e = ap steps_at_hand e ∙ at_hand_held ss ∙ sym (ap steps_taken e ∙ taken_held ss)

-- one step more takes the place of the first one of zeros
padded_more : (xs : List Step) (n : ℕ) (x : Step) → length xs ≡ n → n < 63 → set (padded xs) n x ≡ padded (xs ++ (x ∷ []))
unfolding padded
padded_more xs n x e h =
    let f : 63 - length xs ≡ suc (62 - n) = omega (arith, e) in
    let g : 63 - length (xs ++ (x ∷ [])) ≡ 62 - n = omega (arith, e, length-append xs (x ∷ [])) in
    ap (λ (m : ℕ). set (xs ++ replicate m no_step) n x) f
    ∙ set_at xs no_step (replicate (62 - n) no_step) x n e
    ∙ sym (append_snoc xs x (replicate (62 - n) no_step))
    ∙ ap (λ (m : ℕ). (xs ++ (x ∷ [])) ++ replicate m no_step) (sym g)

-- Steps are taken from a row: those taken, and those that stand from place `at` on, make the whole.
pub record Taking (row : List ℕ) (whole held : List Step) (at n : ℕ) : Type 0 where
  pub taken : List Step
  pub counted : length taken ≡ n
  pub steps : held ≡ padded taken
  pub makes : taken ++ steps_of (63 - n) (drop at row) ≡ whole

module _ (row : List ℕ) (whole held : List Step) (at n : ℕ) (g : Taking row whole held at n) where
  -- nothing is left
  all_taken : steps_of (63 - n) (drop at row) ≡ [] → record { steps = held; count = n } ≡ steps_held whole
  all_taken e =
      (λ i. record { steps = g.steps i; count = sym g.counted i })
      ∙ ap steps_held (sym (append-nil g.taken) ∙ ap (λ (y : List Step). g.taken ++ y) (sym e) ∙ g.makes)

  pub taking_full : 63 ≤ n → record { steps = held; count = n } ≡ steps_held whole
  unfolding steps_of
  taking_full h = let z : 63 - n ≡ 0 = omega arith in all_taken (rw z)

  module _ (a : Option (Step × ℕ)) (e : step_meaning a ≡ step_from at row) where
    pub taking_ends : a ≡ None → record { steps = held; count = n } ≡ steps_held whole
    taking_ends f = all_taken (steps_none row at (63 - n) a e f)

    pub taking_on : (step : Step) (next : ℕ) → a ≡ Some (step, next) → n < 63 → Taking row whole (set held n step) next (n + 1)
    taking_on step next f h = record {
      taken = g.taken ++ (step ∷ []);
      counted = let l = length-append g.taken (step ∷ []) in omega (arith, l, g.counted);
      steps = ap (λ (z : List Step). set z n step) g.steps ∙ padded_more g.taken n step g.counted h;
      makes =
          let z : 63 - (n + 1) ≡ (63 - n) - 1 = omega arith in
          rw z
          (append_assoc g.taken (step ∷ []) (steps_of ((63 - n) - 1) (drop next row))
          ∙ ap (λ (y : List Step). g.taken ++ y) (sym (steps_next row at (63 - n) a e step next f (omega arith)))
          ∙ g.makes);
    }

-- a count past the end takes all
pub take_least : (n m : ℕ) (l : List Step) → length l ≤ m → take (min n m) l ≡ take n l
take_least n m l h =
    ⊎_elim
    (λ (e : leb n m ≡ true). rw (min-eq_left {n = n} {m = m} (leb-true n m e)))
    (λ (e : leb n m ≡ false). let f = leb-false n m e in rw (min_comm n m, min-eq_left {n = m} {m = n} (omega arith)) (take_all m l h ∙ sym (take_all n l (omega arith))))
    (Two (leb n m))

-- no step stands past the end of steps
none_past : (ts : List Step) (k : ℕ) → length ts ≤ k → get_or ts k no_step ≡ no_step
none_past [] k h = refl
none_past (s ∷ ts) zero h = absurd (omega arith)
none_past (s ∷ ts) (suc k) h = none_past ts k (omega arith)

-- so steps of zeros behind them add none
zeros_behind : (ts : List Step) (n i : ℕ) → get_or (ts ++ replicate n no_step) i no_step ≡ get_or ts i no_step
zeros_behind [] n i = all_zeros n i
  where
    all_zeros : (n i : ℕ) → get_or (replicate n no_step) i no_step ≡ no_step
    all_zeros zero i = refl
    all_zeros (suc n) zero = refl
    all_zeros (suc n) (suc i) = all_zeros n i
zeros_behind (s ∷ ts) n zero = refl
zeros_behind (s ∷ ts) n (suc i) = zeros_behind ts n i

module _ (t : Steps) where
  -- as many are taken as are counted
  pub taken_length : length (steps_taken t) ≡ t.count
  unfolding steps_taken
  taken_length =
      length-take t.count (t.steps ++ replicate t.count no_step)
      ∙ min-eq_left (omega (arith, length-append t.steps (replicate t.count no_step), length-replicate t.count no_step))

  pub taken_few : length (steps_taken t) ≤ t.count
  taken_few = omega (arith, taken_length)

  -- and at most as many are at hand
  pub at_hand_few : length (steps_at_hand t) ≤ t.count
  unfolding steps_at_hand
  at_hand_few = rw (length-take t.count t.steps) (min-le_left t.count (length t.steps))

  -- where no more are counted than stand there, all are at hand
  pub at_hand_taken : t.count ≤ length t.steps → steps_at_hand t ≡ steps_taken t
  unfolding steps_at_hand steps_taken
  at_hand_taken h = sym (take-append-le t.count t.steps (replicate t.count no_step) h)

  -- those at hand are the first ones
  pub at_hand_first : take (length (steps_at_hand t)) (steps_taken t) ≡ steps_at_hand t
  unfolding steps_at_hand steps_taken
  at_hand_first = front t.count t.steps (replicate t.count no_step)
    where
      front : (n : ℕ) (l zeros : List Step) → take (length (take n l)) (take n (l ++ zeros)) ≡ take n l
      front zero l zeros = refl
      front (suc n) [] zeros = refl
      front (suc n) (s ∷ l) zeros = ap (λ (z : List Step). s ∷ z) (front n l zeros)

  module _ (i : ℕ) where
    pub taken_past : t.count ≤ i → no_step ≡ get_or (steps_taken t) i no_step
    taken_past h = sym (none_past (steps_taken t) i (omega (arith, taken_length)))

    pub taken_at : i < t.count → (s : Step) → s ≡ get_or t.steps i no_step → s ≡ get_or (steps_taken t) i no_step
    unfolding steps_taken
    taken_at h s e = e ∙ sym (get_or-take t.count (t.steps ++ replicate t.count no_step) i no_step h ∙ zeros_behind t.steps t.count i)

    -- past those at hand stands a step of zeros
    pub at_hand_get : get_or (steps_at_hand t) i no_step ≡ get_or (steps_taken t) i no_step
    unfolding steps_at_hand
    at_hand_get =
        ⊎_elim
        (λ (e : leb t.count i ≡ true). let h = leb-true t.count i e in none_past (steps_at_hand t) i (omega (arith, at_hand_few)) ∙ taken_past h)
        (λ (e : leb t.count i ≡ false). let h = leb-false t.count i e in taken_at (omega arith) _ (get_or-take t.count t.steps i no_step (omega arith)))
        (Two (leb t.count i))

    -- the steps from step i on: none, or that one and those behind it
    pub taken_none : t.count ≤ i → drop i (steps_taken t) ≡ []
    taken_none h = drop_of_length-le (steps_taken t) {i = i} (omega (arith, taken_length))

    pub taken_next : i < t.count → (s : Step) → s ≡ get_or (steps_taken t) i no_step → drop i (steps_taken t) ≡ s ∷ drop (i + 1) (steps_taken t)
    taken_next h s e = rw (e, add-one i) (drop-cons (steps_taken t) i no_step (omega (arith, taken_length)))
