-- The rows that an expression becomes, as an automaton: the next state and the accepting states are
-- those of the table that they are made of. Assumes nothing.
use Prim.Native.Nat.{ℕ, zero, suc, ◌+◌, ◌*◌, ◌/◌, ◌%◌, ◌≤◌, ◌<◌}
use mathlib.Core.Path.{◌≡◌, refl, sym, ap, ◌∙◌}
use mathlib.Core.Bool.{Bool, true, false, ◌&&◌}
use mathlib.Core.Logic.{⊎_elim}
use mathlib.Core.Option.{Option, some, none}
use mathlib.Core.List.Memᴰ
use mathlib.Core.List.{List, [], ◌∷◌, map}
use native.Mathlib.Omega.{arith}
use lib.Dec.{eqb, ltb}
use lib.ListN.{get_or}
use borrow.Author.Tests.{eqb-true, eq-eqb, ltb-false, lt-ltb}
use Rattle.scope_graph.specs.Language.{◌∈◌}
use Rattle.scope_graph.specs.Rows.{Transition, any_of, next_by}
use Rattle.scope_graph.proofs.Lists.{Two, true_false, and_left, and_right, and_both, here, there, any_of_intro, any_of_false, map_intro, map_elim}
use Rattle.graph_rows.specs.Admission.{Row, value}
use Rattle.graph_rows.specs.Decode.{kept_if, transition_of}
use Rattle.path_rules.specs.Table.{leads_to, Over, Decides}
use Rattle.path_rules.specs.Rules.{target}
use Rattle.path_rules.proofs.Fill.{below_suc}
use Rattle.ruled.specs.Ruled.{rows_to, is_transition, is_accepting, transition_at, accept_at, transitions_to, accepts_to}
use Rattle.ruled.proofs.RowLaws.{transition, accepting, rows_of, transition_is, accept_is}

-- the next state by rows of which those of a state and a label agree
next_some : (ts : List Transition) (q l n : ℕ) (t : Transition) → t ∈ ts → t.state ≡ q → t.label ≡ l
    → ((u : Transition) → u ∈ ts → u.state ≡ q → u.label ≡ l → u.next ≡ n) → next_by ts q l ≡ some n
unfolding next_by
next_some [] q l n t m a b all = absurd (Memᴰ.not-nil m)
next_some (u ∷ ts) q l n t m a b all =
    ⊎_elim
    (λ (y : (eqb u.state q && eqb u.label l) ≡ true).
    rw (y, next_by) (ap (λ (x : ℕ). some x) (all u here (eqb-true u.state q (and_left _ _ y)) (eqb-true u.label l (and_right (eqb u.state q) _ y)))))
    (λ (z : (eqb u.state q && eqb u.label l) ≡ false).
    let rest : t ∈ ts =
    ⊎_elim
    (λ (e : t ≡ u).
    absurd (true_false (and_both _ _ (eq-eqb u.state q (ap (λ (x : Transition). x.state) (sym e) ∙ a)) (eq-eqb u.label l (ap (λ (x : Transition). x.label) (sym e) ∙ b))) z))
    (λ k. k)
    (Memᴰ.cases_cons m) in
    rw (z, next_by) (next_some ts q l n t rest a b (λ v k. all v (there k))))
    (Two (eqb u.state q && eqb u.label l))

next_none : (ts : List Transition) (q l : ℕ) → ((u : Transition) → u ∈ ts → u.state ≡ q → u.label ≡ l → ⊥) → next_by ts q l ≡ none
unfolding next_by
next_none [] q l apart = refl
next_none (u ∷ ts) q l apart =
    ⊎_elim
    (λ (y : (eqb u.state q && eqb u.label l) ≡ true).
    absurd (apart u here (eqb-true u.state q (and_left _ _ y)) (eqb-true u.label l (and_right (eqb u.state q) _ y))))
    (λ (z : (eqb u.state q && eqb u.label l) ≡ false). rw (z, next_by) (next_none ts q l (λ v k. apart v (there k))))
    (Two (eqb u.state q && eqb u.label l))

-- a cell's row is among all rows
rows_in_lem : (f : ℕ → List Row) (n k : ℕ) (row : Row) → k < n → row ∈ f k → row ∈ rows_to f n
unfolding rows_to
rows_in_lem f zero k row h m = absurd (omega arith)
rows_in_lem f (suc n) k row h m =
    ⊎_elim (λ (y : k < n). Memᴰ.append_left (f n) (rows_in_lem f n k row y m)) (λ (e : k ≡ n). Memᴰ.append_right (rows_to f n) (rw e at m)) (below_suc k n h)

kept_in : (t : Bool) (row : Row) → t ≡ true → row ∈ kept_if t row []
unfolding kept_if
kept_in true row e = here
kept_in false row e = absurd (true_false e refl)

module _ (next : List ℕ) (states labels : ℕ) where
  abbrev to : ℕ → ℕ
  to k = get_or next k 0

  abbrev rows : List Row
  rows = transitions_to next states labels 128

  -- what a row of the automaton is
  of_cell : (u : Transition) → u ∈ map transition_of rows → (j : ℕ) × (j < 128) × (u.state ≡ j / 8) × (u.label ≡ j % 8) × (u.next ≡ to j) × (to j < 16) × (j % 8 < labels) × (j / 8 < states)
  unfolding transition_of transitions_to
  of_cell u m =
      let a = map_elim transition_of rows m in
      let r = rows_of _ 128 a.0 a.1 in
      let e = transition_is next states labels r.0 a.0 r.2 in
      let is : u ≡ transition_of (transition r.0 (to r.0)) = a.2 ∙ ap transition_of e.0 in
      (r.0, r.1, ap (λ (x : Transition). x.state) is, ap (λ (x : Transition). x.label) is, ap (λ (x : Transition). x.next) is, e.3, e.2, e.1)

  pub next_is : (q l : ℕ) → q < states → q < 16 → l < labels → l < 8 → next_by (map transition_of rows) q l ≡ target (to (q * 8 + l))
  unfolding target transition_of transitions_to transition_at is_transition
  next_is q l h s i e =
      let k : ℕ = q * 8 + l in
      let high : (q * 8 + l) / 8 ≡ q = omega arith in
      let low : (q * 8 + l) % 8 ≡ l = omega arith in
      let same : (j : ℕ) → j / 8 ≡ q → j % 8 ≡ l → j ≡ q * 8 + l = λ j a b. omega arith in
      ⊎_elim
      (λ (y : ltb (to (q * 8 + l)) 16 ≡ true).
      let there_is : transition (q * 8 + l) (to (q * 8 + l)) ∈ rows =
      rows_in_lem _ 128 (q * 8 + l) _ (omega arith)
      (kept_in (is_transition states labels (q * 8 + l) (to (q * 8 + l))) _
      (and_both _ _ (lt-ltb ((q * 8 + l) / 8) states (omega arith)) (and_both _ _ (lt-ltb ((q * 8 + l) % 8) labels (omega arith)) y))) in
      next_some (map transition_of rows) q l (to (q * 8 + l)) (transition_of (transition (q * 8 + l) (to (q * 8 + l)))) (map_intro transition_of there_is) high low
      (λ u m a b. let c = of_cell u m in c.4 ∙ ap to (same c.0 (sym c.2 ∙ a) (sym c.3 ∙ b)))
      ∙ sym (rw (y, target)))
      (λ (z : ltb (to (q * 8 + l)) 16 ≡ false).
      next_none (map transition_of rows) q l
      (λ u m a b.
      let c = of_cell u m in
      let at : to c.0 ≡ to (q * 8 + l) = ap to (same c.0 (sym c.2 ∙ a) (sym c.3 ∙ b)) in
      let less = c.5 in
      let least = ltb-false (to (q * 8 + l)) 16 z in
      omega arith)
      ∙ sym (rw (z, target)))
      (Two (ltb (to (q * 8 + l)) 16))

  pub no_label : (q l : ℕ) → labels ≤ l → next_by (map transition_of rows) q l ≡ none
  no_label q l h =
      next_none (map transition_of rows) q l
      (λ u m a b. let c = of_cell u m in let at = c.3 in let low = c.6 in omega arith)

  pub no_state : (q l : ℕ) → states ≤ q → next_by (map transition_of rows) q l ≡ none
  no_state q l h =
      next_none (map transition_of rows) q l
      (λ u m a b. let c = of_cell u m in let at = c.2 in let low = c.7 in omega arith)

module _ (cells : List Bool) (states : ℕ) where
  abbrev cell : ℕ → Bool
  cell q = get_or cells q false

  abbrev firsts : List ℕ
  firsts = map (λ (row : Row). value row 0) (accepts_to cells states 16)

  -- what an accepting state is
  of_accepting : (a : ℕ) → a ∈ firsts → (a < states) × (cell a ≡ true)
  unfolding accepts_to
  of_accepting a m =
      let b = map_elim (λ (row : Row). value row 0) (accepts_to cells states 16) m in
      let r = rows_of _ 16 b.0 b.1 in
      let i = accept_is cells states r.0 b.0 r.2 in
      let at : a ≡ r.0 = b.2 ∙ ap (λ (row : Row). value row 0) i.0 in
      let less : r.0 < states = i.1 in
      (omega arith, ap cell at ∙ i.2)

  pub accepts_is : (q : ℕ) → q < states → q < 16 → any_of (eqb q) firsts ≡ cell q
  unfolding accepts_to accept_at is_accepting
  accepts_is q h s =
      ⊎_elim
      (λ (y : cell q ≡ true).
      any_of_intro (eqb q) (map_intro (λ (row : Row). value row 0) (rows_in_lem _ 16 q (accepting q) s (kept_in (is_accepting states q (cell q)) _ (and_both _ _ (lt-ltb q states h) y)))) (eq-eqb q q refl)
      ∙ sym y)
      (λ (z : cell q ≡ false).
      any_of_false (eqb q) firsts
      (λ a m e. true_false (of_accepting a m).1 (ap cell (sym (eqb-true q a e)) ∙ z))
      ∙ sym z)
      (Two (cell q))

  pub accepts_none : (q : ℕ) → states ≤ q → any_of (eqb q) firsts ≡ false
  accepts_none q h =
      any_of_false (eqb q) firsts
      (λ a m e. let is : q ≡ a = eqb-true q a e in let less = (of_accepting a m).0 in omega arith)

pub none_some : (x : ℕ) → ◌≡◌ {A = Option ℕ} none (some x) → ⊥
none_some x e = let z : ◌≡◌ {A = ℕ} 0 1 = cc in omega arith

-- two tables that agree on the states below m and the labels below n
module _ (n m : ℕ) (P : List ℕ → Type 0) (f g : ℕ → ℕ → Option ℕ) (a b : ℕ → Bool)
    (agree : (q l : ℕ) → q < m → l < n → f q l ≡ g q l) (agree_on : (q : ℕ) → q < m → a q ≡ b q) (d : Decides n P m g b) where
  Same : ℕ → List ℕ → Type 0
  Same q w = (leads_to f q w ≡ leads_to g q w) × ((r : ℕ) → leads_to g q w ≡ some r → r < m)

  some_same : (x y : ℕ) → ◌≡◌ {A = Option ℕ} (some x) (some y) → x ≡ y
  some_same x y e = cc

  leads_same : (w : List ℕ) → Over n w → (q : ℕ) → q < m → Same q w
  unfolding Same leads_to
  leads_same [] o q h = (refl, λ r e. rw (some_same q r e) at h)
  leads_same (l ∷ w) o q h = by (leads_same w o.1) (g q l) refl
    where
      by : ((r : ℕ) → r < m → Same r w) → (x : Option ℕ) → g q l ≡ x → Same q (l ∷ w)
      by ih none e = let ef : f q l ≡ none = agree q l h o.0 ∙ e in rw (ef, e, leads_to) (refl, λ r z. absurd (none_some r z))
      by ih (some r) e = let ef : f q l ≡ some r = agree q l h o.0 ∙ e in rw (ef, e, leads_to) (ih r (d.inside q l r h o.0 e))

  pub decides_same : Decides n P m f a
  unfolding Same
  decides_same = record {
    start = d.start;
    inside = λ q l r h i e. d.inside q l r h i (sym (agree q l h i) ∙ e);
    words = λ w o.
        let s = leads_same w o 0 d.start in (
          (λ p. let x = (d.words w o).0 p in (x.0, s.0 ∙ x.1, agree_on x.0 (s.1 x.0 x.1) ∙ x.2)),
          (λ x. let e = sym s.0 ∙ x.1 in (d.words w o).1 (x.0, e, sym (agree_on x.0 (s.1 x.0 e)) ∙ x.2)),
        );
  }

-- fewer labels
over_up : (n k : ℕ) (w : List ℕ) → n ≤ k → Over n w → Over k w
over_up n k [] h o = tt
over_up n k (l ∷ w) h o = let x = o.0 in (omega arith, over_up n k w h o.1)

pub decides_fewer : (n k m : ℕ) (P : List ℕ → Type 0) (f : ℕ → ℕ → Option ℕ) (a : ℕ → Bool) → n ≤ k → Decides k P m f a → Decides n P m f a
decides_fewer n k m P f a h d = record {
  start = d.start;
  inside = λ q l r i j e. d.inside q l r i (omega arith) e;
  words = λ w o. d.words w (over_up n k w h o);
}
