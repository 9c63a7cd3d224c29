-- While the rows so far ascend, the quick test for a repeated edge finds one exactly if there is
-- one (specs/LookBack), and the rows so far ascend from row to row. Assumes nothing.
use Prim.Native.Nat.{ℕ, ◌<◌}
use mathlib.Core.Path.{◌≡◌, refl, sym, ap, ◌∙◌}
use mathlib.Core.Bool.{Bool, true, false, not, ◌&&◌, ◌||◌, true≢false}
use mathlib.Core.Logic.{◌⊎◌, inl, inr, ⊎_elim}
use mathlib.Core.List.Memᴰ
use mathlib.Core.List.{List, [], ◌∷◌}
use native.Mathlib.Omega.{arith}
use lib.Dec.{eqb, ltb}
use borrow.Author.Tests.{eqb-true, eq-eqb, ltb-false}
use Rattle.scope_graph.specs.Language.{◌∈◌}
use Rattle.scope_graph.proofs.Lists.{Two, here, there, and_left, and_right, and_both, true_false, not_true}
use Rattle.graph_rows.specs.Format.{Sequence, apart, edges, sections, section_at, edge_section}
use Rattle.graph_rows.specs.Admission.{Row, value, Sofar, taken, ascends, same_source, same_edge, repeats, follows}
use Rattle.graph_rows.specs.LookBack.{found_looking_back, quick_repeats, Ascended, SortedSofar, RepeatsTold}
use Rattle.graph_rows.proofs.KeyLaws.{KeyBefore, key_before, ascended_row}

abbrev edge_key : List ℕ
edge_key = (section_at edge_section).key

-- no row so far is the same edge, and one that is the same
pub repeats_none : (own : List Row) (row : Row) → ((a : Row) → a ∈ own → same_edge a row ≡ false) → repeats own row ≡ false
unfolding repeats
repeats_none [] row h = refl
repeats_none (a ∷ own) row h = rw (h a here) (repeats_none own row (λ b m. h b (there m)))

pub none_repeated : (own : List Row) (row : Row) → repeats own row ≡ false → (a : Row) → a ∈ own → same_edge a row ≡ false
unfolding repeats
none_repeated [] row h a m = absurd (Memᴰ.not-nil m)
none_repeated (b ∷ own) row h a m = by (same_edge b row) refl h (λ f n. none_repeated own row f a n)
  where
    by : (t : Bool) → same_edge b row ≡ t → (t || repeats own row) ≡ false → (repeats own row ≡ false → a ∈ own → same_edge a row ≡ false) → same_edge a row ≡ false
    by true e f later = absurd (true≢false f)
    by false e f later = ⊎_elim (λ q. rw q e) (λ n. later f n) (Memᴰ.cases_cons m)

-- By a key that begins with from and label, the rows between two of one from and label have both.
source_between : (key : List ℕ) (a b c : Row) → KeyBefore (0 ∷ 1 ∷ key) a b → KeyBefore (0 ∷ 1 ∷ key) b c → value a 0 ≡ value c 0 → value a 1 ≡ value c 1
    → (value b 0 ≡ value c 0) × (value b 1 ≡ value c 1)
source_between key a b c (inl p) (inl q) e f = absurd (omega arith)
source_between key a b c (inl p) (inr q) e f = absurd (let g = q.0 in omega arith)
source_between key a b c (inr p) (inl q) e f = absurd (let g = p.0 in omega arith)
source_between key a b c (inr p) (inr q) e f =
    let l : (value a 1 < value b 1) ⊎ (value a 1 ≡ value b 1) = ⊎_elim (λ x. inl x) (λ x. inr x.0) p.1 in
    let m : (value b 1 < value c 1) ⊎ (value b 1 ≡ value c 1) = ⊎_elim (λ x. inl x) (λ x. inr x.0) q.1 in
    (q.0, ⊎_elim (λ x. absurd (⊎_elim (λ y. omega arith) (λ y. omega arith) l)) (λ x. x) m)

source_same : (a b c : Row) → KeyBefore edge_key a b → KeyBefore edge_key b c → same_source a c ≡ true → same_source b c ≡ true
unfolding section_at sections edges same_source
source_same a b c p q h =
    let r = source_between (3 ∷ 2 ∷ []) a b c p q (eqb-true _ _ (and_left _ _ h)) (eqb-true _ _ (and_right (eqb (value a 0) (value c 0)) _ h)) in
    and_both _ _ (eq-eqb (value b 0) (value c 0) r.0) (eq-eqb (value b 1) (value c 1) r.1)

-- no row above one of turn 0 is the same edge
first_turn : (a b : Row) → KeyBefore edge_key a b → same_edge a b ≡ true → ¬ (value b 3 ≡ 0)
unfolding section_at sections edges same_edge same_source
first_turn a b k h z =
    let s = and_left _ _ h in
    let from : value a 0 ≡ value b 0 = eqb-true _ _ (and_left _ _ s) in
    let label : value a 1 ≡ value b 1 = eqb-true _ _ (and_right (eqb (value a 0) (value b 0)) _ s) in
    let to : value a 2 ≡ value b 2 = eqb-true _ _ (and_right (eqb (value a 0) (value b 0) && eqb (value a 1) (value b 1)) _ h) in
    ⊎_elim (λ l. omega arith) (λ e. ⊎_elim (λ l. omega arith) (λ f. ⊎_elim (λ l. omega arith) (λ g. ⊎_elim (λ l. omega arith) (λ i. i.1) g.1) f.1) e.1) k

-- the rows directly above that have the row's from and label are all that have
found_all : (own : List Row) (row : Row) → Ascended edge_key (row ∷ own) → found_looking_back own row ≡ repeats own row
unfolding found_looking_back repeats same_edge
found_all [] row h = refl
found_all (a ∷ above) row h = by (same_source a row) refl (found_all above row ((λ b m. h.0 b (there m)), h.1.1))
  where
    other : same_source a row ≡ false → (b : Row) → b ∈ above → same_edge b row ≡ false
    other e b m =
        not_true _
        (λ s. true_false (source_same b a row (key_before edge_key b a (h.1.0 b m)) (key_before edge_key a row (h.0 a here)) (and_left _ _ s)) e)

    by : (t : Bool) → same_source a row ≡ t → found_looking_back above row ≡ repeats above row
        → (same_source a row && (eqb (value a 2) (value row 2) || found_looking_back above row))
        ≡ ((same_source a row && eqb (value a 2) (value row 2)) || repeats above row)
    by true e r = rw (e, r)
    by false e r = rw e (sym (repeats_none above row (other e)))

pub repeats_told : RepeatsTold
unfolding quick_repeats
repeats_told own row h =
    ⊎_elim (λ l. rw l (found_all own row h))
    (λ l. rw l (sym (repeats_none own row (λ a m. not_true _ (λ s. first_turn a row (key_before edge_key a row (h.0 a m)) s (let z = ltb-false 0 (value row 3) l in omega arith))))))
    (Two (ltb 0 (value row 3)))

-- a row that ascends after rows that do
pub repeats_quick : (own : List Row) (row : Row) → Ascended edge_key own → ascends edge_key own row ≡ true → quick_repeats own row ≡ repeats own row
repeats_quick own row h a = repeats_told own row (ascended_row edge_key own row h a)

-- rows that follow as their section asks keep the rows so far in sequence
follow_apart : (q : Sequence) (key letters : List ℕ) (own : List Row) (row : Row) → apart ≡ q → follows q key letters own row ≡ true → ascends key own row ≡ true
unfolding follows
follow_apart q key letters own row e h =
    and_left (ascends key own row) (not (repeats own row)) (ap (λ (s : Sequence). follows s key letters own row) e ∙ h)

pub sorted_on : (k : ℕ) (st : Sofar) (row : Row) → follows (section_at k).sequence (section_at k).key st.letters st.own row ≡ true → SortedSofar k st.own
    → SortedSofar k (taken k st row).own
unfolding taken
sorted_on k st row f s e =
    ascended_row (section_at k).key st.own row (s e) (follow_apart (section_at k).sequence (section_at k).key st.letters st.own row e f)
