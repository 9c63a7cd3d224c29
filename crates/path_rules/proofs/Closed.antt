-- The sets that are found are those of all words: the list holds each once, and whatever a label
-- leads into one of them. Assumes nothing.
use Prim.Native.Nat.{ℕ, zero, suc, ◌+◌, ◌*◌, ◌/◌, ◌%◌, ◌<◌, ◌≤◌}
use mathlib.Core.Path.{◌≡◌, sym, ap, ◌∙◌, subst}
use mathlib.Core.Bool.{true, false}
use mathlib.Core.Logic.{◌⊎◌, inl, inr, ⊎_elim}
use mathlib.Core.List.Memᴰ
use mathlib.Core.List.{List, [], ◌∷◌, ◌++◌}
use native.Mathlib.Omega.{arith}
use native.Mathlib.Numerals.{add-one}
use lib.Dec.{eqb, ltb}
use lib.ListN.{length, get_or, set, take, replicate, length-set, length-replicate, get_or-append}
use lib.Pow.{high, low}
use lib.Seq.{take-suc-set, length-take-le, get_or-take}
use borrow.Author.Tests.{ltb-true, ltb-false}
use Rattle.scope_graph.specs.Language.{◌∈◌}
use Rattle.scope_graph.specs.Path.{Distinct}
use Rattle.scope_graph.specs.Rows.{any_of}
use Rattle.scope_graph.proofs.Lists.{Two, here, there}
use Rattle.scope_graph.proofs.Pigeon.{in_true, not_in, distinct_bounded}
use Rattle.path_rules.specs.Table.{Over}
use Rattle.path_rules.specs.Vectors.{end_set, before, vectors_of, is_new, noted, note_turn, first_found, turns, vectors}
use Rattle.path_rules.specs.declared.vectors.Found.{Found}
use Rattle.path_rules.proofs.Fill.{below_suc}
use Rattle.path_rules.proofs.VectorLaws.{vector_of, before_lt}

-- members by their places
pub place_in : (l : List ℕ) (i : ℕ) → i < length l → get_or l i 0 ∈ l
place_in [] i h = absurd (omega arith)
place_in (x ∷ l) zero h = here
place_in (x ∷ l) (suc i) h = there (place_in l i (omega arith))

pub in_place_lem : (v : ℕ) (l : List ℕ) → v ∈ l → (i : ℕ) × (i < length l) × (get_or l i 0 ≡ v)
in_place_lem v [] m = absurd (Memᴰ.not-nil m)
in_place_lem v (x ∷ l) m =
    ⊎_elim (λ e. (0, omega arith, sym e)) (λ k. let (i, b, e) = in_place_lem v l k in (suc i, omega arith, e)) (Memᴰ.cases_cons m)

distinct_more : (l : List ℕ) (v : ℕ) → Distinct l → ¬ (v ∈ l) → Distinct (l ++ v ∷ [])
distinct_more [] v d n = ((λ m. Memᴰ.not-nil m), tt)
distinct_more (x ∷ l) v d n = (
  (λ m. ⊎_elim d.0 (λ k. n (Memᴰ.head (sym (Memᴰ.eq_of_singleton k)))) (Memᴰ.append_cases l m)),
  distinct_more l v d.1 (λ m. n (there m)),
)

module _ (after labels : List ℕ) where
  pub record Closed (k : ℕ) (f : Found) : Type 0 where
    pub room : length f.cells ≡ 2048
    pub within : f.count ≤ 2048
    pub first : end_set ∈ vectors_of f
    pub origin : (v : ℕ) → v ∈ vectors_of f → (w : List ℕ) × Over 8 w × (v ≡ vector_of after labels w)
    pub small : (v : ℕ) → v ∈ vectors_of f → v < 2048
    pub once : Distinct (vectors_of f)
    pub done : (j : ℕ) → j < k → j / 8 < length (vectors_of f) → before after labels (get_or (vectors_of f) (j / 8) 0) (j % 8) ∈ vectors_of f

  list_length : (f : Found) → length f.cells ≡ 2048 → f.count ≤ 2048 → length (vectors_of f) ≡ f.count
  unfolding vectors_of
  list_length f r w = length-take-le f.count f.cells (omega arith)

  list_at_lem : (f : Found) (i : ℕ) → i < f.count → get_or (vectors_of f) i 0 ≡ get_or f.cells i 0
  unfolding vectors_of
  list_at_lem f i h = get_or-take f.count f.cells i 0 h

  -- one more at the end of the list
  more_list : (f : Found) (v : ℕ) → f.count < length f.cells
      → vectors_of (record { cells = set f.cells f.count v; count = f.count + 1 }) ≡ vectors_of f ++ v ∷ []
  unfolding vectors_of
  more_list f v h = rw (add-one f.count) (take-suc-set f.cells f.count v h)

  earlier : (j k : ℕ) → j < suc k → j / 8 ≤ k / 8
  earlier j k h = omega arith

  module _ (k : ℕ) (f : Found) (c : Closed k f) (lt : k / 8 < f.count) where
    new : ℕ
    new = before after labels (get_or f.cells (k / 8) 0) (k % 8)

    size_is : length (vectors_of f) ≡ f.count
    size_is = list_length f c.room c.within

    origin_new : (w : List ℕ) × Over 8 w × (new ≡ vector_of after labels w)
    unfolding vector_of new
    origin_new =
        let (w, o, e) = c.origin (get_or (vectors_of f) (k / 8) 0) (place_in (vectors_of f) (k / 8) (let z = size_is in omega arith)) in
        (k % 8 ∷ w, (omega arith, o), ap (λ v. before after labels v (k % 8)) (sym (list_at_lem f (k / 8) lt) ∙ e))

    -- noted already
    closed_known : new ∈ vectors_of f → Closed (suc k) f
    unfolding new
    closed_known m = record {
      room = c.room;
      within = c.within;
      first = c.first;
      origin = c.origin;
      small = c.small;
      once = c.once;
      done = λ j b g.
          ⊎_elim (λ (h : j < k). c.done j h g)
          (λ (h : j ≡ k). rw h (subst (λ y. before after labels y (k % 8) ∈ vectors_of f) (sym (list_at_lem f (k / 8) lt)) m)) (below_suc j k b);
    }

    -- new
    closed_more : ¬ (new ∈ vectors_of f) → f.count < length f.cells → Closed (suc k) (record { cells = set f.cells f.count new; count = f.count + 1 })
    unfolding new
    closed_more n h =
        let e = more_list f new h in let z = size_is in let r = c.room in
        let l = vectors_of f in
        record {
          room = length-set f.cells f.count new ∙ r;
          within = omega arith;
          first = rw e (Memᴰ.append_left (new ∷ []) c.first);
          origin = λ v m. ⊎_elim (c.origin v) (λ s. let q : v ≡ new = Memᴰ.eq_of_singleton s in rw q origin_new) (Memᴰ.append_cases l (rw e at m));
          small = λ v m. ⊎_elim (c.small v) (λ s. let q : v ≡ new = Memᴰ.eq_of_singleton s in rw q (before_lt after labels (get_or f.cells (k / 8) 0) (k % 8))) (Memᴰ.append_cases l (rw e at m));
          once = rw e (distinct_more l new c.once n);
          done = λ j b g. rw e (next j b);
        }
      where
        next : (j : ℕ) → j < suc k → before after labels (get_or (vectors_of f ++ new ∷ []) (j / 8) 0) (j % 8) ∈ (vectors_of f ++ new ∷ [])
        next j b =
            let y = earlier j k b in let z = size_is in
            let i : j / 8 < length (vectors_of f) = omega arith in
            rw (get_or-append (vectors_of f) (new ∷ []) 0 (j / 8) i)
            (⊎_elim (λ (h : j < k). Memᴰ.append_left (new ∷ []) (c.done j h i))
            (λ (h : j ≡ k). rw (h, list_at_lem f (k / 8) lt) (Memᴰ.append_right (vectors_of f) here)) (below_suc j k b))

    -- the list is full only if nothing is new
    full_known : 2048 ≤ f.count → ¬ (new ∈ vectors_of f) → ⊥
    unfolding new
    full_known h n =
        let z = size_is in
        let s : (v : ℕ) → v ∈ (new ∷ vectors_of f) → v < 2048 = λ v m.
        ⊎_elim (λ e. rw e (before_lt after labels (get_or f.cells (k / 8) 0) (k % 8))) (c.small v) (Memᴰ.cases_cons m) in
        let b : suc (length (vectors_of f)) ≤ 2048 = distinct_bounded 2048 (new ∷ vectors_of f) (n, c.once) s in
        omega arith

    closed_noted : Closed (suc k) (noted f new)
    unfolding noted is_new vectors_of
    closed_noted = at (Two (ltb f.count (length f.cells))) (Two (any_of (eqb new) (take f.count f.cells)))
      where
        at : (ltb f.count (length f.cells) ≡ true) ⊎ (ltb f.count (length f.cells) ≡ false)
            → (any_of (eqb new) (take f.count f.cells) ≡ true) ⊎ (any_of (eqb new) (take f.count f.cells) ≡ false)
            → Closed (suc k) (noted f new)
        at (inl a) (inl b) = rw (a, b, noted) (closed_known (in_true new (vectors_of f) b))
        at (inl a) (inr b) = rw (a, b, noted) (closed_more (not_in new (vectors_of f) b) (ltb-true _ _ a))
        at (inr a) (inl b) = rw (a, noted) (closed_known (in_true new (vectors_of f) b))
        at (inr a) (inr b) = absurd (full_known (let r = c.room in let y = ltb-false f.count (length f.cells) a in omega arith) (not_in new (vectors_of f) b))

  closed_turn : (k : ℕ) (f : Found) → Closed k f → Closed (suc k) (note_turn after labels k f)
  unfolding note_turn new
  closed_turn k f c = at (Two (ltb (k / 8) f.count))
    where
      at : (ltb (k / 8) f.count ≡ true) ⊎ (ltb (k / 8) f.count ≡ false) → Closed (suc k) (note_turn after labels k f)
      at (inl e) = rw (e, note_turn) (closed_noted k f c (ltb-true _ _ e))
      at (inr e) = rw (e, note_turn) record {
        room = c.room;
        within = c.within;
        first = c.first;
        origin = c.origin;
        small = c.small;
        once = c.once;
        done = λ j b g.
            ⊎_elim (λ (h : j < k). c.done j h g)
            (λ (h : j ≡ k). absurd (let y = ltb-false (k / 8) f.count e in let z = list_length f c.room c.within in
            let q : j / 8 ≡ k / 8 = ap (λ (v : ℕ). v / 8) h in omega arith)) (below_suc j k b);
      }

  first_found_lem : (cells : List ℕ) → length cells ≡ 2048 → vectors_of (record { cells = set cells 0 end_set; count = 1 }) ≡ end_set ∷ []
  unfolding vectors_of
  first_found_lem cells h = take-suc-set cells 0 end_set (omega arith)

  closed_first : (cells : List ℕ) → length cells ≡ 2048 → Closed 0 (record { cells = set cells 0 end_set; count = 1 })
  unfolding vector_of
  closed_first cells h =
      let e = first_found_lem cells h in
      record {
        room = length-set cells 0 end_set ∙ h;
        within = omega arith;
        first = rw e here;
        origin = λ v m. ([], tt, Memᴰ.eq_of_singleton (rw e at m));
        small = λ v m. rw (Memᴰ.eq_of_singleton (rw e at m)) (omega arith);
        once = rw e ((λ m. Memᴰ.not-nil m), tt);
        done = λ j b g. absurd (omega arith);
      }

  closed_turns : (n : ℕ) (f : Found) → Closed 0 f → Closed n (turns after labels n f)
  unfolding turns
  closed_turns zero f c = c
  closed_turns (suc n) f c = closed_turn n (turns after labels n f) (closed_turns n f c)

  pub closed_all : Closed 16384 (vectors after labels)
  unfolding vectors first_found
  closed_all = closed_turns 16384 first_found (closed_first (replicate 2048 0) (length-replicate {A = ℕ} 2048 0))

  -- all vectors, of words over eight labels
  abbrev pub vector_list : List ℕ
  vector_list = vectors_of (vectors after labels)

  pub before_in : (v l : ℕ) → v ∈ vector_list → l < 8 → before after labels v l ∈ vector_list
  before_in v l m h =
      let (i, b, e) = in_place_lem v vector_list m in
      let z = list_length (vectors after labels) closed_all.room closed_all.within in
      let w = closed_all.within in
      let q : (i * 8 + l) / 8 ≡ i = high i 3 h in
      let r : (i * 8 + l) % 8 ≡ l = low i 3 h in
      rw (q, r, e) at (closed_all.done (i * 8 + l) (omega arith) (rw q b))

  pub vector_in : (w : List ℕ) → Over 8 w → vector_of after labels w ∈ vector_list
  unfolding vector_of
  vector_in [] o = closed_all.first
  vector_in (l ∷ w) o = before_in (vector_of after labels w) l (vector_in w o.1) o.0

  pub in_vector : (v : ℕ) → v ∈ vector_list → (w : List ℕ) × Over 8 w × (v ≡ vector_of after labels w)
  in_vector v m = closed_all.origin v m
