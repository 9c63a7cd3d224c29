-- Only one list is the breadth-first one: a list that ByMeetings describes names at each place the
-- scope that is met next. Assumes nothing.
use Prim.Native.Nat.{ℕ, ◌<◌}
use mathlib.Core.Path.{◌≡◌, sym, ap, ◌∙◌, subst}
use mathlib.Core.Bool.{Bool, true, false, not}
use mathlib.Core.Option.{some, none}
use mathlib.Core.Logic.{⊎_elim, ◌↔◌}
use mathlib.Core.List.Memᴰ
use mathlib.Core.List.{List, [], ◌∷◌, ◌++◌, append_assoc, append-nil}
use native.Mathlib.Omega.{arith}
use Rattle.scope_graph.specs.Language.{◌∈◌}
use Rattle.scope_graph.specs.Path.{Distinct}
use Rattle.scope_graph.specs.Computed.{first_of}
use Rattle.scope_graph.proofs.Lists.{Two, here, there, true_false, is_not}
use Rattle.scope_graph.proofs.Pigeon.{in_true, not_in, not_in_test}
use Rattle.scope_graph.proofs.Sequences.{one_sequence}
use Rattle.was.specs.Order.{is_listed, with_new, gathered, met_from, next_met}
use Rattle.was.specs.Promises.{HoldsEach, ByMeetings, OnlyOne}
use Rattle.was.proofs.Growing.{new_there, new_put, gathered_longer, gathered_in, distinct_apart}
use Rattle.was.proofs.Meeting.{first_behind, first_here, met_append, next_none}
use Rattle.was.proofs.InTurn.{InTurn, head_same, tail_same, in_turn_one}

-- one list parted twice: before two elements of which neither stands in the other's front
one_parting : (s l more rest : List ℕ) (x t : ℕ) → s ++ (x ∷ more) ≡ l ++ (t ∷ rest) → ¬ (x ∈ l) → ¬ (t ∈ s) → x ≡ t
one_parting [] [] more rest x t e h k = head_same x t more rest e
one_parting [] (y ∷ l) more rest x t e h k = absurd (h (Memᴰ.head (head_same x y more (l ++ (t ∷ rest)) e)))
one_parting (y ∷ s) [] more rest x t e h k = absurd (k (Memᴰ.head (sym (head_same y t (s ++ (x ∷ more)) rest e))))
one_parting (y ∷ s) (z ∷ l) more rest x t e h k =
    one_parting s l more rest x t (tail_same y z (s ++ (x ∷ more)) (l ++ (t ∷ rest)) e) (λ m. h (there m)) (λ m. k (there m))

-- the first of two parts that meets the test, if the first part has it
first_within : (f : ℕ → Bool) (p q : List ℕ) (t : ℕ) → t ∈ p → f t ≡ true → first_of f (p ++ q) ≡ some t → first_of f p ≡ some t
unfolding first_of
first_within f [] q t m h e = absurd (Memᴰ.not-nil m)
first_within f (x ∷ p) q t m h e =
    ⊎_elim (λ y. first_here f x p y ∙ sym (first_here f x (p ++ q) y) ∙ e)
    (λ n.
    first_behind f (x ∷ []) p (none_of n)
    ∙ first_within f p q t (⊎_elim (λ same. absurd (true_false (sym (ap f same) ∙ h) n)) (λ k. k) (Memᴰ.cases_cons m)) h
    (sym (first_behind f (x ∷ []) (p ++ q) (none_of n)) ∙ e))
    (Two (f x))
  where
    none_of : f x ≡ false → (a : ℕ) → a ∈ (x ∷ []) → f a ≡ false
    none_of n a k = ap f (Memᴰ.eq_of_singleton k) ∙ n

-- what is gathered after the listed ones begins with the first that is not listed
gathered_first : (ts s l rest : List ℕ) (t : ℕ) → gathered s ts ≡ l ++ (t ∷ rest) → ((x : ℕ) → x ∈ s → x ∈ l) → ¬ (t ∈ l)
    → first_of (λ x. not (is_listed x l)) ts ≡ some t
unfolding gathered
gathered_first [] s l rest t e h n = absurd (n (h t (subst (λ (z : List ℕ). t ∈ z) (sym e) (Memᴰ.append_right l here))))
gathered_first (x ∷ ts) s l rest t e h n =
    ⊎_elim
    (λ (old : is_listed x l ≡ true).
    first_behind (λ y. not (is_listed y l)) (x ∷ []) ts (λ a k. ap (λ (z : ℕ). not (is_listed z l)) (Memᴰ.eq_of_singleton k) ∙ ap not old)
    ∙ gathered_first ts (with_new s x) l rest t e (within (in_true x l old)) n)
    (λ (new : is_listed x l ≡ false).
    first_here (λ y. not (is_listed y l)) x ts (is_not (is_listed x l) new) ∙ ap some (same new))
    (Two (is_listed x l))
  where
    within : x ∈ l → (y : ℕ) → y ∈ with_new s x → y ∈ l
    within m y k =
        ⊎_elim (λ old. h y (subst (λ (z : List ℕ). y ∈ z) (new_there s x old) k))
        (λ new. ⊎_elim (h y) (λ j. subst (λ (z : ℕ). z ∈ l) (sym (Memᴰ.eq_of_singleton j)) m)
        (Memᴰ.append_cases s (subst (λ (z : List ℕ). y ∈ z) (new_put s x new) k))) (Two (is_listed x s))

    same : is_listed x l ≡ false → x ≡ t
    same new =
        let apart = not_in x l new in
        let w = gathered_longer ts (with_new s x) in
        one_parting s l w.more rest x t
        (sym (append_assoc s (x ∷ []) w.more) ∙ ap (λ (z : List ℕ). z ++ w.more) (sym (new_put s x (not_in_test x s (λ m. apart (h x m))))) ∙ sym w.is ∙ e)
        apart (λ m. n (h t m))

module _ (after : ℕ → List ℕ) (start : ℕ) (list : List ℕ) (once : Distinct list) (b : ByMeetings after start list) where
  -- a scope that is met, after those before it
  next_is : (before rest : List ℕ) (t : ℕ) → b.reached ≡ (start ∷ before) ++ (t ∷ rest) → next_met after (start ∷ before) ≡ some t
  unfolding next_met
  next_is before rest t e =
      let apart = distinct_apart (start ∷ before) (rest ++ b.others) t
      (subst Distinct (b.parts ∙ ap (λ (z : List ℕ). z ++ b.others) e ∙ append_assoc (start ∷ before) (t ∷ rest) b.others) once) in
      first_within (λ x. not (is_listed x (start ∷ before))) (met_from after (start ∷ before)) (met_from after (t ∷ rest)) t
      (b.from_before before rest t e)
      (is_not (is_listed t (start ∷ before)) (not_in_test t (start ∷ before) apart))
      (ap (first_of (λ x. not (is_listed x (start ∷ before)))) (sym (ap (met_from after) e ∙ met_append after (start ∷ before) (t ∷ rest)))
      ∙ gathered_first (met_from after b.reached) (start ∷ []) (start ∷ before) rest t (sym b.at_first_meeting ∙ e)
      (λ x m. Memᴰ.head (Memᴰ.eq_of_singleton m)) apart)

  -- after all of them none is met
  none_next : next_met after b.reached ≡ none
  none_next =
      next_none after b.reached
      (λ x m. subst (λ (z : List ℕ). x ∈ z) (sym b.at_first_meeting) (gathered_in (met_from after b.reached) (start ∷ []) x m))

  in_turn_from : (ts before : List ℕ) → b.reached ≡ (start ∷ before) ++ ts → InTurn after (start ∷ before) ts
  unfolding InTurn
  in_turn_from [] before e = ap (next_met after) (sym (e ∙ append-nil (start ∷ before))) ∙ none_next
  in_turn_from (t ∷ ts) before e = (
    next_is before ts t e,
    in_turn_from ts (before ++ (t ∷ [])) (e ∙ sym (append_assoc (start ∷ before) (t ∷ []) ts)),
  )

  abbrev after_start : List ℕ
  after_start = (gathered_longer (met_from after b.reached) (start ∷ [])).more

  pub reached_is : b.reached ≡ start ∷ after_start
  reached_is = b.at_first_meeting ∙ (gathered_longer (met_from after b.reached) (start ∷ [])).is

  pub reached_in_turn : InTurn after (start ∷ []) after_start
  reached_in_turn = in_turn_from after_start [] reached_is

-- the scopes that are not met are all others
module _ (n : ℕ) (list reached others : List ℕ) (holds : HoldsEach n list) (parts : list ≡ reached ++ others) where
  others_are : (x : ℕ) → (x ∈ others) ↔ ((x < n) × ¬ (x ∈ reached))
  others_are x = (
    λ m. ((holds.are x).0 (subst (λ (z : List ℕ). x ∈ z) (sym parts) (Memᴰ.append_right reached m)), apart reached others x (subst Distinct parts holds.once) m),
    λ p. ⊎_elim (λ m. absurd (p.1 m)) (λ m. m) (Memᴰ.append_cases reached (subst (λ (z : List ℕ). x ∈ z) parts ((holds.are x).1 p.0))),
  )
    where
      apart : (l k : List ℕ) (y : ℕ) → Distinct (l ++ k) → y ∈ k → ¬ (y ∈ l)
      apart [] k y d m j = Memᴰ.not-nil j
      apart (z ∷ l) k y d m j =
          ⊎_elim (λ e. d.0 (Memᴰ.append_right l (subst (λ (v : ℕ). v ∈ k) e m))) (apart l k y d.1 m) (Memᴰ.cases_cons j)

pub only_one : OnlyOne
only_one after start n list other h k b c =
    let met : b.reached ≡ c.reached =
    reached_is after start list h.once b
    ∙ ap (λ (z : List ℕ). start ∷ z) (in_turn_one after _ _ (start ∷ []) (reached_in_turn after start list h.once b) (reached_in_turn after start other k.once c))
    ∙ sym (reached_is after start other k.once c) in
    let mine = others_are n list b.reached b.others h b.parts in
    let its = others_are n other c.reached c.others k c.parts in
    let rest : b.others ≡ c.others =
    one_sequence ◌<◌ (λ x y p r. omega arith) b.others c.others b.ascend c.ascend
    (λ x. (
      λ m. let p = (mine x).0 m in (its x).1 (p.0, λ j. p.1 (subst (λ (z : List ℕ). x ∈ z) (sym met) j)),
      λ m. let p = (its x).0 m in (mine x).1 (p.0, λ j. p.1 (subst (λ (z : List ℕ). x ∈ z) met j)),
    )) in
    b.parts ∙ (λ i. met i ++ rest i) ∙ sym c.parts
