-- Which list it is: each scope once, and those that are met at their first meetings. Assumes
-- nothing.
use Prim.Native.Nat.{ℕ, zero, suc, ◌+◌, ◌≤◌, ◌<◌}
use mathlib.Core.Path.{◌≡◌, refl, sym, ap, ◌∙◌, subst}
use mathlib.Core.Bool.{Bool, true, false, not}
use mathlib.Core.Option.{Option, some, none}
use mathlib.Core.List.Memᴰ
use mathlib.Core.List.{List, [], ◌∷◌, ◌++◌, append_assoc}
use native.Mathlib.Omega.{arith}
use lib.ListN.{length, length-append}
use Rattle.scope_graph.specs.Language.{◌∈◌}
use Rattle.scope_graph.specs.Path.{Distinct}
use Rattle.scope_graph.specs.Computed.{first_of}
use Rattle.scope_graph.specs.Readers.{numbers_below}
use Rattle.scope_graph.specs.TakenIn.{NoneTwice}
use Rattle.scope_graph.proofs.Lists.{not_is, keep_pairwise, first_of_none, pairwise_weaken}
use Rattle.scope_graph.proofs.Pigeon.{in_true}
use Rattle.scope_graph.proofs.Sequences.{once_length, once_all}
use Rattle.scope_graph.proofs.Readers.{numbers_elim, numbers_intro, numbers_ascend}
use Rattle.graph_rows.specs.Format.{most_scopes}
use Rattle.was.specs.Order.{is_listed, gathered, met_from, next_met, met, met_all, unmet, breadth_first}
use Rattle.was.specs.Promises.{HoldsEach, ByMeetings}
use Rattle.was.specs.Cells.{Scopes}
use Rattle.was.proofs.Growing.{new_put, scopes_size, scopes_gathered, gathered_append, gathered_there, gathered_in, gathered_unmet}
use Rattle.was.proofs.Meeting.{first_behind, first_at, met_append, listed_passed, scopes_step, met_scopes}
use Rattle.was.proofs.InTurn.{tail_same, in_turn_met, met_listed}

not_not : (b : Bool) → not b ≡ false → b ≡ true
not_not true e = refl
not_not false e = sym e

-- lists that have each number below n
numbers_length : (n : ℕ) → length (numbers_below n) ≡ n
unfolding numbers_below
numbers_length zero = refl
numbers_length (suc n) = let e = length-append (numbers_below n) (n ∷ []) in let s = numbers_length n in omega arith

once_too : (l : List ℕ) → Distinct l → NoneTwice l
once_too [] d = tt
once_too (x ∷ l) d = ((λ y m e. d.0 (subst (λ (z : ℕ). z ∈ l) (sym e) m)), once_too l d.1)

numbers_once : (n : ℕ) → NoneTwice (numbers_below n)
numbers_once n = pairwise_weaken ◌<◌ (λ x y. ¬ (x ≡ y)) (numbers_below n) (λ a b m k h e. omega arith) (numbers_ascend n)

module _ (n : ℕ) (l : List ℕ) where
  pub holds_scopes : HoldsEach n l → Scopes n l
  holds_scopes h = record { once = h.once; below = λ x m. (h.are x).0 m }

  pub holds_size : HoldsEach n l → length l ≡ n
  holds_size h =
      let most = scopes_size n l (holds_scopes h) in
      let least = once_length (numbers_below n) l (numbers_once n) (λ x m. (h.are x).1 (numbers_elim n x m)) in
      let count = numbers_length n in
      omega arith

  -- as many different numbers below n are all of them
  pub all_held : Scopes n l → length l ≡ n → HoldsEach n l
  all_held s e = let count = numbers_length n in record {
    are = λ x. (
      s.below x,
      λ h. once_all l (numbers_below n) (once_too l s.once) (λ y m. numbers_intro n y (s.below y m)) (omega arith) x (numbers_intro n x h),
    );
    once = s.once;
  }

module _ (after : ℕ → List ℕ) (start : ℕ) where
  -- a list that is what its own meetings, as far as they were looked at, leave
  record Grown (l : List ℕ) : Type 0 where
    seen : List ℕ
    rest : List ℕ
    parts : met_from after l ≡ seen ++ rest
    is : gathered (start ∷ []) seen ≡ l

  grown_start : Grown (start ∷ [])
  unfolding gathered
  grown_start = record { seen = []; rest = met_from after (start ∷ []); parts = refl; is = refl }

  module _ (l : List ℕ) (g : Grown l) where
    seen_listed : (x : ℕ) → x ∈ g.seen → x ∈ l
    seen_listed x m = subst (λ (z : List ℕ). x ∈ z) g.is (gathered_in g.seen (start ∷ []) x m)

    grown_end : next_met after l ≡ none → gathered (start ∷ []) (met_from after l) ≡ l
    unfolding next_met
    grown_end e =
        ap (gathered (start ∷ [])) g.parts ∙ gathered_append g.seen g.rest (start ∷ []) ∙ ap (λ (z : List ℕ). gathered z g.rest) g.is
        ∙ gathered_there g.rest l
        (λ t m. in_true t l (not_not (is_listed t l) (first_of_none (λ x. not (is_listed x l)) (met_from after l) e t
        (subst (λ (z : List ℕ). t ∈ z) (sym g.parts) (Memᴰ.append_right g.seen m)))))

    grown_next : (t : ℕ) → next_met after l ≡ some t → Grown (l ++ (t ∷ []))
    unfolding next_met gathered
    grown_next t e =
        let f = first_at (λ x. not (is_listed x l)) g.rest t
        (sym (ap (first_of (λ x. not (is_listed x l))) g.parts ∙ first_behind (λ x. not (is_listed x l)) g.seen g.rest (listed_passed after l g.seen seen_listed)) ∙ e) in
        record {
          seen = g.seen ++ (f.above ++ (t ∷ []));
          rest = f.below ++ met_from after (t ∷ []);
          parts =
              met_append after l (t ∷ [])
              ∙ ap (λ (z : List ℕ). z ++ met_from after (t ∷ [])) (g.parts ∙ ap (λ (z : List ℕ). g.seen ++ z) (f.is ∙ sym (append_assoc f.above (t ∷ []) f.below)) ∙ sym (append_assoc g.seen (f.above ++ (t ∷ [])) f.below))
              ∙ append_assoc (g.seen ++ (f.above ++ (t ∷ []))) f.below (met_from after (t ∷ []));
          is =
              gathered_append g.seen (f.above ++ (t ∷ [])) (start ∷ []) ∙ ap (λ (z : List ℕ). gathered z (f.above ++ (t ∷ []))) g.is
              ∙ gathered_append f.above (t ∷ []) l
              ∙ ap (λ (z : List ℕ). gathered z (t ∷ [])) (gathered_there f.above l (λ x m. in_true x l (not_not (is_listed x l) (f.passed x m))))
              ∙ new_put l t (not_is (is_listed t l) f.meets);
        }

  module _ (below : (s t : ℕ) → t ∈ after s → t < most_scopes) where
    settles : (left : ℕ) (l : List ℕ) → Scopes most_scopes l → Grown l → suc most_scopes ≤ left + length l
        → met after left l ≡ gathered (start ∷ []) (met_from after (met after left l))
    unfolding met
    settles zero l s g h = let m = scopes_size most_scopes l s in absurd (omega arith)
    settles (suc left) l s g h =
        by (next_met after l) refl
        (λ t e. settles left (l ++ (t ∷ [])) (scopes_step after most_scopes below l t s e) (grown_next l g t e) (let a = length-append l (t ∷ []) in omega arith))
      where
        by : (o : Option ℕ) → next_met after l ≡ o
            → ((t : ℕ) → next_met after l ≡ some t → met after left (l ++ (t ∷ [])) ≡ gathered (start ∷ []) (met_from after (met after left (l ++ (t ∷ [])))))
            → ◌≡◌ {A = List ℕ} (elim o as (λ _. List ℕ) [ none ↦ l | some t ↦ met after left (l ++ (t ∷ [])) ])
            (gathered (start ∷ []) (met_from after (elim o as (λ _. List ℕ) [ none ↦ l | some t ↦ met after left (l ++ (t ∷ [])) ])))
        by none e k = sym (grown_end l g e)
        by (some t) e k = k t e

    alone : start < most_scopes → Scopes most_scopes (start ∷ [])
    alone h = record {
      once = ((λ m. Memᴰ.not-nil m), tt);
      below = λ x m. let e = Memᴰ.eq_of_singleton m in omega arith;
    }

    pub at_first_meeting : start < most_scopes → met_all after start ≡ gathered (start ∷ []) (met_from after (met_all after start))
    unfolding met_all
    at_first_meeting h = settles most_scopes (start ∷ []) (alone h) grown_start (omega arith)

    from_before : start < most_scopes → (before rest : List ℕ) (t : ℕ) → met_all after start ≡ (start ∷ before) ++ (t ∷ rest)
        → t ∈ met_from after (start ∷ before)
    unfolding met_all
    from_before h before rest t e =
        let r = met_listed after below most_scopes (start ∷ []) (alone h) (omega arith) in
        in_turn_met after r.more before rest (start ∷ []) t r.in_turn (tail_same start start r.more (before ++ (t ∷ rest)) (sym r.is ∙ e))

  module _ (n : ℕ) (most : n ≤ most_scopes) (below : (s t : ℕ) → t ∈ after s → t < n) (starts : start < n) where
    abbrev reached : List ℕ
    reached = met_all after start

    list_scopes : Scopes n (gathered reached (numbers_below n))
    list_scopes = scopes_gathered n (numbers_below n) reached (met_scopes after n below start starts) (λ t m. numbers_elim n t m)

    pub breadth_holds : HoldsEach n (breadth_first after n start)
    unfolding breadth_first
    breadth_holds = subst (λ (l : List ℕ). HoldsEach n l) (gathered_unmet n reached) (record {
      are = λ x. (list_scopes.below x, λ h. gathered_in (numbers_below n) reached x (numbers_intro n x h));
      once = list_scopes.once;
    })

    pub breadth_meets : ByMeetings after start (breadth_first after n start)
    unfolding breadth_first unmet
    breadth_meets = record {
      reached = reached;
      others = unmet n reached;
      parts = refl;
      at_first_meeting = at_first_meeting (λ s t m. let b = below s t m in omega arith) (omega arith);
      from_before = from_before (λ s t m. let b = below s t m in omega arith) (omega arith);
      ascend = keep_pairwise ◌<◌ _ (numbers_below n) (numbers_ascend n);
    }
