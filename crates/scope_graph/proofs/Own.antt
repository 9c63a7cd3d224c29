-- The value of specs/Own: what each of the scopes has of its own stays so exactly if its listing is
-- settled. For where a pair is decisive, two declarations of the name may come at one place, so that
-- the query sees both. Assumes nothing.
use Prim.Native.Nat.{ℕ, suc, ◌≤◌, ◌<◌}
use native.Mathlib.Omega.{arith}
use mathlib.Core.Path.{◌≡◌, refl, sym, ap, ◌∙◌, subst}
use mathlib.Core.Bool.{Bool, true, false, not, ◌&&◌, ◌||◌}
use mathlib.Core.Logic.{◌↔◌, ◌⊎◌, inl, inr, ⊎_elim}
use mathlib.Core.Option.{Option, some, none}
use mathlib.Core.List.Memᴰ
use mathlib.Core.List.{List, [], ◌∷◌}
use lib.Dec.{eqb}
use borrow.Author.Tests.{eqb-true, eqb-false}
use Rattle.scope_graph.specs.Language.{◌∈◌, End, Language, Laws}
use Rattle.scope_graph.specs.Graph.{Edge, Declaration, Graph, InRange, Query, OpenPair}
use Rattle.scope_graph.specs.Path.{Hop, PathRow, last_from, Along, Declares, Reached, row_declaration}
use Rattle.scope_graph.specs.Completion.{Extension, AtOne, Decisive, Settled}
use Rattle.scope_graph.specs.Computed.{Found, found_none, found_one, found_several, marks_at, found, awaits}
use Rattle.scope_graph.specs.Listing.{Accepted, FoundIs}
use Rattle.scope_graph.specs.Ends.{has_second, ends_at, several_marks}
use Rattle.scope_graph.specs.Own.{all_of, is_one, is_none, asked, Share, OwnAlways, OwnNow, OwnTold, meet, has_own, keeps_own, OwnPromises, Owns}
use Rattle.scope_graph.proofs.Lists.{Two, here, there, true_false, not_true, not_is, is_not, and_left, and_right, and_both, or_cases, or_left, or_right}
use Rattle.scope_graph.proofs.LeadsOn.{any_below_elim, any_below_intro}
use Rattle.scope_graph.proofs.Reached.{marks_intro}
use Rattle.scope_graph.proofs.Extension.{reached_kept}
use Rattle.scope_graph.proofs.Changes.{Down, down}
use Rattle.scope_graph.proofs.Witness.{Shown, followed_shown}
use Rattle.scope_graph.proofs.Settled.{may_come, decisive, settled}
use Rattle.scope_graph.proofs.Found.{one_found, found_is}
use Rattle.scope_graph.proofs.Ends.{ends_entry, entry_ends, ends_are, found_among_lem}
use Rattle.scope_graph.proofs.Promises.{decided, reached_list, entry_list, query}

module _ (L : Language) where
  -- a graph completes itself
  itself : (Allowed : ℕ → End L.Step → Type 0) (g : Graph L) → InRange L g → Extension L Allowed g g
  itself Allowed g range = record {
    scopes_kept = omega arith;
    edges_kept = λ e m. m;
    declarations_kept = λ d m. m;
    new_edge = λ e m. inl m;
    new_declaration = λ d m. inl m;
    in_range = range;
  }

  -- where each edge is g's or comes to a new scope, a path is g's or ends at a new scope
  old_or_new : (g h : Graph L) → InRange L g → ((e : Edge L) → e ∈ h.edges → (g.scopes ≤ e.to) ⊎ (e ∈ g.edges))
      → (s : ℕ) (p : List (Hop L)) → Along L h s p → Along L g s p ⊎ (g.scopes ≤ last_from s p)
  old_or_new g h range edges s [] a = inl tt
  old_or_new g h range edges s (x ∷ p) a =
      ⊎_elim (λ k. ⊎_elim (λ n. inr (from_new x.to p n k)) (λ m. inl (m, k)) (edges _ a.0)) inr
      (old_or_new g h range edges x.to p a.1)
    where
      from_new : (t : ℕ) (p : List (Hop L)) → g.scopes ≤ t → Along L g t p → g.scopes ≤ last_from t p
      from_new t [] n k = n
      from_new t (y ∷ p) n k = let w = range.from_scope _ k.0 in absurd (omega arith)

  module _ (laws : Laws L) (g : Graph L) (range : InRange L g) (q : Query L) (starts : q.start < g.scopes)
      (Allowed : ℕ → End L.Step → Type 0) (w : Shown L Allowed g q) where
    -- a second declaration beside the new one
    second : Declaration L
    second = record { at = w.place; name = q.name; mark = suc w.mark }

    twice : Graph L
    twice = record { scopes = w.graph.scopes; edges = w.graph.edges; declarations = second ∷ w.graph.declarations }

    first_in : Declares L w.graph w.place q.name w.mark
    first_in = rw w.declarations here

    twice_range : InRange L twice
    unfolding twice second
    twice_range =
        let r = w.extends.in_range in
        record {
          from_scope = r.from_scope;
          to_scope = r.to_scope;
          listed = r.listed;
          carried = r.carried;
          at_scope = λ d m.
              ⊎_elim (λ e. let k : d.at ≡ w.place = ap (λ (z : Declaration L). z.at) e in rw k (r.at_scope _ first_in))
              (λ k. r.at_scope d k) (Memᴰ.cases_cons m);
          together = r.together;
        }

    twice_extends : Extension L Allowed g twice
    unfolding twice second
    twice_extends =
        let x = w.extends in
        record {
          scopes_kept = x.scopes_kept;
          edges_kept = x.edges_kept;
          declarations_kept = λ d m. there (x.declarations_kept d m);
          new_edge = x.new_edge;
          new_declaration = λ d m.
              ⊎_elim
              (λ e. let k : d.at ≡ w.place = ap (λ (z : Declaration L). z.at) e in
              rw k (⊎_elim (λ o. absurd (w.new o)) inr (x.new_declaration _ first_in)))
              (λ k. x.new_declaration d k) (Memᴰ.cases_cons m);
          in_range = twice_range;
        }

    -- the graph with the one is extended by the second
    by_second : Extension L (λ s e. Unit {0}) w.graph twice
    unfolding twice second
    by_second = record {
      scopes_kept = omega arith;
      edges_kept = λ e m. m;
      declarations_kept = λ d m. there m;
      new_edge = λ e m. inl m;
      new_declaration = λ d m. inr (inr tt);
      in_range = twice_range;
    }

    -- what is declared there of the name stands at the place, or in g
    placed : (s m : ℕ) → Declares L twice s q.name m → (s ≡ w.place) ⊎ Declares L g s q.name m
    unfolding twice second
    placed s m k =
        ⊎_elim (λ e. inl (ap (λ (z : Declaration L). z.at) e))
        (λ k. ⊎_elim (λ e. inl (ap (λ (z : Declaration L). z.at) e)) inr (Memᴰ.cases_cons (rw w.declarations at k)))
        (Memᴰ.cases_cons k)

    -- a path that is reached there and not in g ends at the place
    ends_there : (p : List (Hop L)) → ¬ Reached L g q (record { start = q.start; hops = p })
        → Reached L twice q (record { start = q.start; hops = p }) → last_from q.start p ≡ w.place
    unfolding twice
    ends_there p unreached r =
        ⊎_elim (λ e. e) (λ d.
        ⊎_elim
        (λ a. absurd (unreached (record {
          from_start = refl;
          path = record { starts = starts; along = a; simple = r.path.simple };
          lawful = r.lawful;
          mark = r.mark;
          declared = d;
        })))
        (λ n. let k = range.at_scope _ d in absurd (omega arith))
        (old_or_new g twice range w.edges q.start p r.path.along))
        (placed (last_from q.start p) r.mark r.declared)

    twice_several : ¬ FoundIs L twice q found_one
    unfolding twice second
    twice_several one = omega (arith, ap (λ (z : Declaration L). z.mark) both)
      where
        twice_starts : q.start < w.graph.scopes
        twice_starts = omega (arith, w.extends.scopes_kept)

        d : Down L laws q (decided L laws) (reached_list L laws q) (entry_list L laws q) twice w.hops
        d = down L laws q (decided L laws) (reached_list L laws q) (entry_list L laws q) twice twice_range twice_starts w.hops
            (reached_kept L (λ s e. Unit {0}) w.graph twice by_second q _ w.reached)

        ends : last_from q.start d.hops ≡ w.place
        ends =
            ⊎_elim (λ e. rw e w.ends) (λ k. ends_there d.hops (λ r. w.uncut d.hops r k) d.visible.reached) d.which

        row : ℕ → PathRow L
        row m = record { mark = m; path = record { start = q.start; hops = d.hops } }

        both : row_declaration L q (row w.mark) ≡ row_declaration L q (row (suc w.mark))
        both =
            one.2 (row w.mark) (record { visible = d.visible; declared = rw ends (there first_in) })
            ∙ sym (one.2 (row (suc w.mark)) (record { visible = d.visible; declared = rw ends here }))

-- a list with an element and no second one has that one alone
only : {m : ℕ} (l : List ℕ) → m ∈ l → has_second l ≡ false → (k : ℕ) × (l ≡ k ∷ [])
unfolding has_second
only [] i h = absurd (Memᴰ.not-nil i)
only (a ∷ []) i h = (a, refl)
only (a ∷ b ∷ l) i h = absurd (true_false refl h)

module _ {A : Type 0} where
  all_intro : (f : A → Bool) (l : List A) → ((a : A) → a ∈ l → f a ≡ true) → all_of f l ≡ true
  unfolding all_of
  all_intro f [] h = refl
  all_intro f (a ∷ l) h = and_both _ _ (h a here) (all_intro f l (λ b m. h b (there m)))

  all_elim : (f : A → Bool) (l : List A) → all_of f l ≡ true → (a : A) → a ∈ l → f a ≡ true
  unfolding all_of
  all_elim f [] h a m = absurd (Memᴰ.not-nil m)
  all_elim f (b ∷ l) h a m =
      ⊎_elim (λ e. rw e (and_left _ _ h)) (λ k. all_elim f l (and_right (f b) _ h) a k) (Memᴰ.cases_cons m)

  is_none_lem : (o : Option A) → is_none o ≡ true → o ≡ none
  unfolding is_none
  is_none_lem none h = refl
  is_none_lem (some a) h = absurd (true_false h refl)

is_one_lem : (f : Found) → is_one f ≡ true → f ≡ found_one
unfolding is_one
is_one_lem found_none h = absurd (true_false h refl)
is_one_lem found_one h = refl
is_one_lem found_several h = absurd (true_false h refl)

module _ (L : Language) (x : L.Name) (g : Graph L) (opens : List (OpenPair L)) (starts : List ℕ)
    (ok : (s : ℕ) → s ∈ starts → Accepted L g opens (asked L x s)) where
  -- if each has its own in every completion, no pair is decisive
  none_decisive : OwnAlways L x g opens starts → (s : ℕ) → s ∈ starts → (o : OpenPair L) → ¬ Decisive L g opens (asked L x s) o
  none_decisive always s m o d =
      let laws = (ok s m).laws in
      let range = (ok s m).in_range in
      let below = (ok s m).starts in
      let q = asked L x s in
      let dec = decided L laws in
      let reached = reached_list L laws q in
      let seen = entry_list L laws q in
      let f = (decisive L laws g opens q dec reached seen range below o).0 d in
      let may = may_come L laws g opens q dec reached seen range below o.end f.1.0 f.1.1 in
      let w = followed_shown L laws q dec reached seen g range below (AtOne L opens) o.at f.1.0 (o, f.0, (refl, f.1.1)) may f.1.2 in
      twice_several L laws g range q below (AtOne L opens) w
      ((always (twice L laws g range q below (AtOne L opens) w) (twice_extends L laws g range q below (AtOne L opens) w)).one s m)

  is_settled_lem : OwnAlways L x g opens starts → (s : ℕ) → s ∈ starts → Settled L g opens (asked L x s)
  is_settled_lem always s m =
      let laws = (ok s m).laws in
      (settled L laws g opens (asked L x s) (decided L laws) (reached_list L laws (asked L x s)) (entry_list L laws (asked L x s))
      (ok s m).in_range (ok s m).starts).1 (none_decisive always s m)

  always_now : OwnAlways L x g opens starts ↔ OwnNow L x g opens starts
  always_now = (
    λ always. record {
      own = record {
        one = λ s m. (always g (itself L (AtOne L opens) g (ok s m).in_range)).one s m;
        apart = λ s t m. (always g (itself L (AtOne L opens) g (ok s m).in_range)).apart s t m;
      };
      settled = is_settled_lem always;
    },
    λ now h c. record {
      one = λ s m. let f = now.own.one s m in let same = now.settled s m h c in
          (f.0, (same f.0).0 f.1, λ p e. f.2 p ((same p).1 e));
      apart = λ s t m k n z. now.own.apart s t m k n (record {
        first = z.first;
        second = z.second;
        first_seen = (now.settled s m h c z.first).1 z.first_seen;
        second_seen = (now.settled t k h c z.second).1 z.second_seen;
        same = z.same;
      });
    },
  )

  shares_ends : (s t : ℕ) → s ∈ starts → t ∈ starts
      → Share L x g s t ↔ ((e : ℕ) × (ends_at L g (asked L x s) e ≡ true) × (ends_at L g (asked L x t) e ≡ true))
  shares_ends s t m k = (to, from)
    where
      to : Share L x g s t → (e : ℕ) × (ends_at L g (asked L x s) e ≡ true) × (ends_at L g (asked L x t) e ≡ true)
      to z = (
        (row_declaration L (asked L x s) z.first).at,
        entry_ends L (ok s m).laws g (asked L x s) (ok s m).in_range (ok s m).starts z.first z.first_seen,
        rw (ap (λ (d : Declaration L). d.at) z.same)
            (entry_ends L (ok t k).laws g (asked L x t) (ok t k).in_range (ok t k).starts z.second z.second_seen),
      )

      from : (e : ℕ) × (ends_at L g (asked L x s) e ≡ true) × (ends_at L g (asked L x t) e ≡ true) → Share L x g s t
      from z =
          let r = (ends_are L (ok s m).laws g (asked L x s) (ok s m).in_range (ok s m).starts z.0).0 z.1 in
          let p = ends_entry L (ok t k).laws g (asked L x t) (ok t k).in_range (ok t k).starts
          (row_declaration L (asked L x s) r.0).at r.0.mark (rw r.2 z.2) r.1.declared in
          record { first = r.0; second = p.0; first_seen = r.1; second_seen = p.1; same = sym p.2 }

  -- visible paths end at scopes of the graph
  below : (s : ℕ) → s ∈ starts → (e : ℕ) → ends_at L g (asked L x s) e ≡ true → e < g.scopes
  below s m e h =
      let r = (ends_are L (ok s m).laws g (asked L x s) (ok s m).in_range (ok s m).starts e).0 h in
      rw r.2 at ((ok s m).in_range.at_scope _ r.1.declared)

  -- the word of one query
  found_word : (s : ℕ) → s ∈ starts → (found L g (asked L x s) ≡ found_one) ↔ FoundIs L g (asked L x s) found_one
  found_word s m =
      let is = found_is L (ok s m).laws g (asked L x s) (ok s m).in_range (ok s m).starts in
      (λ e. subst (FoundIs L g (asked L x s)) e is, λ f. one_found L (ok s m).laws g (asked L x s) _ found_one is f)

  now_told : OwnNow L x g opens starts ↔ OwnTold L x g opens starts
  now_told = (
    λ now. record {
      one = λ s m. (found_word s m).1 (now.own.one s m);
      settled = λ s m. (query L g opens (asked L x s) (ok s m)).awaits_none.1 (now.settled s m);
      no_scope = λ s t m k n e _ a b. now.own.apart s t m k n ((shares_ends s t m k).1 (e, a, b));
    },
    λ told. record {
      own = record {
        one = λ s m. (found_word s m).0 (told.one s m);
        apart = λ s t m k n z. let e = (shares_ends s t m k).0 z in told.no_scope s t m k n e.0 (below s m e.0 e.1) e.1 e.2;
      };
      settled = λ s m. (query L g opens (asked L x s) (ok s m)).awaits_none.0 (told.settled s m);
    },
  )

  -- the test of two of the scopes
  met : (s t : ℕ) → s ∈ starts
      → (meet L x g s t ≡ true) ↔ ((e : ℕ) × (ends_at L g (asked L x s) e ≡ true) × (ends_at L g (asked L x t) e ≡ true))
  unfolding meet
  met s t m = (
    λ h. let e = any_below_elim both g.scopes h in (e.0, and_left _ _ e.2, and_right (ends_at L g (asked L x s) e.0) _ e.2),
    λ e. any_below_intro both g.scopes e.0 (below s m e.0 e.1) (and_both _ _ e.1 e.2),
  )
    where
      both : ℕ → Bool
      both e = ends_at L g (asked L x s) e && ends_at L g (asked L x t) e

  alone : ℕ → ℕ → Bool
  alone s t = eqb s t || not (meet L x g s t)

  told_alone : OwnTold L x g opens starts → (s t : ℕ) → s ∈ starts → t ∈ starts → alone s t ≡ true
  unfolding alone
  told_alone told s t m k =
      ⊎_elim (λ z. or_left (eqb s t) _ z)
      (λ z. or_right (eqb s t) _ (is_not (meet L x g s t) (not_true _ (λ h.
      let e = (met s t m).0 h in told.no_scope s t m k (eqb-false s t z) e.0 (below s m e.0 e.1) e.1 e.2))))
      (Two (eqb s t))

  alone_told : (s t : ℕ) → s ∈ starts → alone s t ≡ true → ¬ (s ≡ t)
      → (e : ℕ) → ends_at L g (asked L x s) e ≡ true → ends_at L g (asked L x t) e ≡ true → ⊥
  unfolding alone
  alone_told s t m h n e a b =
      ⊎_elim (λ z. n (eqb-true s t z)) (λ z. true_false ((met s t m).1 (e, a, b)) (not_is _ z)) (or_cases (eqb s t) _ h)

  told_test : OwnTold L x g opens starts ↔ (keeps_own L x g opens starts ≡ true)
  unfolding keeps_own has_own is_one is_none alone
  told_test = (
    λ told. all_intro _ starts (λ s m.
        and_both _ _ (ap is_one (told.one s m)) (and_both _ _ (ap is_none (told.settled s m)) (all_intro _ starts (λ t. told_alone told s t m)))),
    λ h. record {
      one = λ s m. is_one_lem _ (and_left _ _ (all_elim _ starts h s m));
      settled = λ s m. is_none_lem _ (and_left _ _ (rest h s m));
      no_scope = λ s t m k n e _.
          alone_told s t m (all_elim _ starts (and_right (is_none (awaits L g (asked L x s) opens)) _ (rest h s m)) t k) n e;
    },
  )
    where
      rest : keeps_own L x g opens starts ≡ true → (s : ℕ) → s ∈ starts
          → (is_none (awaits L g (asked L x s) opens) && all_of (alone s) starts) ≡ true
      rest h s m = and_right (is_one (found L g (asked L x s))) _ (all_elim _ starts h s m)

  one_mark : (s e : ℕ) → s ∈ starts → ends_at L g (asked L x s) e ≡ true
      → (several_marks L g (asked L x s) e ≡ false) ↔ ((m : ℕ) × (marks_at L g.declarations e x ≡ m ∷ []))
  unfolding several_marks has_second
  one_mark s e m h =
      let r = (ends_are L (ok s m).laws g (asked L x s) (ok s m).in_range (ok s m).starts e).0 h in
      (only _ (marks_intro L (ok s m).laws g e x (rw r.2 at r.1.declared)), λ k. rw k.1)

  pub own_promises : OwnPromises L x g opens starts
  own_promises = record {
    always_now = always_now;
    now_told = now_told;
    told_test = told_test;
    shares_ends = shares_ends;
    one_ends = λ s m.
        found_among_lem L (ok s m).laws g (asked L x s) (ok s m).in_range (ok s m).starts (ok s m).declarations_ascend g.scopes
        (omega arith) found_one;
    one_mark = one_mark;
  }

pub owns : Owns
owns = own_promises
