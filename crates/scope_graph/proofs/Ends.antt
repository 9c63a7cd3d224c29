-- `found` told from the scopes where visible paths end and the marks there. Assumes nothing.
use Prim.Native.Nat.{ℕ, ◌<◌, ◌≤◌}
use mathlib.Core.Path.{◌≡◌, refl, sym, ap, ◌∙◌, subst}
use mathlib.Core.Bool.{true, false}
use mathlib.Core.Logic.{◌↔◌, inl, inr}
use mathlib.Core.List.Memᴰ
use mathlib.Core.List.{List, [], ◌∷◌}
use native.Mathlib.Omega.{arith}
use Rattle.scope_graph.specs.Language.{◌∈◌, End, stop, by, Language, Laws}
use Rattle.scope_graph.specs.Graph.{Declaration, Graph, InRange, Query, Admits}
use Rattle.scope_graph.specs.Path.{Path, PathRow, last_from, row_declaration, Declares, Reached, Visible, Entry}
use Rattle.scope_graph.specs.Followed.{Followed, FollowedAt}
use Rattle.scope_graph.specs.Computed.{Found, found_none, found_one, found_several, marks_at, declares_any, followed_at, found}
use Rattle.scope_graph.specs.Listing.{Pairwise, MarkBefore, FoundIs}
use Rattle.scope_graph.specs.Ends.{has_second, found_among, ends_at, several_marks}
use Rattle.scope_graph.proofs.Lists.{here, there, true_false, and_left, and_right, and_both}
use Rattle.scope_graph.proofs.Reached.{path_eq, marks_elim, marks_intro, declares_elim, declares_intro}
use Rattle.scope_graph.proofs.Order.{recursive}
use Rattle.scope_graph.proofs.Ascend.{marks_ascend}
use Rattle.scope_graph.proofs.FollowedAt.{followed_is}
use Rattle.scope_graph.proofs.Among.{Among, among_is}
use Rattle.scope_graph.proofs.Found.{one_found, found_is}

-- an ascending list has a second element exactly if it has two that differ
second_elim : (l : List ℕ) → Pairwise ◌<◌ l → has_second l ≡ true → (a : ℕ) × (b : ℕ) × (a ∈ l) × (b ∈ l) × (a < b)
unfolding has_second
second_elim [] up h = absurd (true_false h refl)
second_elim (a ∷ []) up h = absurd (true_false h refl)
second_elim (a ∷ b ∷ l) up h = (a, b, here, there here, up.0 b here)

second_none : (l : List ℕ) (a b : ℕ) → has_second l ≡ false → a ∈ l → b ∈ l → a ≡ b
unfolding has_second
second_none [] a b h m k = absurd (Memᴰ.not-nil m)
second_none (x ∷ []) a b h m k = Memᴰ.eq_of_singleton m ∙ sym (Memᴰ.eq_of_singleton k)
second_none (x ∷ y ∷ l) a b h m k = absurd (true_false refl h)

module _ (L : Language) (laws : Laws L) (g : Graph L) (q : Query L) where
  -- Where the name is declared, a visible path ends exactly if the scope is followed, as at an open
  -- pair with `$`; elsewhere none does.
  pub declared_ends : (s : ℕ) → declares_any L g.declarations s q.name ≡ true
      → ends_at L g q s ≡ followed_at L g q (record { at = s; end = stop })
  unfolding ends_at
  declared_ends s e = rw e

  pub undeclared_ends : (s : ℕ) → declares_any L g.declarations s q.name ≡ false → ends_at L g q s ≡ false
  unfolding ends_at
  undeclared_ends s e = rw e

  -- the declaration of the name at a scope with a mark
  abbrev of_scope : ℕ → ℕ → Declaration L
  of_scope s m = record { at = s; name = q.name; mark = m }

  module _ (range : InRange L g) (starts : q.start < g.scopes) where
    -- a path that is followed to its end at a scope with the name is visible
    stopped : (s m : ℕ) → Declares L g s q.name m → Followed L g q s stop
        → (r : PathRow L) × Entry L g q r × (row_declaration L q r ≡ of_scope s m)
    stopped s m d f = (
      record { mark = m; path = record { start = q.start; hops = f.hops } },
      record {
        visible = record {
          reached = record {
            from_start = refl;
            path = f.path;
            lawful = record { final = f.state; leads = f.leads; accepted = f.usable };
            mark = m;
            declared = rw f.comes d;
          };
          unshadowed = λ r w k.
              f.uncut r.hops (subst (Reached L g q) (path_eq L w.from_start refl) w)
              ((recursive L laws r (record { start = q.start; hops = f.hops }) w.from_start).1 k);
        };
        declared = rw f.comes d;
      },
      ap (λ t. of_scope t m) f.comes,
    )

    -- each declaration of the name at an end is an entry's
    pub ends_entry : (s m : ℕ) → ends_at L g q s ≡ true → Declares L g s q.name m
        → (r : PathRow L) × Entry L g q r × (row_declaration L q r ≡ of_scope s m)
    unfolding ends_at
    ends_entry s m h d =
        let t = and_right (declares_any L g.declarations s q.name) _ h in
        let w = (followed_is L laws g q range starts (record { at = s; end = stop })).0 t in
        at_stop w.0 w.1 w.2
      where
        at_stop : (e : End L.Step) → Admits L stop e → Followed L g q s e
            → (r : PathRow L) × Entry L g q r × (row_declaration L q r ≡ of_scope s m)
        at_stop stop a f = stopped s m d f
        at_stop (by t) a f = absurd a

    -- an entry's path ends at an end
    pub entry_ends : (r : PathRow L) → Entry L g q r → ends_at L g q (row_declaration L q r).at ≡ true
    unfolding ends_at
    entry_ends r e =
        let v = e.visible in
        let w = v.reached in
        and_both _ _ (declares_intro L laws g _ q.name e.declared)
        ((followed_is L laws g q range starts (record { at = (row_declaration L q r).at; end = stop })).1 (
          stop,
          tt,
          record {
            hops = r.path.hops;
            path = rw (← w.from_start) w.path;
            comes = ap (λ s. last_from s r.path.hops) (sym w.from_start);
            state = w.lawful.final;
            leads = w.lawful.leads;
            usable = w.lawful.accepted;
            uncut = λ p x k.
                v.unshadowed (record { start = q.start; hops = p }) x
                ((recursive L laws (record { start = q.start; hops = p }) r.path (sym w.from_start)).0 k);
          },
        ))

    entry_below : (r : PathRow L) → Entry L g q r → (row_declaration L q r).at < g.scopes
    entry_below r e = range.at_scope _ e.declared

    -- a mark at an end
    end_mark : (s : ℕ) → ends_at L g q s ≡ true → (m : ℕ) × Declares L g s q.name m
    unfolding ends_at
    end_mark s h = declares_elim L laws g s q.name (and_left _ _ h)

    -- the ends are the scopes where the entries' paths end
    pub ends_are : (s : ℕ) → (ends_at L g q s ≡ true) ↔ ((r : PathRow L) × Entry L g q r × ((row_declaration L q r).at ≡ s))
    ends_are s = (
      λ h. let d = end_mark s h in let r = ends_entry s d.0 h d.1 in (r.0, r.1, ap (λ d. d.at) r.2),
      λ k. rw k.2 at (entry_ends k.0 k.1),
    )

    module _ (declarations_ascend : Pairwise (MarkBefore L) g.declarations) where
      marks_up : (s : ℕ) → Pairwise ◌<◌ (marks_at L g.declarations s q.name)
      marks_up s = marks_ascend L laws g.declarations s q.name declarations_ascend

      -- what the scopes say is what the entries do
      told : (n : ℕ) → g.scopes ≤ n → (f : Found) → Among (ends_at L g q) (several_marks L g q) n f → FoundIs L g q f
      unfolding several_marks
      told n h found_none a = λ r e. true_false (entry_ends r e) (a _ (omega (arith, entry_below r e)))
      told n h found_one a =
          let d = end_mark a.0 a.2 in
          let r = ends_entry a.0 d.0 a.2 d.1 in
          (r.0, r.1, λ p e. same p e (a.4 _ (omega (arith, entry_below p e)) (entry_ends p e)) d.0 d.1 ∙ sym r.2)
        where
          same : (p : PathRow L) → Entry L g q p → (row_declaration L q p).at ≡ a.0 → (m : ℕ) → Declares L g a.0 q.name m
              → row_declaration L q p ≡ of_scope a.0 m
          same p e z m d =
              let mine = marks_intro L laws g a.0 q.name (rw z at e.declared) in
              let k = second_none _ p.mark m a.3 mine (marks_intro L laws g a.0 q.name d) in
              rw (z, k)
      told n h found_several (inl a) =
          let k = second_elim (marks_at L g.declarations a.0 q.name) (marks_up a.0) a.3 in
          let r = ends_entry a.0 k.0 a.2 (marks_elim L laws g a.0 q.name k.2) in
          let p = ends_entry a.0 k.1 a.2 (marks_elim L laws g a.0 q.name k.3) in
          (r.0, p.0, r.1, p.1, λ e. let z : k.0 ≡ k.1 = ap (λ d. d.mark) (sym r.2 ∙ e ∙ p.2) in omega (arith, k.4))
      told n h found_several (inr a) =
          let d = end_mark a.0 a.4 in
          let c = end_mark a.1 a.5 in
          let r = ends_entry a.0 d.0 a.4 d.1 in
          let p = ends_entry a.1 c.0 a.5 c.1 in
          (r.0, p.0, r.1, p.1, λ e. let z : a.0 ≡ a.1 = ap (λ d. d.at) (sym r.2 ∙ e ∙ p.2) in omega (arith, a.2))

      pub found_told : (n : ℕ) → g.scopes ≤ n → found_among (ends_at L g q) (several_marks L g q) n ≡ found L g q
      found_told n h =
          let f = found_among (ends_at L g q) (several_marks L g q) n in
          one_found L laws g q f (found L g q) (told n h f (among_is (ends_at L g q) (several_marks L g q) n))
          (found_is L laws g q range starts)

      -- in words: none, one end with one mark, an end with two marks or two ends, and no other way about
      pub found_among_lem : (n : ℕ) → g.scopes ≤ n → (f : Found)
          → (found L g q ≡ f) ↔ Among (ends_at L g q) (several_marks L g q) n f
      found_among_lem n h f = (
        λ e. subst (Among (ends_at L g q) (several_marks L g q) n) (found_told n h ∙ e) (among_is (ends_at L g q) (several_marks L g q) n),
        λ a. one_found L laws g q (found L g q) f (found_is L laws g q range starts) (told n h f a),
      )
