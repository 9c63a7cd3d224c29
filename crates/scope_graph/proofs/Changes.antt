-- The theorem behind `awaits`: an extension changes what a query sees exactly where it may add at a followed place. Assumes nothing; that the reached
-- paths and the entries of a graph are finitely many, and that *preferred* is decided, are parameters here, proved in Nodes and Entries.
use Prim.Native.Nat.{ℕ, ◌≤◌, ◌<◌}
use native.Mathlib.Omega.{arith}
use mathlib.Core.Path.{◌≡◌, refl, sym, ap, ◌∙◌}
use mathlib.Core.Bool.{true}
use mathlib.Core.Logic.{◌↔◌, ◌⊎◌, inl, inr, ⊎_elim}
use mathlib.Core.List.Memᴰ
use mathlib.Core.List.{List, [], ◌∷◌, ◌++◌, append_assoc, append-nil}
use Rattle.scope_graph.specs.Language.{◌∈◌, End, stop, by, Language, Laws}
use Rattle.scope_graph.specs.Graph.{Graph, InRange, Query}
use Rattle.scope_graph.specs.Path.{Distinct, Hop, Path, PathRow, tos, last_from, Along, IsPath, Leads, word, Lawful, Declares, Reached, Visible, Entry}
use Rattle.scope_graph.specs.Completion.{Extension, SameEntries}
use Rattle.scope_graph.specs.Followed.{Preferred, Usable, Followed}
use Rattle.scope_graph.proofs.Lists.{here, there}
use Rattle.scope_graph.proofs.Order.{recursive, preferred_irreflexive, preferred_transitive, preferred_longer}
use Rattle.scope_graph.proofs.Extension.{all_or, along_join, leads_join, last_join, tos_join, last_in, reached_kept}

module _ (L : Language) (laws : Laws L) (q : Query L) where
  -- the path from the query's start along the hops
  abbrev pub route : List (Hop L) → Path L
  route r = record { start = q.start; hops = r }

  route_of : (p : Path L) → p.start ≡ q.start → p ≡ route p.hops
  route_of p e = λ i. record { start = e i; hops = p.hops }

  -- nothing reached is preferred to the hops
  abbrev Uncut : Graph L → List (Hop L) → Type 0
  Uncut g p = (r : List (Hop L)) → Reached L g q (route r) → ¬ Preferred L r p stop

  visible_uncut : (g : Graph L) (p : Path L) → Visible L g q p → Uncut g p.hops
  visible_uncut g p v r k m =
      v.unshadowed (route r) k ((recursive L laws (route r) p (sym v.reached.from_start)).0 m)

  uncut_visible : (g : Graph L) (p : Path L) → Reached L g q p → Uncut g p.hops → Visible L g q p
  uncut_visible g p k u = record {
    reached = k;
    unshadowed = λ r w m. u r.hops (rw (route_of r w.from_start) at w) ((recursive L laws r p m.same_start).1 m);
  }

  module _
      (decided : (r p : List (Hop L)) → Dec (Preferred L r p stop))
      (reached_list : (g : Graph L) → InRange L g → q.start < g.scopes
      → (rs : List (List (Hop L))) × ((r : List (Hop L)) → (r ∈ rs) ↔ Reached L g q (route r)))
      (entry_list : (g : Graph L) → InRange L g → q.start < g.scopes
      → (rs : List (PathRow L)) × ((r : PathRow L) → (r ∈ rs) ↔ Entry L g q r))
    where
      -- among finitely many hop lists, one at or before p to which none is preferred
      record Least (rs : List (List (Hop L))) (p : List (Hop L)) : Type 0 where
        least : List (Hop L)
        which : (least ≡ p) ⊎ ((least ∈ rs) × Preferred L least p stop)
        uncut : (r : List (Hop L)) → r ∈ rs → ¬ Preferred L r least stop

      least_of : (rs : List (List (Hop L))) (p : List (Hop L)) → Least rs p
      least_of [] p = record { least = p; which = inl refl; uncut = λ r m. absurd (Memᴰ.not-nil m) }
      least_of (x ∷ rs) p = step (least_of rs p)
        where
          before : {v : List (Hop L)} → (v ≡ p) ⊎ ((v ∈ rs) × Preferred L v p stop) → Preferred L x v stop → Preferred L x p stop
          before (inl e) k = rw e at k
          before {v} (inr m) k = preferred_transitive L laws x v p k m.1

          choose : (d : Least rs p) → Dec (Preferred L x d.least stop) → Least (x ∷ rs) p
          choose d (yes k) = record {
            least = x;
            which = inr (here, before d.which k);
            uncut = λ r m w. ⊎_elim (λ e. preferred_irreflexive L laws x (rw e at w))
                (λ n. d.uncut r n (preferred_transitive L laws r x d.least w k)) (Memᴰ.cases_cons m);
          }
          choose d (no k) = record {
            least = d.least;
            which = ⊎_elim (λ e. inl e) (λ m. inr (there m.0, m.1)) d.which;
            uncut = λ r m w. ⊎_elim (λ e. k (rw e at w)) (λ n. d.uncut r n w) (Memᴰ.cases_cons m);
          }

          step : Least rs p → Least (x ∷ rs) p
          step d = choose d (decided x d.least)

      -- at or before a reached path there is a visible one
      pub record Down (g : Graph L) (p : List (Hop L)) : Type 0 where
        pub hops : List (Hop L)
        pub which : (hops ≡ p) ⊎ Preferred L hops p stop
        pub visible : Visible L g q (route hops)

      pub down : (g : Graph L) → InRange L g → q.start < g.scopes → (p : List (Hop L)) → Reached L g q (route p) → Down g p
      down g range starts p k =
          let all = reached_list g range starts in
          let d = least_of all.0 p in
          record {
            hops = d.least;
            which = ⊎_elim (λ e. inl e) (λ m. inr m.1) d.which;
            visible = uncut_visible g (route d.least)
                (⊎_elim (λ e. rw e k) (λ m. (all.1 d.least).0 m.0) d.which)
                (λ r w. d.uncut r ((all.1 r).1 w));
          }

      pub entry_of : (g : Graph L) (p : List (Hop L)) (v : Visible L g q (route p)) → Entry L g q (record { mark = v.reached.mark; path = route p })
      entry_of g p v = record { visible = v; declared = v.reached.declared }

      module _ (Allowed : ℕ → End L.Step → Type 0) (g h : Graph L) (range : InRange L g) (starts : q.start < g.scopes)
          (ext : Extension L Allowed g h) where
        h_starts : q.start < h.scopes
        h_starts = let b = ext.scopes_kept in omega arith

        -- where a path of h first leaves g: what g has of it, and how it goes on
        record Leaves (p : List (Hop L)) : Type 0 where
          hops : List (Hop L)
          end : End L.Step
          path : IsPath L g (route hops)
          allowed : Allowed (last_from q.start hops) end
          state : ℕ
          leads : Leads L 0 (word L hops) state
          usable : Usable L state end
          cuts : (r : List (Hop L)) → Preferred L r hops end → Preferred L r p stop

        distinct_front : (a c : List ℕ) → Distinct (a ++ c) → Distinct a
        distinct_front [] c h = tt
        distinct_front (x ∷ a) c h = ((λ m. h.0 (Memᴰ.append_left c m)), distinct_front a c h.1)

        simple_front : (p π c : List (Hop L)) → p ≡ π ++ c → Distinct (q.start ∷ tos L p) → Distinct (q.start ∷ tos L π)
        simple_front p π c e d =
            distinct_front (q.start ∷ tos L π) (tos L c) (rw (ap (tos L) e ∙ tos_join L π c) at d)

        -- the path stands in g already, with the mark, or it leaves g
        abbrev Traced : List (Hop L) → ℕ → Type 0
        Traced p m = (IsPath L g (route p) × Declares L g (last_from q.start p) q.name m) ⊎ Leaves p

        module _ (p : List (Hop L)) (m : ℕ) (simple : Distinct (q.start ∷ tos L p)) (final : ℕ) (accepted : L.accepts final ≡ true) where
          -- all its hops are in g
          ended : Along L g q.start p → Leads L 0 (word L p) final
              → (record { at = last_from q.start p; name = q.name; mark = m } ∈ g.declarations)
              ⊎ ((g.scopes ≤ last_from q.start p) ⊎ Allowed (last_from q.start p) stop)
              → Traced p m
          ended a ld (inl d) = inl (record { starts = starts; along = a; simple = simple }, d)
          ended a ld (inr (inl n)) = let w = last_in L g range q.start p starts a in absurd (omega arith)
          ended a ld (inr (inr w)) = inr (record {
            hops = p;
            end = stop;
            path = record { starts = starts; along = a; simple = simple };
            allowed = w;
            state = final;
            leads = ld;
            usable = accepted;
            cuts = λ r k. k;
          })

          -- its hops π are in g, and the next hop may be
          goes : (π : List (Hop L)) (x : Hop L) (c : List (Hop L)) → p ≡ π ++ (x ∷ c) → Along L g q.start π
              → (s : ℕ) → Leads L 0 (word L π) s → Leads L s (word L (x ∷ c)) final
              → (record { from = last_from q.start π; step = x.step; to = x.to } ∈ g.edges → Traced p m)
              → (record { from = last_from q.start π; step = x.step; to = x.to } ∈ g.edges)
              ⊎ ((g.scopes ≤ last_from q.start π) ⊎ Allowed (last_from q.start π) (by x.step))
              → Traced p m
          goes π x c e a s ld lc go (inl d) = go d
          goes π x c e a s ld lc go (inr (inl n)) = let w = last_in L g range q.start π starts a in absurd (omega arith)
          goes π x c e a s ld lc go (inr (inr w)) = inr (record {
            hops = π;
            end = by x.step;
            path = record { starts = starts; along = a; simple = simple_front p π (x ∷ c) e simple };
            allowed = w;
            state = s;
            leads = ld;
            usable = (lc.0, lc.1, word L c, final, lc.2, accepted);
            cuts = λ r k. rw e (preferred_longer L laws r π x c stop k);
          })

          follow : (π c : List (Hop L)) → p ≡ π ++ c → Along L g q.start π → Along L h (last_from q.start π) c
              → (s : ℕ) → Leads L 0 (word L π) s → Leads L s (word L c) final
              → Declares L h (last_from q.start p) q.name m → Traced p m
          follow π [] e a b s ld lc d =
              let k : p ≡ π = e ∙ append-nil π in
              ended (rw k a) (rw (k, ← lc) ld) (ext.new_declaration _ d)
          follow π (x ∷ c) e a b s ld lc d =
              goes π x c e a s ld lc
              (λ w. follow (π ++ (x ∷ [])) c (e ∙ sym (append_assoc π (x ∷ []) c)) (along_join L g q.start π (x ∷ []) a (w, tt))
              (rw (last_join L q.start π (x ∷ [])) b.1) lc.0
              (leads_join L 0 s lc.0 π (x ∷ []) ld (lc.0, lc.1, refl)) lc.2 d)
              (ext.new_edge _ b.0)

        trace : (p : List (Hop L)) (m : ℕ) → IsPath L h (route p) → Lawful L (route p) → Declares L h (last_from q.start p) q.name m → Traced p m
        trace p m path law d = follow p m path.simple law.final law.accepted [] p refl tt path.along 0 refl law.leads d

        -- a row that g reaches as well
        abbrev InG : PathRow L → Type 0
        InG r = Reached L g q r.path × Declares L g (last_from r.path.start r.path.hops) q.name r.mark

        abbrev Place : Type 0
        Place = (s : ℕ) × (e : End L.Step) × Allowed s e × Followed L g q s e

        -- where a path that h shows leaves g, g follows
        place_of_lem : (p : List (Hop L)) → Uncut h p → Leaves p → Place
        place_of_lem p u w = (
          last_from q.start w.hops,
          w.end,
          w.allowed,
          record {
            hops = w.hops;
            path = w.path;
            comes = refl;
            state = w.state;
            leads = w.leads;
            usable = w.usable;
            uncut = λ r k m. u r (reached_kept L Allowed g h ext q (route r) k) (w.cuts r m);
          },
        )

        entry_traced : (r : PathRow L) → Entry L h q r → InG r ⊎ Place
        entry_traced r en =
            let v = en.visible in
            let k = v.reached in
            let e = route_of r.path k.from_start in
            let hops = r.path.hops in
            ⊎_elim
            (λ w. inl (
              record {
                from_start = k.from_start;
                path = rw e w.0;
                lawful = k.lawful;
                mark = r.mark;
                declared = rw (ap (λ (z : Path L). last_from z.start z.hops) e) w.1;
              },
              rw (ap (λ (z : Path L). last_from z.start z.hops) e) w.1,
            ))
            (λ w. inr (place_of_lem hops (visible_uncut h r.path v) w))
            (trace hops r.mark (rw e at k.path) (rw e at k.lawful)
            (rw (ap (λ (z : Path L). last_from z.start z.hops) e) at en.declared))

        -- all that h shows g reaches: then both show the same
        module _ (all : (r : PathRow L) → Entry L h q r → InG r) where
          to_h : (r : PathRow L) → Entry L g q r → Entry L h q r
          to_h r en = record {
            visible = uncut_visible h r.path (reached_kept L Allowed g h ext q r.path en.visible.reached)
                (λ t k m.
                let d = down h ext.in_range h_starts t k in
                let shown = all _ (entry_of h d.hops d.visible) in
                visible_uncut g r.path en.visible d.hops shown.0
                (⊎_elim (λ e. rw e m) (λ w. preferred_transitive L laws d.hops t r.path.hops w m) d.which));
            declared = ext.declarations_kept _ en.declared;
          }

          to_g : (r : PathRow L) → Entry L h q r → Entry L g q r
          to_g r en = record {
            visible = uncut_visible g r.path (all r en).0
                (λ t k m. visible_uncut h r.path en.visible t (reached_kept L Allowed g h ext q (route t) k) m);
            declared = (all r en).1;
          }

        -- an extension shows the same, or may add at a followed place
        pub same_or_followed : SameEntries L q g h ⊎ Place
        same_or_followed =
            let list = entry_list h ext.in_range h_starts in
            ⊎_elim
            (λ all. inl (λ r.
            let every : (r : PathRow L) → Entry L h q r → InG r = λ p en. all p ((list.1 p).1 en) in
            (to_h every r, to_g every r)))
            (λ w. inr w)
            (all_or {P = InG} list.0 (λ r m. entry_traced r ((list.1 r).0 m)))
