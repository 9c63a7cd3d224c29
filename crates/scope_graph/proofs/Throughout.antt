-- Renumbering, first half (specs/Renamed; 02, K13): of numbers that are all renamed, those from n on
-- among themselves. A completion has scopes past the graph's own, so this is the form in which
-- entries, `found` and settled are carried over. Assumes nothing.
use Prim.Native.Nat.{ℕ, ◌<◌, ◌≤◌}
use native.Mathlib.Omega.{arith}
use mathlib.Core.Path.{◌≡◌, refl, sym, ap, ◌∙◌, subst}
use mathlib.Core.Logic.{◌⊎◌, inl, inr, ⊎_elim}
use mathlib.Core.List.Memᴰ
use mathlib.Core.List.{List, [], ◌∷◌, map}
use Rattle.scope_graph.specs.Language.{◌∈◌, End, stop, Language, Laws}
use Rattle.scope_graph.specs.Graph.{Edge, Declaration, Graph, InRange, Query, OpenPair, Admits}
use Rattle.scope_graph.specs.Path.{Distinct, Hop, Path, PathRow, tos, last_from, row_declaration, Along, word, Reached, MoreSpecific, Entry}
use Rattle.scope_graph.specs.Completion.{AtOne, Completion, Settled}
use Rattle.scope_graph.specs.Computed.{Found, found_none, found_one, found_several, found}
use Rattle.scope_graph.specs.Listing.{FoundIs}
use Rattle.scope_graph.specs.Followed.{Preferred}
use Rattle.scope_graph.specs.Renamed.{SameElements, edge_under, declaration_under, open_under, query_under, graph_under, hop_under, path_under, row_under, Renamed}
use Rattle.scope_graph.proofs.Lists.{there, map_intro, map_elim}
use Rattle.scope_graph.proofs.Order.{recursive}

-- f and b renumber all numbers and undo each other; both keep what is below n below n, and what is
-- from n on from n on
pub record Throughout (n : ℕ) (f b : ℕ → ℕ) : Type 0 where
  pub back : (x : ℕ) → b (f x) ≡ x
  pub forth : (x : ℕ) → f (b x) ≡ x
  pub new_below : (m x : ℕ) → n ≤ m → x < m → f x < m
  pub old_below : (m x : ℕ) → n ≤ m → x < m → b x < m
  pub new_above : (x : ℕ) → n ≤ x → n ≤ f x
  pub old_above : (x : ℕ) → n ≤ x → n ≤ b x

-- f and b change places
pub turned : {n : ℕ} {f b : ℕ → ℕ} → Throughout n f b → Throughout n b f
turned w = record {
  back = w.forth;
  forth = w.back;
  new_below = w.old_below;
  old_below = w.new_below;
  new_above = w.old_above;
  old_above = w.new_above;
}

module _ (L : Language) where
  last_under : (f : ℕ → ℕ) (s : ℕ) (hs : List (Hop L)) → last_from (f s) (map (hop_under L f) hs) ≡ f (last_from s hs)
  last_under f s [] = refl
  last_under f s (h ∷ hs) = last_under f h.to hs

  pub tos_under : (f : ℕ → ℕ) (hs : List (Hop L)) → tos L (map (hop_under L f) hs) ≡ map f (tos L hs)
  tos_under f [] = refl
  tos_under f (h ∷ hs) = ap (λ (z : List ℕ). f h.to ∷ z) (tos_under f hs)

  word_under : (f : ℕ → ℕ) (hs : List (Hop L)) → word L (map (hop_under L f) hs) ≡ word L hs
  word_under f [] = refl
  word_under f (h ∷ hs) = ap (λ (z : List ℕ). L.label h.step ∷ z) (word_under f hs)

  along_under : (f : ℕ → ℕ) (g k : Graph L) → Renamed L f g k → (s : ℕ) (hs : List (Hop L)) → Along L g s hs
      → Along L k (f s) (map (hop_under L f) hs)
  along_under f g k ren s [] a = tt
  along_under f g k ren s (h ∷ hs) a = ((ren.edges _).1 (map_intro (edge_under L f) a.0), along_under f g k ren h.to hs a.1)

  preferred_under : (f : ℕ → ℕ) (r p : List (Hop L)) (e : End L.Step) → Preferred L r p e
      → Preferred L (map (hop_under L f) r) (map (hop_under L f) p) e
  preferred_under f [] [] e h = h
  preferred_under f [] (k ∷ p) e h = h
  preferred_under f (j ∷ r) [] e h = h
  preferred_under f (j ∷ r) (k ∷ p) e (inl h) = inl h
  preferred_under f (j ∷ r) (k ∷ p) e (inr h) = inr (ap (hop_under L f) h.0, preferred_under f r p e h.1)

  specific_under : Laws L → (f : ℕ → ℕ) (r p : Path L) → MoreSpecific L r p → MoreSpecific L (path_under L f r) (path_under L f p)
  specific_under laws f r p m =
      (recursive L laws (path_under L f r) (path_under L f p) (ap f m.same_start)).0
      (preferred_under f r.hops p.hops stop ((recursive L laws r p m.same_start).1 m))

  declaration_under_lem : (f : ℕ → ℕ) (q : Query L) (r : PathRow L)
      → row_declaration L (query_under L f q) (row_under L f r) ≡ declaration_under L f (row_declaration L q r)
  declaration_under_lem f q r = λ i. record { at = last_under f r.path.start r.path.hops i; name = q.name; mark = r.mark }

  module _ (n : ℕ) (f b : ℕ → ℕ) (w : Throughout n f b) where
    same : (x y : ℕ) → f x ≡ f y → x ≡ y
    same x y e = sym (w.back x) ∙ ap b e ∙ w.back y

    distinct_under : (xs : List ℕ) → Distinct xs → Distinct (map f xs)
    distinct_under [] d = tt
    distinct_under (x ∷ xs) d =
        ((λ m. let k = map_elim f xs m in d.0 (Memᴰ.cast (same x k.0 k.2) k.1)), distinct_under xs d.1)

    -- renumbering by f and then by b changes nothing
    edge_back : (e : Edge L) → edge_under L b (edge_under L f e) ≡ e
    edge_back e = λ i. record { from = w.back e.from i; step = e.step; to = w.back e.to i }

    declaration_back : (d : Declaration L) → declaration_under L b (declaration_under L f d) ≡ d
    declaration_back d = λ i. record { at = w.back d.at i; name = d.name; mark = d.mark }

    pub open_back : (o : OpenPair L) → open_under L b (open_under L f o) ≡ o
    open_back o = λ i. record { at = w.back o.at i; end = o.end }

    pub query_back : (q : Query L) → query_under L b (query_under L f q) ≡ q
    query_back q = λ i. record { start = w.back q.start i; name = q.name }

    hops_back : (hs : List (Hop L)) → map (hop_under L b) (map (hop_under L f) hs) ≡ hs
    hops_back [] = refl
    hops_back (h ∷ hs) = λ i. record { step = h.step; to = w.back h.to i } ∷ hops_back hs i

    path_back : (p : Path L) → path_under L b (path_under L f p) ≡ p
    path_back p = λ i. record { start = w.back p.start i; hops = hops_back p.hops i }

    pub row_back : (r : PathRow L) → row_under L b (row_under L f r) ≡ r
    row_back r = λ i. record { mark = r.mark; path = path_back r.path i }

    -- so a list renumbered row by row comes back, whatever its sequence
    module _ {A : Type 0} (go come : A → A) (home : (a : A) → come (go a) ≡ a) where
      pub elements_back : (xs ys : List A) → SameElements ys (map go xs) → SameElements xs (map come ys)
      elements_back xs ys s a = (
        λ m. Memᴰ.cast (sym (home a)) (map_intro come ((s (go a)).1 (map_intro go m))),
        λ m.
            let k = map_elim come ys m in
            let j = map_elim go xs ((s k.0).0 k.1) in
            Memᴰ.cast (k.2 ∙ ap come j.2 ∙ home j.0) j.1,
      )

    pub renamed_back : (g k : Graph L) → Renamed L f g k → Renamed L b k g
    renamed_back g k ren = record {
      scopes = sym ren.scopes;
      edges = elements_back (edge_under L f) (edge_under L b) edge_back g.edges k.edges ren.edges;
      declarations = elements_back (declaration_under L f) (declaration_under L b) declaration_back g.declarations k.declarations ren.declarations;
    }

    reached_under : (g k : Graph L) → n ≤ g.scopes → Renamed L f g k → (q : Query L) (p : Path L) → Reached L g q p
        → Reached L k (query_under L f q) (path_under L f p)
    reached_under g k le ren q p r = record {
      from_start = ap f r.from_start;
      path = record {
        starts = rw ren.scopes (w.new_below g.scopes p.start le r.path.starts);
        along = along_under f g k ren p.start p.hops r.path.along;
        simple = rw (tos_under f p.hops) (distinct_under (p.start ∷ tos L p.hops) r.path.simple);
      };
      lawful = record { final = r.lawful.final; leads = rw (word_under f p.hops) r.lawful.leads; accepted = r.lawful.accepted };
      mark = r.mark;
      declared = (ren.declarations _).1 (rw (last_under f p.start p.hops) (map_intro (declaration_under L f) r.declared));
    }

    pub range_under : (g k : Graph L) → n ≤ g.scopes → Renamed L f g k → InRange L g → InRange L k
    range_under g k le ren range = record {
      from_scope = λ e m. let j = from e m in rw (ren.scopes, j.2) (w.new_below g.scopes _ le (range.from_scope j.0 j.1));
      to_scope = λ e m. let j = from e m in rw (ren.scopes, j.2) (w.new_below g.scopes _ le (range.to_scope j.0 j.1));
      listed = λ e m. let j = from e m in rw j.2 (range.listed j.0 j.1);
      carried = λ e m. let j = from e m in rw j.2 (range.carried j.0 j.1);
      at_scope = λ d m.
          let j = map_elim (declaration_under L f) g.declarations ((ren.declarations d).0 m) in
          rw (ren.scopes, j.2) (w.new_below g.scopes _ le (range.at_scope j.0 j.1));
      together = λ e d m o x y.
          let i = from e m in let j = from d o in
          rw (i.2, j.2) (range.together i.0 j.0 i.1 j.1
          (same _ _ (rw (i.2, j.2) at x)) (same _ _ (rw (i.2, j.2) at y)));
    }
      where
        from : (e : Edge L) → e ∈ k.edges → (d : Edge L) × (d ∈ g.edges) × (e ≡ edge_under L f d)
        from e m = map_elim (edge_under L f) g.edges ((ren.edges e).0 m)

  module _ (laws : Laws L) where
    pub entry_under : (n : ℕ) (f b : ℕ → ℕ) → Throughout n f b → (g k : Graph L) → n ≤ g.scopes → Renamed L f g k → (q : Query L) (r : PathRow L)
        → Entry L g q r → Entry L k (query_under L f q) (row_under L f r)
    entry_under n f b w g k le ren q r e = record {
      visible = record {
        reached = reached_under n f b w g k le ren q r.path e.visible.reached;
        unshadowed = λ t v m.
            e.visible.unshadowed (path_under L b t)
            (subst (λ z. Reached L g z (path_under L b t)) (query_back n f b w q)
            (reached_under n b f (turned w) k g (omega (arith, ren.scopes)) (renamed_back n f b w g k ren) (query_under L f q) t v))
            (subst (MoreSpecific L (path_under L b t)) (path_back n f b w r.path) (specific_under laws b t (path_under L f r.path) m));
      };
      declared = (ren.declarations _).1 (rw (declaration_under_lem f q r) (map_intro (declaration_under L f) e.declared));
    }

    -- a completion of the renumbered graph, under the old numbers, is a completion of the graph
    module _ (f b : ℕ → ℕ) (g k : Graph L) (w : Throughout g.scopes f b) (range : InRange L g) (ren : Renamed L f g k)
        (opens pairs : List (OpenPair L)) (open-ren : SameElements pairs (map (open_under L f) opens)) where
      le_self : g.scopes ≤ g.scopes
      le_self = omega arith

      old_graph : (h : Graph L) → Renamed L b h (graph_under L b h)
      old_graph h = record { scopes = refl; edges = λ e. (λ m. m, λ m. m); declarations = λ d. (λ m. m, λ m. m) }

      back_ren : Renamed L b k g
      back_ren = renamed_back g.scopes f b w g k ren

      old_pair : (s : ℕ) (e : End L.Step) → AtOne L pairs s e → AtOne L opens (b s) e
      old_pair s e (o, m, (x, a)) =
          let j = map_elim (open_under L f) opens ((open-ren o).0 m) in (
            j.0,
            j.1,
            (
              sym (w.back j.0.at) ∙ ap b (sym (ap (λ (y : OpenPair L). y.at) j.2) ∙ x),
              subst (λ (y : OpenPair L). Admits L y.end e) j.2 a,
            ),
          )

      completion_under : (h : Graph L) → Completion L pairs k h → Completion L opens g (graph_under L b h)
      completion_under h c = record {
        scopes_kept = omega (arith, c.scopes_kept, ren.scopes);
        edges_kept = λ e m.
            Memᴰ.cast (sym (edge_back g.scopes f b w e)) (map_intro (edge_under L b) (c.edges_kept _ ((ren.edges _).1 (map_intro (edge_under L f) m))));
        declarations_kept = λ d m.
            Memᴰ.cast (sym (declaration_back g.scopes f b w d))
            (map_intro (declaration_under L b) (c.declarations_kept _ ((ren.declarations _).1 (map_intro (declaration_under L f) m))));
        new_edge = λ e m.
            let j = map_elim (edge_under L b) h.edges m in
            rw j.2 (⊎_elim (λ z. inl ((back_ren.edges _).1 (map_intro (edge_under L b) z)))
            (λ z. inr (⊎_elim (λ y. inl (w.old_above _ (rw ren.scopes at y))) (λ y. inr (old_pair _ _ y)) z)) (c.new_edge j.0 j.1));
        new_declaration = λ d m.
            let j = map_elim (declaration_under L b) h.declarations m in
            rw j.2 (⊎_elim (λ z. inl ((back_ren.declarations _).1 (map_intro (declaration_under L b) z)))
            (λ z. inr (⊎_elim (λ y. inl (w.old_above _ (rw ren.scopes at y))) (λ y. inr (old_pair _ _ y)) z)) (c.new_declaration j.0 j.1));
        in_range = range_under g.scopes b f (turned w) h (graph_under L b h) (omega (arith, c.scopes_kept, ren.scopes)) (old_graph h) c.in_range;
      }

      pub settled_under : (q : Query L) → Settled L g opens q → Settled L k pairs (query_under L f q)
      settled_under q s h c r = (
        λ e. subst (Entry L h (query_under L f q)) (row_back g.scopes b f (turned w) r)
            (entry_under g.scopes f b w (graph_under L b h) h le (renamed_back g.scopes b f (turned w) h (graph_under L b h) (old_graph h)) q (row_under L b r)
            ((s (graph_under L b h) (completion_under h c) (row_under L b r)).0 (old k g (omega (arith, ren.scopes)) back_ren e))),
        λ e. subst (Entry L k (query_under L f q)) (row_back g.scopes b f (turned w) r)
            (entry_under g.scopes f b w g k le_self ren q (row_under L b r)
            ((s (graph_under L b h) (completion_under h c) (row_under L b r)).1 (old h (graph_under L b h) le (old_graph h) e))),
      )
        where
          le : g.scopes ≤ h.scopes
          le = omega (arith, c.scopes_kept, ren.scopes)

          old : (x y : Graph L) → g.scopes ≤ x.scopes → Renamed L b x y → Entry L x (query_under L f q) r → Entry L y q (row_under L b r)
          old x y l z e =
              subst (λ (t : Query L). Entry L y t (row_under L b r)) (query_back g.scopes f b w q)
              (entry_under g.scopes b f (turned w) x y l z (query_under L f q) r e)

    -- `found` goes by the declarations of the entries, which are renumbered too
    module _ (n : ℕ) (f b : ℕ → ℕ) (w : Throughout n f b) (g k : Graph L) (le : n ≤ g.scopes) (ren : Renamed L f g k) (q : Query L) where
      pub old_entry : (r : PathRow L) → Entry L k (query_under L f q) r → Entry L g q (row_under L b r)
      old_entry r e =
          subst (λ (t : Query L). Entry L g t (row_under L b r)) (query_back n f b w q)
          (entry_under n b f (turned w) k g (omega (arith, ren.scopes)) (renamed_back n f b w g k ren) (query_under L f q) r e)

      -- a row's declaration is that of its old row, renumbered
      old_declaration : (r : PathRow L) → row_declaration L (query_under L f q) r ≡ declaration_under L f (row_declaration L q (row_under L b r))
      old_declaration r = ap (row_declaration L (query_under L f q)) (sym (row_back n b f (turned w) r)) ∙ declaration_under_lem f q (row_under L b r)

      pub found_under : (x : Found) → FoundIs L g q x → FoundIs L k (query_under L f q) x
      found_under found_none a = λ r e. a (row_under L b r) (old_entry r e)
      found_under found_one a = (
        row_under L f a.0,
        entry_under n f b w g k le ren q a.0 a.1,
        λ p e. old_declaration p ∙ ap (declaration_under L f) (a.2 (row_under L b p) (old_entry p e)) ∙ sym (declaration_under_lem f q a.0),
      )
      found_under found_several a = (
        row_under L f a.0,
        row_under L f a.1,
        entry_under n f b w g k le ren q a.0 a.2,
        entry_under n f b w g k le ren q a.1 a.3,
        λ e. a.4 (sym (declaration_back n f b w _)
            ∙ ap (declaration_under L b) (sym (declaration_under_lem f q a.0) ∙ e ∙ declaration_under_lem f q a.1) ∙ declaration_back n f b w _),
      )
