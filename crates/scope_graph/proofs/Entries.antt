-- The computed standing, entries and `found` are the rules': the fields of QueryPromises that do not speak of completions. Assumes nothing.
use Prim.Native.Nat.{ℕ, ◌<◌}
use mathlib.Core.Path.{◌≡◌, refl, sym, ap, subst}
use mathlib.Core.Bool.{Bool, true, false, not}
use lib.Dec.{eqb}
use mathlib.Core.Logic.{◌↔◌, ⊎_elim}
use Rattle.scope_graph.specs.Rows.{any_of}
use mathlib.Core.List.Memᴰ
use mathlib.Core.List.{List, [], ◌∷◌}
use Rattle.scope_graph.specs.Language.{◌∈◌, stop, Language, Laws}
use Rattle.scope_graph.specs.Graph.{Graph, InRange, Query}
use Rattle.scope_graph.specs.Path.{Path, PathRow, last_from, Declares, MoreSpecific, Reached, Visible, Shadowed, Unreached, MarkDeclared, Entry}
use Rattle.scope_graph.specs.Computed.{keep, Node, reached_nodes, cut, rows_at, entries, Standing, is_visible, is_shadowed, is_unreached, is_reached, standing, marks_at, judged}
use Rattle.scope_graph.specs.Listing.{Pairwise, EdgeBefore, MarkBefore, RowBefore}
use Rattle.scope_graph.proofs.Lists.{Two, not_true, true_false, not_is, is_not, keep_intro, keep_elim, flat_map_intro, flat_map_elim}
use Rattle.scope_graph.proofs.Nodes.{nodes_sound}
use Rattle.scope_graph.proofs.Reached.{path_eq, marks_elim, marks_intro, rows_elim, rows_intro, reached_node, reached_sound, reached_complete, is_reached_lem}
use Rattle.scope_graph.proofs.Order.{recursive}
use Rattle.scope_graph.proofs.Pigeon.{in_true, in_test}
use Rattle.scope_graph.proofs.Cut.{cut_elim, cut_intro}
use Rattle.scope_graph.proofs.Ascend.{rows_ascend}

module _ (L : Language) (laws : Laws L) (g : Graph L) (q : Query L) (range : InRange L g) (starts : q.start < g.scopes) where
  -- a path from the query's start is cut exactly if a reached path is more specific
  shadow_elim : (p : Path L) → p.start ≡ q.start → cut L g q p.hops stop ≡ true → (r : Path L) × Reached L g q r × MoreSpecific L r p
  shadow_elim p s t =
      let k = cut_elim L laws g q range starts p.hops stop t in
      (record { start = q.start; hops = k.0 }, k.1, (recursive L laws (record { start = q.start; hops = k.0 }) p (sym s)).0 k.2)

  shadow_intro : (p r : Path L) → Reached L g q r → MoreSpecific L r p → cut L g q p.hops stop ≡ true
  shadow_intro p r w m =
      cut_intro L laws g q range starts p.hops stop r.hops
      (subst (Reached L g q) (path_eq L w.from_start refl) w) ((recursive L laws r p m.same_start).1 m)

  reached_is : (p : Path L) → (is_reached L g q p ≡ true) ↔ Reached L g q p
  reached_is = is_reached_lem L laws g q range starts

  seen : (p : Path L) → Reached L g q p → cut L g q p.hops stop ≡ false → Visible L g q p
  seen p w f = record { reached = w; unshadowed = λ r v m. true_false (shadow_intro p r v m) f }

  uncut : (p : Path L) → Visible L g q p → cut L g q p.hops stop ≡ false
  uncut p v =
      not_true (cut L g q p.hops stop) (λ t. let k = shadow_elim p v.reached.from_start t in v.unshadowed k.0 k.1 k.2)

  hidden : (p : Path L) → Reached L g q p → cut L g q p.hops stop ≡ true → Shadowed L g q p
  hidden p w t =
      record { reached = w; shadowed = λ none. let k = shadow_elim p w.from_start t in none k.0 k.1 k.2 }

  -- a reached place is where its hops end
  comes : (n : Node L) → n ∈ reached_nodes L g q → last_from q.start n.hops ≡ n.at
  comes n k = (nodes_sound L g q starts (reached_node L laws g q k).0).comes

  -- what a standing says of a path
  abbrev Stands : Standing → Path L → Type 0
  Stands is_visible p = Visible L g q p
  Stands is_shadowed p = Shadowed L g q p
  Stands is_unreached p = Unreached L g q p

  -- the computed one holds, and no two do
  stands : (p : Path L) → Stands (standing L g q p) p
  unfolding standing
  stands p = reach (is_reached L g q p) refl (cut L g q p.hops stop) refl
    where
      reach : (b : Bool) → is_reached L g q p ≡ b → (c : Bool) → cut L g q p.hops stop ≡ c
          → Stands (elim b as (λ _. Standing) [
            | false ↦ is_unreached
            | true ↦ elim c as (λ _. Standing) [ true ↦ is_shadowed | false ↦ is_visible ]
          ]) p
      reach false e c f = λ w. true_false ((reached_is p).1 w) e
      reach true e true f = hidden p ((reached_is p).0 e) f
      reach true e false f = seen p ((reached_is p).0 e) f

  one_stands : (s t : Standing) (p : Path L) → Stands s p → Stands t p → s ≡ t
  one_stands is_visible is_visible p a b = refl
  one_stands is_visible is_shadowed p a b = absurd (b.shadowed a.unshadowed)
  one_stands is_visible is_unreached p a b = absurd (b a.reached)
  one_stands is_shadowed is_visible p a b = absurd (a.shadowed b.unshadowed)
  one_stands is_shadowed is_shadowed p a b = refl
  one_stands is_shadowed is_unreached p a b = absurd (b a.reached)
  one_stands is_unreached is_visible p a b = absurd (a b.reached)
  one_stands is_unreached is_shadowed p a b = absurd (a b.reached)
  one_stands is_unreached is_unreached p a b = refl

  standing_is : (s : Standing) (p : Path L) → (standing L g q p ≡ s) ↔ Stands s p
  standing_is s p = (λ e. subst (λ t. Stands t p) e (stands p), one_stands (standing L g q p) s p (stands p))

  pub visible : (p : Path L) → (standing L g q p ≡ is_visible) ↔ Visible L g q p
  visible = standing_is is_visible

  pub shadowed : (p : Path L) → (standing L g q p ≡ is_shadowed) ↔ Shadowed L g q p
  shadowed = standing_is is_shadowed

  pub unreached : (p : Path L) → (standing L g q p ≡ is_unreached) ↔ Unreached L g q p
  unreached = standing_is is_unreached

  pub shadowed_by : (p : Path L) → Shadowed L g q p → (r : Path L) × Reached L g q r × MoreSpecific L r p
  shadowed_by p s =
      ⊎_elim (shadow_elim p s.reached.from_start) (λ f. absurd (s.shadowed (seen p s.reached f).unshadowed))
      (Two (cut L g q p.hops stop))

  -- a place's row is an entry, and an entry is a row of its path's place
  row_entry : {m : ℕ} (n : Node L) → n ∈ reached_nodes L g q → cut L g q n.hops stop ≡ false → Declares L g n.at q.name m
      → Entry L g q (record { mark = m; path = record { start = q.start; hops = n.hops } })
  row_entry n k f d = record {
    visible = seen _ (reached_sound L laws g q range starts _ n refl k refl) f;
    declared = rw (comes n k) d;
  }

  entry_row : (r : PathRow L) (n : Node L) → r.path.start ≡ q.start → n ∈ reached_nodes L g q → n.hops ≡ r.path.hops → Entry L g q r
      → r ∈ rows_at L g q n
  entry_row r n s k h e =
      Memᴰ.cast (ap (λ p. record { mark = r.mark; path = p }) (path_eq L s (sym h)))
      (rows_intro L laws g q n (rw (s, ← h, comes n k) at e.declared))

  entry_sound : (r : PathRow L) → r ∈ entries L g q → Entry L g q r
  unfolding entries
  entry_sound r k =
      let a = flat_map_elim (rows_at L g q) (keep (λ n. not (cut L g q n.hops stop)) (reached_nodes L g q)) k in
      let b = keep_elim (λ n. not (cut L g q n.hops stop)) (reached_nodes L g q) a.1 in
      let c = rows_elim L laws g q a.0 a.2 in
      subst (Entry L g q) (sym c.2) (row_entry a.0 b.0 (not_is (cut L g q a.0.hops stop) b.1) c.1)

  entry_complete : (r : PathRow L) → Entry L g q r → r ∈ entries L g q
  unfolding entries
  entry_complete r e =
      let k = reached_complete L laws g q range starts r.path e.visible.reached in
      let f : cut L g q k.1.hops stop ≡ false = rw k.3 (uncut r.path e.visible) in
      flat_map_intro (rows_at L g q) (keep_intro (λ n. not (cut L g q n.hops stop)) k.2 (is_not _ f))
      (entry_row r k.1 k.0 k.2 k.3 e)

  pub entries_are : (r : PathRow L) → (r ∈ entries L g q) ↔ Entry L g q r
  entries_are r = (entry_sound r, entry_complete r)

  -- a path row's standing goes by its mark too
  abbrev Judged : Standing → PathRow L → Type 0
  Judged is_visible r = Entry L g q r
  Judged is_shadowed r = Shadowed L g q r.path × MarkDeclared L g q r
  Judged is_unreached r = ¬ (Reached L g q r.path × MarkDeclared L g q r)

  judged_holds : (r : PathRow L) → Judged (judged L g q r) r
  unfolding judged
  judged_holds r =
      by_mark (any_of (eqb r.mark) (marks_at L g.declarations (last_from r.path.start r.path.hops) q.name)) refl
      (standing L g q r.path) (stands r.path)
    where
      by_mark : (b : Bool) → any_of (eqb r.mark) (marks_at L g.declarations (last_from r.path.start r.path.hops) q.name) ≡ b
          → (s : Standing) → Stands s r.path → Judged (elim b as (λ _. Standing) [ false ↦ is_unreached | true ↦ s ]) r
      by_mark false e s w = λ k. true_false (in_test _ _ (marks_intro L laws g _ _ k.1)) e
      by_mark true e is_visible w = record { visible = w; declared = marks_elim L laws g _ _ (in_true _ _ e) }
      by_mark true e is_shadowed w = (w, marks_elim L laws g _ _ (in_true _ _ e))
      by_mark true e is_unreached w = λ k. w k.0

  one_judged : (s t : Standing) (r : PathRow L) → Judged s r → Judged t r → s ≡ t
  one_judged is_visible is_visible r a b = refl
  one_judged is_visible is_shadowed r a b = absurd (b.0.shadowed a.visible.unshadowed)
  one_judged is_visible is_unreached r a b = absurd (b (a.visible.reached, a.declared))
  one_judged is_shadowed is_visible r a b = absurd (a.0.shadowed b.visible.unshadowed)
  one_judged is_shadowed is_shadowed r a b = refl
  one_judged is_shadowed is_unreached r a b = absurd (b (a.0.reached, a.1))
  one_judged is_unreached is_visible r a b = absurd (a (b.visible.reached, b.declared))
  one_judged is_unreached is_shadowed r a b = absurd (a (b.0.reached, b.1))
  one_judged is_unreached is_unreached r a b = refl

  pub judged_is : (s : Standing) (r : PathRow L) → (judged L g q r ≡ s) ↔ Judged s r
  judged_is s r = (λ e. subst (λ t. Judged t r) e (judged_holds r), one_judged (judged L g q r) s r (judged_holds r))

  module _ (edges_ascend : Pairwise (EdgeBefore L) g.edges) (declarations_ascend : Pairwise (MarkBefore L) g.declarations) where
    pub entries_ascend : Pairwise (RowBefore L) (entries L g q)
    entries_ascend = rows_ascend L laws g q edges_ascend declarations_ascend
