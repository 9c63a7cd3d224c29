-- The value of specs/Promises: all that is promised of the rules holds. Assumes nothing.
use Prim.Native.Nat.{◌<◌}
use mathlib.Core.Path.{◌≡◌, refl, sym}
use mathlib.Core.Bool.{true}
use mathlib.Core.Logic.{◌↔◌, ⊎_elim}
use mathlib.Core.List.{List, map}
use lib.Dec.{eqb}
use borrow.Author.Tests.{eqb-true, eq-eqb}
use Rattle.scope_graph.specs.Language.{◌∈◌, stop, Language, Laws}
use Rattle.scope_graph.specs.Graph.{Graph, InRange, Query, OpenPair}
use Rattle.scope_graph.specs.Path.{Hop, Path, PathRow, MoreSpecific, Reached, Entry}
use Rattle.scope_graph.specs.Computed.{Node, is_visible, is_shadowed, is_unreached, reached_nodes, preferred_to, more_specific, entries}
use Rattle.scope_graph.specs.Followed.{Preferred}
use Rattle.scope_graph.specs.Listing.{Accepted}
use Rattle.scope_graph.specs.Promises.{OrderPromises, QueryPromises, Promises}
use Rattle.scope_graph.proofs.Lists.{Two, true_false, and_left, and_right, and_both, map_intro, map_elim}
use Rattle.scope_graph.proofs.Order.{recursive, irreflexive, transitive}
use Rattle.scope_graph.proofs.Reached.{reached_sound, reached_complete}
use Rattle.scope_graph.proofs.Cut.{preferred_to_lem}
use Rattle.scope_graph.proofs.Entries.{visible, shadowed, unreached, shadowed_by, judged_is, entries_are, entries_ascend}
use Rattle.scope_graph.proofs.Found.{found_is}
use Rattle.scope_graph.proofs.Ends.{ends_are, found_told}
use Rattle.scope_graph.proofs.Ascend.{row_irreflexive}
use Rattle.scope_graph.proofs.Settled.{decisive, settled, awaits_is, awaits_none}
use Rattle.scope_graph.proofs.FollowedAt.{followed_is}
use Rattle.scope_graph.proofs.Rows.{language_laws}

module _ (L : Language) (laws : Laws L) where
  computed : (r p : Path L) → (more_specific L r p ≡ true) ↔ MoreSpecific L r p
  unfolding more_specific
  computed r p = (
    λ h.
        let e = eqb-true r.start p.start (and_left _ _ h) in
        (recursive L laws r p e).0 ((preferred_to_lem L laws r.hops p.hops stop).0 (and_right (eqb r.start p.start) _ h)),
    λ m.
        and_both _ _ (eq-eqb r.start p.start m.same_start)
        ((preferred_to_lem L laws r.hops p.hops stop).1 ((recursive L laws r p m.same_start).1 m)),
  )

  pub order : OrderPromises L
  order = record { irreflexive = irreflexive L laws; transitive = transitive L laws; recursive = recursive L laws; computed = computed }

  pub decided : (r p : List (Hop L)) → Dec (Preferred L r p stop)
  decided r p =
      ⊎_elim (λ h. yes ((preferred_to_lem L laws r p stop).0 h)) (λ h. no (λ k. true_false ((preferred_to_lem L laws r p stop).1 k) h))
      (Two (preferred_to L r p stop))

  module _ (q : Query L) where
    -- finitely many paths are reached, and finitely many rows seen
    pub reached_list : (g : Graph L) → InRange L g → q.start < g.scopes
        → (rs : List (List (Hop L))) × ((r : List (Hop L)) → (r ∈ rs) ↔ Reached L g q (record { start = q.start; hops = r }))
    reached_list g range starts = (
      map (λ n. n.hops) (reached_nodes L g q),
      λ r. (
        λ m. let k = map_elim (λ n. n.hops) (reached_nodes L g q) m in
            reached_sound L laws g q range starts _ k.0 refl k.1 (sym k.2),
        λ w. let k = reached_complete L laws g q range starts _ w in named k.1 k.2 r k.3,
      ),
    )
      where
        named : (n : Node L) → n ∈ reached_nodes L g q → (r : List (Hop L)) → n.hops ≡ r → r ∈ map (λ n. n.hops) (reached_nodes L g q)
        named n m r e = rw e at (map_intro (λ n. n.hops) m)

    pub entry_list : (g : Graph L) → InRange L g → q.start < g.scopes → (rs : List (PathRow L)) × ((r : PathRow L) → (r ∈ rs) ↔ Entry L g q r)
    entry_list g range starts = (entries L g q, entries_are L laws g q range starts)

pub query : (L : Language) (g : Graph L) (opens : List (OpenPair L)) (q : Query L) → Accepted L g opens q → QueryPromises L g opens q
query L g opens q ok =
    let laws = ok.laws in
    let range = ok.in_range in
    let starts = ok.starts in
    let dec = decided L laws in
    let reached = reached_list L laws q in
    let seen = entry_list L laws q in
    let followed = followed_is L laws g q range starts in
    record {
      visible = visible L laws g q range starts;
      shadowed = shadowed L laws g q range starts;
      unreached = unreached L laws g q range starts;
      judged_visible = judged_is L laws g q range starts is_visible;
      judged_shadowed = judged_is L laws g q range starts is_shadowed;
      judged_unreached = judged_is L laws g q range starts is_unreached;
      shadowed_by = shadowed_by L laws g q range starts;
      entries_are = entries_are L laws g q range starts;
      entries_ascend = entries_ascend L laws g q range starts ok.edges_ascend ok.declarations_ascend;
      once = row_irreflexive L;
      found_is = found_is L laws g q range starts;
      ends_are = ends_are L laws g q range starts;
      found_told = found_told L laws g q range starts ok.declarations_ascend;
      decisive = decisive L laws g opens q dec reached seen range starts;
      followed = followed;
      settled = settled L laws g opens q dec reached seen range starts;
      awaits_is = awaits_is L laws g opens q dec reached seen range starts followed ok.opens_ascend;
      awaits_none = awaits_none L laws g opens q dec reached seen range starts followed ok.opens_ascend;
    }

pub promises : Promises
promises = record { language = language_laws; order = order; query = query }
