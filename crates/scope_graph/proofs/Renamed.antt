-- Proves specs/Renamed (02, K13): the promises for a renumbering of a graph's own scopes, by the
-- form for all numbers in Throughout. Assumes nothing.
use Prim.Native.Nat.{ℕ, ◌<◌, ◌≤◌}
use native.Mathlib.Omega.{arith}
use mathlib.Core.Path.{◌≡◌, refl, sym, ap, ◌∙◌, subst}
use mathlib.Core.Logic.{◌↔◌}
use mathlib.Core.List.{List, [], ◌∷◌, map}
use Rattle.scope_graph.specs.Language.{◌∈◌, Language, Laws}
use Rattle.scope_graph.specs.Graph.{Graph, InRange, Query, OpenPair}
use Rattle.scope_graph.specs.Path.{Hop, PathRow, tos, Entry}
use Rattle.scope_graph.specs.Completion.{Settled}
use Rattle.scope_graph.specs.Computed.{found}
use Rattle.scope_graph.specs.Listing.{FoundIs}
use Rattle.scope_graph.specs.Renamed.{Renumbers, SameElements, edge_under, declaration_under, open_under, query_under, graph_under, hop_under, row_under, Renamed, RowBelow, RenamedPromises, RenamedRight}
use Rattle.scope_graph.proofs.Lists.{here, there, map_elim}
use Rattle.scope_graph.proofs.Extension.{tos_in}
use Rattle.scope_graph.proofs.Found.{one_found, found_is}
use Rattle.scope_graph.proofs.Promises.{query}
use Rattle.scope_graph.proofs.Throughout.{Throughout, turned, tos_under, elements_back, renamed_back, open_back, query_back, row_back, range_under, entry_under, settled_under, old_entry, found_under}
use Rattle.scope_graph.proofs.Numbering.{over, over_below, over_stays, other_way, throughout, by_list}

module _ {A : Type 0} where
  map_alike : (u v : A → A) (xs : List A) → ((a : A) → a ∈ xs → u a ≡ v a) → map u xs ≡ map v xs
  map_alike u v [] h = refl
  map_alike u v (x ∷ xs) h = λ i. h x here i ∷ map_alike u v xs (λ a m. h a (there m)) i

  map_back : (u v : A → A) (xs : List A) → ((a : A) → a ∈ xs → v (u a) ≡ a) → map v (map u xs) ≡ xs
  map_back u v [] h = refl
  map_back u v (x ∷ xs) h = λ i. h x here i ∷ map_back u v xs (λ a m. h a (there m)) i

module _ (L : Language) where
  -- two renumberings that agree below n do the same to whatever has only numbers below n
  module _ (u v : ℕ → ℕ) (n : ℕ) (alike : (x : ℕ) → x < n → u x ≡ v x) where
    hops_alike : (hs : List (Hop L)) → ((t : ℕ) → t ∈ tos L hs → t < n) → map (hop_under L u) hs ≡ map (hop_under L v) hs
    hops_alike [] h = refl
    hops_alike (x ∷ hs) h =
        λ i. record { step = x.step; to = alike x.to (h x.to here) i } ∷ hops_alike hs (λ t m. h t (there m)) i

    row_alike : (r : PathRow L) → RowBelow L n r → row_under L u r ≡ row_under L v r
    row_alike r h = λ i. record {
      mark = r.mark;
      path = record { start = alike r.path.start h.0 i; hops = hops_alike r.path.hops h.1 i };
    }

    query_alike : (q : Query L) → q.start < n → query_under L u q ≡ query_under L v q
    query_alike q h = λ i. record { start = alike q.start h i; name = q.name }

    opens_alike : (opens : List (OpenPair L)) → ((o : OpenPair L) → o ∈ opens → o.at < n) → map (open_under L u) opens ≡ map (open_under L v) opens
    opens_alike opens h = map_alike _ _ opens (λ o m. λ i. record { at = alike o.at (h o m) i; end = o.end })

    graph_alike : (g : Graph L) → g.scopes ≡ n → InRange L g → graph_under L u g ≡ graph_under L v g
    graph_alike g e range = λ i. record {
      scopes = g.scopes;
      edges = map_alike (edge_under L u) (edge_under L v) g.edges (λ d m. λ j. record {
        from = alike d.from (rw e at (range.from_scope d m)) j;
        step = d.step;
        to = alike d.to (rw e at (range.to_scope d m)) j;
      }) i;
      declarations = map_alike (declaration_under L u) (declaration_under L v) g.declarations (λ d m. λ j. record {
        at = alike d.at (rw e at (range.at_scope d m)) j;
        name = d.name;
        mark = d.mark;
      }) i;
    }

    renamed_alike : (g k : Graph L) → g.scopes ≡ n → InRange L g → Renamed L u g k → Renamed L v g k
    renamed_alike g k e range ren = record {
      scopes = ren.scopes;
      edges = subst (λ (z : Graph L). SameElements k.edges z.edges) (graph_alike g e range) ren.edges;
      declarations = subst (λ (z : Graph L). SameElements k.declarations z.declarations) (graph_alike g e range) ren.declarations;
    }

  -- an entry's path has only scopes of its graph
  below_scopes : (g : Graph L) → InRange L g → (q : Query L) (r : PathRow L) → Entry L g q r → RowBelow L g.scopes r
  below_scopes g range q r e =
      let p = e.visible.reached.path in (p.starts, tos_in L g range r.path.start r.path.hops p.along)

  row_below : (n : ℕ) (f : ℕ → ℕ) → ((x : ℕ) → x < n → f x < n) → (r : PathRow L) → RowBelow L n r → RowBelow L n (row_under L f r)
  row_below n f h r k = (
    h r.path.start k.0,
    λ t m. let j = map_elim f (tos L r.path.hops) (rw (tos_under L f r.path.hops) at m) in rw j.2 (h j.0 (k.1 j.0 j.1)),
  )

  row_home : (n : ℕ) (f b : ℕ → ℕ) → Renumbers n f b → (r : PathRow L) → RowBelow L n r → row_under L b (row_under L f r) ≡ r
  row_home n f b num r h =
      ap (row_under L b) (sym (row_alike (over n f) f n (over_below n f) r h))
      ∙ sym (row_alike (over n b) b n (over_below n b) (row_under L (over n f) r) (row_below n (over n f) (λ x. over_stays n f num.new_below n x (omega arith)) r h))
      ∙ row_back L n (over n f) (over n b) (throughout n f b num) r

  module _ (f b : ℕ → ℕ) (g k : Graph L) (opens pairs : List (OpenPair L)) (q : Query L) (laws : Laws L) (range : InRange L g)
      (starts : q.start < g.scopes) (opens_in : (o : OpenPair L) → o ∈ opens → o.at < g.scopes)
      (num : Renumbers g.scopes f b) (ren : Renamed L f g k) (open-ren : SameElements pairs (map (open_under L f) opens)) where
    f_all : ℕ → ℕ
    f_all = over g.scopes f

    b_all : ℕ → ℕ
    b_all = over g.scopes b

    w : Throughout g.scopes f_all b_all
    unfolding f_all b_all
    w = throughout g.scopes f b num

    f_alike : (x : ℕ) → x < g.scopes → f_all x ≡ f x
    unfolding f_all
    f_alike = over_below g.scopes f

    b_alike : (x : ℕ) → x < g.scopes → b_all x ≡ b x
    unfolding b_all
    b_alike = over_below g.scopes b

    le : g.scopes ≤ g.scopes
    le = omega arith

    all_ren : Renamed L f_all g k
    all_ren = renamed_alike f f_all g.scopes (λ x h. sym (f_alike x h)) g k refl range ren

    all_opens : SameElements pairs (map (open_under L f_all) opens)
    all_opens = subst (SameElements pairs) (opens_alike f f_all g.scopes (λ x h. sym (f_alike x h)) opens opens_in) open-ren

    new_range : InRange L k
    new_range = range_under L g.scopes f_all b_all w g k le all_ren range

    back_ren : Renamed L b_all k g
    back_ren = renamed_back L g.scopes f_all b_all w g k all_ren

    back_opens : SameElements opens (map (open_under L b_all) pairs)
    back_opens = elements_back L g.scopes f_all b_all w (open_under L f_all) (open_under L b_all) (open_back L g.scopes f_all b_all w) opens pairs all_opens

    pairs_in : (o : OpenPair L) → o ∈ pairs → o.at < g.scopes
    pairs_in o m = let j = map_elim (open_under L f) opens ((open-ren o).0 m) in rw j.2 (num.new_below j.0.at (opens_in j.0 j.1))

    same_query : query_under L f_all q ≡ query_under L f q
    same_query = query_alike f_all f g.scopes f_alike q starts

    entry_forth : (r : PathRow L) → Entry L g q r → Entry L k (query_under L f q) (row_under L f r)
    entry_forth r e =
        subst (λ (z : Query L). Entry L k z (row_under L f r)) same_query
        (subst (Entry L k (query_under L f_all q)) (row_alike f_all f g.scopes f_alike r (below_scopes g range q r e))
        (entry_under L laws g.scopes f_all b_all w g k le all_ren q r e))

    entry_back : (r : PathRow L) → Entry L k (query_under L f q) r → Entry L g q (row_under L b r)
    entry_back r e =
        subst (Entry L g q) (row_alike b_all b g.scopes b_alike r (rw ren.scopes at (below_scopes k new_range (query_under L f q) r e)))
        (old_entry L laws g.scopes f_all b_all w g k le all_ren q r (subst (λ (z : Query L). Entry L k z r) (sym same_query) e))

    same_settled : Settled L g opens q ↔ Settled L k pairs (query_under L f q)
    same_settled = (
      λ s. subst (Settled L k pairs) same_query (settled_under L laws f_all b_all g k w range all_ren opens pairs all_opens q s),
      λ s. subst (Settled L g opens) (query_back L g.scopes f_all b_all w q)
          (settled_under L laws b_all f_all k g (subst (λ x. Throughout x b_all f_all) (sym ren.scopes) (turned w)) new_range back_ren pairs opens back_opens (query_under L f_all q)
          (subst (Settled L k pairs) (sym same_query) s)),
    )

    new_starts : (query_under L f q).start < k.scopes
    new_starts = rw ren.scopes (num.new_below q.start starts)

    pub renamed_promises : RenamedPromises L f b g k opens pairs q
    renamed_promises = record {
      entry_forth = entry_forth;
      entry_back = entry_back;
      entry = λ r h. (entry_forth r, λ e. subst (Entry L g q) (row_home g.scopes f b num r h) (entry_back (row_under L f r) e));
      entry_below = below_scopes g range q;
      row_back = row_home g.scopes f b num;
      row_forth = row_home g.scopes b f (other_way num);
      same_found =
          one_found L laws k (query_under L f q) (found L k (query_under L f q)) (found L g q)
          (found_is L laws k (query_under L f q) new_range new_starts)
          (subst (λ (z : Query L). FoundIs L k z (found L g q)) same_query
          (found_under L laws g.scopes f_all b_all w g k le all_ren q (found L g q) (found_is L laws g q range starts)));
      same_settled = same_settled;
      same_awaits = λ a c. (
        λ e. (query L k pairs (query_under L f q) c).awaits_none.1 (same_settled.0 ((query L g opens q a).awaits_none.0 e)),
        λ e. (query L g opens q a).awaits_none.1 (same_settled.1 ((query L k pairs (query_under L f q) c).awaits_none.0 e)),
      );
      in_range = new_range;
      starts = new_starts;
      accepted = λ e d o. record {
        laws = laws;
        in_range = new_range;
        edges_ascend = e;
        declarations_ascend = d;
        opens_ascend = o;
        starts = new_starts;
      };
      graph_back = renamed_alike b_all b g.scopes b_alike k g ren.scopes new_range back_ren;
      opens_back = subst (SameElements opens) (opens_alike b_all b g.scopes b_alike pairs pairs_in) back_opens;
      query_back = λ i. record { start = num.back q.start starts i; name = q.name };
      rows_back = λ i. record {
        scopes = g.scopes;
        edges = map_back (edge_under L f) (edge_under L b) g.edges (λ e m. λ j. record {
          from = num.back e.from (range.from_scope e m) j;
          step = e.step;
          to = num.back e.to (range.to_scope e m) j;
        }) i;
        declarations = map_back (declaration_under L f) (declaration_under L b) g.declarations (λ d m. λ j. record {
          at = num.back d.at (range.at_scope d m) j;
          name = d.name;
          mark = d.mark;
        }) i;
      };
    }

pub renamed_right : RenamedRight
renamed_right = record { renamed = renamed_promises; by_list = by_list }
