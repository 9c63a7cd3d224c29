-- The reached paths are those of `reached_nodes`, and whether a path is reached is decided. Assumes nothing.
use Prim.Native.Nat.{ℕ, ◌<◌}
use mathlib.Core.Path.{◌≡◌, refl, sym, ◌∙◌, subst}
use mathlib.Core.Bool.{true, ◌&&◌, false≢true}
use mathlib.Core.Logic.{◌↔◌, ⊎_elim}
use mathlib.Core.List.{List, [], ◌∷◌}
use lib.Dec.{eqb}
use borrow.Author.Tests.{eqb-true, eq-eqb}
use Rattle.scope_graph.specs.Language.{◌∈◌, Language, Laws}
use Rattle.scope_graph.specs.Graph.{Declaration, Graph, InRange, Query}
use Rattle.scope_graph.specs.Path.{Hop, Path, PathRow, last_from, Leads, word, Declares, Reached}
use Rattle.scope_graph.specs.Computed.{keep, Node, marks_at, declares_any, same_hop, same_hops, nodes, reached_nodes, rows_at, is_reached}
use Rattle.scope_graph.proofs.Lists.{Two, true_false, and_left, and_right, and_both, any_of_intro, any_of_elim, keep_intro, keep_elim, map_intro, map_elim}
use Rattle.scope_graph.proofs.Nodes.{nodes_sound, nodes_complete}

module _ (L : Language) where
  -- a word leads to one state at the most
  pub leads_same : (q : ℕ) (w : List ℕ) {r t : ℕ} → Leads L q w r → Leads L q w t → r ≡ t
  leads_same q [] a b = sym a ∙ b
  leads_same q (l ∷ w) a b =
      let e : a.0 ≡ b.0 = cc (a.1, b.1) in
      leads_same a.0 w a.2 (rw (← e) at b.2)

  -- records with equal fields are equal
  hop_eq : {a b : L.Step} {s t : ℕ} → a ≡ b → s ≡ t → ◌≡◌ {A = Hop L} (record { step = a; to = s }) (record { step = b; to = t })
  hop_eq e f = rw (e, f)

  pub path_eq : {s t : ℕ} {r p : List (Hop L)} → s ≡ t → r ≡ p
      → ◌≡◌ {A = Path L} (record { start = s; hops = r }) (record { start = t; hops = p })
  path_eq e f = rw (e, f)

module _ (L : Language) (laws : Laws L) where
  -- the tests on hops are their equality
  pub same_hop_lem : (h k : Hop L) → (same_hop L.same_step h k ≡ true) ↔ (h ≡ k)
  unfolding same_hop
  same_hop_lem h k = (
    λ t.
        hop_eq L (laws.step_same h.step k.step (and_left _ _ t))
        (eqb-true h.to k.to (and_right (L.same_step h.step k.step) _ t)),
    λ e. rw e (and_both _ _ (laws.step_self k.step) (eq-eqb k.to k.to refl)),
  )

  pub same_hops_lem : (r p : List (Hop L)) → (same_hops L r p ≡ true) ↔ (r ≡ p)
  unfolding same_hops
  same_hops_lem [] [] = (λ t. refl, λ e. refl)
  same_hops_lem [] (k ∷ p) = (λ t. absurd (false≢true t), λ e. cc)
  same_hops_lem (h ∷ r) [] = (λ t. absurd (false≢true t), λ e. cc)
  same_hops_lem (h ∷ r) (k ∷ p) = (
    λ t. cc ((same_hop_lem h k).0 (and_left _ _ t), (same_hops_lem r p).0 (and_right (same_hop L.same_step h k) _ t)),
    λ e. and_both _ _ ((same_hop_lem h k).1 (cc)) ((same_hops_lem r p).1 (cc)),
  )

  -- a declaration meets the test exactly if it is one of the name at the scope
  is_matching : (s : ℕ) (x : L.Name) → (eqb s s && L.same_name x x) ≡ true
  is_matching s x = and_both _ _ (eq-eqb s s refl) (laws.name_self x)

  matching : (g : Graph L) {s : ℕ} {x : L.Name} (d : Declaration L) → d ∈ g.declarations
      → (eqb d.at s && L.same_name d.name x) ≡ true → Declares L g s x d.mark
  matching g {s} {x} d m t =
      let e : d.at ≡ s = eqb-true d.at s (and_left _ _ t) in
      let f : d.name ≡ x = laws.name_same d.name x (and_right (eqb d.at s) _ t) in
      rw (← e, ← f) m

  -- the marks at a scope are its declarations of the name
  pub marks_elim : (g : Graph L) (s : ℕ) (x : L.Name) {m : ℕ} → m ∈ marks_at L g.declarations s x → Declares L g s x m
  unfolding marks_at
  marks_elim g s x {m} k =
      let r = map_elim (λ d. d.mark) (keep (λ d. eqb d.at s && L.same_name d.name x) g.declarations) k in
      let b = keep_elim (λ (d : Declaration L). eqb d.at s && L.same_name d.name x) g.declarations r.1 in
      subst (Declares L g s x) (sym r.2) (matching g r.0 b.0 b.1)

  pub marks_intro : (g : Graph L) (s : ℕ) (x : L.Name) {m : ℕ} → Declares L g s x m → m ∈ marks_at L g.declarations s x
  unfolding marks_at
  marks_intro g s x k =
      map_intro (λ (d : Declaration L). d.mark) (keep_intro (λ d. eqb d.at s && L.same_name d.name x) k (is_matching s x))

  -- some declaration of the name stands there
  pub declares_elim : (g : Graph L) (s : ℕ) (x : L.Name) → declares_any L g.declarations s x ≡ true → (m : ℕ) × Declares L g s x m
  unfolding declares_any
  declares_elim g s x t =
      let r = any_of_elim (λ d. eqb d.at s && L.same_name d.name x) g.declarations t in
      (r.0.mark, matching g r.0 r.1 r.2)

  pub declares_intro : (g : Graph L) (s : ℕ) (x : L.Name) {m : ℕ} → Declares L g s x m → declares_any L g.declarations s x ≡ true
  unfolding declares_any
  declares_intro g s x k = any_of_intro (λ (d : Declaration L). eqb d.at s && L.same_name d.name x) k (is_matching s x)

  module _ (g : Graph L) (q : Query L) where
    -- a place's rows are its path with the marks there
    pub rows_elim : {r : PathRow L} (n : Node L) → r ∈ rows_at L g q n
        → (m : ℕ) × Declares L g n.at q.name m × (r ≡ record { mark = m; path = record { start = q.start; hops = n.hops } })
    unfolding rows_at
    rows_elim n k =
        let r = map_elim _ (marks_at L g.declarations n.at q.name) k in
        (r.0, marks_elim g n.at q.name r.1, r.2)

    pub rows_intro : {m : ℕ} (n : Node L) → Declares L g n.at q.name m
        → record { mark = m; path = record { start = q.start; hops = n.hops } } ∈ rows_at L g q n
    unfolding rows_at
    rows_intro n d =
        map_intro (λ m. record { mark = m; path = record { start = q.start; hops = n.hops } }) (marks_intro g n.at q.name d)

    -- a place counts as reached exactly if its state accepts and its scope declares the name
    pub reached_node : {n : Node L} → n ∈ reached_nodes L g q
        → (n ∈ nodes L g q) × (L.accepts n.state ≡ true) × (m : ℕ) × Declares L g n.at q.name m
    unfolding reached_nodes
    reached_node {n} k =
        let r = keep_elim (λ n. L.accepts n.state && declares_any L g.declarations n.at q.name) (nodes L g q) k in
        let d = declares_elim g n.at q.name (and_right (L.accepts n.state) _ r.1) in
        (r.0, and_left _ _ r.1, d.0, d.1)

    pub node_reached : {n : Node L} {m : ℕ} → n ∈ nodes L g q → L.accepts n.state ≡ true → Declares L g n.at q.name m
        → n ∈ reached_nodes L g q
    unfolding reached_nodes
    node_reached {n} k a d =
        keep_intro (λ n. L.accepts n.state && declares_any L g.declarations n.at q.name) k
        (and_both _ _ a (declares_intro g n.at q.name d))

    module _ (range : InRange L g) (starts : q.start < g.scopes) where
      node_path : {n : Node L} → n ∈ reached_nodes L g q → Reached L g q (record { start = q.start; hops = n.hops })
      node_path {n} k =
          let r = reached_node k in
          let i = nodes_sound L g q starts r.0 in
          record {
            from_start = refl;
            path = i.path;
            lawful = record { final = n.state; leads = i.leads; accepted = r.1 };
            mark = r.2;
            declared = rw i.comes r.3;
          }

      path_node : (hops : List (Hop L)) → Reached L g q (record { start = q.start; hops = hops })
          → (n : Node L) × (n ∈ reached_nodes L g q) × (n.hops ≡ hops)
      path_node hops r = (
        record { hops = hops; at = last_from q.start hops; state = r.lawful.final },
        node_reached (nodes_complete L g q starts range _ (record { path = r.path; comes = refl; leads = r.lawful.leads }))
            r.lawful.accepted r.declared,
        refl,
      )

      -- a path is reached exactly if it starts at the query's start and its hops are a reached place's
      pub reached_sound : (p : Path L) (n : Node L) → p.start ≡ q.start → n ∈ reached_nodes L g q → n.hops ≡ p.hops → Reached L g q p
      reached_sound p n s k h = subst (Reached L g q) (path_eq L (sym s) h) (node_path k)

      pub reached_complete : (p : Path L) → Reached L g q p
          → (p.start ≡ q.start) × (n : Node L) × (n ∈ reached_nodes L g q) × (n.hops ≡ p.hops)
      reached_complete p r =
          let k = path_node p.hops (subst (Reached L g q) (path_eq L r.from_start refl) r) in
          (r.from_start, k.0, k.1, k.2)

      -- so whether its path is reached depends on the place alone
      pub reached_at : (n : Node L) → n ∈ nodes L g q → Reached L g q (record { start = q.start; hops = n.hops })
          → n ∈ reached_nodes L g q
      reached_at n k r =
          let i = nodes_sound L g q starts k in
          let e : r.lawful.final ≡ n.state = leads_same L 0 (word L n.hops) r.lawful.leads i.leads in
          node_reached k (rw e at r.lawful.accepted) (rw i.comes at r.declared)

      -- and it is decided
      pub is_reached_lem : (p : Path L) → (is_reached L g q p ≡ true) ↔ Reached L g q p
      unfolding is_reached
      is_reached_lem p = (sound, complete)
        where
          sound : is_reached L g q p ≡ true → Reached L g q p
          sound t =
              let k = any_of_elim (λ n. same_hops L n.hops p.hops) (reached_nodes L g q) (and_right (eqb p.start q.start) _ t) in
              reached_sound p k.0 (eqb-true p.start q.start (and_left _ _ t)) k.1 ((same_hops_lem k.0.hops p.hops).0 k.2)

          complete : Reached L g q p → is_reached L g q p ≡ true
          complete r =
              let k = reached_complete p r in
              and_both _ _ (eq-eqb p.start q.start k.0)
              (any_of_intro (λ n. same_hops L n.hops p.hops) k.2 ((same_hops_lem k.1.hops p.hops).1 k.3))

      pub reached_decided : (p : Path L) → Dec (Reached L g q p)
      reached_decided p =
          ⊎_elim (λ t. yes ((is_reached_lem p).0 t)) (λ f. no (λ r. true_false ((is_reached_lem p).1 r) f)) (Two (is_reached L g q p))
