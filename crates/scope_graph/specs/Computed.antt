-- The rules, computed: all reached paths of a query along the edges, its entries, `found`, the
-- decisive pairs and `awaits`. Contracts cite these; Promises says that they are the rules. Plain
-- and slow. Assumes nothing: these are definitions.
use Rattle.std.specs.Prelude.{ℕ, zero, suc, Bool, true, false, not, ◌&&◌, ◌||◌, eqb}
use Rattle.std.proofs.Math.Option.{Option, some, none}
use mathlib.Core.List.{List, [], ◌∷◌, map, flat_map}
use Rattle.scope_graph.specs.Language.{End, stop, by, Language}
use Rattle.scope_graph.specs.Graph.{Edge, Declaration, Graph, Query, OpenPair}
use Rattle.scope_graph.specs.Path.{HopOf, Hop, Path, PathRow, last_from, row_declaration}
use Rattle.scope_graph.specs.Rows.{any_of}

-- the elements that meet the test, in their sequence; the first of them
unfoldable pub keep : {A : Type 0} → (A → Bool) → List A → List A
keep f [] = []
keep f (x ∷ xs) = elim (f x) [ true ↦ x ∷ keep f xs | false ↦ keep f xs ]

unfoldable pub first_of : {A : Type 0} → (A → Bool) → List A → Option A
first_of f [] = none
first_of f (x ∷ xs) = elim (f x) [ true ↦ some x | false ↦ first_of f xs ]

-- is the test met by a number below n?
unfoldable pub any_below : (ℕ → Bool) → ℕ → Bool
any_below f zero = false
any_below f (suc n) = elim (f n) [ true ↦ true | false ↦ any_below f n ]

-- `found`, of declarations as 02, K2 has it
pub data Found : Type 0 where
  found_none found_one found_several : Found

-- 01's three standings of a path
pub data Standing : Type 0 where
  is_visible is_shadowed is_unreached : Standing

-- a place of the search: the hops so far, the scope that they come to, and the state that they lead
-- to
pub record NodeOf (A : Type 0) : Type 0 where
  pub hops : List (HopOf A)
  pub at : ℕ
  pub state : ℕ

abbrev pub Node : Language → Type 0
Node L = NodeOf L.Step

-- Do two hops come to the same scope by the same step? `same` tells whether two steps are the same.
unfoldable pub same_hop : {A : Type 0} → (A → A → Bool) → HopOf A → HopOf A → Bool
same_hop same h k = same h.step k.step && eqb h.to k.to

module _ (L : Language) where
  -- the hops along the edges that leave a scope, in row sequence
  unfoldable pub hops_at : List (Edge L) → ℕ → List (Hop L)
  hops_at es s = map (λ e. record { step = e.step; to = e.to }) (keep (λ e. eqb e.from s) es)

  -- the marks of the declarations of a name at a scope, in row sequence
  unfoldable pub marks_at : List (Declaration L) → ℕ → L.Name → List ℕ
  marks_at ds s x = map (λ d. d.mark) (keep (λ d. eqb d.at s && L.same_name d.name x) ds)

  unfoldable pub declares_any : List (Declaration L) → ℕ → L.Name → Bool
  declares_any ds s x = any_of (λ d. eqb d.at s && L.same_name d.name x) ds

  unfoldable pub same_declaration : Declaration L → Declaration L → Bool
  same_declaration d e = eqb d.at e.at && (L.same_name d.name e.name && eqb d.mark e.mark)

  -- how many different declarations are listed (02, K2): each is held against the first
  unfoldable pub found_of : List (Declaration L) → Found
  found_of [] = found_none
  found_of (d ∷ ds) = elim (any_of (λ e. not (same_declaration d e)) ds) [ true ↦ found_several | false ↦ found_one ]

  unfoldable pub behind : Hop L → Node L → Node L
  behind h n = record { hops = h ∷ n.hops; at = n.at; state = n.state }

  -- what is found behind a hop, where `enter` says it of a scope and a state: nothing where the
  -- scope was met before or the automaton does not go on
  unfoldable pub hop_on : (ℕ → ℕ → List (Node L)) → List ℕ → ℕ → Hop L → List (Node L)
  hop_on enter seen q h =
      elim (any_of (eqb h.to) seen) [
        | true ↦ []
        | false ↦ elim (L.next q (L.label h.step)) [ none ↦ [] | some r ↦ map (behind h) (enter h.to r) ]
      ]

  -- all places from a scope and state on, with fewer than `fuel` hops and no scope that was met
  -- before: an ended path first, then edge by edge
  unfoldable pub nodes_from : ℕ → Graph L → List ℕ → ℕ → ℕ → List (Node L)
  nodes_from zero g seen s q = []
  nodes_from (suc fuel) g seen s q =
      record { hops = []; at = s; state = q }
      ∷ flat_map (hop_on (λ t r. nodes_from fuel g (t ∷ seen) t r) seen q) (hops_at g.edges s)

  -- transitions alone lead from the state to an accepting one, by at most `fuel` of them
  unfoldable pub leads_on : ℕ → ℕ → Bool
  leads_on zero q = L.accepts q
  leads_on (suc fuel) q =
      elim (L.accepts q) [
        | true ↦ true
        | false ↦ any_below (λ l. elim (L.next q l) [ none ↦ false | some r ↦ leads_on fuel r ]) L.labels
      ]

  unfoldable pub usable : ℕ → End L.Step → Bool
  usable q stop = L.accepts q
  usable q (by t) = elim (L.next q (L.label t)) [ none ↦ false | some r ↦ leads_on L.states r ]

  unfoldable pub same_hops : List (Hop L) → List (Hop L) → Bool
  same_hops [] [] = true
  same_hops [] (k ∷ p) = false
  same_hops (h ∷ r) [] = false
  same_hops (h ∷ r) (k ∷ p) = same_hop L.same_step h k && same_hops r p

  -- the hops r are preferred to whatever goes along p and then on by e
  unfoldable pub preferred_to : List (Hop L) → List (Hop L) → End L.Step → Bool
  preferred_to [] [] e = L.prefers stop e
  preferred_to (h ∷ r) [] e = L.prefers (by h.step) e
  preferred_to [] (k ∷ p) e = L.prefers stop (by k.step)
  preferred_to (h ∷ r) (k ∷ p) e = L.prefers (by h.step) (by k.step) || same_hop L.same_step h k && preferred_to r p e

  -- 01's *more specific*: the first path is, than the second
  unfoldable pub more_specific : Path L → Path L → Bool
  more_specific r p = eqb r.start p.start && preferred_to r.hops p.hops stop

  module _ (g : Graph L) (q : Query L) where
    -- the places that paths from the query's start come to
    unfoldable pub nodes : List (Node L)
    nodes = nodes_from g.scopes g (q.start ∷ []) q.start 0

    unfoldable pub reached_nodes : List (Node L)
    reached_nodes = keep (λ n. L.accepts n.state && declares_any g.declarations n.at q.name) nodes

    -- a reached path is preferred to whatever goes along p and then on by e
    unfoldable pub cut : List (Hop L) → End L.Step → Bool
    cut p e = any_of (λ n. preferred_to n.hops p e) reached_nodes

    unfoldable pub rows_at : Node L → List (PathRow L)
    rows_at n =
        map (λ m. record { mark = m; path = record { start = q.start; hops = n.hops } })
        (marks_at g.declarations n.at q.name)

    -- the entries, in the listing's order
    unfoldable pub entries : List (PathRow L)
    entries = flat_map rows_at (keep (λ n. not (cut n.hops stop)) reached_nodes)

    unfoldable pub found : Found
    found = found_of (map (row_declaration L q) entries)

    unfoldable pub is_reached : Path L → Bool
    is_reached p = eqb p.start q.start && any_of (λ n. same_hops n.hops p.hops) reached_nodes

    unfoldable pub standing : Path L → Standing
    standing p =
        elim (is_reached p) [ false ↦ is_unreached | true ↦ elim (cut p.hops stop) [ true ↦ is_shadowed | false ↦ is_visible ] ]

    -- a path row's standing: a mark that no matching declaration has is not reached (01, "Paths",
    -- its end)
    unfoldable pub judged : PathRow L → Standing
    judged r =
        elim (any_of (eqb r.mark) (marks_at g.declarations (last_from r.path.start r.path.hops) q.name))
        [ false ↦ is_unreached | true ↦ standing r.path ]

    -- the end that stands for all that may come at an open place
    unfoldable pub open_end : End ℕ → End L.Step
    open_end stop = stop
    open_end (by l) = by (L.strongest (map (λ e. e.step) g.edges) l)

    unfoldable pub followed_at : OpenPair L → Bool
    followed_at o =
        any_of (λ n. eqb n.at o.at && (usable n.state (open_end o.end) && not (cut n.hops (open_end o.end)))) nodes

    unfoldable pub awaits : List (OpenPair L) → Option (OpenPair L)
    awaits opens = first_of followed_at opens
