-- Worked examples, computed by the checker: document 01's trials M1 to M10, then small graphs for
-- what a search gets wrong easily. Assumes nothing.
use Prim.Native.Nat.{ℕ}
use mathlib.Core.Path.{◌≡◌, refl}
use mathlib.Core.Bool.{Bool, true, false}
use mathlib.Core.Option.{Option, some, none}
use mathlib.Core.List.{List, [], ◌∷◌, map, flat_map}
use Rattle.scope_graph.specs.Language.{End, stop, by}
use Rattle.scope_graph.specs.Graph.{Graph, Query, OpenPair}
use Rattle.scope_graph.specs.Path.{Hop, PathRow}
use Rattle.scope_graph.specs.Turns.{same_turn, same_turned, later, later_step, above_one, above}
use Rattle.scope_graph.specs.Rows.{OrderPair, Transition, PackedName, Rules, same_end, same_name, any_of, preferred_by, next_by, language}
use Rattle.scope_graph.specs.Computed.{keep, first_of, any_below, Found, found_none, found_one, found_several, same_declaration, found_of, Standing, is_visible, is_shadowed, is_unreached, hops_at, marks_at, declares_any, behind, hop_on, nodes_from, leads_on, usable, same_hop, same_hops, preferred_to, more_specific, nodes, reached_nodes, cut, rows_at, entries, found, is_reached, standing, judged, open_end, followed_at, awaits}
use Rattle.scope_graph.specs.Ends.{ends_at}
use Rattle.scope_graph.specs.Own.{all_of, is_one, is_none, meet, has_own, keeps_own}

-- what an example computes with: each names this alone on its `unfolding` line
computed : Unit {0}
unfolding flat_map same_turn same_turned later later_step above_one above same_end same_name any_of preferred_by next_by keep first_of any_below same_declaration found_of hops_at marks_at declares_any behind hop_on nodes_from leads_on usable same_hop same_hops preferred_to nodes reached_nodes cut rows_at entries found is_reached standing judged open_end followed_at awaits
computed = tt

-- Rows as a file has them. Labels, scopes, states and marks by number.
abbrev pair : End ℕ → End ℕ → OrderPair
pair a b = record { less = a; more = b }

abbrev move : ℕ → ℕ → ℕ → Transition
move q l r = record { state = q; label = l; next = r }

-- names of the kind `v`, which is every kind of a file without kinds (02, K8), and one of the kind
-- `c`
abbrev hours : PackedName
hours = record { kind = 118; high = 1; low = 0 }

abbrev service : PackedName
service = record { kind = 118; high = 2; low = 0 }

abbrev c_hours : PackedName
c_hours = record { kind = 99; high = 1; low = 0 }

-- A file's rows are written as tuples, and a path row as its mark, its start and its hops. Edges
-- and hops without a turn have turn 0 (02, K12).
module _ (r : Rules) where
  abbrev turned_hops : List (ℕ × ℕ × ℕ) → List (Hop (language r))
  turned_hops hs = map (λ h. record { step = record { label = h.0; turn = some h.1 }; to = h.2 }) hs

  abbrev hops : List (ℕ × ℕ) → List (Hop (language r))
  hops hs = turned_hops (map (λ h. (h.0, 0, h.1)) hs)

  abbrev turned_row : ℕ × ℕ × List (ℕ × ℕ × ℕ) → PathRow (language r)
  turned_row (m, s, hs) = record { mark = m; path = record { start = s; hops = turned_hops hs } }

  abbrev path_row_lem : ℕ × ℕ × List (ℕ × ℕ) → PathRow (language r)
  path_row_lem (m, s, hs) = record { mark = m; path = record { start = s; hops = hops hs } }

  abbrev open_pair_lem : ℕ × End ℕ → OpenPair (language r)
  open_pair_lem (s, e) = record { at = s; end = e }

  abbrev query : ℕ × PackedName → Query (language r)
  query (s, x) = record { start = s; name = x }

  abbrev turned_graph : ℕ → List (ℕ × ℕ × ℕ × ℕ) → List (ℕ × PackedName × ℕ) → Graph (language r)
  turned_graph n es ds = record {
    scopes = n;
    edges = map (λ e. record { from = e.0; step = record { label = e.1; turn = some e.2 }; to = e.3 }) es;
    declarations = map (λ d. record { at = d.0; name = d.1; mark = d.2 }) ds;
  }

  abbrev graph : ℕ → List (ℕ × ℕ × ℕ) → List (ℕ × PackedName × ℕ) → Graph (language r)
  graph n es ds = turned_graph n (map (λ e. (e.0, e.1, 0, e.2)) es) ds

  abbrev awaited : Option (ℕ × End ℕ) → Option (OpenPair (language r))
  awaited none = none
  awaited (some o) = some (open_pair_lem o)

  module _ (g : Graph (language r)) where
    -- the query's listing, with these open pairs: its entries, `found` and `awaits`
    abbrev ShowsRows : List (ℕ × End ℕ) → ℕ × PackedName → List (PathRow (language r)) → Found → Option (ℕ × End ℕ) → Type 0
    ShowsRows opens q rows f o =
        (entries (language r) g (query q) ≡ rows)
        × (found (language r) g (query q) ≡ f)
        × (awaits (language r) g (query q) (map open_pair_lem opens) ≡ awaited o)

    abbrev Shows : List (ℕ × End ℕ) → ℕ × PackedName → List (ℕ × ℕ × List (ℕ × ℕ)) → Found → Option (ℕ × End ℕ) → Type 0
    Shows opens q rows f o = ShowsRows opens q (map path_row_lem rows) f o

    abbrev ShowsTurned : List (ℕ × End ℕ) → ℕ × PackedName → List (ℕ × ℕ × List (ℕ × ℕ × ℕ)) → Found → Option (ℕ × End ℕ) → Type 0
    ShowsTurned opens q rows f o = ShowsRows opens q (map turned_row rows) f o

    -- the path's standing, and the path row's
    abbrev Stands : ℕ × PackedName → ℕ × ℕ × List (ℕ × ℕ) → Standing → Type 0
    Stands q row s = (standing (language r) g (query q) (path_row_lem row).path ≡ s) × (judged (language r) g (query q) (path_row_lem row) ≡ s)

-- Document 01's example: I is label 0 and P label 1.
abbrev I : ℕ
I = 0

abbrev P : ℕ
P = 1

abbrev order : List OrderPair
order = pair stop (by I) ∷ pair stop (by P) ∷ pair (by I) (by P) ∷ []

abbrev gym : Rules
gym = record { labels = 2; order = order; transitions = move 0 I 1 ∷ move 0 P 0 ∷ move 1 I 1 ∷ []; accept = 0 ∷ 1 ∷ [] }

abbrev edges : List (ℕ × ℕ × ℕ)
edges = (1, P, 0) ∷ (2, I, 4) ∷ (2, P, 1) ∷ (3, P, 1) ∷ []

abbrev example : Graph (language gym)
example = graph gym 5 edges ((0, hours, 5) ∷ (1, service, 10) ∷ (2, service, 21) ∷ (4, hours, 40) ∷ [])

M1 : Shows gym example ((3, stop) ∷ []) (2, service) ((21, 2, []) ∷ []) found_one none
unfolding computed
M1 = (refl, refl, refl)

M2 : Shows gym example ((3, stop) ∷ []) (3, service) ((10, 3, (P, 1) ∷ []) ∷ []) found_one (some (3, stop))
unfolding computed
M2 = (refl, refl, refl)

M3 : Shows gym example ((3, stop) ∷ []) (2, hours) ((40, 2, (I, 4) ∷ []) ∷ []) found_one none
unfolding computed
M3 = (refl, refl, refl)

M4 : Shows gym example [] (3, service) ((10, 3, (P, 1) ∷ []) ∷ []) found_one none
unfolding computed
M4 = (refl, refl, refl)

M5 : Shows gym example ((1, stop) ∷ []) (3, service) ((10, 3, (P, 1) ∷ []) ∷ []) found_one (some (1, stop))
unfolding computed
M5 = (refl, refl, refl)

-- `2 service` is found at its start, so nothing behind the edge to 1 matters
M5_start : Shows gym example ((1, stop) ∷ []) (2, service) ((21, 2, []) ∷ []) found_one none
unfolding computed
M5_start = (refl, refl, refl)

M6 : Shows gym example ((2, by P) ∷ []) (2, hours) ((40, 2, (I, 4) ∷ []) ∷ []) found_one none
unfolding computed
M6 = (refl, refl, refl)

M7 : Shows gym example ((2, by I) ∷ []) (2, hours) ((40, 2, (I, 4) ∷ []) ∷ []) found_one (some (2, by I))
unfolding computed
M7 = (refl, refl, refl)

abbrev two_marks : Graph (language gym)
two_marks = graph gym 5 edges ((0, hours, 5) ∷ (1, service, 10) ∷ (2, service, 21) ∷ (4, hours, 40) ∷ (4, hours, 41) ∷ [])

M8 : Shows gym two_marks ((3, stop) ∷ []) (2, hours) ((40, 2, (I, 4) ∷ []) ∷ (41, 2, (I, 4) ∷ []) ∷ []) found_several none
unfolding computed
M8 = (refl, refl, refl)

abbrev turned : Graph (language gym)
turned = graph gym 5 ((0, P, 2) ∷ edges) ((0, hours, 5) ∷ (1, service, 10) ∷ (2, service, 21) ∷ (4, hours, 40) ∷ [])

M9 : Shows gym turned ((3, stop) ∷ []) (0, service) ((21, 0, (P, 2) ∷ []) ∷ []) found_one none
unfolding computed
M9 = (refl, refl, refl)

M10_shadowed : Stands gym example (2, service) (10, 2, (P, 1) ∷ []) is_shadowed
unfolding computed
M10_shadowed = (refl, refl)

M10_visible : Stands gym example (2, service) (21, 2, []) is_visible
unfolding computed
M10_visible = (refl, refl)

M10_unreached : Stands gym example (2, service) (5, 2, (P, 1) ∷ (P, 0) ∷ []) is_unreached
unfolding computed
M10_unreached = (refl, refl)

-- Two scopes import each other, and 1 imports itself. No path comes back to a scope, so each way
-- out is listed once.
abbrev imports : Graph (language gym)
imports = graph gym 3 ((0, I, 1) ∷ (1, I, 0) ∷ (1, I, 1) ∷ (1, I, 2) ∷ []) ((0, hours, 4) ∷ (2, hours, 9) ∷ [])

cycle : Shows gym imports [] (1, hours) ((4, 1, (I, 0) ∷ []) ∷ (9, 1, (I, 2) ∷ []) ∷ []) found_several none
unfolding computed
cycle = (refl, refl, refl)

-- no path goes along the self_edge
self_edge : Stands gym imports (1, hours) (9, 1, (I, 1) ∷ (I, 2) ∷ []) is_unreached
unfolding computed
self_edge = (refl, refl)

-- Two routes to one scope are two entries: a scope is barred on its own path only. Both end at one
-- declaration, so one is found.
abbrev diamond : Graph (language gym)
diamond = graph gym 4 ((0, P, 1) ∷ (0, P, 2) ∷ (1, P, 3) ∷ (2, P, 3) ∷ []) ((3, hours, 5) ∷ [])

two_routes : Shows gym diamond ((3, stop) ∷ []) (0, hours) ((5, 0, (P, 1) ∷ (P, 3) ∷ []) ∷ (5, 0, (P, 2) ∷ (P, 3) ∷ []) ∷ []) found_one (some (3, stop))
unfolding computed
two_routes = (refl, refl, refl)

-- A second mark there is a second declaration, seen along both routes.
two_routes_two_marks : Shows gym (graph gym 4 ((0, P, 1) ∷ (0, P, 2) ∷ (1, P, 3) ∷ (2, P, 3) ∷ []) ((3, hours, 5) ∷ (3, hours, 6) ∷ [])) [] (0, hours)
    ((5, 0, (P, 1) ∷ (P, 3) ∷ []) ∷ (6, 0, (P, 1) ∷ (P, 3) ∷ []) ∷ (5, 0, (P, 2) ∷ (P, 3) ∷ []) ∷ (6, 0, (P, 2) ∷ (P, 3) ∷ []) ∷ []) found_several none
unfolding computed
two_routes_two_marks = (refl, refl, refl)

-- Two scopes with equal marks are two declarations.
equal_marks : Shows gym (graph gym 3 ((0, P, 1) ∷ (0, P, 2) ∷ []) ((1, hours, 5) ∷ (2, hours, 5) ∷ [])) [] (0, hours)
    ((5, 0, (P, 1) ∷ []) ∷ (5, 0, (P, 2) ∷ []) ∷ []) found_several none
unfolding computed
equal_marks = (refl, refl, refl)

-- Neither of two labels is preferred to the other: both ways are seen. Here any word of the two is
-- lawful.
abbrev unordered : Rules
unordered = record {
  labels = 2;
  order = pair stop (by I) ∷ pair stop (by P) ∷ [];
  transitions = move 0 I 0 ∷ move 0 P 0 ∷ [];
  accept = 0 ∷ [];
}

no_preference : Shows unordered (graph unordered 3 ((0, I, 1) ∷ (0, P, 2) ∷ []) ((1, hours, 1) ∷ (2, hours, 2) ∷ [])) [] (0, hours)
    ((1, 0, (I, 1) ∷ []) ∷ (2, 0, (P, 2) ∷ []) ∷ []) found_several none
unfolding computed
no_preference = (refl, refl, refl)

-- The import already reaches hours, so nothing that comes behind the parent matters, neither there
-- nor further on.
harmless : Shows gym example ((0, stop) ∷ (1, stop) ∷ (1, by I) ∷ (2, by P) ∷ []) (2, hours) ((40, 2, (I, 4) ∷ []) ∷ []) found_one none
unfolding computed
harmless = (refl, refl, refl)

-- The import is there but reaches nothing, so it protects from nothing.
no_protection : Shows gym (graph gym 3 ((0, I, 1) ∷ (0, P, 2) ∷ []) ((2, hours, 5) ∷ [])) ((0, by P) ∷ (2, stop) ∷ []) (0, hours)
    ((5, 0, (P, 2) ∷ []) ∷ []) found_one (some (0, by P))
unfolding computed
no_protection = (refl, refl, refl)

-- By I the automaton comes to a state that only leads to itself and does not accept: such an edge
-- may come and changes nothing.
abbrev trap : Rules
trap = record { labels = 2; order = order; transitions = move 0 I 1 ∷ move 0 P 0 ∷ move 1 I 1 ∷ []; accept = 0 ∷ [] }

no_hope : Shows trap (graph trap 1 [] []) ((0, by I) ∷ []) (0, hours) [] found_none none
unfolding computed
no_hope = (refl, refl, refl)

hope : Shows trap (graph trap 1 [] []) ((0, by I) ∷ (0, by P) ∷ []) (0, hours) [] found_none (some (0, by P))
unfolding computed
hope = (refl, refl, refl)

-- Which path is longer decides nothing: here the label is preferred to stopping, so the longer path
-- shadows the one that stops.
abbrev eager : Rules
eager = record { labels = 1; order = pair (by I) stop ∷ []; transitions = move 0 I 0 ∷ []; accept = 0 ∷ [] }

longer_preferred : Shows eager (graph eager 2 ((0, I, 1) ∷ []) ((0, hours, 1) ∷ (1, hours, 2) ∷ [])) [] (0, hours) ((2, 0, (I, 1) ∷ []) ∷ []) found_one none
unfolding computed
longer_preferred = (refl, refl, refl)

-- without order pairs neither shadows the other
abbrev lax : Rules
lax = record { labels = 1; order = []; transitions = move 0 I 0 ∷ []; accept = 0 ∷ [] }

both_seen : Shows lax (graph lax 2 ((0, I, 1) ∷ []) ((0, hours, 1) ∷ (1, hours, 2) ∷ [])) [] (0, hours) ((1, 0, []) ∷ (2, 0, (I, 1) ∷ []) ∷ []) found_several none
unfolding computed
both_seen = (refl, refl, refl)

-- After an import no parent may follow, so the path by 1 and 2 is not lawful and shadows nothing,
-- though I is preferred.
unlawful : Shows gym (graph gym 4 ((0, I, 1) ∷ (0, P, 3) ∷ (1, P, 2) ∷ []) ((2, hours, 6) ∷ (3, hours, 7) ∷ [])) [] (0, hours) ((7, 0, (P, 3) ∷ []) ∷ []) found_one none
unfolding computed
unlawful = (refl, refl, refl)

-- The import declares hours too and I is preferred, but the state after I does not accept: that
-- path is not lawful, so it is not reached and shadows nothing. The parent's stays visible.
abbrev unaccepted : Graph (language trap)
unaccepted = graph trap 3 ((0, I, 1) ∷ (0, P, 2) ∷ []) ((1, hours, 6) ∷ (2, hours, 7) ∷ [])

not_accepted : Shows trap unaccepted [] (0, hours) ((7, 0, (P, 2) ∷ []) ∷ []) found_one none
unfolding computed
not_accepted = (refl, refl, refl)

not_accepted_path : Stands trap unaccepted (0, hours) (6, 0, (I, 1) ∷ []) is_unreached
unfolding computed
not_accepted_path = (refl, refl)

-- One name in two kinds at one scope: each query finds its own kind's (02, K8).
abbrev two_kinds : Graph (language gym)
two_kinds = graph gym 1 [] ((0, c_hours, 1) ∷ (0, hours, 2) ∷ [])

kind_c : Shows gym two_kinds [] (0, c_hours) ((1, 0, []) ∷ []) found_one none
unfolding computed
kind_c = (refl, refl, refl)

kind_v : Shows gym two_kinds [] (0, hours) ((2, 0, []) ∷ []) found_one none
unfolding computed
kind_v = (refl, refl, refl)

-- The import holds the name in another kind only, so it shadows nothing and protects from nothing;
-- an open `$` awaits any kind.
abbrev other_kind_lem : Graph (language gym)
other_kind_lem = graph gym 3 ((0, I, 1) ∷ (0, P, 2) ∷ []) ((1, c_hours, 6) ∷ (2, hours, 7) ∷ [])

kinds_apart : Shows gym other_kind_lem ((1, stop) ∷ []) (0, hours) ((7, 0, (P, 2) ∷ []) ∷ []) found_one (some (1, stop))
unfolding computed
kinds_apart = (refl, refl, refl)

kinds_apart_import : Shows gym other_kind_lem ((2, stop) ∷ []) (0, c_hours) ((6, 0, (I, 1) ∷ []) ∷ []) found_one none
unfolding computed
kinds_apart_import = (refl, refl, refl)

any_kind : Shows gym other_kind_lem ((1, stop) ∷ []) (0, c_hours) ((6, 0, (I, 1) ∷ []) ∷ []) found_one (some (1, stop))
unfolding computed
any_kind = (refl, refl, refl)

-- Comparing: another start, the same label to another scope, and the path itself decide nothing; a
-- preferred end does.
abbrev compares : ℕ → List (ℕ × ℕ) → ℕ → List (ℕ × ℕ) → Bool → Type 0
compares s p t r b = more_specific (language gym) (path_row_lem gym (0, s, p)).path (path_row_lem gym (0, t, r)).path ≡ b

comparing : compares 0 [] 1 ((P, 2) ∷ []) false × compares 0 ((P, 1) ∷ []) 0 ((P, 2) ∷ []) false × compares 0 ((P, 1) ∷ []) 0 ((P, 1) ∷ []) false
    × compares 0 [] 0 ((P, 1) ∷ []) true × compares 0 ((P, 1) ∷ (I, 2) ∷ []) 0 ((P, 1) ∷ (P, 3) ∷ []) true
unfolding computed more_specific
comparing = (refl, refl, refl, refl, refl)

-- Of two imports the later one wins (02, K12), also where it leads to a lower scope number; the
-- earlier one's is shadowed.
abbrev two_imports : Graph (language gym)
two_imports = turned_graph gym 3 ((0, I, 3, 2) ∷ (0, I, 7, 1) ∷ []) ((1, hours, 5) ∷ (2, hours, 6) ∷ [])

later_wins : ShowsTurned gym two_imports [] (0, hours) ((5, 0, (I, 7, 1) ∷ []) ∷ []) found_one none
unfolding computed
later_wins = (refl, refl, refl)

earlier_shadowed : judged (language gym) two_imports (query gym (0, hours)) (turned_row gym (6, 0, (I, 3, 2) ∷ [])) ≡ is_shadowed
unfolding computed
earlier_shadowed = refl

-- Yet an import row does not settle an open place for imports at its scope: one that comes may have
-- a higher turn still. After the earlier import nothing matters.
later_still : ShowsTurned gym two_imports ((0, by I) ∷ []) (0, hours) ((5, 0, (I, 7, 1) ∷ []) ∷ []) found_one (some (0, by I))
unfolding computed
later_still = (refl, refl, refl)

behind_earlier : ShowsTurned gym two_imports ((2, stop) ∷ []) (0, hours) ((5, 0, (I, 7, 1) ∷ []) ∷ []) found_one none
unfolding computed
behind_earlier = (refl, refl, refl)

-- A later import that reaches nothing shadows nothing; imports of one turn clash.
later_empty : ShowsTurned gym (turned_graph gym 3 ((0, I, 3, 2) ∷ (0, I, 7, 1) ∷ []) ((2, hours, 6) ∷ [])) [] (0, hours)
    ((6, 0, (I, 3, 2) ∷ []) ∷ []) found_one none
unfolding computed
later_empty = (refl, refl, refl)

one_turn : ShowsTurned gym (turned_graph gym 3 ((0, I, 7, 1) ∷ (0, I, 7, 2) ∷ []) ((1, hours, 5) ∷ (2, hours, 6) ∷ [])) [] (0, hours)
    ((5, 0, (I, 7, 1) ∷ []) ∷ (6, 0, (I, 7, 2) ∷ []) ∷ []) found_several none
unfolding computed
one_turn = (refl, refl, refl)

-- Labels compare as before, whatever the turns.
labels_first : ShowsTurned gym (turned_graph gym 3 ((0, I, 0, 1) ∷ (0, P, 9, 2) ∷ []) ((1, hours, 5) ∷ (2, hours, 6) ∷ [])) [] (0, hours)
    ((5, 0, (I, 0, 1) ∷ []) ∷ []) found_one none
unfolding computed
labels_first = (refl, refl, refl)

-- Labels being equal, a step without a turn is neither before nor after one with a turn.
abbrev unturned : List (Hop (language gym))
unturned = record { step = record { label = I; turn = none }; to = 1 } ∷ []

no_turn : (preferred_to (language gym) unturned (turned_hops gym ((I, 7, 2) ∷ [])) stop ≡ false)
    × (preferred_to (language gym) (turned_hops gym ((I, 7, 2) ∷ [])) unturned stop ≡ false)
unfolding computed
no_turn = (refl, refl)

-- Two lanes keep their own counts: marks may be equal, scopes not. (`awaits` of M2 and M5 says why
-- one does not where a pair is open; and scopes 1 and 3 use one counter between them.)
abbrev Keeps : Graph (language gym) → List (ℕ × End ℕ) → PackedName → List ℕ → Bool → Type 0
Keeps g opens x starts b = keeps_own (language gym) x g (map (open_pair_lem gym) opens) starts ≡ b

own : Keeps example [] service (2 ∷ 3 ∷ []) true × Keeps example ((2, by I) ∷ []) service (2 ∷ 3 ∷ 2 ∷ []) true
    × Keeps (graph gym 2 [] ((0, service, 5) ∷ (1, service, 5) ∷ [])) [] service (0 ∷ 1 ∷ []) true
unfolding computed keeps_own has_own meet all_of is_one is_none ends_at
own = (refl, refl, refl)

not_own : Keeps example ((3, stop) ∷ []) service (2 ∷ 3 ∷ []) false × Keeps example ((1, stop) ∷ []) service (2 ∷ 3 ∷ []) false
    × Keeps example [] service (1 ∷ 3 ∷ []) false × Keeps example [] hours (4 ∷ 2 ∷ []) false × Keeps example [] service (2 ∷ 4 ∷ []) false
unfolding computed keeps_own has_own meet all_of is_one is_none ends_at
not_own = (refl, refl, refl, refl, refl)
