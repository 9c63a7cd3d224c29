-- All that is promised of the search: what it answers over a graph's board is what the rules say,
-- and a place that a closed table lacks can be skipped. Values of these records are in
-- proofs/Promises. Assumes nothing: these are definitions.
use Rattle.std.specs.Prelude.{ℕ, ◌<◌, ◌≡◌, Bool, true, false, ◌&&◌, eqb}
use mathlib.Core.List.{List, [], flat_map}
use Rattle.scope_graph.specs.Language.{End, stop, Language, Laws}
use Rattle.scope_graph.specs.Graph.{Graph, InRange, Query, OpenPair}
use Rattle.scope_graph.specs.Path.{Path}
use Rattle.scope_graph.specs.Rows.{any_of}
use Rattle.scope_graph.specs.Computed.{keep, Node, Standing, is_visible, is_shadowed, is_unreached, usable, rows_at, entries, is_reached, standing, open_end, followed_at}
use Rattle.search.specs.Board.{Board, board_of, without, exists_from, reached_by, cut_along, hits_from}
use Rattle.search.specs.Live.{any_way, open_way, Closed}

-- a query's answers, from its start in state 0, with as many hops as the graph has scopes; `free`
-- are the scopes but the start
module _ (L : Language) (g : Graph L) (q : Query L) (free : ℕ → Bool) where
  abbrev pub followed : (ℕ → ℕ → Bool) → End L.Step → List (Node L)
  followed seek e = hits_from (board_of L g q.name) L.prefers seek e g.scopes free q.start 0

  pub record AnswersAre : Type 0 where
    -- the entries are the rows of the followed places where a path may stop (01, "The listing")
    pub entries_are : entries L g q ≡ flat_map (rows_at L g q) (followed (board_of L g q.name).here stop)
    -- a pair is followed exactly if the search finds a place for it: an open one is decisive then
    -- (01, "The listing", `awaits`), and with `$` a visible path ends where the name is (02, K2)
    pub pair_is : (o : OpenPair L) → followed_at L g q o
        ≡ any_of (λ n. true) (followed (λ s st. eqb s o.at && usable L st (open_end L g q o.end)) (open_end L g q o.end))
    -- a path is reached exactly if the search comes along it (01, "Paths")
    pub path_is : (p : Path L) → is_reached L g q p ≡ (eqb p.start q.start && reached_by (board_of L g q.name) free q.start 0 p.hops)
    -- and then it is shadowed exactly if an end along it is cut
    pub standing_is : (p : Path L) → standing L g q p
        ≡ (elim (eqb p.start q.start && reached_by (board_of L g q.name) free q.start 0 p.hops) as (λ _. Standing) [
          | false ↦ is_unreached
          | true ↦ elim (cut_along (board_of L g q.name) L.prefers g.scopes free q.start 0 p.hops stop) as (λ _. Standing) [ true ↦ is_shadowed | false ↦ is_visible ]
        ])

-- behind a place of a free scope that a closed table lacks nothing is reached and nothing is
-- followed, also with fewer scopes free
pub record SkippingIs {A : Type 0} (b : Board A) (free : ℕ → Bool) (live : ℕ → ℕ → Bool) : Type 0 where
  pub none_reached : Closed b b.here (any_way b) free live
      → (fuel : ℕ) (few : ℕ → Bool) (s q : ℕ) → ((t : ℕ) → few t ≡ true → free t ≡ true) → free s ≡ true → live s q ≡ false
      → exists_from b fuel few s q ≡ false
  pub none_followed : (prefers : End A → End A → Bool) (seek : ℕ → ℕ → Bool) (e : End A) → Closed b seek (open_way b prefers) free live
      → (fuel : ℕ) (few : ℕ → Bool) (s q : ℕ) → ((t : ℕ) → few t ≡ true → free t ≡ true) → free s ≡ true → live s q ≡ false
      → hits_from b prefers seek e fuel few s q ≡ []

-- the followed places of a part of what is asked for are that part of the followed places
abbrev pub PartFollowed : {A : Type 0} → Board A → Type 0
PartFollowed {A} b =
    (prefers : End A → End A → Bool) (seek part : ℕ → ℕ → Bool) (e : End A) (fuel : ℕ) (free : ℕ → Bool) (s q : ℕ)
    → hits_from b prefers (λ t r. seek t r && part t r) e fuel free s q
    ≡ keep (λ n. part n.at n.state) (hits_from b prefers seek e fuel free s q)

pub record Promises : Type 1 where
  -- for every graph whose rows are in range, and every query that starts at a scope of it
  pub answers : (L : Language) → Laws L → (g : Graph L) (q : Query L) → InRange L g → q.start < g.scopes
      → (all : ℕ → Bool) → ((t : ℕ) → t < g.scopes → all t ≡ true) → AnswersAre L g q (without all q.start)
  pub skipping : {A : Type 0} (b : Board A) (free : ℕ → Bool) (live : ℕ → ℕ → Bool) → SkippingIs b free live
  pub parts : {A : Type 0} (b : Board A) → PartFollowed b
