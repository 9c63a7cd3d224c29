-- What the steps of the count's code ask and answer: how many scopes are free, which of them can be
-- come to, what a number tells of a count, and the memo of what was counted already. Assumes
-- nothing: these are definitions.
use Rattle.std.specs.Prelude.{ℕ, zero, suc, ◌+◌, ◌*◌, ◌/◌, ◌%◌, ◌≤◌, ◌<◌, ◌≡◌, Bool, true, false, length, get_or}
use mathlib.Core.List.{List, [], flat_map}
use Rattle.scope_graph.specs.Language.{◌∈◌, by}
use Rattle.scope_graph.specs.Path.{HopOf}
use Rattle.scope_graph.specs.Turns.{Turned}
use Rattle.block.specs.Sets.{has_scope, has_state}
use Rattle.block.specs.Block.{hops_on, block_hops}
use Rattle.block.specs.Ask.{ask_goal}
use Rattle.search.specs.Board.{without, cut_here}
use Rattle.search.specs.Tables.{table_order, table_board}
use Rattle.search.specs.declared.Node.{Node}
use Rattle.follow.specs.declared.Aim.{Aim}
use Rattle.follow.specs.declared.Task.TheVariants.{Place}
use Rattle.follow.specs.Walk.{places_from}
use Rattle.follow.specs.Steps.{hop_rows}
use Rattle.beginnings.specs.Beginnings.{MOST, capped}
use Rattle.beginnings.specs.Tables.{hopes_in}

-- a walk over places one by one ends at this many
abbrev pub ENOUGH : ℕ
ENOUGH = 512

-- all 64 scopes, as a set
abbrev pub ALL_SCOPES : ℕ
ALL_SCOPES = 18446744073709551615

-- at most n scopes are free: none is, or whichever is taken, fewer than n are left
unfoldable pub Few : ℕ → (ℕ → Bool) → Type 0
Few zero free = (t : ℕ) → free t ≡ false
Few (suc n) free = (t : ℕ) → free t ≡ true → Few n (without free t)

-- A table of neighbours has a set of scopes for each of 64 scopes. It covers the block if each hop
-- leads to a neighbour.
abbrev pub Covers : List ℕ → List ℕ → Type 0
Covers block near = (s : ℕ) (h : HopOf Turned) → h ∈ block_hops block s → has_scope (get_or near s 0) h.to ≡ true

-- r are free scopes, among them each free neighbour of the scope s and of each scope in r
pub record Flooded (near : List ℕ) (free s r : ℕ) : Type 0 where
  pub less : (t : ℕ) → has_scope r t ≡ true → has_scope free t ≡ true
  pub first : (t : ℕ) → has_scope (get_or near s 0) t ≡ true → has_scope free t ≡ true → has_scope r t ≡ true
  pub on : (u t : ℕ) → has_scope r u ≡ true → has_scope (get_or near u 0) t ≡ true → has_scope free t ≡ true → has_scope r t ≡ true

-- no step is cut anywhere
abbrev pub Uncut : List ℕ → ℕ → Type 0
Uncut block goal =
    (fuel : ℕ) (free : ℕ → Bool) (s q : ℕ) (h : HopOf Turned) → h ∈ block_hops block s
    → cut_here (table_board block goal) (table_order block) fuel free s q (by h.step) ≡ false

-- What a number tells of a count x, found with a table of neighbours: if that covers the block, the
-- number is the count; if no step is cut, it is not above the count.
pub record Tells (block near : List ℕ) (goal x v : ℕ) : Type 0 where
  pub most : v ≤ MOST
  pub exact : Covers block near → v ≡ capped x
  pub below : Uncut block goal → v ≤ capped x

-- what a walk over all places asks for: no end is preferred to the ninth
abbrev pub any_place : List ℕ → Aim
any_place block = record { scopes = ALL_SCOPES; states = hopes_in block; end = 9; task = Place; bounds = record { limit = 0; kept = 0; most = 0 } }

-- does a place with the state count itself?
unfoldable pub own_place : ℕ → ℕ → ℕ
own_place hopes q = elim (has_state hopes q) [ true ↦ 1 | false ↦ 0 ]

-- how many places are followed from a scope and state on, with fewer than `fuel` hops
unfoldable pub behind : List ℕ → List ℕ → ℕ → (ℕ → Bool) → ℕ → ℕ → ℕ
behind block ask fuel free s q = length (places_from block [] ask ALL_SCOPES (hopes_in block) 9 fuel free s q)

-- and how many behind the edges of a node from number p on
unfoldable pub behind_edges : List ℕ → List ℕ → Node → ℕ → ℕ
behind_edges block ask n p = length (flat_map (hop_rows block [] ask (any_place block) [] n) (hops_on block n.scope p))

-- The memo has two cells for each of 32,768 slots: free scopes, and with a scope and a state, by
-- `tag_of`, what a number tells of the count there. A cell of 0 has no tag.
abbrev pub SLOTS : ℕ
SLOTS = 32768

abbrev pub VALUES : ℕ
VALUES = 1073741824

abbrev pub tag_of : ℕ → ℕ → ℕ
tag_of s q = 1 + (s * 16 + q)

-- a number tells of the places behind a scope and state by these free scopes, however many hops are
-- left, if they are enough for all
abbrev pub Recalls : List ℕ → List ℕ → List ℕ → ℕ → ℕ → ℕ → ℕ → Type 0
Recalls block near ask free s q v =
    (n : ℕ) → Few n (has_scope free) → Tells block near (ask_goal ask) (behind block ask (suc n) (has_scope free) s q) v

pub record MemoRight (block near ask memo : List ℕ) : Type 0 where
  pub size : length memo ≡ 2 * SLOTS
  pub slots : (i s q : ℕ) → i < SLOTS → q < 16 → get_or memo (2 * i + 1) 0 / VALUES ≡ tag_of s q
      → Recalls block near ask (get_or memo (2 * i) 0) s q (get_or memo (2 * i + 1) 0 % VALUES)
