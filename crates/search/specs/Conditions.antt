-- What the code of the search and of the walk asks of what it is handed, by name. Assumes nothing:
-- these are definitions.
use Rattle.std.specs.Prelude.{ℕ, zero, suc, ◌+◌, ◌<◌, ◌≡◌, Bool, true, false, not, ◌&&◌, List, eqb, ltb}
use Rattle.scope_graph.specs.Language.{stop, by}
use Rattle.scope_graph.specs.Turns.{Turned}
use Rattle.scope_graph.specs.Rows.{any_of}
use Rattle.block.specs.Sets.{has_bit, has_scope, places_of}
use Rattle.block.specs.Block.{accept_set}
use Rattle.search.specs.Board.{Board, without, hop_leads}
use Rattle.search.specs.Live.{Closed, any_way}
use Rattle.search.specs.Tables.{place_flag, table_order, table_board}
use Rattle.search.specs.declared.Node.{Node}

-- a node's scope and state are within the tables
pub record Inside (n : Node) : Type 0 where
  pub scope : n.scope < 64
  pub state : n.state < 16

-- all scopes but the start: those that are free when a query begins
unfoldable pub free_at : ℕ → ℕ → Bool
free_at start = without (λ t. ltb t 64) start

-- Steps that may be followed: all but those that are cut wherever a path comes by them, since a
-- scope of the set `cutting` is there, the state accepts, and stopping is preferred to the step.
-- The empty set cuts none.
unfoldable pub way_of : List ℕ → ℕ → ℕ → ℕ → Turned → Bool
way_of block cutting s q t = not (places_of cutting (accept_set block) s q && table_order block stop (by t))

-- a table of places holds all from which what is sought can be reached, by any step
abbrev pub LiveAt : List ℕ → ℕ → (ℕ → Bool) → List ℕ → Type 0
LiveAt block goal free live =
    Closed (table_board block goal) (places_of goal (accept_set block)) (any_way (table_board block goal)) free (place_flag live)

-- a table of places holds all from which a place of `scopes` and `states` can be followed
abbrev pub WorthAt : List ℕ → ℕ → ℕ → ℕ → (ℕ → Bool) → List ℕ → Type 0
WorthAt block goal scopes states free worth =
    Closed (table_board block goal) (places_of scopes states) (way_of block goal) free (place_flag worth)

-- a table of places that no steps lead to from a place outside it: closed, with nothing asked for
-- and all scopes free
abbrev pub AwayAt : List ℕ → ℕ → List ℕ → Type 0
AwayAt block goal away = Closed (table_board block goal) (places_of 0 0) (way_of block goal) (λ t. ltb t 64) (place_flag away)

-- does what is sought lie at the end with this number: here, or behind a hop with its label?
unfoldable pub behind_end : Board Turned → ℕ → (ℕ → Bool) → ℕ → ℕ → ℕ → Bool
behind_end b fuel free s q zero = b.here s q
behind_end b fuel free s q (suc l) = any_of (λ h. eqb h.step.label l && hop_leads b fuel free q h) (b.hops s)

-- What is known of nine ends at a node, as the bits of a number: bit a says that what is sought
-- lies at end a, bit 16 + a that it does not.
pub record Known (block : List ℕ) (goal : ℕ) (n : Node) (known : ℕ) : Type 0 where
  pub leads : (a : ℕ) → a < 9 → has_bit known a ≡ true
      → behind_end (table_board block goal) n.left (has_scope n.free) n.scope n.state a ≡ true
  pub leads_not : (a : ℕ) → a < 9 → has_bit known (16 + a) ≡ true
      → behind_end (table_board block goal) n.left (has_scope n.free) n.scope n.state a ≡ false
