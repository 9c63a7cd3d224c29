-- What the steps of the search's code answer: a hop's share in a closed table, which hops are worth
-- entering, and the next of them. Assumes nothing: these are definitions.
use Rattle.std.specs.Prelude.{ℕ, suc, ◌≤◌, ◌<◌, ◌≡◌, Bool, true, false, not, ◌&&◌, List, eqb, ltb}
use Rattle.scope_graph.specs.Language.{◌∈◌, by}
use Rattle.scope_graph.specs.Path.{HopOf}
use Rattle.scope_graph.specs.Turns.{Turned, later_step}
use Rattle.scope_graph.specs.Rows.{any_of}
use Rattle.block.specs.Sets.{has_scope, has_state, has_label, places_of}
use Rattle.block.specs.Block.{next_cell, edge_cell, hop_of, block_hops, edge_on}
use Rattle.search.specs.Board.{Board, hop_leads}
use Rattle.search.specs.Tables.{place_flag}
use Rattle.search.specs.declared.Node.{Node}

-- the table lacks the place (s, q), though the hop leads from it to a place that it holds
unfoldable pub lacks : List ℕ → (ℕ → ℕ → Turned → Bool) → (ℕ → ℕ → Bool) → ℕ → HopOf Turned → ℕ → Bool
lacks block way live s h q = not (live s q) && (live h.to (next_cell block q h.step.label) && way s q h.step)

-- if the hop goes to a free scope, the table lacks no place that it leads from
abbrev pub HopClosed : List ℕ → (ℕ → ℕ → Turned → Bool) → (ℕ → Bool) → (ℕ → ℕ → Bool) → ℕ → HopOf Turned → Type 0
HopClosed block way free live s h = free h.to ≡ true → (q : ℕ) → q < 16 → lacks block way live s h q ≡ false

-- the same of each hop of a scope, and of each free scope
abbrev pub ScopeClosed : List ℕ → (ℕ → ℕ → Turned → Bool) → (ℕ → Bool) → (ℕ → ℕ → Bool) → ℕ → Type 0
ScopeClosed block way free live s = (h : HopOf Turned) → h ∈ block_hops block s → HopClosed block way free live s h

abbrev pub HopsClosed : List ℕ → (ℕ → ℕ → Turned → Bool) → (ℕ → Bool) → (ℕ → ℕ → Bool) → Type 0
HopsClosed block way free live = (s : ℕ) → free s ≡ true → ScopeClosed block way free live s

-- no label leads on from a state outside the set
abbrev pub Leading : List ℕ → ℕ → Type 0
Leading block full = (q l : ℕ) → has_state full q ≡ false → 16 ≤ next_cell block q l

-- the table holds the places of the scopes and states
abbrev pub Holds : ℕ → ℕ → List ℕ → Type 0
Holds scopes states t = (s q : ℕ) → places_of scopes states s q ≡ true → place_flag t s q ≡ true

-- what one table holds, the other does
pub record Kept (a c : List ℕ) : Type 0 where
  pub flags : (s q : ℕ) → place_flag a s q ≡ true → place_flag c s q ≡ true

-- the state after a hop with one of the labels, to a free scope, at a place that the table holds;
-- else 16
unfoldable pub worth_state : List ℕ → List ℕ → ℕ → ℕ → ℕ → HopOf Turned → ℕ
worth_state block table free q labels h =
    elim (has_label labels h.step.label && (has_scope free h.to && place_flag table h.to (next_cell block q h.step.label))) [
      | true ↦ next_cell block q h.step.label
      | false ↦ 16
    ]

-- Of the edges of the node's scope from number p on, the first whose hop is worth entering. If none
-- is, it is the number behind the scope's last edge; or p itself, if p is behind that already.
unfoldable pub next_hop : List ℕ → List ℕ → Node → ℕ → ℕ → ℕ
next_hop block table n labels p = edge_on block (λ h. ltb (worth_state block table n.free n.state labels h) 16) n.scope p

-- edge number r leaves the node's scope, and its hop is worth entering
pub record HopAt (block table : List ℕ) (n : Node) (labels r : ℕ) : Type 0 where
  pub leaves : hop_of (edge_cell block r) ∈ block_hops block n.scope
  pub worth : worth_state block table n.free n.state labels (hop_of (edge_cell block r)) < 16

-- m is the node behind the hop, in state r: its scope is taken, and one hop fewer may be entered
pub record Entered (n : Node) (h : HopOf Turned) (r : ℕ) (m : Node) : Type 0 where
  pub free : (u : ℕ) → has_scope m.free u ≡ (has_scope n.free u && not (eqb u h.to))
  pub left : suc m.left ≡ n.left
  pub scope : m.scope ≡ h.to
  pub state : m.state ≡ r

-- does one of the hops, with one of the labels, lead from the node to what is sought?
abbrev pub leads_by : Board Turned → Node → ℕ → List (HopOf Turned) → Bool
leads_by b n labels hs = any_of (λ h. has_label labels h.step.label && hop_leads b n.left (has_scope n.free) n.state h) hs

-- does one of the hops, with the step's label and a higher turn, lead from the node to what is
-- sought (02, K12)?
abbrev pub later_leads : Board Turned → Node → Turned → List (HopOf Turned) → Bool
later_leads b n t hs = any_of (λ h. later_step (by h.step) (by t) && hop_leads b n.left (has_scope n.free) n.state h) hs
