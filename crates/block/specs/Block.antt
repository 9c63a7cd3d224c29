-- What is read of the board's block, whatever its cells hold. Assumes nothing: these are
-- definitions.
use Rattle.std.specs.Prelude.{ℕ, zero, suc, ◌+◌, ◌-◌, ◌*◌, ◌/◌, ◌%◌, ◌≤◌, ◌<◌, Bool, true, false, ◌&&◌, List, [], ◌∷◌, eqb, ltb, get_or, take, drop}
use Rattle.std.proofs.Math.Option.{Option, some, none}
use Rattle.scope_graph.specs.Path.{HopOf}
use Rattle.scope_graph.specs.Turns.{Turned}
use Rattle.block.specs.Sets.{has_bit}
use Rattle.block.specs.Layout.{DELTA, BETTER, ACCEPT, SCOPES, USABLE, LETTER, FIRST, EDGE, DECL, STATES, TURN}

-- a state, or 16 and above for none
unfoldable pub state_of : ℕ → Option ℕ
state_of r = elim (ltb r 16) [ true ↦ some r | false ↦ none ]

-- the next state's cell; 16 for a state or label past the table
unfoldable pub next_cell : List ℕ → ℕ → ℕ → ℕ
next_cell block q l = elim (ltb q 16 && ltb l 8) [ true ↦ get_or block (DELTA + (q * 8 + l)) 16 | false ↦ 16 ]

-- the accepting states, the states in which an end is usable, and a label's letter
unfoldable pub accept_set : List ℕ → ℕ
accept_set block = get_or block ACCEPT 0

unfoldable pub usable_set : List ℕ → ℕ → ℕ
usable_set block e = get_or block (USABLE + e) 0

unfoldable pub letter_cell : List ℕ → ℕ → ℕ
letter_cell block l = get_or block (LETTER + l) 0

-- the number of scopes
unfoldable pub scopes_cell : List ℕ → ℕ
scopes_cell block = get_or block SCOPES 0

-- one past the last state from which a label leads on, and a turn that no edge's is above
unfoldable pub states_cell : List ℕ → ℕ
states_cell block = get_or block STATES 0

unfoldable pub turn_cell : List ℕ → ℕ
turn_cell block = get_or block TURN 0

-- is the end with number a preferred to the one with number c? Ends past the table are not
-- compared.
unfoldable pub pair_flag : List ℕ → ℕ → ℕ → Bool
pair_flag block a c = elim (ltb a 9 && ltb c 9) [ true ↦ has_bit (get_or block (BETTER + c) 0) a | false ↦ false ]

-- the number of the scope's first edge; edge number p
unfoldable pub first_edge : List ℕ → ℕ → ℕ
first_edge block s = get_or block (FIRST + s) 0

unfoldable pub edge_cell : List ℕ → ℕ → ℕ
edge_cell block p = get_or block (EDGE + p % 512) 0

-- the parts of an edge's cell: the scope that it leads to, its label, its turn; and its hop
abbrev pub scope_of : ℕ → ℕ
scope_of x = x % 64

abbrev pub label_of : ℕ → ℕ
label_of x = x / 64 % 8

unfoldable pub turn_of : ℕ → ℕ
turn_of x = x / 512 % 128

unfoldable pub hop_of : ℕ → HopOf Turned
hop_of x = record { step = record { label = label_of x; turn = some (turn_of x) }; to = scope_of x }

-- the cell of an edge, each part cut to its range
abbrev pub packed_edge : ℕ → ℕ → ℕ → ℕ
packed_edge turn label to = turn % 128 * 512 + label % 8 * 64 + to % 64

-- the hint that leads back along an edge, and its parts, whatever stands above it in the cell
abbrev pub packed_back : ℕ → ℕ → ℕ
packed_back from label = from % 64 * 8 + label % 8

abbrev pub back_scope : ℕ → ℕ
back_scope x = x / 8 % 64

abbrev pub back_label : ℕ → ℕ
back_label x = x % 8

-- the two bounds are bounds: no label leads on from a state past the first, and no turn of a
-- scope's edge is above the second
pub record Bounds (block : List ℕ) : Type 0 where
  pub states : (q l : ℕ) → states_cell block ≤ q → 16 ≤ next_cell block q l
  pub turns : (s p : ℕ) → s < 64 → p < first_edge block (suc s) → turn_of (edge_cell block p) ≤ turn_cell block

-- the hops of n edges from number p on
unfoldable pub hops_from : List ℕ → ℕ → ℕ → List (HopOf Turned)
hops_from block p zero = []
hops_from block p (suc n) = hop_of (edge_cell block p) ∷ hops_from block (suc p) n

-- the hops that leave the scope by its edges from number p on
unfoldable pub hops_on : List ℕ → ℕ → ℕ → List (HopOf Turned)
hops_on block s p = hops_from block p (first_edge block (suc s) - p)

-- all hops that leave a scope; one past the last scope has none
unfoldable pub block_hops : List ℕ → ℕ → List (HopOf Turned)
block_hops block s = elim (ltb s 64) [ true ↦ hops_on block s (first_edge block s) | false ↦ [] ]

-- of n edges from number p on, the number of the first whose hop passes the test; p + n if none does
unfoldable pub edge_among : List ℕ → (HopOf Turned → Bool) → ℕ → ℕ → ℕ
edge_among block test p zero = p
edge_among block test p (suc n) = elim (test (hop_of (edge_cell block p))) [ true ↦ p | false ↦ edge_among block test (suc p) n ]

-- The same of the scope's edges from number p on. If none passes, it is the number behind the
-- scope's last edge; or p itself, if p is behind that already.
unfoldable pub edge_on : List ℕ → (HopOf Turned → Bool) → ℕ → ℕ → ℕ
edge_on block test s p = edge_among block test p (first_edge block (suc s) - p)

-- does the hop go by the label to the scope?
abbrev pub goes : ℕ → ℕ → HopOf Turned → Bool
goes label to h = eqb h.step.label label && eqb h.to to

-- The number of the first edge that leaves scope s by the label to the scope `to`; the one behind
-- the scope's last edge if there is none. Its turn is the one that comparing looks up (02, K12).
unfoldable pub edge_to : List ℕ → ℕ → ℕ → ℕ → ℕ
edge_to block s label to = edge_on block (goes label to) s (first_edge block s)

-- where a scope's declarations start in the graph table, and the part of the table that they are
unfoldable pub first_declaration : List ℕ → ℕ → ℕ
first_declaration block s = get_or block (DECL + s) 0

unfoldable pub declared_part : List ℕ → List ℕ → ℕ → List ℕ
declared_part block table s =
    take (first_declaration block (suc s) - first_declaration block s) (drop (first_declaration block s) table)
