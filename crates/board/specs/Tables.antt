-- What each small table of the board holds, for the rows of a section (crate block says where it
-- stands and how it is read). Assumes nothing: these are definitions.
use Rattle.std.specs.Prelude.{ℕ, zero, suc, ◌+◌, ◌/◌, ◌%◌, ◌^◌, ◌<◌, ◌≡◌, List, [], ◌∷◌, ◌++◌, map, Bool, true, false, ◌||◌, eqb, length, get_or}
use Rattle.std.proofs.Math.Option.{Option, some, none}
use Rattle.scope_graph.specs.Rows.{any_of, preferred_by, next_by}
use Rattle.scope_graph.specs.Order.{end_of}
use Rattle.scope_graph.specs.Computed.{any_below}
use Rattle.graph_rows.specs.Admission.{Row, value, blank}
use Rattle.graph_rows.specs.Decode.{order_pair_of, transition_of}
use Rattle.block.specs.Sets.{has_bit, has_state}

-- the cells f 0, f 1 and on, n of them
unfoldable pub tabulate : (ℕ → ℕ) → ℕ → List ℕ
tabulate f zero = []
tabulate f (suc n) = tabulate f n ++ (f n ∷ [])

-- a next state's cell: 16 for none
unfoldable pub state_cell : Option ℕ → ℕ
state_cell none = 16
state_cell (some r) = r

-- the next state by state and label (01, "The gym file", the rows `state label next`)
unfoldable pub transition_cell : List Row → ℕ → ℕ
transition_cell rows i = state_cell (next_by (map transition_of rows) (i / 8) (i % 8))

unfoldable pub transition_cells : List Row → List ℕ
transition_cells rows = tabulate (transition_cell rows) 128

-- the accepting states (the rows `accept`)
unfoldable pub accepted : List Row → ℕ → Bool
accepted rows q = any_of (eqb q) (map (λ (row : Row). value row 0) rows)

-- the labels' letters as bytes (the rows `label`); 0 where there is none
unfoldable pub letter_of : List Row → ℕ → ℕ
letter_of rows i = value (get_or rows i blank) 0 % 256

-- nine sets of ends: those that are preferred to an end (the rows `less more`)
pub record BetterIs (rows : List Row) (better : List ℕ) : Type 0 where
  pub size : length better ≡ 9
  pub each : (a c : ℕ) → a < 9 → c < 9 → has_bit (get_or better c 0) a ≡ preferred_by (map order_pair_of rows) (end_of a) (end_of c)

-- A set of states is the bits of a number: the bit of a state, if so; the set of the states below n
-- of which `f` says so.
unfoldable pub bit_if : Bool → ℕ → ℕ
bit_if b q = elim b [ true ↦ 2 ^ q | false ↦ 0 ]

unfoldable pub states_below : (ℕ → Bool) → ℕ → ℕ
states_below f zero = 0
states_below f (suc n) = states_below f n + bit_if (f n) n

-- with the next state by state and label, and the accepting states
module _ (next : ℕ → ℕ → ℕ) where
  -- does a transition lead from the state into the set?
  unfoldable pub leads_into : ℕ → ℕ → Bool
  leads_into set q = any_below (λ l. has_state set (next q l)) 8

  module _ (accept : ℕ) where
    -- The states from which transitions alone lead to an accepting one: after a round more, those
    -- that accept and those with a transition to one of the round before.
    unfoldable pub round_flag : ℕ → ℕ → Bool
    round_flag set q = has_state accept q || leads_into set q

    unfoldable pub round_set : ℕ → ℕ
    round_set set = states_below (round_flag set) 16

    unfoldable pub hopes_after : ℕ → ℕ
    hopes_after zero = 0
    hopes_after (suc n) = round_set (hopes_after n)

    -- the first round gives those that accept; 16 transitions are enough, as there are 16 states
    unfoldable pub hopeful_set : ℕ
    hopeful_set = hopes_after 17

    -- Is an end usable in a state: does the state accept (end mark), or does the label lead from it
    -- to a hopeful state? An end is 0 for the end mark and n + 1 for the label n.
    unfoldable pub usable_flag : ℕ → ℕ → ℕ → Bool
    usable_flag hopes q zero = has_state accept q
    usable_flag hopes q (suc l) = has_state hopes (next q l)

    -- the states in which an end is usable
    unfoldable pub usable_states : ℕ → ℕ → ℕ
    usable_states hopes e = states_below (λ q. usable_flag hopes q e) 16
