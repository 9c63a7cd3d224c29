-- Turns (02, K12): what an edge carries is a label and a turn, and at one label the higher turn is
-- preferred. Assumes nothing: these are definitions.
use Rattle.std.specs.Prelude.{ℕ, suc, ◌+◌, Bool, true, false, ◌&&◌, List, [], ◌∷◌, eqb, ltb}
use Rattle.std.proofs.Math.Option.{Option, some, none}
use Rattle.scope_graph.specs.Language.{End, stop, by}
use Rattle.scope_graph.specs.Path.{HopOf}

-- A step: its label by number, and its turn. A step of a path that is no edge row has none; rows of
-- the names line `from label to` have turn 0.
pub record Turned : Type 0 where
  pub label : ℕ
  pub turn : Option ℕ

-- tests of equality
unfoldable pub same_turn : Option ℕ → Option ℕ → Bool
same_turn none none = true
same_turn none (some u) = false
same_turn (some t) none = false
same_turn (some t) (some u) = eqb t u

unfoldable pub same_turned : Turned → Turned → Bool
same_turned a b = eqb a.label b.label && same_turn a.turn b.turn

-- both have a turn, and the first one's is higher: where one has none, nothing is decided
unfoldable pub later : Option ℕ → Option ℕ → Bool
later none u = false
later (some t) none = false
later (some t) (some u) = ltb u t

-- an end by its label alone, as an order pair has it
abbrev pub label_end : End Turned → End ℕ
label_end stop = stop
label_end (by t) = by t.label

-- two steps of one label, the first of the higher turn
unfoldable pub later_step : End Turned → End Turned → Bool
later_step stop e = false
later_step (by t) stop = false
later_step (by t) (by u) = eqb t.label u.label && later t.turn u.turn

-- a number above all turns of a list, and above those that a file can have
unfoldable pub above_one : Option ℕ → ℕ → ℕ
above_one none n = n
above_one (some t) n = suc (t + n)

unfoldable pub above : List Turned → ℕ
above [] = 100
above (t ∷ ts) = above_one t.turn (above ts)

-- Comparing looks a step's turn up: that of the first hop by the label to the scope, none where
-- there is no such hop.
unfoldable pub turn_by : List (HopOf Turned) → ℕ → ℕ → Option ℕ
turn_by [] l t = none
turn_by (h ∷ hs) l t =
    elim (eqb h.step.label l && eqb h.to t) [ true ↦ h.step.turn | false ↦ turn_by hs l t ]
