-- The states of the smallest table, met breadth-first by label number (02, K6). Assumes nothing:
-- these are definitions.
use Rattle.std.specs.Prelude.{ℕ, zero, suc, ◌+◌, ◌/◌, ◌%◌, true, false, List, ltb, get_or, set, take, replicate}
use Rattle.std.specs.declared.option.Option.TheVariants.{Some, None}
use Rattle.std.specs.declared.option.Option.{Option}
use Rattle.path_rules.specs.Vectors.{onward, same_on, place_same}
use Rattle.path_rules.specs.declared.walk.Walk.{Walk}

-- only the start state is met
abbrev pub start_walk : ℕ → Walk
start_walk start = record { states = 1; sets = set (replicate 16 0) 0 start; next = replicate 128 16 }

-- cell k leads to state j; to a new state
abbrev pub to_state : Walk → ℕ → ℕ → Walk
to_state w k j = record { states = w.states; sets = w.sets; next = set w.next k j }

abbrev pub to_new : Walk → ℕ → ℕ → Walk
to_new w k t = record { states = w.states + 1; sets = set w.sets w.states t; next = set w.next k w.states }

-- the set t is reached at cell k; j is the place of a state like it. There is no room for a
-- seventeenth state
unfoldable pub arrived : Walk → ℕ → ℕ → Option ℕ → Option Walk
arrived w k t (Some j) = Some (to_state w k j)
arrived w k t None = elim (ltb w.states 16) [ true ↦ Some (to_new w k t) | false ↦ None ]

-- the set t is reached at cell k; a set that meets none of `vs`, the sets of positions from which
-- words lead to the end, is dead and no state
unfoldable pub reached : List ℕ → Walk → ℕ → ℕ → Option Walk
reached vs w k t = elim (same_on vs t 0) [ true ↦ Some w | false ↦ arrived w k t (place_same vs (take w.states w.sets) t) ]

module _ (vs after labels : List ℕ) where
  -- cell k is state k / 8 and label k % 8
  unfoldable pub walk_turn : ℕ → Walk → Option Walk
  walk_turn k w =
      elim (ltb (k / 8) w.states) [ true ↦ reached vs w k (onward after labels (get_or w.sets (k / 8) 0) (k % 8)) | false ↦ Some w ]

  -- the walk over the first cells; none once a seventeenth state is met
  unfoldable pub walk_to : ℕ → ℕ → Option Walk
  walk_to start zero = Some (start_walk start)
  walk_to start (suc k) = elim (walk_to start k) [ None ↦ None | Some w ↦ walk_turn k w ]
