-- Sets of small numbers, each the bits of one number: scopes are below 64, states below 16, ends
-- below 9, labels below 8. Assumes nothing: these are definitions.
use Rattle.std.specs.Prelude.{ℕ, ◌/◌, ◌%◌, ◌^◌, Bool, true, false, ◌&&◌, eqb, ltb}

-- is the bit set?
unfoldable pub has_bit : ℕ → ℕ → Bool
has_bit set i = eqb (set / 2 ^ i % 2) 1

-- is the scope in the set of scopes?
unfoldable pub has_scope : ℕ → ℕ → Bool
has_scope set s = elim (ltb s 64) [ true ↦ has_bit set s | false ↦ false ]

-- is the state in the set of states?
unfoldable pub has_state : ℕ → ℕ → Bool
has_state set q = elim (ltb q 16) [ true ↦ has_bit set q | false ↦ false ]

-- is the label in the set of labels?
unfoldable pub has_label : ℕ → ℕ → Bool
has_label set l = elim (ltb l 8) [ true ↦ has_bit set l | false ↦ false ]

-- all eight labels, as a set
abbrev pub ALL_LABELS : ℕ
ALL_LABELS = 255

-- is the place of a scope and a state one of those of a set of scopes and a set of states?
unfoldable pub places_of : ℕ → ℕ → ℕ → ℕ → Bool
places_of scopes states s q = has_scope scopes s && has_state states q
