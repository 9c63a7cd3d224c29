-- Where each table of the board stands in its block of cells. Those before `HINT` say what the file
-- says; on hints no answer depends, only time. Assumes nothing: these are definitions.
use Rattle.std.specs.Prelude.{ℕ, ◌≡◌, List, length}

-- 128 cells: the next state, by state * 8 + label; 16 for none
abbrev pub DELTA : ℕ
DELTA = 0

-- 9 cells: for each end the ends that are preferred to it, as a set
abbrev pub BETTER : ℕ
BETTER = 128

-- the accepting states, as a set
abbrev pub ACCEPT : ℕ
ACCEPT = 137

-- the number of scopes
abbrev pub SCOPES : ℕ
SCOPES = 138

-- 9 cells: for each end the states in which it is usable, as a set
abbrev pub USABLE : ℕ
USABLE = 139

-- 8 cells: the labels' letters
abbrev pub LETTER : ℕ
LETTER = 148

-- 10 cells: where each section's rows start in the graph table, and where the last one's end
abbrev pub START : ℕ
START = 156

-- 65 cells: the number of each scope's first edge, and the number of edges behind them
abbrev pub FIRST : ℕ
FIRST = 166

-- 512 cells: an edge's turn * 512 + its label * 64 + the scope that it leads to, scope after scope
abbrev pub EDGE : ℕ
EDGE = 231

-- 65 cells: where each scope's declarations start in the graph table, and where the last one's end
abbrev pub DECL : ℕ
DECL = 743

-- one past the last state from which a label leads on
abbrev pub STATES : ℕ
STATES = 808

-- a turn that no edge's is above (02, K12): only time depends on which one
abbrev pub TURN : ℕ
TURN = 809

-- 1,090 cells of hints, from here on
abbrev pub HINT : ℕ
HINT = 810

-- 65 cells: for each scope the number of the first edge that leads to it, and the number of edges
-- behind them
abbrev pub INTO : ℕ
INTO = 810

-- 512 cells with two hints each, so that there are fewer to clear: in the lowest `LEAVING` bits the
-- scope that an edge comes from * 8 + its label, by the scope that it leads to; in those above the
-- states that a label leads to from a set, by label * 64 + quarter * 16 + the set's part in that
-- quarter of the 16 states
abbrev pub BACK : ℕ
BACK = 875

abbrev pub AFTER : ℕ
AFTER = 875

abbrev pub LEAVING : ℕ
LEAVING = 9

-- 512 cells: the states from which a label leads into a set, by the same
abbrev pub BEFORE : ℕ
BEFORE = 1387

-- how many edges there are
abbrev pub EDGES : ℕ
EDGES = 1899

-- all cells
abbrev pub SIZE : ℕ
SIZE = 1900

-- a block of the board's size
abbrev pub IsBlock : List ℕ → Type 0
IsBlock block = length block ≡ SIZE
