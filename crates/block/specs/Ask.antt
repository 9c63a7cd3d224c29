-- A query's own block, the ask: its table of places worth entering, how far what is sought lies
-- from each place (a hint), and what the query asks for. Assumes nothing: these are definitions.
use Rattle.std.specs.Prelude.{ℕ, ◌≡◌, List, length, get_or}
use Rattle.scope_graph.specs.Rows.{PackedName}

-- 64 cells of places and 128 of distances stand before these
abbrev pub FROM : ℕ
FROM = 192

abbrev pub KIND : ℕ
KIND = 193

abbrev pub HIGH : ℕ
HIGH = 194

abbrev pub LOW : ℕ
LOW = 195

abbrev pub GOAL : ℕ
GOAL = 196

abbrev pub ASKSIZE : ℕ
ASKSIZE = 197

abbrev pub IsAsk : List ℕ → Type 0
IsAsk ask = length ask ≡ ASKSIZE

-- the query's start, its kind and name, and the scopes that declare the name, as a set
unfoldable pub ask_start : List ℕ → ℕ
ask_start ask = get_or ask FROM 0

unfoldable pub ask_name : List ℕ → PackedName
ask_name ask = record { kind = get_or ask KIND 0; high = get_or ask HIGH 0; low = get_or ask LOW 0 }

unfoldable pub ask_goal : List ℕ → ℕ
ask_goal ask = get_or ask GOAL 0
