-- What filling the board's block leaves in it, for any graph table: first what the rules' sections
-- give and what the graph's give, by cells, then all of it as it is read. Assumes nothing: these
-- are definitions.
use Rattle.std.specs.Prelude.{ℕ, suc, ◌+◌, ◌≤◌, ◌<◌, ◌≡◌, List, map, length, get_or}
use Rattle.scope_graph.specs.Rows.{preferred_by, next_by}
use Rattle.scope_graph.specs.Order.{end_of}
use Rattle.graph_rows.specs.Format.{label_section, pair_section, transition_section, accept_section, count_section, edge_section, declaration_section}
use Rattle.graph_rows.specs.Admission.{Row, value, blank}
use Rattle.graph_rows.specs.Decode.{order_pair_of, transition_of}
use Rattle.block.specs.Sets.{has_bit, has_state}
use Rattle.block.specs.Layout.{DELTA, BETTER, ACCEPT, SCOPES, USABLE, LETTER, START, DECL, STATES, IsBlock}
use Rattle.block.specs.Block.{next_cell, accept_set, usable_set, letter_cell, scopes_cell, Bounds, turn_cell, turn_of, first_edge, edge_cell, block_hops, first_declaration}
use Rattle.graph_table.specs.Sections.{start_of, part_of, rows_of}
use Rattle.board.specs.Tables.{state_cell, transition_cell, transition_cells, accepted, letter_of, hopeful_set, usable_states}
use Rattle.board.specs.Edges.{placed}
use Rattle.board.specs.Marks.{declared_cell}

-- the rows of a section
abbrev pub section_rows : List ℕ → ℕ → List Row
section_rows cells k = rows_of (part_of k cells)

-- the next states of the file's automaton, as 128 cells
abbrev pub delta_of : List ℕ → List ℕ
delta_of cells = transition_cells (section_rows cells transition_section)

-- where the sections' rows start, and where the last one's end
pub record Starts (cells at : List ℕ) : Type 0 where
  pub size : length at ≡ 10
  pub places : (k : ℕ) → k < 10 → get_or at k 0 ≡ start_of k cells

pub record RulesPut (cells block : List ℕ) : Type 0 where
  pub size : IsBlock block
  pub delta : (i : ℕ) → i < 128 → get_or block (DELTA + i) 0 ≡ transition_cell (section_rows cells transition_section) i
  pub better : (a c : ℕ) → a < 9 → c < 9
      → has_bit (get_or block (BETTER + c) 0) a ≡ preferred_by (map order_pair_of (section_rows cells pair_section)) (end_of a) (end_of c)
  pub accept : (q : ℕ) → q < 16 → has_state (get_or block ACCEPT 0) q ≡ accepted (section_rows cells accept_section) q
  pub scopes : get_or block SCOPES 0 ≡ value (get_or (section_rows cells count_section) 0 blank) 0
  pub usable : (e : ℕ) → e < 9
      → get_or block (USABLE + e) 0
      ≡ usable_states (next_cell (delta_of cells)) (get_or block ACCEPT 0) (hopeful_set (next_cell (delta_of cells)) (get_or block ACCEPT 0)) e
  pub letters : (l : ℕ) → l < 8 → get_or block (LETTER + l) 0 ≡ letter_of (section_rows cells label_section) l
  pub still : (q l : ℕ) → get_or block STATES 0 ≤ q → 16 ≤ next_cell (delta_of cells) q l

-- the rules' cells stay as they were: those before START, and STATES
pub record GraphPut (cells old block : List ℕ) : Type 0 where
  pub size : length block ≡ length old
  pub rules : (j : ℕ) → j < START → get_or block j 0 ≡ get_or old j 0
  pub states : get_or block STATES 0 ≡ get_or old STATES 0
  pub starts : (k : ℕ) → k < 10 → get_or block (START + k) 0 ≡ start_of k cells
  pub edges : (s : ℕ) → s < 64 → block_hops block s ≡ placed (part_of edge_section cells) s
  pub declared : (s : ℕ) → s < 65
      → get_or block (DECL + s) 0 ≡ declared_cell (start_of declaration_section cells) (part_of declaration_section cells) s
  pub turns : (s p : ℕ) → s < 64 → p < first_edge block (suc s) → turn_of (edge_cell block p) ≤ turn_cell block

-- all that is promised of the block
pub record Made (cells block : List ℕ) : Type 0 where
  pub size : IsBlock block
  pub delta : (q l : ℕ) → q < 16 → l < 8
      → next_cell block q l ≡ state_cell (next_by (map transition_of (section_rows cells transition_section)) q l)
  pub better : (a c : ℕ) → a < 9 → c < 9
      → has_bit (get_or block (BETTER + c) 0) a ≡ preferred_by (map order_pair_of (section_rows cells pair_section)) (end_of a) (end_of c)
  pub accept : (q : ℕ) → q < 16 → has_state (accept_set block) q ≡ accepted (section_rows cells accept_section) q
  pub usable : (e : ℕ) → e < 9
      → usable_set block e ≡ usable_states (next_cell block) (accept_set block) (hopeful_set (next_cell block) (accept_set block)) e
  pub letters : (l : ℕ) → l < 8 → letter_cell block l ≡ letter_of (section_rows cells label_section) l
  pub scopes : scopes_cell block ≡ value (get_or (section_rows cells count_section) 0 blank) 0
  pub starts : (k : ℕ) → k < 10 → get_or block (START + k) 0 ≡ start_of k cells
  pub edges : (s : ℕ) → s < 64 → block_hops block s ≡ placed (part_of edge_section cells) s
  pub declared : (s : ℕ) → s < 65
      → first_declaration block s ≡ declared_cell (start_of declaration_section cells) (part_of declaration_section cells) s
  pub bounds : Bounds block
