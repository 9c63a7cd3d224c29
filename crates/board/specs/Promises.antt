-- The block is the rules' own: the board and the order that the search reads off the block of an
-- accepted table are those of its scope graph (document 01, "Paths" and "The listing"). These are
-- the statements; their proofs are in proofs/. Assumes nothing: these are definitions.
use Rattle.std.specs.Prelude.{ℕ, ◌%◌, ◌^◌, ◌≤◌, ◌<◌, ◌≡◌, false, ◌&&◌, List, eqb, length, get_or, drop}
use Rattle.std.proofs.Math.Option.{some}
use Rattle.scope_graph.specs.Language.{◌∈◌, by}
use Rattle.scope_graph.specs.Path.{HopOf}
use Rattle.scope_graph.specs.Turns.{Turned, later_step}
use Rattle.scope_graph.specs.Rows.{OrderPair, Transition, PackedName, language}
use Rattle.scope_graph.specs.Order.{end_of}
use Rattle.scope_graph.specs.Graph.{Edge, Declaration, Query}
use Rattle.scope_graph.specs.Computed.{hops_at, leads_on, usable, open_end}
use Rattle.graph_rows.specs.Format.{turn_count, count_section, edge_section, declaration_section}
use Rattle.graph_rows.specs.Admission.{value, blank}
use Rattle.text_field.specs.Outcome.{done}
use Rattle.graph_file.specs.File.{read_cells, write_text}
use Rattle.graph_rows.specs.Decode.{rows_in, letters_of, rules_of, graph_of}
use Rattle.graph_table.specs.Rows.{row_hops, all_hops, RowsAscend}
use Rattle.block.specs.Sets.{has_state, places_of}
use Rattle.block.specs.Block.{letter_cell, scopes_cell, next_cell, accept_set, usable_set, block_hops, declared_part}
use Rattle.search.specs.Board.{board_of}
use Rattle.search.specs.Tables.{end_number, table_board, table_order}
use Rattle.graph_table.specs.Sections.{SectionsAscend, part_of, rows_of}
use Rattle.board.specs.Tables.{hopeful_set}
use Rattle.board.specs.Marks.{marks_in, DeclaringIs}
use Rattle.board.specs.Made.{Made}

-- what an accepted table gives: the sections, and in theirs the edges and the declarations by
-- scope, stand in sequence, and values are in their ranges (01, refusals 2 to 5; the turn, 02, K12)
pub record Sound (cells : List ℕ) : Type 0 where
  pub ascend : SectionsAscend 0 (drop 1 cells)
  pub edges_ascend : RowsAscend 0 (part_of edge_section cells)
  pub declarations_ascend : RowsAscend 0 (part_of declaration_section cells)
  pub edges_few : length (rows_in edge_section cells) ≤ 512
  pub edges_from : (e : Edge (language (rules_of cells))) → e ∈ (graph_of cells).edges → e.from < 64
  pub edges_label : (e : Edge (language (rules_of cells))) → e ∈ (graph_of cells).edges → e.step.label < 8
  pub edges_turn : (e : Edge (language (rules_of cells))) → e ∈ (graph_of cells).edges
      → (n : ℕ) → e.step.turn ≡ some n → n < turn_count
  pub edges_to : (e : Edge (language (rules_of cells))) → e ∈ (graph_of cells).edges → e.to < 64
  pub labels : (rules_of cells).labels ≤ 8
  pub states : (t : Transition) → t ∈ (rules_of cells).transitions → t.state < 16
  pub listed : (t : Transition) → t ∈ (rules_of cells).transitions → t.label < (rules_of cells).labels
  pub next_states : (t : Transition) → t ∈ (rules_of cells).transitions → t.next < 16
  pub accepts : (q : ℕ) → q ∈ (rules_of cells).accept → q < 16
  pub order_less : (p : OrderPair) → p ∈ (rules_of cells).order → end_number p.less < 9
  pub order_more : (p : OrderPair) → p ∈ (rules_of cells).order → end_number p.more < 9
  pub declared : (d : Declaration (language (rules_of cells))) → d ∈ (graph_of cells).declarations → d.at < 64

-- where the section numbers ascend, a section's rows are the rows of its part
abbrev pub PartIs : Type 0
PartIs = (cells : List ℕ) → SectionsAscend 0 (drop 1 cells) → (k : ℕ) → rows_in k cells ≡ rows_of (part_of k cells)

-- the letters
abbrev pub LettersAre : Type 0
LettersAre = (cells block : List ℕ) → Sound cells → Made cells block → (l : ℕ) → l < 8
    → letter_cell block l ≡ get_or (letters_of cells) l 0 % 256

-- the number of scopes
abbrev pub ScopesAre : Type 0
ScopesAre = (cells block : List ℕ) → Made cells block
    → scopes_cell block ≡ value (get_or (rows_of (part_of count_section cells)) 0 blank) 0

-- the board that the search looks at is that of the graph and the name, for the set of the scopes
-- that declare it
abbrev pub BoardIs : Type 0
BoardIs = (cells block : List ℕ) → Sound cells → Made cells block → (x : PackedName) (goal : ℕ)
    → DeclaringIs (part_of declaration_section cells) x goal
    → table_board block goal ≡ board_of (language (rules_of cells)) (graph_of cells) x

-- of which the hops alone: those of the edges that leave the scope, in row sequence
abbrev pub HopsAre : Type 0
HopsAre = (cells block : List ℕ) → Sound cells → Made cells block → (s : ℕ)
    → block_hops block s ≡ hops_at (language (rules_of cells)) (graph_of cells).edges s

-- the order is that of the order pairs, and at one label that of the turns (02, K12)
abbrev pub OrderIs : Type 0
OrderIs = (cells block : List ℕ) → Sound cells → Made cells block → table_order block ≡ (language (rules_of cells)).prefers

-- what is sought for an open pair is its scope, in a state where its end is usable
abbrev pub OpenIs : Type 0
OpenIs = (cells block : List ℕ) → Sound cells → Made cells block → (q : Query (language (rules_of cells))) (at end : ℕ) → at < 64 → end < 9
    → places_of (2 ^ at) (usable_set block end)
    ≡ (λ s st. eqb s at && usable (language (rules_of cells)) st (open_end (language (rules_of cells)) (graph_of cells) q (end_of end)))

-- the states from which transitions alone lead to an accepting one are the rules' (02, K11)
abbrev pub HopefulIs : Type 0
HopefulIs = (cells block : List ℕ) → Sound cells → Made cells block → (q : ℕ)
    → has_state (hopeful_set (next_cell block) (accept_set block)) q ≡ leads_on (language (rules_of cells)) 16 q

-- no hop of the board is later than the end that stands for all that may come at an open pair (02,
-- K12: the new edge's turn may be above all others)
abbrev pub OpenLast : Type 0
OpenLast = (cells block : List ℕ) → Sound cells → Made cells block → (q : Query (language (rules_of cells))) (end s : ℕ) (h : HopOf Turned)
    → h ∈ block_hops block s
    → later_step (by h.step) (open_end (language (rules_of cells)) (graph_of cells) q (end_of end)) ≡ false

-- an end past the table is usable in no state
abbrev pub OpenPast : Type 0
OpenPast = (cells : List ℕ) → Sound cells → (q : Query (language (rules_of cells))) (st end : ℕ) → 9 ≤ end
    → usable (language (rules_of cells)) st (open_end (language (rules_of cells)) (graph_of cells) q (end_of end)) ≡ false

-- the declarations of a scope are those of its part of the table
abbrev pub DeclaredIs : Type 0
DeclaredIs = (cells block : List ℕ) → Sound cells → Made cells block → (s : ℕ) (x : PackedName) → s < 64
    → marks_in (declared_part block cells s) s x ≡ marks_in (part_of declaration_section cells) s x

-- what a text is read as, and what a text is written of, is sound
abbrev pub ReadSound : Type 0
ReadSound = (text cells : List ℕ) → read_cells text ≡ done cells → Sound cells

abbrev pub WrittenSound : Type 0
WrittenSound = (cells text : List ℕ) → write_text cells ≡ done text → Sound cells

-- the edge rows of what a text is read as stand by ascending scope (01, "The gym file": edges are
-- sorted by `from` first)
abbrev pub EdgesAscend : Type 0
EdgesAscend = (text cells : List ℕ) → read_cells text ≡ done cells → RowsAscend 0 (part_of edge_section cells)

-- so the rows found for a scope are all its rows: that the look ends at the first row of a later
-- scope changes no answer for an accepted file (02, K4)
abbrev pub EdgesFound : Type 0
EdgesFound = (text cells : List ℕ) → read_cells text ≡ done cells → (s : ℕ)
    → row_hops (part_of edge_section cells) s ≡ all_hops (part_of edge_section cells) s
