-- The block as it is filled, table after table: each table's cells are written once, and what is
-- written later stands elsewhere. Assumes nothing.
use Prim.Native.Nat.{ℕ, suc, ◌+◌, ◌*◌, ◌/◌, ◌%◌, ◌≤◌, ◌<◌}
use mathlib.Core.Path.{◌≡◌, sym, ap, subst, ◌∙◌, fun_ext}
use mathlib.Core.List.{List, map}
use mathlib.Core.Logic.{⊎_elim}
use native.Mathlib.Omega.{arith}
use lib.ListN.{length, get_or, set, length-set}
use lib.Seq.{get_or-set_same, get_or-set_other}
use Rattle.scope_graph.specs.Rows.{next_by}
use Rattle.graph_rows.specs.Format.{label_section, transition_section, accept_section, count_section, pair_section, edge_section, declaration_section}
use Rattle.graph_rows.specs.Admission.{value, blank}
use Rattle.graph_rows.specs.Decode.{transition_of}
use Rattle.block.specs.Sets.{has_bit, has_state}
use Rattle.block.specs.Layout.{DELTA, BETTER, ACCEPT, SCOPES, USABLE, LETTER, START, FIRST, EDGE, DECL, STATES, TURN, SIZE}
use Rattle.block.specs.Block.{next_cell, states_cell, turn_cell, turn_of, accept_set, usable_set, letter_cell, scopes_cell, first_edge, edge_cell, block_hops, first_declaration}
use Rattle.block.proofs.BlockLaws.{get_d_any, next_in_lem, next_no_state, next_no_label, block_hops_in}
use Rattle.graph_table.specs.Sections.{start_of, part_of}
use Rattle.board.specs.Tables.{tabulate, state_cell, transition_cell, transition_cells, accepted, letter_of, BetterIs, hopeful_set, usable_states}
use Rattle.board.specs.Cells.{puts, HintsOnly}
use Rattle.board.specs.Edges.{EdgesPut}
use Rattle.board.specs.Marks.{declared_cell}
use Rattle.board.specs.Made.{section_rows, delta_of, Starts, RulesPut, GraphPut, Made}
use Rattle.graph_table.proofs.Tests.{below_or}
use Rattle.board.proofs.Fill.{tabulate_length, tabulate_at}
use Rattle.board.proofs.StateCells.{next_at_lem}
use Rattle.board.proofs.CellLaws.{puts_size, puts_before, puts_behind, puts_at}
use Rattle.board.proofs.EdgeLaws.{scope_hops, scope_kept}

-- a block whose first cells are the automaton's next states is read as they are
module _ (cells block : List ℕ) (size : length block ≡ SIZE)
    (delta : (i : ℕ) → i < 128 → get_or block (DELTA + i) 0 ≡ transition_cell (section_rows cells transition_section) i) where
  delta_cell : (q l : ℕ) → q < 16 → l < 8 → next_cell block q l ≡ next_cell (delta_of cells) q l
  unfolding transition_cells
  delta_cell q l h k =
      let y = tabulate_length (transition_cell (section_rows cells transition_section)) 128 in
      next_in_lem block q l h k ∙ get_d_any block (DELTA + (q * 8 + l)) 16 0 (omega arith) ∙ delta (q * 8 + l) (omega arith)
      ∙ sym (sym (next_at_lem (delta_of cells) q l y h k) ∙ tabulate_at (transition_cell (section_rows cells transition_section)) 128 (q * 8 + l) 0 (omega arith))

  delta_same : (q l : ℕ) → next_cell block q l ≡ next_cell (delta_of cells) q l
  delta_same q l =
      ⊎_elim
      (λ (h : q < 16). ⊎_elim (λ (k : l < 8). delta_cell q l h k)
      (λ (k : 8 ≤ l). next_no_label block q l k ∙ sym (next_no_label (delta_of cells) q l k))
      (below_or l 8))
      (λ (h : 16 ≤ q). next_no_state block q l h ∙ sym (next_no_state (delta_of cells) q l h))
      (below_or q 16)

  delta_are : next_cell block ≡ next_cell (delta_of cells)
  delta_are = fun_ext (λ q. fun_ext (λ l. delta_same q l))

-- the states in which an end is usable, for a file's automaton
abbrev usables : List ℕ → ℕ → ℕ → ℕ
usables cells accept = usable_states (next_cell (delta_of cells)) accept (hopeful_set (next_cell (delta_of cells)) accept)

-- the same as a block's own cells say
abbrev own_usables : List ℕ → ℕ → ℕ
own_usables block = usable_states (next_cell block) (accept_set block) (hopeful_set (next_cell block) (accept_set block))

-- the rules' tables, in the sequence in which they are put
module _ (cells old better : List ℕ) (accept scopes : ℕ) (size : length old ≡ SIZE) (better_is : BetterIs (section_rows cells pair_section) better) where
  usable : List ℕ
  usable = tabulate (usables cells accept) 9

  letters : List ℕ
  letters = tabulate (letter_of (section_rows cells label_section)) 8

  b1 : List ℕ
  b1 = puts old DELTA (delta_of cells)

  b2 : List ℕ
  b2 = puts b1 BETTER better

  b3 : List ℕ
  b3 = set b2 ACCEPT accept

  b4 : List ℕ
  b4 = set b3 SCOPES scopes

  b5 : List ℕ
  b5 = puts b4 USABLE usable

  b6 : List ℕ
  b6 = puts b5 LETTER letters

  delta_size : length (delta_of cells) ≡ 128
  unfolding transition_cells
  delta_size = tabulate_length (transition_cell (section_rows cells transition_section)) 128

  usable_size : length usable ≡ 9
  unfolding usable
  usable_size = tabulate_length (usables cells accept) 9

  letters_size : length letters ≡ 8
  unfolding letters
  letters_size = tabulate_length (letter_of (section_rows cells label_section)) 8

  s1 : length b1 ≡ SIZE
  unfolding b1
  s1 = puts_size (delta_of cells) old DELTA ∙ size

  s2 : length b2 ≡ SIZE
  unfolding b2
  s2 = puts_size better b1 BETTER ∙ s1

  s3 : length b3 ≡ SIZE
  unfolding b3
  s3 = length-set b2 ACCEPT accept ∙ s2

  s4 : length b4 ≡ SIZE
  unfolding b4
  s4 = length-set b3 SCOPES scopes ∙ s3

  s5 : length b5 ≡ SIZE
  unfolding b5
  s5 = puts_size usable b4 USABLE ∙ s4

  s6 : length b6 ≡ SIZE
  unfolding b6
  s6 = puts_size letters b5 LETTER ∙ s5

  -- what stands before a table when it is put stays
  k5 : (j : ℕ) → j < LETTER → get_or b6 j 0 ≡ get_or b5 j 0
  unfolding b6
  k5 j h = puts_before letters b5 LETTER j h

  k4 : (j : ℕ) → j < USABLE → get_or b6 j 0 ≡ get_or b4 j 0
  unfolding b5
  k4 j h = k5 j (omega arith) ∙ puts_before usable b4 USABLE j h

  k3 : (j : ℕ) → j < SCOPES → get_or b6 j 0 ≡ get_or b3 j 0
  unfolding b4
  k3 j h = k4 j (omega arith) ∙ get_or-set_other b3 SCOPES j scopes 0 (λ e. omega arith)

  k2 : (j : ℕ) → j < ACCEPT → get_or b6 j 0 ≡ get_or b2 j 0
  unfolding b3
  k2 j h = k3 j (omega arith) ∙ get_or-set_other b2 ACCEPT j accept 0 (λ e. omega arith)

  k1 : (j : ℕ) → j < BETTER → get_or b6 j 0 ≡ get_or b1 j 0
  unfolding b2
  k1 j h = k2 j (omega arith) ∙ puts_before better b1 BETTER j h

  delta_at : (i : ℕ) → i < 128 → get_or b6 (DELTA + i) 0 ≡ transition_cell (section_rows cells transition_section) i
  unfolding b1 transition_cells
  delta_at i h =
      let z = delta_size in
      k1 (DELTA + i) (omega arith) ∙ puts_at (delta_of cells) old DELTA i (omega arith) (omega arith)
      ∙ tabulate_at (transition_cell (section_rows cells transition_section)) 128 i 0 h

  accept_at_lem : get_or b6 ACCEPT 0 ≡ accept
  unfolding b3
  accept_at_lem = let z = s2 in k3 ACCEPT (omega arith) ∙ get_or-set_same b2 ACCEPT accept 0 (omega arith)

  -- so the ends' states are read off the block as soon as the automaton is put
  usable_own : own_usables b4 ≡ usables cells accept
  unfolding accept_set
  usable_own =
      let next = delta_are cells b4 s4 (λ i h. sym (k4 (DELTA + i) (omega arith)) ∙ delta_at i h) in
      let accepts : get_or b4 ACCEPT 0 ≡ accept = sym (k4 ACCEPT (omega arith)) ∙ accept_at_lem in
      ap (λ (f : ℕ → ℕ → ℕ). usable_states f (get_or b4 ACCEPT 0) (hopeful_set f (get_or b4 ACCEPT 0))) next ∙ ap (usables cells) accepts

  module _ (states : ℕ)
      (accept_is : (q : ℕ) → q < 16 → has_state accept q ≡ accepted (section_rows cells accept_section) q)
      (scopes-is : scopes ≡ value (get_or (section_rows cells count_section) 0 blank) 0)
      (states-is : (q l : ℕ) → states ≤ q → 16 ≤ next_cell b6 q l) where
    b7 : List ℕ
    b7 = set b6 STATES states

    k6 : (j : ℕ) → j < STATES → get_or b7 j 0 ≡ get_or b6 j 0
    unfolding b7
    k6 j h = get_or-set_other b6 STATES j states 0 (λ e. omega arith)

    accept_last : get_or b7 ACCEPT 0 ≡ accept
    accept_last = k6 ACCEPT (omega arith) ∙ accept_at_lem

    put : RulesPut cells b7
    unfolding b2 b4 b5 b6 b7 usable letters
    put = record {
      size = length-set b6 STATES states ∙ s6;
      delta = λ i h. k6 (DELTA + i) (omega arith) ∙ delta_at i h;
      better = λ a c h k.
          let z = s1 in let y = better_is.size in
          ap (λ (x : ℕ). has_bit x a) (k6 (BETTER + c) (omega arith) ∙ k2 (BETTER + c) (omega arith) ∙ puts_at better b1 BETTER c (omega arith) (omega arith)) ∙ better_is.each a c h k;
      accept = λ q h. ap (λ (x : ℕ). has_state x q) accept_last ∙ accept_is q h;
      scopes = let z = s3 in k6 SCOPES (omega arith) ∙ k4 SCOPES (omega arith) ∙ get_or-set_same b3 SCOPES scopes 0 (omega arith) ∙ scopes-is;
      usable = λ e h.
          let z = s4 in let y = usable_size in
          k6 (USABLE + e) (omega arith) ∙ k5 (USABLE + e) (omega arith) ∙ puts_at usable b4 USABLE e (omega arith) (omega arith) ∙ tabulate_at (usables cells accept) 9 e 0 h
          ∙ ap (λ (x : ℕ). usables cells x e) (sym accept_last);
      letters = λ l h.
          let z = s5 in let y = letters_size in
          k6 (LETTER + l) (omega arith) ∙ puts_at letters b5 LETTER l (omega arith) (omega arith) ∙ tabulate_at (letter_of (section_rows cells label_section)) 8 l 0 h;
      still = λ q l h.
          let z = s6 in
          let e = get_or-set_same b6 STATES states 0 (omega arith) in
          let same = delta_same cells b6 s6 delta_at q l in
          let far = states-is q l (omega arith) in
          omega arith;
    }

  -- the same, from what each step leaves
  pub rules_put : (states : ℕ) (delta usable' letters' c1 c2 c5 c6 : List ℕ) → delta ≡ delta_of cells
      → c1 ≡ puts old DELTA delta → c2 ≡ puts c1 BETTER better
      → usable' ≡ tabulate (own_usables (set (set c2 ACCEPT accept) SCOPES scopes)) 9
      → c5 ≡ puts (set (set c2 ACCEPT accept) SCOPES scopes) USABLE usable'
      → letters' ≡ tabulate (letter_of (section_rows cells label_section)) 8
      → c6 ≡ puts c5 LETTER letters'
      → ((q : ℕ) → q < 16 → has_state accept q ≡ accepted (section_rows cells accept_section) q)
      → scopes ≡ value (get_or (section_rows cells count_section) 0 blank) 0
      → ((q l : ℕ) → states ≤ q → 16 ≤ next_cell c6 q l)
      → RulesPut cells (set c6 STATES states)
  unfolding b1 b2 b3 b4 b5 b6 b7 usable letters
  rules_put states delta usable' letters' c1 c2 c5 c6 d e1 e2 u e5 l e6 accept_is scopes-is states-is =
      let p1 : c1 ≡ b1 = e1 ∙ ap (λ (x : List ℕ). puts old DELTA x) d in
      let p2 : c2 ≡ b2 = e2 ∙ ap (λ (x : List ℕ). puts x BETTER better) p1 in
      let p4 : set (set c2 ACCEPT accept) SCOPES scopes ≡ b4 = ap (λ (x : List ℕ). set (set x ACCEPT accept) SCOPES scopes) p2 in
      let us : usable' ≡ usable = u ∙ ap (λ (x : List ℕ). tabulate (own_usables x) 9) p4 ∙ ap (λ (f : ℕ → ℕ). tabulate f 9) usable_own in
      let p5 : c5 ≡ b5 = e5 ∙ ap (λ (x : List ℕ). puts x USABLE usable') p4 ∙ ap (λ (x : List ℕ). puts b4 USABLE x) us in
      let p6 : c6 ≡ b6 = e6 ∙ ap (λ (x : List ℕ). puts x LETTER letters') p5 ∙ ap (λ (x : List ℕ). puts b5 LETTER x) l in
      subst (λ (x : List ℕ). RulesPut cells (set x STATES states)) (sym p6)
      (put states accept_is scopes-is (subst (λ (x : List ℕ). (q l : ℕ) → states ≤ q → 16 ≤ next_cell x q l) p6 states-is))

-- edges are read before DECL
hops_same : (old new : List ℕ) → ((j : ℕ) → j < DECL → get_or new j 0 ≡ get_or old j 0) → (s : ℕ) → s < 64 → block_hops new s ≡ block_hops old s
unfolding scope_hops first_edge edge_cell
hops_same old new same s h =
    block_hops_in new s h
    ∙ scope_kept old new s (same (FIRST + s) (omega arith)) (same (FIRST + suc s) (omega arith)) (λ j k. same (EDGE + j % 512) (omega arith))
    ∙ sym (block_hops_in old s h)

-- and so is what bounds their turns
turns_same : (old new : List ℕ) (turn : ℕ) → ((j : ℕ) → j < DECL → get_or new j 0 ≡ get_or old j 0)
    → ((s p : ℕ) → s < 64 → p < first_edge old (suc s) → turn_of (edge_cell old p) ≤ turn)
    → (s p : ℕ) → s < 64 → p < first_edge new (suc s) → turn_of (edge_cell new p) ≤ turn
unfolding first_edge edge_cell
turns_same old new turn same most s p h k =
    rw (same (EDGE + p % 512) (omega arith)) (most s p h (rw (same (FIRST + suc s) (omega arith)) at k))

-- the graph's tables
pub graph_put : (cells old c1 c2 at declared : List ℕ) (turn : ℕ) → length old ≡ SIZE → Starts cells at → c1 ≡ puts old START at
    → EdgesPut (part_of edge_section cells) c1 c2 turn
    → declared ≡ tabulate (declared_cell (start_of declaration_section cells) (part_of declaration_section cells)) 65
    → GraphPut cells old (set (puts c2 DECL declared) TURN turn)
unfolding turn_cell
graph_put cells old c1 c2 at declared turn size at_is e1 edges declared-are =
    let at_size : length at ≡ 10 = at_is.size in
    let declared-size : length declared ≡ 65 =
    ap length declared-are ∙ tabulate_length (declared_cell (start_of declaration_section cells) (part_of declaration_section cells)) 65 in
    let z1 : length c1 ≡ SIZE = ap length e1 ∙ puts_size at old START ∙ size in
    let z2 : length c2 ≡ SIZE = edges.only.size ∙ z1 in
    let c3 : List ℕ = puts c2 DECL declared in
    let z3 : length c3 ≡ SIZE = puts_size declared c2 DECL ∙ z2 in
    let last : (j : ℕ) → j < TURN → get_or (set c3 TURN turn) j 0 ≡ get_or c3 j 0 = λ j h. get_or-set_other c3 TURN j turn 0 (λ e. omega arith) in
    let front : (j : ℕ) → j < DECL → get_or (set c3 TURN turn) j 0 ≡ get_or c2 j 0 = λ j h. last j (omega arith) ∙ puts_before declared c2 DECL j h in
    record {
      size = length-set c3 TURN turn ∙ z3 ∙ sym size;
      rules = λ j h.
          front j (omega arith) ∙ edges.only.before j (omega arith)
          ∙ ap (λ (x : List ℕ). get_or x j 0) e1 ∙ puts_before at old START j h;
      states =
          last STATES (omega arith) ∙ puts_behind declared c2 DECL STATES (omega arith) ∙ edges.only.behind STATES (omega arith)
          ∙ ap (λ (x : List ℕ). get_or x STATES 0) e1 ∙ puts_behind at old START STATES (omega arith);
      starts = λ k h.
          front (START + k) (omega arith) ∙ edges.only.before (START + k) (omega arith)
          ∙ ap (λ (x : List ℕ). get_or x (START + k) 0) e1 ∙ puts_at at old START k (omega arith) (omega arith)
          ∙ at_is.places k h;
      edges = λ s h. hops_same c2 (set c3 TURN turn) front s h ∙ edges.hops s h;
      declared = λ s h.
          last (DECL + s) (omega arith) ∙ puts_at declared c2 DECL s (omega arith) (omega arith) ∙ ap (λ (x : List ℕ). get_or x s 0) declared-are
          ∙ tabulate_at (declared_cell (start_of declaration_section cells) (part_of declaration_section cells)) 65 s 0 h;
      turns = λ s p h k.
          let bound = get_or-set_same c3 TURN turn 0 (omega arith) in
          let most = turns_same c2 (set c3 TURN turn) turn front edges.turns s p h k in
          omega arith;
    }

-- the table of the places is that
pub starts_are : (cells at : List ℕ) → at ≡ tabulate (λ k. start_of k cells) 10 → Starts cells at
starts_are cells at e = record {
  size = ap length e ∙ tabulate_length (λ k. start_of k cells) 10;
  places = λ k h. ap (λ (x : List ℕ). get_or x k 0) e ∙ tabulate_at (λ k. start_of k cells) 10 k 0 h;
}

-- all of it, read through the graph's tables and the hints
module _ (cells a b d : List ℕ) (rules : RulesPut cells a) (graph : GraphPut cells a b) (hints : HintsOnly b d) where
  whole : length d ≡ SIZE
  whole = hints.size ∙ graph.size ∙ rules.size

  kept : (j : ℕ) → j < START → get_or d j 0 ≡ get_or a j 0
  kept j h = hints.before j (omega arith) ∙ graph.rules j h

  states_kept : get_or d STATES 0 ≡ get_or a STATES 0
  states_kept = hints.before STATES (omega arith) ∙ graph.states

  rows_delta : (q l : ℕ) → q < 16 → l < 8 → next_cell (delta_of cells) q l ≡ state_cell (next_by (map transition_of (section_rows cells transition_section)) q l)
  unfolding transition_cells transition_cell
  rows_delta q l h k =
      let e : (q * 8 + l) / 8 ≡ q = omega arith in
      let m : (q * 8 + l) % 8 ≡ l = omega arith in
      let z = tabulate_length (transition_cell (section_rows cells transition_section)) 128 in
      sym (next_at_lem (delta_of cells) q l z h k) ∙ tabulate_at (transition_cell (section_rows cells transition_section)) 128 (q * 8 + l) 0 (omega arith) ∙ rw (e, m)

  delta_kept : (i : ℕ) → i < 128 → get_or d (DELTA + i) 0 ≡ transition_cell (section_rows cells transition_section) i
  delta_kept i h = kept (DELTA + i) (omega arith) ∙ rules.delta i h

  pub made : Made cells d
  unfolding accept_set usable_set letter_cell scopes_cell states_cell turn_cell first_declaration
  made = record {
    size = whole;
    delta = λ q l h k. delta_cell cells d whole delta_kept q l h k ∙ rows_delta q l h k;
    better = λ a' c h k. ap (λ (x : ℕ). has_bit x a') (kept (BETTER + c) (omega arith)) ∙ rules.better a' c h k;
    accept = λ q h. ap (λ (x : ℕ). has_state x q) (kept ACCEPT (omega arith)) ∙ rules.accept q h;
    usable = λ e h.
        kept (USABLE + e) (omega arith) ∙ rules.usable e h
        ∙ ap (λ (x : ℕ). usable_states (next_cell (delta_of cells)) x (hopeful_set (next_cell (delta_of cells)) x) e) (sym (kept ACCEPT (omega arith)))
        ∙ ap (λ (f : ℕ → ℕ → ℕ). usable_states f (get_or d ACCEPT 0) (hopeful_set f (get_or d ACCEPT 0)) e) (sym (delta_are cells d whole delta_kept));
    letters = λ l h. kept (LETTER + l) (omega arith) ∙ rules.letters l h;
    scopes = kept SCOPES (omega arith) ∙ rules.scopes;
    starts = λ k h. hints.before (START + k) (omega arith) ∙ graph.starts k h;
    edges = λ s h. hops_same b d (λ j k. hints.before j (omega arith)) s h ∙ graph.edges s h;
    declared = λ s h. hints.before (DECL + s) (omega arith) ∙ graph.declared s h;
    bounds = record {
      states = λ q l h. let e = states_kept in let z = delta_same cells d whole delta_kept q l in let y = rules.still q l (omega arith) in omega arith;
      turns = λ s p h k.
          let bound = hints.before TURN (omega arith) in
          let most = turns_same b d (get_or b TURN 0) (λ j i. hints.before j (omega arith)) graph.turns s p h k in
          omega arith;
    };
  }
