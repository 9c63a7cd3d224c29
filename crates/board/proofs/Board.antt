-- The block is the board, the order and the open places of the scope graph (specs/Promises).
-- Assumes nothing.
use Prim.Native.Nat.{ℕ, zero, suc, ◌%◌, ◌^◌, ◌≤◌, ◌<◌}
use mathlib.Core.Path.{◌≡◌, refl, sym, ap, ◌∙◌, fun_ext}
use mathlib.Core.Bool.{Bool, true, false, ◌&&◌, ◌||◌}
use mathlib.Core.Logic.{⊎_elim}
use mathlib.Core.Option.{none}
use mathlib.Core.List.{List, [], ◌∷◌, map}
use native.Mathlib.Omega.{arith}
use lib.Dec.{eqb}
use lib.ListN.{length, get_or-map}
use borrow.Author.Tests.{eqb-true}
use Rattle.scope_graph.specs.Language.{◌∈◌, End, stop, by}
use Rattle.scope_graph.specs.Turns.{Turned, same_turned, label_end, later_step}
use Rattle.scope_graph.specs.Rows.{PackedName, Rules, language, any_of, same_name, preferred_by, next_by}
use Rattle.scope_graph.specs.Order.{end_of}
use Rattle.scope_graph.specs.Graph.{Edge, Query}
use Rattle.scope_graph.specs.Computed.{hops_at, declares_any, usable, open_end}
use Rattle.scope_graph.proofs.Lists.{not_true, and_left, any_of_false, map_intro}
use Rattle.scope_graph.proofs.Rows.{preferred_by_row}
use Rattle.scope_graph.proofs.Turns.{step_above}
use Rattle.scope_graph.proofs.Nodes.{hops_at_elim}
use Rattle.graph_rows.specs.Admission.{Row, value, blank}
use Rattle.graph_rows.specs.Format.{label_section, pair_section, transition_section, accept_section, edge_section, declaration_section}
use Rattle.graph_rows.specs.Decode.{rows_in, letters_of, rules_of, name_at, edge_of, declaration_of, graph_of}
use Rattle.graph_table.specs.Rows.{row_hops}
use Rattle.graph_table.proofs.Promises.{ascending_all}
use Rattle.block.specs.Sets.{has_scope, has_state, places_of}
use Rattle.block.specs.Block.{state_of, next_cell, accept_set, usable_set, pair_flag, block_hops}
use Rattle.block.proofs.SetLaws.{scope_past, scopes_one, state_past}
use Rattle.block.proofs.BlockLaws.{pair_in, pair_no_first, pair_no_second, block_hops_past}
use Rattle.search.specs.Board.{board_of}
use Rattle.search.specs.Tables.{end_number, table_order, table_board}
use Rattle.graph_table.specs.Sections.{part_of, rows_of}
use Rattle.board.specs.Tables.{accepted, letter_of}
use Rattle.graph_table.specs.Values.{packed, row_declared, declares}
use Rattle.board.specs.Marks.{DeclaringIs}
use Rattle.board.specs.Made.{Made}
use Rattle.board.specs.Promises.{Sound, LettersAre, ScopesAre, BoardIs, HopsAre, OrderIs, OpenIs, HopefulIs, OpenLast, OpenPast}
use Rattle.graph_table.proofs.Tests.{below_or}
use Rattle.board.proofs.SectionLaws.{rows_in_part, all_hops_lem}
use Rattle.board.proofs.Hops.{Fits, past_none, all_placed}
use Rattle.board.proofs.States.{next_is, hopeful_is, usable_is, usable_past}

end_number_lem : (a : End ℕ) → end_of (end_number a) ≡ a
unfolding end_of end_number
end_number_lem stop = refl
end_number_lem (by l) = refl

and_flip : (a b : Bool) → (a && b) ≡ (b && a)
and_flip true true = refl
and_flip true false = refl
and_flip false true = refl
and_flip false false = refl

-- some row declares the name, by the rows and by the declarations
any_declares : (r : Rules) (x : PackedName) (s : ℕ) (rows : List Row) → any_of (declares x s) (map row_declared rows) ≡ declares_any (language r) (map (declaration_of r) rows) s x
unfolding any_of declares declares_any declaration_of name_at
any_declares r x s [] = refl
any_declares r x s (row ∷ rows) =
    ap (λ (b : Bool). elim (eqb (row_declared row).at s && same_name (packed (row_declared row).name) x) as (λ _. Bool) [ true ↦ true | false ↦ b ]) (any_declares r x s rows)

module _ (cells : List ℕ) (sound : Sound cells) where
  abbrev rules : Rules
  rules = rules_of cells

  part : (k : ℕ) → rows_of (part_of k cells) ≡ rows_in k cells
  part k = sym (rows_in_part cells sound.ascend k)

  accept_past : (q : ℕ) → 16 ≤ q → any_of (eqb q) rules.accept ≡ false
  accept_past q h = any_of_false (eqb q) rules.accept (λ s m e. let z = eqb-true q s e in let y = sound.accepts s m in omega arith)

  declared_past : (x : PackedName) (s : ℕ) → 64 ≤ s → declares_any (language rules) (graph_of cells).declarations s x ≡ false
  unfolding declares_any
  declared_past x s h =
      any_of_false _ (graph_of cells).declarations
      (λ d m e. let z = eqb-true d.at s (and_left (eqb d.at s) _ e) in let y = sound.declared d m in omega arith)

  -- the scopes that declare the name
  pub goal_eq : (x : PackedName) (goal : ℕ) → DeclaringIs (part_of declaration_section cells) x goal
      → (s : ℕ) → has_scope goal s ≡ declares_any (language rules) (graph_of cells).declarations s x
  unfolding graph_of
  goal_eq x goal is s =
      ⊎_elim
      (λ (h : s < 64). is s h ∙ ap (λ (rows : List Row). any_of (declares x s) (map row_declared rows)) (part declaration_section) ∙ any_declares rules x s (rows_in declaration_section cells))
      (λ (h : 64 ≤ s). scope_past goal s h ∙ sym (declared_past x s h))
      (below_or s 64)

  -- the edge rows fit the block's cells
  edge_fits : (row : Row) → row ∈ rows_of (part_of edge_section cells) → Fits row
  unfolding graph_of edge_of
  edge_fits row m =
      let edge = map_intro (edge_of rules) (rw (part edge_section) at m) in
      record { from = sound.edges_from _ edge; label = sound.edges_label _ edge; to = sound.edges_to _ edge; turn = let here = sound.edges_turn _ edge (value row 3) refl in omega arith }

  edges_few : length (rows_of (part_of edge_section cells)) ≤ 512
  edges_few = rw (part edge_section) sound.edges_few

  rows_eq : (s : ℕ) → row_hops (part_of edge_section cells) s ≡ hops_at (language rules) (graph_of cells).edges s
  unfolding graph_of
  rows_eq s =
      ascending_all (part_of edge_section cells) sound.edges_ascend s
      ∙ all_hops_lem rules (part_of edge_section cells) s
      ∙ ap (λ (rows : List Row). hops_at (language rules) (map (edge_of rules) rows) s) (part edge_section)

  module _ (block : List ℕ) (made : Made cells block) where
    next_eq : (q l : ℕ) → state_of (next_cell block q l) ≡ next_by rules.transitions q l
    unfolding rules_of
    next_eq q l =
        next_is block (rows_in transition_section cells) (rw (part transition_section) at made.delta) sound.states
        (λ t m. let y = sound.labels in let z = sound.listed t m in omega arith) sound.next_states q l

    accept_eq : (q : ℕ) → has_state (accept_set block) q ≡ any_of (eqb q) rules.accept
    unfolding rules_of accepted
    accept_eq q =
        ⊎_elim
        (λ (h : q < 16). made.accept q h ∙ ap (λ (rows : List Row). any_of (eqb q) (map (λ (row : Row). value row 0) rows)) (part accept_section))
        (λ (h : 16 ≤ q). state_past (accept_set block) q h ∙ sym (accept_past q h))
        (below_or q 16)

    here_eq : (x : PackedName) (goal : ℕ) → DeclaringIs (part_of declaration_section cells) x goal → (s q : ℕ)
        → places_of goal (accept_set block) s q ≡ (any_of (eqb q) rules.accept && declares_any (language rules) (graph_of cells).declarations s x)
    unfolding places_of
    here_eq x goal is s q = and_flip (has_scope goal s) (has_state (accept_set block) q) ∙ rw (accept_eq q, goal_eq x goal is s)

    hops_eq : (s : ℕ) → block_hops block s ≡ hops_at (language rules) (graph_of cells).edges s
    hops_eq s =
        ⊎_elim
        (λ (h : s < 64). made.edges s h ∙ all_placed (part_of edge_section cells) s edges_few edge_fits ∙ rows_eq s)
        (λ (h : 64 ≤ s). block_hops_past block s h ∙ sym (past_none s h (part_of edge_section cells) edge_fits) ∙ rows_eq s)
        (below_or s 64)

    order_inside : (a c : End ℕ) → end_number a < 9 → end_number c < 9 → pair_flag block (end_number a) (end_number c) ≡ preferred_by rules.order a c
    unfolding rules_of
    order_inside a c h k = pair_in block (end_number a) (end_number c) h k ∙ made.better (end_number a) (end_number c) h k ∙ rw (part pair_section, end_number_lem a, end_number_lem c)

    labels_eq : (a c : End ℕ) → pair_flag block (end_number a) (end_number c) ≡ preferred_by rules.order a c
    labels_eq a c =
        ⊎_elim
        (λ (h : end_number a < 9). ⊎_elim (λ (k : end_number c < 9). order_inside a c h k)
        (λ (k : 9 ≤ end_number c). pair_no_second block _ _ k
        ∙ sym (not_true _ (λ e. let z = sound.order_more _ (preferred_by_row rules.order a c e) in omega arith)))
        (below_or (end_number c) 9))
        (λ (h : 9 ≤ end_number a). pair_no_first block _ _ h
        ∙ sym (not_true _ (λ e. let z = sound.order_less _ (preferred_by_row rules.order a c e) in omega arith)))
        (below_or (end_number a) 9)

    order_eq : (a c : End Turned) → table_order block a c ≡ (language rules).prefers a c
    unfolding table_order
    order_eq a c = ap (λ (b : Bool). b || later_step a c) (labels_eq (label_end a) (label_end c))

    open_eq : (query : Query (language rules)) (at end : ℕ) → at < 64 → end < 9 → (s q : ℕ) → places_of (2 ^ at) (usable_set block end) s q
        ≡ (eqb s at && usable (language rules) q (open_end (language rules) (graph_of cells) query (end_of end)))
    unfolding places_of
    open_eq query at end h k s q =
        ap (λ b. b && has_state (usable_set block end) q) (scopes_one at s h)
        ∙ ap (λ b. eqb s at && b)
        (ap (λ set. has_state set q) (made.usable end k)
        ∙ usable_is rules (next_cell block) (accept_set block) next_eq accept_eq sound.labels sound.states sound.listed sound.next_states (graph_of cells) query q end)

pub board_is : BoardIs
unfolding table_board board_of
board_is cells block sound made x goal is = λ i. record {
  hops = fun_ext (hops_eq cells sound block made) i;
  next = fun_ext (λ q. fun_ext (λ (t : Turned). next_eq cells sound block made q t.label)) i;
  here = fun_ext (λ s. fun_ext (λ q. here_eq cells sound block made x goal is s q)) i;
  same = same_turned;
}

pub hops_are : HopsAre
hops_are cells block sound made s = hops_eq cells sound block made s

pub order_is : OrderIs
order_is cells block sound made = fun_ext (λ a. fun_ext (λ c. order_eq cells sound block made a c))

pub open_is : OpenIs
open_is cells block sound made query at end h k = fun_ext (λ s. fun_ext (λ q. open_eq cells sound block made query at end h k s q))

pub hopeful_are : HopefulIs
hopeful_are cells block sound made =
    hopeful_is (rules_of cells) (next_cell block) (accept_set block) (next_eq cells sound block made) (accept_eq cells sound block made)
    sound.labels sound.states sound.listed sound.next_states

pub open_last : OpenLast
unfolding open_end end_of later_step
open_last cells block sound made query zero s h m = refl
open_last cells block sound made query (suc l) s h m =
    let edge = hops_at_elim (language (rules_of cells)) (graph_of cells).edges s (rw (hops_eq cells sound block made s) at m) in
    let step : Edge (language (rules_of cells)) → Turned = λ e. e.step in
    not_true _ (step_above (map step (graph_of cells).edges) (record { label = l; turn = none }) h.step (map_intro step edge))

pub open_past : OpenPast
open_past cells sound query st end h = usable_past (rules_of cells) sound.labels sound.listed (graph_of cells) query st end h

pub letters_are : LettersAre
unfolding letter_of letters_of
letters_are cells block sound made l h =
    made.letters l h
    ∙ rw (part cells sound label_section) (ap (λ v. v % 256) (sym (get_or-map (λ (row : Row). value row 0) (rows_in label_section cells) l blank)))

pub scopes_are : ScopesAre
scopes_are cells block made = made.scopes
