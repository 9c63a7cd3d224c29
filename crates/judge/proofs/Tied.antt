-- What the board says of a path row is what the rules say: its standing for a query of a table that
-- was read. Assumes nothing.
use mathlib.Core.Path.{◌≡◌, refl, sym, ap, ◌∙◌, fun_ext, subst}
use mathlib.Core.Bool.{Bool, true, false, ◌&&◌}
use mathlib.Core.Option.{Option, some}
use mathlib.Core.List.{List, [], ◌∷◌, map}
use Prim.Native.Nat.{ℕ, ◌<◌}
use native.Mathlib.Omega.{arith}
use borrow.Author.Tests.{eq-eqb, ne_eqb, lt-ltb}
use lib.Dec.{eqb, ltb}
use lib.ListN.{get_or}
use Rattle.scope_graph.specs.Language.{stop, Language, Laws}
use Rattle.scope_graph.specs.Graph.{Declaration, Graph, InRange, Query}
use Rattle.scope_graph.specs.Path.{HopOf, last_from}
use Rattle.scope_graph.specs.Turns.{Turned}
use Rattle.scope_graph.specs.Path.{PathRow as RulesRow}
use Rattle.scope_graph.specs.Rows.{PackedName, Rules, any_of, same_name, language}
use Rattle.scope_graph.specs.Computed.{Standing, is_visible, is_shadowed, is_unreached, keep, hops_at, marks_at, is_reached, standing, judged}
use Rattle.scope_graph.specs.Agree.{Judgement, as_shadowed, with_steps, caught, judgement}
use Rattle.scope_graph.proofs.Lists.{and_left, and_both}
use Rattle.scope_graph.proofs.Agree.{agree_promises}
use Rattle.graph_rows.specs.Format.{count_section, declaration_section}
use Rattle.graph_rows.specs.Admission.{Row, value, blank}
use Rattle.graph_rows.specs.Decode.{rows_in, letters_of, rules_of, name_at, declaration_of, graph_of, scopes_of}
use Rattle.block.specs.Sets.{has_scope}
use Rattle.block.specs.Block.{scopes_cell}
use Rattle.search.specs.declared.Node.{Node}
use Rattle.search.specs.Board.{board_of, reached_by, cut_along}
use Rattle.search.specs.Tables.{table_board}
use Rattle.search.specs.Conditions.{free_at}
use Rattle.search.proofs.Rules.{standing_is}
use Rattle.search.proofs.Rules.{reached_is as path-reached}
use Rattle.graph_table.specs.declared.rows.QueryRow.{QueryRow}
use Rattle.graph_table.specs.Sections.{part_of, rows_of}
use Rattle.graph_table.specs.Values.{packed, row_declared, declares}
use Rattle.board.specs.Marks.{DeclaringIs}
use Rattle.board.specs.Made.{Made}
use Rattle.board.specs.Queries.{query_on, Asked}
use Rattle.board.proofs.Queries.{accepted, sound, rows_are}
use Rattle.board.proofs.Board.{scopes_are, board_is, order_is}
use Rattle.path_row.specs.declared.form.Step.{Step}
use Rattle.path_row.specs.Numbering.{hops_of, path_of}
use Rattle.comparison.proofs.RowLaws.{steps_here}
use Rattle.judge.specs.declared.standing.Judged.TheVariants.{Visible, Shadowed, Unreached}
use Rattle.judge.specs.Judge.{standing_in, as_rules_row}
use Rattle.std.specs.declared.option.Option.{Option as CodeOption}
use Rattle.std.specs.declared.option.Option.TheVariants.{Some, None}
use Rattle.judge.specs.LastCut.{caught_at, last_cut}
use Rattle.judge.specs.Steps.{is_marked, has_mark, step_hops, Begins, row_reached, row_last, judged_row}
use Rattle.judge.proofs.Deepest.{is_place, cut_some, caught_is}

-- The marks of a name at a scope, row by row.
module _ (r : Rules) (x : QueryRow) (mark s : ℕ) where
  abbrev name : PackedName
  name = packed x.name

  abbrev declared : Declaration (language r) → Bool
  declared d = eqb d.at s && same_name d.name name

  abbrev mark_of : Declaration (language r) → ℕ
  mark_of d = d.mark

  marked : (rows : List Row) → has_mark x mark s rows ≡ any_of (eqb mark) (marks_at (language r) (map (declaration_of r) rows) s name)
  unfolding has_mark is_marked declares any_of marks_at keep declaration_of name_at
  marked [] = refl
  marked (row ∷ rows) = at (declares name s (row_declared row)) (marked rows)
    where
      rest : List (Declaration (language r))
      rest = keep declared (map (declaration_of r) rows)

      at : (u : Bool) → has_mark x mark s rows ≡ any_of (eqb mark) (map mark_of rest)
          → (elim (u && eqb mark (row_declared row).mark) as (λ _. Bool) [ true ↦ true | false ↦ has_mark x mark s rows ])
          ≡ any_of (eqb mark)
          (map mark_of (elim u as (λ _. List (Declaration (language r))) [ true ↦ declaration_of r row ∷ rest | false ↦ rest ]))
      at false e = e
      at true e = ap (λ (z : Bool). elim (eqb mark (row_declared row).mark) as (λ _. Bool) [ true ↦ true | false ↦ z ]) e

-- The standing by three tests: the start, reached with its mark, cut.
abbrev by_tests : Bool → Bool → Bool → Standing
by_tests same reached cut =
    elim (same && reached) as (λ _. Standing) [ false ↦ is_unreached | true ↦ elim cut as (λ _. Standing) [ true ↦ is_shadowed | false ↦ is_visible ] ]

module _ (cells : List ℕ) (x : QueryRow) (mark from : ℕ) (ss : List Step) (a : Asked cells (query_on cells x)) where
  abbrev L : Language
  L = language (rules_of cells)

  abbrev g : Graph L
  g = graph_of cells

  abbrev q : Query L
  q = query_on cells x

  abbrev the_row : RulesRow L
  the_row = as_rules_row cells (record { mark = mark; start = from; steps = ss })

  abbrev hs : List (HopOf Turned)
  hs = hops_of (hops_at L g.edges) (letters_of cells) from ss

  abbrev laws : Laws L
  laws = ((accepted cells a.read).accepted q a.starts).laws

  abbrev range : InRange L g
  range = ((accepted cells a.read).accepted q a.starts).in_range

  pub start_small : x.start < 64
  start_small = let m = (accepted cells a.read).scopes_most in let s = a.starts in omega arith

  all_free : (s : ℕ) → s < scopes_of cells → ltb s 64 ≡ true
  all_free s h = lt-ltb s 64 (let m = (accepted cells a.read).scopes_most in omega arith)

  scopes_cell_lem : (block : List ℕ) → Made cells block → scopes_cell block ≡ scopes_of cells
  unfolding scopes_of
  scopes_cell_lem block made =
      scopes_are cells block made
      ∙ ap (λ (rows : List Row). value (get_or rows 0 blank) 0) (rows_are cells a.read count_section)

  pub start_below : (block : List ℕ) → Made cells block → x.start < scopes_cell block
  start_below block made = let e = scopes_cell_lem block made in let s = a.starts in omega arith

  row_is : the_row ≡ record { mark = mark; path = record { start = from; hops = hs } }
  unfolding as_rules_row path_of
  row_is = refl

  abbrev rules_reached : Bool
  rules_reached = reached_by (board_of L g q.name) (free_at x.start) x.start 0 hs

  abbrev rules_cut : Bool
  rules_cut = cut_along (board_of L g q.name) L.prefers (scopes_of cells) (free_at x.start) x.start 0 hs stop

  abbrev rules_last : Option ℕ
  rules_last = last_cut (board_of L g q.name) L.prefers (scopes_of cells) (free_at x.start) x.start 0 hs stop

  abbrev rules_mark : Bool
  rules_mark = any_of (eqb mark) (marks_at L g.declarations (last_from from hs) q.name)

  -- the standing, if the mark is that of a declaration
  abbrev with_mark : Bool → Standing → Standing
  with_mark m z = elim m as (λ _. Standing) [ false ↦ is_unreached | true ↦ z ]

  stands : standing L g q (record { start = from; hops = hs }) ≡ by_tests (eqb from x.start) rules_reached rules_cut
  unfolding graph_of free_at
  stands = standing_is L laws g q range a.starts (λ t. ltb t 64) all_free (record { start = from; hops = hs })

  judged_is : judged L g q the_row ≡ with_mark rules_mark (by_tests (eqb from x.start) rules_reached rules_cut)
  unfolding judged
  judged_is = rw row_is (ap (λ (z : Standing). with_mark rules_mark z) stands)

  -- what is told of a standing
  abbrev told : Standing → Judgement
  told z = with_steps z (caught L g q the_row.path)

  tells : (z : Standing) → judged L g q the_row ≡ z → told z ≡ judged_row cells x mark from ss
  unfolding judgement
  tells z e = ap told (sym e)

  -- a reached path: the last place whose end is cut tells its number
  row_reached_lem : from ≡ x.start → rules_reached ≡ true → is_reached L g q the_row.path ≡ true
  unfolding graph_of free_at
  row_reached_lem same t =
      rw row_is (path-reached L laws g q range a.starts (λ t. ltb t 64) all_free (record { start = from; hops = hs })
      ∙ and_both _ _ (eq-eqb from x.start same) t)

  steps_are : is_reached L g q the_row.path ≡ true → (n : ℕ) → rules_last ≡ some n → caught L g q the_row.path ≡ n
  unfolding graph_of free_at
  steps_are t n e =
      rw row_is (caught_is L laws g q range (agree_promises.language (rules_of cells)) (λ t. ltb t 64) all_free (record { start = from; hops = hs }) (rw row_is at t) n e)

  -- a row that starts elsewhere
  pub starts_apart : (from ≡ x.start → ⊥) → standing_in Unreached ≡ judged_row cells x mark from ss
  unfolding standing_in with_steps
  starts_apart h =
      tells is_unreached (judged_is ∙ ap (λ (z : Bool). with_mark rules_mark (by_tests z rules_reached rules_cut)) (ne_eqb from x.start h)
      ∙ at rules_mark)
    where
      at : (u : Bool) → with_mark u is_unreached ≡ is_unreached
      at true = refl
      at false = refl

  module _ (same : from ≡ x.start) (block : List ℕ) (made : Made cells block) (decls : List ℕ)
      (decls-is : decls ≡ part_of declaration_section cells) (goal : ℕ)
      (goal_is : DeclaringIs decls (packed x.name) goal)
      (n : Node) (begins : Begins block x.start n) (ts : List Step) (ts-is : ts ≡ ss) where
    free_start : has_scope n.free ≡ free_at x.start
    free_start = fun_ext begins.free

    board_here : table_board block goal ≡ board_of L g q.name
    board_here =
        board_is cells block (sound cells a.read) made q.name goal
        (subst (λ (rows : List ℕ). DeclaringIs rows q.name goal) decls-is goal_is)

    -- the row's hops by the block's letters and edges are those by the file's
    hops_here : step_hops block ts n.scope ≡ hs
    hops_here = rw (ts-is, begins.scope, ← same) (sym (steps_here cells block a.read made from ss))

    marked_is : has_mark x mark (last_from x.start hs) (rows_of decls) ≡ rules_mark
    unfolding graph_of
    marked_is =
        ap (λ (s : ℕ). has_mark x mark (last_from s hs) (rows_of decls)) (sym same)
        ∙ rw (decls-is, rows_are cells a.read declaration_section)
        (marked (rules_of cells) x mark (last_from from hs) (rows_in declaration_section cells))

    reached_is : row_reached block decls goal x mark n (step_hops block ts n.scope) ≡ (rules_reached && rules_mark)
    unfolding row_reached
    reached_is = rw (hops_here, board_here, free_start, begins.scope, begins.state, marked_is)

    judged_same : judged L g q the_row ≡ with_mark rules_mark (by_tests true rules_reached rules_cut)
    judged_same = judged_is ∙ ap (λ (z : Bool). with_mark rules_mark (by_tests z rules_reached rules_cut)) (eq-eqb from x.start same)

    both : (m r c : Bool) → with_mark m (by_tests true r c) ≡ by_tests true (r && m) c
    both true true c = refl
    both true false c = refl
    both false true c = refl
    both false false c = refl

    module _ (u : Bool) (e : u ≡ row_reached block decls goal x mark n (step_hops block ts n.scope)) where
      by_reached : judged L g q the_row ≡ by_tests true u rules_cut
      by_reached =
          judged_same ∙ both rules_mark rules_reached rules_cut ∙ ap (λ (z : Bool). by_tests true z rules_cut) (sym (e ∙ reached_is))

      pub not_reached : u ≡ false → standing_in Unreached ≡ judged_row cells x mark from ss
      unfolding standing_in with_steps
      not_reached h = tells is_unreached (by_reached ∙ ap (λ (z : Bool). by_tests true z rules_cut) h)

      module _ (h : u ≡ true) (w : CodeOption ℕ) (f : caught_at w ≡ row_last block goal n (step_hops block ts n.scope)) where
        place_is : caught_at w ≡ rules_last
        unfolding row_last
        place_is =
            f
            ∙ rw (
              hops_here,
              board_here,
              order_is cells block (sound cells a.read) made,
              begins.left_is ∙ scopes_cell_lem block made,
              free_start,
              begins.scope,
              begins.state,
            )

        by_cut : judged L g q the_row ≡ by_tests true true (is_place (caught_at w))
        by_cut =
            by_reached ∙ ap (λ (z : Bool). by_tests true z rules_cut) h
            ∙ ap (λ (z : Bool). by_tests true true z)
            (cut_some L g q.name (scopes_of cells) (free_at x.start) x.start 0 hs stop ∙ ap is_place (sym place_is))

        reached_here : is_reached L g q the_row.path ≡ true
        reached_here = row_reached_lem same (and_left rules_reached rules_mark (sym (e ∙ reached_is) ∙ h))

        pub is_cut : (place : ℕ) → w ≡ Some place → standing_in (Shadowed place) ≡ judged_row cells x mark from ss
        unfolding standing_in with_steps is_place caught_at
        is_cut place k =
            ap (λ (z : ℕ). as_shadowed z) (sym (steps_are reached_here place (sym place_is ∙ ap caught_at k)))
            ∙ tells is_shadowed (by_cut ∙ ap (λ (z : CodeOption ℕ). by_tests true true (is_place (caught_at z))) k)

        pub not_cut : w ≡ None → standing_in Visible ≡ judged_row cells x mark from ss
        unfolding standing_in with_steps is_place caught_at
        not_cut k = tells is_visible (by_cut ∙ ap (λ (z : CodeOption ℕ). by_tests true true (is_place (caught_at z))) k)
