-- What the walk takes for a query of a table that was read: the rows of its entries. And the places
-- that it finds for an open pair show it followed. Assumes nothing.
use Prim.Native.Nat.{ℕ, zero, suc, ◌^◌, ◌<◌}
use mathlib.Core.Path.{◌≡◌, refl, sym, ap, ◌∙◌}
use mathlib.Core.Bool.{Bool, true, false, ◌&&◌}
use mathlib.Core.List.{List, [], ◌∷◌, map, flat_map}
use native.Mathlib.Omega.{arith}
use borrow.Author.Tests.{le-leb, lt-ltb}
use lib.Dec.{eqb, leb, ltb}
use lib.ListN.{get_or}
use Rattle.scope_graph.specs.Language.{◌∈◌, End, stop, Language, Laws}
use Rattle.scope_graph.specs.Graph.{Declaration, Graph, InRange, Query}
use Rattle.scope_graph.specs.Path.{HopOf, PathRow, last_from, row_declaration}
use Rattle.scope_graph.specs.Rows.{PackedName, Rules, any_of, same_name, language}
use Rattle.scope_graph.specs.Order.{end_of}
use Rattle.scope_graph.specs.Turns.{Turned}
use Rattle.scope_graph.specs.Computed.{NodeOf, keep, marks_at, open_end, nodes, rows_at, followed_at}
use Rattle.scope_graph.proofs.Lists.{keep_elim, and_left}
use Rattle.scope_graph.proofs.Nodes.{nodes_sound}
use Rattle.graph_rows.specs.Admission.{Row}
use Rattle.graph_rows.specs.Format.{declaration_section}
use Rattle.graph_rows.specs.Decode.{rows_in, letters_of, rules_of, name_at, declaration_of, graph_of, scopes_of}
use Rattle.graph_rows.specs.Accepted.{AcceptedTable}
use Rattle.block.specs.Sets.{places_of}
use Rattle.block.specs.Block.{accept_set, usable_set, scopes_cell}
use Rattle.block.specs.Ask.{ask_start, ask_name, ask_goal}
use Rattle.block.proofs.SetLaws.{scope_below, places_scope}
use Rattle.search.specs.Board.{Board, board_of, without, hits_from}
use Rattle.search.specs.Tables.{plain_end, table_order, table_board}
use Rattle.search.specs.Conditions.{free_at}
use Rattle.search.proofs.Rules.{hits_kept, entries_are_hits, followed_is_hit}
use Rattle.search.proofs.RulesLists.{flat_map_same}
use Rattle.search.proofs.LaterLaws.{hits_open}
use Rattle.graph_table.specs.Sections.{part_of}
use Rattle.graph_table.specs.Values.{row_declared, declares}
use Rattle.board.specs.Marks.{declared_here, marks_of, marks_in}
use Rattle.follow.specs.declared.Task.TheVariants.{Entries}
use Rattle.follow.specs.declared.Bounds.{Bounds}
use Rattle.follow.specs.declared.Aim.{Aim}
use Rattle.follow.specs.Text.{letter_of, shown_step, row_text}
use Rattle.follow.specs.Tally.{Taken, State, take_rows}
use Rattle.follow.specs.Walk as walk
use Rattle.follow.specs.Walk.{letter_bytes, entry_rows, place_rows, places_from, rows_from, walked, followed_in}
use Rattle.resolution.specs.Asked.{Ready, query_in, entries_taken}
use Rattle.resolution.proofs.ListLaws.{map_map, map_flat_map, map_same}
use Rattle.resolution.proofs.Given.{letters_same, scopes_same, board_same, order_same, open_same, open_late, declared_same}
use Rattle.board.proofs.Queries.{accepted, rows_are}

-- The marks that the code finds in rows are those of their declarations.
module _ (r : Rules) where
  abbrev declared : ℕ → PackedName → Declaration (language r) → Bool
  declared s x d = eqb d.at s && same_name d.name x

  abbrev mark_of : Declaration (language r) → ℕ
  mark_of d = d.mark

  marks_at_lem : (rows : List Row) (s : ℕ) (x : PackedName) → marks_at (language r) (map (declaration_of r) rows) s x ≡ marks_of rows s x
  unfolding marks_at keep marks_of declares declaration_of name_at declared_here
  marks_at_lem [] s x = refl
  marks_at_lem (row ∷ rows) s x = one (declares x s (row_declared row)) (marks_at_lem rows s x)
    where
      one : (t : Bool) → map mark_of (keep (declared s x) (map (declaration_of r) rows)) ≡ marks_of rows s x
          → map mark_of (elim t as (λ _. List (Declaration (language r))) [ true ↦ declaration_of r row ∷ keep (declared s x) (map (declaration_of r) rows) | false ↦ keep (declared s x) (map (declaration_of r) rows) ])
          ≡ declared_here t (row_declared row).mark (marks_of rows s x)
      one true e = ap (λ (l : List ℕ). (row_declared row).mark ∷ l) e
      one false e = e

-- A row's text asks for letters only.
module _ (a b : List ℕ) (same : (l : ℕ) → get_or a l 0 ≡ get_or b l 0) where
  steps_same : (hops : List (HopOf Turned)) → map (shown_step a) hops ≡ map (shown_step b) hops
  unfolding letter_of
  steps_same [] = refl
  steps_same (h ∷ hops) = rw (same h.step.label, steps_same hops)

  pub row_same : (mark start : ℕ) (hops : List (HopOf Turned)) → row_text a mark start hops ≡ row_text b mark start hops
  unfolding row_text
  row_same mark start hops = rw (steps_same hops)

taken_eq : {a b m : ℕ} {x y : List ℕ} → a ≡ b → x ≡ y → ◌≡◌ {A = Taken} (record { at = a; mark = m; text = x }) (record { at = b; mark = m; text = y })
taken_eq e f = rw (e, f)

module _ (cells block ask : List ℕ) (ready : Ready cells block ask) where
  abbrev L : Language
  L = language (rules_of cells)

  abbrev g : Graph L
  g = graph_of cells

  abbrev q : Query L
  q = query_in cells ask

  abbrev b : Board Turned
  b = board_of L g q.name

  t : AcceptedTable cells
  t = accepted cells ready.asked.read

  laws : Laws L
  laws = (t.accepted q ready.asked.starts).laws

  range : InRange L g
  range = (t.accepted q ready.asked.starts).in_range

  all_free : (s : ℕ) → s < scopes_of cells → ltb s 64 ≡ true
  all_free s h = lt-ltb s 64 (let m = t.scopes_most in omega arith)

  -- the followed places, by the block and by the rules
  abbrev seen : Board Turned → (End Turned → End Turned → Bool) → (ℕ → ℕ → Bool) → End Turned → List (NodeOf Turned)
  seen c prefers seek e = hits_from c prefers seek e (scopes_of cells) (without (λ s. ltb s 64) (ask_start ask)) (ask_start ask) 0

  abbrev table : Board Turned
  table = table_board block (ask_goal ask)

  board_is : table ≡ b
  board_is = board_same cells ready.asked.read block ready.made q.name (ask_goal ask) ready.goal

  seen_same : (seek : ℕ → ℕ → Bool) (e : End Turned) → seen table (table_order block) seek e ≡ seen b L.prefers seek e
  seen_same seek e =
      ap (λ (c : Board Turned). seen c (table_order block) seek e) board_is
      ∙ ap (λ (o : End Turned → End Turned → Bool). seen b o seek e) (order_same cells ready.asked.read block ready.made)

  places_are : (scopes states e : ℕ) → places_from block cells ask scopes states e (scopes_cell block) (free_at (ask_start ask)) (ask_start ask) 0
      ≡ seen table (table_order block) (places_of scopes states) (plain_end (end_of e))
  unfolding places_from free_at
  places_are scopes states e = rw (scopes_same cells ready.asked.read block ready.made)

  -- what is sought, by the block and by the rules
  abbrev here : ℕ → ℕ → Bool
  here = places_of (ask_goal ask) (accept_set block)

  here_is : here ≡ b.here
  unfolding table_board
  here_is = ap (λ (c : Board Turned). c.here) board_is

  -- the marks of the name at a scope, by the declarations' part of the table and by the rules
  pub marks_part : (s : ℕ) → marks_in (part_of declaration_section cells) s (ask_name ask) ≡ marks_at L g.declarations s q.name
  unfolding marks_in graph_of
  marks_part s =
      ap (λ (rows : List Row). marks_of rows s q.name) (rows_are cells ready.asked.read declaration_section)
      ∙ sym (marks_at_lem (rules_of cells) (rows_in declaration_section cells) s q.name)

  marks_are : (s : ℕ) → s < 64 → walk.marks_at block cells ask s ≡ marks_at L g.declarations s q.name
  unfolding walk.marks_at
  marks_are s h = declared_same cells ready.asked.read block ready.made s (ask_name ask) h ∙ marks_part s

  -- an entry's row
  abbrev row_of : PathRow L → Taken
  row_of r = record {
    at = (row_declaration L q r).at;
    mark = r.mark;
    text = row_text (letters_of cells) r.mark r.path.start r.path.hops;
  }

  place_rows_lem : (n : NodeOf Turned) → n.at < 64 → last_from q.start n.hops ≡ n.at
      → place_rows block cells ask Entries [] n ≡ map row_of (rows_at L g q n)
  unfolding place_rows entry_rows rows_at
  place_rows_lem n h comes =
      ap (map (λ (mark : ℕ). record { at = n.at; mark = mark; text = row_text (letter_bytes block) mark (ask_start ask) n.hops })) (marks_are n.at h)
      ∙ map_same _ _
      (λ mark.
      taken_eq (sym comes)
      (row_same (letter_bytes block) (letters_of cells) (letters_same cells ready.asked.read block ready.made) mark (ask_start ask) n.hops))
      (marks_at L g.declarations n.at q.name)
      ∙ sym (map_map row_of _ (marks_at L g.declarations n.at q.name))

  abbrev hits : List (NodeOf Turned)
  hits = seen b L.prefers here stop

  -- they are of scopes that declare the name, and their paths end there
  hit_rows : (n : NodeOf Turned) → n ∈ hits → place_rows block cells ask Entries [] n ≡ map row_of (rows_at L g q n)
  unfolding graph_of
  hit_rows n m =
      let k = hits_kept L laws g q range ready.asked.starts (λ s. ltb s 64) all_free here stop in
      let i = keep_elim _ (nodes L g q) (rw k at m) in
      let j : here n.at n.state ≡ true = and_left (here n.at n.state) _ i.1 in
      place_rows_lem n (scope_below (ask_goal ask) n.at (places_scope (ask_goal ask) (accept_set block) n.at n.state j))
      (nodes_sound L g q ready.asked.starts i.0).comes

  abbrev aim_at : Bounds → Aim
  aim_at bounds = record { scopes = ask_goal ask; states = accept_set block; end = 0; task = Entries; bounds = bounds }

  -- the rows of the entries, in their order
  rows_are_taken : (bounds : Bounds) → rows_from block cells ask (aim_at bounds) [] (scopes_cell block) (free_at (ask_start ask)) (ask_start ask) 0 ≡ entries_taken cells q
  unfolding rows_from entries_taken end_of plain_end graph_of
  rows_are_taken bounds =
      ap (flat_map (place_rows block cells ask Entries [])) (places_are (ask_goal ask) (accept_set block) 0 ∙ seen_same here stop)
      ∙ flat_map_same (place_rows block cells ask Entries []) (λ n. map row_of (rows_at L g q n)) hits hit_rows
      ∙ sym (map_flat_map row_of (rows_at L g q) hits)
      ∙ ap (map row_of) (ap (λ (seek : ℕ → ℕ → Bool). flat_map (rows_at L g q) (seen b L.prefers seek stop)) here_is
      ∙ sym (entries_are_hits L laws g q range ready.asked.starts (λ s. ltb s 64) all_free))

  few_scopes : leb (scopes_cell block) 64 ≡ true
  few_scopes = le-leb (scopes_cell block) 64 (rw (scopes_same cells ready.asked.read block ready.made) t.scopes_most)

  pub entries_walked : (bounds : Bounds) (st : State) → walked block cells ask (aim_at bounds) st ≡ take_rows bounds st (entries_taken cells q)
  unfolding walked
  entries_walked bounds st = rw (few_scopes, walked) (ap (take_rows bounds st) (rows_are_taken bounds))

  -- an open pair's end by its label alone is cut where the end that stands for all that may come
  -- there is
  seen_open : (seek : ℕ → ℕ → Bool) (end : ℕ)
      → seen table (table_order block) seek (plain_end (end_of end)) ≡ seen table (table_order block) seek (open_end L g q (end_of end))
  unfolding end_of plain_end open_end
  seen_open seek zero = refl
  seen_open seek (suc l) =
      sym (hits_open block (ask_goal ask) (L.strongest (map (λ e. e.step) g.edges) l) (open_late cells ready.asked.read block ready.made q (suc l))
      seek (scopes_of cells) (without (λ s. ltb s 64) (ask_start ask)) (ask_start ask) 0)

  -- an open pair is followed exactly if a place is found for it
  pub pair_walked : (at end : ℕ) → at < 64 → end < 9
      → followed_in block cells ask (2 ^ at) (usable_set block end) end ≡ followed_at L g q (record { at = at; end = end_of end })
  unfolding followed_in graph_of
  pair_walked at end h k =
      let sought : ℕ → ℕ → Bool = places_of (2 ^ at) (usable_set block end) in
      let o : End Turned = open_end L g q (end_of end) in
      rw (few_scopes, followed_in) (ap (any_of (λ (n : NodeOf Turned). true)) (places_are (2 ^ at) (usable_set block end) end ∙ seen_open sought end ∙ seen_same sought o)
      ∙ ap (λ (seek : ℕ → ℕ → Bool). any_of (λ (n : NodeOf Turned). true) (seen b L.prefers seek o)) (open_same cells ready.asked.read block ready.made q at end h k)
      ∙ sym (followed_is_hit L laws g q range ready.asked.starts (λ s. ltb s 64) all_free (record { at = at; end = end_of end })))
