-- What a table that was read gives: it is accepted, and its board is the rules' own. Assumes
-- nothing.
use Prim.Native.Nat.{ℕ, zero, suc, ◌%◌, ◌^◌, ◌≤◌, ◌<◌}
use mathlib.Core.Path.{◌≡◌, sym, ap, ◌∙◌}
use mathlib.Core.Bool.{true, false, ◌&&◌}
use mathlib.Core.Logic.{⊎_elim}
use mathlib.Core.List.{List, [], ◌∷◌}
use native.Mathlib.Omega.{arith}
use lib.Dec.{eqb, leb, ltb}
use lib.ListN.{length, get_or, take, drop, length-map, get_or-map, get_or-eq_default}
use lib.Seq.{get_or-take, get_or-drop}
use borrow.Author.Tests.{leb-true, ltb-true, ltb-false}
use Rattle.scope_graph.specs.Language.{◌∈◌, by}
use Rattle.scope_graph.specs.Path.{HopOf}
use Rattle.scope_graph.specs.Turns.{Turned, later_step}
use Rattle.scope_graph.specs.Rows.{PackedName, language}
use Rattle.scope_graph.specs.Order.{end_of}
use Rattle.scope_graph.specs.Computed.{usable, open_end}
use Rattle.scope_graph.specs.Graph.{Query}
use Rattle.scope_graph.proofs.Lists.{Two, and_right}
use Rattle.text_field.specs.Bytes.{within, is_capital}
use Rattle.graph_rows.specs.Format.{label_section, count_section, declaration_section}
use Rattle.graph_rows.specs.Admission.{Row, value, blank}
use Rattle.graph_rows.specs.Decode.{rows_in, letters_of, rules_of, scopes_of, graph_of}
use Rattle.graph_file.specs.File.{WasRead}
use Rattle.block.specs.Layout.{LETTER}
use Rattle.block.specs.Sets.{places_of}
use Rattle.block.specs.Block.{letter_cell, scopes_cell, usable_set, block_hops, declared_part}
use Rattle.search.specs.Board.{board_of}
use Rattle.search.specs.Tables.{table_board, table_order}
use Rattle.graph_table.specs.Sections.{part_of}
use Rattle.board.specs.Marks.{DeclaringIs, marks_in}
use Rattle.board.specs.Made.{Made}
use Rattle.board.proofs.Board.{letters_are, scopes_are, board_is, order_is, open_is, open_last}
use Rattle.board.proofs.Declared.{declared_is}
use Rattle.follow.specs.Walk.{letter_bytes}
use Rattle.board.proofs.Capitals.{capitals}
use Rattle.board.proofs.Queries.{get_d_in, accepted, sound, rows_are}

-- a letter as the rows have it, by the block's cell; past the labels there is none
letters_length : (block : List ℕ) → length (letter_bytes block) ≤ 8
unfolding letter_bytes
letters_length block = rw (length-map (take 8 (drop LETTER block)) (λ (x : ℕ). x % 256)) (short 8 (drop LETTER block))
  where
    short : (n : ℕ) (l : List ℕ) → length (take n l) ≤ n
    short zero l = omega arith
    short (suc n) [] = omega arith
    short (suc n) (x ∷ l) = let i = short n l in omega arith

pub letter_byte_lem : (block : List ℕ) (l : ℕ) → l < 8 → get_or (letter_bytes block) l 0 ≡ letter_cell block l % 256
unfolding letter_bytes letter_cell
letter_byte_lem block l h =
    get_or-map (λ (x : ℕ). x % 256) (take 8 (drop LETTER block)) l 0
    ∙ ap (λ (x : ℕ). x % 256) (get_or-take 8 (drop LETTER block) l 0 h ∙ get_or-drop LETTER block l 0)

pub letter_past : (block : List ℕ) (l : ℕ) → 8 ≤ l → get_or (letter_bytes block) l 0 ≡ 0
letter_past block l h = get_or-eq_default (letter_bytes block) 0 {n = l} (let s = letters_length block in omega arith)

module _ (cells : List ℕ) (was : WasRead cells) where
  -- a letter fits a byte
  letter_small : (l : ℕ) → value (get_or (rows_in label_section cells) l blank) 0 < 256
  unfolding is_capital within
  letter_small l =
      ⊎_elim
      (λ (h : ltb l (length (rows_in label_section cells)) ≡ true).
      let row = get_or (rows_in label_section cells) l blank in
      let c = capitals was.0 cells was.1 row (get_d_in (rows_in label_section cells) l blank (ltb-true l (length (rows_in label_section cells)) h)) in
      let m : value row 0 ≤ 90 = leb-true (value row 0) 90 (and_right (leb 65 (value row 0)) (leb (value row 0) 90) c) in
      omega arith)
      (λ (h : ltb l (length (rows_in label_section cells)) ≡ false).
      rw (get_or-eq_default (rows_in label_section cells) blank {n = l} (ltb-false l (length (rows_in label_section cells)) h)) (omega arith))
      (Two (ltb l (length (rows_in label_section cells))))

  letter_fits : (l : ℕ) → get_or (letters_of cells) l 0 < 256
  unfolding letters_of
  letter_fits l = rw (get_or-map (λ (row : Row). value row 0) (rows_in label_section cells) l blank) (letter_small l)

  -- with the table's board
  module _ (block : List ℕ) (made : Made cells block) where
    pub letters_same : (l : ℕ) → get_or (letter_bytes block) l 0 ≡ get_or (letters_of cells) l 0
    unfolding rules_of
    letters_same l =
        ⊎_elim
        (λ (h : ltb l 8 ≡ true).
        let s = letter_fits l in
        let e : get_or (letters_of cells) l 0 % 256 % 256 ≡ get_or (letters_of cells) l 0 = omega arith in
        letter_byte_lem block l (ltb-true l 8 h)
        ∙ ap (λ (x : ℕ). x % 256) (letters_are cells block (sound cells was) made l (ltb-true l 8 h))
        ∙ e)
        (λ (h : ltb l 8 ≡ false).
        let n = ltb-false l 8 h in
        let m = (accepted cells was).labels in
        letter_past block l n ∙ sym (get_or-eq_default (letters_of cells) 0 {n = l} (omega arith)))
        (Two (ltb l 8))

    pub scopes_same : scopes_cell block ≡ scopes_of cells
    unfolding scopes_of
    scopes_same = scopes_are cells block made ∙ ap (λ (rows : List Row). value (get_or rows 0 blank) 0) (rows_are cells was count_section)

    pub board_same : (x : PackedName) (goal : ℕ) → DeclaringIs (part_of declaration_section cells) x goal
        → table_board block goal ≡ board_of (language (rules_of cells)) (graph_of cells) x
    board_same x goal h = board_is cells block (sound cells was) made x goal h

    pub order_same : table_order block ≡ (language (rules_of cells)).prefers
    order_same = order_is cells block (sound cells was) made

    pub open_same : (q : Query (language (rules_of cells))) (at end : ℕ) → at < 64 → end < 9
        → places_of (2 ^ at) (usable_set block end)
        ≡ (λ s st. eqb s at && usable (language (rules_of cells)) st (open_end (language (rules_of cells)) (graph_of cells) q (end_of end)))
    open_same q at end h k = open_is cells block (sound cells was) made q at end h k

    -- no hop is later than the end that stands for all that may come there
    pub open_late : (q : Query (language (rules_of cells))) (end s : ℕ) (h : HopOf Turned) → h ∈ block_hops block s
        → later_step (by h.step) (open_end (language (rules_of cells)) (graph_of cells) q (end_of end)) ≡ false
    open_late q end s h m = open_last cells block (sound cells was) made q end s h m

    pub declared_same : (s : ℕ) (x : PackedName) → s < 64 → marks_in (declared_part block cells s) s x ≡ marks_in (part_of declaration_section cells) s x
    declared_same s x h = declared_is cells block (sound cells was) made s x h
