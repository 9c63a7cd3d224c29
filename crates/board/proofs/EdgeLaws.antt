-- The block with the hops of the scopes below s: how one scope more is put. Assumes nothing.
use mathlib.Core.Path.{◌≡◌, refl, sym, ap, subst, ◌∙◌}
use mathlib.Core.Logic.{◌⊎◌, inl, inr, ⊎_elim}
use mathlib.Core.Bool.{true, false}
use mathlib.Core.Option.{some}
use mathlib.Core.List.{List, [], ◌∷◌, map}
use Prim.Native.Nat.{ℕ, zero, suc, ◌+◌, ◌-◌, ◌*◌, ◌/◌, ◌%◌, ◌≤◌, ◌<◌}
use native.Mathlib.Omega.{arith}
use native.Mathlib.Numerals.{add-one}
use borrow.Author.Tests.{ltb-true, ltb-false}
use lib.Dec.{ltb}
use lib.ListN.{length, get_or, set, take, drop, length-set}
use lib.Seq.{get_or-set_same, get_or-set_other}
use Rattle.scope_graph.specs.Path.{HopOf}
use Rattle.scope_graph.specs.Turns.{Turned}
use Rattle.scope_graph.proofs.Lists.{Two}
use Rattle.graph_table.specs.Rows.{hop_at, row_hops, next_row}
use Rattle.graph_table.specs.Promises.{NextRow}
use Rattle.graph_table.proofs.Laws.{rows_earlier}
use Rattle.graph_table.proofs.Promises.{next_is}
use Rattle.graph_table.proofs.Tests.{below_or}
use Rattle.block.specs.Layout.{FIRST, EDGE, SIZE}
use Rattle.block.specs.Block.{first_edge, edge_cell, scope_of, label_of, turn_of, hop_of, packed_edge, hops_from, hops_on}
use Rattle.block.proofs.BlockLaws.{block_hops_in}
use Rattle.board.specs.Cells.{puts, Only}
use Rattle.board.specs.declared.edges.Put.{Put}
use Rattle.board.specs.Edges.{turn_number, compact, narrow, cells_for, below, placed, ScopePut, EdgesPut}
use Rattle.board.proofs.EdgeCells.{Left, left_all, left_more, left_cells, left_count, left_none, left_full}
use Rattle.board.proofs.CellLaws.{puts_size, puts_before, puts_at, only_none, only_then, only_set, only_puts}

-- the hops of a scope by its two cells
unfoldable pub scope_hops : List ℕ → ℕ → List (HopOf Turned)
scope_hops block s = hops_on block s (first_edge block s)

-- hops are read from edges alone
pub hops_kept : (old new : List ℕ) (p n : ℕ) → ((j : ℕ) → p ≤ j → j < p + n → edge_cell new j ≡ edge_cell old j) → hops_from new p n ≡ hops_from old p n
unfolding hops_from
hops_kept old new p zero h = refl
hops_kept old new p (suc n) h =
    let rest = hops_kept old new (suc p) n (λ j a b. h j (omega arith) (omega arith)) in
    rw (h p (omega arith) (omega arith), rest)

pub scope_kept : (old new : List ℕ) (u : ℕ) → first_edge new u ≡ first_edge old u → first_edge new (suc u) ≡ first_edge old (suc u)
    → ((j : ℕ) → j < first_edge old (suc u) → edge_cell new j ≡ edge_cell old j) → scope_hops new u ≡ scope_hops old u
unfolding scope_hops hops_on
scope_kept old new u a b h =
    rw (a, b) (hops_kept old new (first_edge old u) (first_edge old (suc u) - first_edge old u) (λ j c d. h j (omega arith)))

-- hops of cells that are known
pub hops_are : (xs block : List ℕ) (p : ℕ) → ((i : ℕ) → i < length xs → edge_cell block (p + i) ≡ get_or xs i 0) → hops_from block p (length xs) ≡ map hop_of xs
unfolding hops_from
hops_are [] block p h = refl
hops_are (x ∷ xs) block p h =
    let here : p + 0 ≡ p = omega arith in
    let first : edge_cell block p ≡ x = rw here at (h 0 (omega arith)) in
    let rest = hops_are xs block (suc p) (λ i k. let on : p + suc i ≡ suc p + i = omega arith in rw on at (h (suc i) (omega arith))) in
    rw (first, rest)

-- a hop that went into a cell
cell_back : (t l to : ℕ)
    → hop_of (packed_edge t l to) ≡ record { step = record { label = l % 8; turn = some (t % 128) }; to = to % 64 }
unfolding hop_of turn_of
cell_back t l to =
    let label : label_of (packed_edge t l to) ≡ l % 8 = omega arith in
    let turn : packed_edge t l to / 512 % 128 ≡ t % 128 = omega arith in
    let scope : scope_of (packed_edge t l to) ≡ to % 64 = omega arith in
    rw (label, turn, scope)

hop_back : (h : HopOf Turned) → hop_of (compact h) ≡ narrow h
unfolding compact narrow
hop_back h = cell_back (turn_number h.step.turn) h.step.label h.to

taken_back : (n : ℕ) (hs : List (HopOf Turned)) → map hop_of (take n (map compact hs)) ≡ take n (map narrow hs)
taken_back zero [] = refl
taken_back zero (h ∷ hs) = refl
taken_back (suc n) [] = refl
taken_back (suc n) (h ∷ hs) = rw (hop_back h, taken_back n hs)

-- how many there is room for
room_left : (n : ℕ) (hs : List (HopOf Turned)) → (length (take n (map compact hs)) ≤ n) × (n - length (take n (map compact hs)) ≡ n - length hs)
room_left zero [] = (omega arith, omega arith)
room_left zero (h ∷ hs) = (omega arith, omega arith)
room_left (suc n) [] = (omega arith, omega arith)
room_left (suc n) (h ∷ hs) = let (a, b) = room_left n hs in (omega arith, omega arith)

pub record Upto (rows old block : List ℕ) (s k : ℕ) : Type 0 where
  pub only : Only FIRST 577 old block
  pub room : 512 - k ≡ 512 - below rows s
  pub top : k ≤ 512
  pub here : first_edge block s ≡ k
  pub each : (u : ℕ) → u < s → (first_edge block (suc u) ≤ k) × (scope_hops block u ≡ placed rows u)

pub upto_none : (rows block : List ℕ) → FIRST < length block → Upto rows (set block FIRST 0) (set block FIRST 0) 0 0
unfolding below first_edge
upto_none rows block h = record {
  only = only_none FIRST 577 (set block FIRST 0);
  room = refl;
  top = omega arith;
  here = get_or-set_same block FIRST 0 0 h;
  each = λ u k. absurd (omega arith);
}

-- no cell of the first k edges is above `top`
abbrev pub Most : List ℕ → ℕ → ℕ → Type 0
Most block k top = (j : ℕ) → j < k → get_or block (EDGE + j) 0 ≤ top

-- one scope more
module _ (rows old block : List ℕ) (s k : ℕ) (so : Upto rows old block s k) (few : s < 64) (size : length old ≡ SIZE) where
  cells : List ℕ
  cells = cells_for k (row_hops rows s)

  filled : List ℕ
  filled = puts block (EDGE + k) cells

  next : List ℕ
  next = set filled (FIRST + suc s) (k + length cells)

  fits : k + length cells ≤ 512
  unfolding cells cells_for
  fits = let top = so.top in omega (arith, (room_left (512 - k) (row_hops rows s)).0)

  less : 512 - (k + length cells) ≡ 512 - below rows (suc s)
  unfolding cells cells_for below
  less = let room = so.room in omega (arith, (room_left (512 - k) (row_hops rows s)).1)

  block_size : length block ≡ SIZE
  block_size = so.only.size ∙ size

  filled_size : length filled ≡ SIZE
  unfolding filled
  filled_size = puts_size cells block (EDGE + k) ∙ block_size

  next_only : Only FIRST 577 block next
  unfolding next filled
  next_only =
      let fit = fits in
      only_then FIRST 577 block filled next (only_puts FIRST 577 cells block (EDGE + k) (omega arith) (omega arith))
      (only_set FIRST 577 filled (FIRST + suc s) (k + length cells) (omega arith) (omega arith))

  -- cells of the scopes below are kept
  kept : (j : ℕ) → j < EDGE + k → (j ≡ FIRST + suc s → ⊥) → get_or next j 0 ≡ get_or block j 0
  unfolding next filled
  kept j h other = get_or-set_other filled (FIRST + suc s) j (k + length cells) 0 other ∙ puts_before cells block (EDGE + k) j h

  first_kept : (u : ℕ) → u ≤ s → first_edge next u ≡ first_edge block u
  unfolding first_edge
  first_kept u h = kept (FIRST + u) (omega arith) (λ e. omega arith)

  edge_kept : (j : ℕ) → j < k → edge_cell next j ≡ edge_cell block j
  unfolding edge_cell
  edge_kept j h = let top = so.top in kept (EDGE + j % 512) (omega arith) (λ e. omega arith)

  next_here : first_edge next (suc s) ≡ k + length cells
  unfolding first_edge next
  next_here = let whole = filled_size in get_or-set_same filled (FIRST + suc s) (k + length cells) 0 (omega arith)

  edge_new : (i : ℕ) → i < length cells → edge_cell next (k + i) ≡ get_or cells i 0
  unfolding edge_cell next filled
  edge_new i h =
      let fit = fits in
      let whole = block_size in
      let place : EDGE + (k + i) % 512 ≡ EDGE + k + i = omega arith in
      let other : EDGE + k + i ≡ FIRST + suc s → ⊥ = λ e. omega arith in
      rw place (get_or-set_other filled (FIRST + suc s) (EDGE + k + i) (k + length cells) 0 other ∙ puts_at cells block (EDGE + k) i (omega arith) h)

  next_hops : scope_hops next s ≡ placed rows s
  unfolding scope_hops hops_on placed cells cells_for
  next_hops =
      let begin : first_edge next s ≡ k = first_kept s (omega arith) ∙ so.here in
      let many : k + length cells - k ≡ length cells = omega arith in
      rw (next_here, begin, many)
      (hops_are cells next k edge_new ∙ taken_back (512 - k) (row_hops rows s) ∙ ap (λ (n : ℕ). take n (map narrow (row_hops rows s))) so.room)

  next_each : (u : ℕ) → u < suc s → (first_edge next (suc u) ≤ k + length cells) × (scope_hops next u ≡ placed rows u)
  next_each u h = at (Two (ltb u s))
    where
      at : (ltb u s ≡ true) ⊎ (ltb u s ≡ false) → (first_edge next (suc u) ≤ k + length cells) × (scope_hops next u ≡ placed rows u)
      at (inl e) =
          let below-s : u < s = ltb-true u s e in
          let (most, hops) = so.each u below-s in
          let end = first_kept (suc u) (omega arith) in
          (omega arith, scope_kept block next u (first_kept u (omega arith)) end (λ j m. edge_kept j (omega arith)) ∙ hops)
      at (inr e) =
          let least = ltb-false u s e in
          let same : u ≡ s = omega arith in
          let end = next_here in
          rw same (omega arith, next_hops)

  upto_next : Upto rows old next (suc s) (k + length cells)
  upto_next = record {
    only = only_then FIRST 577 old block next so.only next_only;
    room = less;
    top = fits;
    here = next_here;
    each = next_each;
  }

  pub upto_more : (new : List ℕ) (k' : ℕ) → new ≡ puts block (EDGE + k) (cells_for k (row_hops rows s)) → k' ≡ k + length (cells_for k (row_hops rows s))
      → Upto rows old (set new (FIRST + (s + 1)) k') (s + 1) k'
  unfolding cells filled next
  upto_more new k' a b = rw (a, b, add-one s) upto_next

  -- neither a cell of the scopes below nor a cell put is above the number given
  pub most_more : (new : List ℕ) (k' top top' : ℕ) → new ≡ puts block (EDGE + k) (cells_for k (row_hops rows s)) → Most block k top → top ≤ top'
      → ((j : ℕ) → k ≤ j → j < k' → get_or new (EDGE + j) 0 ≤ top') → Most (set new (FIRST + (s + 1)) k') k' top'
  most_more new k' top top' a low more own j h =
      let other : EDGE + j ≡ FIRST + (s + 1) → ⊥ = λ e. omega arith in
      let kept = get_or-set_other new (FIRST + (s + 1)) (EDGE + j) k' 0 other in
      ⊎_elim
      (λ (m : j < k).
      let was = ap (λ (x : List ℕ). get_or x (EDGE + j) 0) a ∙ puts_before (cells_for k (row_hops rows s)) block (EDGE + k) (EDGE + j) (omega arith) in
      let less = low j m in
      omega arith)
      (λ (m : k ≤ j). let less = own j m h in omega arith)
      (below_or j k)

pub upto_size : {rows new : List ℕ} {s k : ℕ} (block : List ℕ) → Upto rows (set block FIRST 0) new s k → length new ≡ length block
upto_size block so = so.only.size ∙ length-set block FIRST 0

-- a cell's turn, where none of the cells is above `top`
turn_below : (x top : ℕ) → x ≤ top → turn_of x ≤ top / 512
unfolding turn_of
turn_below x top h = omega arith

pub upto_all : (rows block new : List ℕ) (s k top : ℕ) → Upto rows (set block FIRST 0) new s k → Most new k top → 64 ≤ s
    → EdgesPut rows block new (top / 512)
unfolding scope_hops edge_cell
upto_all rows block new s k top so most h = record {
  only = only_then FIRST 577 block (set block FIRST 0) new (only_set FIRST 577 block FIRST 0 (omega arith) (omega arith)) so.only;
  hops = λ u m. block_hops_in new u m ∙ (so.each u (omega arith)).1;
  turns = λ u p m i.
      let end = (so.each u (omega arith)).0 in
      let all = so.top in
      let here : p % 512 ≡ p = omega arith in
      turn_below (get_or new (EDGE + p % 512) 0) top (rw here (most p (omega arith)));
}

-- rows of scopes before s, and those of s, are none of a later scope's
module _ (rows : List ℕ) (s u : ℕ) (later : s < u) where
  earlier : (k p : ℕ) → p + 6 * k ≤ length rows → ((j : ℕ) → j < k → get_or rows (p + 6 * j + 1) 0 < s) → row_hops (drop p rows) u ≡ row_hops (drop (p + 6 * k) rows) u
  earlier zero p h few = let here : p + 6 * 0 ≡ p = omega arith in sym (ap (λ n. row_hops (drop n rows) u) here)
  earlier (suc k) p h few =
      let on : p + 6 + 6 * k ≡ p + 6 * suc k = omega arith in
      let first : get_or rows (p + 1) 0 < s = subst (λ (i : ℕ). get_or rows i 0 < s) (omega arith) (few 0 (omega arith)) in
      rows_earlier rows u p (omega arith) (omega arith)
      ∙ earlier k (p + 6) (omega arith) (λ j m. subst (λ (i : ℕ). get_or rows i 0 < s) (omega arith) (few (suc j) (omega arith)))
      ∙ ap (λ n. row_hops (drop n rows) u) on

  pub found_on : (p r : ℕ) → NextRow rows s p r → r < length rows → row_hops (drop p rows) u ≡ row_hops (drop (r + 6) rows) u
  found_on p r row h =
      let (k, is, few) = row.passed h in
      let whole = row.whole h in
      let own = row.leaves h in
      earlier k p (omega arith) few ∙ ap (λ n. row_hops (drop n rows) u) (sym is) ∙ rows_earlier rows u r whole (omega arith)

-- one scope's rows, as they are put: what is left of them, and the rows of later scopes
pub record Scoping (rows : List ℕ) (s : ℕ) (put : Put) (old block : List ℕ) (now : Put) : Type 0 where
  pub left : Left old put.edges (row_hops (drop put.place rows) s) block now.edges (row_hops (drop now.place rows) s)
  pub on : (u : ℕ) → s < u → row_hops (drop put.place rows) u ≡ row_hops (drop now.place rows) u
  pub more : put.top ≤ now.top
  pub cells : (j : ℕ) → put.edges ≤ j → j < now.edges → get_or block (EDGE + j) 0 ≤ now.top

pub scoping_none : (rows : List ℕ) (s : ℕ) (put : Put) (old : List ℕ) → Scoping rows s put old old put
scoping_none rows s put old = record {
  left = left_all old put.edges (row_hops (drop put.place rows) s);
  on = λ u h. refl;
  more = omega arith;
  cells = λ j h m. absurd (omega arith);
}

module _ (rows : List ℕ) (s : ℕ) (put : Put) (old block : List ℕ) (now : Put) (so : Scoping rows s put old block now) where
  abbrev all : List (HopOf Turned)
  all = row_hops (drop put.place rows) s

  abbrev rest : List (HopOf Turned)
  rest = row_hops (drop now.place rows) s

  pub scoping_found : (r v higher : ℕ) → r ≡ next_row rows s now.place → r < length rows → now.edges < 512 → EDGE + now.edges < length block
      → v ≡ compact (hop_at rows r) → now.top ≤ higher → v ≤ higher
      → Scoping rows s put old (set block (EDGE + now.edges) v) (record { edges = now.edges + 1; place = r + 6; top = higher })
  scoping_found r v higher e h room inside is old-most new-most =
      let row : NextRow rows s now.place r = rw e (next_is rows s now.place) in
      record {
        left = rw is (left_more old put.edges all block now.edges rest so.left (hop_at rows r) (row_hops (drop (r + 6) rows) s) room (row.hops h));
        on = λ u later. so.on u later ∙ found_on rows s u later now.place r row h;
        more = let more = so.more in omega arith;
        cells = λ j i m.
            ⊎_elim
            (λ (z : j < now.edges).
            let other : EDGE + j ≡ EDGE + now.edges → ⊥ = λ w. omega arith in
            let kept = get_or-set_other block (EDGE + now.edges) (EDGE + j) v 0 other in
            let less = so.cells j i z in
            omega arith)
            (λ (z : now.edges ≤ j).
            let same : j ≡ now.edges = omega arith in
            let here = get_or-set_same block (EDGE + now.edges) v 0 inside in
            rw same (omega arith))
            (below_or j now.edges);
      }

  pub row_whole : (r : ℕ) → r ≡ next_row rows s now.place → r < length rows → r + 6 ≤ length rows
  row_whole r e h = let row : NextRow rows s now.place r = rw e (next_is rows s now.place) in row.whole h

  put_all : cells_for now.edges rest ≡ [] → ScopePut rows s put old block now
  put_all e = record {
    cells = left_cells old put.edges all block now.edges rest so.left e;
    count = left_count old put.edges all block now.edges rest so.left e;
    on = so.on;
    more = so.more;
    most = so.cells;
  }

  pub scoping_missed : (r : ℕ) → r ≡ next_row rows s now.place → length rows ≤ r → ScopePut rows s put old block now
  scoping_missed r e h =
      let row : NextRow rows s now.place r = rw e (next_is rows s now.place) in
      put_all (left_none old put.edges all block now.edges rest so.left (row.none h))

  pub scoping_full : 512 ≤ now.edges → ScopePut rows s put old block now
  scoping_full h = put_all (left_full old put.edges all block now.edges rest so.left h)
