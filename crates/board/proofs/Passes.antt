-- One pass over the rows of a section: what is gathered of the rows that were passed, with the rows
-- to come, is what all the rows give. Assumes nothing.
use Prim.Native.Nat.{ℕ, zero, suc, ◌+◌, ◌-◌, ◌*◌, ◌/◌, ◌%◌, ◌^◌, ◌≤◌, ◌<◌}
use mathlib.Core.Path.{◌≡◌, refl, sym, ap, ◌∙◌}
use mathlib.Core.Bool.{Bool, true, false, ◌&&◌, ◌||◌}
use mathlib.Core.Option.{some}
use Rattle.std.specs.declared.option.Option.{Option}
use Rattle.std.specs.declared.option.Option.TheVariants.{Some, None}
use Rattle.std.proofs.lemmas.Option.{none-some, same_Some}
use mathlib.Core.List.{List, map}
use mathlib.Core.Logic.{◌⊎◌, inl, inr, ⊎_elim}
use native.Mathlib.Omega.{arith}
use native.Mathlib.Numerals.{add-one}
use lib.Bits.{bit_or}
use lib.Dec.{eqb, ltb}
use lib.ListN.{length, get_or, set, drop, replicate, length-set, length-replicate, get_or-replicate}
use lib.Seq.{get_or-set_same, get_or-set_other}
use borrow.Author.Tests.{lt-ltb, le-ltb, eq-eqb, ne_eqb, eqb-true, eqb-false}
use Rattle.scope_graph.specs.Rows.{OrderPair, same_end, any_of, preferred_by, next_by}
use Rattle.scope_graph.specs.Order.{end_of}
use Rattle.scope_graph.specs.declared.End.{End}
use Rattle.scope_graph.specs.declared.End.TheVariants.{Stop, Label}
use Rattle.scope_graph.proofs.Lists.{Two, and_left, and_right, not_true}
use Rattle.graph_rows.specs.Admission.{Row, value, row_of}
use Rattle.graph_rows.specs.Decode.{order_pair_of, transition_of}
use Rattle.graph_rows.proofs.RowLaws.{row_cells}
use Rattle.block.specs.Sets.{has_bit, has_state}
use Rattle.block.proofs.SetLaws.{bits_or, bits_none, bits_one, one_shifted, states_none, states_or, states_one}
use Rattle.graph_table.specs.Sections.{rows_of}
use Rattle.graph_table.specs.Values.{row_end}
use Rattle.board.specs.Places.{transition_place, end_place}
use Rattle.board.specs.Tables.{state_cell, transition_cell, transition_cells, accepted, BetterIs}
use Rattle.graph_table.proofs.Tests.{below_or, and_first, and_second, and_rest, and_true, or_false, or_then, flip}
use Rattle.board.proofs.Fill.{tabulate_is}
use Rattle.graph_table.proofs.Parts.{rows_next, rows_none}

-- a test of each row: of the row at p, and of those behind it
module _ {B : Type 0} (f : Row → B) (test : B → Bool) (rows : List ℕ) (p : ℕ) where
  pub any_next : 6 ≤ length rows - p
      → any_of test (map f (rows_of (drop p rows)))
      ≡ (elim (test (f (row_of (drop p rows)))) as (λ _. Bool) [ true ↦ true | false ↦ any_of test (map f (rows_of (drop (p + 6) rows))) ])
  unfolding any_of
  any_next h = rw (rows_next rows p h)

  pub any_end : length rows - p < 6 → any_of test (map f (rows_of (drop p rows))) ≡ false
  unfolding any_of
  any_end h = rw (rows_none rows p h)

  -- what was gathered, with the row at p, is gathered with the rest
  pub any_noted : (before after all : Bool) → 6 ≤ length rows - p → after ≡ (before || test (f (row_of (drop p rows))))
      → (before || any_of test (map f (rows_of (drop p rows)))) ≡ all
      → (after || any_of test (map f (rows_of (drop (p + 6) rows)))) ≡ all
  any_noted before after all h e so =
      ap (λ b. b || any_of test (map f (rows_of (drop (p + 6) rows)))) e
      ∙ or_then before (test (f (row_of (drop p rows)))) (any_of test (map f (rows_of (drop (p + 6) rows))))
      ∙ ap (λ b. before || b) (sym (any_next h)) ∙ so

  pub any_all : (before all : Bool) → length rows - p < 6 → (before || any_of test (map f (rows_of (drop p rows)))) ≡ all → before ≡ all
  any_all before all h so = sym (ap (λ b. before || b) (any_end h) ∙ or_false before) ∙ so

pub first : (rows : List ℕ) (p : ℕ) → value (row_of (drop p rows)) 0 ≡ get_or rows (p + 1) 0
first rows p = rw (row_cells rows p)

-- accepting states
pub record Accepting (rows : List ℕ) (p out : ℕ) : Type 0 where
  pub within : p ≤ length rows
  pub each : (q : ℕ) → q < 16 → (has_state out q || accepted (rows_of (drop p rows)) q) ≡ accepted (rows_of rows) q

pub accepting_none : (rows : List ℕ) → Accepting rows 0 0
accepting_none rows = record { within = omega arith; each = λ q h. rw (states_none q) }

module _ (rows : List ℕ) (p out : ℕ) (so : Accepting rows p out) where
  noted_at : (more : ℕ) → 6 ≤ length rows - p → ((q : ℕ) → q < 16 → has_state more q ≡ (has_state out q || eqb q (get_or rows (p + 1) 0))) → Accepting rows (p + 6) more
  unfolding accepted
  noted_at more h e = record {
    within = omega arith;
    each = λ q k.
        any_noted (λ (row : Row). value row 0) (eqb q) rows p (has_state out q) (has_state more q) (accepted (rows_of rows) q) h
        (e q k ∙ ap (λ v. has_state out q || eqb q v) (sym (first rows p))) (so.each q k);
  }

  pub accepting_past : 6 ≤ length rows - p → (v : ℕ) → v ≡ get_or rows (p + 1) 0 → 16 ≤ v → Accepting rows (p + 6) out
  accepting_past h v e past =
      noted_at out h (λ q k. sym (ap (λ b. has_state out q || b) (ne_eqb q (get_or rows (p + 1) 0) (λ x. omega arith)) ∙ or_false (has_state out q)))

  pub accepting_noted : 6 ≤ length rows - p → (v : ℕ) → v ≡ get_or rows (p + 1) 0 → v < 16
      → Accepting rows (p + 6) (bit_or out (1 * 2 ^ v % 18446744073709551616))
  accepting_noted h v e few =
      noted_at (bit_or out (1 * 2 ^ v % 18446744073709551616)) h
      (λ q k. states_or out (1 * 2 ^ v % 18446744073709551616) q
      ∙ ap (λ b. has_state out q || b) (ap (λ x. has_state x q) (one_shifted v (omega arith)) ∙ states_one v q few ∙ ap (eqb q) e))

  pub accepting_all : length rows - p < 6 → (q : ℕ) → q < 16 → has_state out q ≡ accepted (rows_of rows) q
  unfolding accepted
  accepting_all h q k = any_all (λ (row : Row). value row 0) (eqb q) rows p (has_state out q) (accepted (rows_of rows) q) h (so.each q k)

-- preferred ends: which two ends a row has
same_number : (x y : ℕ) → same_end (end_of x) (end_of y) ≡ eqb x y
unfolding same_end end_of
same_number zero zero = refl
same_number zero (suc y) = sym (ne_eqb zero (suc y) (λ e. omega arith))
same_number (suc x) zero = sym (ne_eqb (suc x) zero (λ e. omega arith))
same_number (suc x) (suc y) =
    ⊎_elim (λ (e : eqb x y ≡ true). e ∙ sym (eq-eqb (suc x) (suc y) (ap suc (eqb-true x y e))))
    (λ (e : eqb x y ≡ false). e ∙ sym (ne_eqb (suc x) (suc y) (λ z. eqb-false x y e (omega arith))))
    (Two (eqb x y))

preferring : ℕ → ℕ → OrderPair → Bool
preferring a c row = same_end row.less (end_of a) && same_end row.more (end_of c)

row_prefers : (rows : List ℕ) (p a c : ℕ) → preferring a c (order_pair_of (row_of (drop p rows))) ≡ (eqb (get_or rows (p + 1) 0) a && eqb (get_or rows (p + 2) 0) c)
unfolding preferring order_pair_of
row_prefers rows p a c = rw (row_cells rows p, same_number (get_or rows (p + 1) 0) a, same_number (get_or rows (p + 2) 0) c)

pub record Better (rows : List ℕ) (p : ℕ) (t : List ℕ) : Type 0 where
  pub within : p ≤ length rows
  pub size : length t ≡ 9
  pub each : (a c : ℕ) → a < 9 → c < 9 → (has_bit (get_or t c 0) a || preferred_by (map order_pair_of (rows_of (drop p rows))) (end_of a) (end_of c))
      ≡ preferred_by (map order_pair_of (rows_of rows)) (end_of a) (end_of c)

pub better_none : (rows : List ℕ) → Better rows 0 (replicate 9 0)
better_none rows = record {
  within = omega arith;
  size = length-replicate {A = ℕ} 9 0;
  each = λ a c h k. rw (get_or-replicate {A = ℕ} 9 c 0 0 k, bits_none a);
}

-- the place of an end, by the end's cases
module _ (e : End) where
  pub end_stop : e ≡ Stop → Some 0 ≡ end_place e
  unfolding end_place
  end_stop is = rw is

  module _ (l : ℕ) (t : Option ℕ) (is : e ≡ Label l t) where
    pub end_none : 8 ≤ l → None ≡ end_place e
    unfolding end_place
    end_none h = rw (is, le-ltb l 8 h, end_place)

    pub end_label : l < 8 → Some (l + 1) ≡ end_place e
    unfolding end_place
    end_label h = rw (is, lt-ltb l 8 h, end_place, add-one l)

-- an end's place is its cell, if that is one of the nine; else it has none
end_in : (cell : ℕ) → cell < 9 → end_place (row_end cell) ≡ Some cell
unfolding row_end end_place
end_in zero h = refl
end_in (suc n) h = rw (lt-ltb n 8 (omega arith), end_place, add-one n)

end_out : (cell : ℕ) → 9 ≤ cell → end_place (row_end cell) ≡ None
unfolding row_end end_place
end_out zero h = absurd (omega arith)
end_out (suc n) h = rw (le-ltb n 8 (omega arith), end_place)

module _ (cell : ℕ) where
  pub end_past : end_place (row_end cell) ≡ None → 9 ≤ cell
  end_past e = ⊎_elim (λ k. absurd (none-some cell (sym e ∙ end_in cell k))) (λ k. k) (below_or cell 9)

  pub end_cell : (r : ℕ) → end_place (row_end cell) ≡ Some r → (r ≡ cell) × (cell < 9)
  end_cell r e =
      ⊎_elim (λ k. (same_Some r cell (sym e ∙ end_in cell k), k)) (λ k. absurd (none-some r (sym (end_out cell k) ∙ e))) (below_or cell 9)

module _ (rows : List ℕ) (p : ℕ) (t : List ℕ) (so : Better rows p t) where
  abbrev less : ℕ
  less = get_or rows (p + 1) 0

  abbrev more : ℕ
  more = get_or rows (p + 2) 0

  better_at : (next : List ℕ) → 6 ≤ length rows - p → length next ≡ 9
      → ((a c : ℕ) → a < 9 → c < 9 → has_bit (get_or next c 0) a ≡ (has_bit (get_or t c 0) a || (eqb less a && eqb more c))) → Better rows (p + 6) next
  unfolding preferred_by preferring
  better_at next h size e = record {
    within = omega arith;
    size = size;
    each = λ a c m k.
        any_noted order_pair_of (preferring a c) rows p (has_bit (get_or t c 0) a) (has_bit (get_or next c 0) a) (preferred_by (map order_pair_of (rows_of rows)) (end_of a) (end_of c)) h
        (e a c m k ∙ ap (λ b. has_bit (get_or t c 0) a || b) (sym (row_prefers rows p a c))) (so.each a c m k);
  }

  pub better_past : 6 ≤ length rows - p → (9 ≤ less) ⊎ (9 ≤ more) → Better rows (p + 6) t
  better_past h past =
      better_at t h so.size (λ a c m k. sym (ap (λ b. has_bit (get_or t c 0) a || b) (none a c m k past) ∙ or_false (has_bit (get_or t c 0) a)))
    where
      none : (a c : ℕ) → a < 9 → c < 9 → (9 ≤ less) ⊎ (9 ≤ more) → (eqb less a && eqb more c) ≡ false
      none a c m k (inl x) = and_first (eqb less a) (eqb more c) (ne_eqb less a (λ e. omega arith))
      none a c m k (inr x) = and_second (eqb less a) (eqb more c) (ne_eqb more c (λ e. omega arith))

  pub better_noted : 6 ≤ length rows - p → less < 9 → more < 9
      → Better rows (p + 6) (set t more (bit_or (get_or t more 0) (1 * 2 ^ less % 18446744073709551616)))
  better_noted h x y =
      better_at (set t more (bit_or (get_or t more 0) (1 * 2 ^ less % 18446744073709551616))) h (length-set t more (bit_or (get_or t more 0) (1 * 2 ^ less % 18446744073709551616)) ∙ so.size)
      (λ a c m k. ⊎_elim (λ (e : eqb more c ≡ true). own a c m k e) (λ (e : eqb more c ≡ false). other a c m k e) (Two (eqb more c)))
    where
      put : ℕ
      put = bit_or (get_or t more 0) (1 * 2 ^ less % 18446744073709551616)

      own : (a c : ℕ) → a < 9 → c < 9 → eqb more c ≡ true → has_bit (get_or (set t more put) c 0) a ≡ (has_bit (get_or t c 0) a || (eqb less a && eqb more c))
      own a c m k e =
          let same : more ≡ c = eqb-true more c e in
          let size = so.size in
          ap (λ x. has_bit (get_or (set t more put) x 0) a) (sym same)
          ∙ ap (λ x. has_bit x a) (get_or-set_same t more put 0 (omega arith))
          ∙ bits_or (get_or t more 0) (1 * 2 ^ less % 18446744073709551616) a
          ∙ ap (λ b. has_bit (get_or t more 0) a || b)
          (ap (λ x. has_bit x a) (one_shifted less (omega arith)) ∙ bits_one less a (omega arith) (omega arith) ∙ flip a less ∙ sym (and_true (eqb less a) (eqb more c) e))
          ∙ ap (λ x. has_bit (get_or t x 0) a || (eqb less a && eqb more c)) same

      other : (a c : ℕ) → a < 9 → c < 9 → eqb more c ≡ false → has_bit (get_or (set t more put) c 0) a ≡ (has_bit (get_or t c 0) a || (eqb less a && eqb more c))
      other a c m k e =
          ap (λ x. has_bit x a) (get_or-set_other t more c put 0 (λ z. eqb-false more c e (sym z)))
          ∙ sym (ap (λ b. has_bit (get_or t c 0) a || b) (and_second (eqb less a) (eqb more c) e) ∙ or_false (has_bit (get_or t c 0) a))

  pub better_all : length rows - p < 6 → BetterIs (rows_of rows) t
  unfolding preferred_by preferring
  better_all h = record {
    size = so.size;
    each = λ a c m k. any_all order_pair_of (preferring a c) rows p (has_bit (get_or t c 0) a) (preferred_by (map order_pair_of (rows_of rows)) (end_of a) (end_of c)) h (so.each a c m k);
  }

-- transitions, from the last row up
module _ (rows : List ℕ) (p : ℕ) where
  abbrev state : ℕ
  state = get_or rows (p + 1) 0

  abbrev label : ℕ
  label = get_or rows (p + 2) 0

  abbrev next : ℕ
  next = get_or rows (p + 3) 0

  next_own : 6 ≤ length rows - p → (q l : ℕ) → state ≡ q → label ≡ l → next_by (map transition_of (rows_of (drop p rows))) q l ≡ some next
  unfolding next_by transition_of
  next_own h q l a b =
      let both : (eqb state q && eqb label l) ≡ true = and_rest (eqb state q) (eqb label l) (eq-eqb state q a) ∙ eq-eqb label l b in
      rw (rows_next rows p h, row_cells rows p, both, next_by) (ap (λ (row : Row). some (value row 2)) (row_cells rows p))

  cell_own : 6 ≤ length rows - p → (i : ℕ) → state ≡ i / 8 → label ≡ i % 8 → transition_cell (rows_of (drop p rows)) i ≡ next
  unfolding transition_cell state_cell
  cell_own h i a b = ap state_cell (next_own h (i / 8) (i % 8) a b)

  cell_other : 6 ≤ length rows - p → (i : ℕ) → (eqb state (i / 8) && eqb label (i % 8)) ≡ false
      → transition_cell (rows_of (drop p rows)) i ≡ transition_cell (rows_of (drop (p + 6) rows)) i
  unfolding transition_cell next_by transition_of
  cell_other h i e = rw (rows_next rows p h, row_cells rows p, e, next_by)

pub record Stepping (rows : List ℕ) (p : ℕ) (t : List ℕ) : Type 0 where
  pub within : p ≤ length rows
  pub whole : p % 6 ≡ 0
  pub size : length t ≡ 128
  pub each : (i : ℕ) → i < 128 → get_or t i 16 ≡ transition_cell (rows_of (drop p rows)) i

pub stepping_none : (rows : List ℕ) (p : ℕ) → p ≡ length rows / 6 * 6 → Stepping rows p (replicate 128 16)
unfolding transition_cell next_by state_cell
stepping_none rows p e = record {
  within = omega arith;
  whole = omega arith;
  size = length-replicate {A = ℕ} 128 16;
  each = λ i h. rw (rows_none rows p (omega arith)) (get_or-replicate {A = ℕ} 128 i 16 16 h);
}

-- a row's place is that of its state and label, if both are in range; else it has none
pub place_in : (q l : ℕ) → q < 16 → l < 8 → transition_place q l ≡ Some (q * 8 + l)
unfolding transition_place
place_in q l h k = rw (and_rest (ltb q 16) (ltb l 8) (lt-ltb q 16 h) ∙ lt-ltb l 8 k, transition_place)

pub place_no_state : (q l : ℕ) → 16 ≤ q → transition_place q l ≡ None
unfolding transition_place
place_no_state q l h = rw (and_first (ltb q 16) (ltb l 8) (le-ltb q 16 h), transition_place)

pub place_no_label : (q l : ℕ) → 8 ≤ l → transition_place q l ≡ None
unfolding transition_place
place_no_label q l h = rw (and_second (ltb q 16) (ltb l 8) (le-ltb l 8 h), transition_place)

pub record PlaceIs (q l i : ℕ) : Type 0 where
  pub state : q < 16
  pub label : l < 8
  pub is : i ≡ q * 8 + l

pub place_some : (q l i : ℕ) → transition_place q l ≡ Some i → PlaceIs q l i
place_some q l i e =
    ⊎_elim
    (λ (a : q < 16). ⊎_elim (λ (b : l < 8). record { state = a; label = b; is = same_Some i (q * 8 + l) (sym e ∙ place_in q l a b) })
    (λ (b : 8 ≤ l). absurd (none-some i (sym (place_no_label q l b) ∙ e)))
    (below_or l 8))
    (λ (a : 16 ≤ q). absurd (none-some i (sym (place_no_state q l a) ∙ e)))
    (below_or q 16)

pub place_none : (q l : ℕ) → transition_place q l ≡ None → (16 ≤ q) ⊎ (8 ≤ l)
place_none q l e =
    ⊎_elim
    (λ (a : q < 16). ⊎_elim (λ (b : l < 8). absurd (none-some (q * 8 + l) (sym e ∙ place_in q l a b))) (λ (b : 8 ≤ l). inr b) (below_or l 8))
    (λ (a : 16 ≤ q). inl a)
    (below_or q 16)

module _ (rows : List ℕ) (p : ℕ) (t : List ℕ) (so : Stepping rows (p + 6) t) where
  inside : 6 ≤ length rows - p
  inside = let w = so.within in omega arith

  stepping_at : (new : List ℕ) → length new ≡ 128 → ((i : ℕ) → i < 128 → get_or new i 16 ≡ transition_cell (rows_of (drop p rows)) i) → Stepping rows p new
  stepping_at new size each = let w = so.within in let d = so.whole in record { within = omega arith; whole = omega arith; size = size; each = each }

  stepping_past : transition_place (state rows p) (label rows p) ≡ None → Stepping rows p t
  stepping_past past = stepping_at t so.size (λ i h. so.each i h ∙ sym (cell_other rows p inside i (none i h (place_none (state rows p) (label rows p) past))))
    where
      none : (i : ℕ) → i < 128 → (16 ≤ state rows p) ⊎ (8 ≤ label rows p) → (eqb (state rows p) (i / 8) && eqb (label rows p) (i % 8)) ≡ false
      none i h (inl a) = and_first (eqb (state rows p) (i / 8)) (eqb (label rows p) (i % 8)) (ne_eqb (state rows p) (i / 8) (λ e. omega arith))
      none i h (inr b) = and_second (eqb (state rows p) (i / 8)) (eqb (label rows p) (i % 8)) (ne_eqb (label rows p) (i % 8) (λ e. omega arith))

  module _ (place : ℕ) (has : transition_place (state rows p) (label rows p) ≡ Some place) where
    so_placed : PlaceIs (state rows p) (label rows p) place
    so_placed = place_some (state rows p) (label rows p) place has

    stepping_put : Stepping rows p (set t place (next rows p))
    stepping_put = stepping_at (set t place (next rows p)) (length-set t place (next rows p) ∙ so.size) each
      where
        other : (i : ℕ) → (i ≡ place → ⊥) → (eqb (state rows p) (i / 8) && eqb (label rows p) (i % 8)) ≡ false
        other i n =
            not_true (eqb (state rows p) (i / 8) && eqb (label rows p) (i % 8))
            (λ e.
            let a = eqb-true (state rows p) (i / 8) (and_left (eqb (state rows p) (i / 8)) (eqb (label rows p) (i % 8)) e) in
            let b = eqb-true (label rows p) (i % 8) (and_right (eqb (state rows p) (i / 8)) (eqb (label rows p) (i % 8)) e) in
            let z = so_placed.is in
            n (omega arith))

        each : (i : ℕ) → i < 128 → get_or (set t place (next rows p)) i 16 ≡ transition_cell (rows_of (drop p rows)) i
        each i h =
            ⊎_elim
            (λ (e : eqb i place ≡ true).
            let same : i ≡ place = eqb-true i place e in
            let size = so.size in
            let z = so_placed.is in
            let few = so_placed.label in
            let own = cell_own rows p inside i (omega arith) (omega arith) in
            ap (λ x. get_or (set t place (next rows p)) x 16) same ∙ get_or-set_same t place (next rows p) 16 (omega arith) ∙ sym own)
            (λ (e : eqb i place ≡ false).
            let n : i ≡ place → ⊥ = eqb-false i place e in
            get_or-set_other t place i (next rows p) 16 n ∙ so.each i h ∙ sym (cell_other rows p inside i (other i n)))
            (Two (eqb i place))

-- by the number of the row above which the rows were passed
module _ (rows : List ℕ) (i : ℕ) (t : List ℕ) (so : Stepping rows ((i + 1) * 6) t) where
  moved : Stepping rows (i * 6 + 6) t
  moved = let e : (i + 1) * 6 ≡ i * 6 + 6 = omega arith in rw e at so

  pub stepped_past : transition_place (state rows (i * 6)) (label rows (i * 6)) ≡ None → Stepping rows (i * 6) t
  stepped_past past = stepping_past rows (i * 6) t moved past

  pub stepped : (place v : ℕ) → transition_place (state rows (i * 6)) (label rows (i * 6)) ≡ Some place → v ≡ next rows (i * 6) → Stepping rows (i * 6) (set t place v)
  stepped place v e same = rw same (stepping_put rows (i * 6) t moved place e)

pub stepping_all : (rows : List ℕ) (p : ℕ) (t : List ℕ) → Stepping rows p t → p < 6 → t ≡ transition_cells (rows_of rows)
unfolding transition_cells
stepping_all rows p t so h =
    let w = so.whole in
    let e : p ≡ 0 = omega arith in
    tabulate_is (transition_cell (rows_of rows)) 128 16 t so.size (λ i k. so.each i k ∙ ap (λ n. transition_cell (rows_of (drop n rows)) i) e)
