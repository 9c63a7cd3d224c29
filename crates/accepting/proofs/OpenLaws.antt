-- What may stand under `awaits`: an end by its byte, an open pair among the open rows. Assumes
-- nothing.
use Prim.Native.Nat.{ℕ, zero, suc, ◌+◌, ◌≤◌, ◌<◌}
use mathlib.Core.Path.{◌≡◌, refl, sym, ap, ◌∙◌}
use mathlib.Core.Bool.{Bool, true, false, ◌&&◌}
use mathlib.Core.Option.{some}
use mathlib.Core.List.{List, [], ◌∷◌, map}
use native.Mathlib.Numerals.{add-one}
use native.Mathlib.Omega.{arith}
use lib.Dec.{eqb}
use lib.ListN.{length, drop}
use borrow.Author.Tests.{eq-eqb, ne_eqb, eqb-true, eqb-false}
use Rattle.scope_graph.specs.Language.{End, by, Language}
use Rattle.scope_graph.specs.Graph.{Query, OpenPair}
use Rattle.scope_graph.specs.Rows.{language, any_of, same_end}
use Rattle.scope_graph.specs.Order.{end_of}
use Rattle.scope_graph.specs.Computed.{followed_at, awaits}
use Rattle.scope_graph.proofs.Lists.{any_of_elim}
use Rattle.text_field.proofs.ByteLaws.{both}
use Rattle.graph_rows.specs.Format.{open_section}
use Rattle.graph_rows.specs.Admission.{Row, value, row_of}
use Rattle.graph_rows.specs.Decode.{rows_in, rules_of, graph_of, letters_of, open_pair_of, opens_of}
use Rattle.graph_table.specs.declared.rows.OpenRow.{OpenRow}
use mathlib.Core.List.{◌++◌}
use Rattle.std.specs.declared.option.Option.{Option as Maybe}
use Rattle.std.specs.declared.option.Option.TheVariants.{Some, None as Nothing}
use Rattle.std.specs.Option.{is_none}
use Rattle.resolution.proofs.Chunks.{first_cell, after_chunk, chunk_whole}
use Rattle.graph_table.specs.Sections.{part_of, rows_of}
use Rattle.graph_table.specs.Values.{open_row}
use Rattle.graph_table.proofs.Parts.{rows_next, rows_none, value_cell}
use Rattle.block.specs.Block.{letter_cell}
use Rattle.board.proofs.Queries.{rows_are}
use Rattle.path_row.specs.Numbering.{number_from, label_number}
use Rattle.comparison.specs.Letters.{letters_from, block_letters}
use Rattle.comparison.proofs.LetterLaws.{letters_same}
use Rattle.resolution.specs.Asked.{Ready, query_in, followed_by, awaits_meaning}
use Rattle.resolution.proofs.Answers.{pair_is, open_small}
use Rattle.accepting.specs.Tests.{end_named, pair_named, is_open, is_settled, may_await}
use Rattle.accepting.specs.Steps.{has_open}

-- an end by its byte
module _ (letters : List ℕ) (x : ℕ) where
  pub end_mark : x ≡ 36 → end_of 0 ≡ end_named letters x
  unfolding end_named end_of
  end_mark e = rw (eq-eqb x 36 e, end_named)

  pub end_label : (x ≡ 36 → ⊥) → (l : ℕ) → l ≡ label_number letters x → end_of (l + 1) ≡ end_named letters x
  unfolding end_named end_of
  end_label n l e = rw (ne_eqb x 36 n, end_named, add-one l) (ap by e)

-- a letter's number is small
number_most : (n x : ℕ) (ys : List ℕ) → number_from n x ys ≤ n + length ys + x
unfolding number_from
number_most n x [] = omega arith
number_most n x (y ∷ ys) = to (eqb y x) (number_most (suc n) x ys)
  where
    to : (t : Bool) → number_from (suc n) x ys ≤ suc n + length ys + x → (elim t as (λ _. ℕ) [ true ↦ n | false ↦ number_from (suc n) x ys ]) ≤ n + suc (length ys) + x
    to true h = omega arith
    to false h = omega arith

letters_most : (block : List ℕ) (n l : ℕ) → length (letters_from block n l) ≤ n
unfolding letters_from
letters_most block zero l = omega arith
letters_most block (suc n) l = to (eqb (letter_cell block l) 0) (letters_most block n (suc l))
  where
    to : (t : Bool) → length (letters_from block n (suc l)) ≤ n
        → length {A = ℕ} (elim t as (λ _. List ℕ) [ true ↦ [] | false ↦ letter_cell block l ∷ letters_from block n (suc l) ]) ≤ suc n
    to true h = omega arith
    to false h = omega arith

pub label_small : (block : List ℕ) (x l : ℕ) → x < 256 → l ≡ label_number (block_letters block) x → l < 1000
unfolding label_number block_letters
label_small block x l h e =
    let a = number_most 0 x (letters_from block 8 0) in
    let b = letters_most block 8 0 in
    omega arith

-- the pair among the open rows, row by row
module _ (at end : ℕ) where
  abbrev is : Row → Bool
  is row = eqb (value row 0) at && eqb (value row 1) end

  module _ (t : List ℕ) where
    pub open_end : length t < 6 → false ≡ has_open at end (rows_of t)
    unfolding has_open any_of
    open_end h = rw (rows_none t 0 (omega arith))

    module _ (cells rest : List ℕ) (split : t ≡ cells ++ rest) (size : length cells ≡ 6) (row : OpenRow) (e : row ≡ open_row cells 0) where
      at_is : row.at ≡ value (row_of t) 0
      at_is = ap (λ (o : OpenRow). o.at) e ∙ sym (first_cell t cells rest split size 1 (omega arith)) ∙ sym (value_cell t 0 0 (omega arith))

      end_is : row.end ≡ value (row_of t) 1
      end_is = ap (λ (o : OpenRow). o.end) e ∙ sym (first_cell t cells rest split size 2 (omega arith)) ∙ sym (value_cell t 0 1 (omega arith))

      abbrev chosen : Bool → Bool
      chosen b = elim b as (λ _. Bool) [ true ↦ true | false ↦ has_open at end (rows_of rest) ]

      step : has_open at end (rows_of t) ≡ chosen (eqb row.at at && eqb row.end end)
      unfolding has_open any_of
      step =
          ap (has_open at end) (rows_next t 0 (let h = chunk_whole t cells rest split size in omega arith))
          ∙ ap (λ (x : ℕ). elim (eqb x at && eqb (value (row_of t) 1) end) as (λ _. Bool) [ true ↦ true | false ↦ has_open at end (rows_of (drop 6 t)) ]) (sym at_is)
          ∙ ap (λ (y : ℕ). elim (eqb row.at at && eqb y end) as (λ _. Bool) [ true ↦ true | false ↦ has_open at end (rows_of (drop 6 t)) ]) (sym end_is)
          ∙ ap (λ (l : List ℕ). elim (eqb row.at at && eqb row.end end) as (λ _. Bool) [ true ↦ true | false ↦ has_open at end (rows_of l) ]) (after_chunk t cells rest split size)

      pub open_here : row.at ≡ at → row.end ≡ end → true ≡ has_open at end (rows_of t)
      open_here a b = sym (step ∙ rw (eq-eqb row.at at a, eq-eqb row.end end b))

      pub open_scope : (row.at ≡ at → ⊥) → has_open at end (rows_of rest) ≡ has_open at end (rows_of t)
      open_scope n = sym (step ∙ rw (ne_eqb row.at at n))

      pub open_other : row.at ≡ at → (row.end ≡ end → ⊥) → has_open at end (rows_of rest) ≡ has_open at end (rows_of t)
      open_other a n = sym (step ∙ rw (eq-eqb row.at at a, ne_eqb row.end end n))

-- ends are the same exactly if their numbers are
end_same : (a b : ℕ) → eqb a b ≡ same_end (end_of a) (end_of b)
unfolding end_of same_end
end_same zero zero = refl
end_same zero (suc b) = ne_eqb 0 (suc b) (λ e. omega arith)
end_same (suc a) zero = ne_eqb (suc a) 0 (λ e. omega arith)
end_same (suc a) (suc b) = to (eqb a b) refl
  where
    to : (t : Bool) → eqb a b ≡ t → eqb (suc a) (suc b) ≡ t
    to true e = eq-eqb (suc a) (suc b) (ap suc (eqb-true a b e))
    to false e = ne_eqb (suc a) (suc b) (λ f. eqb-false a b e (let z : a ≡ b = omega arith in z))

module _ (cells block ask : List ℕ) (ready : Ready cells block ask) where
  abbrev L : Language
  L = language (rules_of cells)

  abbrev q : Query L
  q = query_in cells ask

  module _ (at end : ℕ) where
    abbrev o : OpenPair L
    o = record { at = at; end = end_of end }

    rows_open : (rows : List Row) → has_open at end rows ≡ any_of (λ (p : OpenPair L). eqb p.at at && same_end p.end (end_of end)) (map (open_pair_of (rules_of cells)) rows)
    unfolding has_open any_of open_pair_of
    rows_open [] = refl
    rows_open (row ∷ rows) =
        ap (λ (b : Bool). elim (eqb (value row 0) at && b) as (λ _. Bool) [ true ↦ true | false ↦ has_open at end rows ]) (end_same (value row 1) end)
        ∙ ap (λ (b : Bool). elim (eqb (value row 0) at && same_end (end_of (value row 1)) (end_of end)) as (λ _. Bool) [ true ↦ true | false ↦ b ]) (rows_open rows)

    module _ (opens : List ℕ) (part : opens ≡ part_of open_section cells) (b : Bool) (told : b ≡ has_open at end (rows_of opens)) where
      in_rows : b ≡ has_open at end (rows_in open_section cells)
      in_rows = told ∙ ap (λ (l : List ℕ). has_open at end (rows_of l)) part ∙ ap (has_open at end) (rows_are cells ready.asked.read open_section)

      pub open_is : b ≡ is_open cells o
      unfolding is_open opens_of
      open_is = in_rows ∙ rows_open (rows_in open_section cells)

      pub not_open : b ≡ false → false ≡ (is_open cells o && followed_at L (graph_of cells) q o)
      not_open e = sym (rw (sym open_is ∙ e))

      pub is_small : b ≡ true → (at < 64) × (end < 9)
      unfolding has_open
      is_small e =
          let m = any_of_elim (λ (row : Row). eqb (value row 0) at && eqb (value row 1) end) (rows_in open_section cells) (sym in_rows ∙ e) in
          let w = both (eqb (value m.0 0) at) (eqb (value m.0 1) end) m.2 in
          let s = open_small cells block ask ready m.0 m.1 in
          let x = s.scope in
          let y = s.end in
          let k = eqb-true (value m.0 0) at w.0 in
          let l = eqb-true (value m.0 1) end w.1 in
          (omega arith, omega arith)

      pub is_followed : b ≡ true → (r : Bool) → r ≡ followed_by block cells ask at end → r ≡ (is_open cells o && followed_at L (graph_of cells) q o)
      is_followed e r f =
          let s = is_small e in
          f ∙ pair_is cells block ask ready at end s.0 s.1 ∙ sym (rw (sym open_is ∙ e))

  -- nothing is awaited, or something is
  pub settled_is : (a : Maybe OpenRow) → awaits_meaning cells a ≡ awaits L (graph_of cells) q (opens_of cells)
      → is_none a ≡ is_settled cells (awaits L (graph_of cells) q (opens_of cells))
  unfolding awaits_meaning is_settled
  settled_is Nothing told = ap (is_settled cells) told
  settled_is (Some o) told = ap (is_settled cells) told

  -- a pair by its byte
  pub named_is : (at x end : ℕ) → end_of end ≡ end_named (block_letters block) x → (r : Bool)
      → r ≡ (is_open cells (record { at = at; end = end_of end }) && followed_at L (graph_of cells) q (record { at = at; end = end_of end }))
      → r ≡ may_await cells q (some (record { at = at; end = x }))
  unfolding may_await pair_named
  named_is at x end e r f =
      let same : end_of end ≡ end_named (letters_of cells) x = e ∙ ap (λ (l : List ℕ). end_named l x) (letters_same cells block ready.asked.read ready.made) in
      f ∙ ap (λ (y : End ℕ). is_open cells (record { at = at; end = y }) && followed_at L (graph_of cells) q (record { at = at; end = y })) same
