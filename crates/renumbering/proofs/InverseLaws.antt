-- The list of the way back, filled place by place. Assumes nothing.
use Prim.Native.Nat.{ℕ, zero, suc, ◌+◌, ◌-◌, ◌≤◌, ◌<◌}
use mathlib.Core.Path.{◌≡◌, refl, sym, ap, ◌∙◌}
use mathlib.Core.Logic.{⊎_elim}
use mathlib.Core.List.{List, ◌++◌}
use native.Mathlib.Omega.{arith}
use lib.Dec.{eqb}
use lib.ListN.{length, get_or, set, drop, replicate, length-set, length-append, length-drop, length-replicate, get_or-append}
use lib.Seq.{ext_get_or, get_or-set_same, get_or-set_other, get_or-append-add, get_or-drop}
use borrow.Author.Tests.{eqb-true, eqb-false}
use Rattle.scope_graph.specs.Renamed.{new_number, old_number, Renumbers}
use Rattle.scope_graph.proofs.Lists.{Two}
use Rattle.graph_rows.specs.Format.{most_scopes}
use Rattle.graph_table.proofs.Tests.{below_or}
use Rattle.board.proofs.Queries.{get_d_in}
use Rattle.renumbered.specs.Renumbered.{EachOnce, back_of}
use Rattle.renumbered.proofs.BackList.{renumbers, back_length, back_once, back_old, back_twice}
use Rattle.was.specs.Cells.{at_front, in_cells}

zero_at : (k i : ℕ) → ◌≡◌ {A = ℕ} (get_or (replicate k 0) i 0) 0
zero_at zero i = refl
zero_at (suc k) zero = refl
zero_at (suc k) (suc i) = zero_at k i

-- the places of the list's first i numbers are there, and past the list only zeros
pub record Filled (list cells : List ℕ) (i : ℕ) : Type 0 where
  pub size : length cells ≡ most_scopes
  pub there : (x : ℕ) → x < length list → new_number list x < i → get_or cells x 0 ≡ new_number list x
  pub past : (x : ℕ) → length list ≤ x → get_or cells x 0 ≡ 0

pub filled_start : (list : List ℕ) → Filled list (replicate most_scopes 0) 0
filled_start list = record {
  size = length-replicate {A = ℕ} most_scopes 0;
  there = λ x h k. absurd (omega arith);
  past = λ x h. zero_at most_scopes x;
}

module _ (list cells : List ℕ) (i : ℕ) (once : EachOnce (length list) list) (h : i < length list) where
  r : Renumbers (length list) (new_number list) (old_number list)
  r = renumbers (length list) list once

  pub number_below : get_or list i 0 < length list
  number_below = once.below (get_or list i 0) (get_d_in list i 0 h)

  pub filled_next : length list ≤ most_scopes → Filled list cells i → Filled list (set cells (get_or list i 0) i) (i + 1)
  filled_next most so =
      let low = number_below in
      let size = so.size in record {
        size = length-set cells (get_or list i 0) i ∙ so.size;
        there = λ x k l.
            ⊎_elim (λ t. let e = eqb-true x (get_or list i 0) t in
            let own : new_number list x ≡ i = ap (new_number list) e ∙ r.forth i h in
            ap (λ (y : ℕ). get_or (set cells (get_or list i 0) i) y 0) e ∙ get_or-set_same cells (get_or list i 0) i 0 (omega arith) ∙ sym own)
            (λ t. let ne = eqb-false x (get_or list i 0) t in
            let other : ¬ (new_number list x ≡ i) = λ e. ne (sym (r.back x k) ∙ ap (λ (j : ℕ). get_or list j 0) e) in
            get_or-set_other cells (get_or list i 0) x i 0 ne ∙ so.there x k (omega arith))
            (Two (eqb x (get_or list i 0)));
        past = λ x k. get_or-set_other cells (get_or list i 0) x i 0 (λ e. omega arith) ∙ so.past x k;
      }

module _ (list cells : List ℕ) (once : EachOnce (length list) list) (most : length list ≤ most_scopes) (i : ℕ) (all : length list ≤ i) (so : Filled list cells i) where
  long : length (in_cells (back_of list)) ≡ most_scopes
  unfolding in_cells at_front
  long =
      let n = back_length list in
      let a = length-append (back_of list) (drop (length (back_of list)) (replicate {A = ℕ} most_scopes 0)) in
      let d = length-drop {A = ℕ} (length (back_of list)) (replicate most_scopes 0) in
      let z = length-replicate {A = ℕ} most_scopes 0 in
      omega arith

  front : (x : ℕ) → x < length list → get_or (in_cells (back_of list)) x 0 ≡ new_number list x
  unfolding in_cells at_front
  front x h =
      let n = back_length list in
      get_or-append (back_of list) (drop (length (back_of list)) (replicate most_scopes 0)) 0 x (omega arith)
      ∙ sym (back_old (length list) (back_of list) (back_once (length list) list once) x h)
      ∙ ap (λ (l : List ℕ). new_number l x) (back_twice (length list) list once)

  rest : (x : ℕ) → length list ≤ x → get_or (in_cells (back_of list)) x 0 ≡ 0
  unfolding in_cells at_front
  rest x h =
      let n = back_length list in
      let e : x ≡ length (back_of list) + (x - length (back_of list)) = omega arith in
      ap (λ (k : ℕ). get_or (back_of list ++ drop (length (back_of list)) (replicate most_scopes 0)) k 0) e
      ∙ get_or-append-add (back_of list) (drop (length (back_of list)) (replicate most_scopes 0)) (x - length (back_of list)) 0
      ∙ get_or-drop (length (back_of list)) (replicate most_scopes 0) (x - length (back_of list)) 0
      ∙ zero_at most_scopes (length (back_of list) + (x - length (back_of list)))

  pub filled_all : cells ≡ in_cells (back_of list)
  filled_all =
      ext_get_or 0 cells (in_cells (back_of list)) (so.size ∙ sym long)
      (λ x h. ⊎_elim
      (λ (k : x < length list).
      let low = (renumbers (length list) list once).new_below x k in so.there x k (omega arith) ∙ sym (front x k))
      (λ (k : length list ≤ x). so.past x k ∙ sym (rest x k)) (below_or x (length list)))
