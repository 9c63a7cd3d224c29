-- The list of the way back: it has each number once, and takes the new numbers back. Assumes
-- nothing.
use Prim.Native.Nat.{ℕ, zero, suc, ◌≤◌, ◌<◌}
use mathlib.Core.Path.{◌≡◌, refl, sym, ap, subst, ◌∙◌}
use mathlib.Core.List.{List, [], ◌∷◌, map}
use mathlib.Core.Logic.{⊎_elim}
use native.Mathlib.Omega.{arith}
use lib.ListN.{length, get_or, length-append, length-map, get_or-append}
use lib.Seq.{ext_get_or, get_or_at}
use Rattle.scope_graph.specs.Language.{◌∈◌}
use Rattle.scope_graph.specs.Path.{Distinct}
use Rattle.scope_graph.specs.Listing.{Pairwise}
use Rattle.scope_graph.specs.Readers.{numbers_below}
use Rattle.scope_graph.specs.Renamed.{new_number, old_number, Renumbers}
use Rattle.scope_graph.proofs.Lists.{here, there, map_elim}
use Rattle.scope_graph.proofs.Numbering.{by_list}
use Rattle.scope_graph.proofs.Readers.{numbers_elim, numbers_ascend}
use Rattle.graph_table.proofs.Tests.{below_or}
use Rattle.renumbered.specs.Renumbered.{EachOnce, back_of}

-- the numbers below n, by place
numbers_length : (n : ℕ) → length (numbers_below n) ≡ n
unfolding numbers_below
numbers_length zero = refl
numbers_length (suc n) = let e = length-append (numbers_below n) (n ∷ []) in let s = numbers_length n in omega arith

numbers_at : (n i : ℕ) → i < n → get_or (numbers_below n) i 0 ≡ i
unfolding numbers_below
numbers_at zero i h = absurd (omega arith)
numbers_at (suc n) i h =
    let long = numbers_length n in
    ⊎_elim (λ (l : i < n). get_or-append (numbers_below n) (n ∷ []) 0 i (omega arith) ∙ numbers_at n i l)
    (λ (l : n ≤ i). let e : n ≡ i = omega arith in get_or_at (numbers_below n) n [] 0 i (omega arith) ∙ e)
    (below_or i n)

map_at : (f : ℕ → ℕ) (l : List ℕ) (i : ℕ) → i < length l → get_or (map f l) i 0 ≡ f (get_or l i 0)
map_at f [] i h = absurd (omega arith)
map_at f (x ∷ l) zero h = refl
map_at f (x ∷ l) (suc i) h = map_at f l i (omega arith)

pub renumbers : (n : ℕ) (was : List ℕ) → EachOnce n was → Renumbers n (new_number was) (old_number was)
renumbers n was o = by_list n was o.count o.distinct o.below

pub back_length : (was : List ℕ) → length (back_of was) ≡ length was
unfolding back_of
back_length was = length-map (numbers_below (length was)) (new_number was) ∙ numbers_length (length was)

back_at : (was : List ℕ) (i : ℕ) → i < length was → get_or (back_of was) i 0 ≡ new_number was i
unfolding back_of
back_at was i h =
    let long = numbers_length (length was) in
    map_at (new_number was) (numbers_below (length was)) i (omega arith) ∙ ap (new_number was) (numbers_at (length was) i h)

-- numbers that ascend, below n, are under a renumbering all different
distinct_new : (n : ℕ) (f b : ℕ → ℕ) → Renumbers n f b → (l : List ℕ) → Pairwise ◌<◌ l → ((x : ℕ) → x ∈ l → x < n) → Distinct (map f l)
distinct_new n f b r [] p h = tt
distinct_new n f b r (x ∷ l) p h = (
  (λ m.
      let u = map_elim f l m in
      let same : x ≡ u.0 = sym (r.back x (h x here)) ∙ ap b u.2 ∙ r.back u.0 (h u.0 (there u.1)) in
      let less = p.0 u.0 u.1 in
      omega arith),
  distinct_new n f b r l p.1 (λ y m. h y (there m)),
)

module _ (n : ℕ) (was : List ℕ) (o : EachOnce n was) where
  within : (x : ℕ) → x ∈ numbers_below (length was) → x < n
  within x m = let z = numbers_elim (length was) x m in let c = o.count in omega arith

  pub back_once : EachOnce n (back_of was)
  unfolding back_of
  back_once = record {
    count = back_length was ∙ o.count;
    distinct = distinct_new n (new_number was) (old_number was) (renumbers n was o) (numbers_below (length was)) (numbers_ascend (length was)) within;
    below = λ x m.
        let u = map_elim (new_number was) (numbers_below (length was)) m in
        subst (λ (v : ℕ). v < n) (sym u.2) ((renumbers n was o).new_below u.0 (within u.0 u.1));
  }

  -- it takes a new number to the old one
  pub back_new : (x : ℕ) → x < n → new_number (back_of was) (new_number was x) ≡ x
  back_new x h =
      let c = o.count in
      ap (new_number (back_of was)) (sym (back_at was x (omega arith))) ∙ (renumbers n (back_of was) back_once).forth x h

  pub back_old : (i : ℕ) → i < n → new_number (back_of was) i ≡ old_number was i
  back_old i h =
      let r = renumbers n was o in
      ap (new_number (back_of was)) (sym (r.forth i h)) ∙ back_new (old_number was i) (r.old_below i h)

  pub back_twice : back_of (back_of was) ≡ was
  back_twice =
      let c = o.count in
      let one = back_length was in
      let two = back_length (back_of was) in
      ext_get_or 0 (back_of (back_of was)) was (two ∙ one) (λ i h. back_at (back_of was) i (omega arith) ∙ back_old i (omega arith))
