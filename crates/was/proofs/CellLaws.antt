-- A list at the front of cells, as it grows. Assumes nothing.
use Prim.Native.Nat.{ℕ, suc, ◌+◌, ◌-◌, ◌≤◌, ◌<◌}
use mathlib.Core.Path.{◌≡◌, sym, ap, ◌∙◌, subst}
use mathlib.Core.Bool.{true, false}
use mathlib.Core.List.{List, [], ◌∷◌, ◌++◌, append_assoc}
use native.Mathlib.Omega.{arith}
use lib.ListN.{length, set, take, drop, length-append, length-drop, take-append-drop}
use lib.Seq.{length-take-le, take-append_seam, drop-append-add, drop-drop, set_split}
use Rattle.graph_rows.specs.Format.{most_scopes}
use Rattle.was.specs.Order.{is_listed, with_new}
use Rattle.was.specs.Cells.{at_front, Scopes, Begins}
use Rattle.was.proofs.Growing.{scopes_size, scopes_room, Longer, longer_size, new_there, new_put}

pub front_size : (numbers cells : List ℕ) → length numbers ≤ length cells → length (at_front numbers cells) ≡ length cells
unfolding at_front
front_size numbers cells h =
    let a = length-append numbers (drop (length numbers) cells) in let b = length-drop (length numbers) cells in omega arith

pub front_take : (numbers cells : List ℕ) → take (length numbers) (at_front numbers cells) ≡ numbers
unfolding at_front
front_take numbers cells = take-append_seam numbers (drop (length numbers) cells)

-- a longer list put over a shorter one
pub front_front : (a b cells : List ℕ) → length a ≤ length b → at_front b (at_front a cells) ≡ at_front b cells
unfolding at_front
front_front a b cells h =
    let e : length b ≡ length a + (length b - length a) = omega arith in
    ap (λ (l : List ℕ). b ++ l)
    (ap (λ (k : ℕ). drop k (a ++ drop (length a) cells)) e
    ∙ drop-append-add a (drop (length a) cells) (length b - length a)
    ∙ drop-drop (length b - length a) (length a) cells
    ∙ ap (λ (k : ℕ). drop k cells) (sym e))

pub front_own : (n : ℕ) (cells : List ℕ) → n ≤ length cells → at_front (take n cells) cells ≡ cells
unfolding at_front
front_own n cells h = ap (λ (k : ℕ). take n cells ++ drop k cells) (length-take-le n cells h) ∙ take-append-drop n cells

-- one number more
pub front_more : (cells : List ℕ) (n x : ℕ) → n < length cells → set cells n x ≡ at_front (take n cells ++ (x ∷ [])) cells
unfolding at_front
front_more cells n x h =
    let l = length-take-le n cells (omega arith) in
    let a = length-append (take n cells) (x ∷ []) in
    let e : length (take n cells ++ (x ∷ [])) ≡ suc n = omega arith in
    set_split cells n x h
    ∙ sym (append_assoc (take n cells) (x ∷ []) (drop (suc n) cells))
    ∙ ap (λ (k : ℕ). (take n cells ++ (x ∷ [])) ++ drop k cells) (sym e)

pub more_size : (cells : List ℕ) (n x : ℕ) → n < length cells → n + 1 ≡ length (take n cells ++ (x ∷ []))
more_size cells n x h =
    let l = length-take-le n cells (omega arith) in let a = length-append (take n cells) (x ∷ []) in omega arith

-- What the cells hold so far, if they were `first` at the start: k different scopes.
pub record Held (first cells : List ℕ) (k : ℕ) : Type 0 where
  pub begins : Begins cells k
  pub is : cells ≡ at_front (take k cells) first

pub held_start : (cells : List ℕ) (k : ℕ) → Begins cells k → Held cells cells k
held_start cells k b = record { begins = b; is = let s = b.size in let m = b.most in sym (front_own k cells (omega arith)) }

module _ (first cells : List ℕ) (k : ℕ) (so : Held first cells k) (new after : List ℕ) (n : ℕ)
    (longer : Longer (take k cells) new) (s : Scopes most_scopes new) (count : n ≡ length new) (is : after ≡ at_front new cells) where
  pub held_take : take n after ≡ new
  held_take = ap (λ (l : List ℕ). take n l) is ∙ ap (λ (j : ℕ). take j (at_front new cells)) count ∙ front_take new cells

  pub held_grown : Held first after n
  held_grown = record {
    begins = let z = so.begins.size in let fits = scopes_size most_scopes new s in record {
      size = ap length is ∙ front_size new cells (omega arith) ∙ so.begins.size;
      most = omega arith;
      scopes = subst (λ (l : List ℕ). Scopes most_scopes l) (sym held_take) s;
    };
    is =
        is ∙ ap (λ (l : List ℕ). at_front new l) so.is
        ∙ front_front (take k cells) new first (longer_size (take k cells) new longer)
        ∙ ap (λ (l : List ℕ). at_front l first) (sym held_take);
  }

-- the cells hold all of a list
pub held_all : (first cells : List ℕ) (k : ℕ) (l : List ℕ) → Held first cells k → take k cells ≡ l → (k ≡ length l) × (cells ≡ at_front l first)
held_all first cells k l so e =
    let s = so.begins.size in
    let m = so.begins.most in
    (sym (length-take-le k cells (omega arith)) ∙ ap length e, so.is ∙ ap (λ (z : List ℕ). at_front z first) e)

-- a number put, or there already
module _ (cells : List ℕ) (n x : ℕ) (size : length cells ≡ most_scopes) (most : n ≤ most_scopes) where
  pub put_none : is_listed x (take n cells) ≡ true → (n ≡ length (with_new (take n cells) x)) × (cells ≡ at_front (with_new (take n cells) x) cells)
  put_none e = (
    sym (length-take-le n cells (omega arith)) ∙ ap length (sym (new_there (take n cells) x e)),
    sym (front_own n cells (omega arith)) ∙ ap (λ (l : List ℕ). at_front l cells) (sym (new_there (take n cells) x e)),
  )

  pub put_one : n < most_scopes → is_listed x (take n cells) ≡ false
      → (n + 1 ≡ length (with_new (take n cells) x)) × (set cells n x ≡ at_front (with_new (take n cells) x) cells)
  put_one h e = (
    more_size cells n x (omega arith) ∙ ap length (sym (new_put (take n cells) x e)),
    front_more cells n x (omega arith) ∙ ap (λ (l : List ℕ). at_front l cells) (sym (new_put (take n cells) x e)),
  )

-- there is a cell for a scope that is not listed yet
pub begun_room : (cells : List ℕ) (n x : ℕ) → Begins cells n → x < most_scopes → is_listed x (take n cells) ≡ false → n < most_scopes
begun_room cells n x b h e =
    let s = b.size in
    let m = b.most in
    let r = scopes_room most_scopes (take n cells) x b.scopes h e in
    let l = length-take-le n cells (omega arith) in
    omega arith
