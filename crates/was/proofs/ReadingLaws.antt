-- Reading the list's text, step by step. Assumes nothing.
use Prim.Native.Nat.{ℕ, suc, ◌+◌, ◌≤◌, ◌<◌}
use mathlib.Core.Path.{◌≡◌, refl, sym, ap, ◌∙◌}
use mathlib.Core.Bool.{Bool, true, false, ◌||◌}
use mathlib.Core.List.{List, [], ◌∷◌, ◌++◌}
use native.Mathlib.Omega.{arith}
use lib.Dec.{eqb, leb}
use lib.ListN.{length, get_or, take, drop}
use lib.Pointwise.{pointwise}
use lib.Seq.{drop-drop}
use borrow.Author.Tests.{eq-eqb, ne_eqb, le-leb, lt-leb}
use Rattle.text_field.specs.Number.{number_here, number_placed, number_meaning}
use Rattle.text_field.specs.Outcome.{refused, done, and_then, refuse_if}
use Rattle.std.specs.declared.option.Option.{Option}
use Rattle.std.specs.declared.option.Option.TheVariants.{Some, None}
use Rattle.text_field.proofs.Steps.{drop_next, drop_end}
use Rattle.graph_rows.specs.Way.{starts_with, is_empty}
use Rattle.graph_file.proofs.SoughtStart.{placed_number, unplaced_number}
use Rattle.was.proofs.ListedLaws.{either_way}
use Rattle.was.specs.Order.{is_listed}
use Rattle.was.specs.WasText.{begins_with, ended_by, line_number, numbers_after}

-- the names line, as std's test has it
pub begins_is : (names text : List ℕ) → pointwise eqb names (take (length names) text) ≡ begins_with names text
unfolding begins_with
begins_is [] text = refl
begins_is (x ∷ names) [] = refl
begins_is (x ∷ names) (y ∷ text) = rw (either_way x y, begins_is names text)

-- a number and the LF after it
starts_none : (b : ℕ) (text : List ℕ) (i : ℕ) → length text ≤ i → starts_with b (drop i text) ≡ false
unfolding starts_with
starts_none b text i h = ap (starts_with b) (drop_end text i h)

starts_at : (b : ℕ) (text : List ℕ) (i : ℕ) → i < length text → starts_with b (drop i text) ≡ eqb (get_or text i 0) b
unfolding starts_with
starts_at b text i h = ap (starts_with b) (drop_next text i h)

module _ (text : List ℕ) (at : ℕ) where
  pub line_none : None ≡ number_placed at (number_here (drop at text)) → None ≡ number_placed at (line_number (drop at text))
  unfolding line_number ended_by number_placed
  line_none e = sym (ap (λ (r : Option (ℕ × ℕ)). number_placed at (ended_by (drop at text) r)) (unplaced_number (number_here (drop at text)) at e))

  module _ (v next : ℕ) (e : Some (v, next) ≡ number_placed at (number_here (drop at text))) where
    abbrev width : ℕ
    width = (placed_number (number_here (drop at text)) at v next e).0

    behind : drop width (drop at text) ≡ drop next text
    behind =
        let p = placed_number (number_here (drop at text)) at v next e in
        drop-drop width at text ∙ ap (λ (k : ℕ). drop k text) (sym p.2)

    line_by : (t : Bool) → starts_with 10 (drop next text) ≡ t
        → line_number (drop at text) ≡ (elim t as (λ _. Option (ℕ × ℕ)) [ true ↦ Some (v, (width + 1)) | false ↦ None ])
    unfolding line_number ended_by
    line_by t f =
        let p = placed_number (number_here (drop at text)) at v next e in
        ap (ended_by (drop at text)) p.1 ∙ rw (ap (starts_with 10) behind ∙ f, ended_by)

    pub line_ends_lem : length text ≤ next → None ≡ number_placed at (line_number (drop at text))
    unfolding number_placed
    line_ends_lem h = sym (ap (number_placed at) (line_by false (starts_none 10 text next h)))

    pub line_other : next < length text → (get_or text next 0 ≡ 10 → ⊥) → None ≡ number_placed at (line_number (drop at text))
    unfolding number_placed
    line_other h n = sym (ap (number_placed at) (line_by false (starts_at 10 text next h ∙ ne_eqb (get_or text next 0) 10 n)))

    pub line_there : next < length text → get_or text next 0 ≡ 10 → Some (v, (next + 1)) ≡ number_placed at (line_number (drop at text))
    unfolding number_placed
    line_there h n =
        let p = placed_number (number_here (drop at text)) at v next e in
        let q = p.2 in
        let z : at + (width + 1) ≡ next + 1 = omega arith in
        sym (ap (number_placed at) (line_by true (starts_at 10 text next h ∙ eq-eqb (get_or text next 0) 10 n)) ∙ ap (λ (k : ℕ). Some (v, k)) z)

-- the numbers in turn
module _ (n : ℕ) (listed text : List ℕ) where
  pub numbers_none : (left : ℕ) → line_number text ≡ None → numbers_after n (suc left) listed text ≡ refused 17
  unfolding numbers_after number_meaning and_then
  numbers_none left e = rw e

  module _ (left v width : ℕ) (e : line_number text ≡ Some (v, width)) where
    numbers_by : (t : Bool) → (leb n v || is_listed v listed) ≡ t
        → numbers_after n (suc left) listed text ≡ refuse_if t 17 (numbers_after n left (listed ++ (v ∷ [])) (drop width text))
    unfolding numbers_after number_meaning and_then
    numbers_by t f = rw (e, f)

    pub numbers_high : n ≤ v → numbers_after n (suc left) listed text ≡ refused 17
    unfolding refuse_if
    numbers_high h = numbers_by true (rw (le-leb n v h))

    pub numbers_twice : v < n → is_listed v listed ≡ true → numbers_after n (suc left) listed text ≡ refused 17
    unfolding refuse_if
    numbers_twice h t = numbers_by true (rw (lt-leb n v h, t))

    pub numbers_next : v < n → is_listed v listed ≡ false → numbers_after n (suc left) listed text ≡ numbers_after n left (listed ++ (v ∷ [])) (drop width text)
    unfolding refuse_if
    numbers_next h t = numbers_by false (rw (lt-leb n v h, t))

  pub numbers_over : text ≡ [] → numbers_after n 0 listed text ≡ done listed
  unfolding numbers_after is_empty refuse_if
  numbers_over e = rw e

pub numbers_more : (n : ℕ) (listed text : List ℕ) (p : ℕ) → p < length text → numbers_after n 0 listed (drop p text) ≡ refused 17
unfolding numbers_after is_empty refuse_if
numbers_more n listed text p h = rw (drop_next text p h)
