-- A table of sections in turn, parted at one section: what the changes of its cells come to.
-- Assumes nothing.
use Prim.Native.Nat.{ℕ, suc, ◌+◌, ◌-◌, ◌≤◌, ◌<◌}
use mathlib.Core.Path.{◌≡◌, refl, sym, ap, subst, ◌∙◌}
use mathlib.Core.List.Memᴰ
use mathlib.Core.List.{List, [], ◌∷◌, ◌++◌, append_assoc}
use mathlib.Core.Bool.{Bool, true, false, ◌&&◌}
use mathlib.Core.Logic.{inl, inr, ⊎_elim}
use native.Mathlib.Omega.{arith}
use lib.Dec.{ltb, leb}
use lib.ListN.{length, get_or, drop, length-append}
use lib.Seq.{take_at, drop_at}
use borrow.Author.Tests.{eq-eqb, ne_eqb, lt-ltb, le-ltb, le-leb}
use Rattle.scope_graph.specs.Language.{◌∈◌}
use Rattle.scope_graph.proofs.Lists.{Two, here, true_false}
use Rattle.graph_rows.specs.Format.{section_at}
use Rattle.graph_rows.specs.Admission.{Row, row_of, key_less}
use Rattle.graph_rows.specs.Formed.{cells_of, cells_from, table_of, replaced}
use Rattle.graph_rows.proofs.DecodePlaces.{row_first}
use Rattle.graph_rows.specs.Way.{starts_with}
use Rattle.graph_table.specs.Sections.{start_of}
use Rattle.std.specs.declared.result.Result.TheVariants.{Ok, Err}
use Rattle.graph_change.specs.Cells.{spliced}
use Rattle.graph_change.specs.Place.{same_key, is_before, leading_rows, place_for, has_key, placed, place_in}
use Rattle.graph_change.specs.Changed.{inserted, removed, with_row, without_at, without_row, with_rows}
use Rattle.graph_change.specs.Promises.{Ascending, NoneLike, Found, FiveValues, RowPut, RowTaken, RowsPut, PlaceFound}
use Rattle.graph_change.proofs.Leading.{stop_row, pass_rows, leading_is}
use Rattle.graph_change.proofs.SectionLaws.{Five, cells_append, sections_add, sections_same, Front, front_rows, front_from, front_stops, pass_sections}
use Rattle.graph_change.proofs.Keys.{less_not_same, after_not_same, otherwise, less_then}
use Rattle.graph_change.proofs.RowLaws.{Stops, without, without_same, without_other, Parted, parted, ascending_below}

module _ (form : ℕ) (rows : ℕ → List Row) (five : FiveValues rows) (k : ℕ) (h : k < 9) where
  -- the cells before section k, and those after it
  abbrev front : List ℕ
  front = form ∷ cells_from k 0 rows

  abbrev back : List ℕ
  back = cells_from (8 - k) (suc k) rows

  -- the table with some rows for section k
  table_with : (new : List Row) → table_of form (replaced k new rows) ≡ front ++ (cells_of k new ++ back)
  unfolding table_of cells_from replaced
  table_with new =
      let one : 9 - k ≡ suc (8 - k) = omega arith in
      let before : cells_from k 0 (replaced k new rows) ≡ cells_from k 0 rows =
      sections_same k 0 (replaced k new rows) rows (λ i a b. rw (ne_eqb i k (λ e. omega arith), replaced) refl) in
      let after : cells_from (8 - k) (suc k) (replaced k new rows) ≡ back =
      sections_same (8 - k) (suc k) (replaced k new rows) rows (λ i a b. rw (ne_eqb i k (λ e. omega arith), replaced) refl) in
      let here_is : replaced k new rows k ≡ new = rw (eq-eqb k k refl, replaced) refl in
      ap (λ (l : List ℕ). form ∷ l) (
      sections_add k (9 - k) 9 0 k (replaced k new rows) (omega arith) (omega arith)
      ∙ ap (λ (n : ℕ). cells_from k 0 (replaced k new rows) ++ cells_from n k (replaced k new rows)) one
      ∙ ap (λ (l : List ℕ). l ++ (cells_of k (replaced k new rows k) ++ cells_from (8 - k) (suc k) (replaced k new rows))) before
      ∙ ap (λ (l : List ℕ). cells_from k 0 rows ++ (cells_of k (replaced k new rows k) ++ l)) after
      ∙ ap (λ (r : List Row). cells_from k 0 rows ++ (cells_of k r ++ back)) here_is
      )

  cells_is : cells_from 9 0 rows ≡ cells_from k 0 rows ++ (cells_of k (rows k) ++ back)
  unfolding cells_from
  cells_is =
      let one : 9 - k ≡ suc (8 - k) = omega arith in
      sections_add k (9 - k) 9 0 k rows (omega arith) (omega arith)
      ∙ ap (λ (n : ℕ). cells_from k 0 rows ++ cells_from n k rows) one

  table_is : table_of form rows ≡ front ++ (cells_of k (rows k) ++ back)
  unfolding table_of
  table_is = ap (λ (l : List ℕ). form ∷ l) cells_is

  back_front : Front (suc k) back
  back_front = front_from (8 - k) (suc k) rows (λ i a b. five i (omega arith))

  own_front : Front k (cells_of k (rows k) ++ back)
  unfolding Front
  own_front =
      front_rows k k (rows k) back (omega arith) (five k h)
      (⊎_elim (λ e. inl e) (λ f. inr (record { section = f.section; row = f.row; rest = f.rest; from = omega (arith, f.from); five = f.five; whole = f.whole })) back_front)

  start_is : start_of k (table_of form rows) ≡ length front
  unfolding start_of table_of
  start_is =
      let test : List ℕ → Bool = λ (cells : List ℕ). ltb (get_or cells 0 0) k in
      let e = leading_is k (cells_from 9 0 rows) in
      let p = pass_sections (λ (cells : List ℕ). ltb (get_or cells 0 0) k) k 0 rows (cells_of k (rows k) ++ back) (λ i a b. five i (omega arith)) (λ i a b l. lt-ltb i k (omega arith)) in
      let s = front_stops (λ (cells : List ℕ). ltb (get_or cells 0 0) k) k (cells_of k (rows k) ++ back) own_front (λ s a l. le-ltb s k a) in
      let c = ap (leading_rows (λ (cells : List ℕ). ltb (get_or cells 0 0) k)) cells_is in
      omega arith

  -- from the section's start on
  section_on : drop (start_of k (table_of form rows)) (table_of form rows) ≡ cells_of k (rows k) ++ back
  section_on =
      ap (λ (l : List ℕ). drop (start_of k (table_of form rows)) l) table_is
      ∙ drop_at front (cells_of k (rows k) ++ back) (start_of k (table_of form rows)) (sym start_is)

  -- cells replaced between two parts
  splice_at : (A B C new : List ℕ) (p c : ℕ) → p ≡ length A → c ≡ length B → spliced p c new (A ++ (B ++ C)) ≡ A ++ (new ++ C)
  unfolding spliced
  splice_at A B C new p c e f =
      let n : length (A ++ B) ≡ p + c = length-append A B ∙ omega arith in
      ap (λ (l : List ℕ). l ++ new ++ drop (p + c) (A ++ (B ++ C))) (take_at A (B ++ C) p (sym e))
      ∙ ap (λ (l : List ℕ). A ++ new ++ l) (ap (drop (p + c)) (sym (append_assoc A B C)) ∙ drop_at (A ++ B) C (p + c) n)
      ∙ append_assoc A new C

  of_own : (l : List ℕ) → starts_with k (k ∷ l) ≡ true
  unfolding starts_with
  of_own l = eq-eqb k k refl

  of_later : (s : ℕ) → suc k ≤ s → (l : List ℕ) → starts_with k (s ∷ l) ≡ false
  unfolding starts_with
  of_later s a l = ne_eqb s k (λ e. omega arith)

  -- the section's rows replaced
  section_size : leading_rows (starts_with k) (drop (start_of k (table_of form rows)) (table_of form rows)) ≡ length (cells_of k (rows k))
  section_size =
      let p = pass_rows (starts_with k) k (rows k) back (five k h) (λ row m l. of_own (row ++ l)) in
      let s = front_stops (starts_with k) (suc k) back back_front of_later in
      ap (leading_rows (starts_with k)) section_on ∙ p ∙ omega arith

  rows_replaced : (new : List Row) → with_rows k (cells_of k new) (table_of form rows) ≡ table_of form (replaced k new rows)
  unfolding with_rows
  rows_replaced new =
      ap (λ (l : List ℕ). spliced (start_of k (table_of form rows)) (leading_rows (starts_with k) (drop (start_of k (table_of form rows)) (table_of form rows))) (cells_of k new) l) table_is
      ∙ splice_at front (cells_of k (rows k)) back (cells_of k new) (start_of k (table_of form rows)) (leading_rows (starts_with k) (drop (start_of k (table_of form rows)) (table_of form rows))) start_is section_size
      ∙ sym (table_with new)

  -- a row's place
  module _ (row : Row) where
    abbrev parts : Parted (section_at k).key row (rows k)
    parts = parted (section_at k).key row (rows k)

    abbrev above : List Row
    above = parts.above

    abbrev below : List Row
    below = parts.below

    -- the cells before the place, and those from there on
    abbrev head : List ℕ
    head = front ++ cells_of k above

    abbrev rest : List ℕ
    rest = cells_of k below ++ back

    own_is : cells_of k (rows k) ++ back ≡ cells_of k above ++ rest
    own_is =
        ap (λ (r : List Row). cells_of k r ++ back) parts.whole ∙ ap (λ (l : List ℕ). l ++ back) (cells_append k above below)
        ∙ append_assoc (cells_of k above) (cells_of k below) back

    parted_is : table_of form rows ≡ head ++ rest
    parted_is = table_is ∙ ap (λ (l : List ℕ). front ++ l) own_is ∙ sym (append_assoc front (cells_of k above) rest)

    above_five : Five above
    above_five a m = five k h a (subst (λ (r : List Row). a ∈ r) (sym parts.whole) (Memᴰ.append_left below m))

    below_five : Five below
    below_five a m = five k h a (subst (λ (r : List Row). a ∈ r) (sym parts.whole) (Memᴰ.append_right above m))

    before_own : (a : Row) → length a ≡ 5 → (l : List ℕ) → is_before k row (k ∷ (a ++ l)) ≡ key_less (section_at k).key a row
    unfolding is_before
    before_own a f l = rw (of_own (a ++ l), row_first k a l f)

    before_later : (s : ℕ) → suc k ≤ s → (l : List ℕ) → is_before k row (s ∷ l) ≡ false
    unfolding is_before
    before_later s a l = rw (of_later s a l)

    rest_stops : (b : List Row) → Stops (section_at k).key row b → Five b → leading_rows (is_before k row) (cells_of k b ++ back) ≡ 0
    unfolding cells_of
    rest_stops [] s f = front_stops (is_before k row) (suc k) back back_front before_later
    rest_stops (b ∷ bs) s f =
        ap (λ (l : List ℕ). leading_rows (is_before k row) (k ∷ l)) (append_assoc b (cells_of k bs) back)
        ∙ stop_row (is_before k row) k b (cells_of k bs ++ back) (f b here) (before_own b (f b here) (cells_of k bs ++ back) ∙ s)

    place_is : place_for k row (table_of form rows) ≡ length head
    unfolding place_for
    place_is =
        let p = pass_rows (is_before k row) k above rest above_five (λ a m l. before_own a (above_five a m) l ∙ parts.before a m) in
        let s = rest_stops below parts.stops below_five in
        let e = ap (leading_rows (is_before k row)) (section_on ∙ own_is) in
        let n = length-append front (cells_of k above) in
        let a = start_is in
        omega arith

    -- a row put in
    row_put_in : length row ≡ 5 → with_row k row (table_of form rows) ≡ table_of form (replaced k (inserted (section_at k).key row (rows k)) rows)
    unfolding with_row cells_of
    row_put_in f =
        ap (λ (l : List ℕ). spliced (place_for k row (table_of form rows)) 0 (k ∷ row) l) parted_is
        ∙ splice_at head [] rest (k ∷ row) (place_for k row (table_of form rows)) 0 place_is refl
        ∙ append_assoc front (cells_of k above) ((k ∷ row) ++ rest)
        ∙ ap (λ (l : List ℕ). front ++ (cells_of k above ++ (k ∷ l))) (sym (append_assoc row (cells_of k below) back))
        ∙ ap (λ (l : List ℕ). front ++ l) (sym (append_assoc (cells_of k above) (cells_of k (row ∷ below)) back))
        ∙ ap (λ (l : List ℕ). front ++ (l ++ back)) (sym (cells_append k above (row ∷ below)))
        ∙ ap (λ (r : List Row). front ++ (cells_of k r ++ back)) (sym parts.put_in)
        ∙ sym (table_with (inserted (section_at k).key row (rows k)))

    -- what stands at the place
    place_on : drop (place_for k row (table_of form rows)) (table_of form rows) ≡ rest
    place_on = ap (drop (place_for k row (table_of form rows))) parted_is ∙ drop_at head rest (place_for k row (table_of form rows)) (sym place_is)

    key_none : Front (suc k) back → has_key k row back ≡ false
    unfolding has_key Front
    key_none (inl e) = ap (λ (l : List ℕ). leb 6 (length l) && (starts_with k l && same_key (section_at k).key (row_of l) row)) e
    key_none (inr f) =
        ap (λ (l : List ℕ). leb 6 (length l) && (starts_with k l && same_key (section_at k).key (row_of l) row)) f.whole
        ∙ rw (of_later f.section f.from (f.row ++ f.rest)) (and_no (leb 6 (length (f.section ∷ (f.row ++ f.rest)))))
      where
        and_no : (b : Bool) → (b && false) ≡ false
        and_no true = refl
        and_no false = refl

    key_own : (b : Row) → length b ≡ 5 → (l : List ℕ) → has_key k row (k ∷ (b ++ l)) ≡ same_key (section_at k).key b row
    unfolding has_key
    key_own b f l =
        rw (le-leb 6 (length (k ∷ (b ++ l))) (omega (arith, length-append b l)), of_own (b ++ l), row_first k b l f)

    abbrev place : ℕ
    place = place_for k row (table_of form rows)

    there_is : has_key k row (drop place (table_of form rows)) ≡ true → without_row k row (table_of form rows) ≡ spliced place 6 [] (table_of form rows)
    unfolding without_row without_at place_in placed
    there_is e = rw e

    free_is : has_key k row (drop place (table_of form rows)) ≡ false → without_row k row (table_of form rows) ≡ table_of form rows
    unfolding without_row without_at place_in placed
    free_is e = rw e

    -- the table with the rows above the place and others from there on
    abbrev with_below : List Row → List ℕ
    with_below bs = front ++ ((cells_of k above ++ cells_of k bs) ++ back)

    whole_again : table_of form rows ≡ with_below below
    whole_again = table_is ∙ ap (λ (r : List Row). front ++ (cells_of k r ++ back)) parts.whole ∙ ap (λ (l : List ℕ). front ++ (l ++ back)) (cells_append k above below)

    module _ (b : Row) (bs : List Row) (f : length b ≡ 5) (e : below ≡ b ∷ bs) where
      rest_is : rest ≡ (k ∷ b) ++ (cells_of k bs ++ back)
      unfolding cells_of
      rest_is = ap (λ (r : List Row). cells_of k r ++ back) e ∙ ap (λ (l : List ℕ). k ∷ l) (append_assoc b (cells_of k bs) back)

      key_is : has_key k row (drop place (table_of form rows)) ≡ same_key (section_at k).key b row
      key_is = ap (has_key k row) (place_on ∙ rest_is) ∙ key_own b f (cells_of k bs ++ back)

      taken_same : same_key (section_at k).key b row ≡ true → without_row k row (table_of form rows) ≡ with_below bs
      taken_same s =
          there_is (key_is ∙ s)
          ∙ ap (spliced place 6 []) (parted_is ∙ ap (λ (l : List ℕ). head ++ l) rest_is)
          ∙ splice_at head (k ∷ b) (cells_of k bs ++ back) [] place 6 place_is (omega arith)
          ∙ append_assoc front (cells_of k above) (cells_of k bs ++ back)
          ∙ ap (λ (l : List ℕ). front ++ l) (sym (append_assoc (cells_of k above) (cells_of k bs) back))

      taken_other : same_key (section_at k).key b row ≡ false → without_row k row (table_of form rows) ≡ with_below (b ∷ bs)
      taken_other s = free_is (key_is ∙ s) ∙ whole_again ∙ ap with_below e

    -- a row taken out, by what stands at the place
    taken_with : (bs : List Row) → Five bs → below ≡ bs → without_row k row (table_of form rows) ≡ with_below (without (section_at k).key row bs)
    unfolding without cells_of
    taken_with [] f e =
        free_is (ap (has_key k row) (place_on ∙ ap (λ (r : List Row). cells_of k r ++ back) e) ∙ key_none back_front)
        ∙ whole_again ∙ ap with_below e
    taken_with (b ∷ bs) f e =
        ⊎_elim (λ (s : same_key (section_at k).key b row ≡ true). taken_same b bs (f b here) e s ∙ sym (ap with_below (without_same (section_at k).key row b bs s)))
        (λ (s : same_key (section_at k).key b row ≡ false). taken_other b bs (f b here) e s ∙ sym (ap with_below (without_other (section_at k).key row b bs s)))
        (Two (same_key (section_at k).key b row))

    row_taken_out : without_row k row (table_of form rows) ≡ table_of form (replaced k (removed (section_at k).key row (rows k)) rows)
    row_taken_out =
        taken_with below below_five refl
        ∙ ap (λ (l : List ℕ). front ++ (l ++ back)) (sym (cells_append k above (without (section_at k).key row below)))
        ∙ ap (λ (r : List Row). front ++ (cells_of k r ++ back)) (sym parts.taken_out)
        ∙ sym (table_with (removed (section_at k).key row (rows k)))

    -- what `find` says: no row of the key, or one
    none_above : NoneLike (section_at k).key row above
    none_above a m = less_not_same (section_at k).key a row (parts.before a m)

    none_in : (bs : List Row) → Five bs → below ≡ bs → Ascending (section_at k).key bs → Stops (section_at k).key row bs → has_key k row (drop place (table_of form rows)) ≡ false
        → NoneLike (section_at k).key row bs
    none_in [] f e h s t a m = absurd (Memᴰ.not-nil m)
    none_in (b ∷ bs) f e h s t a m =
        let other : same_key (section_at k).key b row ≡ false = sym (key_is b bs (f b here) e) ∙ t in
        let first = otherwise (section_at k).key b row s other in
        ⊎_elim (λ z. rw z other) (λ n. after_not_same (section_at k).key row a (less_then (section_at k).key row b a first (h.0 a n))) (Memᴰ.cases_cons m)

    none_told : Ascending (section_at k).key (rows k) → has_key k row (drop place (table_of form rows)) ≡ false → NoneLike (section_at k).key row (rows k)
    none_told h t a m =
        let later = none_in below below_five refl (ascending_below (section_at k).key row above below (subst (Ascending (section_at k).key) parts.whole h)) parts.stops t in
        ⊎_elim (λ n. none_above a n) (λ n. later a n) (Memᴰ.append_cases above (subst (λ (r : List Row). a ∈ r) parts.whole m))

    one_in : (bs : List Row) → Five bs → below ≡ bs → has_key k row (drop place (table_of form rows)) ≡ true → (a : Row) × (a ∈ bs) × (same_key (section_at k).key a row ≡ true)
    unfolding cells_of
    one_in [] f e t = absurd (true_false t (ap (has_key k row) (place_on ∙ ap (λ (r : List Row). cells_of k r ++ back) e) ∙ key_none back_front))
    one_in (b ∷ bs) f e t = (b, here, sym (key_is b bs (f b here) e) ∙ t)

    one_told : has_key k row (drop place (table_of form rows)) ≡ true → (a : Row) × (a ∈ rows k) × (same_key (section_at k).key a row ≡ true)
    one_told t =
        let o = one_in below below_five refl t in
        (o.0, subst (λ (r : List Row). o.0 ∈ r) (sym parts.whole) (Memᴰ.append_right above o.1), o.2)

    placed_free : (t : Bool) (p q : ℕ) → placed t p ≡ Err q → t ≡ false
    unfolding placed
    placed_free true p q e = absurd (let z : ◌≡◌ {A = ℕ} 0 1 = cc in omega arith)
    placed_free false p q e = refl

    placed_there : (t : Bool) (p q : ℕ) → placed t p ≡ Ok q → t ≡ true
    unfolding placed
    placed_there true p q e = refl
    placed_there false p q e = absurd (let z : ◌≡◌ {A = ℕ} 0 1 = cc in omega arith)

    found_is : Ascending (section_at k).key (rows k) → Found (section_at k).key row (rows k) (place_in k row (table_of form rows))
    unfolding place_in
    found_is h = record {
      free = λ q e. none_told h (placed_free (has_key k row (drop place (table_of form rows))) place q e);
      there = λ q e. one_told (placed_there (has_key k row (drop place (table_of form rows))) place q e);
    }

pub row_put : RowPut
row_put form rows five k h row f = row_put_in form rows five k h row f

pub row_taken : RowTaken
row_taken form rows five k h row = row_taken_out form rows five k h row

pub rows_put : RowsPut
rows_put form rows five k h new = rows_replaced form rows five k h new

pub place_found : PlaceFound
place_found form rows five k h row = found_is form rows five k h row
