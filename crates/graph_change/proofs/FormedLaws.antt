-- Changes of formed tables. Assumes nothing.
use Prim.Native.Nat.{ℕ, zero, suc, ◌<◌}
use mathlib.Core.Path.{◌≡◌, refl, sym, ap, subst, ◌∙◌}
use mathlib.Core.List.{List}
use mathlib.Core.Bool.{false}
use native.Mathlib.Omega.{arith}
use borrow.Author.Tests.{eq-eqb, ne_eqb}
use lib.ListN.{length}
use Rattle.graph_rows.specs.Format.{Sequence, ascending, apart, once, free, labels, pairs, transitions, accepts, scope_count, edges, declarations, open_pairs, queries, sections, section_at, shape_at, label_section, pair_section, count_section, edge_section}
use Rattle.graph_rows.specs.Admission.{Row}
use Rattle.graph_rows.specs.Order.{order_fault}
use Rattle.graph_rows.specs.Tested.{form_in}
use Rattle.graph_rows.specs.Decode.{rows_in}
use Rattle.graph_rows.specs.Formed.{cells_of, table_of, InTurn, FormedRow, FormedRows, FormedSection, FormedTable, replaced, MayJoin}
use Rattle.graph_rows.proofs.LookBackLaws.{repeats_none, none_repeated}
use Rattle.graph_rows.proofs.FormedTable.{table_formed}
use Rattle.graph_rows.proofs.FormedChanges.{section_replaced, row_added, rows_kept}
use Rattle.graph_change.specs.Place.{place_in}
use Rattle.graph_change.specs.Changed.{inserted, removed, with_row, without_row, with_rows}
use Rattle.graph_change.specs.Promises.{Ascending, NoneLike, Found, FiveValues, ChangedAt, scopes_at, Ascends, JoinTold, FormedPut, FormedTaken, FormedReplaced, FormedFound}
use Rattle.graph_change.proofs.RowLaws.{parted, place_later, removed_kept, other_key}
use Rattle.graph_change.proofs.TableLaws.{row_put, row_taken, rows_put, place_found}

replaced_own : (k : ℕ) (new : List Row) (rows : ℕ → List Row) → replaced k new rows k ≡ new
unfolding replaced
replaced_own k new rows = rw (eq-eqb k k refl, replaced)

replaced_other : (k : ℕ) (new : List Row) (rows : ℕ → List Row) (j : ℕ) → ¬ (j ≡ k) → replaced k new rows j ≡ rows j
unfolding replaced
replaced_other k new rows j n = rw (ne_eqb j k n, replaced)

form_of : (form : ℕ) (rows : ℕ → List Row) → form_in (table_of form rows) ≡ form
unfolding form_in table_of
form_of form rows = refl

-- sections that ascend are neither the labels nor the count, and may be empty
ascends_not : (k j : ℕ) → j ≡ k → ¬ Ascends (section_at j).sequence → Ascends (section_at k).sequence → ⊥
ascends_not k j e n a = n (subst (λ (i : ℕ). Ascends (section_at i).sequence) (sym e) a)

not_labels : (k : ℕ) → Ascends (section_at k).sequence → ¬ (k ≡ label_section)
unfolding section_at sections labels
not_labels k a e = ascends_not k label_section (sym e) (λ z. z) a

not_count : (k : ℕ) → Ascends (section_at k).sequence → ¬ (k ≡ count_section)
unfolding section_at sections scope_count
not_count k a e = ascends_not k count_section (sym e) (λ z. z) a

least_none : (k : ℕ) → k < 9 → ¬ (k ≡ count_section) → (section_at k).least ≡ 0
unfolding labels pairs transitions accepts scope_count edges declarations open_pairs queries sections section_at
least_none zero h n = refl
least_none (suc zero) h n = refl
least_none (suc (suc zero)) h n = refl
least_none (suc (suc (suc zero))) h n = refl
least_none (suc (suc (suc (suc zero)))) h n = absurd (n refl)
least_none (suc (suc (suc (suc (suc zero))))) h n = refl
least_none (suc (suc (suc (suc (suc (suc zero)))))) h n = refl
least_none (suc (suc (suc (suc (suc (suc (suc zero))))))) h n = refl
least_none (suc (suc (suc (suc (suc (suc (suc (suc zero)))))))) h n = refl
least_none (suc (suc (suc (suc (suc (suc (suc (suc (suc k))))))))) h n = absurd (omega arith)

-- only the edges stand apart
pub join_told : JoinTold
unfolding labels pairs transitions accepts scope_count edges declarations open_pairs queries sections section_at
join_told cells zero h a row = absurd a
join_told cells (suc zero) h a row = ((λ j e. absurd (omega arith)), λ f. tt)
join_told cells (suc (suc zero)) h a row = ((λ j e. absurd (omega arith)), λ f. tt)
join_told cells (suc (suc (suc zero))) h a row = ((λ j e. absurd (omega arith)), λ f. tt)
join_told cells (suc (suc (suc (suc zero)))) h a row = absurd a
join_told cells (suc (suc (suc (suc (suc zero))))) h a row = ((λ j e. repeats_none (rows_in edge_section cells) row j), λ f. none_repeated (rows_in edge_section cells) row (f refl))
join_told cells (suc (suc (suc (suc (suc (suc zero)))))) h a row = ((λ j e. absurd (omega arith)), λ f. tt)
join_told cells (suc (suc (suc (suc (suc (suc (suc zero))))))) h a row = ((λ j e. absurd (omega arith)), λ f. tt)
join_told cells (suc (suc (suc (suc (suc (suc (suc (suc zero)))))))) h a row = absurd a
join_told cells (suc (suc (suc (suc (suc (suc (suc (suc (suc k))))))))) h a row = absurd (omega arith)

may_ascend : (q : Sequence) (row : Row) (rows : List Row) → MayJoin q row rows → Ascends q
may_ascend ascending row rows j = tt
may_ascend apart row rows j = tt
may_ascend once row rows j = j
may_ascend free row rows j = j

turn_ascends : (q : Sequence) (key : List ℕ) (rows : List Row) → Ascends q → InTurn q key rows → Ascending key rows
turn_ascends ascending key rows a h = h
turn_ascends apart key rows a h = h.0
turn_ascends once key rows a h = absurd a
turn_ascends free key rows a h = absurd a

module _ (cells : List ℕ) (t : FormedTable cells) (k : ℕ) (h : k < 9) where
  abbrev rows : ℕ → List Row
  rows j = rows_in j cells

  five : FiveValues (λ j. rows_in j cells)
  five j l row m = ((t.rows.sections j l).each row m).five

  ascending_rows : Ascends (section_at k).sequence → Ascending (section_at k).key (rows_in k cells)
  ascending_rows a = turn_ascends (section_at k).sequence (section_at k).key (rows_in k cells) a (t.rows.sections k h).in_turn

  -- a table with other rows in section k, if these are formed
  changed_at : (new : List Row) (changed : List ℕ) → changed ≡ table_of (form_in cells) (replaced k new (λ j. rows_in j cells)) → FormedRows (form_in cells) (replaced k new (λ j. rows_in j cells))
      → ChangedAt k new cells changed
  changed_at new changed e f =
      let w = table_formed (form_in cells) (replaced k new (λ j. rows_in j cells)) f in
      record {
        formed = subst (λ (c : List ℕ). FormedTable c) (sym e) w.0;
        form = ap (λ (c : List ℕ). form_in c) e ∙ form_of (form_in cells) (replaced k new (λ j. rows_in j cells));
        own = ap (λ (c : List ℕ). rows_in k c) e ∙ w.1 k h ∙ replaced_own k new (λ j. rows_in j cells);
        others = λ j l n. ap (λ (c : List ℕ). rows_in j c) e ∙ w.1 j l ∙ replaced_other k new (λ j. rows_in j cells) j n;
      }

  replaced_rows : ¬ (k ≡ label_section) → ¬ (k ≡ count_section) → (new : List Row) → FormedSection (length (rows_in label_section cells)) (scopes_at cells) (form_in cells) k new
      → (k ≡ pair_section → order_fault new ≡ false) → FormedRows (form_in cells) (replaced k new (λ j. rows_in j cells))
  replaced_rows nl nc new s o = section_replaced (form_in cells) (λ j. rows_in j cells) k new t.rows nl nc s o

  -- the rows with one more are formed
  more_formed : (row : Row) → MayJoin (section_at k).sequence row (rows_in k cells) → FormedRow (length (rows_in label_section cells)) (scopes_at cells) (shape_at (form_in cells) k).row row
      → length (rows_in k cells) < (section_at k).most → NoneLike (section_at k).key row (rows_in k cells)
      → FormedSection (length (rows_in label_section cells)) (scopes_at cells) (form_in cells) k (inserted (section_at k).key row (rows_in k cells))
  more_formed row j f room none =
      let p = parted (section_at k).key row (rows_in k cells) in
      let a = ascending_rows (may_ascend (section_at k).sequence row (rows_in k cells) j) in
      subst (λ (r : List Row). FormedSection (length (rows_in label_section cells)) (scopes_at cells) (form_in cells) k r) (sym p.put_in)
      (row_added (length (rows_in label_section cells)) (scopes_at cells) (form_in cells) k p.above p.below row
      (subst (MayJoin (section_at k).sequence row) p.whole j)
      (subst (λ (r : List Row). FormedSection (length (rows_in label_section cells)) (scopes_at cells) (form_in cells) k r) p.whole (t.rows.sections k h))
      f
      (subst (λ (r : List Row). length r < (section_at k).most) p.whole room)
      p.before
      (place_later (section_at k).key row (rows_in k cells) p a none))

  put_formed : (row : Row) → MayJoin (section_at k).sequence row (rows_in k cells) → FormedRow (length (rows_in label_section cells)) (scopes_at cells) (shape_at (form_in cells) k).row row
      → length (rows_in k cells) < (section_at k).most → NoneLike (section_at k).key row (rows_in k cells)
      → (k ≡ pair_section → order_fault (inserted (section_at k).key row (rows_in k cells)) ≡ false)
      → ChangedAt k (inserted (section_at k).key row (rows_in k cells)) cells (with_row k row cells)
  put_formed row j f room none o =
      let a = may_ascend (section_at k).sequence row (rows_in k cells) j in
      changed_at (inserted (section_at k).key row (rows_in k cells)) (with_row k row cells)
      (ap (λ (c : List ℕ). with_row k row c) t.in_turn ∙ row_put (form_in cells) (λ j. rows_in j cells) five k h row f.five)
      (replaced_rows (not_labels k a) (not_count k a) (inserted (section_at k).key row (rows_in k cells)) (more_formed row j f room none) o)

  taken_formed : Ascends (section_at k).sequence → (row : Row) → (k ≡ pair_section → order_fault (removed (section_at k).key row (rows_in k cells)) ≡ false)
      → ChangedAt k (removed (section_at k).key row (rows_in k cells)) cells (without_row k row cells)
  taken_formed a row o =
      let kept = removed_kept (section_at k).key row (rows_in k cells) (ascending_rows a) in
      let less = rows_kept (length (rows_in label_section cells)) (scopes_at cells) (form_in cells) k (other_key (section_at k).key row) (rows_in k cells) (least_none k h (not_count k a)) (t.rows.sections k h) in
      changed_at (removed (section_at k).key row (rows_in k cells)) (without_row k row cells)
      (ap (λ (c : List ℕ). without_row k row c) t.in_turn ∙ row_taken (form_in cells) (λ j. rows_in j cells) five k h row)
      (replaced_rows (not_labels k a) (not_count k a) (removed (section_at k).key row (rows_in k cells))
      (subst (λ (r : List Row). FormedSection (length (rows_in label_section cells)) (scopes_at cells) (form_in cells) k r) (sym kept) less) o)

  found_formed : Ascends (section_at k).sequence → (row : Row) → Found (section_at k).key row (rows_in k cells) (place_in k row cells)
  found_formed a row =
      subst (λ (c : List ℕ). Found (section_at k).key row (rows_in k cells) (place_in k row c)) (sym t.in_turn)
      (place_found (form_in cells) (λ j. rows_in j cells) five k h row (ascending_rows a))

pub formed_put : FormedPut
formed_put cells t k h row j f room none o = put_formed cells t k h row j f room none o

pub formed_taken : FormedTaken
formed_taken cells t k h a row o = taken_formed cells t k h a row o

pub formed_replaced : FormedReplaced
formed_replaced cells t k h nl nc new s o =
    changed_at cells t k h new (with_rows k (cells_of k new) cells)
    (ap (λ (c : List ℕ). with_rows k (cells_of k new) c) t.in_turn ∙ rows_put (form_in cells) (λ j. rows_in j cells) (five cells t k h) k h new)
    (replaced_rows cells t k h nl nc new s o)

pub formed_found : FormedFound
formed_found cells t k h a = (ascending_rows cells t k h a, found_formed cells t k h a)
