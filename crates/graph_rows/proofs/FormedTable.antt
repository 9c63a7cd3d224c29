-- The graph tables whose test refuses nothing are the formed ones (specs/Formed), and these are
-- accepted (specs/Accepted). Assumes nothing.
use Prim.Native.Nat.{ℕ, zero, suc, ◌+◌, ◌<◌}
use mathlib.Core.Path.{◌≡◌, refl, sym, ap, subst, ◌∙◌}
use mathlib.Core.Bool.{true}
use mathlib.Core.List.{List, [], ◌∷◌}
use native.Mathlib.Omega.{arith}
use lib.ListN.{length, get_or, length-map}
use borrow.Author.Tests.{eqb-true}
use Rattle.scope_graph.specs.Listing.{Pairwise}
use Rattle.scope_graph.proofs.Lists.{pairwise_weaken}
use Rattle.graph_rows.specs.Format.{Sequence, ascending, apart, once, free, section_at, label_section, pair_section, edge_section}
use Rattle.graph_rows.specs.Admission.{Row, value, begun, key_less}
use Rattle.graph_rows.specs.Tested.{form_in, refusal_in, tested, table_refusal}
use Rattle.graph_rows.specs.Decode.{rows_in, letters_of, scopes_of}
use Rattle.graph_rows.specs.Formed.{cells_from, table_of, scopes_in, InTurn, FormedSection, FormedRows, FormedTable, TableFormed, TestTells}
use Rattle.graph_rows.specs.Accepted.{FormedAccepted}
use Rattle.graph_rows.proofs.DecodeWay.{table_cells, AdmittedTable}
use Rattle.graph_rows.proofs.KeyLaws.{KeyBefore, before_key}
use Rattle.graph_rows.proofs.DecodeRows.{Ascends, rows_stand}
use Rattle.graph_rows.proofs.DecodeTable.{pairs_gathered, section_in, table_limit, table_in_range, table_ascends, table_apart, table_order_lem, table_letters}
use Rattle.graph_rows.proofs.DecodePlaces.{gathered_at, listed_at}
use Rattle.graph_rows.proofs.DecodeAccepted.{table_accepted}
use Rattle.graph_rows.proofs.FormedAdmitted.{own_sequence, own_sequence_lem, list_of, all_admitted}
use Rattle.graph_rows.proofs.TestedAdmitted.{tested_admitted}
use Rattle.graph_rows.proofs.AdmittedTested.{admitted_tested}
use Rattle.graph_rows.proofs.ProperLaws.{not_refused, tested_proper}

-- the lists of rows by their sections' numbers
list_at_lem : (left k i j : ℕ) (rows : ℕ → List Row) → j ≡ k + i → i < left → get_or (list_of left k rows) i [] ≡ rows j
unfolding list_of
list_at_lem zero k i j rows e h = absurd (omega arith)
list_at_lem (suc left) k zero j rows e h = ap rows (omega arith)
list_at_lem (suc left) k (suc i) j rows e h = list_at_lem left (suc k) i j rows (omega arith) (omega arith)

list_length : (left k : ℕ) (rows : ℕ → List Row) → length (list_of left k rows) ≡ left
unfolding list_of
list_length zero k rows = refl
list_length (suc left) k rows = ap suc (list_length left (suc k) rows)

cells_listed : (left k : ℕ) (rows : ℕ → List Row) (lists : List (List Row)) → length lists ≡ left → ((i j : ℕ) → j ≡ k + i → i < left → get_or lists i [] ≡ rows j)
    → table_cells k lists ≡ cells_from left k rows
unfolding table_cells cells_from
cells_listed zero k rows [] n h = refl
cells_listed zero k rows (list ∷ lists) n h = absurd (omega arith)
cells_listed (suc left) k rows [] n h = absurd (omega arith)
cells_listed (suc left) k rows (list ∷ lists) n h =
    let first : list ≡ rows k = h 0 k (omega arith) (omega arith) in
    rw (first, cells_listed left (suc k) rows lists (omega arith) (λ i j e l. h (suc i) j (omega arith) (omega arith)))

-- formed rows make an admitted table
rows_table : (form : ℕ) (rows : ℕ → List Row) → FormedRows form rows → AdmittedTable (table_of form rows)
unfolding table_of
rows_table form rows f = record {
  form = form;
  known = f.known;
  sections = list_of 9 0 rows;
  count = list_length 9 0 rows;
  cells_are = ap (λ (l : List ℕ). form ∷ l) (sym (cells_listed 9 0 rows (list_of 9 0 rows) (list_length 9 0 rows) (λ i j e h. list_at_lem 9 0 i j rows e h)));
  admitted = all_admitted form rows f;
  order = rw (pairs_gathered (list_of 9 0 rows), gathered_at pair_section 0 1 (list_of 9 0 rows) refl, list_at_lem 9 0 1 1 rows refl (omega arith)) f.order;
}

pub formed_admitted : (cells : List ℕ) → FormedTable cells → AdmittedTable cells
formed_admitted cells t =
    subst (λ (c : List ℕ). AdmittedTable c) (sym t.in_turn) (rows_table (form_in cells) (λ k. rows_in k cells) t.rows)

-- The converse.
module _ (cells : List ℕ) (t : AdmittedTable cells) where
  keys_less : (k : ℕ) → k < 9 → Ascends (section_at k).sequence → Pairwise (λ (a b : Row). key_less (section_at k).key a b ≡ true) (rows_in k cells)
  keys_less k h a = pairwise_weaken (KeyBefore (section_at k).key) (λ (a b : Row). key_less (section_at k).key a b ≡ true) (rows_in k cells) (λ a b m n p. before_key (section_at k).key a b p) (table_ascends cells t k h a)

  turn_of_lem : (k : ℕ) → k < 9 → (q : Sequence) → (section_at k).sequence ≡ q → own_sequence k q ≡ true → InTurn q (section_at k).key (rows_in k cells)
  unfolding own_sequence letters_of
  turn_of_lem k h ascending e o = keys_less k h (rw e tt)
  turn_of_lem k h apart e o = (keys_less k h (rw e tt), rw (eqb-true k edge_section o) (table_apart cells t))
  turn_of_lem k h once e o = rw (eqb-true k label_section o) (table_letters cells t)
  turn_of_lem k h free e o = tt

  section_formed : (k : ℕ) → k < 9 → FormedSection (length (rows_in label_section cells)) (scopes_of cells) t.form k (rows_in k cells)
  unfolding letters_of
  section_formed k h =
      let s = section_in cells t k h in
      let stand = rows_stand t.form k (begun s.before) (rows_in k cells) s.admitted in
      record {
        each = λ row m. record {
          five = (stand row m).0;
          formed = (stand row m).1;
          in_range = rw (length-map (rows_in label_section cells) (λ (r : Row). value r 0)) at (table_in_range cells t k h row m);
        };
        in_turn = turn_of_lem k h (section_at k).sequence refl (own_sequence_lem k h);
        least = s.enough;
        most = table_limit cells t k h;
      }

  form_in_lem : t.form ≡ form_in cells
  unfolding form_in
  form_in_lem = sym (ap (λ (l : List ℕ). form_in l) t.cells_are)

  rows_formed : FormedRows t.form (λ k. rows_in k cells)
  unfolding scopes_in scopes_of
  rows_formed = record { known = t.known; sections = section_formed; order = table_order_lem cells t }

  pub admitted_formed : FormedTable cells
  unfolding table_of
  admitted_formed = record {
    in_turn =
        t.cells_are
        ∙ ap (λ (l : List ℕ). t.form ∷ l) (cells_listed 9 0 (λ k. rows_in k cells) t.sections t.count (λ i j e h. listed_at cells t i ∙ ap (λ n. rows_in n cells) (omega arith)))
        ∙ ap (λ (f : ℕ). f ∷ cells_from 9 0 (λ k. rows_in k cells)) form_in_lem;
    rows = subst (λ (f : ℕ). FormedRows f (λ k. rows_in k cells)) form_in_lem rows_formed;
  }

-- formed rows make a formed table
pub table_formed : TableFormed
unfolding rows_table
table_formed form rows f =
    let t = rows_table form rows f in
    (admitted_formed (table_of form rows) t, λ k h. sym (listed_at (table_of form rows) t k) ∙ list_at_lem 9 0 k k rows (omega arith) h)

-- the test refuses nothing of formed tables, and of no others
pub test_tells : TestTells
unfolding table_refusal refusal_in
test_tells cells = (
  (λ e. let g = not_refused (tested cells) (tested_proper cells) e in admitted_formed cells (tested_admitted cells g.0 g.1)),
  λ t. ap refusal_in (admitted_tested cells (formed_admitted cells t)).1,
)

pub formed_accepted : FormedAccepted
formed_accepted cells t = table_accepted cells (formed_admitted cells t)
