-- The rows that an expression becomes are formed, so that a table that was read is formed with them
-- too. Assumes nothing.
use Prim.Native.Nat.{ℕ, ◌/◌, ◌%◌, ◌<◌}
use mathlib.Core.Path.{◌≡◌, refl, sym, subst, ◌∙◌}
use mathlib.Core.Bool.{Bool, true, false}
use mathlib.Core.Logic.{⊎_elim}
use mathlib.Core.List.{List, [], ◌∷◌}
use native.Mathlib.Omega.{arith}
use lib.Dec.{ltb}
use lib.ListN.{length, get_or}
use borrow.Author.Tests.{lt-ltb, le-leb, ltb-false, eq-eqb, ne_eqb}
use Rattle.scope_graph.specs.Language.{◌∈◌}
use Rattle.scope_graph.specs.Listing.{Pairwise}
use Rattle.scope_graph.proofs.Lists.{Two, and_both, or_left, or_right}
use Rattle.graph_rows.specs.Format.{values_of, every_item, transitions, accepts, sections, section_at, shapes_of, shape_at}
use Rattle.graph_rows.specs.Admission.{Row, content_in_range, item_in_range, in_range, key_less}
use Rattle.graph_rows.specs.Tested.{form_in}
use Rattle.graph_rows.specs.Decode.{rows_in}
use Rattle.graph_file.specs.File.{WasRead}
use Rattle.graph_rows.specs.Formed.{table_of, scopes_in, FormedRow, FormedSection, FormedRows, FormedTable, replaced}
use Rattle.graph_rows.specs.Values.{field_formed, item_formed, spares_place, idle_zero, idle_zeros, formed}
use Rattle.graph_file.proofs.Promises.{read_formed}
use Rattle.graph_rows.proofs.FormedTable.{table_formed}
use Rattle.graph_rows.proofs.FormedChanges.{section_replaced}
use Rattle.path_rules.specs.declared.Rules.{Rules}
use Rattle.ruled.specs.Ruled.{is_transition, is_accepting, transition_at, accept_at, transitions_to, accepts_to, transition_rows, accept_rows, ruled_rows, ruled_cells}
use Rattle.ruled.proofs.RowLaws.{transition, accepting, rows_of, rows_pairwise, kept_pairwise, transition_is, transitions_most, accept_is, accepts_most}

-- one row by its line
transition_formed : (form labels scopes k to : ℕ) → k < 128 → k % 8 < labels → to < 16 → FormedRow labels scopes (shape_at form 2).row (transition k to)
unfolding shape_at shapes_of formed every_item item_formed field_formed idle_zeros idle_zero spares_place values_of in_range item_in_range content_in_range
transition_formed form labels scopes k to h l t = record {
  five = refl;
  formed = rw (le-leb (k / 8) 99999 (omega arith), le-leb to 99999 (omega arith));
  in_range = rw (lt-ltb (k / 8) 16 (omega arith), lt-ltb (k % 8) labels l, lt-ltb to 16 t);
}

accept_formed : (form labels scopes q : ℕ) → q < 16 → FormedRow labels scopes (shape_at form 3).row (accepting q)
unfolding shape_at shapes_of formed every_item item_formed field_formed idle_zeros idle_zero spares_place values_of in_range item_in_range content_in_range
accept_formed form labels scopes q h = record {
  five = refl;
  formed = rw (le-leb q 99999 (omega arith));
  in_range = rw (lt-ltb q 16 h);
}

-- a later cell's row has the greater key
transition_less : (j k t u : ℕ) → j < k → key_less (0 ∷ 1 ∷ []) (transition j t) (transition k u) ≡ true
unfolding key_less
transition_less j k t u h =
    ⊎_elim (λ (y : ltb (j / 8) (k / 8) ≡ true). or_left _ _ y)
    (λ (n : ltb (j / 8) (k / 8) ≡ false).
    let least = ltb-false (j / 8) (k / 8) n in
    let same : j / 8 ≡ k / 8 = omega arith in
    or_right (ltb (j / 8) (k / 8)) _ (and_both _ _ (eq-eqb (j / 8) (k / 8) same) (or_left _ _ (lt-ltb (j % 8) (k % 8) (omega arith)))))
    (Two (ltb (j / 8) (k / 8)))

accept_less : (j k : ℕ) → j < k → key_less (0 ∷ []) (accepting j) (accepting k) ≡ true
unfolding key_less
accept_less j k h = or_left _ _ (lt-ltb j k h)

module _ (form scopes : ℕ) (next : List ℕ) (states labels : ℕ) where
  transitions_formed : FormedSection labels scopes form 2 (transitions_to next states labels 128)
  unfolding section_at sections transitions transitions_to transition_at
  transitions_formed = record {
    each = λ row m.
        let r = rows_of _ 128 row m in
        let e = transition_is next states labels r.0 row r.2 in
        subst (FormedRow labels scopes (shape_at form 2).row) (sym e.0) (transition_formed form labels scopes r.0 _ r.1 e.2 e.3);
    in_turn = rows_pairwise _ (λ (a b : Row). key_less (0 ∷ 1 ∷ []) a b ≡ true) own apart 128;
    least = omega arith;
    most = transitions_most next states labels 128;
  }
    where
      own : (k : ℕ) → Pairwise (λ (a b : Row). key_less (0 ∷ 1 ∷ []) a b ≡ true) (transition_at states labels k (get_or next k 0))
      own k = kept_pairwise (λ (a b : Row). key_less (0 ∷ 1 ∷ []) a b ≡ true) (is_transition states labels k (get_or next k 0)) (transition k (get_or next k 0))

      apart : (j k : ℕ) (a b : Row) → j < k → a ∈ transition_at states labels j (get_or next j 0) → b ∈ transition_at states labels k (get_or next k 0) → key_less (0 ∷ 1 ∷ []) a b ≡ true
      apart j k a b h m n = rw ((transition_is next states labels j a m).0, (transition_is next states labels k b n).0) (transition_less j k (get_or next j 0) (get_or next k 0) h)

module _ (form labels scopes : ℕ) (cells : List Bool) (states : ℕ) where
  accepts_formed : FormedSection labels scopes form 3 (accepts_to cells states 16)
  unfolding section_at sections accepts accepts_to accept_at
  accepts_formed = record {
    each = λ row m.
        let r = rows_of _ 16 row m in
        let e = accept_is cells states r.0 row r.2 in
        subst (FormedRow labels scopes (shape_at form 3).row) (sym e.0) (accept_formed form labels scopes r.0 r.1);
    in_turn = rows_pairwise _ (λ (a b : Row). key_less (0 ∷ []) a b ≡ true) own apart 16;
    least = omega arith;
    most = accepts_most cells states 16;
  }
    where
      own : (k : ℕ) → Pairwise (λ (a b : Row). key_less (0 ∷ []) a b ≡ true) (accept_at states k (get_or cells k false))
      own k = kept_pairwise (λ (a b : Row). key_less (0 ∷ []) a b ≡ true) (is_accepting states k (get_or cells k false)) (accepting k)

      apart : (j k : ℕ) (a b : Row) → j < k → a ∈ accept_at states j (get_or cells j false) → b ∈ accept_at states k (get_or cells k false) → key_less (0 ∷ []) a b ≡ true
      apart j k a b h m n = rw ((accept_is cells states j a m).0, (accept_is cells states k b n).0) (accept_less j k h)

-- the rows of all sections
module _ (form : ℕ) (rows : ℕ → List Row) (f : FormedRows form rows) (r : Rules) where
  abbrev half : ℕ → List Row
  half = replaced 2 (transition_rows r (length (rows 0))) rows

  half_formed : FormedRows form half
  unfolding transition_rows
  half_formed =
      section_replaced form rows 2 (transition_rows r (length (rows 0))) f (λ e. omega arith) (λ e. omega arith)
      (transitions_formed form (scopes_in rows) r.next r.states (length (rows 0))) (λ e. absurd (omega arith))

  pub rows_formed : FormedRows form (ruled_rows r rows)
  unfolding ruled_rows accept_rows
  rows_formed =
      section_replaced form half 3 (accept_rows r) half_formed (λ e. omega arith) (λ e. omega arith)
      (accepts_formed form (length (half 0)) (scopes_in half) r.accepts r.states) (λ e. absurd (omega arith))

-- the table
module _ (cells : List ℕ) (was : WasRead cells) (r : Rules) where
  made : FormedTable (ruled_cells r cells) × ((k : ℕ) → k < 9 → rows_in k (ruled_cells r cells) ≡ ruled_rows r (λ j. rows_in j cells) k)
  unfolding ruled_cells
  made = table_formed (form_in cells) (ruled_rows r (λ j. rows_in j cells)) (rows_formed (form_in cells) (λ j. rows_in j cells) (read_formed was.0 cells was.1).rows r)

  pub table_is_formed : FormedTable (ruled_cells r cells)
  table_is_formed = made.0

  pub form_stays : form_in (ruled_cells r cells) ≡ form_in cells
  unfolding ruled_cells table_of form_in
  form_stays = refl

  pub others_stay : (k : ℕ) → k < 9 → ¬ (k ≡ 2) → ¬ (k ≡ 3) → rows_in k (ruled_cells r cells) ≡ rows_in k cells
  unfolding ruled_rows replaced
  others_stay k h two three = made.1 k h ∙ rw (ne_eqb k 3 three, ne_eqb k 2 two, replaced)

  pub transitions_are : rows_in 2 (ruled_cells r cells) ≡ transition_rows r (length (rows_in 0 cells))
  unfolding ruled_rows replaced
  transitions_are = made.1 2 (omega arith)

  pub accepts_are : rows_in 3 (ruled_cells r cells) ≡ accept_rows r
  unfolding ruled_rows replaced
  accepts_are = made.1 3 (omega arith)
