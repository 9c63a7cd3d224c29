-- The edges of an admitted table: their turns, and their order by from, label, turn and to (02,
-- K12). Assumes nothing.
use Prim.Native.Nat.{ℕ, ◌<◌}
use mathlib.Core.Path.{◌≡◌, sym, ap, subst, ◌∙◌}
use mathlib.Core.Bool.{Bool, true, false}
use mathlib.Core.Logic.{inl, inr, ⊎_elim}
use mathlib.Core.Option.{some}
use mathlib.Core.List.Memᴰ
use mathlib.Core.List.{List, [], ◌∷◌}
use native.Mathlib.Omega.{arith}
use lib.Dec.{eqb}
use lib.ListN.{length}
use borrow.Author.Tests.{ltb-true, eqb-true, eq-eqb, lt-ltb}
use Rattle.scope_graph.specs.Language.{◌∈◌, by}
use Rattle.scope_graph.specs.Turns.{later, later_step}
use Rattle.scope_graph.specs.Rows.{Rules, preferred_by, language}
use Rattle.scope_graph.specs.Listing.{Pairwise, EdgeBefore}
use Rattle.scope_graph.proofs.Lists.{Two, here, there, and_left, and_right, and_both, or_right, true_false}
use Rattle.graph_rows.specs.Format.{turn, field, every_item, values_of, has_turns, edge_shape, edges, sections, section_at, shapes_of, shape_at, edge_section, turn_count}
use Rattle.graph_rows.specs.Admission.{Row, value, same_source, same_edge, content_in_range, item_in_range, in_range}
use Rattle.graph_rows.specs.Values.{item_formed, spares_place, idle_zero, idle_zeros, formed}
use Rattle.graph_rows.specs.Tested.{form_in}
use Rattle.graph_rows.specs.Decode.{rows_in, letters_of, scopes_of, edge_of}
use Rattle.graph_rows.proofs.DecodeWay.{AdmittedTable}
use Rattle.graph_rows.proofs.KeyLaws.{KeyBefore}
use Rattle.graph_rows.proofs.DecodeRows.{item_in}
use Rattle.graph_rows.proofs.DecodeTable.{table_formed, table_in_range, table_apart}

-- at one label the step of the later row is preferred, if its turn is higher
later_preferred : (r : Rules) (a b : Row) → value a 1 ≡ value b 1 → value a 3 < value b 3
    → (language r).prefers (by (edge_of r b).step) (by (edge_of r a).step) ≡ true
unfolding edge_of later_step later
later_preferred r a b e l =
    or_right (preferred_by r.order (by (value b 1)) (by (value a 1))) _ (and_both _ _ (eq-eqb (value b 1) (value a 1) (sym e)) (lt-ltb (value a 3) (value b 3) l))

same_step_lem : (r : Rules) (a b : Row) → value a 1 ≡ value b 1 → value a 3 ≡ value b 3 → (edge_of r a).step ≡ (edge_of r b).step
unfolding edge_of
same_step_lem r a b e f = λ i. record { label = e i; turn = some (f i) }

-- the order of the rules, from the order by key: from, label, turn, to
pub edge_key_lem : (r : Rules) (a b : Row) → KeyBefore (section_at edge_section).key a b → EdgeBefore (language r) (edge_of r a) (edge_of r b)
unfolding section_at sections edges edge_of
edge_key_lem r a b k =
    ⊎_elim (λ l. inl l)
    (λ from. inr (
      from.0,
      ⊎_elim (λ l. inl l)
          (λ label. inr (
            label.0,
            ⊎_elim (λ l. inl (later_preferred r a b label.0 l))
                (λ same. inr (same_step_lem r a b label.0 same.0, ⊎_elim (λ l. l) (λ to. absurd to.1) same.1))
                label.1,
          ))
          from.1,
    ))
    k

one_edge : (a b : Row) → value a 0 ≡ value b 0 → value a 1 ≡ value b 1 → value a 2 ≡ value b 2 → same_edge a b ≡ true
unfolding same_edge same_source
one_edge a b from label to =
    and_both _ _ (and_both _ _ (eq-eqb (value a 0) (value b 0) from) (eq-eqb (value a 1) (value b 1) label)) (eq-eqb (value a 2) (value b 2) to)

-- rows of which no two are the same are one, where they are the same
one_row_lem : (same : Row → Row → Bool) (rows : List Row) → Pairwise (λ (a b : Row). same a b ≡ false) rows → (a b : Row) → a ∈ rows → b ∈ rows
    → same a b ≡ true → same b a ≡ true → a ≡ b
one_row_lem same [] p a b m n s u = absurd (Memᴰ.not-nil m)
one_row_lem same (row ∷ rows) p a b m n s u =
    ⊎_elim
    (λ e.
    ⊎_elim (λ f. e ∙ sym f) (λ f. absurd (true_false s (rw e (p.0 b f)))) (Memᴰ.cases_cons n))
    (λ e.
    ⊎_elim (λ f. absurd (true_false u (rw f (p.0 a e)))) (λ f. one_row_lem same rows p.1 a b e f s u) (Memᴰ.cases_cons n))
    (Memᴰ.cases_cons m)

module _ (cells : List ℕ) (t : AdmittedTable cells) where
  -- a line without turns leaves the turn's place alone, which then holds 0
  unturned : has_turns t.form ≡ false → (row : Row) → row ∈ rows_in edge_section cells → value row 3 ≡ 0
  unfolding edge_shape formed idle_zeros idle_zero every_item spares_place values_of shape_at shapes_of
  unturned n row m =
      let items = (edge_shape false).row in
      let told : formed items row ≡ true = subst (λ (b : Bool). formed (edge_shape b).row row ≡ true) n (table_formed cells t edge_section (omega arith) row m) in
      let idle : idle_zeros items row ≡ true = and_right (every_item (item_formed row) items) (idle_zeros items row) told in
      eqb-true (value row 3) 0 (and_left (eqb (value row 3) 0) (eqb (value row 4) 0) idle)

  pub old_turns : has_turns (form_in cells) ≡ false → (row : Row) → row ∈ rows_in edge_section cells → value row 3 ≡ 0
  unfolding form_in
  old_turns n row m = unturned (subst (λ (c : List ℕ). has_turns (form_in c) ≡ false) t.cells_are n) row m

  -- a line with turns has it in its range
  turned : has_turns t.form ≡ true → (row : Row) → row ∈ rows_in edge_section cells → value row 3 < turn_count
  unfolding edge_shape in_range item_in_range content_in_range shape_at shapes_of
  turned n row m =
      let inside : (b : Bool) → Type 0 = λ b. in_range (length (letters_of cells)) (scopes_of cells) (edge_shape b).row row ≡ true in
      ltb-true _ _ (item_in _ (edge_shape true).row (field turn 3) (there (there (there (there here)))) (subst inside n (table_in_range cells t edge_section (omega arith) row m)))

  pub turn_in : (row : Row) → row ∈ rows_in edge_section cells → value row 3 < turn_count
  turn_in row m = ⊎_elim (λ e. turned e row m) (λ e. let z = unturned e row m in omega arith) (Two (has_turns t.form))

  -- rows of one from, label and to have one turn
  pub one_turn : (a b : Row) → a ∈ rows_in edge_section cells → b ∈ rows_in edge_section cells
      → value a 0 ≡ value b 0 → value a 1 ≡ value b 1 → value a 2 ≡ value b 2 → value a 3 ≡ value b 3
  one_turn a b m n from label to =
      ap (λ (row : Row). value row 3)
      (one_row_lem same_edge (rows_in edge_section cells) (table_apart cells t) a b m n (one_edge a b from label to) (one_edge b a (sym from) (sym label) (sym to)))
