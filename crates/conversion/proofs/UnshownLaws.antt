-- The test of a table's rows says what the graph's declarations, queries and edges have. Assumes
-- nothing.
use Prim.Native.Nat.{ℕ}
use mathlib.Core.Path.{◌≡◌, refl, sym, ap, ◌∙◌}
use mathlib.Core.Logic.{⊎_elim}
use mathlib.Core.Bool.{Bool, true, false, not, ◌||◌}
use mathlib.Core.Option.{Option, some}
use mathlib.Core.List.{List, map}
use lib.Dec.{eqb}
use borrow.Author.Tests.{eqb-false, ne_eqb}
use Rattle.scope_graph.specs.Language.{◌∈◌}
use Rattle.scope_graph.proofs.Lists.{Two, true_false, or_cases, or_left, or_right, not_is, is_not, map_intro, map_elim}
use Rattle.graph_rows.specs.Format.{plain_kind, edge_section, declaration_section, query_section}
use Rattle.graph_rows.specs.Admission.{Row, value}
use Rattle.graph_rows.specs.Order.{some_row}
use Rattle.graph_rows.specs.Decode.{rows_in, rules_of, name_at, edge_of, declaration_of, query_of, graph_of, queries_of}
use Rattle.graph_rows.specs.Formed.{other_kind, other_kinds, other_turn, other_turns}
use Rattle.graph_rows.proofs.DecodeOrder.{some_row_lem, some_none}
use Rattle.conversion.specs.Conversion.{unshown}
use Rattle.conversion.specs.Promises.{Unshown, declared, sought, turned}

row_some : (test : Row → Bool) (rows : List Row) (row : Row) → row ∈ rows → test row ≡ true → some_row test rows ≡ true
row_some test rows row m e =
    ⊎_elim (λ (y : some_row test rows ≡ true). y) (λ (n : some_row test rows ≡ false). absurd (true_false e (some_none test rows n row m))) (Two (some_row test rows))

-- rows are tested for another value at a place than a usual one, and what is decoded of them tells
-- that value
module _ {A B : Type 0} (test : Row → Bool) (c usual : ℕ) (tests : (row : Row) → test row ≡ not (eqb (value row c) usual))
    (f : Row → A) (shows : A → B) (made : ℕ → B) (same : (v : ℕ) → made v ≡ made usual → v ≡ usual) (kept : (row : Row) → shows (f row) ≡ made (value row c))
    (rows : List Row) where
  rows_found : some_row test rows ≡ true → (a : A) × (a ∈ map f rows) × ¬ (shows a ≡ made usual)
  rows_found h =
      let r = some_row_lem test rows h in
      (f r.0, map_intro f r.1, λ e. eqb-false (value r.0 c) usual (not_is (eqb (value r.0 c) usual) (sym (tests r.0) ∙ r.2)) (same (value r.0 c) (sym (kept r.0) ∙ e)))

  rows_told : (a : A) → a ∈ map f rows → ¬ (shows a ≡ made usual) → some_row test rows ≡ true
  rows_told a m n =
      let r = map_elim f rows m in
      row_some test rows r.0 r.1
      (tests r.0 ∙ is_not (eqb (value r.0 c) usual) (ne_eqb (value r.0 c) usual (λ e. n (ap shows r.2 ∙ kept r.0 ∙ ap made e))))

-- by their kinds, and by their turns
kind_tests : (row : Row) → other_kind row ≡ not (eqb (value row 1) plain_kind)
unfolding other_kind
kind_tests row = refl

turn_tests : (row : Row) → other_turn row ≡ not (eqb (value row 3) 0)
unfolding other_turn
turn_tests row = refl

one_turn : (v : ℕ) → ◌≡◌ {A = Option ℕ} (some v) (some 0) → v ≡ 0
one_turn v e = cc

module _ (cells : List ℕ) where
  pub unshown_found : unshown cells ≡ true → Unshown cells
  unfolding unshown other_kinds other_turns graph_of queries_of declaration_of query_of edge_of name_at
  unshown_found h =
      ⊎_elim (λ k.
      ⊎_elim (λ e. let d = rows_found other_kind 1 plain_kind kind_tests (declaration_of (rules_of cells)) (λ d. d.name.kind) (λ v. v) (λ v i. i) (λ row. refl) (rows_in declaration_section cells) e in declared d.0 d.1 d.2)
      (λ e. let q = rows_found other_kind 1 plain_kind kind_tests (query_of (rules_of cells)) (λ q. q.name.kind) (λ v. v) (λ v i. i) (λ row. refl) (rows_in query_section cells) e in sought q.0 q.1 q.2)
      (or_cases (some_row other_kind (rows_in declaration_section cells)) _ k))
      (λ e. let t = rows_found other_turn 3 0 turn_tests (edge_of (rules_of cells)) (λ t. t.step.turn) some one_turn (λ row. refl) (rows_in edge_section cells) e in turned t.0 t.1 t.2)
      (or_cases (some_row other_kind (rows_in declaration_section cells) || some_row other_kind (rows_in query_section cells)) _ h)

  pub unshown_told : Unshown cells → unshown cells ≡ true
  unfolding unshown other_kinds other_turns graph_of queries_of declaration_of query_of edge_of name_at
  unshown_told (declared d m n) =
      or_left _ _ (or_left _ _ (rows_told other_kind 1 plain_kind kind_tests (declaration_of (rules_of cells)) (λ d. d.name.kind) (λ v. v) (λ v i. i) (λ row. refl) (rows_in declaration_section cells) d m n))
  unshown_told (sought q m n) =
      or_left _ _ (or_right (some_row other_kind (rows_in declaration_section cells)) _ (rows_told other_kind 1 plain_kind kind_tests (query_of (rules_of cells)) (λ q. q.name.kind) (λ v. v) (λ v i. i) (λ row. refl) (rows_in query_section cells) q m n))
  unshown_told (turned t m n) =
      or_right (some_row other_kind (rows_in declaration_section cells) || some_row other_kind (rows_in query_section cells)) _
      (rows_told other_turn 3 0 turn_tests (edge_of (rules_of cells)) (λ t. t.step.turn) some one_turn (λ row. refl) (rows_in edge_section cells) t m n)
