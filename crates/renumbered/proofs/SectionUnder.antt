-- The rows of a section under other numbers: they are formed, and the old numbers lead back.
-- Assumes nothing.
use Prim.Native.Nat.{ℕ, ◌≤◌, ◌<◌}
use mathlib.Core.Path.{◌≡◌, refl, sym, ap, subst, ◌∙◌}
use mathlib.Core.List.Memᴰ
use mathlib.Core.List.{List, [], ◌∷◌, map}
use mathlib.Core.Bool.{true, false}
use mathlib.Core.Logic.{◌↔◌, ⊎_elim}
use native.Mathlib.Omega.{arith}
use borrow.Author.Tests.{eq-eqb, eqb-true, eqb-false, lt-leb, ne_eqb}
use lib.Dec.{eqb}
use lib.ListN.{length, length-map}
use Rattle.scope_graph.specs.Language.{◌∈◌}
use Rattle.scope_graph.specs.Path.{Distinct}
use Rattle.scope_graph.specs.Listing.{Pairwise}
use Rattle.scope_graph.specs.Renamed.{Renumbers}
use Rattle.scope_graph.proofs.Lists.{Two, here, there, map_intro, map_elim, map_pairwise, pairwise_weaken}
use Rattle.graph_rows.specs.Format.{Sequence, ascending, apart, once, free, section_at, shape_at}
use Rattle.graph_rows.specs.Admission.{Row, value, key_less, same_source, same_edge}
use Rattle.graph_rows.specs.Formed.{InTurn, FormedRow, FormedSection}
use Rattle.graph_change.specs.Place.{same_key}
use Rattle.graph_change.specs.Changed.{inserted_all}
use Rattle.graph_change.specs.Promises.{Ascending}
use Rattle.graph_change.proofs.Keys.{less_not_back, less_not_same}
use Rattle.graph_change.proofs.RowLaws.{one_list, sorted_is, sorted_already}
use Rattle.renumbered.specs.Renumbered.{value_under, row_under, sequenced, rows_under}
use Rattle.renumbered.proofs.Rows.{sequenced_length, sequenced_has}
use Rattle.renumbered.proofs.Sections.{row_under_lem}
use Rattle.renumbered.proofs.Under.{same_value, same_key_lem, same_edge_lem, row_back}
use Rattle.renumbered.proofs.FormedUnder.{row_formed}

map_same : (g : Row → Row) (rows : List Row) → ((row : Row) → row ∈ rows → g row ≡ row) → map g rows ≡ rows
map_same g [] h = refl
map_same g (row ∷ rows) h = λ i. h row here i ∷ map_same g rows (λ a m. h a (there m)) i

map_twice : (g h : Row → Row) (rows : List Row) → ((row : Row) → row ∈ rows → h (g row) ≡ row) → map h (map g rows) ≡ rows
map_twice g h [] e = refl
map_twice g h (row ∷ rows) e = λ i. e row here i ∷ map_twice g h rows (λ a m. e a (there m)) i

-- one edge is so either way round
eqb_flip : (x y : ℕ) → eqb x y ≡ eqb y x
eqb_flip x y =
    ⊎_elim (λ e. e ∙ sym (eq-eqb y x (sym (eqb-true x y e)))) (λ e. e ∙ sym (ne_eqb y x (λ z. eqb-false x y e (sym z)))) (Two (eqb x y))

edge_flip : (a b : Row) → same_edge a b ≡ same_edge b a
unfolding same_edge same_source
edge_flip a b = rw (eqb_flip (value a 0) (value b 0), eqb_flip (value a 1) (value b 1), eqb_flip (value a 2) (value b 2))

-- any two of edges that stand apart
any_two : (rows : List Row) → Pairwise (λ (x y : Row). same_edge x y ≡ false) rows → (x y : Row) → x ∈ rows → y ∈ rows → ¬ (x ≡ y) → same_edge x y ≡ false
any_two [] p x y m l n = absurd (Memᴰ.not-nil m)
any_two (row ∷ rows) p x y m l n =
    ⊎_elim (λ e. ⊎_elim (λ d. absurd (n (e ∙ sym d))) (λ k. rw e (p.0 y k)) (Memᴰ.cases_cons l))
    (λ j. ⊎_elim (λ d. rw d (edge_flip x row ∙ p.0 x j)) (λ k. any_two rows p.1 x y j k n) (Memᴰ.cases_cons l))
    (Memᴰ.cases_cons m)

-- rows that are in turn stay so when they are sorted
turn_same : (q : Sequence) (key : List ℕ) (rows : List Row) → InTurn q key rows → sequenced q key rows ≡ rows
unfolding sequenced
turn_same ascending key rows t = sorted_already key rows t
turn_same apart key rows t = sorted_already key rows t.0
turn_same once key rows t = refl
turn_same free key rows t = refl

-- Sections without scopes keep their rows.
module _ (f : ℕ → ℕ) (form k : ℕ) (few : k < 5) where
  row_kept : (row : Row) → length row ≡ 5 → row_under f (shape_at form k).row row ≡ row
  unfolding value_under
  row_kept [] h = absurd (omega arith)
  row_kept (a ∷ []) h = absurd (omega arith)
  row_kept (a ∷ b ∷ []) h = absurd (omega arith)
  row_kept (a ∷ b ∷ c ∷ []) h = absurd (omega arith)
  row_kept (a ∷ b ∷ c ∷ d ∷ []) h = absurd (omega arith)
  row_kept (a ∷ b ∷ c ∷ d ∷ e ∷ []) h =
      row_under_lem f form k (omega arith) a b c d e ∙ rw (lt-leb 5 k few, ne_eqb k 5 (λ z. omega arith))
  row_kept (a ∷ b ∷ c ∷ d ∷ e ∷ g ∷ row) h = absurd (omega arith)

  pub rows_kept : (labels n : ℕ) (rows : List Row) → FormedSection labels n form k rows → rows_under f form k rows ≡ rows
  unfolding rows_under
  rows_kept labels n rows s =
      ap (sequenced (section_at k).sequence (section_at k).key) (map_same (row_under f (shape_at form k).row) rows (λ row m. row_kept row (s.each row m).five))
      ∙ turn_same (section_at k).sequence (section_at k).key rows s.in_turn

-- Of a renumbering of the numbers below n.
module _ (n : ℕ) (f b : ℕ → ℕ) (r : Renumbers n f b) (few : n ≤ 99999) (labels form k : ℕ) where
  abbrev under : Row → Row
  under = row_under f (shape_at form k).row

  module _ (rows : List Row) (each : (row : Row) → row ∈ rows → FormedRow labels n (shape_at form k).row row) where
    -- rows of different keys keep them different
    apart_under : (key : List ℕ) → Ascending key rows → Pairwise (λ (x y : Row). same_key key x y ≡ false) (map under rows)
    apart_under key a =
        map_pairwise (λ (x y : Row). same_key key x y ≡ false) under rows
        (pairwise_weaken (λ (x y : Row). key_less key x y ≡ true) (λ (x y : Row). same_key key (under x) (under y) ≡ false) rows
        (λ x y m l h. same_key_lem n f b r labels (shape_at form k).row x y ((each x m).five ∙ sym (each y l).five) (each x m).in_range (each y l).in_range key
        ∙ less_not_same key x y h) a)

    pub sorted_under : (key : List ℕ) → Ascending key rows → Ascending key (inserted_all key (map under rows) [])
    sorted_under key a = (sorted_is key (map under rows) (apart_under key a)).ascends

    -- so do edges
    edges_under : Pairwise (λ (x y : Row). same_edge x y ≡ false) rows → Pairwise (λ (x y : Row). same_edge x y ≡ false) (map under rows)
    edges_under a =
        map_pairwise (λ (x y : Row). same_edge x y ≡ false) under rows
        (pairwise_weaken (λ (x y : Row). same_edge x y ≡ false) (λ (x y : Row). same_edge (under x) (under y) ≡ false) rows
        (λ x y m l h. same_edge_lem n f b r labels (shape_at form k).row x y ((each x m).five ∙ sym (each y l).five) (each x m).in_range (each y l).in_range ∙ h) a)

    -- so do letters
    distinct_under : (rest : List Row) → ((row : Row) → row ∈ rest → row ∈ rows) → Distinct (map (λ (row : Row). value row 0) rest)
        → Distinct (map (λ (row : Row). value row 0) (map under rest))
    distinct_under [] inside d = tt
    distinct_under (x ∷ rest) inside d = (
      (λ m.
          let u = map_elim (λ (row : Row). value row 0) (map under rest) m in
          let v = map_elim under rest u.1 in
          let y : Row = v.0 in
          let same : value (under x) 0 ≡ value (under v.0) 0 = u.2 ∙ ap (λ (row : Row). value row 0) v.2 in
          let mx = inside x here in
          let my = inside v.0 (there v.1) in
          let old : value x 0 ≡ value v.0 0 =
          eqb-true (value x 0) (value v.0 0)
          (sym (same_value n f b r labels (shape_at form k).row x v.0 ((each x mx).five ∙ sym (each v.0 my).five) (each x mx).in_range (each v.0 my).in_range 0)
          ∙ eq-eqb (value (under x) 0) (value (under v.0) 0) same) in
          d.0 (Memᴰ.cast old (map_intro (λ (row : Row). value row 0) v.1))),
      distinct_under rest (λ row m. inside row (there m)) d.1,
    )

    -- edges that are sorted still stand apart
    edges_sorted : (key : List ℕ) → Ascending key (inserted_all key (map under rows) []) → Pairwise (λ (x y : Row). same_edge x y ≡ false) rows
        → Pairwise (λ (x y : Row). same_edge x y ≡ false) (inserted_all key (map under rows) [])
    unfolding sequenced
    edges_sorted key s a =
        pairwise_weaken (λ (x y : Row). key_less key x y ≡ true) (λ (x y : Row). same_edge x y ≡ false) (inserted_all key (map under rows) [])
        (λ x y m l h.
        any_two (map under rows) (edges_under a) x y ((sequenced_has ascending key (map under rows) x).0 m) ((sequenced_has ascending key (map under rows) y).0 l)
        (λ e. let z : key_less key x x ≡ true = ap (key_less key x) e ∙ h in less_not_back key x x z z)) s

    -- and each of them is formed
    each_under : (q : Sequence) (key : List ℕ) (row : Row) → row ∈ sequenced q key (map under rows) → FormedRow labels n (shape_at form k).row row
    each_under q key row m =
        let u = map_elim under rows ((sequenced_has q key (map under rows) row).0 m) in
        subst (λ (x : Row). FormedRow labels n (shape_at form k).row x) (sym u.2) (row_formed n f b r few labels form k u.0 (each u.0 u.1))

    turn_under : (q : Sequence) (key : List ℕ) → InTurn q key rows → InTurn q key (sequenced q key (map under rows))
    unfolding sequenced
    turn_under ascending key t = sorted_under key t
    turn_under apart key t = let s = sorted_under key t.0 in (s, edges_sorted key s t.1)
    turn_under once key t = distinct_under rows (λ row m. m) t
    turn_under free key t = tt

  pub section_formed : (rows : List Row) → FormedSection labels n form k rows → FormedSection labels n form k (rows_under f form k rows)
  unfolding rows_under
  section_formed rows s =
      let long = sequenced_length (section_at k).sequence (section_at k).key (map under rows) in
      let mapped = length-map rows under in
      let least = s.least in
      let most = s.most in
      record {
        each = each_under rows s.each (section_at k).sequence (section_at k).key;
        in_turn = turn_under rows s.each (section_at k).sequence (section_at k).key s.in_turn;
        least = omega arith;
        most = omega arith;
      }

-- The way back: g renumbers too, and takes f's numbers back.
module _ (n : ℕ) (f b g h : ℕ → ℕ) (r : Renumbers n f b) (s : Renumbers n g h) (back : (x : ℕ) → x < n → g (f x) ≡ x) (few : n ≤ 99999) (labels form k : ℕ)
    (rows : List Row) (t : FormedSection labels n form k rows) where
  abbrev there_is : Row → Row
  there_is = row_under f (shape_at form k).row

  abbrev back_is : Row → Row
  back_is = row_under g (shape_at form k).row

  one_back : (row : Row) → row ∈ rows → back_is (there_is row) ≡ row
  one_back row m = row_back n f g back labels (shape_at form k).row row (t.each row m).in_range

  -- the rows that come of it, whatever their sequence
  same_rows : (q : Sequence) (key : List ℕ) (a : Row) → (a ∈ sequenced q key (map back_is (sequenced q key (map there_is rows)))) ↔ (a ∈ rows)
  same_rows q key a = (
    (λ m.
        let u = map_elim back_is (sequenced q key (map there_is rows)) ((sequenced_has q key (map back_is (sequenced q key (map there_is rows))) a).0 m) in
        let v = map_elim there_is rows ((sequenced_has q key (map there_is rows) u.0).0 u.1) in
        let e : a ≡ v.0 = u.2 ∙ ap back_is v.2 ∙ one_back v.0 v.1 in
        subst (λ (x : Row). x ∈ rows) (sym e) v.1),
    (λ m.
        (sequenced_has q key (map back_is (sequenced q key (map there_is rows))) a).1
        (subst (λ (x : Row). x ∈ map back_is (sequenced q key (map there_is rows))) (one_back a m)
        (map_intro back_is ((sequenced_has q key (map there_is rows) (there_is a)).1 (map_intro there_is m))))),
  )

  turn_back : (q : Sequence) (key : List ℕ) → InTurn q key rows → InTurn q key (sequenced q key (map there_is rows))
      → sequenced q key (map back_is (sequenced q key (map there_is rows))) ≡ rows
  unfolding sequenced
  turn_back ascending key a c =
      one_list key (inserted_all key (map back_is (inserted_all key (map there_is rows) [])) []) rows
      (sorted_under n g h s few labels form k (inserted_all key (map there_is rows) []) (each_under n f b r few labels form k rows t.each ascending key) key c) a (same_rows ascending key)
  turn_back apart key a c =
      one_list key (inserted_all key (map back_is (inserted_all key (map there_is rows) [])) []) rows
      (sorted_under n g h s few labels form k (inserted_all key (map there_is rows) []) (each_under n f b r few labels form k rows t.each apart key) key c.0) a.0 (same_rows apart key)
  turn_back once key a c = map_twice there_is back_is rows one_back
  turn_back free key a c = map_twice there_is back_is rows one_back

  pub section_back : rows_under g form k (rows_under f form k rows) ≡ rows
  unfolding rows_under
  section_back = turn_back (section_at k).sequence (section_at k).key t.in_turn (section_formed n f b r few labels form k rows t).in_turn
