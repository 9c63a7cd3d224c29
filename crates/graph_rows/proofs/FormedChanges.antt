-- What may be changed in formed rows (specs/Formed). Assumes nothing.
use Prim.Native.Nat.{ℕ, suc, ◌≤◌}
use mathlib.Core.Path.{◌≡◌, sym, ◌∙◌}
use mathlib.Core.Bool.{Bool, true, false}
use mathlib.Core.Logic.{⊎_elim}
use mathlib.Core.List.Memᴰ
use mathlib.Core.List.{List, [], ◌∷◌, ◌++◌, map}
use native.Mathlib.Omega.{arith}
use lib.Dec.{eqb}
use lib.ListN.{length, length-append}
use borrow.Author.Tests.{eqb-true, eqb-false, eq-eqb, ne_eqb}
use Rattle.scope_graph.specs.Language.{◌∈◌}
use Rattle.scope_graph.specs.Path.{Distinct}
use Rattle.scope_graph.specs.Listing.{Pairwise}
use Rattle.scope_graph.specs.Computed.{keep}
use Rattle.scope_graph.proofs.Lists.{Two, here, there, keep_elim, keep_pairwise, map_intro, map_elim}
use Rattle.graph_rows.specs.Format.{Sequence, ascending, apart, once, free, section_at, shape_at, label_section, pair_section, count_section}
use Rattle.graph_rows.specs.Admission.{Row, value, key_less, same_source, same_edge}
use Rattle.graph_rows.specs.Formed.{scopes_in, InTurn, FormedRow, replaced, SectionReplaced, MayJoin, RowAdded, RowsKept}

-- Other rows for one section.
replaced_same : (k : ℕ) (new : List Row) (rows : ℕ → List Row) (j : ℕ) → eqb j k ≡ true → replaced k new rows j ≡ new
unfolding replaced
replaced_same k new rows j e = rw (e, replaced)

replaced_other : (k : ℕ) (new : List Row) (rows : ℕ → List Row) (j : ℕ) → eqb j k ≡ false → replaced k new rows j ≡ rows j
unfolding replaced
replaced_other k new rows j e = rw (e, replaced)

pub section_replaced : SectionReplaced
unfolding scopes_in
section_replaced form rows k new f nl nc s o =
    let l = replaced_other k new rows label_section (ne_eqb label_section k (λ e. nl (sym e))) in
    let c = replaced_other k new rows count_section (ne_eqb count_section k (λ e. nc (sym e))) in
    record {
      known = f.known;
      sections = λ j h.
          ⊎_elim (λ e. rw (l, c, replaced_same k new rows j e, eqb-true j k e) s) (λ e. rw (l, c, replaced_other k new rows j e) (f.sections j h)) (Two (eqb j k));
      order =
          ⊎_elim (λ e. rw (replaced_same k new rows pair_section e) (o (sym (eqb-true pair_section k e)))) (λ e. rw (replaced_other k new rows pair_section e) f.order) (Two (eqb pair_section k));
    }

-- a row more at its place
pairwise_insert : (R : Row → Row → Type 0) (s t : List Row) (x : Row) → Pairwise R (s ++ t) → ((a : Row) → a ∈ s → R a x) → ((b : Row) → b ∈ t → R x b)
    → Pairwise R (s ++ (x ∷ t))
pairwise_insert R [] t x h f g = (g, h)
pairwise_insert R (a ∷ s) t x h f g = (
  (λ y m.
      ⊎_elim (λ z. h.0 y (Memᴰ.append_left t z))
      (λ z. ⊎_elim (λ e. rw e (f a here)) (λ n. h.0 y (Memᴰ.append_right s n)) (Memᴰ.cases_cons z))
      (Memᴰ.append_cases s m)),
  pairwise_insert R s t x h.1 (λ b m. f b (there m)) g,
)

each_insert : (P : Row → Type 0) (s t : List Row) (x : Row) → ((y : Row) → y ∈ (s ++ t) → P y) → P x → (y : Row) → y ∈ (s ++ (x ∷ t)) → P y
each_insert P s t x h p y m =
    ⊎_elim (λ z. h y (Memᴰ.append_left t z))
    (λ z. ⊎_elim (λ e. rw e p) (λ n. h y (Memᴰ.append_right s n)) (Memᴰ.cases_cons z))
    (Memᴰ.append_cases s m)

-- one edge is so either way round
eqb_sym : (m n : ℕ) → eqb m n ≡ eqb n m
eqb_sym m n =
    ⊎_elim (λ e. e ∙ sym (eq-eqb n m (sym (eqb-true m n e)))) (λ e. e ∙ sym (ne_eqb n m (λ z. eqb-false m n e (sym z)))) (Two (eqb m n))

edge_sym : (a b : Row) → same_edge a b ≡ same_edge b a
unfolding same_edge same_source
edge_sym a b = rw (eqb_sym (value a 0) (value b 0), eqb_sym (value a 1) (value b 1), eqb_sym (value a 2) (value b 2))

turn_insert : (q : Sequence) (key : List ℕ) (s t : List Row) (x : Row) → MayJoin q x (s ++ t) → InTurn q key (s ++ t) → ((a : Row) → a ∈ s → key_less key a x ≡ true)
    → ((b : Row) → b ∈ t → key_less key x b ≡ true) → InTurn q key (s ++ (x ∷ t))
turn_insert ascending key s t x j h f g = pairwise_insert (λ a b. key_less key a b ≡ true) s t x h f g
turn_insert apart key s t x j h f g = (
  pairwise_insert (λ a b. key_less key a b ≡ true) s t x h.0 f g,
  pairwise_insert (λ a b. same_edge a b ≡ false) s t x h.1 (λ a m. j a (Memᴰ.append_left t m)) (λ b m. edge_sym x b ∙ j b (Memᴰ.append_right s m)),
)
turn_insert once key s t x j h f g = absurd j
turn_insert free key s t x j h f g = absurd j

pub row_added : RowAdded
row_added labels scopes form k above below row j f one room before after =
    let least = f.least in
    let longer : length (above ++ (row ∷ below)) ≡ suc (length (above ++ below)) = omega (arith, length-append above (row ∷ below), length-append above below) in
    record {
      each = each_insert (FormedRow labels scopes (shape_at form k).row) above below row f.each one;
      in_turn = turn_insert (section_at k).sequence (section_at k).key above below row j f.in_turn before after;
      least = omega arith;
      most = omega arith;
    }

-- rows less
keep_length : (test : Row → Bool) (rows : List Row) → length (keep test rows) ≤ length rows
unfolding keep
keep_length test [] = omega arith
keep_length test (row ∷ rows) = step (test row) (keep_length test rows)
  where
    step : (t : Bool) → length (keep test rows) ≤ length rows
        → length {A = Row} (elim t as (λ _. List Row) [ true ↦ row ∷ keep test rows | false ↦ keep test rows ]) ≤ suc (length rows)
    step true h = omega arith
    step false h = omega arith

abbrev firsts : List Row → List ℕ
firsts rows = map (λ (row : Row). value row 0) rows

distinct_kept : (test : Row → Bool) (rows : List Row) → Distinct (firsts rows) → Distinct (firsts (keep test rows))
unfolding keep
distinct_kept test [] h = tt
distinct_kept test (row ∷ rows) h = step (test row) (distinct_kept test rows h.1)
  where
    step : (t : Bool) → Distinct (firsts (keep test rows))
        → Distinct (firsts (elim t as (λ _. List Row) [ true ↦ row ∷ keep test rows | false ↦ keep test rows ]))
    step true d =
        ((λ m. let r = map_elim (λ (a : Row). value a 0) (keep test rows) m in h.0 (Memᴰ.cast r.2 (map_intro (λ (a : Row). value a 0) (keep_elim test rows r.1).0))), d)
    step false d = d

turn_kept : (q : Sequence) (key : List ℕ) (test : Row → Bool) (rows : List Row) → InTurn q key rows → InTurn q key (keep test rows)
turn_kept ascending key test rows h = keep_pairwise (λ a b. key_less key a b ≡ true) test rows h
turn_kept apart key test rows h = (keep_pairwise (λ a b. key_less key a b ≡ true) test rows h.0, keep_pairwise (λ a b. same_edge a b ≡ false) test rows h.1)
turn_kept once key test rows h = distinct_kept test rows h
turn_kept free key test rows h = tt

pub rows_kept : RowsKept
rows_kept labels scopes form k test rows none f =
    let most = f.most in
    record {
      each = λ row m. f.each row (keep_elim test rows m).0;
      in_turn = turn_kept (section_at k).sequence (section_at k).key test rows f.in_turn;
      least = omega arith;
      most = omega (arith, keep_length test rows);
    }
