-- Laws of the tests that admit a row, as the code makes them. Assumes nothing.
use Prim.Native.Nat.{ℕ, zero, suc, ◌+◌, ◌-◌, ◌%◌, ◌≤◌, ◌<◌}
use mathlib.Core.Path.{◌≡◌, refl, sym, ap, ◌∙◌}
use mathlib.Core.List.{List, [], ◌∷◌}
use mathlib.Core.Bool.{Bool, true, false, not, ◌&&◌, ◌||◌}
use native.Mathlib.Omega.{arith}
use borrow.Author.Tests.{lt-ltb, le-ltb, eq-eqb, ne_eqb, eqb-true, eqb-false}
use lib.Dec.{eqb, ltb, eqb-zero-suc, eqb-suc-suc}
use lib.ListN.{length, get_or, drop}
use Rattle.std.specs.declared.option.Option.TheVariants.{Some}
use Rattle.std.specs.Ordering.{is_lt, is_eq, is_some_and, nat_cmp, partial_ordering_then}
use Rattle.std.proofs.Common.{Ordering, Less, Equal, Greater}
use Rattle.std.proofs.lemmas.Bool.Decides.{nat_tests}
use Rattle.text_field.proofs.ByteLaws.{clash}
use Rattle.graph_rows.specs.declared.rows.Counts.{Counts}
use Rattle.graph_rows.specs.Format.{Content, state, scope, mark, count, letter, label, end, name, kind, plain, turn, Item, byte, field, every_item, Sequence, ascending, apart, once, free, labels, pairs, transitions, accepts, scope_count, edges, declarations, open_pairs, queries, past_last, sections, section_at, shape_at, edge_section}
use Rattle.graph_rows.specs.Admission.{Row, value, row_of, content_in_range, item_in_range, in_range, key_less, listed, ascends, same_source, repeats, follows, unless, admission, place}
use Rattle.graph_rows.specs.LookBack.{found_looking_back, Ascended, SortedSofar}
use Rattle.graph_rows.specs.Table.{format_bytes, has_range, kept_ranged, ranged, key_at, items_at, range_place, letters_at, rows_back, sofar_at}
use Rattle.graph_rows.proofs.FormatLaws.{keys_step, key_more, key_last, range_items}
use Rattle.graph_rows.proofs.RowLaws.{place_hit, place_miss, letters_length}

or_none : (t : Bool) → (t || false) ≡ t
or_none true = refl
or_none false = refl

and_none : (t : Bool) → (t && false) ≡ false
and_none true = refl
and_none false = refl

-- the key at a place of the format, place by place: different, equal so far, and at its end
module _ (o x c : ℕ) (a b : Row) (e : x ≡ get_or format_bytes o 10) (n : x ≡ 10 → ⊥) (place : c ≡ x % 8) where
  pub key_differs : (value a c ≡ value b c → ⊥) → ltb (value a c) (value b c) ≡ key_less (key_at o) a b
  unfolding key_less
  key_differs h = rw (keys_step o, ← e, key_more x (key_at (o + 1)) n, ← place, ne_eqb (value a c) (value b c) h) (sym (or_none (ltb (value a c) (value b c))))

  pub key_equal : value a c ≡ value b c → key_less (key_at (o + 1)) a b ≡ key_less (key_at o) a b
  unfolding key_less
  key_equal h = sym (rw (keys_step o, ← e, key_more x (key_at (o + 1)) n, ← place, le-ltb (value a c) (value b c) (omega arith), eq-eqb (value a c) (value b c) h))

pub key_end : (o x : ℕ) (a b : Row) → x ≡ get_or format_bytes o 10 → x ≡ 10 → key_less (key_at o) a b ≡ false
unfolding key_less
key_end o x a b e n = rw (keys_step o, ← e, key_last x (key_at (o + 1)) n)

-- a key whose places are known: the rows differ at its first place, are equal there, and at its
-- last
module _ (c : ℕ) (key : List ℕ) (a b : Row) where
  pub less_here : (value a c ≡ value b c → ⊥) → ltb (value a c) (value b c) ≡ key_less (c ∷ key) a b
  unfolding key_less
  less_here h = rw (ne_eqb (value a c) (value b c) h) (sym (or_none (ltb (value a c) (value b c))))

  pub less_on : value a c ≡ value b c → key_less key a b ≡ key_less (c ∷ key) a b
  unfolding key_less
  less_on h = rw (le-ltb (value a c) (value b c) (omega arith), eq-eqb (value a c) (value b c) h)

pub less_last : (c : ℕ) (a b : Row) → ltb (value a c) (value b c) ≡ key_less (c ∷ []) a b
unfolding key_less
less_last c a b = sym (ap (λ (t : Bool). ltb (value a c) (value b c) || t) (and_none (eqb (value a c) (value b c))) ∙ or_none (ltb (value a c) (value b c)))

-- four comparisons in turn, as those of tuples are made
first_of_four : (o₁ o₂ o₃ o₄ : Ordering) → is_some_and is_lt (partial_ordering_then (partial_ordering_then (partial_ordering_then (Some o₁) (Some o₂)) (Some o₃)) (Some o₄)) ≡ (is_lt o₁ || (is_eq o₁ && (is_lt o₂ || (is_eq o₂ && (is_lt o₃ || (is_eq o₃ && (is_lt o₄ || (is_eq o₄ && false))))))))
first_of_four Less o₂ o₃ o₄ = refl
first_of_four Greater o₂ o₃ o₄ = refl
first_of_four Equal Less o₃ o₄ = refl
first_of_four Equal Greater o₃ o₄ = refl
first_of_four Equal Equal Less o₄ = refl
first_of_four Equal Equal Greater o₄ = refl
first_of_four Equal Equal Equal Less = refl
first_of_four Equal Equal Equal Greater = refl
first_of_four Equal Equal Equal Equal = refl

less_told : (x y : ℕ) → is_lt (nat_cmp x y) ≡ ltb x y
less_told x y = grind (arith, nat_tests)

equal_told : (x y : ℕ) → is_eq (nat_cmp x y) ≡ eqb x y
equal_told x y = grind (arith, nat_tests)

-- the edges' key tells as their tuples do
pub edge_told : (a b : Row) → is_some_and is_lt (partial_ordering_then (partial_ordering_then (partial_ordering_then (Some (nat_cmp (value a 0) (value b 0))) (Some (nat_cmp (value a 1) (value b 1)))) (Some (nat_cmp (value a 3) (value b 3)))) (Some (nat_cmp (value a 2) (value b 2)))) ≡ key_less (section_at edge_section).key a b
unfolding key_less section_at sections edges
edge_told a b =
    first_of_four (nat_cmp (value a 0) (value b 0)) (nat_cmp (value a 1) (value b 1)) (nat_cmp (value a 3) (value b 3)) (nat_cmp (value a 2) (value b 2))
    ∙ rw (less_told (value a 0) (value b 0), equal_told (value a 0) (value b 0), less_told (value a 1) (value b 1), equal_told (value a 1) (value b 1), less_told (value a 3) (value b 3), equal_told (value a 3) (value b 3), less_told (value a 2) (value b 2), equal_told (value a 2) (value b 2))

-- the rows before, where the section has none, and where it has some
pub back_none : (n p : ℕ) (t : List ℕ) → n ≡ 0 → rows_back n p t ≡ []
unfolding rows_back
back_none n p t h = rw h

pub back_row : (n p : ℕ) (t : List ℕ) → 0 < n → rows_back n p t ≡ row_of (drop (p - 6) t) ∷ rows_back (n - 1) (p - 6) t
unfolding rows_back
back_row n p t h = let e : n ≡ suc (n - 1) = omega arith in ap (λ (m : ℕ). rows_back m p t) e

-- the edge rows directly above, one by one: none is left, one of another source, the same edge, and
-- another edge of the source
module _ (n q : ℕ) (t : List ℕ) (row : Row) where
  pub above_none : n ≤ 0 → found_looking_back (rows_back n q t) row ≡ false
  unfolding found_looking_back
  above_none h = rw (back_none n q t (omega arith))

  module _ (some : 0 < n) where
    pub above_other : same_source (row_of (drop (q - 6) t)) row ≡ false → found_looking_back (rows_back n q t) row ≡ false
    unfolding found_looking_back
    above_other e = rw (back_row n q t some, e)

    pub above_hit : same_source (row_of (drop (q - 6) t)) row ≡ true → value (row_of (drop (q - 6) t)) 2 ≡ value row 2 → found_looking_back (rows_back n q t) row ≡ true
    unfolding found_looking_back
    above_hit e f = rw (back_row n q t some, e, eq-eqb (value (row_of (drop (q - 6) t)) 2) (value row 2) f)

    pub above_on : same_source (row_of (drop (q - 6) t)) row ≡ true → (value (row_of (drop (q - 6) t)) 2 ≡ value row 2 → ⊥) → found_looking_back (rows_back (n - 1) (q - 6) t) row ≡ found_looking_back (rows_back n q t) row
    unfolding found_looking_back
    above_on e f = sym (rw (back_row n q t some, e, ne_eqb (value (row_of (drop (q - 6) t)) 2) (value row 2) f))

listed_hit : (x y : ℕ) (l : List ℕ) → eqb y x ≡ true → listed x (y ∷ l) ≡ true
unfolding listed
listed_hit x y l e = rw e

listed_miss : (x y : ℕ) (l : List ℕ) → eqb y x ≡ false → listed x (y ∷ l) ≡ listed x l
unfolding listed
listed_miss x y l e = rw e

-- a letter is listed where its place is not the end of the list
pub listed_place : (x : ℕ) (l : List ℕ) → eqb (place x l) (length l) ≡ not (listed x l)
unfolding listed place
listed_place x [] = refl
listed_place x (y ∷ l) = go (eqb y x) refl (listed_place x l)
  where
    go : (b : Bool) → eqb y x ≡ b → eqb (place x l) (length l) ≡ not (listed x l) → eqb (place x (y ∷ l)) (suc (length l)) ≡ not (listed x (y ∷ l))
    go true e ih = rw (place_hit x y l (eqb-true y x e), listed_hit x y l e) (eqb-zero-suc (length l))
    go false e ih = rw (place_miss x y l (eqb-false y x e), listed_miss x y l e) (eqb-suc-suc (place x l) (length l) ∙ ih)

pub letter_unlisted : (x n : ℕ) (t : List ℕ) → eqb (place x (letters_at n t)) n ≡ not (listed x (letters_at n t))
letter_unlisted x n t = rw (letters_length n t) at (listed_place x (letters_at n t))

-- how rows follow, by their sequence
module _ (q : Sequence) (key letters : List ℕ) (own : List Row) (row : Row) where
  pub follows_ascending : ascending ≡ q → follows q key letters own row ≡ ascends key own row
  unfolding follows
  follows_ascending e = ap (λ (s : Sequence). follows s key letters own row) (sym e)

  follows_apart : apart ≡ q → follows q key letters own row ≡ (ascends key own row && not (repeats own row))
  unfolding follows
  follows_apart e = ap (λ (s : Sequence). follows s key letters own row) (sym e)

  pub follows_once : once ≡ q → follows q key letters own row ≡ not (listed (value row 0) letters)
  unfolding follows
  follows_once e = ap (λ (s : Sequence). follows s key letters own row) (sym e)

  pub follows_free : free ≡ q → follows q key letters own row ≡ true
  unfolding follows
  follows_free e = ap (λ (s : Sequence). follows s key letters own row) (sym e)

-- a value that has no range is in range, so the fields that have one tell of all
unranged : (labels scopes : ℕ) (k : Content) (v : ℕ) → has_range k ≡ false → content_in_range labels scopes k v ≡ true
unfolding has_range content_in_range
unranged labels scopes state v h = absurd (clash refl h)
unranged labels scopes scope v h = absurd (clash refl h)
unranged labels scopes mark v h = absurd (clash refl h)
unranged labels scopes count v h = absurd (clash refl h)
unranged labels scopes letter v h = refl
unranged labels scopes label v h = absurd (clash refl h)
unranged labels scopes end v h = absurd (clash refl h)
unranged labels scopes name v h = refl
unranged labels scopes kind v h = refl
unranged labels scopes plain v h = refl
unranged labels scopes turn v h = absurd (clash refl h)

pub ranged_all : (labels scopes : ℕ) (items : List Item) (row : Row) → in_range labels scopes (ranged items) row ≡ in_range labels scopes items row
unfolding in_range every_item item_in_range ranged
ranged_all labels scopes [] row = refl
ranged_all labels scopes (byte b ∷ items) row = ranged_all labels scopes items row
ranged_all labels scopes (field k c ∷ items) row = by (has_range k) refl (ranged_all labels scopes items row)
  where
    by : (t : Bool) → has_range k ≡ t → every_item (item_in_range labels scopes row) (ranged items) ≡ every_item (item_in_range labels scopes row) items
        → every_item (item_in_range labels scopes row) (kept_ranged t (field k c) (ranged items)) ≡ (content_in_range labels scopes k (value row c) && every_item (item_in_range labels scopes row) items)
    by true e h = unfold kept_ranged in ap (λ (b : Bool). content_in_range labels scopes k (value row c) && b) h
    by false e h = unfold kept_ranged in rw (unranged labels scopes k (value row c) e) h

-- the section whose rows stand apart has the key of edges
unfoldable is_apart : Sequence → Bool
is_apart ascending = false
is_apart apart = true
is_apart once = false
is_apart free = false

key_apart : (k : ℕ) → is_apart (section_at k).sequence ≡ true → (section_at edge_section).key ≡ (section_at k).key
unfolding is_apart section_at sections labels pairs transitions accepts scope_count edges declarations open_pairs queries past_last
key_apart zero e = absurd (clash e refl)
key_apart (suc zero) e = absurd (clash e refl)
key_apart (suc (suc zero)) e = absurd (clash e refl)
key_apart (suc (suc (suc zero))) e = absurd (clash e refl)
key_apart (suc (suc (suc (suc zero)))) e = absurd (clash e refl)
key_apart (suc (suc (suc (suc (suc zero))))) e = refl
key_apart (suc (suc (suc (suc (suc (suc zero)))))) e = absurd (clash e refl)
key_apart (suc (suc (suc (suc (suc (suc (suc zero))))))) e = absurd (clash e refl)
key_apart (suc (suc (suc (suc (suc (suc (suc (suc zero)))))))) e = absurd (clash e refl)
key_apart (suc (suc (suc (suc (suc (suc (suc (suc (suc k))))))))) e = absurd (clash e refl)

pub follows_edge : (k : ℕ) (letters : List ℕ) (own : List Row) (row : Row) → apart ≡ (section_at k).sequence
    → follows (section_at k).sequence (section_at k).key letters own row ≡ (ascends (section_at edge_section).key own row && not (repeats own row))
unfolding is_apart
follows_edge k letters own row e =
    follows_apart (section_at k).sequence (section_at k).key letters own row e
    ∙ ap (λ (key : List ℕ). ascends key own row && not (repeats own row)) (sym (key_apart k (ap is_apart (sym e))))

-- so its rows so far ascend by the key of edges
pub sorted_edges : (k : ℕ) (own : List Row) → SortedSofar k own → apart ≡ (section_at k).sequence → Ascended (section_at edge_section).key own
unfolding is_apart
sorted_edges k own s e = rw (key_apart k (ap is_apart (sym e))) (s e)

-- a section begins without rows
pub sorted_none : (k n p : ℕ) (t : List ℕ) → n ≡ 0 → SortedSofar k (rows_back n p t)
sorted_none k n p t h e = rw (back_none n p t h) tt

-- the refusals of the row at place p of a table, in their sequence
module _ (form k : ℕ) (t : List ℕ) (p : ℕ) (c : Counts) where
  pub refused_full : (section_at k).most ≤ c.rows → admission form k (sofar_at t p c) (row_of (drop p t)) ≡ 5
  unfolding admission sofar_at unless
  refused_full h = rw (le-ltb c.rows (section_at k).most h)

  -- the fields with a range tell whether the row is in range
  fields_range : in_range c.labels c.scopes (items_at (range_place form k)) (row_of (drop p t)) ≡ in_range c.labels c.scopes (shape_at form k).row (row_of (drop p t))
  fields_range =
      ap (λ (items : List Item). in_range c.labels c.scopes items (row_of (drop p t))) (range_items form k)
      ∙ ranged_all c.labels c.scopes (shape_at form k).row (row_of (drop p t))

  module _ (room : c.rows < (section_at k).most) where
    pub refused_range : in_range c.labels c.scopes (items_at (range_place form k)) (row_of (drop p t)) ≡ false → admission form k (sofar_at t p c) (row_of (drop p t)) ≡ 3
    unfolding admission sofar_at unless
    refused_range e = rw (lt-ltb c.rows (section_at k).most room, letters_length c.labels (drop 1 t), ← fields_range, e)

    module _ (in_range : in_range c.labels c.scopes (items_at (range_place form k)) (row_of (drop p t)) ≡ true) where
      pub follows_last : {b : Bool} → follows (section_at k).sequence (section_at k).key (letters_at c.labels (drop 1 t)) (rows_back c.rows p t) (row_of (drop p t)) ≡ b → admission form k (sofar_at t p c) (row_of (drop p t)) ≡ unless b 4 0
      unfolding admission sofar_at unless
      follows_last e = rw (lt-ltb c.rows (section_at k).most room, letters_length c.labels (drop 1 t), ← fields_range, in_range, e)
