-- Formed rows are admitted one after the other: the labels and scopes by which a row's range is
-- told are all known when its section begins. Assumes nothing.
use Prim.Native.Nat.{ℕ, zero, suc, ◌+◌, ◌≤◌, ◌<◌}
use mathlib.Core.Path.{◌≡◌, refl, sym, ap, ◌∙◌}
use mathlib.Core.Bool.{Bool, true, false, ◌&&◌, ◌||◌}
use mathlib.Core.Logic.{⊎_elim}
use mathlib.Core.List.Memᴰ
use mathlib.Core.List.{List, [], ◌∷◌, ◌++◌}
use native.Mathlib.Omega.{arith}
use lib.Dec.{eqb, ltb}
use lib.ListN.{length, get_or, length-append}
use borrow.Author.Tests.{ltb-true, eqb-true, eqb-false, lt-ltb, ne_eqb}
use Rattle.scope_graph.specs.Language.{◌∈◌}
use Rattle.scope_graph.proofs.Lists.{Two, here, there, and_left, and_right, and_both, or_cases, true_false, not_true, is_not, map_intro}
use Rattle.graph_rows.specs.Format.{Content, state, scope, mark, count, letter, label, end, name, kind, plain, turn, Item, byte, field, every_item, Sequence, ascending, apart, once, free, labels, pairs, transitions, accepts, scope_count, edges, declarations, open_pairs, queries, sections, section_at, has_kinds, has_turns, edge_shape, declaration_shape, query_shape, shapes_of, shape_at, old_form, label_section, count_section, edge_section}
use Rattle.graph_rows.specs.Admission.{Row, value, blank, Sofar, nothing, begun, joined, counted, taken, content_in_range, item_in_range, in_range, same_edge, listed, ascends, follows, unless, admission}
use Rattle.graph_rows.specs.Formed.{scopes_in, InTurn, FormedRow, FormedRows}
use Rattle.graph_rows.proofs.DecodeWay.{taken_all, AdmittedRows, AdmittedSections}
use Rattle.graph_rows.proofs.LookBackLaws.{repeats_none}

-- Does what is in range stay so, where the labels (l) and the scopes (s) are known to stay?
unfoldable stays : Bool → Bool → Content → Bool
stays l s state = true
stays l s scope = s
stays l s mark = true
stays l s count = true
stays l s letter = true
stays l s label = l
stays l s end = l
stays l s name = true
stays l s kind = true
stays l s plain = true
stays l s turn = true

unfoldable item_stays : Bool → Bool → Item → Bool
item_stays l s (byte b) = true
item_stays l s (field k c) = stays l s k

module _ (l s : Bool) (a b c d : ℕ) (labels_stay : l ≡ true → a ≡ b) (scopes_stay : s ≡ true → c ≡ d) where
  content_stays : (k : Content) (v : ℕ) → stays l s k ≡ true → content_in_range a c k v ≡ content_in_range b d k v
  unfolding stays content_in_range
  content_stays state v h = refl
  content_stays scope v h = rw (scopes_stay h)
  content_stays mark v h = refl
  content_stays count v h = refl
  content_stays letter v h = refl
  content_stays label v h = rw (labels_stay h)
  content_stays end v h = rw (labels_stay h)
  content_stays name v h = refl
  content_stays kind v h = refl
  content_stays plain v h = refl
  content_stays turn v h = refl

  item_stays_lem : (row : Row) (i : Item) → item_stays l s i ≡ true → item_in_range a c row i ≡ item_in_range b d row i
  unfolding item_stays item_in_range
  item_stays_lem row (byte x) h = refl
  item_stays_lem row (field k p) h = content_stays k (value row p) h

  range_stays : (items : List Item) (row : Row) → every_item (item_stays l s) items ≡ true → in_range a c items row ≡ in_range b d items row
  unfolding in_range every_item
  range_stays [] row h = refl
  range_stays (i ∷ items) row h =
      rw (item_stays_lem row i (and_left _ _ h), range_stays items row (and_right (item_stays l s i) _ h))

-- The labels are known from section 1 on, the scopes from section 5 on, only the labels are listed
-- once and only the edges stand apart: by computing, in any form.
unfoldable pub own_sequence : ℕ → Sequence → Bool
own_sequence k ascending = true
own_sequence k apart = eqb k edge_section
own_sequence k once = eqb k label_section
own_sequence k free = true

unfoldable known_in_time : ℕ → ℕ → Bool
known_in_time form k = every_item (item_stays (ltb label_section k) (ltb count_section k)) (shape_at form k).row && own_sequence k (section_at k).sequence

unfoldable all_below : ℕ → (ℕ → Bool) → Bool
all_below zero test = true
all_below (suc n) test = test n && all_below n test

below : (n k : ℕ) (test : ℕ → Bool) → all_below n test ≡ true → k < n → test k ≡ true
unfolding all_below
below zero k test h l = absurd (omega arith)
below (suc n) k test h l =
    ⊎_elim (λ e. ap test (eqb-true k n e) ∙ and_left _ _ h)
    (λ e. below n k test (and_right (test n) _ h) (let d = eqb-false k n e in omega arith))
    (Two (eqb k n))

in_time : (form : ℕ) → all_below 9 (known_in_time form) ≡ true
unfolding all_below known_in_time own_sequence every_item item_stays stays has_kinds has_turns edge_shape declaration_shape query_shape shapes_of shape_at section_at sections labels pairs transitions accepts scope_count edges declarations open_pairs queries
in_time zero = refl
in_time (suc zero) = refl
in_time (suc (suc zero)) = refl
in_time (suc (suc (suc n))) = refl

time : (form k : ℕ) → k < 9 → known_in_time form k ≡ true
time form k h = below 9 k (known_in_time form) (in_time form) h

pub own_sequence_lem : (k : ℕ) → k < 9 → own_sequence k (section_at k).sequence ≡ true
unfolding known_in_time
own_sequence_lem k h = and_right (every_item (item_stays (ltb label_section k) (ltb count_section k)) (shape_at old_form k).row) _ (time old_form k h)

-- What the rows so far must leave for a section's rows: the labels and the scopes, where they are
-- known.
record Ready (k labels scopes : ℕ) (st : Sofar) : Type 0 where
  labelled : label_section < k → length st.letters ≡ labels
  counted : count_section < k → st.scopes ≡ scopes

ready_taken : (k labels scopes : ℕ) (st : Sofar) (row : Row) → Ready k labels scopes st → Ready k labels scopes (taken k st row)
unfolding taken joined counted
ready_taken k labels scopes st row r = record {
  labelled = λ l. rw (ne_eqb k label_section (λ e. omega arith)) (r.labelled l);
  counted = λ l. rw (ne_eqb k count_section (λ e. omega arith)) (r.counted l);
}

-- The rows that are left follow those so far as their section asks.
abbrev Turn : Sequence → List ℕ → Sofar → List Row → Type 0
Turn ascending key st rows = ((row : Row) → row ∈ rows → ascends key st.own row ≡ true) × InTurn ascending key rows
Turn apart key st rows = ((row : Row) → row ∈ rows → ascends key st.own row ≡ true) × ((a row : Row) → a ∈ st.own → row ∈ rows → same_edge a row ≡ false) × InTurn apart key rows
Turn once key st rows = ((row : Row) → row ∈ rows → ¬ (value row 0 ∈ st.letters)) × InTurn once key rows
Turn free key st rows = Unit {0}

unlisted : (x : ℕ) (ys : List ℕ) → ¬ (x ∈ ys) → listed x ys ≡ false
unfolding listed
unlisted x [] h = refl
unlisted x (y ∷ ys) h =
    not_true (eqb y x || listed x ys) (λ t.
    ⊎_elim (λ e. h (Memᴰ.cast (sym (eqb-true y x e)) here)) (λ e. true_false e (unlisted x ys (λ m. h (there m)))) (or_cases (eqb y x) _ t))

turn_follows : (q : Sequence) (key : List ℕ) (st : Sofar) (row : Row) (rows : List Row) → Turn q key st (row ∷ rows)
    → follows q key st.letters st.own row ≡ true
unfolding follows
turn_follows ascending key st row rows t = t.0 row here
turn_follows apart key st row rows t =
    and_both _ _ (t.0 row here) (is_not _ (repeats_none st.own row (λ a m. t.1 a row m here)))
turn_follows once key st row rows t = is_not _ (unlisted (value row 0) st.letters (t.0 row here))
turn_follows free key st row rows t = refl

-- a letter joins, or none
not_joined : (b : Bool) (x y : ℕ) (ys : List ℕ) → ¬ (x ∈ ys) → ¬ (x ≡ y) → ¬ (x ∈ joined b ys y)
unfolding joined
not_joined true x y ys h d m = ⊎_elim h (λ n. ⊎_elim d Memᴰ.not-nil (Memᴰ.cases_cons n)) (Memᴰ.append_cases ys m)
not_joined false x y ys h d m = h m

turn_next : (q : Sequence) (key : List ℕ) (k : ℕ) (st : Sofar) (row : Row) (rows : List Row) → Turn q key st (row ∷ rows) → Turn q key (taken k st row) rows
unfolding taken ascends
turn_next ascending key k st row rows t = t.1
turn_next apart key k st row rows t = (
  t.2.0.0,
  (λ a later m n. ⊎_elim (λ e. rw e (t.2.1.0 later n)) (λ h. t.1 a later h (there n)) (Memᴰ.cases_cons m)),
  (t.2.0.1, t.2.1.1),
)
turn_next once key k st row rows t = (
  (λ later m. not_joined (eqb k label_section) (value later 0) (value row 0) st.letters (t.0 later (there m))
      (λ e. t.1.0 (Memᴰ.cast (sym e) (map_intro (λ (r : Row). value r 0) m)))),
  t.1.1,
)
turn_next free key k st row rows t = tt

-- as a section begins
turn_begins : (q : Sequence) (key : List ℕ) (k : ℕ) (st : Sofar) (rows : List Row) → own_sequence k q ≡ true → (k ≡ label_section → st.letters ≡ []) → InTurn q key rows
    → Turn q key (begun st) rows
unfolding own_sequence begun ascends
turn_begins ascending key k st rows h e t = ((λ row m. refl), t)
turn_begins apart key k st rows h e t = ((λ row m. refl), (λ a row m n. absurd (Memᴰ.not-nil m)), t)
turn_begins once key k st rows h e t =
    ((λ row m n. Memᴰ.not-nil (rw (e (eqb-true k label_section h)) at n)), t)
turn_begins free key k st rows h e t = tt

-- the three tests passed
passes : (form k : ℕ) (st : Sofar) (row : Row) → st.rows < (section_at k).most → in_range (length st.letters) st.scopes (shape_at form k).row row ≡ true
    → follows (section_at k).sequence (section_at k).key st.letters st.own row ≡ true → admission form k st row ≡ 0
unfolding admission unless
passes form k st row h r f = rw (lt-ltb st.rows (section_at k).most h, r, f)

-- what a section's rows bring to the letters and to the count
letters_same : (st : Sofar) (rows : List Row) → length (taken_all label_section st rows).letters ≡ length st.letters + length rows
unfolding taken_all taken joined
letters_same st [] = omega arith
letters_same st (row ∷ rows) =
    let e : length (taken_all label_section (taken label_section st row) rows).letters ≡ length (st.letters ++ (value row 0 ∷ [])) + length rows = letters_same (taken label_section st row) rows in
    omega (arith, length-append st.letters (value row 0 ∷ []))

letters_other : (k : ℕ) (st : Sofar) (rows : List Row) → eqb k label_section ≡ false → (taken_all k st rows).letters ≡ st.letters
unfolding taken_all taken joined
letters_other k st [] e = refl
letters_other k st (row ∷ rows) e = letters_other k (taken k st row) rows e ∙ rw e

scopes_one : (st : Sofar) (rows : List Row) → 1 ≤ length rows → length rows ≤ 1 → (taken_all count_section st rows).scopes ≡ value (get_or rows 0 blank) 0
unfolding taken_all taken counted
scopes_one st [] h l = absurd (omega arith)
scopes_one st (row ∷ []) h l = refl
scopes_one st (row ∷ next ∷ rows) h l = absurd (omega arith)

scopes_other : (k : ℕ) (st : Sofar) (rows : List Row) → eqb k count_section ≡ false → (taken_all k st rows).scopes ≡ st.scopes
unfolding taken_all taken counted
scopes_other k st [] e = refl
scopes_other k st (row ∷ rows) e = scopes_other k (taken k st row) rows e ∙ rw e

-- the lists of the rows of `left` sections from section k on
unfoldable pub list_of : ℕ → ℕ → (ℕ → List Row) → List (List Row)
list_of zero k rows = []
list_of (suc left) k rows = rows k ∷ list_of left (suc k) rows

module _ (form : ℕ) where
  range_now : (k labels scopes : ℕ) (st : Sofar) (row : Row) → k < 9 → Ready k labels scopes st → in_range labels scopes (shape_at form k).row row ≡ true
      → in_range (length st.letters) st.scopes (shape_at form k).row row ≡ true
  unfolding known_in_time
  range_now k labels scopes st row h r e =
      range_stays (ltb label_section k) (ltb count_section k) (length st.letters) labels st.scopes scopes
      (λ l. r.labelled (ltb-true label_section k l)) (λ l. r.counted (ltb-true count_section k l))
      (shape_at form k).row row (and_left _ _ (time form k h))
      ∙ e

  rows_admitted : (labels scopes k : ℕ) → k < 9 → (st : Sofar) (rows : List Row) → ((row : Row) → row ∈ rows → FormedRow labels scopes (shape_at form k).row row)
      → Ready k labels scopes st → Turn (section_at k).sequence (section_at k).key st rows → st.rows + length rows ≤ (section_at k).most → AdmittedRows form k st rows
  unfolding taken
  rows_admitted labels scopes k inside st [] g r t l = tt
  rows_admitted labels scopes k inside st (row ∷ rows) g r t l =
      let one = g row here in (
        passes form k st row (omega arith) (range_now k labels scopes st row inside r one.in_range) (turn_follows (section_at k).sequence (section_at k).key st row rows t),
        one.five,
        rows_admitted labels scopes k inside (taken k st row) rows (λ later m. g later (there m)) (ready_taken k labels scopes st row r)
            (turn_next (section_at k).sequence (section_at k).key k st row rows t) (omega arith),
        one.formed,
      )

module _ (form : ℕ) (rows : ℕ → List Row) (f : FormedRows form rows) where
  abbrev label_count : ℕ
  label_count = length (rows label_section)

  one_count : (1 ≤ length (rows count_section)) × (length (rows count_section) ≤ 1)
  unfolding section_at sections scope_count
  one_count = let s = f.sections count_section (omega arith) in (s.least, s.most)

  labelled_next : (k : ℕ) (st : Sofar) → Ready k label_count (scopes_in rows) st → (k ≡ label_section → st.letters ≡ [])
      → length (taken_all k (begun st) (rows k)).letters ≡ label_count
  unfolding begun
  labelled_next zero st r e = letters_same (begun st) (rows 0) ∙ rw (e refl) (omega arith)
  labelled_next (suc k) st r e = ap (λ (l : List ℕ). length l) (letters_other (suc k) (begun st) (rows (suc k)) (ne_eqb (suc k) label_section (λ z. omega arith))) ∙ r.labelled (omega arith)

  counted_next : (k : ℕ) (st : Sofar) → Ready k label_count (scopes_in rows) st → count_section < suc k
      → (taken_all k (begun st) (rows k)).scopes ≡ scopes_in rows
  unfolding begun scopes_in
  counted_next k st r l =
      ⊎_elim
      (λ e. rw (eqb-true k count_section e) (scopes_one (begun st) (rows count_section) one_count.0 one_count.1))
      (λ e. scopes_other k (begun st) (rows k) e ∙ r.counted (let d = eqb-false k count_section e in omega arith))
      (Two (eqb k count_section))

  sections_admitted : (left k : ℕ) (st : Sofar) → k + left ≡ 9 → Ready k label_count (scopes_in rows) st → (k ≡ label_section → st.letters ≡ [])
      → AdmittedSections form k st (list_of left k rows)
  unfolding list_of begun
  sections_admitted zero k st n r e = tt
  sections_admitted (suc left) k st n r e =
      let inside : k < 9 = omega arith in
      let s = f.sections k inside in
      let most = s.most in
      let first : Ready k label_count (scopes_in rows) (begun st) = record { labelled = r.labelled; counted = r.counted } in (
        rows_admitted form label_count (scopes_in rows) k inside (begun st) (rows k) s.each first
            (turn_begins (section_at k).sequence (section_at k).key k st (rows k) (own_sequence_lem k inside) e s.in_turn) (omega arith),
        s.least,
        sections_admitted left (suc k) (taken_all k (begun st) (rows k)) (omega arith)
            (record { labelled = λ l. labelled_next k st r e; counted = counted_next k st r }) (λ z. absurd (omega arith)),
      )

  pub all_admitted : AdmittedSections form 0 nothing (list_of 9 0 rows)
  unfolding nothing
  all_admitted = sections_admitted 9 0 nothing refl (record { labelled = λ l. absurd (omega arith); counted = λ l. absurd (omega arith) }) (λ e. refl)
