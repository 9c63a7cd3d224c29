-- What admitted rows are: few enough, in range, ascending. One proof over the section.
-- Assumes nothing.
use Prim.Native.Nat.{ℕ, suc, ◌+◌, ◌≤◌, ◌<◌}
use mathlib.Core.Path.{◌≡◌, refl, sym, ap, ◌∙◌}
use mathlib.Core.Bool.{Bool, true, false}
use mathlib.Core.Logic.{◌⊎◌, inl, inr, ⊎_elim}
use mathlib.Core.List.Memᴰ
use mathlib.Core.List.{List, [], ◌∷◌, map}
use native.Mathlib.Omega.{arith}
use lib.Dec.{eqb}
use lib.ListN.{length, length-append}
use borrow.Author.Tests.{ltb-true, leb-true, eqb-true, lt-ltb, le-leb, eq-eqb}
use Rattle.scope_graph.specs.Language.{◌∈◌}
use Rattle.scope_graph.specs.Path.{Distinct}
use Rattle.scope_graph.specs.Listing.{Pairwise}
use Rattle.scope_graph.proofs.Lists.{Two, and_left, and_right, and_both, or_left, or_right, true_false, not_is, not_true}
use Rattle.graph_rows.specs.Format.{Content, state, scope, mark, count, letter, label, end, name, kind, plain, turn, Item, byte, field, every_item, Sequence, ascending, apart, once, free, labels, scope_count, sections, section_at, shape_at, label_section, count_section}
use Rattle.graph_rows.specs.Admission.{Row, value, Sofar, joined, counted, taken, content_in_range, item_in_range, in_range, listed, ascends, follows, unless, admission}
use Rattle.graph_rows.specs.Values.{formed}
use Rattle.graph_rows.proofs.KeyLaws.{KeyBefore, LastBefore, last_before, last_then}
use Rattle.graph_rows.proofs.DecodeWay.{taken_all, AdmittedRows}

-- the three tests of an admitted row
unless_zero : (t : Bool) (n o : ℕ) → unless t (suc n) o ≡ 0 → (t ≡ true) × (o ≡ 0)
unfolding unless
unless_zero true n o e = (refl, e)
unless_zero false n o e = absurd (let z : ◌≡◌ {A = ℕ} (suc n) 0 = e in omega arith)

pub record Passed (form k : ℕ) (st : Sofar) (row : Row) : Type 0 where
  pub room : st.rows < (section_at k).most
  pub in_range : in_range (length st.letters) st.scopes (shape_at form k).row row ≡ true
  pub follow : follows (section_at k).sequence (section_at k).key st.letters st.own row ≡ true

pub passed : (form k : ℕ) (st : Sofar) (row : Row) → admission form k st row ≡ 0 → Passed form k st row
unfolding admission
passed form k st row e =
    let a = unless_zero _ 4 _ e in
    let b = unless_zero _ 2 _ a.1 in
    let c = unless_zero _ 3 _ b.1 in
    record { room = ltb-true _ _ a.0; in_range = b.0; follow = c.0 }

-- each admitted row has its five values, with a text
pub rows_stand : (form k : ℕ) (st : Sofar) (rows : List Row) → AdmittedRows form k st rows → (row : Row) → row ∈ rows
    → (length row ≡ 5) × (formed (shape_at form k).row row ≡ true)
rows_stand form k st [] h row m = absurd (Memᴰ.not-nil m)
rows_stand form k st (first ∷ rows) h row m =
    ⊎_elim (λ e. rw e (h.1, h.3)) (λ n. rows_stand form k (taken k st first) rows h.2 row n) (Memᴰ.cases_cons m)

-- a section's limit
pub rows_limit : (form k : ℕ) (st : Sofar) (rows : List Row) → AdmittedRows form k st rows → st.rows ≤ (section_at k).most → st.rows + length rows ≤ (section_at k).most
unfolding taken
rows_limit form k st [] h l = omega arith
rows_limit form k st (row ∷ rows) h l =
    let p = passed form k st row h.0 in
    let r = p.room in
    let n : st.rows + 1 + length rows ≤ (section_at k).most = rows_limit form k (taken k st row) rows h.2 (omega arith) in
    omega arith

-- What is in range stays so when labels or scopes are added.
module _ (a b c d : ℕ) (labels : a ≤ b) (scopes : c ≤ d) where
  content_grows : (k : Content) (v : ℕ) → content_in_range a c k v ≡ true → content_in_range b d k v ≡ true
  unfolding content_in_range
  content_grows state v h = h
  content_grows scope v h = lt-ltb v d (let l = ltb-true v c h in omega arith)
  content_grows mark v h = h
  content_grows count v h = h
  content_grows letter v h = h
  content_grows label v h = lt-ltb v b (let l = ltb-true v a h in omega arith)
  content_grows end v h = le-leb v b (let l = leb-true v a h in omega arith)
  content_grows name v h = h
  content_grows kind v h = h
  content_grows plain v h = h
  content_grows turn v h = h

  item_grows : (row : Row) (i : Item) → item_in_range a c row i ≡ true → item_in_range b d row i ≡ true
  unfolding item_in_range
  item_grows row (byte x) h = h
  item_grows row (field k p) h = content_grows k (value row p) h

  pub range_grows : (items : List Item) (row : Row) → in_range a c items row ≡ true → in_range b d items row ≡ true
  unfolding in_range every_item
  range_grows [] row h = h
  range_grows (i ∷ items) row h =
      and_both _ _ (item_grows row i (and_left _ _ h)) (range_grows items row (and_right (item_in_range a c row i) _ h))

-- one item of a row in range
pub item_in : (f : Item → Bool) (items : List Item) (i : Item) → i ∈ items → every_item f items ≡ true → f i ≡ true
unfolding every_item
item_in f [] i m h = absurd (Memᴰ.not-nil m)
item_in f (x ∷ items) i m h =
    ⊎_elim (λ e. ap f e ∙ and_left _ _ h) (λ k. item_in f items i k (and_right (f x) _ h)) (Memᴰ.cases_cons m)

-- Labels and scopes are only added: the count of scopes has one row, so it is not yet read, or no
-- other row of it is admitted.
abbrev pub Fresh : ℕ → Sofar → Type 0
Fresh k st = (st.scopes ≡ 0) ⊎ ((count_section < k) ⊎ ((k ≡ count_section) × (1 ≤ st.rows)))

pub record Grows (st f : Sofar) : Type 0 where
  pub labels : length st.letters ≤ length f.letters
  pub scopes : st.scopes ≤ f.scopes

pub grows_then : (a b c : Sofar) → Grows a b → Grows b c → Grows a c
grows_then a b c h k =
    let l = h.labels in let m = k.labels in let s = h.scopes in let t = k.scopes in
    record { labels = omega arith; scopes = omega arith }

-- a row brings a letter or none
joined_grows : (b : Bool) (xs : List ℕ) (x : ℕ) → length xs ≤ length (joined b xs x)
unfolding joined
joined_grows true xs x = let e = length-append xs (x ∷ []) in omega arith
joined_grows false xs x = omega arith

-- the count's section has one row; in any other the count stays
count_most : (k : ℕ) → k ≡ count_section → (section_at k).most ≡ 1
unfolding section_at sections scope_count
count_most k e = rw e

count_first : (form k : ℕ) (st : Sofar) (row : Row) → Passed form k st row → Fresh k st → k ≡ count_section → st.scopes ≡ 0
count_first form k st row p (inl z) e = z
count_first form k st row p (inr (inl l)) e = absurd (omega arith)
count_first form k st row p (inr (inr m)) e = let r = p.room in let o = m.1 in absurd (omega (arith, count_most k e))

scopes_other : (k : ℕ) (st : Sofar) (row : Row) → eqb k count_section ≡ false → (taken k st row).scopes ≡ st.scopes
unfolding taken counted
scopes_other k st row e = rw e

fresh_row : (k : ℕ) (st : Sofar) (row : Row) → (taken k st row).scopes ≡ st.scopes → Fresh k st → Fresh k (taken k st row)
unfolding taken
fresh_row k st row e (inl z) = inl (e ∙ z)
fresh_row k st row e (inr (inl l)) = inr (inl l)
fresh_row k st row e (inr (inr m)) = inr (inr (m.0, omega arith))

row_grows : (form k : ℕ) (st : Sofar) (row : Row) → Passed form k st row → Fresh k st → Grows st (taken k st row) × Fresh k (taken k st row)
unfolding taken
row_grows form k st row p f =
    ⊎_elim
    (λ e.
    let z = count_first form k st row p f (eqb-true k count_section e) in
    (record { labels = joined_grows _ _ _; scopes = omega arith }, inr (inr (eqb-true k count_section e, omega arith))))
    (λ e.
    let s = scopes_other k st row e in
    (record { labels = joined_grows _ _ _; scopes = omega arith }, fresh_row k st row s f))
    (Two (eqb k count_section))

pub rows_grow : (form k : ℕ) (st : Sofar) (rows : List Row) → AdmittedRows form k st rows → Fresh k st → Grows st (taken_all k st rows) × Fresh k (taken_all k st rows)
unfolding taken_all
rows_grow form k st [] h f = (record { labels = omega arith; scopes = omega arith }, f)
rows_grow form k st (row ∷ rows) h f =
    let a = row_grows form k st row (passed form k st row h.0) f in
    let b = rows_grow form k (taken k st row) rows h.2 a.1 in
    (grows_then st (taken k st row) (taken_all k (taken k st row) rows) a.0 b.0, b.1)

-- so each row is in range by the labels and the scopes of any later moment
pub rows_in_range : (form k : ℕ) (st f : Sofar) (rows : List Row) → AdmittedRows form k st rows → Fresh k st → Grows (taken_all k st rows) f
    → (row : Row) → row ∈ rows → in_range (length f.letters) f.scopes (shape_at form k).row row ≡ true
unfolding taken_all
rows_in_range form k st f [] h r g row m = absurd (Memᴰ.not-nil m)
rows_in_range form k st f (first ∷ rows) h r g row m =
    let p = passed form k st first h.0 in
    let a = row_grows form k st first p r in
    ⊎_elim
    (λ e.
    let all = grows_then st (taken_all k st (first ∷ rows)) f (rows_grow form k st (first ∷ rows) h r).0 g in
    rw e (range_grows _ _ _ _ all.labels all.scopes (shape_at form k).row first p.in_range))
    (λ n. rows_in_range form k (taken k st first) f rows h.2 a.1 g row n)
    (Memᴰ.cases_cons m)

-- The sections whose rows ascend.
abbrev pub Ascends : Sequence → Type 0
Ascends ascending = Unit {0}
Ascends apart = Unit {0}
Ascends once = ⊥
Ascends free = ⊥

follow_ascends : (q : Sequence) (key letters : List ℕ) (own : List Row) (row : Row) → Ascends q → follows q key letters own row ≡ true
    → ascends key own row ≡ true
unfolding follows
follow_ascends ascending key letters own row a h = h
follow_ascends apart key letters own row a h = and_left _ _ h
follow_ascends once key letters own row a h = absurd a
follow_ascends free key letters own row a h = absurd a

pub row_after : (form k : ℕ) (st : Sofar) (row : Row) → Ascends (section_at k).sequence → Passed form k st row → LastBefore (section_at k).key st.own row
row_after form k st row a p =
    last_before (section_at k).key st.own row (follow_ascends (section_at k).sequence (section_at k).key st.letters st.own row a p.follow)

-- rows of such a section ascend, each before all that come later
rows_after : (form k : ℕ) (st : Sofar) (rows : List Row) → Ascends (section_at k).sequence → AdmittedRows form k st rows
    → ((row : Row) → row ∈ rows → LastBefore (section_at k).key st.own row) × Pairwise (KeyBefore (section_at k).key) rows
unfolding taken
rows_after form k st [] a h = ((λ row m. absurd (Memᴰ.not-nil m)), tt)
rows_after form k st (row ∷ rows) a h =
    let p = row_after form k st row a (passed form k st row h.0) in
    let r = rows_after form k (taken k st row) rows a h.2 in
    ((λ later m. ⊎_elim (λ q. rw q p) (λ q. last_then (section_at k).key st.own row later p (r.0 later q)) (Memᴰ.cases_cons m)), r)

pub rows_ascend : (form k : ℕ) (st : Sofar) (rows : List Row) → Ascends (section_at k).sequence → AdmittedRows form k st rows
    → Pairwise (KeyBefore (section_at k).key) rows
rows_ascend form k st rows a h = (rows_after form k st rows a h).1

-- a label's letter is none of the letters before it, so each stands once
not_listed : (x : ℕ) (ys : List ℕ) → listed x ys ≡ false → ¬ (x ∈ ys)
unfolding listed
not_listed x [] h m = Memᴰ.not-nil m
not_listed x (y ∷ ys) h m =
    ⊎_elim (λ e. true_false (or_left (eqb y x) _ (eq-eqb y x (sym e))) h)
    (λ n. not_listed x ys (not_true (listed x ys) (λ t. true_false (or_right (eqb y x) (listed x ys) t) h)) n)
    (Memᴰ.cases_cons m)

pub rows_once : (form : ℕ) (st : Sofar) (rows : List Row) → AdmittedRows form label_section st rows
    → ((x : ℕ) → x ∈ map (λ (row : Row). value row 0) rows → ¬ (x ∈ st.letters)) × Distinct (map (λ (row : Row). value row 0) rows)
unfolding taken joined follows section_at sections labels
rows_once form st [] h = ((λ x m. absurd (Memᴰ.not-nil m)), tt)
rows_once form st (row ∷ rows) h =
    let new = not_listed (value row 0) st.letters (not_is _ (passed form label_section st row h.0).follow) in
    let r = rows_once form (taken label_section st row) rows h.2 in (
      (λ x m. ⊎_elim (λ e n. new (Memᴰ.cast (sym e) n)) (λ k n. r.0 x k (Memᴰ.append_left (value row 0 ∷ []) n)) (Memᴰ.cases_cons m)),
      ((λ m. r.0 (value row 0) m (Memᴰ.append_right st.letters (Memᴰ.head refl))), r.1),
    )
