-- Classes of rows: rows with the same bytes are of one class, and the counts tell it. Assumes
-- nothing.
use Prim.Native.Nat.{ℕ, zero, suc, ◌+◌, ◌-◌, ◌*◌, ◌%◌, ◌≤◌, ◌<◌}
use mathlib.Core.Path.{◌≡◌, refl, sym, ap, ◌∙◌, subst}
use mathlib.Core.Bool.{Bool, true, false}
use mathlib.Core.Logic.{⊎_elim}
use mathlib.Core.List.Memᴰ
use mathlib.Core.List.{List, [], ◌∷◌}
use native.Mathlib.Omega.{arith}
use lib.Dec.{eqb}
use lib.ListN.{length, get_or, set, take, drop, length-set}
use lib.Seq.{get_or-set_same, get_or-set_other}
use borrow.Author.Tests.{eq-eqb, ne_eqb, eqb-true, eqb-false}
use Rattle.scope_graph.specs.Language.{◌∈◌}
use Rattle.scope_graph.proofs.Lists.{any_of_elim}
use Rattle.text_field.proofs.ByteLaws.{get_d_any}
use Rattle.text_field.proofs.Steps.{drop_next, drop_end}
use Rattle.path_row.specs.Form.{PathRow, row_text}
use Rattle.told.specs.Apart.{rows_in}
use Rattle.told.specs.Steps.{RowStands}
use Rattle.accepting.specs.Tests.{same_bytes, is_among}
use Rattle.accepting.specs.Steps.{text_among}
use Rattle.accepting.specs.Classes.{class_from, class_of, raised, class_counts, Tells}
use Rattle.accepting.proofs.RowTests.{rows_on}
use Rattle.accepting.proofs.RepeatLaws.{same_is, text_is}

-- a loop over the bytes of a row
module _ (s : List ℕ) (class i : ℕ) where
  pub class_end : length s ≤ i → class ≡ class_from class (drop i s)
  unfolding class_from
  class_end h = rw (drop_end s i h)

  pub class_next : i < length s → class_from ((class * 31 + get_or s i 0) % 65536) (drop (i + 1) s) ≡ class_from class (drop i s)
  unfolding class_from
  class_next h = sym (ap (class_from class) (drop_next s i h))

pub class_first : (s : List ℕ) → class_from 0 s ≡ class_of s
unfolding class_of
class_first s = refl

class_below : (class : ℕ) (s : List ℕ) → class < 65536 → class_from class s < 65536
unfolding class_from
class_below class [] h = h
class_below class (x ∷ s) h = class_below ((class * 31 + x) % 65536) s (omega arith)

below : (s : List ℕ) → class_of s < 65536
unfolding class_of
below s = class_below 0 s (omega arith)

-- one row more
pub raised_none : (n : ℕ) → n ≡ 0 → 1 ≡ raised n
unfolding raised
raised_none n e = rw (eq-eqb n 0 e, raised)

pub raised_some : (n : ℕ) → (n ≡ 0 → ⊥) → 2 ≡ raised n
unfolding raised
raised_some n e = rw (ne_eqb n 0 e, raised)

raised_least : (n : ℕ) → 1 ≤ raised n
raised_least n = to (eqb n 0) refl
  where
    to : (t : Bool) → eqb n 0 ≡ t → 1 ≤ raised n
    to true e = let k = raised_none n (eqb-true n 0 e) in omega arith
    to false e = let k = raised_some n (eqb-false n 0 e) in omega arith

raised_on : (n m : ℕ) → m ≤ n → m ≤ 2 → m ≤ raised n
raised_on n m h l = to (eqb n 0) refl
  where
    to : (t : Bool) → eqb n 0 ≡ t → m ≤ raised n
    to true e = let z = eqb-true n 0 e in omega arith
    to false e = let k = raised_some n (eqb-false n 0 e) in omega arith

-- the counts with one row more
abbrev with : List ℕ → PathRow → List ℕ
with counts r = set counts (class_of (row_text r)) (raised (get_or counts (class_of (row_text r)) 0))

module _ (counts : List ℕ) (size : length counts ≡ 65536) (r : PathRow) where
  inside : class_of (row_text r) < length counts
  inside = let b = below (row_text r) in omega arith

  with_size : length (with counts r) ≡ 65536
  with_size = simp length-set size

  -- its own class
  with_own : get_or (with counts r) (class_of (row_text r)) 0 ≡ raised (get_or counts (class_of (row_text r)) 0)
  with_own = get_or-set_same counts (class_of (row_text r)) (raised (get_or counts (class_of (row_text r)) 0)) 0 inside

  -- no count falls, up to two
  with_on : (k m : ℕ) → m ≤ get_or counts k 0 → m ≤ 2 → m ≤ get_or (with counts r) k 0
  with_on k m h l = to (eqb (class_of (row_text r)) k) refl
    where
      to : (t : Bool) → eqb (class_of (row_text r)) k ≡ t → m ≤ get_or (with counts r) k 0
      to true e =
          let z : class_of (row_text r) ≡ k = eqb-true (class_of (row_text r)) k e in
          subst (λ (j : ℕ). m ≤ get_or (with counts r) j 0) z
          (let w = with_own in
          let v : m ≤ get_or counts (class_of (row_text r)) 0 = subst (λ (j : ℕ). m ≤ get_or counts j 0) (sym z) h in
          let u = raised_on (get_or counts (class_of (row_text r)) 0) m v l in
          omega arith)
      to false e =
          let w : get_or (with counts r) k 0 ≡ get_or counts k 0 = get_or-set_other counts (class_of (row_text r)) k (raised (get_or counts (class_of (row_text r)) 0)) 0 (λ z. eqb-false (class_of (row_text r)) k e (sym z)) in
          omega arith

counts_on : (rows : List PathRow) (counts : List ℕ) → length counts ≡ 65536 → (k m : ℕ) → m ≤ get_or counts k 0 → m ≤ 2 → m ≤ get_or (class_counts counts rows) k 0
unfolding class_counts
counts_on [] counts size k m h l = h
counts_on (r ∷ rows) counts size k m h l = counts_on rows (with counts r) (with_size counts size r) k m (with_on counts size r k m h l) l

-- a class with a row before has two once another of it comes
counts_two : (rows : List PathRow) (counts : List ℕ) → length counts ≡ 65536 → (k : ℕ) → 1 ≤ get_or counts k 0 → (p : PathRow) → p ∈ rows → class_of (row_text p) ≡ k
    → 2 ≤ get_or (class_counts counts rows) k 0
unfolding class_counts
counts_two [] counts size k h p m e = absurd (Memᴰ.not-nil m)
counts_two (r ∷ rows) counts size k h p m e =
    ⊎_elim
    (λ z.
    let c : class_of (row_text r) ≡ k = ap (λ (x : PathRow). class_of (row_text x)) (sym z) ∙ e in
    let o : 1 ≤ get_or counts (class_of (row_text r)) 0 = subst (λ (j : ℕ). 1 ≤ get_or counts j 0) (sym c) h in
    let n : (get_or counts (class_of (row_text r)) 0 ≡ 0 → ⊥) = (λ y. omega arith) in
    let w = raised_some (get_or counts (class_of (row_text r)) 0) n in
    let v = with_own counts size r in
    let two : 2 ≤ get_or (with counts r) (class_of (row_text r)) 0 = omega arith in
    counts_on rows (with counts r) (with_size counts size r) k 2 (subst (λ (j : ℕ). 2 ≤ get_or (with counts r) j 0) c two) (omega arith))
    (λ n. counts_two rows (with counts r) (with_size counts size r) k (with_on counts size r k 1 h (omega arith)) p n e)
    (Memᴰ.cases_cons m)

pub counts_size : (rows : List PathRow) (counts : List ℕ) → length counts ≡ 65536 → length (class_counts counts rows) ≡ 65536
unfolding class_counts
counts_size [] counts size = size
counts_size (r ∷ rows) counts size = counts_size rows (with counts r) (with_size counts size r)

-- so the counts of all rows tell them
pub counts_tell : (rows : List PathRow) (counts : List ℕ) → length counts ≡ 65536 → Tells (class_counts counts rows) rows
unfolding class_counts is_among
counts_tell [] counts size = tt
counts_tell (r ∷ rows) counts size = (
  λ t.
      let m = any_of_elim (λ (p : PathRow). same_bytes (row_text r) (row_text p)) rows t in
      let same : class_of (row_text m.0) ≡ class_of (row_text r) = ap class_of (sym (same_is (row_text r) (row_text m.0) m.2)) in
      let o : 1 ≤ get_or (with counts r) (class_of (row_text r)) 0 = (let w = with_own counts size r in let v = raised_least (get_or counts (class_of (row_text r)) 0) in omega arith) in
      let two = counts_two rows (with counts r) (with_size counts size r) (class_of (row_text r)) o m.0 m.1 same in
      let s = counts_size rows (with counts r) (with_size counts size r) in
      let b = below (row_text r) in
      let d = get_d_any (class_counts (with counts r) rows) (class_of (row_text r)) 2 0 (omega arith) in
      omega arith,
  counts_tell rows (with counts r) (with_size counts size r),
)

-- counts that say nothing tell them too
few_two : (k : ℕ) → 2 ≤ get_or (2 ∷ []) k 2
few_two zero = omega arith
few_two (suc k) = omega arith

pub few_tell : (rows : List PathRow) → Tells (2 ∷ []) rows
few_tell [] = tt
few_tell (r ∷ rows) = (λ t. few_two (class_of (row_text r)), few_tell rows)

-- the row at a place
module _ (s : List ℕ) (at end next : ℕ) (w : RowStands s at end next) where
  abbrev row : List ℕ
  row = take (end - at) (drop at s)

  -- counted
  pub counts_next : (counts : List ℕ) (class n : ℕ) → class ≡ class_of row → n ≡ raised (get_or counts class 0)
      → class_counts (set counts class n) (rows_in (drop next s)).0 ≡ class_counts counts (rows_in (drop at s)).0
  unfolding class_counts
  counts_next counts class n e f =
      let c : class ≡ class_of (row_text w.row) = e ∙ ap class_of (text_is s at end next w) in
      ap (λ (m : ℕ). class_counts (set counts class m) (rows_in (drop next s)).0) f
      ∙ ap (λ (k : ℕ). class_counts (set counts k (raised (get_or counts k 0))) (rows_in (drop next s)).0) c
      ∙ sym (ap (class_counts counts) (rows_on s at end next w))

  -- told
  module _ (counts : List ℕ) (tells : Tells counts (rows_in (drop at s)).0) where
    here : Tells counts (w.row ∷ (rows_in (drop next s)).0)
    here = subst (Tells counts) (rows_on s at end next w) tells

    pub tells_row : text_among row (rows_in (drop next s)).0 ≡ true → 2 ≤ get_or counts (class_of row) 2
    unfolding text_among is_among
    tells_row e =
        let t : row ≡ row_text w.row = text_is s at end next w in
        subst (λ (l : List ℕ). 2 ≤ get_or counts (class_of l) 2) (sym t) (here.0 (ap (λ (l : List ℕ). text_among l (rows_in (drop next s)).0) (sym t) ∙ e))

    pub tells_rest : Tells counts (rows_in (drop next s)).0
    tells_rest = here.1

pub counts_end : (s : List ℕ) (at : ℕ) (counts : List ℕ) → (rows_in (drop at s)).0 ≡ [] → counts ≡ class_counts counts (rows_in (drop at s)).0
unfolding class_counts
counts_end s at counts e = sym (ap (class_counts counts) e)

-- a row that is alone in its class is not repeated
pub alone : (b : Bool) (row : List ℕ) (counts : List ℕ) (n class : ℕ) → class ≡ class_of row → n ≡ get_or counts class 2 → n < 2 → (b ≡ true → 2 ≤ get_or counts (class_of row) 2) → false ≡ b
alone false row counts n class e f h k = refl
alone true row counts n class e f h k =
    let two = k refl in
    let g : n ≡ get_or counts (class_of row) 2 = f ∙ ap (λ (j : ℕ). get_or counts j 2) e in
    absurd (omega arith)
