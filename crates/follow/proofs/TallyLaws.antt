-- Laws of the fold over rows, and what a tally says in the end. Assumes nothing.
use mathlib.Core.Path.{◌≡◌, refl, sym, ap, ◌∙◌}
use mathlib.Core.Bool.{Bool, true, false, not, false≢true}
use mathlib.Core.List.{List, [], ◌∷◌, ◌++◌, flat_map, append_assoc}
use Prim.Native.Nat.{ℕ, ◌+◌, ◌≤◌, ◌<◌}
use native.Mathlib.Omega.{arith}
use lib.ListN.{length, take, drop, length-append}
use Rattle.text_field.specs.Buffer.{Buf, puts}
use Rattle.text_field.proofs.BufferLaws.{puts_fits, puts_append}
use Rattle.follow.specs.declared.Bounds.{Bounds}
use Rattle.follow.specs.declared.Seen.{Seen}
use Rattle.follow.specs.declared.Seen.TheVariants.{None}
use Rattle.follow.specs.declared.Tally.{Tally}
use Rattle.follow.specs.Tally.{Taken, State, none, noted, fits, more, within, beyond, is_done, is_broken, take_row, take_rows}
use Rattle.follow.proofs.TakeLaws.{fits_true, fits_false, more_least, keep_yes, keep_length, puts_text, noted_all, several_stay, done_later, done_over, whole_several, take_done, take_within, by_limit, take_entries, take_seen, take_length, take_before, take_behind}

-- the rows' texts as one
unfoldable pub joined : List Taken → List ℕ
joined [] = []
joined (row ∷ rows) = row.text ++ joined rows

module _ (b : Bounds) where
  pub rows_append : (st : State) (xs ys : List Taken) → take_rows b st (xs ++ ys) ≡ take_rows b (take_rows b st xs) ys
  unfolding take_rows
  rows_append st [] ys = refl
  rows_append st (x ∷ xs) ys = rows_append (take_row b st x) xs ys

  pub rows_one : (st : State) (row : Taken) → take_row b st row ≡ take_rows b st (row ∷ [])
  unfolding take_rows
  rows_one st row = refl

  pub rows_none : (st : State) (rows : List Taken) → rows ≡ [] → st ≡ take_rows b st rows
  unfolding take_rows
  rows_none st rows e = rw e

  -- rows that were taken, by another name
  pub rows_as : (st c : State) (xs ys : List Taken) → c ≡ take_rows b st xs → ys ≡ xs → c ≡ take_rows b st ys
  rows_as st c xs ys e f = e ∙ ap (take_rows b st) (sym f)

  -- what is taken by one call and then by another
  pub rows_then : (st c d : State) (xs ys zs : List Taken) → c ≡ take_rows b st xs → d ≡ take_rows b c ys → zs ≡ xs ++ ys → d ≡ take_rows b st zs
  rows_then st c d xs ys zs e f g = f ∙ ap (λ (s : State). take_rows b s ys) e ∙ sym (rows_append st xs ys) ∙ ap (take_rows b st) (sym g)

  -- in a loop: the first part of zs is taken, and the rest of zs is left
  pub rows_step : (st c w : State) (xs ys zs : List Taken) → c ≡ take_rows b st xs → zs ≡ xs ++ ys → take_rows b st zs ≡ w → take_rows b c ys ≡ w
  rows_step st c w xs ys zs e f g = ap (λ (s : State). take_rows b s ys) e ∙ sym (rows_append st xs ys) ∙ ap (take_rows b st) (sym f) ∙ g

  -- when all is done, a walk may end
  pub rows_done : (out : List ℕ) (t : Tally) (rows : List Taken) → is_done b t ≡ true → ◌≡◌ {A = State} (take_rows b (out, t) rows) (out, t)
  unfolding take_rows
  rows_done out t [] e = refl
  rows_done out t (row ∷ rows) e = ap (λ (s : State). take_rows b s rows) (take_done b (out, t) row e) ∙ rows_done out t rows e

  -- what never changes: the memory's length, what lies before the first row, and what lies behind
  -- the bytes kept
  pub rows_length : (st : State) (rows : List Taken) → length (take_rows b st rows).0 ≡ length st.0
  unfolding take_rows
  rows_length st [] = refl
  rows_length st (row ∷ rows) = rows_length (take_row b st row) rows ∙ take_length b st row

  pub rows_before : (st : State) (rows : List Taken) (m : ℕ) → m ≤ st.1.bytes → take m (take_rows b st rows).0 ≡ take m st.0
  unfolding take_rows
  rows_before st [] m h = refl
  rows_before st (row ∷ rows) m h = let one = take_before b st row m h in rows_before (take_row b st row) rows m one.0 ∙ one.1

  pub rows_behind : (st : State) (rows : List Taken) → drop b.kept (take_rows b st rows).0 ≡ drop b.kept st.0
  unfolding take_rows
  rows_behind st [] = refl
  rows_behind st (row ∷ rows) = rows_behind (take_row b st row) rows ∙ take_behind b st row

  -- with a row there is an entry, where one at least is asked for
  module _ (some : 1 ≤ b.most) where
    one_stays : (st : State) (rows : List Taken) → 1 ≤ st.1.entries → 1 ≤ (take_rows b st rows).1.entries
    unfolding take_rows within beyond
    one_stays st [] h = h
    one_stays st (row ∷ rows) h =
        one_stays (take_row b st row) rows
        (by_limit b st row (λ s. 1 ≤ s.1.entries) (λ d. h) (λ e l. more_one st.1.entries) (more_one st.1.entries))
      where
        more_one : (e : ℕ) → 1 ≤ more b.most e
        more_one e = more_least b.most e some

    pub rows_some : (out : List ℕ) (row : Taken) (rows : List Taken) → 1 ≤ (take_rows b (out, none) (row ∷ rows)).1.entries
    unfolding take_rows
    rows_some out row rows =
        one_stays (take_row b (out, none) row) rows
        (rw (take_entries b (out, none) row (done_later b none refl)) (more_least b.most 0 some))

  rows_stay : (st : State) (rows : List Taken) → st.1.over ≡ true → (take_rows b st rows).1.over ≡ true
  unfolding take_rows beyond
  rows_stay st [] e = e
  rows_stay st (row ∷ rows) e =
      rows_stay (take_row b st row) rows
      (by_limit b st row (λ s. s.1.over ≡ true) (λ d. e) (λ f l. absurd (false≢true (sym f ∙ e))) refl)

  -- rows that pass the limit
  rows_past : (st : State) (rows : List Taken) → st.1.bytes ≤ b.limit → b.limit < st.1.bytes + length (joined rows) → (take_rows b st rows).1.over ≡ true
  unfolding take_rows joined within beyond
  rows_past st [] h g = absurd (omega arith)
  rows_past st (row ∷ rows) h g =
      let l : length (row.text ++ joined rows) ≡ length row.text + length (joined rows) = length-append row.text (joined rows) in
      by_limit b st row (λ s. (take_rows b s rows).1.over ≡ true)
      (λ d. rows_stay st rows (done_over b st.1 d)) (λ e f. rows_past (within b st row) rows f (omega arith))
      (rows_stay (beyond b st row) rows refl)

  -- rows within the limit
  rows_within : (st : State) (rows : List Taken) → st.1.over ≡ false → st.1.bytes + length (joined rows) ≤ b.limit
      → ((take_rows b st rows).1.bytes ≡ st.1.bytes + length (joined rows)) × ((take_rows b st rows).1.over ≡ false)
  unfolding take_rows joined within
  rows_within st [] e h = (omega arith, e)
  rows_within st (row ∷ rows) e h =
      let l : length (row.text ++ joined rows) ≡ length row.text + length (joined rows) = length-append row.text (joined rows) in
      let f : st.1.bytes + length row.text ≤ b.limit = omega arith in
      let more = rows_within (within b st row) rows refl (omega arith) in
      let one = take_within b st row e f in
      let sum : st.1.bytes + length row.text + length (joined rows) ≡ st.1.bytes + length (row.text ++ joined rows) = omega arith in
      (ap (λ (s : State). (take_rows b s rows).1.bytes) one ∙ more.0 ∙ sum, ap (λ (s : State). (take_rows b s rows).1.over) one ∙ more.1)

  -- over or not, by the length of all
  pub rows_over : (st : State) (rows : List Taken) → st.1.over ≡ false → st.1.bytes ≤ b.limit
      → (take_rows b st rows).1.over ≡ not (fits b.limit st.1.bytes (length (joined rows)))
  rows_over st rows e h = by (fits b.limit st.1.bytes (length (joined rows))) refl
    where
      by : (t : Bool) → fits b.limit st.1.bytes (length (joined rows)) ≡ t → (take_rows b st rows).1.over ≡ not (fits b.limit st.1.bytes (length (joined rows)))
      by true t = rw t (rows_within st rows e (fits_true b.limit st.1.bytes (length (joined rows)) t)).1
      by false t = rw t (rows_past st rows h (fits_false b.limit st.1.bytes (length (joined rows)) t))

  pub rows_bytes : (st : State) (rows : List Taken) → st.1.over ≡ false → st.1.bytes + length (joined rows) ≤ b.limit
      → (take_rows b st rows).1.bytes ≡ st.1.bytes + length (joined rows)
  rows_bytes st rows e h = (rows_within st rows e h).0

  -- rows that fit what is kept stand in the memory one after the other
  pub rows_text : (st : State) (rows : List Taken) → st.1.over ≡ false → st.1.bytes + length (joined rows) ≤ b.limit
      → st.1.bytes + length (joined rows) ≤ b.kept → st.1.bytes + length (joined rows) ≤ length st.0
      → (take_rows b st rows).0 ≡ (puts (st.0, st.1.bytes) (joined rows)).0
  unfolding take_rows joined within puts
  rows_text st [] e h k r = refl
  rows_text st (row ∷ rows) e h k r =
      let n : ℕ = st.1.bytes in
      let l : length (row.text ++ joined rows) ≡ length row.text + length (joined rows) = length-append row.text (joined rows) in
      let same : length (within b st row).0 ≡ length st.0 = keep_length b.kept st.0 n row.text in
      ap (λ (s : State). (take_rows b s rows).0) (take_within b st row e (omega arith))
      ∙ rows_text (within b st row) rows refl (omega arith) (omega arith) (omega arith)
      ∙ ap (λ (o : List ℕ). (puts (o, n + length row.text) (joined rows)).0) (keep_yes b.kept st.0 n row.text (omega arith) (omega arith))
      ∙ ap (λ (k : ℕ). (puts ((puts (st.0, n) row.text).0, k) (joined rows)).0) (sym (ap (λ (c : Buf). c.1) (puts_fits st.0 n row.text (omega arith))))
      ∙ sym (ap (λ (c : Buf). c.0) (puts_append (st.0, n) row.text (joined rows)))

  -- Unless the walk was broken off, the declarations are those of all rows: it was not done, or it
  -- had seen several already.
  pub rows_seen : (st : State) (rows : List Taken) → is_broken b (take_rows b st rows).1 ≡ false
      → (take_rows b st rows).1.seen ≡ noted_all st.1.seen rows
  unfolding take_rows noted_all
  rows_seen st [] e = refl
  rows_seen st (row ∷ rows) e = by (is_done b st.1) refl (rows_seen (take_row b st row) rows e)
    where
      by : (d : Bool) → is_done b st.1 ≡ d
          → (take_rows b (take_row b st row) rows).1.seen ≡ noted_all (take_row b st row).1.seen rows
          → (take_rows b (take_row b st row) rows).1.seen ≡ noted_all (noted st.1.seen row.at row.mark) rows
      by false d rest = rest ∙ ap (λ (s : Seen). noted_all s rows) (take_seen b st row d)
      by true d rest =
          let same : take_rows b (take_row b st row) rows ≡ st = rows_done st.0 st.1 (row ∷ rows) d in
          let all = whole_several b st.1 (rw same at e) d in
          ap (λ (s : State). s.1.seen) same ∙ all ∙ sym (rw all (several_stay (row ∷ rows)))

-- What a tally says in the end, from the empty one: of rows, lent memory, and the state after the
-- last row.
pub record Tallied (b : Bounds) (out : List ℕ) (rows : List Taken) (st : State) : Type 0 where
  pub seen : is_broken b st.1 ≡ false → st.1.seen ≡ noted_all None rows
  pub over : st.1.over ≡ not (fits b.limit 0 (length (joined rows)))
  pub bytes : length (joined rows) ≤ b.limit → st.1.bytes ≡ length (joined rows)
  pub text : length (joined rows) ≤ b.limit → length (joined rows) ≤ b.kept → length (joined rows) ≤ length out
      → st.0 ≡ joined rows ++ drop (length (joined rows)) out
  pub same : length st.0 ≡ length out
  pub behind : drop b.kept st.0 ≡ drop b.kept out

pub tallied : (b : Bounds) (out : List ℕ) (rows : List Taken) → Tallied b out rows (take_rows b (out, none) rows)
tallied b out rows =
    let z : 0 + length (joined rows) ≡ length (joined rows) = omega arith in
    record {
      seen = rows_seen b (out, none) rows;
      over = rows_over b (out, none) rows refl (omega arith);
      bytes = λ h. rows_bytes b (out, none) rows refl (omega arith) ∙ z;
      text = λ h k r.
          rows_text b (out, none) rows refl (omega arith) (omega arith) (omega arith)
          ∙ puts_text out 0 (joined rows) (omega arith)
          ∙ ap (λ (m : ℕ). joined rows ++ drop m out) z;
      same = rows_length b (out, none) rows;
      behind = rows_behind b (out, none) rows;
    }

-- one text out of parts, and out of the parts of parts
pub joined_append : (xs ys : List Taken) → joined (xs ++ ys) ≡ joined xs ++ joined ys
unfolding joined
joined_append [] ys = refl
joined_append (x ∷ xs) ys = ap (λ (z : List ℕ). x.text ++ z) (joined_append xs ys) ∙ sym (append_assoc x.text (joined xs) (joined ys))

pub joined_flat : {A : Type 0} (f : A → List Taken) (xs : List A) → joined (flat_map f xs) ≡ flat_map (λ x. joined (f x)) xs
unfolding joined flat_map
joined_flat f [] = refl
joined_flat f (x ∷ xs) = joined_append (f x) (flat_map f xs) ∙ ap (λ (z : List ℕ). joined (f x) ++ z) (joined_flat f xs)
