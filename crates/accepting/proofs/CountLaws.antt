-- How many entries a walk counts, and the word under `found`. Assumes nothing.
use Prim.Native.Nat.{ℕ, ◌+◌, ◌≤◌, ◌<◌}
use mathlib.Core.Path.{◌≡◌, refl, sym, ap, ◌∙◌}
use mathlib.Core.Bool.{Bool, true, false, not}
use mathlib.Core.Logic.{⊎_elim}
use mathlib.Core.List.{List, [], ◌∷◌, ◌++◌}
use native.Mathlib.Omega.{arith}
use lib.Dec.{leb}
use lib.ListN.{length, length-append, length-map}
use borrow.Author.Tests.{leb-true, leb-false}
use borrow.Author.Tests as tests
use Rattle.scope_graph.specs.Graph.{Query}
use Rattle.scope_graph.specs.Rows.{language}
use Rattle.scope_graph.specs.Computed.{Found, found_none, found_one, found_several, entries}
use Rattle.scope_graph.proofs.Lists.{Two}
use Rattle.text_field.proofs.ByteLaws.{clash}
use Rattle.graph_rows.specs.Decode.{rules_of, graph_of}
use Rattle.follow.specs.declared.Bounds.{Bounds}
use Rattle.follow.specs.Tally as tally
use Rattle.follow.specs.Tally.{Taken, State, fits, more, within, take_row, take_rows}
use Rattle.follow.proofs.TakeLaws.{fits_true, fits_false, more_on, more_off, take_within}
use Rattle.follow.proofs.TallyLaws.{joined, tallied}
use Rattle.resolution.specs.Summary.{same_found}
use Rattle.resolution.specs.Listing.{found_for, entries_text}
use Rattle.resolution.specs.Asked.{entries_taken}
use Rattle.resolution.proofs.Answers.{texts_joined}
use Rattle.accepting.specs.Steps.{CountTold}
use Rattle.resolution.specs.Asked.{found_meaning}
use denote.Enum.Bare.{sameb}
use Rattle.resolution.specs.contracts.text.Found.{the_type}
use Rattle.resolution.specs.declared.text.Found as code
use Rattle.resolution.specs.declared.text.Found.TheVariants.{None, One, Several}

-- as code compares two words
pub found_eq : (a b : code.Found) → sameb the_type a b ≡ same_found (found_meaning a) (found_meaning b)
unfolding found_meaning same_found
found_eq None None = refl
found_eq None One = refl
found_eq None Several = refl
found_eq One None = refl
found_eq One One = refl
found_eq One Several = refl
found_eq Several None = refl
found_eq Several One = refl
found_eq Several Several = refl

-- the word
pub found_same : (a b : Found) → same_found a b ≡ true → a ≡ b
unfolding same_found
found_same found_none found_none e = refl
found_same found_none found_one e = absurd (let z : ◌≡◌ {A = ℕ} 0 1 = cc in omega arith)
found_same found_none found_several e = absurd (let z : ◌≡◌ {A = ℕ} 0 1 = cc in omega arith)
found_same found_one found_none e = absurd (let z : ◌≡◌ {A = ℕ} 0 1 = cc in omega arith)
found_same found_one found_one e = refl
found_same found_one found_several e = absurd (let z : ◌≡◌ {A = ℕ} 0 1 = cc in omega arith)
found_same found_several found_none e = absurd (let z : ◌≡◌ {A = ℕ} 0 1 = cc in omega arith)
found_same found_several found_one e = absurd (let z : ◌≡◌ {A = ℕ} 0 1 = cc in omega arith)
found_same found_several found_several e = refl

pub found_self : (a b : Found) → a ≡ b → same_found a b ≡ true
unfolding same_found
found_self a b e = rw e (by b)
  where
    by : (f : Found) → same_found f f ≡ true
    by found_none = refl
    by found_one = refl
    by found_several = refl

-- rows within the limit are counted, up to the most that are asked for
module _ (b : Bounds) where
  counted : (st : State) (rows : List Taken) → st.1.over ≡ false → st.1.bytes + length (joined rows) ≤ b.limit
      → st.1.entries + length rows ≤ b.most → (take_rows b st rows).1.entries ≡ st.1.entries + length rows
  unfolding take_rows joined within
  counted st [] e h m = omega arith
  counted st (row ∷ rows) e h m =
      let l : length (row.text ++ joined rows) ≡ length row.text + length (joined rows) = length-append row.text (joined rows) in
      let one = take_within b st row e (omega arith) in
      let on = more_on b.most st.1.entries (omega arith) in
      let rest = counted (within b st row) rows refl (omega arith) (omega arith) in
      ap (λ (s : State). (take_rows b s rows).1.entries) one ∙ rest ∙ (omega arith)

  full : (st : State) (rows : List Taken) → st.1.over ≡ false → st.1.bytes + length (joined rows) ≤ b.limit
      → st.1.entries ≤ b.most → b.most ≤ st.1.entries + length rows → (take_rows b st rows).1.entries ≡ b.most
  unfolding take_rows joined within
  full st [] e h m n = omega arith
  full st (row ∷ rows) e h m n =
      let l : length (row.text ++ joined rows) ≡ length row.text + length (joined rows) = length-append row.text (joined rows) in
      let one = take_within b st row e (omega arith) in
      ap (λ (s : State). (take_rows b s rows).1.entries) one ∙ by (leb b.most st.1.entries) refl (full (within b st row) rows refl (omega arith))
    where
      by : (t : Bool) → leb b.most st.1.entries ≡ t
          → ((within b st row).1.entries ≤ b.most → b.most ≤ (within b st row).1.entries + length rows → (take_rows b (within b st row) rows).1.entries ≡ b.most)
          → (take_rows b (within b st row) rows).1.entries ≡ b.most
      by true t so =
          let k = leb-true b.most st.1.entries t in
          let off = more_off b.most st.1.entries k in
          so (omega arith) (omega arith)
      by false t so =
          let k = leb-false b.most st.1.entries t in
          let on = more_on b.most st.1.entries k in
          so (omega arith) (omega arith)

-- the walk over a query's entries, with one more asked for than were delivered
module _ (cells : List ℕ) (q : Query (language (rules_of cells))) (f : Found) (count bytes : ℕ) where
  abbrev E : ℕ
  E = length (entries (language (rules_of cells)) (graph_of cells) q)

  abbrev rows : List Taken
  rows = entries_taken cells q

  taken_length : length rows ≡ E
  unfolding entries_taken
  taken_length = length-map (entries (language (rules_of cells)) (graph_of cells) q) _

  module _ (b : Bounds) (limit : b.limit ≡ bytes) (most : b.most ≡ count + 1) (out : List ℕ) (t : State) (taken : t ≡ take_rows b (out, tally.none) rows) where
    over_is : t.1.over ≡ not (fits b.limit 0 (length (joined rows)))
    over_is = ap (λ (s : State). s.1.over) taken ∙ (tallied b out rows).over

    joined_length : length (joined rows) ≡ length (entries_text cells q)
    joined_length = ap length (texts_joined cells q)

    pub over_told : t.1.over ≡ true → CountTold cells q f count bytes false
    over_told e = record {
      yes = λ z. absurd (clash {b = false} z refl);
      no = λ _ _ _.
          let g : b.limit < 0 + length (joined rows) = fits_false b.limit 0 (length (joined rows)) (tests.not-true (fits b.limit 0 (length (joined rows))) (sym over_is ∙ e)) in
          let j = joined_length in
          omega arith;
    }

    module _ (still : t.1.over ≡ false) where
      room : length (joined rows) ≤ b.limit
      room =
          let g : 0 + length (joined rows) ≤ b.limit = fits_true b.limit 0 (length (joined rows)) (tests.not-false (fits b.limit 0 (length (joined rows))) (sym over_is ∙ still)) in
          omega arith

      -- as many as were delivered are counted exactly if there are as many
      forth : count ≡ E → t.1.entries ≡ count
      forth e =
          let n = taken_length in
          let r = room in
          let k : (take_rows b (out, tally.none) rows).1.entries ≡ 0 + length rows = counted b (out, tally.none) rows refl (omega arith) (omega arith) in
          ap (λ (s : State). s.1.entries) taken ∙ k ∙ (omega arith)

      back : t.1.entries ≡ count → count ≡ E
      back e =
          ⊎_elim
          (λ (h : leb (length rows) b.most ≡ true).
          let m = leb-true (length rows) b.most h in
          let n = taken_length in
          let r = room in
          let k : (take_rows b (out, tally.none) rows).1.entries ≡ 0 + length rows = counted b (out, tally.none) rows refl (omega arith) (omega arith) in
          let a : t.1.entries ≡ (take_rows b (out, tally.none) rows).1.entries = ap (λ (s : State). s.1.entries) taken in
          omega arith)
          (λ (h : leb (length rows) b.most ≡ false).
          let m = leb-false (length rows) b.most h in
          let r = room in
          let k : (take_rows b (out, tally.none) rows).1.entries ≡ b.most = full b (out, tally.none) rows refl (omega arith) (omega arith) (omega arith) in
          let a : t.1.entries ≡ (take_rows b (out, tally.none) rows).1.entries = ap (λ (s : State). s.1.entries) taken in
          absurd (omega arith))
          (Two (leb (length rows) b.most))

      pub other_told : (t.1.entries ≡ count → ⊥) → CountTold cells q f count bytes false
      other_told n = record { yes = λ z. absurd (clash {b = false} z refl); no = λ _ e _. absurd (n (forth e)) }

      pub count_told : t.1.entries ≡ count → (g : Found) → g ≡ found_for cells q → (r : Bool) → r ≡ same_found g f → CountTold cells q f count bytes r
      count_told e g is r same = record {
        yes = λ z. (back e, sym is ∙ found_same g f (sym same ∙ z));
        no = λ z _ k. absurd (clash (same ∙ found_self g f (is ∙ k)) z);
      }
