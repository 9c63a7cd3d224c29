-- A test refuses by no 0: 0 says that nothing was refused. Assumes nothing.
use Prim.Native.Nat.{ℕ, zero, suc}
use mathlib.Core.Path.{◌≡◌, refl}
use mathlib.Core.Bool.{Bool, true, false}
use mathlib.Core.List.{List, []}
use native.Mathlib.Omega.{arith}
use lib.ListN.{drop}
use Rattle.text_field.specs.Outcome.{Outcome, refused, done, and_then, refuse_if}
use Rattle.graph_rows.specs.Format.{section_at}
use Rattle.graph_rows.specs.Way.{Way, Stage, if_admitted, after_row, one_row, through_rows, after_names, enough, through_section, through_sections, ordered, at_start, whole}
use Rattle.graph_rows.specs.Tested.{test_row, test_names, testing, form_in, tested, refusal_in}
use Rattle.graph_rows.proofs.WayLaws.{rows_on, rows_off}

-- not refused by 0
abbrev pub Proper : {A : Type 0} → Outcome A → Type 0
Proper (refused zero) = ⊥
Proper (refused (suc n)) = Unit {0}
Proper (done a) = Unit {0}

-- so a number 0 says that it was done
pub not_refused : {A : Type 0} (o : Outcome A) → Proper o → refusal_in o ≡ 0 → (a : A) × (o ≡ done a)
unfolding refusal_in
not_refused (refused zero) p e = absurd p
not_refused (refused (suc n)) p e = absurd (omega arith)
not_refused (done a) p e = (a, refl)

proper_then : {A B : Type 0} (o : Outcome A) (next : A → Outcome B) → Proper o → ((a : A) → Proper (next a)) → Proper (and_then o next)
unfolding and_then
proper_then (refused zero) next p q = p
proper_then (refused (suc n)) next p q = p
proper_then (done a) next p q = q a

proper_if : {A : Type 0} (t : Bool) (n : ℕ) (o : Outcome A) → Proper o → Proper (refuse_if t (suc n) o)
unfolding refuse_if
proper_if true n o p = tt
proper_if false n o p = p

proper_admitted : (n : ℕ) (g : Stage) → Proper (if_admitted n (done g))
unfolding if_admitted
proper_admitted zero g = tt
proper_admitted (suc n) g = tt

-- a way whose own tests refuse by no 0
module _ (w : Way) (rows : (k : ℕ) (letters s : List ℕ) → Proper (w.row k letters s)) (names : (k : ℕ) (s : List ℕ) → Proper (w.names k s)) where
  row_proper : (k : ℕ) (g : Stage) → Proper (one_row w k g)
  unfolding one_row
  row_proper k g = proper_then _ _ (rows k g.sofar.letters g.rest) (λ p. proper_admitted _ (after_row k g p))

  rows_proper : (turns k : ℕ) (g : Stage) → Proper (through_rows w turns k g)
  unfolding through_rows
  rows_proper zero k g = tt
  rows_proper (suc turns) k g = by (w.more k g.rest) refl (proper_then (one_row w k g) (through_rows w turns k) (row_proper k g) (rows_proper turns k))
    where
      by : (t : Bool) → w.more k g.rest ≡ t → Proper (and_then (one_row w k g) (through_rows w turns k)) → Proper (through_rows w (suc turns) k g)
      by true e p = rw (rows_on w turns k g e) p
      by false e p = rw (rows_off w turns k g e) tt

  section_proper : (k : ℕ) (g : Stage) → Proper (through_section w k g)
  unfolding through_section enough
  section_proper k g =
      proper_then _ _ (names k g.rest)
      (λ p. proper_then _ _ (rows_proper (suc (section_at k).most) k (after_names g p)) (λ h. proper_if _ 1 (done h) tt))

  sections_proper : (left k : ℕ) (g : Stage) → Proper (through_sections w left k g)
  unfolding through_sections
  sections_proper zero k g = proper_if _ 1 (done g) tt
  sections_proper (suc left) k g = proper_then _ _ (section_proper k g) (sections_proper left (suc k))

  whole_proper : (made rest : List ℕ) → Proper (whole w made rest)
  unfolding whole ordered
  whole_proper made rest = proper_then _ _ (sections_proper 9 0 (at_start made rest)) (λ g. proper_if _ 5 (done g) tt)

row_tested : (form k : ℕ) (letters s : List ℕ) → Proper (test_row form k letters s)
unfolding test_row
row_tested form k letters s = proper_if _ 1 _ (proper_if _ 1 _ tt)

pub row_proper_tested : (form k : ℕ) (g : Stage) → Proper (one_row (testing form) k g)
unfolding testing test_names
row_proper_tested form k g = row_proper (testing form) (row_tested form) (λ k s. tt) k g

pub tested_proper : (cells : List ℕ) → Proper (tested cells)
unfolding tested testing test_names
tested_proper cells = proper_if _ 1 _ (whole_proper (testing (form_in cells)) (row_tested (form_in cells)) (λ k s. tt) [] (drop 1 cells))
