-- Steps of the code that writes a path row, over plain lists. Assumes nothing.
use mathlib.Core.Path.{◌≡◌, refl, sym, ap, ◌∙◌}
use mathlib.Core.Bool.{Bool, true, false, not, ◌&&◌}
use mathlib.Core.List.{List, [], ◌∷◌, ◌++◌, append_assoc, append-nil}
use Prim.Native.Nat.{ℕ, zero, suc, ◌+◌, ◌-◌, ◌≤◌, ◌<◌}
use native.Mathlib.Nat.{add-zero, sub-zero}
use native.Mathlib.Omega.{arith}
use borrow.Author.Tests.{lt-leb}
use lib.Dec.{leb}
use lib.ListN.{length, get_or, set, take, drop}
use lib.Seq.{get_or-drop, drop-drop}
use Rattle.std.proofs.lemmas.List.{take_more_set}
use Rattle.std.specs.Bool.{MatchBool}
use Rattle.std.specs.List.{AllWithin, HoldsAt}
use Rattle.text_field.specs.Bytes.{is_capital}
use Rattle.text_field.specs.Outcome.{refused, done, refuse_if}
use Rattle.path_row.specs.declared.form.Step.{Step}
use Rattle.path_row.specs.Form.{PathRow, most_scope, row_text, row_of, steps_made, row_made, are_steps, is_row, row_outcome, row_written}

module _ (ls ss : List ℕ) (count : ℕ) where
  -- the steps from step i on
  abbrev pub steps_from : ℕ → List Step
  steps_from i = steps_made (count - i) (drop i ls) (drop i ss)

  pub steps_first : steps_from 0 ≡ steps_made count ls ss
  steps_first = ap (λ (k : ℕ). steps_made k ls ss) (sub-zero count)

  pub steps_none : (i : ℕ) → count ≤ i → steps_from i ≡ []
  unfolding steps_made
  steps_none i h = let z : count - i ≡ 0 = omega arith in rw z

  pub steps_next : (i : ℕ) → i < count → steps_from i ≡ record { label = get_or ls i 0; scope = get_or ss i 0 } ∷ steps_from (i + 1)
  unfolding steps_made
  steps_next i h =
      let z : count - i ≡ suc (count - (i + 1)) = omega arith
      in rw (z, get_or-drop i ls 0 0, get_or-drop i ss 0 0, add-zero i, drop-drop 1 i ls, drop-drop 1 i ss)

pub made_length : (count : ℕ) (ls ss : List ℕ) → length (steps_made count ls ss) ≡ count
unfolding steps_made
made_length zero ls ss = refl
made_length (suc count) ls ss = ap suc (made_length count (drop 1 ls) (drop 1 ss))

-- Steps are made of letters and scopes: those made, and those from step i on, make the whole.
pub made_more : (ls ss : List ℕ) (count i : ℕ) (held whole : List Step) (x v : ℕ) → i < length held → i < count → x ≡ get_or ls i 0 → v ≡ get_or ss i 0
    → take i held ++ steps_from ls ss count i ≡ whole
    → take (i + 1) (set held i (record { label = x; scope = v })) ++ steps_from ls ss count (i + 1) ≡ whole
made_more ls ss count i held whole x v h k e f g =
    rw (take_more_set held i (record { label = x; scope = v }) h, append_assoc (take i held) (record { label = x; scope = v } ∷ []) (steps_from ls ss count (i + 1)))
    (ap (λ (z : List Step). take i held ++ z) (rw (e, f) (sym (steps_next ls ss count i k))) ∙ g)

pub made_all : (ls ss : List ℕ) (count : ℕ) (held whole : List Step) → take count held ++ steps_from ls ss count count ≡ whole → take count held ≡ whole
made_all ls ss count held whole g =
    sym (append-nil (take count held)) ∙ ap (λ (z : List Step). take count held ++ z) (sym (steps_none ls ss count count (omega arith))) ∙ g

-- can a step be written?
abbrev pub good : Step → Bool
good s = is_capital s.label && leb s.scope most_scope

both_first : (a b c : Bool) → (a && (b && c)) ≡ ((a && b) && c)
both_first true b c = refl
both_first false b c = refl

are_next : (s : Step) (ss : List Step) → are_steps (s ∷ ss) ≡ (good s && are_steps ss)
unfolding are_steps
are_next s ss = both_first (is_capital s.label) (leb s.scope most_scope) (are_steps ss)

-- steps can be written if each can
all_good : (ss : List Step) → ((k : ℕ) (d : Step) → k < length ss → good (get_or ss k d) ≡ true) → are_steps ss ≡ true
unfolding are_steps
all_good [] h = refl
all_good (s ∷ ss) h = are_next s ss ∙ rw (h 0 s (omega arith)) (all_good ss (λ k d l. h (suc k) d (omega arith)))

one_bad : (ss : List Step) (k : ℕ) (d : Step) → k < length ss → good (get_or ss k d) ≡ false → are_steps ss ≡ false
one_bad [] k d l h = absurd (omega arith)
one_bad (s ∷ ss) zero d l h = are_next s ss ∙ rw h
one_bad (s ∷ ss) (suc k) d l h = are_next s ss ∙ rw (one_bad ss k d (omega arith) h) (never (good s))
  where
    never : (b : Bool) → (b && false) ≡ false
    never true = refl
    never false = refl

pub are_all : (r : Bool) (ss : List Step) → MatchBool r (AllWithin (λ s. good s ≡ true) ss 0 (length ss)) ((k : ℕ) × (k < length ss) × HoldsAt (λ s. good s ≡ false) ss k) → r ≡ are_steps ss
are_all true ss h = sym (all_good ss (λ k d l. h k d (omega arith) l))
are_all false ss h = sym (one_bad ss h.0 (record { label = 0; scope = 0 }) h.1 (h.2 (record { label = 0; scope = 0 })))

-- do the parts make a row, test by test
module _ (mark start : ℕ) (ss : List Step) where
  pub row_tests : is_row (row_of mark start ss) ≡ (((leb mark 65535 && leb start 63) && leb (length ss) 63) && are_steps ss)
  unfolding is_row
  row_tests = both_first (leb mark 65535) (leb start 63) (leb (length ss) 63 && are_steps ss) ∙ both_first (leb mark 65535 && leb start 63) (leb (length ss) 63) (are_steps ss)

-- what is written of a row
module _ (r : PathRow) (t : Bool) (e : t ≡ is_row r) where
  pub written_none : t ≡ false → row_outcome r ≡ refused 8
  unfolding row_outcome refuse_if
  written_none f = rw (← e, f)

  pub written_all : t ≡ true → row_outcome r ≡ done (row_text r)
  unfolding row_outcome refuse_if
  written_all f = rw (← e, f)

-- a mark past its limit makes no row
pub mark_written : (mark start count : ℕ) (ls ss : List ℕ) → 65535 < mark → row_written mark start count ls ss ≡ refused 8
unfolding row_written row_made row_outcome refuse_if is_row
mark_written mark start count ls ss h = rw (lt-leb mark 65535 h)

-- nor does a start
pub start_written : (mark start count : ℕ) (ls ss : List ℕ) → 63 < start → row_written mark start count ls ss ≡ refused 8
unfolding row_written row_made row_outcome refuse_if is_row
start_written mark start count ls ss h = rw (lt-leb start 63 h) (no_row (leb mark 65535) (leb (length (steps_made count ls ss)) 63))
  where
    no_row : (a b : Bool) → refuse_if (not (a && (false && (b && are_steps (steps_made count ls ss))))) 8 (done (row_text (row_of mark start (steps_made count ls ss)))) ≡ refused 8
    no_row true b = refl
    no_row false b = refl

-- too many steps make no row
pub many_written : (mark start count : ℕ) (ls ss : List ℕ) → 63 < count → row_written mark start count ls ss ≡ refused 8
unfolding row_written row_made row_outcome refuse_if is_row
many_written mark start count ls ss h = rw (made_length count ls ss, lt-leb count 63 h) (no_row (leb mark 65535) (leb start 63))
  where
    no_row : (a b : Bool) → refuse_if (not (a && (b && (false && are_steps (steps_made count ls ss))))) 8 (done (row_text (row_of mark start (steps_made count ls ss)))) ≡ refused 8
    no_row true true = refl
    no_row true false = refl
    no_row false b = refl
