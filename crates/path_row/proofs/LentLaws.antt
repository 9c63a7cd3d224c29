-- What the lent step tables hold, record by record and as a whole. Assumes nothing.
use mathlib.Core.Path.{◌≡◌, refl, sym, ap, ◌∙◌}
use mathlib.Core.List.{List, ◌++◌}
use Prim.Native.Nat.{ℕ, zero, suc, ◌≤◌}
use native.Mathlib.Omega.{arith}
use lib.ListN.{length, get_or, set, take, drop}
use lib.Seq.{drop-cons, set_at, take-suc, take_all, append_snoc, length-take-le}
use Rattle.text_field.specs.Outcome.{Outcome, refused, done}
use Rattle.path_row.specs.declared.form.Step.{Step}
use Rattle.path_row.specs.declared.taken.Steps.{Steps}
use Rattle.path_row.specs.Form.{PathRow, row_here, no_step, steps_taken, steps_at_hand}
use Rattle.path_row.specs.Lent.{row_steps, overlaid, steps_left, steps_lent}
use Rattle.path_row.proofs.TakenLaws.{taken_length, at_hand_few, at_hand_first}

-- the first n records are the first n of the steps, as `fill` puts them one by one
abbrev pub filled : List Step → ℕ → List Step → List Step
filled steps zero lent = lent
filled steps (suc n) lent = set (filled steps n lent) n (get_or steps n no_step)

filled_part : (ss lent : List Step) (n : ℕ) → n ≤ length ss → n ≤ length lent → filled ss n lent ≡ take n ss ++ drop n lent
filled_part ss lent zero h g = refl
filled_part ss lent (suc k) h g =
    ap (λ (l : List Step). set l k (get_or ss k no_step)) (filled_part ss lent k (omega arith) (omega arith) ∙ ap (λ (l : List Step). take k ss ++ l) (drop-cons lent k no_step (omega arith)))
    ∙ set_at (take k ss) (get_or lent k no_step) (drop (suc k) lent) (get_or ss k no_step) k (length-take-le k ss (omega arith))
    ∙ sym (append_snoc (take k ss) (get_or ss k no_step) (drop (suc k) lent))
    ∙ ap (λ (l : List Step). l ++ drop (suc k) lent) (sym (take-suc ss k no_step (omega arith)))

-- with the last of them the table is the one that is due
pub filled_all : (ss lent : List Step) (n : ℕ) → length ss ≡ n → n ≤ length lent → filled ss n lent ≡ overlaid ss lent
unfolding overlaid
filled_all ss lent n e h = filled_part ss lent n (omega (arith, e)) h ∙ rw (← e) (ap (λ (l : List Step). l ++ drop (length ss) lent) (take_all (length ss) ss (omega arith)))

-- the steps at hand are put first, all at once
pub filled_first : (t : Steps) (lent : List Step) → t.count ≤ length lent → steps_at_hand t ++ drop (length (steps_at_hand t)) lent ≡ filled (steps_taken t) (length (steps_at_hand t)) lent
filled_first t lent h =
    let few = at_hand_few t in
    sym
    (filled_part (steps_taken t) lent (length (steps_at_hand t)) (omega (arith, taken_length t)) (omega arith)
    ∙ ap (λ (l : List Step). l ++ drop (length (steps_at_hand t)) lent) (at_hand_first t))

-- the steps that a call hands out leave the table as it should be
pub left_lent : {A : Type 0} (o : Outcome A) (row : List ℕ) (lent : List Step) → overlaid (steps_lent o row) lent ≡ steps_left o row lent
unfolding steps_lent steps_left overlaid
left_lent (refused n) row lent = refl
left_lent (done c) row lent = refl

-- of a row that was read they are all that its text shows
pub lent_all : {A : Type 0} (c : A) (row : List ℕ) (p : PathRow) → row_here row ≡ done p → steps_lent (done c) row ≡ p.steps
unfolding steps_lent row_steps
lent_all c row p e = rw e
