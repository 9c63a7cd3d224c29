-- What is told of the file or of the list alone is told as of any output. Assumes nothing.
use Prim.Native.Nat.{ℕ}
use mathlib.Core.Path.{◌≡◌, refl, sym, ap, ◌∙◌}
use mathlib.Core.Bool.{Bool, true, false, ◌||◌}
use lib.Dec.{ltb}
use lib.ListN.{length}
use Rattle.text_field.specs.Outcome.{Outcome, refused, done, and_then, refuse_if}
use Rattle.std.specs.declared.result.Result.{Result}
use Rattle.std.specs.declared.result.Result.TheVariants.{Ok, Err}
use Rattle.std.specs.Result.{MatchResult, IsOkAnd}
use Rattle.text_field.specs.declared.refusal.Refusal.{Refusal}
use Rattle.text_field.specs.Refusal.{number_of}
use Rattle.text_field.specs.Answer.{answer, answer_of}
use Rattle.renumbering.specs.Renumbering.{Renumbering, Sizes, room_for, sizes_of, numbered_of, file_of, list_of}
use Rattle.renumbering.specs.Alone.{file_size, list_size, told_by, sizes_by}

-- one of the two sizes, as `map` takes it
pub one_alone : {E : Type 0} (number : E → ℕ) (size : ℕ × ℕ → ℕ) (sizes : Result (ℕ × ℕ) E) (one : Result ℕ E) (P : ℕ × ℕ → ℕ → Type 0)
    → ((s : ℕ × ℕ) (n : ℕ) → P s n → n ≡ size s) → MatchResult sizes (λ s. IsOkAnd one (P s)) (λ r. one ≡ Err r)
    → told_by number one ≡ and_then (sizes_by number sizes) (λ s. done (size (s.file, s.list)))
unfolding told_by sizes_by and_then
one_alone number size (Ok (file, list)) (Ok n) P is told = ap (λ (k : ℕ). done k) (is (file, list) n told)
one_alone number size (Ok (file, list)) (Err r) P is told = absurd told
one_alone number size (Err r) one P is told = ap (told_by number) told

-- by a refusal's own number a result says what it says to a host
pub told_refusal : {A : Type 0} (one : Result A Refusal) → told_by number_of one ≡ answer_of one
unfolding told_by answer_of
told_refusal (Ok a) = refl
told_refusal (Err r) = refl

pub sizes_refusal : (sizes : Result (ℕ × ℕ) Refusal) → sizes_by number_of sizes ≡ numbered_of sizes
unfolding sizes_by numbered_of
sizes_refusal (Ok (file, list)) = refl
sizes_refusal (Err r) = refl

-- so what is told of one size alone is told of it as of any output
pub size_answered : (size : Outcome Sizes → Outcome ℕ) (sizes : Result (ℕ × ℕ) Refusal) (one : Result ℕ Refusal)
    → ((number : Refusal → ℕ) → told_by number one ≡ size (sizes_by number sizes)) → answer_of one ≡ size (numbered_of sizes)
size_answered size sizes one told = sym (told_refusal one) ∙ told number_of ∙ ap size (sizes_refusal sizes)

-- the room of both is looked at first, so that the file fits its own
pub file_answered : (o : Outcome Renumbering) (out lines : ℕ) → file_size (sizes_of (room_for out lines o)) ≡ answer (file_of (room_for out lines o)) out
unfolding file_size sizes_of file_of room_for and_then refuse_if answer
file_answered (refused n) out lines = refl
file_answered (done r) out lines = by (ltb out (length r.file)) refl (ltb lines (length r.list))
  where
    by : (a : Bool) → ltb out (length r.file) ≡ a → (b : Bool)
        → file_size (sizes_of (refuse_if (a || b) 9 (done r))) ≡ answer (file_of (refuse_if (a || b) 9 (done r))) out
    by true e b = refl
    by false e true = refl
    by false e false = rw (e, answer)

-- and so does the list
pub list_answered : (o : Outcome Renumbering) (out lines : ℕ) → list_size (sizes_of (room_for out lines o)) ≡ answer (list_of (room_for out lines o)) lines
unfolding list_size sizes_of list_of room_for and_then refuse_if answer
list_answered (refused n) out lines = refl
list_answered (done r) out lines = by (ltb out (length r.file)) (ltb lines (length r.list)) refl
  where
    by : (a b : Bool) → ltb lines (length r.list) ≡ b
        → list_size (sizes_of (refuse_if (a || b) 9 (done r))) ≡ answer (list_of (refuse_if (a || b) 9 (done r))) lines
    by true b e = refl
    by false true e = refl
    by false false e = rw (e, answer)
