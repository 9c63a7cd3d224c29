-- The word under `found`. Assumes nothing.
use Prim.Native.Nat.{ℕ}
use Rattle.std.specs.declared.option.Option.{Option as Maybe}
use Rattle.std.specs.declared.option.Option.TheVariants.{Some, None as Nothing}
use Rattle.std.specs.Option.{MatchOption}
use Rattle.resolution.specs.declared.text.Found as code
use Rattle.told.specs.Steps.{word_meaning}
use mathlib.Core.Path.{◌≡◌, refl, ap, ◌∙◌}
use mathlib.Core.List.{List}
use Rattle.scope_graph.specs.Computed.{Found}
use Rattle.text_field.specs.Outcome.{Outcome, refused, done, and_then}
use Rattle.follow.specs.Text.{found_text}
use Rattle.told.specs.Apart.{Read, after, or_else, word_here}

-- the first of two readings
module _ {A : Type 0} (o p : Outcome A) where
  pub else_later : (n : ℕ) → o ≡ refused n → (x : Outcome A) → x ≡ p → x ≡ or_else o p
  unfolding or_else
  else_later n e x f = rw e f

  pub else_first : (a : A) → o ≡ done a → done a ≡ or_else o p
  unfolding or_else
  else_first a e = rw e

pub else_assoc : {A : Type 0} (o p q : Outcome A) → or_else (or_else o p) q ≡ or_else o (or_else p q)
unfolding or_else
else_assoc (refused n) p q = refl
else_assoc (done a) p q = refl

-- as code takes the first that is there
pub else_meant : {F : Type 0} (s : List ℕ) (o p : Read Found) (r q : Maybe (code.Found × ℕ)) → word_meaning s r ≡ o → (F → word_meaning s q ≡ p)
    → MatchOption r F (λ x. q ≡ Some x) → word_meaning s q ≡ or_else o p
unfolding word_meaning or_else
else_meant s o p Nothing q e f m = f m ∙ rw (← e)
else_meant s o p (Some x) q e f m = ap (word_meaning s) m ∙ rw (← e)

module _ (f : Found) (t : List ℕ) where
  pub word_none : after (found_text f) t ≡ refused 10 → word_here f t ≡ refused 10
  unfolding word_here and_then
  word_none e = rw e

  pub word_some : (rest : List ℕ) → after (found_text f) t ≡ done rest → word_here f t ≡ done (f, rest)
  unfolding word_here and_then
  word_some rest e = rw e
