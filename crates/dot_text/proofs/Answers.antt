-- What the code's answers tell of the outcomes that they mean, and steps of outcomes one after the
-- other. Assumes nothing.
use Prim.Native.Nat.{ℕ}
use mathlib.Core.Path.{◌≡◌, sym, ap, ◌∙◌}
use mathlib.Core.List.{List}
use lib.ListN.{drop}
use Rattle.text_field.specs.Outcome.{Outcome, refused, done, and_then}
use Rattle.std.specs.declared.option.Option.{Option}
use Rattle.std.specs.declared.option.Option.TheVariants.{Some, None}
use Rattle.dot_text.specs.Grammar.{DrawnEdge}
use Rattle.dot_text.specs.Reading.{Taken, number_of}
use Rattle.dot_text.specs.Answers.{edge_of}

-- the first step is refused, and so is the whole; it is gone, and the second is the whole
pub then_none : {A B : Type 0} (n : ℕ) (o : Outcome A) (next : A → Outcome B) → o ≡ refused n → refused n ≡ and_then o next
unfolding and_then
then_none n o next e = rw e

pub then_some : {A B : Type 0} (a : A) (o : Outcome A) (next : A → Outcome B) → o ≡ done a → next a ≡ and_then o next
unfolding and_then
then_some a o next e = rw e

pub ruleset then_steps = (then_none, then_some)

module _ (s : List ℕ) where
  pub number_none : (r : Option (ℕ × ℕ)) (o : Outcome (Taken ℕ)) → number_of r s ≡ o → r ≡ None → o ≡ refused 18
  unfolding number_of
  number_none r o e h = sym e ∙ ap (λ (x : Option (ℕ × ℕ)). number_of x s) h

  pub number_some : (r : Option (ℕ × ℕ)) (o : Outcome (Taken ℕ)) → number_of r s ≡ o → (v p : ℕ) → r ≡ Some (v, p)
      → o ≡ done (record { value = v; rest = drop p s })
  unfolding number_of
  number_some r o e v p h = sym e ∙ ap (λ (x : Option (ℕ × ℕ)). number_of x s) h

  pub edge_none : (r : Option (ℕ × ℕ × ℕ × ℕ)) (o : Outcome (Taken DrawnEdge)) → edge_of r s ≡ o → r ≡ None → o ≡ refused 18
  unfolding edge_of
  edge_none r o e h = sym e ∙ ap (λ (x : Option (ℕ × ℕ × ℕ × ℕ)). edge_of x s) h

  pub edge_some : (r : Option (ℕ × ℕ × ℕ × ℕ)) (o : Outcome (Taken DrawnEdge)) → edge_of r s ≡ o → (from letter to p : ℕ) → r ≡ Some (from, letter, to, p)
      → o ≡ done (record { value = record { from = from; letter = letter; to = to }; rest = drop p s })
  unfolding edge_of
  edge_some r o e from letter to p h = sym e ∙ ap (λ (x : Option (ℕ × ℕ × ℕ × ℕ)). edge_of x s) h
