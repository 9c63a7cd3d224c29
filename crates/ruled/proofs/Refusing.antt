-- Which refusals a file with the rules of an expression meets. Assumes nothing.
use Prim.Native.Nat.{ℕ, ◌<◌}
use mathlib.Core.Path.{◌≡◌, refl, sym, ap, ◌∙◌}
use mathlib.Core.Logic.{◌⊎◌, inl, inr, ⊎_elim, ◌↔◌}
use mathlib.Core.List.{List}
use native.Mathlib.Omega.{arith}
use lib.ListN.{length}
use Rattle.std.specs.declared.result.Result.{Result}
use Rattle.std.specs.declared.result.Result.TheVariants.{Ok, Err}
use Rattle.text_field.specs.Refusal.{number_of}
use Rattle.text_field.specs.declared.refusal.Refusal.{Refusal}
use Rattle.text_field.specs.declared.refusal.Refusal.TheVariants.{NoExpression, TooManyStates}
use Rattle.text_field.specs.Outcome.{Outcome, refused, done, and_then}
use Rattle.text_field.specs.Answer.{answer, answer_of}
use Rattle.text_field.proofs.OutcomeLaws.{not_done}
use Rattle.text_field.proofs.AnswerLaws.{answer_refused}
use Rattle.graph_rows.specs.Format.{text_bytes}
use Rattle.graph_file.specs.File.{read_cells, write_text, WasRead}
use Rattle.graph_rows.specs.Decode.{letters_of}
use Rattle.graph_file.proofs.Promises.{formed_written, nothing_but_nine}
use Rattle.path_rules.specs.Expression.{Expr, In}
use Rattle.path_rules.specs.Grammar.{Expression}
use Rattle.path_rules.specs.Promises.{AtLeast, RowPromises}
use Rattle.path_rules.specs.Rules.{rules_of}
use Rattle.path_rules.specs.declared.Rules.{Rules}
use Rattle.path_rules.proofs.Promises.{promises, faults}
use Rattle.ruled.specs.Ruled.{ruled_cells, ruled_text, text_by, ruled_of}
use Rattle.ruled.specs.Promises.{IsExpression, Refusals}
use Rattle.ruled.proofs.LetterLaws.{letters_most}
use Rattle.ruled.proofs.RowsFormed.{table_is_formed}

number : {A : Type 0} (m n : ℕ) → ◌≡◌ {A = Outcome A} (refused m) (refused n) → m ≡ n
number m n e = cc

module _ (expression text cells : List ℕ) (read : read_cells text ≡ done cells) where
  abbrev was : WasRead cells
  was = (text, read)

  abbrev made : Result Rules Refusal
  made = rules_of (letters_of cells) expression

  of_read : ruled_of expression text ≡ ruled_text made cells
  unfolding ruled_of text_by and_then
  of_read = rw read

  pub of_refused : (f : Refusal) → made ≡ Err f → ruled_of expression text ≡ refused (number_of f)
  unfolding ruled_text answer_of and_then
  of_refused f h = of_read ∙ rw h

  pub of_done : (r : Rules) → made ≡ Ok r → ruled_of expression text ≡ write_text (ruled_cells r cells)
  unfolding ruled_text answer_of and_then
  of_done r h = of_read ∙ rw h

  -- written if nothing refuses the expression
  never : (n : ℕ) (r : Rules) → made ≡ Ok r → ruled_of expression text ≡ refused n → ⊥
  never n r h e = let w = formed_written (ruled_cells r cells) (table_is_formed cells was r) in not_done n w.0 (sym e ∙ of_done r h ∙ w.1)

  -- the expression is refused by 12 or 13, or by nothing
  three : (made ≡ Err NoExpression) ⊎ ((made ≡ Err TooManyStates) ⊎ ((r : Rules) × (made ≡ Ok r)))
  three = by made refl
    where
      by : (m : Result Rules Refusal) → made ≡ m → (made ≡ Err NoExpression) ⊎ ((made ≡ Err TooManyStates) ⊎ ((r : Rules) × (made ≡ Ok r)))
      by (Ok r) e = inr (inr (r, e))
      by (Err f) e =
          ⊎_elim (λ (h : f ≡ NoExpression). inl (e ∙ ap (λ (g : Refusal). Err g) h)) (λ (h : f ≡ TooManyStates). inr (inl (e ∙ ap (λ (g : Refusal). Err g) h)))
          (faults (letters_of cells) expression f e)

  by_twelve : made ≡ Err NoExpression → ruled_of expression text ≡ refused 12
  unfolding number_of
  by_twelve h = of_refused NoExpression h

  by_thirteen : made ≡ Err TooManyStates → ruled_of expression text ≡ refused 13
  unfolding number_of
  by_thirteen h = of_refused TooManyStates h

  told_twelve : ruled_of expression text ≡ refused 12 → made ≡ Err NoExpression
  told_twelve e =
      ⊎_elim (λ h. h)
      (λ o. ⊎_elim (λ h. absurd (let z = number {A = List ℕ} 13 12 (sym (by_thirteen h) ∙ e) in omega arith)) (λ x. absurd (never 12 x.0 x.1 e)) o) three

  told_thirteen : ruled_of expression text ≡ refused 13 → made ≡ Err TooManyStates
  told_thirteen e =
      ⊎_elim (λ h. absurd (let z = number {A = List ℕ} 12 13 (sym (by_twelve h) ∙ e) in omega arith))
      (λ o. ⊎_elim (λ h. h) (λ x. absurd (never 13 x.0 x.1 e)) o) three

  is_twelve : (ruled_of expression text ≡ refused 12) ↔ (¬ IsExpression cells expression)
  is_twelve = (
    (λ e x. (promises.taken (letters_of cells) expression).1 x (told_twelve e)),
    (λ none.
        ⊎_elim by_twelve
        (λ o.
        absurd (none ((promises.taken (letters_of cells) expression).0 (λ h.
        ⊎_elim (λ k. apart (sym h ∙ k)) (λ x. err_ok NoExpression x.0 (sym h ∙ x.1)) o))))
        three),
  )
    where
      apart : ◌≡◌ {A = Result Rules Refusal} (Err NoExpression) (Err TooManyStates) → ⊥
      apart e = cc

      err_ok : (f : Refusal) (r : Rules) → ◌≡◌ {A = Result Rules Refusal} (Err f) (Ok r) → ⊥
      err_ok f r e = cc

  rows : (e : Expr) → Expression (letters_of cells) e expression → RowPromises (letters_of cells) expression e
  rows e x = promises.rows (letters_of cells) expression e (letters_most cells was) x

  is_thirteen : (e : Expr) → Expression (letters_of cells) e expression → (ruled_of expression text ≡ refused 13) ↔ AtLeast (length (letters_of cells)) (In e) 17
  is_thirteen e x = ((λ o. (rows e x).too_many.0 (told_thirteen o)), (λ m. by_thirteen ((rows e x).too_many.1 m)))

  by_number : (m room n : ℕ) → ruled_of expression text ≡ refused m → answer (ruled_of expression text) room ≡ refused n → n ≡ m
  by_number m room n h e = number {A = ℕ} n m (sym e ∙ sym (answer_refused (ruled_of expression text) m room h))

  no_others : (room n : ℕ) → answer (ruled_of expression text) room ≡ refused n → (n ≡ 12) ⊎ ((n ≡ 13) ⊎ ((n ≡ 9) × (room < text_bytes)))
  no_others room n e =
      ⊎_elim (λ h. inl (by_number 12 room n (by_twelve h) e))
      (λ o.
      ⊎_elim (λ h. inr (inl (by_number 13 room n (by_thirteen h) e)))
      (λ x.
      inr (inr (nothing_but_nine (ruled_cells x.0 cells) (table_is_formed cells was x.0) room n (ap (λ (y : Outcome (List ℕ)). answer y room) (sym (of_done x.0 x.1)) ∙ e))))
      o)
      three

refused_reading : (expression text : List ℕ) (n : ℕ) → read_cells text ≡ refused n → ruled_of expression text ≡ refused n
unfolding ruled_of and_then
refused_reading expression text n e = rw e

pub refusals : Refusals
refusals = record {
  reading = refused_reading;
  twelve = is_twelve;
  thirteen = λ expression text cells e read x. is_thirteen expression text cells read e x;
  others = no_others;
}
