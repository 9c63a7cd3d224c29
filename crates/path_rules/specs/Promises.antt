-- What is proved of the rows that an expression becomes (02, K6): each field is a statement, and
-- proofs/Promises.antt has the value. Assumes nothing: these are statements.
use Rattle.std.specs.Prelude.{ℕ, ◌*◌, ◌≤◌, ◌≡◌, Bool, ◌↔◌, List, length, take}
use Rattle.std.proofs.Math.Option.{Option}
use Rattle.std.specs.declared.result.Result.TheVariants.{Ok, Err}
use Rattle.text_field.specs.declared.refusal.Refusal.TheVariants.{NoExpression, TooManyStates}
use Rattle.path_rules.specs.Expression.{Expr, In}
use Rattle.path_rules.specs.Grammar.{Expression}
use Rattle.path_rules.specs.Table.{Decides, Met}
use Rattle.path_rules.specs.Rules.{rules_of, next_in, accepts_in}
use Rattle.path_rules.specs.declared.Rules.{Rules}

-- every table that decides the language, on words over n labels, has at least m states
abbrev pub AtLeast : ℕ → (List ℕ → Type 0) → ℕ → Type 0
AtLeast n P m = (k : ℕ) (next : ℕ → ℕ → Option ℕ) (accepts : ℕ → Bool) → Decides n P k next accepts → m ≤ k

-- Of a text that is an expression, over labels of which there are at most eight. Cells of states
-- that are not below `states` mean nothing here; whoever makes rows of the table leaves them out.
pub record RowPromises (labels text : List ℕ) (e : Expr) : Type 0 where
  -- 13 exactly if every table of the language needs more than 16 states; else nothing refuses
  pub too_many : (rules_of labels text ≡ Err TooManyStates) ↔ AtLeast (length labels) (In e) 17
  pub refused : ¬ (rules_of labels text ≡ Err TooManyStates) → (r : Rules) × (rules_of labels text ≡ Ok r)
  -- Of all words over eight label numbers the table accepts those of the language and no other, so
  -- none by a number that has no label; no table that is right of the words over the labels has
  -- fewer states, and there are at most 16.
  pub decides : (r : Rules) → rules_of labels text ≡ Ok r → Decides 8 (In e) r.states (next_in r) (accepts_in r)
  pub fewest : (r : Rules) → rules_of labels text ≡ Ok r → AtLeast (length labels) (In e) r.states
  pub few : (r : Rules) → rules_of labels text ≡ Ok r → r.states ≤ 16
  -- a breadth-first walk by label number meets the states in the sequence of their numbers, 0 first
  pub numbered : (r : Rules) → rules_of labels text ≡ Ok r → Met (take (r.states * 8) r.next) r.states

pub record Promises : Type 0 where
  -- 12 refuses exactly what is no expression
  pub taken : (labels text : List ℕ) → (¬ (rules_of labels text ≡ Err NoExpression)) ↔ ((e : Expr) × Expression labels e text)
  -- a text is one expression
  pub one : (labels text : List ℕ) (e f : Expr) → Expression labels e text → Expression labels f text → e ≡ f
  pub rows : (labels text : List ℕ) (e : Expr) → length labels ≤ 8 → Expression labels e text → RowPromises labels text e
