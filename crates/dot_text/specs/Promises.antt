-- What is promised of reading a drawing (02, K14). These are the statements; their values are in
-- proofs/Promises.antt. Assumes nothing: these are definitions.
use Rattle.std.specs.Prelude.{ℕ, ◌≡◌, ◌↔◌, List}
use Rattle.text_field.specs.Outcome.{refused, done}
use Rattle.dot_text.specs.Grammar.{Drawing, Drawn}
use Rattle.dot_text.specs.Reading.{drawn}

-- A text is read as a drawing exactly if the grammar says that it draws this. So no text draws two
-- things.
abbrev pub DrawnIs : Type 0
DrawnIs = (text : List ℕ) (d : Drawing) → (drawn text ≡ done d) ↔ Drawn text d

abbrev pub OneMeaning : Type 0
OneMeaning = (text : List ℕ) (d e : Drawing) → Drawn text d → Drawn text e → d ≡ e

-- A text is refused by 18 exactly if it draws nothing, and by no other number.
pub record Eighteen : Type 0 where
  pub outside : (text : List ℕ) → (drawn text ≡ refused 18) ↔ ((d : Drawing) → ¬ Drawn text d)
  pub only : (text : List ℕ) (n : ℕ) → drawn text ≡ refused n → n ≡ 18
