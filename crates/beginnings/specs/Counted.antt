-- What a host's number holds after a listing that a count comes beside (02, K11). Assumes nothing:
-- these are definitions.
use Rattle.std.specs.Prelude.{ℕ}
use Rattle.text_field.specs.Outcome.{Outcome, refused, done}

-- What the number lent for the count holds afterwards, by the listing's answer: the count where the
-- listing was written; after a refusal, what it held.
unfoldable pub followed_leaves : Outcome ℕ → Outcome ℕ → ℕ → ℕ
followed_leaves (refused n) count lent = lent
followed_leaves (done size) (refused n) lent = lent
followed_leaves (done size) (done count) lent = count
