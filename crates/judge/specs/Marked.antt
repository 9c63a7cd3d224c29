-- Document 01's marked trial M10, as the judge answers it, for the query `2 service` of the
-- example's text. The value is in proofs/Marked.antt. Assumes nothing: these are statements.
use Rattle.std.specs.Prelude.{◌≡◌, [], ◌∷◌}
use Rattle.scope_graph.specs.Agree.{as_visible, as_shadowed, as_unreached}
use Rattle.text_field.specs.Outcome.{done}
use Rattle.board.specs.Example.{example_text}
use Rattle.judge.specs.Judge.{judge_answer}

pub record M10 : Type 0 where
  -- `10 2P1`: the path `2` is preferred, and agrees with it in no step (02, K7)
  pub shadowed : judge_answer example_text 0 (49 ∷ 48 ∷ 32 ∷ 50 ∷ 80 ∷ 49 ∷ []) 63 ≡ done (as_shadowed 0)
  -- `21 2`
  pub visible : judge_answer example_text 0 (50 ∷ 49 ∷ 32 ∷ 50 ∷ []) 63 ≡ done as_visible
  -- `5 2P1P0`
  pub unreached : judge_answer example_text 0 (53 ∷ 32 ∷ 50 ∷ 80 ∷ 49 ∷ 80 ∷ 48 ∷ []) 63 ≡ done as_unreached
