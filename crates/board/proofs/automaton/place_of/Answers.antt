use mathlib.Core.Path.{sym}
use mathlib.Core.Logic.{⊎_elim}
use Rattle.board.proofs.Passes.{place_in, place_no_state, place_no_label}
use native.Mathlib.Omega.{arith}
use Rattle.board.proofs.automaton.place_of.Goals as goal

pub returns-then-row-lt8 : goal.returns-then-row-lt8
returns-then-row-lt8 c = record { answer = sym (place_in _ _ (omega arith) (omega arith)) }

pub returns-else-row-lt16 : goal.returns-else-row-lt16
returns-else-row-lt16 c = record { answer = ⊎_elim (λ e. sym (place_no_label _ _ e.1)) (λ e. sym (place_no_state _ _ e)) c.else-row-lt16.either }
