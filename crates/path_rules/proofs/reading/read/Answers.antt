-- `read` meets its contract. Assumes nothing.
use Rattle.path_rules.proofs.Steps.{read_on, read_stop, read_end, depth_byte}
use Rattle.path_rules.specs.Reading.{fresh}
use Rattle.std.specs.Option.{option_map}
use mathlib.Core.Path.{sym, ap, ◌∙◌}
use native.Mathlib.Omega.{arith}
use Rattle.path_rules.proofs.reading.read.Goals as goal

pub loop-b-init : goal.loop-b-init
unfolding fresh
loop-b-init c = record { rest = rw c.nothing-s.ensures.answer; depth = rw c.nothing-s.ensures.answer (omega arith) }

pub returns-in_err-read_byte : goal.returns-in_err-read_byte
returns-in_err-read_byte c = record {
  answer =
      c.from_residual.ensures
      ∙ read_stop _ _ _ _ c.loop-b-test.true (sym c.read_byte.ensures.answer ∙ ap (option_map (λ _. c.read_byte.new.s)) c.in_err-read_byte.was)
      ∙ c.loop-b.invariant.rest;
}

pub loop-b-preserved : goal.loop-b-preserved
loop-b-preserved c = record {
  rest = read_on _ _ _ _ _ c.loop-b-test.true (sym c.read_byte.ensures.answer ∙ ap (option_map (λ _. c.read_byte.new.s)) c.in_ok-read_byte.was) ∙ c.loop-b.invariant.rest;
  depth = depth_byte _ _ _ _ c.loop-b.invariant.depth (sym c.read_byte.ensures.answer ∙ ap (option_map (λ _. c.read_byte.new.s)) c.in_ok-read_byte.was);
}

pub returns : goal.returns
returns c = record { answer = read_end _ _ _ _ c.loop-b-test.false ∙ c.loop-b.invariant.rest }
