-- `may_await` meets its contract: by what stands there. Assumes nothing.
use mathlib.Core.Path.{sym, ap, ◌∙◌}
use Rattle.resolution.specs.Asked.{query_in}
use Prim.Native.Nat.{ℕ}
use Rattle.std.specs.declared.option.Option.{Option}
use Rattle.told.specs.Steps.{named_meaning}
use Rattle.accepting.specs.Tests.{may_await}
use Rattle.accepting.proofs.OpenLaws.{named_is}
use Rattle.accepting.proofs.opens.may_await.Goals as goal

pub returns-in-None : goal.returns-in-None
unfolding may_await named_meaning
returns-in-None c = record { answer = c.is_settled.ensures.answer ∙ ap (λ (z : Option (ℕ × ℕ)). may_await c.args.table.now (query_in c.args.table.now c.args.ask.now) (named_meaning z)) (sym c.in-None.is) }

pub returns-in-Some : goal.returns-in-Some
unfolding named_meaning
returns-in-Some c = record { answer = named_is c.args.table.now c.args.block.now c.args.ask.now c.requires.ready _ _ _ c.end_number.ensures.answer _ c.is_decisive.ensures.answer ∙ ap (λ (z : Option (ℕ × ℕ)). may_await c.args.table.now (query_in c.args.table.now c.args.ask.now) (named_meaning z)) (sym c.in-Some.is) }
