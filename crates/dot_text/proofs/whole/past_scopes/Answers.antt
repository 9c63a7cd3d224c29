use mathlib.Core.Path.{sym, ap, ◌∙◌}
use mathlib.Core.List.{List}
use Prim.Native.Nat.{ℕ}
use lib.ListN.{drop}
use Rattle.dot_text.specs.Reading.{Taken, number_of}
use Rattle.dot_text.proofs.StatementLaws.{scopes_some, scope_shrinks}
use Rattle.dot_text.proofs.whole.past_scopes.Goals as goal

pub loop-next-smaller : goal.loop-next-smaller
unfolding number_of
loop-next-smaller c = scope_shrinks (drop c.loop-next.p c.args.text.now) _ (sym c.in-Some.ensures.answer)

pub loop-next-preserved : goal.loop-next-preserved
unfolding number_of
loop-next-preserved c = sym (ap (λ (z : Taken (List ℕ)). z.rest) (scopes_some (drop c.loop-next.p c.args.text.now) _ (sym c.in-Some.ensures.answer))) ∙ c.loop-next.invariant
