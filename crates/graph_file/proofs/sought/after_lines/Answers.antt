-- `after_lines` meets its contract. The loop's invariant: the text after the lines that are left,
-- from here on, is the text after all of them. Assumes nothing.
use Prim.Native.Nat.{ℕ, ◌+◌, ◌-◌}
use mathlib.Core.Path.{◌≡◌, sym, ap, ◌∙◌}
use native.Mathlib.Omega.{arith}
use lib.ListN.{drop}
use Rattle.graph_file.specs.NameSought.{after_lines}
use Rattle.graph_file.proofs.SoughtLaws.{after_stop, after_line, after_last_line}
use Rattle.graph_file.proofs.sought.after_lines.Goals as goal

pub loop-init : goal.loop-init
loop-init c = let z : c.args.lines - 0 ≡ c.args.lines = omega arith in ap (λ (n : ℕ). after_lines n c.args.text.now) z

pub returns-in_default : goal.returns-in_default
returns-in_default c = record { place = after_last_line (c.args.lines - c.loop.counter) (omega arith) c.args.text.now c.loop.at _ c.loop.invariant (sym c.in_default.is ∙ c.next_line.ensures.answer) }

pub loop-preserved : goal.loop-preserved
loop-preserved c =
    let k : c.args.lines - (c.loop.counter + 1) ≡ c.args.lines - c.loop.counter - 1 = omega arith
    in ap (λ (n : ℕ). after_lines n (drop c.in-Some.next c.args.text.now)) k ∙ after_line (c.args.lines - c.loop.counter) (omega arith) c.args.text.now c.loop.at _ c.loop.invariant _ _ (sym c.in-Some.is ∙ c.next_line.ensures.answer)

pub returns : goal.returns
returns c = record { place = after_stop (c.args.lines - c.loop.counter) _ _ (omega arith) c.loop.invariant }
