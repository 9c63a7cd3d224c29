-- `has_mark` meets its contract: the rows that are left decide. Assumes nothing.
use mathlib.Core.Path.{◌≡◌, sym, ◌∙◌}
use Prim.Native.Nat.{◌+◌, ◌*◌}
use native.Mathlib.Omega.{arith}
use Rattle.judge.proofs.MarkLaws.{marks_none, marks_here, marks_on}
use Rattle.judge.proofs.reached.has_mark.Goals as goal

pub returns-then-is_marked : goal.returns-then-is_marked
returns-then-is_marked c = record { answer = sym (sym c.loop-i.invariant ∙ marks_here c.args.sought c.args.mark c.args.s c.args.decls.now (c.loop-i.i * 6) (omega arith) c.declaration_row.result c.declaration_row.ensures.answer c.is_marked.result c.is_marked.ensures.answer c.if-is_marked.true) }

pub loop-i-preserved : goal.loop-i-preserved
loop-i-preserved c =
    let next : (c.loop-i.i + 1) * 6 ≡ c.loop-i.i * 6 + 6 = omega arith in
    rw next (sym (marks_on c.args.sought c.args.mark c.args.s c.args.decls.now (c.loop-i.i * 6) (omega arith) c.declaration_row.result c.declaration_row.ensures.answer c.is_marked.result c.is_marked.ensures.answer c.if-is_marked.false) ∙ c.loop-i.invariant)

pub returns : goal.returns
returns c = record { answer = sym (sym c.loop-i.invariant ∙ marks_none c.args.sought c.args.mark c.args.s c.args.decls.now (c.loop-i.i * 6) (omega arith)) }
