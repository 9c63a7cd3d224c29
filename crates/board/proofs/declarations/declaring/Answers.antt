use Prim.Native.Nat.{◌+◌, ◌*◌}
use mathlib.Core.Path.{◌≡◌, ap, ◌∙◌}
use mathlib.Core.Bool.{◌||◌}
use Rattle.block.specs.Sets.{has_scope}
use Rattle.graph_table.specs.declared.rows.DeclarationRow.{DeclarationRow}
use Rattle.graph_table.specs.Values.{packed, declares}
use Rattle.graph_table.proofs.RowLaws.{names_high}
use Rattle.board.proofs.DeclaringLaws.{declaring_none, declaring_noted, declaring_all, noted_other}
use native.Mathlib.Omega.{arith}
use Rattle.board.proofs.declarations.declaring.Goals.{then-row-name, else-row-name}
use Rattle.board.proofs.declarations.declaring.Goals as goal

pub loop-i-init : goal.loop-i-init
loop-i-init c = declaring_none c.args.rows.now _

pub loop-i-preserved : goal.loop-i-preserved
loop-i-preserved c = let next : (c.loop-i.i + 1) * 6 ≡ c.loop-i.i * 6 + 6 = omega arith in
    elim c.if-row-name.branch [
      | then-row-name w ↦ rw (next, w.out-is) (declaring_noted c.args.rows.now (packed c.args.name) (c.loop-i.i * 6) c.loop-i.out c.loop-i.invariant _ (omega arith)
          (λ s k. w.noted-out.ensures.answer s k ∙ ap (λ (row : DeclarationRow). has_scope c.loop-i.out s || declares (packed c.args.name) s row) c.declaration_row-row.ensures.answer))
      | else-row-name w ↦ rw (next, w.out-is) (declaring_noted c.args.rows.now (packed c.args.name) (c.loop-i.i * 6) c.loop-i.out c.loop-i.invariant _ (omega arith)
          (λ s k. noted_other c.loop-i.out s (packed c.args.name) c.declaration_row-row.result (names_high c.declaration_row-row.result.name c.args.name w.if-row-name.false) ∙ ap (λ (row : DeclarationRow). has_scope c.loop-i.out s || declares (packed c.args.name) s row) c.declaration_row-row.ensures.answer))
    ]

pub returns : goal.returns
returns c = record { answer = declaring_all c.args.rows.now (packed c.args.name) (c.loop-i.i * 6) c.loop-i.out c.loop-i.invariant (omega arith) }
