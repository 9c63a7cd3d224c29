-- `put_declared` meets its contract: what is left to take from declaration i on gives the whole.
-- Assumes nothing.
use Prim.Native.Nat.{◌+◌, ◌*◌}
use native.Mathlib.Omega.{arith}
use mathlib.Core.Path.{◌≡◌, refl, sym, ◌∙◌}
use Rattle.block.specs.Ask.{ask_start, ask_name}
use Rattle.follow.specs.Walk.{path_hops, letter_bytes}
use Rattle.follow.proofs.TallyLaws.{rows_none, rows_one, rows_step}
use Rattle.follow.proofs.EntryLaws.{rows_none_left, rows_here, rows_pass}
use Rattle.follow.proofs.rows.put_declared.Goals as goal

pub loop-i-init : goal.loop-i-init
loop-i-init c = refl

pub loop-i-preserved-then-not-declares : goal.loop-i-preserved-then-not-declares
loop-i-preserved-then-not-declares c =
    let next : (c.loop-i.i + 1) * 6 ≡ c.loop-i.i * 6 + 6 = omega arith
    in let passed = sym (rw c.name_asked-name.ensures.answer at c.declares.ensures.answer) ∙ c.if-not-declares.true
    in rw next (rows_step _ _ _ _ _ _ _ (rows_none _ _ _ refl)
    (rows_pass (letter_bytes c.args.on.now.block.now) (ask_start c.args.on.now.ask.now) (path_hops c.args.path) c.args.decls.now c.args.s (ask_name c.args.on.now.ask.now) (c.loop-i.i * 6) _ c.declaration_row-row.ensures.answer (omega arith) passed)
    c.loop-i.invariant)

pub loop-i-preserved : goal.loop-i-preserved
loop-i-preserved c =
    let next : (c.loop-i.i + 1) * 6 ≡ c.loop-i.i * 6 + 6 = omega arith
    in let here = sym (rw c.name_asked-name.ensures.answer at c.declares.ensures.answer) ∙ c.if-not-declares.false
    in rw next (rows_step _ _ _ _ _ _ _ (rw c.ask_start-start.ensures.answer at c.put_entry-t.ensures.taken ∙ rows_one _ _ _)
    (rows_here (letter_bytes c.args.on.now.block.now) (ask_start c.args.on.now.ask.now) (path_hops c.args.path) c.args.decls.now c.args.s (ask_name c.args.on.now.ask.now) (c.loop-i.i * 6) _ c.declaration_row-row.ensures.answer (omega arith) here)
    c.loop-i.invariant)

pub returns : goal.returns
returns c = record {
  taken = rows_none _ _ _ (rows_none_left (letter_bytes c.args.on.now.block.now) (ask_start c.args.on.now.ask.now) (path_hops c.args.path) c.args.decls.now c.args.s (ask_name c.args.on.now.ask.now) (c.loop-i.i * 6) (omega arith))
      ∙ c.loop-i.invariant;
}
