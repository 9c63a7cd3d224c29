-- `standing` meets its contract: by its start, by whether it is reached, by whether it is cut.
-- Assumes nothing.
use native.Mathlib.Omega.{arith}
use mathlib.Core.Path.{refl}
use Rattle.judge.proofs.HopLaws.{begins_inside}
use Rattle.judge.proofs.Tied.{start_small, start_below, starts_apart, not_reached, is_cut, not_cut}
use Rattle.judge.proofs.standing.standing.Goals as goal

pub returns-then-from-start : goal.returns-then-from-start
returns-then-from-start c = record { answer = starts_apart c.args.table.now c.args.sought c.args.mark c.args.from c.args.steps.now c.requires.asked c.if-from-start.true }

pub part-decls-requires : goal.part-decls-requires
part-decls-requires c = record { made = c.requires.made; section = omega arith }

pub begin-n-requires : goal.begin-n-requires
begin-n-requires c = record { scope = start_small c.args.table.now c.args.sought c.args.mark c.args.from c.args.steps.now c.requires.asked; scopes = start_below c.args.table.now c.args.sought c.args.mark c.args.from c.args.steps.now c.requires.asked c.args.block.now c.requires.made }

pub is_reached-requires : goal.is_reached-requires
is_reached-requires c = record { inside = begins_inside c.args.block.now c.args.sought.start _ c.begin-n.ensures.answer (start_small c.args.table.now c.args.sought c.args.mark c.args.from c.args.steps.now c.requires.asked) }

pub returns-then-not-is_reached : goal.returns-then-not-is_reached
returns-then-not-is_reached c = record { answer = not_reached c.args.table.now c.args.sought c.args.mark c.args.from c.args.steps.now c.requires.asked c.if-from-start.false c.args.block.now c.requires.made _ c.part-decls.ensures.answer _ c.declaring-goal.ensures.answer _ c.begin-n.ensures.answer _ refl _ c.is_reached.ensures.answer c.if-not-is_reached.true }

pub goal_table-live-requires : goal.goal_table-live-requires
goal_table-live-requires c = record { bounds = c.requires.made.bounds; scope = start_small c.args.table.now c.args.sought c.args.mark c.args.from c.args.steps.now c.requires.asked }

pub last_cut-requires : goal.last_cut-requires
last_cut-requires c = record { ready = record { bounds = c.requires.made.bounds; table = omega arith; inside = begins_inside c.args.block.now c.args.sought.start _ c.begin-n.ensures.answer (start_small c.args.table.now c.args.sought c.args.mark c.args.from c.args.steps.now c.requires.asked); closed = c.goal_table-live.ensures.live } }

pub returns-in-Some : goal.returns-in-Some
returns-in-Some c = record { answer = is_cut c.args.table.now c.args.sought c.args.mark c.args.from c.args.steps.now c.requires.asked c.if-from-start.false c.args.block.now c.requires.made _ c.part-decls.ensures.answer _ c.declaring-goal.ensures.answer _ c.begin-n.ensures.answer _ refl _ c.is_reached.ensures.answer c.if-not-is_reached.false _ c.last_cut.ensures.answer _ c.in-Some.is }

pub returns-in-None : goal.returns-in-None
returns-in-None c = record { answer = not_cut c.args.table.now c.args.sought c.args.mark c.args.from c.args.steps.now c.requires.asked c.if-from-start.false c.args.block.now c.requires.made _ c.part-decls.ensures.answer _ c.declaring-goal.ensures.answer _ c.begin-n.ensures.answer _ refl _ c.is_reached.ensures.answer c.if-not-is_reached.false _ c.last_cut.ensures.answer c.in-None.is }
