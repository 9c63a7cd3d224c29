-- `put_scopes` meets its contract. The loop's invariant: the lines of the scopes below s are
-- written. Assumes nothing.
use Rattle.text_field.proofs.WritingLaws.{◌then◌, wrote_none}
use mathlib.Core.Path.{◌≡◌}
use native.Mathlib.Omega.{arith}
use mathlib.Core.List.{flat_map}
use Rattle.scope_graph.specs.Readers.{numbers_below}
use Rattle.dot.proofs.Texts.{scopes_more}
use Rattle.dot.proofs.lines.put_scopes.Goals as goal

pub loop-s-init : goal.loop-s-init
unfolding numbers_below flat_map
loop-s-init c = wrote_none _

pub loop-s-preserved : goal.loop-s-preserved
loop-s-preserved c = rw scopes_more (c.loop-s.invariant then c.put_scope.ensures.wrote)

pub returns : goal.returns
returns c = let all : c.loop-s.s ≡ c.args.count = omega arith in record { wrote = rw (← all) c.loop-s.invariant }
