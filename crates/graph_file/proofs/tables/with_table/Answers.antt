-- `with_table` meets its contract: the text's refusal, or what is made of its cells. Assumes nothing.
use mathlib.Core.Path.{refl}
use Rattle.std.proofs.lemmas.Result.{err_from_is_err_and}
use native.Mathlib.Omega.{arith}
use Rattle.graph_file.proofs.TableLaws.{over_refused, over_written}
use Rattle.graph_file.proofs.tables.with_table.Goals as goal

pub whole_as_slice-read_over : goal.whole_as_slice-read_over
whole_as_slice-read_over g c = omega (arith, c.requires.size)

pub shared_whole_as_front-then : goal.shared_whole_as_front-then
shared_whole_as_front-then g c = (let m = over_written c.args.text.now _ _ c.read_over.ensures.answer c.read_over.ensures.within _ c.in_ok-n.was in omega (arith, m.within, c.read_over.auto.table), omega (arith, c.requires.size))

pub then-requires : goal.then-requires
then-requires g c = let m = over_written c.args.text.now _ _ c.read_over.ensures.answer c.read_over.ensures.within _ c.in_ok-n.was in c.requires.callable _ m.made _ refl

pub returns-in_err-n-clause-refused : goal.returns-in_err-n-clause-refused
returns-in_err-n-clause-refused g c =
    let p = err_from_is_err_and c.from_residual.result c.from_residual.ensures.1 in
    rw (p.1, p.2) (over_refused c.args.text.now _ _ c.read_over.ensures.answer _ c.in_err-n.was, refl)

pub returns-clause-read : goal.returns-clause-read
returns-clause-read g c = let m = over_written c.args.text.now _ _ c.read_over.ensures.answer c.read_over.ensures.within _ c.in_ok-n.was in (_, m.made, record { shown = _; shows = refl; called = c.then.ensures })
