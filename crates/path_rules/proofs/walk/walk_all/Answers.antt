-- `walk_all` meets its contract. Assumes nothing.
use mathlib.Core.Path.{sym, ap, ◌∙◌}
use native.Mathlib.Omega.{arith}
use Rattle.std.specs.declared.option.Option.TheVariants.{Some}
use Rattle.path_rules.specs.Walk.{walk_to}
use Rattle.path_rules.proofs.Steps.{fits_start, fits_turn, walk_on, walk_stop}
use Rattle.path_rules.proofs.walk.walk_all.Goals as goal

pub loop-k-init : goal.loop-k-init
unfolding walk_to
loop-k-init c =
    let h = fits_start _ _ c.start_walk-w.ensures.answer in
    record { walk = ap Some (sym c.start_walk-w.ensures.answer); states = h.0; sets = h.1 }

pub returns-in_err-w : goal.returns-in_err-w
returns-in_err-w c = record {
  answer =
      c.from_residual.ensures
      ∙ walk_stop _ _ _ _ _ 128 _ c.loop-k-test.true c.loop-k.invariant.walk (sym c.walk_turn.ensures.answer ∙ c.in_err-w.was);
}

pub loop-k-preserved : goal.loop-k-preserved
loop-k-preserved c =
    let e = sym c.walk_turn.ensures.answer ∙ c.in_ok-w.was in
    let h = fits_turn _ _ _ _ _ _ (c.loop-k.invariant.states, c.loop-k.invariant.sets) e in
    record { walk = sym (walk_on _ _ _ _ _ _ c.loop-k.invariant.walk) ∙ e; states = h.0; sets = h.1 }

pub returns : goal.returns
returns c = record {
  answer = sym c.loop-k.invariant.walk ∙ ap (walk_to c.args.vs.now c.args.positions.now.after c.args.positions.now.labels c.args.start) (omega arith);
}
