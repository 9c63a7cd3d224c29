-- `find_vectors` meets its contract. Assumes nothing.
use mathlib.Core.Path.{ap, ◌∙◌}
use native.Mathlib.Omega.{arith}
use Rattle.path_rules.specs.Vectors.{first_found, turns, vectors}
use Rattle.path_rules.proofs.Steps.{first_room, turns_on, room_by, turn_room}
use Rattle.path_rules.proofs.vectors.find_vectors.Goals as goal

pub loop-k-init : goal.loop-k-init
unfolding turns
loop-k-init c = record { found = c.first-found.ensures.answer; held = room_by _ _ c.first-found.ensures.answer first_room }

pub loop-k-preserved : goal.loop-k-preserved
loop-k-preserved c = record {
  found = turns_on _ _ _ _ _ _ c.loop-k.invariant.found c.note_turn.ensures.found;
  held = room_by _ _ c.note_turn.ensures.found (turn_room _ _ _ _ c.loop-k.invariant.held);
}

pub returns : goal.returns
unfolding vectors
returns c = record { found = c.loop-k.invariant.found ∙ ap (λ n. turns c.args.positions.now.after c.args.positions.now.labels n first_found) (omega arith) }
