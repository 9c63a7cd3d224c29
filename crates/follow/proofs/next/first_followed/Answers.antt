-- `first_followed` meets its contract: where the highest turn is 0, all are. Assumes nothing.
use mathlib.Core.Path.{sym}
use Rattle.follow.proofs.next.first_followed.Goals as goal

pub edges_from-p-requires : goal.edges_from-p-requires
edges_from-p-requires c = record { scope = c.requires.inside.scope }

pub returns : goal.returns
returns c = record { known = c.next_from.ensures.known; next = rw (sym c.edges_from-p.ensures.answer) c.next_from.ensures.next }
