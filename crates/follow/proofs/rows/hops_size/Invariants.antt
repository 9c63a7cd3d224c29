use mathlib.Core.Path.{◌≡◌}
use Rattle.follow.specs.Steps.{hops_size}
use Rattle.follow.proofs.RowLaws.{first_hops}
use Rattle.follow.proofs.rows.hops_size.Given as goal

abbrev pub invariant-loop-hop : goal.invariant-loop-hop
invariant-loop-hop l = l.n ≡ hops_size (first_hops l.hops l.hop-index)
