-- An end of an order pair as a cell (01, "The gym file", the rows `less more`), and what the code's
-- ends mean. Assumes nothing: these are definitions.
use Rattle.std.specs.Prelude.{ℕ, zero, suc}
use Rattle.std.proofs.Math.Option.{Option, some, none}
use Rattle.std.specs.declared.option.Option.{Option as CodeOption}
use Rattle.std.specs.declared.option.Option.TheVariants.{Some, None}
use Rattle.scope_graph.specs.declared.End.{End as CodeEnd}
use Rattle.scope_graph.specs.declared.End.TheVariants.{Stop, Label}
use Rattle.scope_graph.specs.Language.{End, stop, by}
use Rattle.scope_graph.specs.Turns.{Turned}

-- an end as one cell: 0 is `$`, and n + 1 is the label with number n
unfoldable pub end_of : ℕ → End ℕ
end_of zero = stop
end_of (suc n) = by n

-- what the code's values mean (01, "Where each language form goes"; the turn, 02, K12)
unfoldable pub turn_meaning : CodeOption ℕ → Option ℕ
turn_meaning None = none
turn_meaning (Some n) = some n

unfoldable pub meaning : CodeEnd → End Turned
meaning Stop = stop
meaning (Label n t) = by (record { label = n; turn = turn_meaning t })
