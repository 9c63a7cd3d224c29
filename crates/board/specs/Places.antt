-- Where the tables have what a row says, if it is in range. Assumes nothing: these are definitions.
use Rattle.std.specs.Prelude.{ℕ, ◌+◌, ◌*◌, ◌&&◌, true, false, ltb}
use Rattle.std.specs.declared.option.Option.TheVariants.{Some, None}
use Rattle.std.specs.declared.option.Option.{Option}
use Rattle.scope_graph.specs.declared.End.{End}
use Rattle.scope_graph.specs.declared.End.TheVariants.{Stop, Label}

-- the cell of a state and a label; those out of range have none
unfoldable pub transition_place : ℕ → ℕ → Option ℕ
transition_place q l = elim (ltb q 16 && ltb l 8) [ true ↦ Some (q * 8 + l) | false ↦ None ]

-- the number of an order row's end: 0 for the end mark, n + 1 for the label n; a label past the eight
-- has none
unfoldable pub end_place : End → Option ℕ
end_place Stop = Some 0
end_place (Label l t) = elim (ltb l 8) [ true ↦ Some (l + 1) | false ↦ None ]
