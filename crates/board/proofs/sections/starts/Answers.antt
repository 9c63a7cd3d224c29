use Prim.Native.Nat.{ℕ, ◌+◌, ◌-◌}
use mathlib.Core.Path.{◌≡◌, ap, ◌∙◌, fun_ext}
use mathlib.Core.List.{List}
use lib.ListN.{length, take, drop, length-drop}
use lib.Seq.{take_all}
use native.Mathlib.Omega.{arith}
use Rattle.graph_table.specs.Sections.{leading}
use Rattle.graph_table.proofs.Leading.{first_within, start_first}
use Rattle.board.specs.Tables.{tabulate}
use Rattle.board.proofs.sections.starts.Goals as goal

pub offset_bounds-table-from : goal.offset_bounds-table-from
offset_bounds-table-from c = let w = first_within c.args.table.now in omega (arith, c.first_row-from.ensures.answer)

pub slice_bounds-places-count : goal.slice_bounds-places-count
slice_bounds-places-count c = let w = first_within c.args.table.now in omega (arith, c.first_row-from.ensures.answer)

pub slice_bounds-places-start : goal.slice_bounds-places-start
slice_bounds-places-start c = let w = first_within c.args.table.now in omega (arith, c.first_row-from.ensures.answer)

pub returns : goal.returns
returns c = record {
  answer = let table = c.args.table.now in
      let from = c.first_row-from.result in
      let rest : take (length table - from) (drop from table) ≡ drop from table = take_all (length table - from) (drop from table) (omega (arith, length-drop from table)) in
      let found : c.places.result ≡ tabulate (λ k. from + leading 0 k (take (length table - from) (drop from table))) 10 = c.places.ensures.answer in
      found
      ∙ ap (λ (f : ℕ → ℕ). tabulate f 10)
      (fun_ext (λ k. ap (λ (l : List ℕ). from + leading 0 k l) rest ∙ ap (λ (n : ℕ). n + leading 0 k (drop n table)) c.first_row-from.ensures.answer ∙ start_first k table));
}
