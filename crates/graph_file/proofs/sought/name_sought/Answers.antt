use Prim.Native.Nat.{◌-◌, ◌≤◌}
use mathlib.Core.Path.{sym, ap, subst, ◌∙◌}
use native.Mathlib.Omega.{arith}
use lib.ListN.{length, take, drop}
use Rattle.graph_file.specs.declared.sought.NamePlace.{NamePlace}
use Rattle.graph_file.proofs.SoughtLaws.{sought_there}
use Rattle.graph_file.proofs.sought.name_sought.Goals as goal

pub slice_bounds-result-count : goal.slice_bounds-result-count
slice_bounds-result-count c = subst (λ (p : NamePlace). p.from ≤ p.to) (sym c.name_place-p.ensures.answer) (sought_there c.args.text.now c.args.query).1.0

pub slice_bounds-result-start : goal.slice_bounds-result-start
slice_bounds-result-start c = let f : c.name_place-p.result.from ≤ c.name_place-p.result.to = subst (λ (p : NamePlace). p.from ≤ p.to) (sym c.name_place-p.ensures.answer) (sought_there c.args.text.now c.args.query).1.0 in let g : c.name_place-p.result.to ≤ length c.args.text.now = subst (λ (p : NamePlace). p.to ≤ length c.args.text.now) (sym c.name_place-p.ensures.answer) (sought_there c.args.text.now c.args.query).1.1 in omega arith

pub slice_bounds-result-end : goal.slice_bounds-result-end
slice_bounds-result-end c = let f : c.name_place-p.result.from ≤ c.name_place-p.result.to = subst (λ (p : NamePlace). p.from ≤ p.to) (sym c.name_place-p.ensures.answer) (sought_there c.args.text.now c.args.query).1.0 in let g : c.name_place-p.result.to ≤ length c.args.text.now = subst (λ (p : NamePlace). p.to ≤ length c.args.text.now) (sym c.name_place-p.ensures.answer) (sought_there c.args.text.now c.args.query).1.1 in omega arith

pub returns : goal.returns
returns c = record { answer = ap (λ (p : NamePlace). take (p.to - p.from) (drop p.from c.args.text.now)) c.name_place-p.ensures.answer ∙ (sought_there c.args.text.now c.args.query).0 }
