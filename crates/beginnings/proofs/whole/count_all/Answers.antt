-- `count_all` meets its contract. Assumes nothing.
use mathlib.Core.Path.{ap, ◌∙◌}
use native.Mathlib.Omega.{arith}
use Rattle.beginnings.specs.Beginnings.{capped}
use Rattle.beginnings.proofs.Tells.{capped_most}
use Rattle.beginnings.proofs.Start.{at_start_lem}
use Rattle.beginnings.proofs.whole.count_all.Goals as goal

pub comes_to_most-requires : goal.comes_to_most-requires
comes_to_most-requires c = let begun = at_start_lem c.args.block.now c.args.ask.now c.args.onward.now c.scope_count-scopes.result c.ask_start-start.result c.first_scopes.result c.taken.result c.scope_count-scopes.ensures.answer c.ask_start-start.ensures.answer c.first_scopes.ensures.answer c.taken.ensures.answer c.requires.live c.requires.start c.requires.scopes c.requires.inside c.requires.worth in record { bounds = c.requires.bounds; live = begun.live; table = c.requires.table; worth = begun.worth; near = omega arith; hopes = c.requires.hopes; inside = begun.inside; few = begun.few; uncut = c.is_uncut.ensures.uncut c.if-is_uncut.true }

pub returns-then-comes_to_most : goal.returns-then-comes_to_most
returns-then-comes_to_most c = record {
  count = let begun = at_start_lem c.args.block.now c.args.ask.now c.args.onward.now c.scope_count-scopes.result c.ask_start-start.result c.first_scopes.result c.taken.result c.scope_count-scopes.ensures.answer c.ask_start-start.ensures.answer c.first_scopes.ensures.answer c.taken.ensures.answer c.requires.live c.requires.start c.requires.scopes c.requires.inside c.requires.worth in
      capped_most _ _ begun.count (c.comes_to_most.ensures.most c.if-comes_to_most.true);
}

pub count_by-requires : goal.count_by-requires
count_by-requires c = let begun = at_start_lem c.args.block.now c.args.ask.now c.args.onward.now c.scope_count-scopes.result c.ask_start-start.result c.first_scopes.result c.taken.result c.scope_count-scopes.ensures.answer c.ask_start-start.ensures.answer c.first_scopes.ensures.answer c.taken.ensures.answer c.requires.live c.requires.start c.requires.scopes c.requires.inside c.requires.worth in record { bounds = c.requires.bounds; live = begun.live; table = c.requires.table; worth = begun.worth; near = omega arith; hopes = c.requires.hopes; inside = begun.inside; few = begun.few }

pub returns : goal.returns
returns c = record {
  count = let begun = at_start_lem c.args.block.now c.args.ask.now c.args.onward.now c.scope_count-scopes.result c.ask_start-start.result c.first_scopes.result c.taken.result c.scope_count-scopes.ensures.answer c.ask_start-start.ensures.answer c.first_scopes.ensures.answer c.taken.ensures.answer c.requires.live c.requires.start c.requires.scopes c.requires.inside c.requires.worth in
      c.count_by.ensures.told.exact c.near_table-near.ensures.covers ∙ ap capped begun.count;
}
