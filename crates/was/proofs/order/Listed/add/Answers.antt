-- `add` meets its contract. Assumes nothing.
use mathlib.Core.Path.{sym, ◌∙◌}
use native.Mathlib.Omega.{arith}
use Rattle.was.proofs.CellLaws.{put_none, put_one, begun_room}
use Rattle.was.proofs.order.Listed.add.Goals as goal

pub bounds-self-self : goal.bounds-self-self
bounds-self-self c = let r = begun_room c.args.self.now.list c.args.self.now.count c.args.s c.requires.listed c.requires.scope (sym c.is_listed.ensures.answer ∙ c.if-not-is_listed.true) in omega arith

pub returns-then-not-is_listed : goal.returns-then-not-is_listed
returns-then-not-is_listed c =
    let no = sym c.is_listed.ensures.answer ∙ c.if-not-is_listed.true in
    let told = put_one c.args.self.now.list c.args.self.now.count c.args.s c.requires.listed.size c.requires.listed.most (begun_room c.args.self.now.list c.args.self.now.count c.args.s c.requires.listed c.requires.scope no) no in
    record { count = told.0; memory = told.1 }

pub returns-else-not-is_listed : goal.returns-else-not-is_listed
returns-else-not-is_listed c =
    let told = put_none c.args.self.now.list c.args.self.now.count c.args.s c.requires.listed.size c.requires.listed.most (sym c.is_listed.ensures.answer ∙ c.if-not-is_listed.false) in
    record { count = told.0; memory = told.1 }
