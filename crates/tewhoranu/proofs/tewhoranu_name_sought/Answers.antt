use Rattle.tewhoranu.proofs.NumberLaws.{no_name, a_name}
use Rattle.tewhoranu.proofs.tewhoranu_name_sought.Goals as goal

pub returns-then-to-from : goal.returns-then-to-from
returns-then-to-from c = let told = no_name c.args.text.now c.args.query c.args.place.now c.name_place-p.result c.name_place-p.ensures.answer c.if-to-from.true in record { answer = told.0; place = told.1 }

pub returns : goal.returns
returns c = let told = a_name c.args.text.now c.args.query c.args.place.now c.name_place-p.result c.name_place-p.ensures.answer c.if-to-from.false in record { answer = told.0; place = told.1 }
