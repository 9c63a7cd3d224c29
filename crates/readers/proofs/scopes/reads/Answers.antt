-- `reads` meets its contract. Assumes nothing.
use native.Mathlib.Omega.{arith}
use Rattle.readers.proofs.Asked.{scopes_few, scope_small, reader_asked, reader_told}
use Rattle.readers.proofs.scopes.reads.Goals as goal

pub ask_from-ask-requires : goal.ask_from-ask-requires
ask_from-ask-requires c = record { made = c.requires.stands.made; asked = reader_asked c.args.table.now c.args.block.now c.args.d c.requires.stands c.args.s c.requires.scope; goal = c.requires.declared }

pub is_end-requires : goal.is_end-requires
is_end-requires c = let most = scopes_few c.args.table.now c.requires.stands.read in
    let at = scope_small c.args.table.now c.args.block.now c.args.d c.requires.stands in record { ready = c.ask_from-ask.ensures.asking.ready; scope = omega arith }

pub returns : goal.returns
returns c = record { answer = reader_told c.args.table.now c.args.block.now c.args.d c.requires.stands c.args.s _ c.ask_from-ask.ensures.asking _ c.is_end.ensures.answer }
