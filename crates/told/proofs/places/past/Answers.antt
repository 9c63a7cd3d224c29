-- `past` meets its contract: what stands at the place begins with the bytes, or not. Assumes nothing.
use mathlib.Core.Path.{sym, ap, ◌∙◌}
use mathlib.Core.Bool.{false≢true}
use borrow.Author.Rules.{rules}
use lib.ListN.{length, drop}
use lib.Seq.{drop-drop}
use Rattle.std.proofs.lemmas.Slice.Eq.{starts_is}
use Rattle.std.proofs.lemmas.Bool.Decides.{Decides-eqb}
use Rattle.text_field.specs.Outcome.{done}
use Rattle.told.specs.Steps.{place_meaning}
use Rattle.told.proofs.FixedBytes.{begins, begins_not, looked_at}
use Rattle.told.proofs.places.past.Goals as goal

pub returns-then-not-starts_with : goal.returns-then-not-starts_with
unfolding place_meaning
returns-then-not-starts_with c =
    let here = looked_at c.args.s.now c.args.at c.min.result (search rules)
    in let told = (starts_is Decides-eqb _ c.args.bytes.now _ c.starts_with.ensures.value).1
    in record { answer = begins_not c.args.bytes.now (drop c.args.at c.args.s.now) (λ rest e. false≢true (sym c.if-not-starts_with.true ∙ told rest (here ∙ e))) }

pub returns : goal.returns
unfolding place_meaning
returns c =
    let here = looked_at c.args.s.now c.args.at c.min.result (search rules)
    in let told = (starts_is Decides-eqb _ c.args.bytes.now _ c.starts_with.ensures.value).0 c.if-not-starts_with.false
    in record { answer = ap done (sym (drop-drop (length c.args.bytes.now) c.args.at c.args.s.now)) ∙ begins c.args.bytes.now (drop c.args.at c.args.s.now) (rw here at told) }
