-- `agreed` meets its contract: the place of the first difference, or the length of the shorter one.
-- Assumes nothing.
use mathlib.Core.Path.{◌≡◌, ◌∙◌}
use borrow.Author.Tests.{tests}
use Rattle.std.proofs.Common.{rules}
use Rattle.std.proofs.lemmas.Iterator.{IsFirst-from_position, YieldsList-from_slice, YieldsList-from_zip}
use Rattle.path_row.specs.declared.form.Step.{Step}
use Rattle.comparison.proofs.AgreeLaws.{first_difference}
use Rattle.comparison.proofs.agree.agreed.Goals as goal

pub returns : goal.returns
returns c =
    let first = IsFirst-from_position c.position.new.self _ _ (λ (p : Step × Step). p.0 ≡ p.1 → ⊥) (λ (p : Step × Step). p.0 ≡ p.1) c.position.ensures.ran (YieldsList-from_zip {s = c.zip-pairs.result} (YieldsList-from_slice c.args.a.now cc) (YieldsList-from_slice c.args.b.now cc)) (λ x q k. search (rules, tests)) (λ x q k. search (rules, tests)) in
    record { answer = c.unwrap_or.ensures ∙ rw c.min.ensures (first_difference c.args.a.now c.args.b.now _ first) }
