use mathlib.Core.Path.{◌≡◌, ap, ◌∙◌}
use Prim.Native.Nat.{min}
use native.Mathlib.Omega.{arith}
use lib.ListN.{length, drop}
use Rattle.std.proofs.lemmas.List.{drop_min}
use Rattle.std.proofs.lemmas.Slice.{between_to_end}
use Rattle.text_field.specs.Name.{packed, pack_high, pack_low}
use Rattle.text_field.proofs.pack_low.Goals as goal

pub returns : goal.returns
unfolding pack_high pack_low
returns c =
    let name = c.args.name.now
    in let e : c.min.result ≡ min 8 (length name) = omega (arith, c.min.ensures)
    in record { answer = c.pack_high.ensures.answer ∙ ap (packed 8) (between_to_end name c.min.result (length name) (omega arith) ∙ ap (λ z. drop z name) e ∙ drop_min 8 name) }
