use mathlib.Core.Path.{◌≡◌}
use lib.ListN.{length, drop}
use Rattle.text_field.specs.Buffer.{puts}
use Rattle.text_field.proofs.put_bytes.Given as goal

abbrev pub invariant-loop-x : goal.invariant-loop-x
invariant-loop-x l = (length l.out ≡ length l.initial.out) × (puts (l.out, l.k) (drop l.x-index l.s) ≡ puts (l.initial.out, l.initial.k) l.s)
