use mathlib.Core.Path.{◌≡◌}
use Prim.Native.Nat.{◌<◌}
use lib.ListN.{length}
use Rattle.text_field.specs.Name.{name_text}
use Rattle.text_field.specs.Buffer.{puts}
use Rattle.text_field.proofs.put_name.Given as goal

abbrev pub invariant-loop-h : goal.invariant-loop-h
invariant-loop-h l = (length l.out ≡ length l.initial.out) × (puts (l.out, l.k) (name_text l.h l.l) ≡ puts (l.initial.out, l.initial.k) (name_text l.initial.h l.initial.l)) × (l.l < 18446744073709551616)

abbrev pub decreases-loop-h : goal.decreases-loop-h
decreases-loop-h l = length (name_text l.h l.l)
