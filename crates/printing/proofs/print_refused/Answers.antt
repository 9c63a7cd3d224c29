-- `printing::print_refused` hands over the whole line, where it is due: it fits 32 bytes, whatever
-- the number. Assumes nothing.
use Prim.Native.Nat.{ℕ}
use mathlib.Core.Path.{◌≡◌, ap, ◌∙◌}
use mathlib.Core.List.{List}
use native.Mathlib.Omega.{arith}
use lib.ListN.{length-replicate}
use Rattle.text_field.specs.Refusal.{number_of}
use Rattle.text_field.proofs.RefusalLaws.{number_below}
use Rattle.text_field.specs.Buffer.{Buf, puts}
use Rattle.printing.specs.Printed.{refused_line}
use Rattle.printing.proofs.Laws.{line_stands, stands_due}
use Rattle.printing.proofs.print_refused.Goals as goal

-- the line by the refusal's number
written_by : (out : List ℕ) {b : Buf} {n m : ℕ} → n ≡ m → b ≡ puts (out, 0) (refused_line n) → b ≡ puts (out, 0) (refused_line m)
written_by out e w = w ∙ ap (λ (k : ℕ). puts (out, 0) (refused_line k)) e

pub slice_bounds-out-end : goal.slice_bounds-out-end
slice_bounds-out-end c = (line_stands (number_of c.args.r) (let h = number_below c.args.r in omega arith) _ _ _ (length-replicate {A = ℕ} 32 0) (written_by _ c.number.ensures.answer c.put_refused-k.ensures.written)).within

pub slice_bounds-emit-end : goal.slice_bounds-emit-end
slice_bounds-emit-end c = (line_stands (number_of c.args.r) (let h = number_below c.args.r in omega arith) _ _ _ (length-replicate {A = ℕ} 32 0) (written_by _ c.number.ensures.answer c.put_refused-k.ensures.written)).taken

pub emit-requires : goal.emit-requires
emit-requires c = record { due = stands_due c.args.text.now c.args.sent _ _ _ (line_stands (number_of c.args.r) (let h = number_below c.args.r in omega arith) _ _ _ (length-replicate {A = ℕ} 32 0) (written_by _ c.number.ensures.answer c.put_refused-k.ensures.written)) c.requires.due }

pub returns : goal.returns
returns c = record { answer = let s = line_stands (number_of c.args.r) (let h = number_below c.args.r in omega arith) _ _ _ (length-replicate {A = ℕ} 32 0) (written_by _ c.number.ensures.answer c.put_refused-k.ensures.written) in omega arith }
