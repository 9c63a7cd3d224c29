-- The room that is lent for a renumbered file and its list serves every one of them. Assumes nothing.
use Prim.Native.Nat.{ℕ, ◌≤◌, ◌<◌}
use mathlib.Core.Path.{◌≡◌, refl, sym, ap, ◌∙◌}
use mathlib.Core.Logic.{◌⊎◌, ⊎_elim}
use mathlib.Core.Bool.{Bool, true, false, ◌||◌}
use mathlib.Core.List.{List}
use native.Mathlib.Omega.{arith}
use lib.Dec.{ltb}
use lib.ListN.{length}
use Rattle.text_field.specs.Outcome.{Outcome, refused, done, and_then, refuse_if}
use Rattle.graph_rows.specs.Format.{text_bytes}
use Rattle.graph_file.specs.File.{read_cells}
use Rattle.renumbering.specs.Renumbering.{Renumbering, renumber_of, room_for}
use Rattle.renumbering.proofs.Promises.{promises}

module _ (text : List ℕ) (out lines : ℕ) (long : text_bytes ≤ out) (many : 196 ≤ lines) where
  not_short : (out < text_bytes) ⊎ (lines < 196) → ⊥
  not_short short = ⊎_elim (λ (h : out < text_bytes). omega (arith, h, long)) (λ (h : lines < 196). omega (arith, h, many)) short

  read_fits : (cells : List ℕ) → read_cells text ≡ done cells → (r : Renumbering) → renumber_of text ≡ done r → room_for out lines (renumber_of text) ≡ renumber_of text
  unfolding room_for and_then refuse_if
  read_fits cells read r e = ap (room_for out lines) e ∙ by (ltb out (length r.file) || ltb lines (length r.list)) refl ∙ sym e
    where
      by : (b : Bool) → (ltb out (length r.file) || ltb lines (length r.list)) ≡ b → refuse_if b 9 (done r) ≡ done r
      by true t =
          absurd (not_short (promises.refusals.renumbering text cells read out lines 9 (ap (room_for out lines) e ∙ ap (λ (b : Bool). refuse_if b 9 (done r)) t)).1)
      by false t = refl

  pub room_enough : room_for out lines (renumber_of text) ≡ renumber_of text
  unfolding room_for and_then
  room_enough = by (read_cells text) refl
    where
      by : (o : Outcome (List ℕ)) → read_cells text ≡ o → room_for out lines (renumber_of text) ≡ renumber_of text
      by (refused n) read = let e = (promises.refusals.reading text n read).0 in ap (room_for out lines) e ∙ sym e
      by (done cells) read = let r = promises.renumbered text cells read in read_fits cells read r.0 r.1
