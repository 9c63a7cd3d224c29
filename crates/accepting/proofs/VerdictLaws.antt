-- The verdict for a table and for a text. Assumes nothing.
use Prim.Native.Nat.{ℕ}
use mathlib.Core.Path.{◌≡◌, refl, sym, ap}
use mathlib.Core.Bool.{false}
use mathlib.Core.List.{List}
use Rattle.text_field.specs.Outcome.{Outcome, refused, done, and_then}
use Rattle.text_field.proofs.ByteLaws.{clash}
use Rattle.graph_file.specs.File.{read_cells}
use Rattle.told.specs.Delivered.{Delivered}
use Rattle.told.specs.Apart.{told_of}
use Rattle.told.specs.Steps.{is_done}
use Rattle.told.proofs.Promises.{no_printing}
use Rattle.accepting.specs.Verdict.{accept_of, accept_for}

pub not_printed : (cells lists : List ℕ) → is_done (told_of cells lists) ≡ false → refused 10 ≡ accept_of cells lists
unfolding accept_of and_then is_done
not_printed cells lists e = by (told_of cells lists) refl e
  where
    by : (o : Outcome (List Delivered)) → told_of cells lists ≡ o → is_done o ≡ false → refused 10 ≡ accept_of cells lists
    by (refused n) f g = sym (rw f (ap refused ((no_printing cells lists n).0 f).0))
    by (done ds) f g = absurd (clash refl g)

module _ (text lists : List ℕ) where
  pub text_refused : (n : ℕ) → read_cells text ≡ refused n → refused n ≡ accept_for text lists
  unfolding accept_for and_then
  text_refused n e = sym (rw e)

  pub text_read : (cells : List ℕ) → read_cells text ≡ done cells → accept_for text lists ≡ accept_of cells lists
  unfolding accept_for and_then
  text_read cells e = rw e
