-- The promises of a file in the other form. Assumes nothing.
use Prim.Native.Nat.{ℕ, zero, suc, ◌<◌}
use mathlib.Core.Path.{◌≡◌, refl, sym, ap, subst, ◌∙◌}
use mathlib.Core.Logic.{◌⊎◌, inl, inr, ⊎_elim, ◌↔◌}
use mathlib.Core.Bool.{true, false}
use mathlib.Core.List.{List}
use native.Mathlib.Omega.{arith}
use Rattle.scope_graph.proofs.Lists.{Two, true_false}
use Rattle.text_field.specs.Outcome.{Outcome, refused, done, and_then, refuse_if}
use Rattle.text_field.specs.Answer.{answer}
use Rattle.text_field.proofs.OutcomeLaws.{not_done, went, passed}
use Rattle.text_field.proofs.AnswerLaws.{answer_refused}
use Rattle.graph_rows.specs.Format.{old_form, kind_form, turn_form, has_kinds, text_bytes}
use Rattle.graph_file.specs.File.{form_of, read_cells, write_text}
use Rattle.graph_rows.specs.Tested.{form_in}
use Rattle.graph_rows.specs.Decode.{rows_in}
use Rattle.graph_rows.specs.Formed.{FormedTable, FormsOf, other_kinds, other_turns, in_form}
use Rattle.graph_rows.proofs.DecodeOrder.{or_false}
use Rattle.graph_file.proofs.InverseFile.{read_then_written, written_then_read, form_read, form_written}
use Rattle.graph_file.proofs.Promises.{formed_written, read_formed, nothing_but_nine}
use Rattle.graph_rows.proofs.FormedForms.{form_changed}
use Rattle.graph_table.specs.declared.sections.Form.{Form}
use Rattle.graph_table.specs.declared.sections.Form.TheVariants.{Old, Kinds}
use Rattle.graph_table.specs.Sections.{form_number}
use Rattle.conversion.specs.Conversion.{unshown, text_in, text_of, old_of, new_of}
use Rattle.conversion.specs.Rows.{unfit}
use Rattle.conversion.specs.Promises.{FileIn, Already, InForm, OldNewOld, NewOldNew, TurnsDropped, SameListings, SameSeen, Unshown, Refusals}
use Rattle.conversion.proofs.Laws.{wanted, in_form_lem}
use Rattle.conversion.proofs.Seen.{same_listings}
use Rattle.conversion.proofs.UnshownLaws.{unshown_found, unshown_told}

-- of a text that is read, in a form
module _ (form : Form) (text cells : List ℕ) (read : read_cells text ≡ done cells) where
  of_read : text_of form text ≡ text_in form cells
  unfolding text_of and_then
  of_read = rw read

  -- what fits the form is written
  of_fit : unfit form cells ≡ false → text_of form text ≡ write_text (wanted form cells)
  unfolding refuse_if
  of_fit fit = of_read ∙ in_form_lem form cells ∙ rw fit

  of_unfit : unfit form cells ≡ true → text_of form text ≡ refused 14
  unfolding refuse_if
  of_unfit fit = of_read ∙ in_form_lem form cells ∙ rw fit

  -- what came out fitted and was written, so it is read as the table in that form
  module _ (other : List ℕ) (made : text_of form text ≡ done other) where
    made_passed : (unfit form cells ≡ false) × (write_text (wanted form cells) ≡ done other)
    made_passed = passed (unfit form cells) 14 _ other (sym (in_form_lem form cells) ∙ sym of_read ∙ made)

    made_read : read_cells other ≡ done (wanted form cells)
    made_read = written_then_read (wanted form cells) other made_passed.1

    made_form : form_of other ≡ form_number form (form_of text)
    unfolding in_form form_in
    made_form = form_written (wanted form cells) other made_passed.1 ∙ ap (form_number form) (form_read text cells read)

-- a table in its own form
form_in_lem : (form : ℕ) (text : List ℕ) (f : FileIn form text) → form_in f.cells ≡ form
form_in_lem form text f = form_read text f.cells f.read ∙ f.form_is

forms : (form : ℕ) (text : List ℕ) (f : FileIn form text) → FormsOf f.cells
forms form text f = form_changed f.cells (read_formed text f.cells f.read)

own : (form : ℕ) (text : List ℕ) (f : FileIn form text) → in_form form f.cells ≡ f.cells
own form text f = ap (λ (n : ℕ). in_form n f.cells) (sym (form_in_lem form text f)) ∙ (forms form text f).own

-- the old form shows all that a file of it has
none_unshown : (cells : List ℕ) → (other_kinds cells ≡ false) × (other_turns cells ≡ false) → unshown cells ≡ false
unfolding unshown
none_unshown cells h = rw (h.0, h.1)

both_shown : (cells : List ℕ) → unshown cells ≡ false → (other_kinds cells ≡ false) × (other_turns cells ≡ false)
unfolding unshown
both_shown cells h = or_false (other_kinds cells) (other_turns cells) h

own_fit : (form : Form) (n m : ℕ) (text : List ℕ) → form_number form m ≡ n → (f : FileIn n text) → unfit form f.cells ≡ false
unfolding unfit form_number
own_fit Old n m text e f =
    none_unshown f.cells
    ((forms n text f).old.0 (subst FormedTable (sym (ap (λ (k : ℕ). in_form k f.cells) e ∙ own n text f)) (read_formed text f.cells f.read)))
own_fit Kinds n m text e f = refl

-- the form changed twice
fit_stays : (form : Form) (n : ℕ) (cells : List ℕ) → unfit form (in_form n cells) ≡ unfit form cells
unfolding unfit unshown other_kinds other_turns rows_in in_form
fit_stays Old n cells = refl
fit_stays Kinds n cells = refl

in_form_twice : (form : Form) (n : ℕ) (cells : List ℕ) → wanted form (in_form n cells) ≡ in_form (form_number form n) cells
unfolding in_form form_in
in_form_twice form n cells = refl

-- a file that has the wanted form's number comes out as it is
same : (form : Form) (n : ℕ) (text : List ℕ) → form_number form n ≡ n → FileIn n text → text_of form text ≡ done text
same form n text e f =
    of_fit form text f.cells f.read (own_fit form n n text e f)
    ∙ ap (λ (k : ℕ). write_text (in_form (form_number form k) f.cells)) (form_in_lem n text f)
    ∙ ap (λ (k : ℕ). write_text (in_form k f.cells)) e
    ∙ ap write_text (own n text f)
    ∙ read_then_written text f.cells f.read

-- a file taken through another form: the number is changed twice
module _ (form through : Form) (n : ℕ) (text other : List ℕ) (f : FileIn n text) (made : text_of through text ≡ done other) where
  through_then : unfit form f.cells ≡ false → text_of form other ≡ write_text (in_form (form_number form (form_number through n)) f.cells)
  through_then fit =
      let m = form_number through (form_in f.cells) in
      of_fit form other (in_form m f.cells) (made_read through text f.cells f.read other made) (fit_stays form m f.cells ∙ fit)
      ∙ ap write_text (in_form_twice form m f.cells)
      ∙ ap (λ (k : ℕ). write_text (in_form (form_number form (form_number through k)) f.cells)) (form_in_lem n text f)

  -- back in its own form it is as it was
  back : form_number form (form_number through n) ≡ n → text_of form other ≡ done text
  back e =
      through_then (own_fit form n (form_number through n) text e f)
      ∙ ap (λ (k : ℕ). write_text (in_form k f.cells)) e
      ∙ ap write_text (own n text f)
      ∙ read_then_written text f.cells f.read

out : (form : Form) (text other : List ℕ) → text_of form text ≡ done other → FileIn (form_number form (form_of text)) other
unfolding text_of
out form text other made =
    let w = went (read_cells text) (text_in form) other made in
    record {
      cells = wanted form w.gained;
      read = made_read form text w.gained w.before other made;
      form_is = made_form form text w.gained w.before other made;
    }

seen : (form : Form) (text other cells : List ℕ) → read_cells text ≡ done cells → text_of form text ≡ done other
    → (after : List ℕ) × (read_cells other ≡ done after) × SameListings cells after
seen form text other cells read made = (wanted form cells, made_read form text cells read other made, same_listings (form_number form (form_in cells)) cells)

pub already : Already
unfolding old_of new_of form_number has_kinds
already = record {
  old = λ text. same Old old_form text refl;
  new = λ text. same Kinds kind_form text refl;
  turned = λ text. same Kinds turn_form text refl;
}

shows_kinds : (n : ℕ) → has_kinds (form_number Kinds n) ≡ true
unfolding form_number has_kinds
shows_kinds zero = refl
shows_kinds (suc zero) = refl
shows_kinds (suc (suc zero)) = refl
shows_kinds (suc (suc (suc n))) = refl

pub in_wanted_form : InForm
unfolding old_of new_of form_number
in_wanted_form = record {
  old = out Old;
  new = out Kinds;
  shown = λ text other made. ap has_kinds (out Kinds text other made).form_is ∙ shows_kinds (form_of text);
}

-- a formed table is formed in the form with kinds that it gets
pub kinds_formed : (cells : List ℕ) → FormedTable cells → FormedTable (wanted Kinds cells)
unfolding form_number has_kinds
kinds_formed cells t = by (form_in cells) refl
  where
    f : FormsOf cells
    f = form_changed cells t

    itself : (n : ℕ) → form_in cells ≡ n → FormedTable (in_form n cells)
    itself n e = subst FormedTable (sym (ap (λ (k : ℕ). in_form k cells) (sym e) ∙ f.own)) t

    by : (n : ℕ) → form_in cells ≡ n → FormedTable (in_form (form_number Kinds n) cells)
    by zero e = f.kinded.1 (f.old.0 (itself zero e)).1
    by (suc zero) e = itself 1 e
    by (suc (suc zero)) e = itself 2 e
    by (suc (suc (suc n))) e = let known = t.rows.known in absurd (omega arith)

-- it is always there
new_made : (text cells : List ℕ) → read_cells text ≡ done cells → (other : List ℕ) × (new_of text ≡ done other)
unfolding new_of unfit
new_made text cells read =
    let w = formed_written (wanted Kinds cells) (kinds_formed cells (read_formed text cells read)) in
    (w.0, of_fit Kinds text cells read refl ∙ w.1)

pub old_new_old : OldNewOld
unfolding old_of new_of form_number
old_new_old text f = let n = new_made text f.cells f.read in (n.0, n.1, back Old Kinds old_form text n.0 f n.1 refl)

pub new_old_new : NewOldNew
unfolding old_of new_of form_number has_kinds
new_old_new text other f made = back Kinds Old kind_form text other f made refl

pub turns_dropped : TurnsDropped
unfolding old_of new_of unfit form_number has_kinds
turns_dropped text other f made =
    let shown = both_shown f.cells (made_passed Old text f.cells f.read other made).0 in
    let w = formed_written (in_form kind_form f.cells) ((forms turn_form text f).kinded.1 shown.1) in
    (w.0, through_then Kinds Old turn_form text other f made refl ∙ w.1, w.2)

pub same_seen : SameSeen
unfolding old_of new_of
same_seen text other cells read (inl made) = seen Old text other cells read made
same_seen text other cells read (inr made) = seen Kinds text other cells read made

-- refusals
number : (m n : ℕ) → ◌≡◌ {A = Outcome ℕ} (refused m) (refused n) → m ≡ n
number m n e = cc

refused_reading : (form : Form) (text : List ℕ) (n : ℕ) → read_cells text ≡ refused n → text_of form text ≡ refused n
unfolding text_of and_then
refused_reading form text n e = rw e

-- what fits is written, so it is refused by nothing but 9
module _ (form : Form) (text cells : List ℕ) (read : read_cells text ≡ done cells) (fit : unfit form cells ≡ false) (formed : FormedTable (wanted form cells)) where
  fit_nine : (room n : ℕ) → answer (text_of form text) room ≡ refused n → (n ≡ 9) × (room < text_bytes)
  fit_nine room n e =
      nothing_but_nine (wanted form cells) formed room n (ap (λ (o : Outcome (List ℕ)). answer o room) (sym (of_fit form text cells read fit)) ∙ e)

  fit_done : (n : ℕ) → text_of form text ≡ refused n → ⊥
  fit_done n e = let w = formed_written (wanted form cells) formed in not_done n w.0 (sym e ∙ of_fit form text cells read fit ∙ w.1)

module _ (text cells : List ℕ) (read : read_cells text ≡ done cells) where
  abbrev made : FormedTable cells
  made = read_formed text cells read

  -- what the old form can show is formed in it
  old_formed : unshown cells ≡ false → FormedTable (in_form old_form cells)
  old_formed plain = (form_changed cells made).old.1 (both_shown cells plain)

  new_nine : (room n : ℕ) → answer (new_of text) room ≡ refused n → (n ≡ 9) × (room < text_bytes)
  unfolding new_of unfit
  new_nine = fit_nine Kinds text cells read refl (kinds_formed cells made)

  old_refusals : (room n : ℕ) → answer (old_of text) room ≡ refused n → ((n ≡ 14) × Unshown cells) ⊎ ((n ≡ 9) × (room < text_bytes) × ¬ Unshown cells)
  unfolding old_of unfit form_number
  old_refusals room n e =
      ⊎_elim (λ (other : unshown cells ≡ true).
      inl (number n 14 (sym e ∙ sym (answer_refused (old_of text) 14 room (of_unfit Old text cells read other))), unshown_found cells other))
      (λ (plain : unshown cells ≡ false).
      let nine = fit_nine Old text cells read plain (old_formed plain) room n e in
      inr (nine.0, nine.1, λ k. true_false (unshown_told cells k) plain))
      (Two (unshown cells))

  fourteen_is : (old_of text ≡ refused 14) ↔ Unshown cells
  unfolding old_of unfit form_number
  fourteen_is = (
    (λ e.
        ⊎_elim (λ (other : unshown cells ≡ true). unshown_found cells other)
        (λ (plain : unshown cells ≡ false). absurd (fit_done Old text cells read plain (old_formed plain) 14 e))
        (Two (unshown cells))),
    (λ k. of_unfit Old text cells read (unshown_told cells k)),
  )

pub refusals : Refusals
unfolding old_of new_of
refusals = record {
  reading = λ text n e. (refused_reading Old text n e, refused_reading Kinds text n e);
  new = new_nine;
  old = old_refusals;
  fourteen = fourteen_is;
}
