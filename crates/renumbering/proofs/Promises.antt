-- The promises of specs/Promises. Assumes nothing.
use Prim.Native.Nat.{ℕ, ◌<◌}
use mathlib.Core.Path.{◌≡◌, refl, sym, ap, ◌∙◌, subst}
use mathlib.Core.Bool.{Bool, true, false, ◌||◌}
use mathlib.Core.Logic.{◌⊎◌, inl, inr, ⊎_elim, ◌↔◌}
use mathlib.Core.List.{List}
use native.Mathlib.Omega.{arith}
use lib.Dec.{ltb}
use lib.ListN.{length}
use borrow.Author.Tests.{lt-ltb, ltb-true}
use Rattle.text_field.specs.Outcome.{Outcome, refused, done, and_then, refuse_if}
use Rattle.text_field.specs.Answer.{answer}
use Rattle.text_field.proofs.AnswerLaws.{answer_refused}
use Rattle.text_field.proofs.OutcomeLaws.{done_same, not_done, Went, went}
use Rattle.scope_graph.proofs.Lists.{or_cases, or_left, or_right}
use Rattle.graph_rows.specs.Format.{text_bytes}
use Rattle.graph_rows.specs.Decode.{scopes_of}
use Rattle.graph_rows.specs.Formed.{FormedTable}
use Rattle.graph_file.specs.File.{read_cells, write_text}
use Rattle.graph_file.proofs.InverseFile.{read_then_written, written_short}
use Rattle.graph_file.proofs.Promises.{read_formed, nothing_but_nine}
use Rattle.renumbered.specs.Renumbered.{renumbered_by, EachOnce, back_of}
use Rattle.renumbered.proofs.Promises.{way_back_given, formed_given, graph_given}
use Rattle.was.specs.Order.{was_list}
use Rattle.was.specs.WasText.{was_text, read_was}
use Rattle.was.specs.Promises.{HoldsEach}
use Rattle.was.proofs.Taken.{reads_right}
use Rattle.was.proofs.Promises.{lists_right}
use Rattle.renumbering.specs.Renumbering.{Renumbering, renumber_text, renumber_of, room_for, back_text, back_for}
use Rattle.renumbering.specs.Promises.{Renumbered, ThereAndBack, SameSeen, StillSeen, AnyList, Refusals, Promises}
use Rattle.renumbering.proofs.Tables.{each_once, scopes_most, written}

-- a table that sees the same
same_seen : (was cells : List ℕ) → FormedTable cells → EachOnce (scopes_of cells) was → SameSeen was cells (renumbered_by was cells)
same_seen was cells t o =
    let g = graph_given was cells t o in
    record { stays = formed_given was cells t o; queries = g.queries; seen = g.seen; awaits_none = g.awaits_none }

-- a text that was read
module _ (text cells : List ℕ) (read : read_cells text ≡ done cells) where
  formed : FormedTable cells
  formed = read_formed text cells read

  once : EachOnce (scopes_of cells) (was_list cells)
  once = each_once (scopes_of cells) (was_list cells) (lists_right cells (text, read)).each

  abbrev file : List ℕ
  file = (written cells (text, read) (was_list cells) once).0

  abbrev made : Renumbering
  made = record { file = file; list = was_text (was_list cells) }

  made_is : renumber_of text ≡ done made
  unfolding renumber_of renumber_text and_then
  made_is = rw (read, (written cells (text, read) (was_list cells) once).1)

  file_read : read_cells file ≡ done (renumbered_by (was_list cells) cells)
  file_read = (written cells (text, read) (was_list cells) once).2

  -- the way back, by any list
  module _ (list : List ℕ) (holds : HoldsEach (scopes_of cells) list) where
    list_read_lem : read_was (scopes_of cells) (was_text list) ≡ done list
    list_read_lem = ((reads_right (scopes_of cells) (was_text list) (scopes_most cells (text, read))).exactly list).1 (refl, holds)

    back_is : back_for text (was_text list) ≡ write_text (renumbered_by (back_of list) cells)
    unfolding back_for back_text and_then
    back_is = rw (read, list_read_lem)

    back_once : EachOnce (scopes_of cells) (back_of list)
    back_once = (way_back_given list cells formed (each_once (scopes_of cells) list holds)).once

    any_list_at : (file after : List ℕ) × (back_for text (was_text list) ≡ done file) × (read_cells file ≡ done after) × SameSeen (back_of list) cells after
    any_list_at =
        let w = written cells (text, read) (back_of list) back_once in
        (w.0, renumbered_by (back_of list) cells, back_is ∙ w.1, w.2, same_seen (back_of list) cells formed back_once)

pub renumbered : Renumbered
renumbered text cells read = (made text cells read, made_is text cells read, refl, lists_right cells (text, read))

-- what a renumbering came from
module _ (text : List ℕ) (r : Renumbering) (e : renumber_of text ≡ done r) where
  came : Went (read_cells text) renumber_text r
  unfolding renumber_of
  came = went (read_cells text) renumber_text r e

  abbrev cells : List ℕ
  cells = came.gained

  is_made : made text cells came.before ≡ r
  is_made = done_same (made text cells came.before) r (sym (made_is text cells came.before) ∙ e)

  there : back_for (file text cells came.before) (was_text (was_list cells)) ≡ done text
  there =
      let read = came.before in
      let new = renumbered_by (was_list cells) cells in
      let still = formed_given (was_list cells) cells (formed text cells read) (once text cells read) in
      let way = way_back_given (was_list cells) cells (formed text cells read) (once text cells read) in
      let holds : HoldsEach (scopes_of new) (was_list cells) =
      subst (λ (n : ℕ). HoldsEach n (was_list cells)) (sym still.scopes) (lists_right cells (text, read)).each in
      back_is (file text cells read) new (file_read text cells read) (was_list cells) holds
      ∙ ap write_text way.back ∙ read_then_written text cells read

  pub back_again : back_for r.file r.list ≡ done text
  back_again = ap (λ (z : Renumbering). back_for z.file z.list) (sym is_made) ∙ there

pub there_and_back : ThereAndBack
there_and_back text r e = back_again text r e

pub still_seen : StillSeen
still_seen text cells r read e =
    let same : made text cells read ≡ r = done_same (made text cells read) r (sym (made_is text cells read) ∙ e) in (
      renumbered_by (was_list cells) cells,
      subst (λ (z : Renumbering). read_cells z.file ≡ done (renumbered_by (was_list cells) cells)) same (file_read text cells read),
      same_seen (was_list cells) cells (formed text cells read) (once text cells read),
    )

pub any_list : AnyList
any_list text cells list read holds = any_list_at text cells read list holds

-- refusals
refused_reading : (text : List ℕ) (n : ℕ) → read_cells text ≡ refused n → (renumber_of text ≡ refused n) × ((was : List ℕ) → back_for text was ≡ refused n)
unfolding renumber_of back_for and_then
refused_reading text n e = (rw e, λ was. rw e)

number : {A : Type 0} (m n : ℕ) → ◌≡◌ {A = Outcome A} (refused m) (refused n) → m ≡ n
number m n e = cc

module _ (text : List ℕ) (r : Renumbering) (e : renumber_of text ≡ done r) (out lines : ℕ) where
  abbrev test : Bool
  test = ltb out (length r.file) || ltb lines (length r.list)

  room_is : room_for out lines (renumber_of text) ≡ refuse_if test 9 (done r)
  unfolding room_for and_then
  room_is = rw e

  refusal_by : (t : Bool) (n : ℕ) → refuse_if t 9 (done r) ≡ refused n → (t ≡ true) × (n ≡ 9)
  unfolding refuse_if
  refusal_by true n f = (refl, number n 9 (sym f))
  refusal_by false n f = absurd (not_done n r (sym f))

  too_short : test ≡ true → (out < length r.file) ⊎ (lines < length r.list)
  too_short t =
      ⊎_elim (λ a. inl (ltb-true out (length r.file) a)) (λ a. inr (ltb-true lines (length r.list) a))
      (or_cases (ltb out (length r.file)) (ltb lines (length r.list)) t)

  tested : (out < length r.file) ⊎ (lines < length r.list) → test ≡ true
  tested (inl h) = or_left (ltb out (length r.file)) (ltb lines (length r.list)) (lt-ltb out (length r.file) h)
  tested (inr h) = or_right (ltb out (length r.file)) (ltb lines (length r.list)) (lt-ltb lines (length r.list) h)

  by_test : test ≡ true → room_for out lines (renumber_of text) ≡ refused 9
  unfolding refuse_if
  by_test t = room_is ∙ rw t

  pub nine_is : (room_for out lines (renumber_of text) ≡ refused 9) ↔ ((out < length r.file) ⊎ (lines < length r.list))
  nine_is = ((λ f. too_short (refusal_by test 9 (sym room_is ∙ f)).0), λ h. by_test (tested h))

-- both are short enough for the longest file's length and for 196 bytes
renumber_nine : (text cells : List ℕ) → read_cells text ≡ done cells → (out lines n : ℕ) → room_for out lines (renumber_of text) ≡ refused n
    → (n ≡ 9) × ((out < text_bytes) ⊎ (lines < 196))
renumber_nine text cells read out lines n f =
    let r = made text cells read in
    let p = refusal_by text r (made_is text cells read) out lines (test text r (made_is text cells read) out lines) n (sym (room_is text r (made_is text cells read) out lines) ∙ f) in
    let long = written_short (renumbered_by (was_list cells) cells) (file text cells read) (written cells (text, read) (was_list cells) (once text cells read)).1 in
    let lines_long = (lists_right cells (text, read)).text_short in
    (p.1, ⊎_elim (λ h. inl (omega arith)) (λ h. inr (omega arith)) (too_short text r (made_is text cells read) out lines p.0))

-- the way back: by what the list's text is read as
module _ (text cells was : List ℕ) (read : read_cells text ≡ done cells) where
  abbrev IsList : Type 0
  IsList = (list : List ℕ) × (was ≡ was_text list) × HoldsEach (scopes_of cells) list

  read_list : (list : List ℕ) → read_was (scopes_of cells) was ≡ done list → IsList
  read_list list e = let x = ((reads_right (scopes_of cells) was (scopes_most cells (text, read))).exactly list).0 e in (list, x.0, x.1)

  no_list_lem : (k : ℕ) → read_was (scopes_of cells) was ≡ refused k → back_for text was ≡ refused 17
  unfolding back_for back_text and_then
  no_list_lem k e = rw (read, e) (ap refused ((reads_right (scopes_of cells) was (scopes_most cells (text, read))).refusal k e))

  is_list : (l : IsList) → (file after : List ℕ) × (back_for text was ≡ done file) × (read_cells file ≡ done after) × SameSeen (back_of l.0) cells after
  is_list l =
      let a = any_list_at text cells read l.0 l.2 in
      (a.0, a.1, ap (back_for text) l.1 ∙ a.2, a.3, a.4)

  by_outcome : (o : Outcome (List ℕ)) → read_was (scopes_of cells) was ≡ o → (back_for text was ≡ refused 17) ⊎ IsList
  by_outcome (refused k) e = inl (no_list_lem k e)
  by_outcome (done list) e = inr (read_list list e)

  either : (back_for text was ≡ refused 17) ⊎ IsList
  either = by_outcome (read_was (scopes_of cells) was) refl

  pub seventeen_is : (back_for text was ≡ refused 17) ↔ ¬ IsList
  seventeen_is = (
    (λ e l. not_done 17 (is_list l).0 (sym e ∙ (is_list l).2)),
    (λ none. ⊎_elim (λ e. e) (λ l. absurd (none l)) either),
  )

  back_nine : (l : IsList) (room n : ℕ) → answer (back_for text was) room ≡ refused n → (n ≡ 9) × (room < text_bytes)
  back_nine l room n e =
      let whole : back_for text was ≡ write_text (renumbered_by (back_of l.0) cells) = ap (back_for text) l.1 ∙ back_is text cells read l.0 l.2 in
      nothing_but_nine (renumbered_by (back_of l.0) cells)
      (formed_given (back_of l.0) cells (formed text cells read) (back_once text cells read l.0 l.2)).formed
      room n (ap (λ (o : Outcome (List ℕ)). answer o room) (sym whole) ∙ e)

  pub back_refusals : (room n : ℕ) → answer (back_for text was) room ≡ refused n → (n ≡ 17) ⊎ ((n ≡ 9) × (room < text_bytes))
  back_refusals room n e =
      ⊎_elim (λ f. inl (number n 17 (sym e ∙ sym (answer_refused (back_for text was) 17 room f)))) (λ l. inr (back_nine l room n e)) either

pub refusals : Refusals
refusals = record {
  reading = refused_reading;
  renumbering = renumber_nine;
  nine = nine_is;
  seventeen = seventeen_is;
  back = back_refusals;
}

pub promises : Promises
promises = record {
  renumbered = renumbered;
  there_and_back = there_and_back;
  still_seen = still_seen;
  any_list = any_list;
  refusals = refusals;
}
