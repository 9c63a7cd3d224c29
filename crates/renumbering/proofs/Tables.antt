-- A table that was read, renumbered by a list of its scopes and written. Assumes nothing.
use Prim.Native.Nat.{ℕ, ◌≤◌, ◌<◌}
use mathlib.Core.Path.{◌≡◌, refl, sym, ap, ◌∙◌, subst}
use mathlib.Core.List.{List, ◌++◌}
use native.Mathlib.Omega.{arith}
use lib.ListN.{length, take, drop, replicate, length-append, length-replicate}
use lib.Seq.{take_at, length-take-le}
use Rattle.std.specs.declared.option.Option.{Option}
use Rattle.std.specs.declared.option.Option.TheVariants.{Some, None}
use Rattle.std.proofs.lemmas.Option.{same_Some}
use Rattle.text_field.specs.Buffer.{Buf, puts}
use Rattle.text_field.specs.Outcome.{Outcome, refused, done, and_then}
use Rattle.text_field.specs.Answer.{answer, leaves}
use Rattle.text_field.proofs.AnswerLaws.{answer_refused, leaves_refused}
use Rattle.graph_rows.specs.Format.{most_scopes, own_cells}
use Rattle.graph_rows.specs.Decode.{scopes_of}
use Rattle.graph_rows.specs.Formed.{FormedTable}
use Rattle.graph_file.specs.File.{read_cells, write_text, WasRead}
use Rattle.graph_file.proofs.Promises.{read_formed, formed_written}
use Rattle.board.proofs.Queries.{accepted}
use Rattle.renumbered.specs.Renumbered.{renumbered_by, EachOnce, back_of}
use Rattle.renumbered.specs.Promises.{StillFormed}
use Rattle.renumbered.proofs.Promises.{formed_given}
use Rattle.renumbered.proofs.BackList.{back_length, back_once}
use Rattle.was.specs.Order.{was_list}
use Rattle.was.specs.WasText.{was_text, read_was}
use Rattle.was.specs.Cells.{in_cells, list_read}
use Rattle.was.specs.Promises.{HoldsEach}
use Rattle.was.proofs.CellLaws.{front_size, front_take}
use Rattle.was.proofs.Breadth.{holds_size}
use Rattle.was.proofs.Taken.{reads_right}
use Rattle.was.proofs.Promises.{lists_right}
use Rattle.renumbering.specs.Renumbering.{Renumbering, renumber_text, back_text}
use Rattle.renumbering.proofs.Answers.{Told, told_as, told_list, told_file, told_both, own_count, own_take}

pub each_once : (n : ℕ) (l : List ℕ) → HoldsEach n l → EachOnce n l
each_once n l h = record { count = holds_size n l h; distinct = h.once; below = λ x m. (h.are x).0 m }

-- a list at the front of 64 cells
module _ (l cells : List ℕ) (n : ℕ) (count : length l ≡ n) (most : n ≤ most_scopes) (e : cells ≡ in_cells l) where
  pub front_is : take n cells ≡ l
  unfolding in_cells
  front_is = ap (take n) e ∙ ap (λ (k : ℕ). take k (in_cells l)) (sym count) ∙ front_take l (replicate most_scopes 0)

  pub front_within : n ≤ length cells
  unfolding in_cells
  front_within =
      let z : length {A = ℕ} (replicate most_scopes 0) ≡ most_scopes = length-replicate {A = ℕ} most_scopes 0 in
      let s = ap length e ∙ front_size l (replicate most_scopes 0) (omega arith) in
      omega arith

  pub front_count : n ≡ length (take n cells)
  front_count = sym (length-take-le n cells front_within)

module _ (cells : List ℕ) (was : WasRead cells) where
  pub formed : FormedTable cells
  formed = read_formed was.0 cells was.1

  pub cells_most : length cells ≤ own_cells
  cells_most = let m = (accepted cells was).size_most in omega arith

  pub scopes_most : scopes_of cells ≤ most_scopes
  scopes_most = (accepted cells was).scopes_most

  -- renumbered by a list
  module _ (list : List ℕ) (once : EachOnce (scopes_of cells) list) where
    still : StillFormed cells (renumbered_by list cells)
    still = formed_given list cells formed once

    pub written : (file : List ℕ) × (write_text (renumbered_by list cells) ≡ done file) × (read_cells file ≡ done (renumbered_by list cells))
    written = formed_written (renumbered_by list cells) still.formed

    -- over cells of one's own
    module _ (own after : List ℕ) (put : after ≡ renumbered_by list cells ++ drop (length cells) own) where
      pub over_taken : take (length cells) after ≡ renumbered_by list cells
      over_taken = ap (take (length cells)) put ∙ take_at (renumbered_by list cells) (drop (length cells) own) (length cells) still.size

      pub over_within : length cells ≤ length after
      over_within = let s = ap length put in let a = length-append (renumbered_by list cells) (drop (length cells) own) in let l = still.size in omega arith

      pub over_count : length cells ≡ length (take (length cells) after)
      over_count = sym (length-take-le (length cells) after over_within)

      pub over_written : (r : Outcome ℕ) (out left : List ℕ)
          → (r ≡ answer (write_text (take (length cells) after)) (length out)) × (left ≡ leaves (write_text (take (length cells) after)) out)
          → (r ≡ answer (write_text (renumbered_by list cells)) (length out)) × (left ≡ leaves (write_text (renumbered_by list cells)) out)
      over_written r out left e = (
        e.0 ∙ ap (λ (c : List ℕ). answer (write_text c) (length out)) over_taken,
        e.1 ∙ ap (λ (c : List ℕ). leaves (write_text c) out) over_taken,
      )

  -- the breadth-first list, as it was made
  module _ (r : List ℕ) (n : ℕ) (is : r ≡ in_cells (was_list cells)) (count : n ≡ scopes_of cells) where
    size : length (was_list cells) ≡ n
    size = (lists_right cells was).size ∙ sym count

    most : n ≤ most_scopes
    most = let m = scopes_most in omega arith

    pub list_taken : take n r ≡ was_list cells
    list_taken = front_is (was_list cells) r n size most is

    pub list_within : n ≤ length r
    list_within = front_within (was_list cells) r n size most is

    pub list_count : n ≡ length (take n r)
    list_count = front_count (was_list cells) r n size most is

    list_once : EachOnce (scopes_of cells) (was_list cells)
    list_once = each_once (scopes_of cells) (was_list cells) (lists_right cells was).each

    pub taken_once : EachOnce (scopes_of cells) (take n r)
    taken_once = subst (λ (l : List ℕ). EachOnce (scopes_of cells) l) (sym list_taken) list_once

    -- its text in memory of its own
    module _ (lines : List ℕ) (k : ℕ) (put : ◌≡◌ {A = Buf} (lines, k) (puts (replicate 256 0, 0) (was_text (take n r)))) where
      short : length (was_text (was_list cells)) ≤ 256
      short = let s = (lists_right cells was).text_short in omega arith

      pub lines_put : ◌≡◌ {A = Buf} (lines, k) (puts (replicate 256 0, 0) (was_text (was_list cells)))
      lines_put = put ∙ ap (λ (l : List ℕ). puts (replicate 256 0, 0) (was_text l)) list_taken

      pub lines_short : length (was_text (was_list cells)) ≤ 256
      lines_short = short

      abbrev file : List ℕ
      file = (written (was_list cells) list_once).0

      abbrev made : Renumbering
      made = record { file = file; list = was_text (was_list cells) }

      text_is : renumber_text cells ≡ done made
      unfolding renumber_text and_then
      text_is = rw (written (was_list cells) list_once).1

      pub both_list : (out list : List ℕ) → length list < k → Told (renumber_text cells) out list (refused 9) out list
      both_list out list h =
          let c = own_count (was_text (was_list cells)) lines k short lines_put in
          told_as (done made) (renumber_text cells) out list (refused 9) out list (sym text_is)
          (told_list file (was_text (was_list cells)) out list (omega arith))

      module _ (out list : List ℕ) (a : Outcome ℕ) (after : List ℕ)
          (done-by : (a ≡ answer (write_text (renumbered_by (take n r) cells)) (length out)) × (after ≡ leaves (write_text (renumbered_by (take n r) cells)) out)) where
        answered : a ≡ answer (write_text (renumbered_by (was_list cells) cells)) (length out)
        answered = done-by.0 ∙ ap (λ (l : List ℕ). answer (write_text (renumbered_by l cells)) (length out)) list_taken

        left : after ≡ leaves (write_text (renumbered_by (was_list cells) cells)) out
        left = done-by.1 ∙ ap (λ (l : List ℕ). leaves (write_text (renumbered_by l cells)) out) list_taken

        pub both_file : (m : ℕ) → a ≡ refused m → Told (renumber_text cells) out list (refused m) after list
        both_file m e =
            told_as (done made) (renumber_text cells) out list (refused m) after list (sym text_is)
            (told_file file (was_text (was_list cells)) out list (write_text (renumbered_by (was_list cells) cells)) (written (was_list cells) list_once).1 a answered after left m e)

        pub both_all : k ≤ length list → (put : List ℕ) (j : ℕ) → ◌≡◌ {A = Buf} (put, j) (puts (list, 0) (take k lines)) → (m : ℕ) → a ≡ done m
            → Told (renumber_text cells) out list (done (record { file = m; list = k })) after put
        both_all fits put j e m f =
            let c = own_count (was_text (was_list cells)) lines k short lines_put in
            told_as (done made) (renumber_text cells) out list (done (record { file = m; list = k })) after put (sym text_is)
            (told_both file (was_text (was_list cells)) out list (write_text (renumbered_by (was_list cells) cells)) (written (was_list cells) list_once).1 a answered after left
            (omega arith) k c put j (e ∙ ap (puts (list, 0)) (own_take (was_text (was_list cells)) lines k short lines_put)) m f)

-- what was read as a list
module _ (o : Outcome (List ℕ)) (r : Option (List ℕ)) (is : r ≡ list_read o) where
  read_yes : (p : Outcome (List ℕ)) → o ≡ p → (numbers : List ℕ) → r ≡ Some numbers → (l : List ℕ) × (o ≡ done l) × (numbers ≡ in_cells l)
  unfolding list_read
  read_yes (refused n) e numbers t = let none : r ≡ None = is ∙ ap list_read e in let z : ◌≡◌ {A = ℕ} 0 1 = cc in absurd (omega arith)
  read_yes (done l) e numbers t = (l, e, same_Some _ _ (sym t ∙ is ∙ ap list_read e))

  read_no : (p : Outcome (List ℕ)) → o ≡ p → r ≡ None → (k : ℕ) × (o ≡ refused k)
  unfolding list_read
  read_no (refused n) e t = (n, e)
  read_no (done l) e t = let some : r ≡ Some (in_cells l) = is ∙ ap list_read e in let z : ◌≡◌ {A = ℕ} 0 1 = cc in absurd (omega arith)

-- the way back of a table that was read
module _ (cells : List ℕ) (was : WasRead cells) (text : List ℕ) (n : ℕ) (count : n ≡ scopes_of cells) (r : Option (List ℕ)) (is : r ≡ list_read (read_was n text)) where
  small : n ≤ most_scopes
  small = let m = scopes_most cells was in omega arith

  pub back_none : r ≡ None → (out : List ℕ) → (refused 17 ≡ answer (back_text text cells) (length out)) × (out ≡ leaves (back_text text cells) out)
  unfolding back_text and_then
  back_none t out =
      let k = read_no (read_was n text) r is (read_was n text) refl t in
      let e : read_was (scopes_of cells) text ≡ refused 17 =
      ap (λ (m : ℕ). read_was m text) (sym count) ∙ k.1 ∙ ap refused ((reads_right n text small).refusal k.0 k.1) in
      let b : back_text text cells ≡ refused 17 = rw e in
      (answer_refused (back_text text cells) 17 (length out) b, leaves_refused (back_text text cells) 17 out b)

  module _ (numbers : List ℕ) (t : r ≡ Some numbers) where
    abbrev list : List ℕ
    list = (read_yes (read_was n text) r is (read_was n text) refl numbers t).0

    read_is : read_was n text ≡ done list
    read_is = (read_yes (read_was n text) r is (read_was n text) refl numbers t).1

    holds : HoldsEach n list
    holds = (((reads_right n text small).exactly list).0 read_is).1

    once : EachOnce n list
    once = each_once n list holds

    cells_is : numbers ≡ in_cells list
    cells_is = (read_yes (read_was n text) r is (read_was n text) refl numbers t).2

    numbers_taken : take n numbers ≡ list
    numbers_taken = front_is list numbers n once.count small cells_is

    pub numbers_within : n ≤ length numbers
    numbers_within = front_within list numbers n once.count small cells_is

    pub numbers_count : n ≡ length (take n numbers)
    numbers_count = front_count list numbers n once.count small cells_is

    pub numbers_most : length (take n numbers) ≤ most_scopes
    numbers_most = let c = numbers_count in let s = small in omega arith

    pub numbers_once : EachOnce (length (take n numbers)) (take n numbers)
    numbers_once =
        subst (λ (l : List ℕ). EachOnce (length l) l) (sym numbers_taken) (subst (λ (k : ℕ). EachOnce k list) (sym once.count) once)

    module _ (back : List ℕ) (made : back ≡ in_cells (back_of (take n numbers))) where
      back_is : back ≡ in_cells (back_of list)
      back_is = made ∙ ap (λ (l : List ℕ). in_cells (back_of l)) numbers_taken

      long : length (back_of list) ≡ n
      long = back_length list ∙ once.count

      back_taken : take n back ≡ back_of list
      back_taken = front_is (back_of list) back n long small back_is

      pub back_within : n ≤ length back
      back_within = front_within (back_of list) back n long small back_is

      pub back_count : n ≡ length (take n back)
      back_count = front_count (back_of list) back n long small back_is

      pub back_each : EachOnce (scopes_of cells) (take n back)
      back_each = subst (λ (l : List ℕ). EachOnce (scopes_of cells) l) (sym back_taken) (subst (λ (k : ℕ). EachOnce k (back_of list)) count (back_once n list once))

      back_text_lem : back_text text cells ≡ write_text (renumbered_by (back_of list) cells)
      unfolding back_text and_then
      back_text_lem = rw (ap (λ (m : ℕ). read_was m text) (sym count) ∙ read_is)

      pub back_written : (a : Outcome ℕ) (out left : List ℕ)
          → (a ≡ answer (write_text (renumbered_by (take n back) cells)) (length out)) × (left ≡ leaves (write_text (renumbered_by (take n back) cells)) out)
          → (a ≡ answer (back_text text cells) (length out)) × (left ≡ leaves (back_text text cells) out)
      back_written a out left e =
          let same : write_text (renumbered_by (take n back) cells) ≡ back_text text cells = ap (λ (l : List ℕ). write_text (renumbered_by l cells)) back_taken ∙ sym back_text_lem in
          (e.0 ∙ ap (λ (x : Outcome (List ℕ)). answer x (length out)) same, e.1 ∙ ap (λ (x : Outcome (List ℕ)). leaves x out) same)
