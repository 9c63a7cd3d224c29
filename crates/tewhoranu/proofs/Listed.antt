-- Every refusal of every call has a number of document 01's list or one of the call's own, so it is
-- below 64 and the number of an answer tells it. Assumes nothing.
use Prim.Native.Nat.{ℕ, zero, suc, ◌+◌, ◌-◌, ◌*◌, ◌/◌, ◌%◌, ◌≤◌, ◌<◌}
use mathlib.Core.Path.{◌≡◌, refl, sym, ap, subst, ◌∙◌}
use mathlib.Core.Logic.{⊎_elim}
use mathlib.Core.List.Memᴰ
use mathlib.Core.List.{List, [], ◌∷◌, map}
use mathlib.Core.Bool.{Bool, true, false}
use native.Mathlib.Omega.{arith}
use borrow.Author.Tests.{lt-ltb, le-ltb}
use lib.Dec.{eqb, ltb, leb}
use lib.ListN.{length, drop}
use lib.Seq.{sets}
use Rattle.scope_graph.specs.Language.{◌∈◌}
use Rattle.scope_graph.specs.Rows.{language}
use Rattle.scope_graph.specs.Readers.{readers}
use Rattle.scope_graph.proofs.Lists.{here, there}
use Rattle.std.specs.declared.option.Option.{Option}
use Rattle.std.specs.declared.option.Option.TheVariants.{Some, None}
use Rattle.text_field.specs.Bytes.{is_capital}
use Rattle.text_field.specs.Number.{number_here, number_placed, number_meaning}
use Rattle.text_field.specs.Name.{name_here, name_meaning}
use Rattle.graph_rows.specs.Format.{Item, byte, field, state, scope, mark, count, letter, label, end, name, kind, plain, turn, section_at, shape_at, old_form}
use Rattle.text_field.specs.Outcome.{Outcome, refused, done, and_then, refuse_if}
use Rattle.graph_rows.specs.Admission.{Row, Sofar, blank, unless, admission, place}
use Rattle.graph_file.specs.Line.{Reading, number_taken, name_taken, byte_taken, end_taken, read_field, read_item, place_of, read_items}
use Rattle.graph_rows.specs.Way.{starts_with, Way, Stage, if_admitted, after_row, one_row, through_rows, after_names, enough, through_section, through_sections, ordered, at_start, whole}
use Rattle.graph_file.specs.File.{read_names, read_row, reading, form_of, read_stage, made_of, read_cells, write_names, write_row, writing, write_text}
use Rattle.graph_rows.specs.Tested.{test_row, has_form, form_in}
use Rattle.text_field.specs.Answer.{answer}
use Rattle.graph_rows.specs.Decode.{rules_of, graph_of}
use Rattle.graph_rows.specs.Formed.{in_form}
use Rattle.path_row.specs.Form.{most_mark, most_scope, number_up_to, Front, start_by, space_by, mark_by, head_here, row_by, row_here}
use Rattle.comparison.specs.Compare.{Told, compare_rows, compare_answer}
use Rattle.comparison.proofs.FewSteps.{compare_few}
use Rattle.resolution.specs.Listing.{listing_of, listing_for, summary_for}
use Rattle.judge.specs.Judge.{judge_of, judge_answer}
use Rattle.judge.proofs.FewSteps.{judge_few}
use Rattle.scope_graph.specs.Agree.{Judgement, as_visible, as_shadowed, as_unreached}
use Rattle.conversion.specs.Conversion.{unshown, old_text, new_text, text_in, text_of, old_of, new_of}
use Rattle.ruled.specs.Ruled.{ruled_of}
use Rattle.ruled.proofs.Refusing.{refusals}
use Rattle.readers.specs.Readers.{readers_text, declaration_at, readers_of, readers_for}
use Rattle.renumbering.specs.Renumbering.{renumber_text, renumber_of, room_for, sizes_of, back_for}
use Rattle.renumbering.specs.Alone.{file_size}
use Rattle.renumbering.proofs.Promises.{promises}
use Rattle.dot.specs.Drawing.{dot_of}
use Rattle.dot_text.specs.Reading.{drawn}
use Rattle.undot.specs.Undrawn.{drawn_rows, undrawn_text, undrawn_by, undot_of}
use Rattle.tewhoranu.specs.Numbers.{told, amount_number, case_number, steps_number, written, comparison_case, comparison_steps, compared, standing_case, standing_steps, judged}
use Rattle.tewhoranu.specs.Listed.{last_refusal, Listed, listed, carried, ListedWith, its_own, as_others, heard, amount_in, case_in, numbered, Output, OutputWith, Cases, Numbers}
use Rattle.tewhoranu.proofs.DrawnListed.{with_then, own_drawn, drawn_listed, rows_drawn_listed}

-- what refuses by a number of the list, and goes on so
then_listed : {A B : Type 0} (o : Outcome A) (f : A → Outcome B) → Listed o → ((a : A) → Listed (f a)) → Listed (and_then o f)
unfolding and_then
then_listed _ f (listed n low high) h = listed n low high
then_listed _ f (carried a) h = h a

if_listed : {A : Type 0} (b : Bool) (n : ℕ) (o : Outcome A) → 1 ≤ n → n ≤ last_refusal → Listed o → Listed (refuse_if b n o)
unfolding refuse_if
if_listed true n o low high h = listed n low high
if_listed false n o low high h = h

two : {A : Type 0} → Listed {A = A} (refused 2)
two = listed 2 (omega arith) (omega arith)

-- a line
number_listed : (x : Option (ℕ × ℕ)) (t : List ℕ) → Listed (number_taken x t)
unfolding number_taken number_meaning and_then
number_listed (Some (v, w)) t = carried _
number_listed None t = two

name_listed : (x : Option (ℕ × ℕ × ℕ)) (t : List ℕ) → Listed (name_taken x t)
unfolding name_taken name_meaning and_then
name_listed (Some (h, l, w)) t = carried _
name_listed None t = two

byte_listed : (b : Bool) (v : ℕ) (t : List ℕ) → Listed (byte_taken b v t)
unfolding byte_taken
byte_listed true v t = carried _
byte_listed false v t = two

end_listed : (ls : List ℕ) (x : ℕ) (t : List ℕ) → Listed (end_taken ls x t)
unfolding end_taken
end_listed ls x t = by_mark (eqb x 36)
  where
    by_mark : (b : Bool) → Listed {A = Reading} (elim b as (λ _. Outcome Reading) [ true ↦ byte_taken true 0 t | false ↦ byte_taken (is_capital x) (suc (place x ls)) t ])
    by_mark true = byte_listed true 0 t
    by_mark false = byte_listed (is_capital x) (suc (place x ls)) t

item_listed : (ls : List ℕ) (i : Item) (t : List ℕ) → Listed (read_item ls i t)
unfolding read_item read_field
item_listed ls (byte b) t = by_byte (starts_with b t)
  where
    by_byte : (z : Bool) → Listed {A = Reading} (elim z as (λ _. Outcome Reading) [ true ↦ done (record { values = []; rest = drop 1 t }) | false ↦ refused 2 ])
    by_byte true = carried _
    by_byte false = two
item_listed ls (field state c) t = number_listed (number_here t) t
item_listed ls (field scope c) t = number_listed (number_here t) t
item_listed ls (field mark c) t = number_listed (number_here t) t
item_listed ls (field count c) t = number_listed (number_here t) t
item_listed ls (field letter c) t = byte_listed _ _ t
item_listed ls (field label c) t = byte_listed _ _ t
item_listed ls (field end c) t = end_listed ls _ t
item_listed ls (field name c) t = name_listed (name_here t) t
item_listed ls (field kind c) t = byte_listed _ _ t
item_listed ls (field plain c) t = carried _
item_listed ls (field turn c) t = number_listed (number_here t) t

items_listed : (ls : List ℕ) (items : List Item) (row : Row) (t : List ℕ) → Listed (read_items ls items row t)
unfolding read_items
items_listed ls [] row t = carried _
items_listed ls (i ∷ items) row t =
    then_listed (read_item ls i t) _ (item_listed ls i t) (λ r. items_listed ls items (sets row (place_of i) r.values) r.rest)

-- a row's admission
unless_small : (b : Bool) (n m : ℕ) → n ≤ last_refusal → m ≤ last_refusal → unless b n m ≤ last_refusal
unfolding unless
unless_small true n m h k = k
unless_small false n m h k = h

admission_small : (form k : ℕ) (st : Sofar) (row : Row) → admission form k st row ≤ last_refusal
unfolding admission
admission_small form k st row =
    unless_small _ 5 _ (omega arith) (unless_small _ 3 _ (omega arith) (unless_small _ 4 0 (omega arith) (omega arith)))

admitted_listed : (n : ℕ) (g : Stage) → n ≤ last_refusal → Listed (if_admitted n (done g))
unfolding if_admitted
admitted_listed zero g h = carried g
admitted_listed (suc n) g h = listed (suc n) (omega arith) h

-- both ways through the file
module _ (w : Way) (names : (k : ℕ) (rest : List ℕ) → Listed (w.names k rest)) (row : (k : ℕ) (letters rest : List ℕ) → Listed (w.row k letters rest)) where
  row_listed : (k : ℕ) (g : Stage) → Listed (one_row w k g)
  unfolding one_row
  row_listed k g =
      then_listed (w.row k g.sofar.letters g.rest) _ (row k g.sofar.letters g.rest)
      (λ p. admitted_listed (admission w.form k g.sofar p.row) (after_row k g p) (admission_small w.form k g.sofar p.row))

  rows_listed : (turns k : ℕ) (g : Stage) → Listed (through_rows w turns k g)
  unfolding through_rows
  rows_listed zero k g = listed 5 (omega arith) (omega arith)
  rows_listed (suc turns) k g = by_more (w.more k g.rest) (then_listed (one_row w k g) (through_rows w turns k) (row_listed k g) (rows_listed turns k))
    where
      by_more : (b : Bool) → Listed (and_then (one_row w k g) (through_rows w turns k)) → Listed {A = Stage} (elim b as (λ _. Outcome Stage) [ true ↦ and_then (one_row w k g) (through_rows w turns k) | false ↦ done g ])
      by_more true h = h
      by_more false h = carried g

  section_listed : (k : ℕ) (g : Stage) → Listed (through_section w k g)
  unfolding through_section enough
  section_listed k g =
      then_listed (w.names k g.rest) _ (names k g.rest) (λ p.
      then_listed (through_rows w (suc (section_at k).most) k (after_names g p)) _ (rows_listed (suc (section_at k).most) k (after_names g p))
      (λ h. if_listed _ 2 (done h) (omega arith) (omega arith) (carried h)))

  sections_listed : (left k : ℕ) (g : Stage) → Listed (through_sections w left k g)
  unfolding through_sections
  sections_listed zero k g = if_listed _ 2 (done g) (omega arith) (omega arith) (carried g)
  sections_listed (suc left) k g = then_listed (through_section w k g) _ (section_listed k g) (sections_listed left (suc k))

  whole_listed : (made rest : List ℕ) → Listed (whole w made rest)
  unfolding whole ordered
  whole_listed made rest =
      then_listed (through_sections w 9 0 (at_start made rest)) _ (sections_listed 9 0 (at_start made rest))
      (λ g. if_listed _ 6 (done g) (omega arith) (omega arith) (carried g))

made_listed : (o : Outcome Stage) → Listed o → Listed (made_of o)
unfolding made_of
made_listed o h = then_listed o _ h (λ g. carried g.made)

read_names_lem : (form k : ℕ) (rest : List ℕ) → Listed ((reading form).names k rest)
unfolding reading read_names
read_names_lem form k rest = then_listed (read_items [] (map byte (shape_at form k).names) blank rest) _ (items_listed [] (map byte (shape_at form k).names) blank rest) (λ r. carried _)

read_row_lem : (form k : ℕ) (letters rest : List ℕ) → Listed ((reading form).row k letters rest)
unfolding reading read_row
read_row_lem form k letters rest = then_listed (read_items letters (shape_at form k).row blank rest) _ (items_listed letters (shape_at form k).row blank rest) (λ r. carried _)

stage_listed : (text : List ℕ) → Listed (read_stage text)
unfolding read_stage
stage_listed text = by_length (ltb 32768 (length text))
  where
    by_length : (b : Bool) → Listed {A = Stage} (elim b as (λ _. Outcome Stage) [ true ↦ refused 1 | false ↦ whole (reading (form_of text)) (form_of text ∷ []) text ])
    by_length true = listed 1 (omega arith) (omega arith)
    by_length false = whole_listed (reading (form_of text)) (read_names_lem (form_of text)) (read_row_lem (form_of text)) (form_of text ∷ []) text

read_listed : (text : List ℕ) → Listed (read_cells text)
unfolding read_cells
read_listed text = made_listed (read_stage text) (stage_listed text)

write_names_lem : (form k : ℕ) (rest : List ℕ) → Listed ((writing form).names k rest)
unfolding writing write_names
write_names_lem form k rest = carried _

test_row_lem : (form k : ℕ) (letters rest : List ℕ) → Listed (test_row form k letters rest)
unfolding test_row
test_row_lem form k letters rest = if_listed _ 2 _ (omega arith) (omega arith) (if_listed _ 2 _ (omega arith) (omega arith) (carried _))

write_row_lem : (form k : ℕ) (letters rest : List ℕ) → Listed ((writing form).row k letters rest)
unfolding writing write_row
write_row_lem form k letters rest = then_listed (test_row form k letters rest) _ (test_row_lem form k letters rest) (λ p. carried _)

write_listed : (cells : List ℕ) → Listed (write_text cells)
unfolding write_text
write_listed cells = by_form (has_form cells)
  where
    by_form : (b : Bool) → Listed {A = (List ℕ)} (elim b as (λ _. Outcome (List ℕ)) [ true ↦ made_of (whole (writing (form_in cells)) [] (drop 1 cells)) | false ↦ refused 2 ])
    by_form true = made_listed _ (whole_listed (writing (form_in cells)) (write_names_lem (form_in cells)) (write_row_lem (form_in cells)) [] (drop 1 cells))
    by_form false = two

-- an output and its room
answer_listed : (o : Outcome (List ℕ)) (room : ℕ) → Listed o → Listed (answer o room)
unfolding answer
answer_listed o room h = then_listed o _ h (λ out. if_listed _ 9 _ (omega arith) (omega arith) (carried (length out)))

listing_listed : (text : List ℕ) (i : ℕ) → Listed (listing_for text i)
unfolding listing_for listing_of
listing_listed text i = then_listed (read_cells text) _ (read_listed text) (λ cells. if_listed _ 7 _ (omega arith) (omega arith) (carried _))

summary_listed : (text : List ℕ) → Listed (summary_for text)
unfolding summary_for
summary_listed text = then_listed (read_cells text) _ (read_listed text) (λ cells. carried _)

-- a file in the other form
new_listed : (text : List ℕ) → Listed (new_of text)
unfolding new_of text_of text_in new_text
new_listed text = then_listed (read_cells text) _ (read_listed text) (λ cells. write_listed _)

old_listed : (o : Outcome (List ℕ)) (room : ℕ) → Listed o → ListedWith (14 ∷ []) (answer (and_then o old_text) room)
unfolding and_then old_text refuse_if answer
old_listed _ room (listed n low high) = as_others _ (listed n low high)
old_listed _ room (carried cells) = by_test (unshown cells)
  where
    by_test : (b : Bool) → ListedWith (14 ∷ []) (answer (refuse_if b 14 (write_text (in_form old_form cells))) room)
    by_test true = its_own 14 here
    by_test false = as_others _ (answer_listed (write_text (in_form old_form cells)) room (write_listed (in_form old_form cells)))

-- a file with the rules of an expression
module _ (text expression : List ℕ) (room : ℕ) where
  abbrev Own : Outcome ℕ → Type 0
  Own o = ListedWith (12 ∷ 13 ∷ []) o

  answered : (cells : List ℕ) → read_cells text ≡ done cells → (o : Outcome ℕ) → answer (ruled_of expression text) room ≡ o → Own o
  answered cells read (done n) e = as_others (done n) (carried n)
  answered cells read (refused n) e =
      ⊎_elim (λ (y : n ≡ 12). its_own n (subst (λ m. m ∈ (12 ∷ 13 ∷ [])) (sym y) here))
      (λ more.
      ⊎_elim (λ (y : n ≡ 13). its_own n (subst (λ m. m ∈ (12 ∷ 13 ∷ [])) (sym y) (there here)))
      (λ nine. let y : n ≡ 9 = nine.0 in as_others (refused n) (listed n (omega arith) (omega arith)))
      more)
      (refusals.others expression text cells read room n e)

  rules_listed : Own (answer (ruled_of expression text) room)
  unfolding answer and_then
  rules_listed = by (read_cells text) refl (read_listed text)
    where
      by : (o : Outcome (List ℕ)) → read_cells text ≡ o → Listed o → Own (answer (ruled_of expression text) room)
      by _ read (listed n low high) = rw (refusals.reading expression text n read) (as_others (refused n) (listed n low high))
      by _ read (carried cells) = answered cells read (answer (ruled_of expression text) room) refl

-- who reads a declaration
readers_listed : (o : Outcome (List ℕ)) (place room : ℕ) → Listed o → ListedWith (11 ∷ []) (answer (and_then o (λ cells. readers_of cells place)) room)
unfolding and_then readers_of refuse_if answer
readers_listed _ place room (listed n low high) = as_others _ (listed n low high)
readers_listed _ place room (carried cells) = by_test (leb (length (graph_of cells).declarations) place)
  where
    lines : List ℕ
    lines = readers_text (readers (language (rules_of cells)) (graph_of cells) (declaration_at cells place))

    by_test : (b : Bool) → ListedWith (11 ∷ []) (answer (refuse_if b 11 (done lines)) room)
    by_test true = its_own 11 here
    by_test false = as_others _ (answer_listed (done lines) room (carried lines))

-- a renumbered file
renumber_listed : (text : List ℕ) (room lines : ℕ) → Listed (file_size (sizes_of (room_for room lines (renumber_of text))))
unfolding file_size sizes_of room_for renumber_of renumber_text
renumber_listed text room lines =
    then_listed (sizes_of (room_for room lines (renumber_of text))) _
    (then_listed (room_for room lines (renumber_of text)) _
    (then_listed (renumber_of text) _
    (then_listed (read_cells text) _ (read_listed text) (λ cells. then_listed (write_text _) _ (write_listed _) (λ file. carried _)))
    (λ r. if_listed _ 9 _ (omega arith) (omega arith) (carried _)))
    (λ r. carried _))
    (λ s. carried _)

-- the way back
module _ (text was : List ℕ) (room : ℕ) where
  abbrev OwnBack : Outcome ℕ → Type 0
  OwnBack o = ListedWith (17 ∷ []) o

  back_answered : (cells : List ℕ) → read_cells text ≡ done cells → (o : Outcome ℕ) → answer (back_for text was) room ≡ o → OwnBack o
  back_answered cells read (done n) e = as_others (done n) (carried n)
  back_answered cells read (refused n) e =
      ⊎_elim (λ (y : n ≡ 17). its_own n (subst (λ m. m ∈ (17 ∷ [])) (sym y) here))
      (λ nine. let y : n ≡ 9 = nine.0 in as_others (refused n) (listed n (omega arith) (omega arith)))
      (promises.refusals.back text cells was read room n e)

  back_listed : OwnBack (answer (back_for text was) room)
  unfolding answer and_then
  back_listed = by (read_cells text) refl (read_listed text)
    where
      by : (o : Outcome (List ℕ)) → read_cells text ≡ o → Listed o → OwnBack (answer (back_for text was) room)
      by _ read (listed n low high) = rw ((promises.refusals.reading text n read).1 was) (as_others (refused n) (listed n low high))
      by _ read (carried cells) = back_answered cells read (answer (back_for text was) room) refl

-- a file drawn, and a drawing put into a file
dot_listed : (text : List ℕ) → Listed (dot_of text)
unfolding dot_of
dot_listed text = then_listed (read_cells text) _ (read_listed text) (λ cells. carried _)

undot_listed : (text drawing : List ℕ) (room : ℕ) → ListedWith own_drawn (answer (undot_of text drawing) room)
unfolding answer undot_of undrawn_by undrawn_text
undot_listed text drawing room =
    with_then own_drawn (undot_of text drawing) _
    (with_then own_drawn (read_cells text) _ (as_others _ (read_listed text)) (λ cells.
    with_then own_drawn (drawn drawing) _ (drawn_listed drawing) (λ d.
    with_then own_drawn (drawn_rows cells d) _ (rows_drawn_listed cells d) (λ rows. as_others _ (write_listed _)))))
    (λ out. as_others _ (if_listed _ 9 _ (omega arith) (omega arith) (carried (length out))))

-- path rows
start_listed : (m before : ℕ) (r : Option (ℕ × ℕ)) → Listed (start_by m before r)
unfolding start_by number_meaning number_placed and_then
start_listed m before (Some (v, width)) = carried _
start_listed m before None = listed 8 (omega arith) (omega arith)

mark_listed : (r : Option (ℕ × ℕ)) (s : List ℕ) → Listed (mark_by r s)
unfolding mark_by space_by number_meaning and_then
mark_listed None s = listed 8 (omega arith) (omega arith)
mark_listed (Some (m, width)) s = by_space (starts_with 32 (drop width s))
  where
    by_space : (t : Bool) → Listed {A = Front} (elim t as (λ _. Outcome Front) [ true ↦ start_by m (width + 1) (number_up_to most_scope (drop (width + 1) s)) | false ↦ refused 8 ])
    by_space true = start_listed m (width + 1) (number_up_to most_scope (drop (width + 1) s))
    by_space false = listed 8 (omega arith) (omega arith)

here_listed : (s : List ℕ) → Listed (row_here s)
unfolding row_here row_by head_here
here_listed s =
    if_listed _ 8 _ (omega arith) (omega arith)
    (then_listed (head_here s) _ (mark_listed (number_up_to most_mark s) s) (λ h. if_listed _ 8 _ (omega arith) (omega arith) (carried _)))

compare_listed : (text a b : List ℕ) (n m : ℕ) → Listed (compare_answer text a b n m)
unfolding compare_answer compare_rows
compare_listed text a b n m =
    then_listed (read_cells text) _ (read_listed text) (λ cells.
    then_listed (row_here a) _ (here_listed a) (λ p.
    then_listed (row_here b) _ (here_listed b) (λ q.
    if_listed _ 9 _ (omega arith) (omega arith) (if_listed _ 9 _ (omega arith) (omega arith) (carried _)))))

judge_listed : (text : List ℕ) (i : ℕ) (row : List ℕ) (room : ℕ) → Listed (judge_answer text i row room)
unfolding judge_answer judge_of
judge_listed text i row room =
    then_listed (read_cells text) _ (read_listed text) (λ cells.
    if_listed _ 7 _ (omega arith) (omega arith)
    (then_listed (row_here row) _ (here_listed row) (λ p. if_listed _ 9 _ (omega arith) (omega arith) (carried _))))

-- the number tells the answer
heard_low : {A : Type 0} (taken : ℕ → A) (n : ℕ) → n ≤ last_refusal → heard taken n ≡ refused n
unfolding heard
heard_low taken n h = rw (lt-ltb n 64 (omega (arith, h)), heard)

heard_high : {A : Type 0} (taken : ℕ → A) (n : ℕ) → 64 ≤ n → heard taken n ≡ done (taken n)
unfolding heard
heard_high taken n h = rw (le-ltb n 64 h, heard)

amount_in_lem : (n : ℕ) → amount_in (amount_number n) ≡ n
unfolding amount_in amount_number
amount_in_lem n = omega arith

-- for as many steps as a path has
case_in_lem : (case steps : ℕ) → steps < 64 → case_in (case_number case steps) ≡ (case, steps)
unfolding case_in case_number
case_in_lem case steps h =
    let c : (64 * (1 + case) + steps) / 64 - 1 ≡ case = omega (arith, h)
    in let s : (64 * (1 + case) + steps) % 64 ≡ steps = omega (arith, h)
    in rw (c, s)

output : (o : Outcome ℕ) → Listed o → Output o
unfolding told written amount_number
output _ (listed n low high) = (listed n low high, heard_low amount_in n high)
output _ (carried a) = (carried a, heard_high amount_in (amount_number a) (omega arith) ∙ ap done (amount_in_lem a))

output_with : (own : List ℕ) (o : Outcome ℕ) → ((n : ℕ) → n ∈ own → n < 64) → ListedWith own o → OutputWith own o
unfolding told written heard
output_with own _ low (its_own n m) = (its_own n m, rw (lt-ltb n 64 (low n m), heard))
output_with own o low (as_others _ l) = (as_others o l, (output o l).1)

-- K5's, K6's, K9's, K13's and K14's numbers are below 64
alone_low : (k : ℕ) → k < 64 → (n : ℕ) → n ∈ (k ∷ []) → n < 64
alone_low k h n m = let y : n ≡ k = Memᴰ.eq_of_singleton m in omega arith

both_low : (j k : ℕ) → j < 64 → k < 64 → (n : ℕ) → n ∈ (j ∷ k ∷ []) → n < 64
both_low j k f g n m = ⊎_elim (λ (y : n ≡ j). omega arith) (λ (l : n ∈ (k ∷ [])). alone_low k g n l) (Memᴰ.cases_cons m)

cases : {A : Type 0} (case steps : A → ℕ) (o : Outcome A) → Listed o → ((a : A) → o ≡ done a → steps a ≤ 63)
    → Cases case steps (told (λ a. case_number (case a) (steps_number (steps a)))) o
unfolding told numbered case_number steps_number
cases case steps _ (listed n low high) few = (listed n low high, heard_low case_in n high)
cases case steps _ (carried a) few =
    let z : steps a % 64 ≡ steps a = omega (arith, few a refl) in (
      carried a,
      heard_high case_in (case_number (case a) (steps a % 64)) (omega arith)
          ∙ ap done (case_in_lem (case a) (steps a % 64) (omega arith) ∙ ap (λ (k : ℕ). (case a, k)) z),
    )

judge_steps : (text : List ℕ) (i : ℕ) (row : List ℕ) (room : ℕ) (j : Judgement) → judge_answer text i row room ≡ done j → standing_steps j ≤ 63
unfolding standing_steps
judge_steps text i row room as_visible e = omega arith
judge_steps text i row room (as_shadowed n) e = judge_few text i row room n e
judge_steps text i row room as_unreached e = omega arith

compare_steps : (text a b : List ℕ) (n m : ℕ) (t : Told) → compare_answer text a b n m ≡ done t → comparison_steps t ≤ 63
unfolding comparison_steps
compare_steps text a b n m t e = compare_few text a b n m t e

pub numbers : Numbers
unfolding compared judged old_of text_of text_in readers_for
numbers = record {
  read = λ text room. output (answer (read_cells text) room) (answer_listed (read_cells text) room (read_listed text));
  write = λ cells room. output (answer (write_text cells) room) (answer_listed (write_text cells) room (write_listed cells));
  listing = λ text query room. output (answer (listing_for text query) room) (answer_listed (listing_for text query) room (listing_listed text query));
  summary = λ text room. output (answer (summary_for text) room) (answer_listed (summary_for text) room (summary_listed text));
  judge = λ text query row room. cases standing_case standing_steps (judge_answer text query row room) (judge_listed text query row room) (judge_steps text query row room);
  compare = λ text a b n m. cases comparison_case comparison_steps (compare_answer text a b n m) (compare_listed text a b n m) (compare_steps text a b n m);
  to_old = λ text room. output_with (14 ∷ []) (answer (old_of text) room) (alone_low 14 (omega arith)) (old_listed (read_cells text) room (read_listed text));
  to_new = λ text room. output (answer (new_of text) room) (answer_listed (new_of text) room (new_listed text));
  rules = λ text expression room. output_with (12 ∷ 13 ∷ []) (answer (ruled_of expression text) room) (both_low 12 13 (omega arith) (omega arith)) (rules_listed text expression room);
  readers = λ text place room. output_with (11 ∷ []) (answer (readers_for text place) room) (alone_low 11 (omega arith)) (readers_listed (read_cells text) place room (read_listed text));
  renumber = λ text room lines. output (file_size (sizes_of (room_for room lines (renumber_of text)))) (renumber_listed text room lines);
  back = λ text was room. output_with (17 ∷ []) (answer (back_for text was) room) (alone_low 17 (omega arith)) (back_listed text was room);
  dot = λ text room. output (answer (dot_of text) room) (answer_listed (dot_of text) room (dot_listed text));
  undot = λ text drawing room. output_with own_drawn (answer (undot_of text drawing) room) (both_low 18 19 (omega arith) (omega arith)) (undot_listed text drawing room);
}
