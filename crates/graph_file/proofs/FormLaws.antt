-- The form of a file: what stands above the names lines of edges and of declarations is read the
-- same way whatever they tell, and these lines tell which form it is. Assumes nothing.
use Prim.Native.Nat.{ℕ, zero, suc, ◌+◌, ◌≤◌, ◌<◌}
use mathlib.Core.Path.{◌≡◌, refl, sym, ap, ◌∙◌}
use mathlib.Core.List.{List, [], append-nil}
use mathlib.Core.Bool.{Bool, true, false}
use mathlib.Core.Logic.{◌⊎◌, inl, inr, ⊎_elim}
use native.Mathlib.Omega.{arith}
use lib.Dec.{eqb, leb}
use lib.ListN.{get_or}
use borrow.Author.Tests.{eqb-true, eqb-false}
use Rattle.scope_graph.proofs.Lists.{Two}
use Rattle.text_field.specs.Outcome.{Outcome, refused, done, and_then}
use Rattle.text_field.proofs.OutcomeLaws.{done_same, not_done}
use Rattle.graph_rows.specs.Format.{old_form, kind_form, turn_form, label_section, edge_section, declaration_section, section_at, has_kinds, has_turns, edge_shape, declaration_shape, shapes_of, shape_at}
use Rattle.graph_rows.specs.Admission.{nothing, admission}
use Rattle.graph_rows.specs.Way.{Piece, Way, Stage, one_row, through_rows, after_names, enough, through_section, through_sections, through_some, at_start, whole}
use Rattle.graph_file.specs.File.{read_names, row_follows, read_row, reading, form_shown, form_after, turns_in, kinds_in, form_with, form_of}
use Rattle.graph_file.specs.Forms.{ReadAlike, EdgesAlike}
use Rattle.graph_rows.proofs.DecodeWay.{and_then_done, section_split, whole_split}
use Rattle.graph_file.proofs.InverseReading.{names_read}
use Rattle.graph_file.proofs.PourLaws.{after, mapped, onward_some}
use Rattle.graph_rows.proofs.WayLaws.{rows_on, rows_off}

-- the sections above edges have one shape
same_shape : (form k : ℕ) → k < edge_section → shape_at form k ≡ shape_at old_form k
unfolding shapes_of shape_at
same_shape form zero h = refl
same_shape form (suc zero) h = refl
same_shape form (suc (suc zero)) h = refl
same_shape form (suc (suc (suc zero))) h = refl
same_shape form (suc (suc (suc (suc zero)))) h = refl
same_shape form (suc (suc (suc (suc (suc k))))) h = absurd (omega arith)

-- without turns the edges too
same_edges : (form : ℕ) → has_turns form ≡ false → shape_at form edge_section ≡ shape_at old_form edge_section
unfolding shapes_of shape_at has_turns
same_edges form n = ap edge_shape n

same_above : (form k : ℕ) → has_turns form ≡ false → k < declaration_section → shape_at form k ≡ shape_at old_form k
same_above form k n h =
    ⊎_elim (λ e. rw (eqb-true k edge_section e) (same_edges form n)) (λ e. same_shape form k (let d = eqb-false k edge_section e in omega arith)) (Two (eqb k edge_section))

-- steps that do the same after the same
then_same : {A B : Type 0} (o : Outcome A) (f g : A → Outcome B) → ((x : A) → f x ≡ g x) → and_then o f ≡ and_then o g
unfolding and_then
then_same (refused n) f g h = refl
then_same (done x) f g h = h x

module _ (form k : ℕ) (same : shape_at form k ≡ shape_at old_form k) where
  names_alike : (text : List ℕ) → read_names form k text ≡ read_names old_form k text
  unfolding read_names
  names_alike text = rw same

  row_alike : (g : Stage) → one_row (reading form) k g ≡ one_row (reading old_form) k g
  unfolding one_row reading read_row admission
  row_alike g = rw same

  rows_alike : (turns : ℕ) (g : Stage) → through_rows (reading form) turns k g ≡ through_rows (reading old_form) turns k g
  unfolding through_rows reading
  rows_alike zero g = refl
  rows_alike (suc turns) g = by (row_follows g.rest) refl (rows_alike turns)
    where
      follows : (f : ℕ) (t : Bool) → row_follows g.rest ≡ t → (reading f).more k g.rest ≡ t
      follows f t e = e

      by : (t : Bool) → row_follows g.rest ≡ t → ((h : Stage) → through_rows (reading form) turns k h ≡ through_rows (reading old_form) turns k h)
          → through_rows (reading form) (suc turns) k g ≡ through_rows (reading old_form) (suc turns) k g
      by true e next =
          rows_on (reading form) turns k g (follows form true e)
          ∙ ap (λ (o : Outcome Stage). and_then o (through_rows (reading form) turns k)) (row_alike g)
          ∙ then_same (one_row (reading old_form) k g) (through_rows (reading form) turns k) (through_rows (reading old_form) turns k) next
          ∙ sym (rows_on (reading old_form) turns k g (follows old_form true e))
      by false e next =
          rows_off (reading form) turns k g (follows form false e) ∙ sym (rows_off (reading old_form) turns k g (follows old_form false e))

  section_alike : (g : Stage) → through_section (reading form) k g ≡ through_section (reading old_form) k g
  unfolding through_section reading
  section_alike g =
      ap (λ (o : Outcome Piece). and_then o (λ p. and_then (through_rows (reading form) (suc (section_at k).most) k (after_names g p)) (enough k))) (names_alike g.rest)
      ∙ then_same (read_names old_form k g.rest) (λ p. and_then (through_rows (reading form) (suc (section_at k).most) k (after_names g p)) (enough k)) (λ p. and_then (through_rows (reading old_form) (suc (section_at k).most) k (after_names g p)) (enough k))
      (λ p. ap (λ (o : Outcome Stage). and_then o (enough k)) (rows_alike (suc (section_at k).most) (after_names g p)))

-- sections that have one shape in both forms are read the same way
abbrev SameFrom : ℕ → ℕ → ℕ → Type 0
SameFrom form left k = (j : ℕ) → k ≤ j → j < k + left → shape_at form j ≡ shape_at old_form j

some_alike : (form left k : ℕ) (g : Stage) → SameFrom form left k → through_some (reading form) left k g ≡ through_some (reading old_form) left k g
unfolding through_some
some_alike form zero k g h = refl
some_alike form (suc left) k g h =
    ap (λ (o : Outcome Stage). and_then o (through_some (reading form) left (suc k))) (section_alike form k (h k (omega arith) (omega arith)) g)
    ∙ then_same (through_section (reading old_form) k g) (through_some (reading form) left (suc k)) (through_some (reading old_form) left (suc k)) (λ x. some_alike form left (suc k) x (λ j a b. h j (omega arith) (omega arith)))

-- what stands above the names line of edges is read the same way, whatever the form
pub read_alike : ReadAlike
read_alike form text = some_alike form edge_section label_section (at_start [] text) (λ j a h. same_shape form j (omega arith))

-- and what stands above the names line of declarations, in a form without turns
pub edges_alike : EdgesAlike
edges_alike form text n = some_alike form declaration_section label_section (at_start [] text) (λ j a h. same_above form j n (omega arith))

-- some sections, and then the others: what comes after them goes on section by section too
module _ (w : Way) (others : ℕ → ℕ → Stage → Outcome Stage) (goes_on : (left k : ℕ) (g : Stage) → others (suc left) k g ≡ and_then (through_section w k g) (others left (suc k))) where
  split_at : (a b c k m : ℕ) (g : Stage) → c ≡ a + b → m ≡ k + a → others c k g ≡ and_then (through_some w a k g) (others b m)
  unfolding through_some and_then
  split_at zero b c k m g e f =
      let x : c ≡ b = omega arith in
      let y : k ≡ m = omega arith in
      rw (x, y)
  split_at (suc a) b zero k m g e f = absurd (omega arith)
  split_at (suc a) b (suc c) k m g e f =
      goes_on c k g ∙ inner (through_section w k g) (λ h. split_at a b c (suc k) m h (omega arith) (omega arith))
    where
      inner : (o : Outcome Stage) → ((h : Stage) → others c (suc k) h ≡ and_then (through_some w a (suc k) h) (others b m))
          → and_then o (others c (suc k)) ≡ and_then (and_then o (through_some w a (suc k))) (others b m)
      inner (refused n) h = refl
      inner (done x) h = h x

pub sections_split : (w : Way) (a b c k m : ℕ) (g : Stage) → c ≡ a + b → m ≡ k + a → through_sections w c k g ≡ and_then (through_some w a k g) (through_sections w b m)
unfolding through_sections
sections_split w a b c k m g e f = split_at w (through_sections w) (λ left j h. refl) a b c k m g e f

pub some_split : (w : Way) (a b c k m : ℕ) (g : Stage) → c ≡ a + b → m ≡ k + a → through_some w c k g ≡ and_then (through_some w a k g) (through_some w b m)
unfolding through_some
some_split w a b c k m g e f = split_at w (through_some w) (λ left j h. refl) a b c k m g e f

-- what is made before the first section stands before all that is made
start_after : (m text : List ℕ) → at_start m text ≡ after m (at_start [] text)
unfolding at_start after
start_after m text = λ i. record { sofar = nothing; made = sym (append-nil m) i; rest = text }

pub some_made : (form left : ℕ) (m text : List ℕ) → through_some (reading form) left label_section (at_start m text)
    ≡ mapped m (through_some (reading form) left label_section (at_start [] text))
some_made form left m text =
    ap (through_some (reading form) left label_section) (start_after m text)
    ∙ onward_some (reading form) left label_section m (at_start [] text)

-- what came of it with more made before it came of it without
pub mapped_done : (m : List ℕ) (o : Outcome Stage) (x : Stage) → mapped m o ≡ done x → (y : Stage) × (o ≡ done y) × (after m y ≡ x)
unfolding mapped and_then
mapped_done m (refused n) x e = absurd (not_done n x e)
mapped_done m (done y) x e = (y, refl, done_same (after m y) x e)

pub mapped_refused : (m : List ℕ) (o : Outcome Stage) (n : ℕ) → mapped m o ≡ refused n → o ≡ refused n
unfolding mapped and_then
mapped_refused m (refused k) n e = let z : k ≡ n = cc in ap refused z
mapped_refused m (done y) n e = absurd (not_done n (after m y) (sym e))

-- the two names lines of declarations differ, and so do those of edges
kinds_differ : (text : List ℕ) (p q : Piece) → read_names old_form declaration_section text ≡ done p → read_names kind_form declaration_section text ≡ done q → ⊥
unfolding has_kinds declaration_shape shapes_of shape_at
kinds_differ text p q e f =
    let old = (names_read old_form declaration_section text p e).stands in
    let new = (names_read kind_form declaration_section text q f).stands in
    let a : get_or text 3 0 ≡ 110 = ap (λ (s : List ℕ). get_or s 3 0) old in
    let b : get_or text 3 0 ≡ 107 = ap (λ (s : List ℕ). get_or s 3 0) new in
    omega arith

-- the byte that shows turns
pub turn_byte : (text : List ℕ) (p : Piece) → read_names turn_form edge_section text ≡ done p → get_or text 12 0 ≡ 117
unfolding has_turns edge_shape shapes_of shape_at
turn_byte text p e = ap (λ (s : List ℕ). get_or s 12 0) (names_read turn_form edge_section text p e).stands

turns_differ : (text : List ℕ) (p q : Piece) → read_names old_form edge_section text ≡ done p → read_names turn_form edge_section text ≡ done q → ⊥
unfolding has_turns edge_shape shapes_of shape_at
turns_differ text p q e f =
    let a : get_or text 12 0 ≡ 111 = ap (λ (s : List ℕ). get_or s 12 0) (names_read old_form edge_section text p e).stands in
    omega (arith, a, turn_byte text q f)

-- a line that cannot stand there shows nothing
pub not_shown : (form : ℕ) (o : Outcome Piece) → ((q : Piece) → o ≡ done q → ⊥) → form_shown form o ≡ old_form
unfolding form_shown
not_shown form (refused n) h = refl
not_shown form (done q) h = absurd (h q refl)

is_shown : (form : ℕ) (o : Outcome Piece) (p : Piece) → o ≡ done p → form_shown form o ≡ form
unfolding form_shown
is_shown form o p e = rw e

-- after the sections above, the form by what is left
pub shown_after : (form k : ℕ) (o : Outcome Stage) (g : Stage) → o ≡ done g → form_after form k o ≡ form_shown form (read_names form k g.rest)
unfolding form_after
shown_after form k o g e = rw e

-- it is the form asked for, or the old one
shown_either : (form k : ℕ) (o : Outcome Stage) → (form_after form k o ≡ old_form) ⊎ (form_after form k o ≡ form)
unfolding form_after form_shown
shown_either form k (refused n) = inl refl
shown_either form k (done g) = line (read_names form k g.rest)
  where
    line : (o : Outcome Piece) → (form_shown form o ≡ old_form) ⊎ (form_shown form o ≡ form)
    line (refused n) = inl refl
    line (done p) = inr refl

pub turns_either : (text : List ℕ) → (turns_in text ≡ old_form) ⊎ (turns_in text ≡ turn_form)
unfolding turns_in
turns_either text = shown_either turn_form edge_section _

kinds_either : (text : List ℕ) → (kinds_in text ≡ old_form) ⊎ (kinds_in text ≡ kind_form)
unfolding kinds_in
kinds_either text = shown_either kind_form declaration_section _

-- in neither case of the second are there turns
kinds_unturned : (text : List ℕ) → has_turns (kinds_in text) ≡ false
unfolding has_turns
kinds_unturned text = ⊎_elim (λ k. rw k) (λ k. rw k) (kinds_either text)

pub form_turned : (text : List ℕ) → turns_in text ≡ turn_form → form_of text ≡ turn_form
unfolding form_of form_with has_turns
form_turned text e = rw e

pub form_unturned : (text : List ℕ) → turns_in text ≡ old_form → form_of text ≡ kinds_in text
unfolding form_of form_with has_turns
form_unturned text e = rw e

-- sections begin with a names line
names_due : (form k left : ℕ) (x g : Stage) → through_sections (reading form) (suc left) k x ≡ done g → (p : Piece) × (read_names form k x.rest ≡ done p)
unfolding through_sections reading
names_due form k left x g e =
    let c = and_then_done (through_section (reading form) k x) (through_sections (reading form) left (suc k)) e in
    let d = section_split (reading form) k x c.0 c.1 in
    (d.0, d.1)

-- the names line of section k was read in the form, behind sections that are read as in the old one
record Named (form k : ℕ) (text : List ℕ) : Type 0 where
  above : Stage
  came : through_some (reading old_form) k label_section (at_start [] text) ≡ done above
  piece : Piece
  line : read_names form k above.rest ≡ done piece

named : (form k left : ℕ) (m text : List ℕ) (g : Stage) → 9 ≡ k + suc left
    → through_some (reading form) k label_section (at_start [] text) ≡ through_some (reading old_form) k label_section (at_start [] text)
    → through_sections (reading form) 9 label_section (at_start m text) ≡ done g → Named form k text
unfolding after
named form k left m text g nine alike e =
    let s = and_then_done (through_some (reading form) k label_section (at_start m text)) (through_sections (reading form) (suc left) k) (sym (sections_split (reading form) k (suc left) 9 label_section k (at_start m text) nine (omega arith)) ∙ e) in
    let r = mapped_done m (through_some (reading old_form) k label_section (at_start [] text)) s.0 (sym (some_made form k m text ∙ ap (mapped m) alike) ∙ s.1) in
    let rest : r.0.rest ≡ s.0.rest = ap (λ (z : Stage). z.rest) r.2 in
    let n = names_due form k left s.0 g s.2 in
    record { above = r.0; came = r.1; piece = n.0; line = ap (read_names form k) rest ∙ n.1 }

-- so a file that is read in a form has that form
module _ (m text : List ℕ) (g : Stage) where
  told_turns : through_sections (reading turn_form) 9 label_section (at_start m text) ≡ done g → turns_in text ≡ turn_form
  unfolding turns_in
  told_turns e =
      let n = named turn_form edge_section 3 m text g refl (read_alike turn_form text) e in
      shown_after turn_form edge_section _ n.above n.came ∙ is_shown turn_form _ n.piece n.line

  module _ (form : ℕ) (unturned : has_turns form ≡ false) (e : through_sections (reading form) 9 label_section (at_start m text) ≡ done g) where
    told_none : turns_in text ≡ old_form
    unfolding turns_in
    told_none =
        let n = named form edge_section 3 m text g refl (read_alike form text) e in
        shown_after turn_form edge_section _ n.above n.came
        ∙ not_shown turn_form _ (λ q f. turns_differ n.above.rest n.piece q (sym (names_alike form edge_section (same_edges form unturned) n.above.rest) ∙ n.line) f)

    told_kinds : form ≤ kind_form → kinds_in text ≡ form
    unfolding kinds_in
    told_kinds h =
        let n = named form declaration_section 2 m text g refl (edges_alike form text unturned) e in
        shown_after kind_form declaration_section _ n.above n.came ∙ shown form n.above.rest n.piece h n.line
      where
        shown : (f : ℕ) (rest : List ℕ) (p : Piece) → f ≤ kind_form → read_names f declaration_section rest ≡ done p → form_shown kind_form (read_names kind_form declaration_section rest) ≡ f
        shown zero rest p l d = not_shown kind_form _ (λ q f. kinds_differ rest p q d f)
        shown (suc zero) rest p l d = is_shown kind_form _ p d
        shown (suc (suc f)) rest p l d = absurd (omega arith)

pub form_told : (form : ℕ) (m text : List ℕ) (g : Stage) → form ≤ turn_form → whole (reading form) m text ≡ done g → form_of text ≡ form
unfolding at_start has_turns
form_told zero m text g h e =
    let w = (whole_split (reading old_form) m text g e).0 in
    form_unturned text (told_none m text g old_form refl w) ∙ told_kinds m text g old_form refl w (omega arith)
form_told (suc zero) m text g h e =
    let w = (whole_split (reading kind_form) m text g e).0 in
    form_unturned text (told_none m text g kind_form refl w) ∙ told_kinds m text g kind_form refl w (omega arith)
form_told (suc (suc zero)) m text g h e = form_turned text (told_turns m text g (whole_split (reading turn_form) m text g e).0)
form_told (suc (suc (suc n))) m text g h e = absurd (omega arith)

-- the form of a text is a known one
pub form_known : (text : List ℕ) → leb (form_of text) turn_form ≡ true
form_known text =
    ⊎_elim
    (λ e. rw (form_unturned text e) (⊎_elim (λ k. rw k) (λ k. rw k) (kinds_either text)))
    (λ e. rw (form_turned text e))
    (turns_either text)

-- the six sections above the declarations are read as the edges' names line tells
pub upper_alike : (text : List ℕ) → through_some (reading (form_of text)) declaration_section label_section (at_start [] text) ≡ through_some (reading (turns_in text)) declaration_section label_section (at_start [] text)
upper_alike text =
    ⊎_elim
    (λ e. edges_alike (form_of text) text (rw (form_unturned text e) (kinds_unturned text)) ∙ ap upper (sym e))
    (λ e. ap upper (form_turned text e ∙ sym e))
    (turns_either text)
  where
    upper : ℕ → Outcome Stage
    upper form = through_some (reading form) declaration_section label_section (at_start [] text)
