-- Laws of reading the sections in the form that the text shows: the first five are read before it
-- is known whether there are turns, the first six before it is known whether there are kinds, and
-- the form's cell is written behind them. Assumes nothing.
use Prim.Native.Nat.{ℕ, zero, suc, ◌+◌, ◌-◌, ◌*◌, ◌≤◌, ◌<◌}
use mathlib.Core.Path.{◌≡◌, refl, sym, ap, ◌∙◌}
use mathlib.Core.List.{List, [], ◌∷◌, map}
use mathlib.Core.Bool.{true, false}
use mathlib.Core.Logic.{⊎_elim}
use native.Mathlib.Omega.{arith}
use lib.ListN.{length, get_or, take, drop, set, drop_of_length-le}
use lib.Seq.{drop-cons}
use Rattle.std.specs.declared.option.Option.{Option}
use Rattle.std.specs.declared.option.Option.TheVariants.{Some, None}
use Rattle.std.specs.Result.{IfOk}
use Rattle.std.specs.declared.result.Result.{Result}
use Rattle.std.specs.declared.result.Result.TheVariants.{Ok, Err}
use Rattle.text_field.specs.declared.refusal.Refusal.{Refusal}
use Rattle.graph_file.specs.declared.line.Line.{Line}
use Rattle.graph_rows.specs.declared.rows.Counts.{Counts}
use Rattle.graph_file.specs.declared.reader.Part.{Part}
use Rattle.text_field.specs.Outcome.{Outcome, refused, done, and_then, refuse_if}
use Rattle.graph_rows.specs.Format.{byte, Item, old_form, kind_form, turn_form, has_turns, label_section, edge_section, declaration_section, shape_at}
use Rattle.graph_rows.specs.Admission.{blank}
use Rattle.graph_file.specs.Line.{read_items}
use Rattle.graph_rows.specs.Way.{Stage, is_empty, through_sections, through_some, at_start}
use Rattle.graph_file.specs.File.{read_names, reading, form_shown, form_after, turns_in, kinds_in, form_with, form_of}
use Rattle.graph_rows.specs.Tested.{form_in}
use Rattle.graph_rows.specs.Table.{items_at, names_place, rows_at, letters_at, pairs_at, rows_back, sofar_at}
use Rattle.graph_file.specs.Reader.{line_outcome, stage_at, part_outcome, SomeTaken}
use Rattle.graph_rows.specs.Counting.{Placed, room_before}
use Rattle.graph_rows.proofs.FormatLaws.{names_items}
use Rattle.graph_rows.proofs.TakenLaws.{no_counts}
use Rattle.graph_file.proofs.SectionLaws.{start_stage}
use Rattle.graph_rows.proofs.CountLaws.{placed_start}
use Rattle.graph_file.proofs.PourLaws.{after, mapped, onward_some}
use Rattle.graph_file.proofs.FormLaws.{read_alike, sections_split, some_split, some_made, mapped_done, mapped_refused, turn_byte, not_shown, shown_after, turns_either, form_turned, form_unturned, upper_alike}

-- the form by the line that is due
module _ (t s : List ℕ) (at form k : ℕ) (o : Option Line) (e : line_outcome o s ≡ read_items (letters_at 0 (drop 1 t)) (items_at (names_place form k)) blank (drop at s)) where
  line_due : read_items [] (map byte (shape_at form k).names) blank (drop at s) ≡ line_outcome o s
  unfolding letters_at rows_at
  line_due = sym (e ∙ ap (λ (i : List Item). read_items [] i blank (drop at s)) (names_items form k))

  pub line_shown : (l : Line) → o ≡ Some l → form ≡ form_shown form (read_names form k (drop at s))
  unfolding read_names form_shown and_then line_outcome
  line_shown l p = sym (rw (line_due, p))

  pub line_hidden : o ≡ None → old_form ≡ form_shown form (read_names form k (drop at s))
  unfolding read_names form_shown and_then line_outcome
  line_hidden p = sym (rw (line_due, p))

-- another byte at the place that tells the edges' names lines apart
pub turns_hidden : (s : List ℕ) → (get_or s 12 0 ≡ 117 → ⊥) → old_form ≡ form_shown turn_form (read_names turn_form edge_section s)
turns_hidden s n = sym (not_shown turn_form (read_names turn_form edge_section s) (λ p e. n (turn_byte s p e)))

-- the form with the edges' names line known
module _ (turns kinds : ℕ) where
  pub with_turns : has_turns turns ≡ true → turn_form ≡ form_with turns kinds
  unfolding form_with
  with_turns e = sym (rw (e, form_with))

  pub without_turns : has_turns turns ≡ false → kinds ≡ form_with turns kinds
  unfolding form_with
  without_turns e = sym (rw (e, form_with))

-- the first cell written anew
drop_set : (t : List ℕ) (x i : ℕ) → 1 ≤ i → drop i (set t 0 x) ≡ drop i t
drop_set [] x i h = refl
drop_set (y ∷ t) x zero h = absurd (omega arith)
drop_set (y ∷ t) x (suc i) h = refl

take_set : (t : List ℕ) (x n y : ℕ) (ys : List ℕ) → take n t ≡ y ∷ ys → take n (set t 0 x) ≡ x ∷ ys
take_set t x zero y ys e = absurd (let z : 0 ≡ length (y ∷ ys) = ap length e in omega arith)
take_set [] x (suc n) y ys e = absurd (let z : 0 ≡ length (y ∷ ys) = ap length e in omega arith)
take_set (w ∷ t) x (suc n) y ys e = ap (λ (l : List ℕ). x ∷ l) (ap (λ (l : List ℕ). drop 1 l) e)

first_taken : (t : List ℕ) (n x : ℕ) (xs : List ℕ) → x ∷ xs ≡ take n t → form_in t ≡ x
unfolding form_in
first_taken t zero x xs e = absurd (let z : length (x ∷ xs) ≡ 0 = ap length e in omega arith)
first_taken [] (suc n) x xs e = absurd (let z : length (x ∷ xs) ≡ 0 = ap length e in omega arith)
first_taken (y ∷ t) (suc n) x xs e = sym (ap (λ (l : List ℕ). get_or l 0 0) e)

-- rows behind it stay
own_set : (n p : ℕ) (t : List ℕ) (x : ℕ) → 1 + 6 * n ≤ p → rows_back n p (set t 0 x) ≡ rows_back n p t
unfolding rows_back
own_set zero p t x h = refl
own_set (suc n) p t x h = rw (drop_set t x (p - 6) (omega arith), own_set n (p - 6) t x (omega arith))

sofar_set : (k n : ℕ) (t : List ℕ) (c : Counts) (x : ℕ) → Placed k n c → sofar_at (set t 0 x) n c ≡ sofar_at t n c
unfolding sofar_at letters_at pairs_at
sofar_set k n t c x p =
    λ i. record {
      letters = ap (λ (l : List ℕ). letters_at c.labels l) (drop_set t x 1 (omega arith)) i;
      pairs = ap (rows_at c.pairs) (drop_set t x (1 + 6 * c.labels) (omega arith)) i;
      scopes = c.scopes;
      rows = c.rows;
      own = own_set c.rows n t x p.rowed i;
    }

-- before any section
pub begin_taken : (text : List ℕ) → SomeTaken 0 text (record { next = 0; cells = 1; counts = no_counts })
unfolding room_before
begin_taken text = record { inside = omega arith; room = omega arith; placed = placed_start; lines = omega arith }

-- What the first sections leave, with nothing made before it: the table that they were read into
-- has a form's cell before it, and any other form may be put there.
module _ (text t : List ℕ) (r : Part) (o : Outcome Stage) (old : ℕ) (e : done (stage_at t r.cells r.counts (drop r.next text)) ≡ mapped (old ∷ []) o) where
  record Left : Type 0 where
    stage : Stage
    came : o ≡ done stage
    same : after (old ∷ []) stage ≡ stage_at t r.cells r.counts (drop r.next text)

  left : Left
  left =
      let d = mapped_done (old ∷ []) o (stage_at t r.cells r.counts (drop r.next text)) (sym e) in
      record { stage = d.0; came = d.1; same = d.2 }

  left_rest : left.stage.rest ≡ drop r.next text
  unfolding after stage_at
  left_rest = ap (λ (g : Stage). g.rest) left.same

  left_form : (k : ℕ) → Placed k r.cells r.counts → (form : ℕ) → after (form ∷ []) left.stage ≡ stage_at (set t 0 form) r.cells r.counts (drop r.next text)
  unfolding after stage_at
  left_form k placed form =
      let s = left.same in
      let made : take r.cells (set t 0 form) ≡ form ∷ left.stage.made = take_set t form r.cells old left.stage.made (sym (ap (λ (g : Stage). g.made) s)) in
      let sofar : left.stage.sofar ≡ sofar_at (set t 0 form) r.cells r.counts = ap (λ (g : Stage). g.sofar) s ∙ sym (sofar_set k r.cells t r.counts form placed) in
      λ i. record { sofar = sofar i; made = sym made i; rest = ap (λ (g : Stage). g.rest) s i }

  -- the form by what is left
  left_shown : (form k : ℕ) → form_after form k o ≡ form_shown form (read_names form k (drop r.next text))
  left_shown form k = shown_after form k o left.stage left.came ∙ ap (λ (s : List ℕ). form_shown form (read_names form k s)) left_rest

  -- going on in a form, by what is left
  left_on : (k : ℕ) → Placed k r.cells r.counts → (form : ℕ) (next : Stage → Outcome Stage)
      → and_then (mapped (form ∷ []) o) next ≡ next (stage_at (set t 0 form) r.cells r.counts (drop r.next text))
  unfolding mapped and_then
  left_on k placed form next = rw left.came (ap next (left_form k placed form))

  -- the first cell is still the form, after the sections that come next
  left_kept : (k : ℕ) → Placed k r.cells r.counts → (form more : ℕ) (q : Part) (u : List ℕ)
      → done (stage_at u q.cells q.counts (drop q.next text)) ≡ through_some (reading form) more k (stage_at (set t 0 form) r.cells r.counts (drop r.next text))
      → form_in u ≡ form
  unfolding after stage_at
  left_kept k placed form more q u f =
      let d = mapped_done (form ∷ []) (through_some (reading form) more k left.stage) (stage_at u q.cells q.counts (drop q.next text))
      (sym (onward_some (reading form) more k (form ∷ []) left.stage) ∙ ap (through_some (reading form) more k) (left_form k placed form) ∙ sym f) in
      first_taken u q.cells form d.0.made (ap (λ (g : Stage). g.made) d.2)

-- The first six sections, by what came of the first five.
abbrev five_of : List ℕ → Outcome Stage
five_of text = through_some (reading old_form) edge_section label_section (at_start [] text)

abbrev Six : List ℕ → Outcome Stage
Six text = through_some (reading (turns_in text)) 6 0 (at_start (turns_in text ∷ []) text)

six_by : (text : List ℕ) → Six text ≡ and_then (mapped (turns_in text ∷ []) (five_of text)) (through_some (reading (turns_in text)) 1 5)
six_by text =
    some_split (reading (turns_in text)) 5 1 6 0 5 (at_start (turns_in text ∷ []) text) refl refl
    ∙ ap (λ (o : Outcome Stage). and_then o (through_some (reading (turns_in text)) 1 5)) (some_made (turns_in text) 5 (turns_in text ∷ []) text ∙ ap (mapped (turns_in text ∷ [])) (read_alike (turns_in text) text))

module _ (t₀ text : List ℕ) (first : 0 < length t₀) where
  five_read : (o : Outcome Stage) → o ≡ through_some (reading old_form) 5 0 (stage_at (set t₀ 0 0) 1 no_counts text) → o ≡ mapped (old_form ∷ []) (five_of text)
  five_read o e = e ∙ ap (through_some (reading old_form) 5 0) (start_stage t₀ text first) ∙ some_made old_form 5 (old_form ∷ []) text

  -- one of the first five is refused
  pub five_refused : (m : ℕ) → refused m ≡ through_some (reading old_form) 5 0 (stage_at (set t₀ 0 0) 1 no_counts text) → refused m ≡ Six text
  unfolding mapped and_then
  five_refused m e = sym (six_by text ∙ rw (mapped_refused (old_form ∷ []) (five_of text) m (sym (five_read (refused m) e))))

  module _ (t : List ℕ) (r : Part) (e : done (stage_at t r.cells r.counts (drop r.next text)) ≡ through_some (reading old_form) 5 0 (stage_at (set t₀ 0 0) 1 no_counts text)) where
    five_done : done (stage_at t r.cells r.counts (drop r.next text)) ≡ mapped (old_form ∷ []) (five_of text)
    five_done = five_read _ e

    -- whether there are turns, by what is left
    pub turns_here : form_shown turn_form (read_names turn_form edge_section (drop r.next text)) ≡ turns_in text
    unfolding turns_in
    turns_here = sym (left_shown text t r (five_of text) old_form five_done turn_form edge_section)

    module _ (placed : Placed 5 r.cells r.counts) (form : ℕ) (known : form ≡ turns_in text) where
      -- the edges are read, or refused
      pub six_read : through_some (reading form) 1 5 (stage_at (set t 0 form) r.cells r.counts (drop r.next text)) ≡ Six text
      six_read =
          ap (λ (x : ℕ). through_some (reading x) 1 5 (stage_at (set t 0 x) r.cells r.counts (drop r.next text))) known
          ∙ sym (six_by text ∙ left_on text t r (five_of text) old_form five_done 5 placed (turns_in text) (through_some (reading (turns_in text)) 1 5))

      pub turns_kept : (q : Part) (u : List ℕ) → done (stage_at u q.cells q.counts (drop q.next text)) ≡ through_some (reading form) 1 5 (stage_at (set t 0 form) r.cells r.counts (drop r.next text)) → form_in u ≡ turns_in text
      turns_kept q u f = left_kept text t r (five_of text) old_form five_done 5 placed form 1 q u f ∙ known

      pub turns_told : (x : Result Part Refusal) (u : List ℕ) → part_outcome x u text ≡ through_some (reading form) 1 5 (stage_at (set t 0 form) r.cells r.counts (drop r.next text)) → IfOk x (λ q. form_in u ≡ turns_in text)
      unfolding part_outcome
      turns_told (Ok q) u f = turns_kept q u f
      turns_told (Err n) u f = tt

-- The nine sections, by what came of the first six.
abbrev six_of : List ℕ → Outcome Stage
six_of text = through_some (reading (turns_in text)) declaration_section label_section (at_start [] text)

abbrev Nine : List ℕ → Outcome Stage
Nine text = through_sections (reading (form_of text)) 9 0 (at_start (form_of text ∷ []) text)

nine_by : (text : List ℕ) → Nine text ≡ and_then (mapped (form_of text ∷ []) (six_of text)) (through_sections (reading (form_of text)) 3 6)
nine_by text =
    sections_split (reading (form_of text)) 6 3 9 0 6 (at_start (form_of text ∷ []) text) refl refl
    ∙ ap (λ (o : Outcome Stage). and_then o (through_sections (reading (form_of text)) 3 6)) (some_made (form_of text) 6 (form_of text ∷ []) text ∙ ap (mapped (form_of text ∷ [])) (upper_alike text))

-- one of the first six is refused
pub six_refused : (text : List ℕ) (m : ℕ) → refused m ≡ Six text → refused m ≡ Nine text
unfolding mapped and_then
six_refused text m e =
    sym (nine_by text ∙ rw (mapped_refused (turns_in text ∷ []) (six_of text) m (sym (e ∙ some_made (turns_in text) 6 (turns_in text ∷ []) text))))

module _ (text t : List ℕ) (r : Part) (e : done (stage_at t r.cells r.counts (drop r.next text)) ≡ Six text) where
  six_made : done (stage_at t r.cells r.counts (drop r.next text)) ≡ mapped (turns_in text ∷ []) (six_of text)
  six_made = e ∙ some_made (turns_in text) 6 (turns_in text ∷ []) text

  -- the form by what is left
  pub form_here : form_with (turns_in text) (form_shown kind_form (read_names kind_form declaration_section (drop r.next text))) ≡ form_of text
  unfolding has_turns kinds_in
  form_here = ⊎_elim unturned turned (turns_either text)
    where
      kinds : ℕ
      kinds = form_shown kind_form (read_names kind_form declaration_section (drop r.next text))

      unturned : turns_in text ≡ old_form → form_with (turns_in text) kinds ≡ form_of text
      unturned n =
          sym (without_turns (turns_in text) kinds (ap has_turns n))
          ∙ sym (left_shown text t r (six_of text) (turns_in text) six_made kind_form declaration_section)
          ∙ ap (λ (form : ℕ). form_after kind_form declaration_section (through_some (reading form) declaration_section label_section (at_start [] text))) n
          ∙ sym (form_unturned text n)

      turned : turns_in text ≡ turn_form → form_with (turns_in text) kinds ≡ form_of text
      turned n = sym (with_turns (turns_in text) kinds (ap has_turns n)) ∙ sym (form_turned text n)

  module _ (placed : Placed 6 r.cells r.counts) (form : ℕ) (known : form ≡ form_of text) where
    nine_last : (o : Outcome Stage) → o ≡ through_some (reading form) 3 6 (stage_at (set t 0 form) r.cells r.counts (drop r.next text)) → Nine text ≡ and_then o (through_sections (reading form) 0 9)
    nine_last o f =
        nine_by text
        ∙ left_on text t r (six_of text) (turns_in text) six_made 6 placed (form_of text) (through_sections (reading (form_of text)) 3 6)
        ∙ ap (λ (x : ℕ). through_sections (reading x) 3 6 (stage_at (set t 0 x) r.cells r.counts (drop r.next text))) (sym known)
        ∙ sections_split (reading form) 3 0 3 6 9 (stage_at (set t 0 form) r.cells r.counts (drop r.next text)) refl refl
        ∙ ap (λ (x : Outcome Stage). and_then x (through_sections (reading form) 0 9)) (sym f)

    -- one of the last three is refused
    pub last_refused : (m : ℕ) → refused m ≡ through_some (reading form) 3 6 (stage_at (set t 0 form) r.cells r.counts (drop r.next text)) → refused m ≡ Nine text
    unfolding and_then
    last_refused m f = sym (nine_last (refused m) f)

    module _ (q : Part) (u : List ℕ) (f : done (stage_at u q.cells q.counts (drop q.next text)) ≡ through_some (reading form) 3 6 (stage_at (set t 0 form) r.cells r.counts (drop r.next text))) where
      last_done : Nine text ≡ through_sections (reading form) 0 9 (stage_at u q.cells q.counts (drop q.next text))
      unfolding and_then
      last_done = nine_last _ f

      -- something is left, or nothing
      pub last_left : q.next < length text → refused 2 ≡ Nine text
      unfolding through_sections refuse_if is_empty stage_at
      last_left h = sym (last_done ∙ rw (drop-cons text q.next 0 h))

      pub last_over : length text ≤ q.next → done (stage_at u q.cells q.counts (drop q.next text)) ≡ Nine text
      unfolding through_sections refuse_if is_empty stage_at
      last_over h = sym (last_done ∙ rw (drop_of_length-le text {i = q.next} h))

      -- the first cell is still the form
      pub form_kept : form_in u ≡ form_of text
      form_kept = left_kept text t r (six_of text) (turns_in text) six_made 6 placed form 3 q u f ∙ known
