-- The parts of the output: how they are written, that they fit the room lent, that in turn they are
-- the whole. Assumes nothing.
use Prim.Native.Nat.{ℕ, zero, suc, ◌+◌, ◌-◌, ◌*◌, ◌^◌, ◌≤◌, ◌<◌}
use mathlib.Core.Path.{◌≡◌, refl, sym, ap, ◌∙◌, subst}
use mathlib.Core.Bool.{Bool, true, false}
use mathlib.Core.List.{List, [], ◌∷◌, ◌++◌, flat_map, append_assoc, append-nil}
use native.Mathlib.Omega.{arith}
use native.Mathlib.Numerals.{add-one}
use lib.Dec.{ltb}
use lib.ListN.{length, take, drop, length-append, drop_of_length-le}
use lib.Seq.{drop-cons, drop-drop, take_all, take-append_seam, drop-append_seam, take-take, take-add}
use borrow.Author.Tests.{lt-ltb, le-ltb, lt-leb, ltb-true, ltb-false}
use Rattle.scope_graph.specs.Graph.{Query}
use Rattle.scope_graph.specs.Rows.{language}
use Rattle.text_field.specs.Number.{number_text}
use Rattle.text_field.specs.Buffer.{Buf, puts}
use Rattle.text_field.proofs.NumberLaws.{length_below}
use Rattle.text_field.proofs.BufferLaws.{puts_fits}
use Rattle.text_field.specs.Outcome.{Outcome, refused, done, and_then, refuse_if}
use Rattle.graph_file.specs.File.{read_cells, WasRead}
use Rattle.text_field.specs.Answer.{answer, leaves, answer_of}
use Rattle.std.specs.declared.result.Result.{Result}
use Rattle.std.specs.declared.result.Result.TheVariants.{Ok, Err}
use Rattle.text_field.specs.declared.refusal.Refusal.{Refusal}
use Rattle.text_field.specs.Refusal.{number_of}
use Rattle.graph_rows.specs.Decode.{rules_of, queries_of}
use Rattle.graph_rows.proofs.DecodeWay.{done_is}
use Rattle.resolution.specs.Listing.{listing_text, listing_of, summary_of}
use Rattle.board.specs.Queries.{query_at}
use Rattle.resolution.specs.declared.sums.Figures.{Figures}
use Rattle.resolution.specs.Figures.{no_figures, figures_over, figures_text}
use Rattle.resolution.proofs.Buffers.{head_fits, short_answer, short_leaves, whole_answer, whole_leaves, own_within}
use Rattle.resolution.proofs.Counts.{queries_few, figures_few, figures_text_lem, summary_short}
use Rattle.printing.specs.Printed.{refused_line, in_place, lent, table_text, outcome_text, program_text, Due}
use Rattle.printing.specs.Parts.{answered, numbered, part_text}

-- a refusal's line is short
pub refused_short : (n : ℕ) → n < 18446744073709551616 → length (refused_line n) ≤ 32
unfolding refused_line
refused_short n h =
    let d = length_below 19 n (let z : 10 ^ 20 ≡ 100000000000000000000 = refl in rw z (omega arith)) in
    let l = length-append (number_text n) (10 ∷ []) in
    omega arith

-- what stands in the buffer after an answer
module _ (a : Result ℕ Refusal) (out mid : List ℕ) (b : Buf) (stands : b ≡ answered (numbered a) mid) where
  refused_place : (n : ℕ) → answer_of a ≡ refused n → mid ≡ out → b ≡ puts (out, 0) (refused_line n)
  unfolding answered numbered answer_of
  refused_place n e l = by a refl
    where
      by : (x : Result ℕ Refusal) → a ≡ x → b ≡ puts (out, 0) (refused_line n)
      by (Err m) f =
          let z : ◌≡◌ {A = Outcome ℕ} (refused (number_of m)) (refused n) = ap answer_of (sym f) ∙ e in
          let k : number_of m ≡ n = cc in
          stands ∙ ap (λ (y : Result ℕ Refusal). answered (numbered y) mid) f ∙ ap (λ (y : List ℕ). puts (y, 0) (refused_line (number_of m))) l ∙ ap (λ (y : ℕ). puts (out, 0) (refused_line y)) k
      by (Ok m) f =
          let z : ◌≡◌ {A = Outcome ℕ} (done m) (refused n) = ap answer_of (sym f) ∙ e in
          absurd (let y : ◌≡◌ {A = ℕ} 0 1 = cc in omega arith)

  done_place : (text : List ℕ) → length text ≤ length out → answer_of a ≡ done (length text) → mid ≡ text ++ drop (length text) out → b ≡ puts (out, 0) text
  unfolding answered numbered answer_of
  done_place text h e l = by a refl
    where
      by : (x : Result ℕ Refusal) → a ≡ x → b ≡ puts (out, 0) text
      by (Err m) f =
          let z : ◌≡◌ {A = Outcome ℕ} (refused (number_of m)) (done (length text)) = ap answer_of (sym f) ∙ e in
          absurd (let y : ◌≡◌ {A = ℕ} 0 1 = cc in omega arith)
      by (Ok m) f =
          let z : ◌≡◌ {A = Outcome ℕ} (done m) (done (length text)) = ap answer_of (sym f) ∙ e in
          let k : m ≡ length text = done_is z in
          let i : 0 + length text ≤ length out = omega arith in
          let d : 0 + length text ≡ length text = omega arith in
          stands ∙ ap (λ (y : Result ℕ Refusal). answered (numbered y) mid) f ∙ ap (λ (y : List ℕ). (y, m)) l ∙ ap (λ (y : ℕ). (text ++ drop (length text) out, y)) k
          ∙ sym (puts_fits out 0 text i ∙ ap (λ (y : ℕ). (text ++ drop y out, y)) d)

  -- the output, or its refusal's line in its place
  pub in_place_lem : (o : Outcome (List ℕ)) → answer_of a ≡ answer o (length out) → mid ≡ leaves o out → b ≡ puts (out, 0) (in_place (length out) o)
  unfolding in_place answer leaves and_then
  in_place_lem (refused n) e l = refused_place n e l
  in_place_lem (done text) e l = one (ltb (length out) (length text)) refl
    where
      one : (t : Bool) → ltb (length out) (length text) ≡ t → b ≡ puts (out, 0) (in_place (length out) (done text))
      one true t =
          let h = ltb-true (length out) (length text) t in
          rw (t, in_place) (refused_place 9 (e ∙ sym (short_answer text (length out) h)) (l ∙ sym (short_leaves text out h)))
      one false t =
          let h = ltb-false (length out) (length text) t in
          rw (t, in_place) (done_place text h (e ∙ sym (whole_answer text (length out) h)) (l ∙ sym (whole_leaves text out h)))

-- an output that fits is printed
pub done_fits : (room : ℕ) (text : List ℕ) → length text ≤ room → in_place room (done text) ≡ text
unfolding in_place
done_fits room text h = rw (le-ltb room (length text) h, in_place)

done_short : (room : ℕ) (text : List ℕ) → 32 ≤ room → length (in_place room (done text)) ≤ room
unfolding in_place
done_short room text h = one (ltb room (length text)) refl
  where
    one : (t : Bool) → ltb room (length text) ≡ t → length (in_place room (done text)) ≤ room
    one true t = let r = refused_short 9 (omega arith) in rw (t, in_place) (omega arith)
    one false t = rw (t, in_place) (ltb-false room (length text) t)

module _ (room : ℕ) (cells : List ℕ) (i : ℕ) where
  pub part_listing : i < length (queries_of cells) → part_text room cells i ≡ in_place room (listing_of cells i)
  unfolding part_text
  part_listing h = rw (lt-ltb i (length (queries_of cells)) h, part_text)

  pub part_summary : length (queries_of cells) ≤ i → part_text room cells i ≡ in_place room (done (summary_of cells))
  unfolding part_text
  part_summary h = rw (le-ltb i (length (queries_of cells)) h, part_text)

  part_query : i < length (queries_of cells) → part_text room cells i ≡ in_place room (done (listing_text cells (query_at cells i)))
  unfolding listing_of refuse_if
  part_query h = part_listing h ∙ ap (in_place room) (rw (lt-leb (length (queries_of cells)) i h))

  pub part_short : 32 ≤ room → length (part_text room cells i) ≤ room
  part_short h = one (ltb i (length (queries_of cells))) refl
    where
      one : (t : Bool) → ltb i (length (queries_of cells)) ≡ t → length (part_text room cells i) ≤ room
      one true t = rw (part_query (ltb-true i (length (queries_of cells)) t)) (done_short room (listing_text cells (query_at cells i)) h)
      one false t = rw (part_summary (ltb-false i (length (queries_of cells)) t)) (done_short room (summary_of cells) h)

-- so many parts from part i on, with so much room lent for each
unfoldable pub parts_text : ℕ → List ℕ → ℕ → ℕ → List ℕ
parts_text room cells zero i = []
parts_text room cells (suc left) i = part_text room cells i ++ parts_text room cells left (suc i)

-- of two texts due together the first is due, and the other behind it
module _ (text : List ℕ) (sent : ℕ) (x y : List ℕ) (d : Due text sent (x ++ y)) where
  pub due_first : Due text sent x
  due_first =
      let l = length-append x y in
      let out = drop sent (program_text text) in
      let p : take (length x) (take (length (x ++ y)) out) ≡ take (length x) out = take-take (length x) (length (x ++ y)) out (omega arith) in
      let q = d.counted in
      record { stands = sym (take-append_seam x y) ∙ ap (take (length x)) d.stands ∙ p; counted = omega arith }

  pub due_rest : Due text (sent + length x) y
  due_rest =
      let l = length-append x y in
      let q = d.counted in
      record { stands = sym (drop-append_seam x y) ∙ ap (drop (length x)) both ∙ drop-append_seam x behind ∙ ap (take (length y)) (drop-drop (length x) sent (program_text text)); counted = omega arith }
    where
      out : List ℕ
      out = drop sent (program_text text)

      behind : List ℕ
      behind = take (length y) (drop (length x) out)

      both : x ++ y ≡ x ++ behind
      both = d.stands ∙ ap (λ (k : ℕ). take k out) (length-append x y) ∙ take-add (length x) (length y) out ∙ ap (λ (t : List ℕ). t ++ behind) (sym due_first.stands)

-- the whole output is due at its start
pub due_whole : (text whole : List ℕ) → program_text text ≡ whole → length whole < 18446744073709551616 → Due text 0 whole
due_whole text whole e h =
    record { stands = sym (take_all (length whole) whole (omega arith)) ∙ ap (take (length whole)) (sym e); counted = omega arith }

-- a table that was read: its parts in turn are its whole output
module _ (cells : List ℕ) (was : WasRead cells) where
  abbrev Q : Type 0
  Q = Query (language (rules_of cells))

  abbrev listed : Q → List ℕ
  listed q = in_place lent (done (listing_text cells q))

  summary_fits : length (summary_of cells) ≤ lent
  summary_fits =
      let r = figures_over cells no_figures (queries_of cells) in
      let s = summary_short r (figures_few cells r refl was) in
      let t = ap length (figures_text_lem cells r refl) in
      omega arith

  from_part : (left i : ℕ) → left + i ≡ length (queries_of cells) → parts_text lent cells (suc left) i ≡ flat_map listed (drop i (queries_of cells)) ++ summary_of cells
  unfolding parts_text query_at flat_map
  from_part zero i e =
      append-nil (part_text lent cells i) ∙ part_summary lent cells i (omega arith) ∙ done_fits lent (summary_of cells) summary_fits
      ∙ ap (λ (qs : List Q). flat_map listed qs ++ summary_of cells) (sym (drop_of_length-le (queries_of cells) {i = i} (omega arith)))
  from_part (suc left) i e =
      let h : i < length (queries_of cells) = omega arith in
      let k : left + suc i ≡ length (queries_of cells) = omega arith in
      ap (λ (t : List ℕ). t ++ parts_text lent cells (suc left) (suc i)) (part_query lent cells i h)
      ∙ ap (λ (t : List ℕ). listed (query_at cells i) ++ t) (from_part left (suc i) k)
      ∙ sym (append_assoc (listed (query_at cells i)) (flat_map listed (drop (suc i) (queries_of cells))) (summary_of cells))
      ∙ ap (λ (qs : List Q). flat_map listed qs ++ summary_of cells) (sym (drop-cons (queries_of cells) i _ h))

  -- The parts, one for each query and one more, are the output.
  pub parts_whole : parts_text lent cells (suc (length (queries_of cells))) 0 ≡ table_text cells
  unfolding table_text
  parts_whole = from_part (length (queries_of cells)) 0 (omega arith)

  parts_size : (left i : ℕ) → length (parts_text lent cells left i) ≤ 65536 * left
  unfolding parts_text
  parts_size zero i = omega arith
  parts_size (suc left) i =
      let a = length-append (part_text lent cells i) (parts_text lent cells left (suc i)) in
      let s = part_short lent cells i (omega arith) in
      let r = parts_size left (suc i) in
      omega arith

  pub table_counted : length (table_text cells) < 18446744073709551616
  table_counted =
      let s = parts_size (suc (length (queries_of cells))) 0 in
      let w = ap length parts_whole in
      let q = queries_few cells was in
      omega arith

  -- in a loop over n queries, where the parts left are due at the place reached
  module _ (n : ℕ) (counted : n ≡ length (queries_of cells)) where
    abbrev left : ℕ → List ℕ
    left i = parts_text lent cells (n + 1 - i) i

    left_all : left 0 ≡ table_text cells
    left_all = let z : n + 1 - 0 ≡ suc (length (queries_of cells)) = omega arith in rw z parts_whole

    left_next : (i : ℕ) → i ≤ n → left i ≡ part_text lent cells i ++ left (i + 1)
    unfolding parts_text
    left_next i h =
        let z : n + 1 - i ≡ suc (n + 1 - (i + 1)) = omega arith in
        rw (z, parts_text) (ap (λ (k : ℕ). part_text lent cells i ++ parts_text lent cells (n + 1 - (i + 1)) k) (sym (add-one i)))

    pub size_start : length (left 0) ≡ length (table_text cells)
    size_start = ap length left_all

    pub size_turn : (i : ℕ) → i ≤ n → length (left i) ≡ length (part_text lent cells i) + length (left (i + 1))
    size_turn i h = ap length (left_next i h) ∙ length-append (part_text lent cells i) (left (i + 1))

    -- after the last listing the summary of its figures is left
    module _ (c : Figures) (e : c ≡ figures_over cells no_figures (queries_of cells)) (i : ℕ) (h : i ≡ n) where
      last_is : part_text lent cells i ≡ in_place lent (done (figures_text c))
      last_is = part_summary lent cells i (omega arith) ∙ ap (λ (t : List ℕ). in_place lent (done t)) (sym (figures_text_lem cells c e))

      left_last : left i ≡ in_place lent (done (figures_text c))
      unfolding parts_text
      left_last =
          let z : n + 1 - (i + 1) ≡ 0 = omega arith in
          left_next i (omega arith) ∙ rw (z, parts_text) (append-nil (part_text lent cells i)) ∙ last_is

      pub size_last : length (left i) ≡ length (in_place lent (done (figures_text c)))
      size_last = ap length left_last

      pub due_last : (text : List ℕ) (sent : ℕ) → Due text sent (left i) → Due text sent (in_place lent (done (figures_text c)))
      due_last text sent d = subst (Due text sent) left_last d

    module _ (text : List ℕ) (sent : ℕ) where
      pub due_start : Due text sent (table_text cells) → Due text sent (left 0)
      due_start d = subst (Due text sent) (sym left_all) d

      module _ (i : ℕ) (h : i ≤ n) (d : Due text sent (left i)) where
        split : Due text sent (part_text lent cells i ++ left (i + 1))
        split = subst (Due text sent) (left_next i h) d

        pub due_part : Due text sent (part_text lent cells i)
        due_part = due_first text sent (part_text lent cells i) (left (i + 1)) split

        pub due_turn : (next : ℕ) → next ≡ sent + length (part_text lent cells i) → Due text next (left (i + 1))
        due_turn next e = subst (λ (k : ℕ). Due text k (left (i + 1))) (sym e) (due_rest text sent (part_text lent cells i) (left (i + 1)) split)

-- a text that is refused, and one that is read
pub for_refused : (text : List ℕ) (n : ℕ) → read_cells text ≡ refused n → program_text text ≡ refused_line n
unfolding program_text outcome_text
for_refused text n e = ap outcome_text e

pub for_read : (text cells : List ℕ) → read_cells text ≡ done cells → program_text text ≡ table_text cells
unfolding program_text outcome_text
for_read text cells e = ap outcome_text e

pub refused_due : (text : List ℕ) (n : ℕ) → read_cells text ≡ refused n → n < 18446744073709551616 → Due text 0 (refused_line n)
refused_due text n e h = due_whole text (refused_line n) (for_refused text n e) (let s = refused_short n h in omega arith)

pub read_due : (text cells : List ℕ) → read_cells text ≡ done cells → Due text 0 (table_text cells)
read_due text cells e = due_whole text (table_text cells) (for_read text cells e) (table_counted cells (text, e))

-- a text that stands in the first k bytes of a buffer, and so is due where the text is
pub record Stands (text h : List ℕ) (k : ℕ) : Type 0 where
  pub within : k ≤ length h
  pub taken : k ≡ length (take k h)
  pub whole : take k h ≡ text
  pub size : k ≡ length text

pub stands_due : (text : List ℕ) (sent : ℕ) (piece h : List ℕ) (k : ℕ) → Stands piece h k → Due text sent piece → Due text sent (take k h)
stands_due text sent piece h k s d = subst (Due text sent) (sym s.whole) d

pub stands : (text o h : List ℕ) (k : ℕ) → ◌≡◌ {A = Buf} (h, k) (puts (o, 0) text) → length text ≤ length o → Stands text h k
stands text o h k e fits =
    let w = own_within text o h k e fits in
    let f = head_fits o h k text e fits in
    record { within = w.0; taken = w.1; whole = f.1; size = f.0 }

-- an output in a buffer of the room that the program lends, whatever stood in it
module _ (x : Outcome (List ℕ)) (short : length (in_place lent x) ≤ lent) (o h : List ℕ) (k : ℕ) (room : length o ≡ lent)
    (e : ◌≡◌ {A = Buf} (h, k) (puts (o, 0) (in_place (length o) x))) where
  place_put : ◌≡◌ {A = Buf} (h, k) (puts (o, 0) (in_place lent x))
  place_put = e ∙ ap (λ (n : ℕ). puts (o, 0) (in_place n x)) room

  pub place_stands : Stands (in_place lent x) h k
  place_stands = stands (in_place lent x) o h k place_put (omega arith)

  pub place_left_lem : h ≡ (puts (o, 0) (in_place lent x)).0
  place_left_lem = ap (λ (b : Buf). b.0) place_put

-- the listing of query i
module _ (cells : List ℕ) (i : ℕ) (inside : i < length (queries_of cells)) (o h : List ℕ) (k : ℕ) (room : length o ≡ lent)
    (e : ◌≡◌ {A = Buf} (h, k) (puts (o, 0) (in_place (length o) (listing_of cells i)))) where
  listing_short : length (in_place lent (listing_of cells i)) ≤ lent
  listing_short = let s = part_short lent cells i (omega arith) in let p = ap length (part_listing lent cells i inside) in omega arith

  pub listing_stands : Stands (part_text lent cells i) h k
  listing_stands = rw (part_listing lent cells i inside) (place_stands (listing_of cells i) listing_short o h k room e)

  pub listing_left : h ≡ (puts (o, 0) (part_text lent cells i)).0
  listing_left = rw (part_listing lent cells i inside) (place_left_lem (listing_of cells i) listing_short o h k room e)

-- the summary of figures
module _ (c : Figures) (o h : List ℕ) (k : ℕ) (room : length o ≡ lent) (e : ◌≡◌ {A = Buf} (h, k) (puts (o, 0) (in_place (length o) (done (figures_text c))))) where
  pub summary_stands : Stands (in_place lent (done (figures_text c))) h k
  summary_stands = place_stands (done (figures_text c)) (done_short lent (figures_text c) (omega arith)) o h k room e

  pub summary_left_in : h ≡ (puts (o, 0) (in_place lent (done (figures_text c)))).0
  summary_left_in = place_left_lem (done (figures_text c)) (done_short lent (figures_text c) (omega arith)) o h k room e

pub line_stands : (n : ℕ) → n < 18446744073709551616 → (o h : List ℕ) (k : ℕ) → length o ≡ 32 → ◌≡◌ {A = Buf} (h, k) (puts (o, 0) (refused_line n)) → Stands (refused_line n) h k
line_stands n small o h k room e = stands (refused_line n) o h k e (let s = refused_short n small in omega arith)
