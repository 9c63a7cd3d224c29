-- A listing is its head and its rows; how it is refused and written. Assumes nothing.
use Prim.Native.Nat.{ℕ, zero, suc, ◌+◌, ◌-◌, ◌^◌, ◌≤◌, ◌<◌}
use mathlib.Core.Path.{◌≡◌, refl, sym, ap, ◌∙◌}
use mathlib.Core.Bool.{true, false, not}
use mathlib.Core.Option.{Option, some, none}
use mathlib.Core.List.{List, [], ◌∷◌, ◌++◌, append_assoc}
use native.Mathlib.Omega.{arith}
use borrow.Author.Tests.{le-leb, lt-leb}
use borrow.Author.Tests as tests
use lib.ListN.{length, take, drop, length-append}
use lib.Seq.{take_at}
use Rattle.scope_graph.specs.Language.{Language}
use Rattle.scope_graph.specs.Graph.{Query, OpenPair}
use Rattle.scope_graph.specs.Rows.{PackedName, language}
use Rattle.scope_graph.specs.Order.{end_of}
use Rattle.scope_graph.specs.Completion.{PairBefore}
use Rattle.scope_graph.specs.Computed.{Found, found_none, found_one, found_several, followed_at, awaits}
use Rattle.scope_graph.proofs.Lists.{first_of_some}
use Rattle.text_field.specs.Number.{number_text}
use Rattle.text_field.specs.Buffer.{Buf, puts}
use Rattle.text_field.specs.Outcome.{Outcome, refused, done, and_then, refuse_if}
use Rattle.text_field.specs.Answer.{answer, leaves}
use Rattle.text_field.proofs.NumberLaws.{length_below}
use Rattle.text_field.proofs.CellLaws.{name_length}
use Rattle.text_field.proofs.BufferLaws.{puts_fits, puts_append, puts_length}
use Rattle.graph_rows.specs.Decode.{rules_of, graph_of, letters_of, opens_of, queries_of}
use Rattle.graph_file.specs.File.{WasRead}
use Rattle.block.specs.Ask.{ask_start, ask_name}
use Rattle.graph_table.specs.declared.sections.Form.{Form}
use Rattle.graph_table.specs.declared.sections.Form.TheVariants.{Old, Kinds}
use Rattle.graph_table.specs.Sections.{table_form}
use Rattle.board.specs.Made.{Made}
use Rattle.board.specs.Queries.{query_at}
use Rattle.follow.specs.declared.Bounds.{Bounds}
use Rattle.follow.specs.declared.Seen.TheVariants.{None}
use Rattle.follow.specs.Text.{head_line, seek_columns, rows_line, found_text, letter_of, end_text}
use Rattle.follow.specs.Tally as tally
use Rattle.follow.specs.Tally.{Taken, State, fits, take_rows}
use Rattle.follow.specs.Walk.{letter_bytes}
use Rattle.follow.proofs.TakeLaws.{fits_true, fits_false}
use Rattle.follow.proofs.TallyLaws.{joined, rows_text, tallied}
use Rattle.resolution.specs.declared.text.Found as told
use Rattle.std.specs.declared.option.Option.{Option as Maybe}
use Rattle.std.specs.declared.option.Option.TheVariants.{Some, None as Nothing}
use Rattle.graph_table.specs.declared.rows.OpenRow.{OpenRow}
use Rattle.resolution.specs.Listing.{awaits_text, shown_text, found_for, entries_text, listing_text, listing_of, found_at}
use Rattle.resolution.specs.Asked.{Ready, query_in, entries_taken, found_meaning, awaits_meaning, awaits_bytes, query_text, head_text, query_head}
use Rattle.resolution.proofs.Given.{letters_same}
use Rattle.board.proofs.Queries.{accepted}
use Rattle.resolution.proofs.Answers.{texts_joined}
use Rattle.resolution.proofs.Buffers.{head_fits, length_take_most, short_answer, short_leaves, whole_put}

-- the head that is written is the query's
module _ (cells block : List ℕ) (was : WasRead cells) (made : Made cells block) where
  end_same : (n : ℕ) → end_text (letter_bytes block) (end_of n) ≡ end_text (letters_of cells) (end_of n)
  unfolding end_text end_of letter_of
  end_same zero = refl
  end_same (suc l) = letters_same cells was block made l

  awaits_same : (a : Maybe OpenRow) → awaits_bytes block a ≡ awaits_text cells (awaits_meaning cells a)
  unfolding awaits_bytes awaits_text awaits_meaning
  awaits_same Nothing = refl
  awaits_same (Some o) = ap (λ (x : ℕ). number_text o.at ++ (x ∷ [])) (end_same o.end)

  pub head_is : (ask : List ℕ) (f : told.Found) (a : Maybe OpenRow) (b c : Buf) → found_meaning f ≡ found_for cells (query_in cells ask)
      → awaits_meaning cells a ≡ awaits (language (rules_of cells)) (graph_of cells) (query_in cells ask) (opens_of cells)
      → c ≡ puts b (head_text (table_form cells) block ask f a) → c ≡ puts b (query_head cells ask)
  unfolding head_text query_head
  head_is ask f a b c g m e =
      e
      ∙ ap (λ (x : Found). puts b (query_text (table_form cells) ask ++ (found_text x ++ (32 ∷ (awaits_bytes block a ++ (10 ∷ rows_line)))))) g
      ∙ ap (λ (x : List ℕ). puts b (query_text (table_form cells) ask ++ (found_text (found_for cells (query_in cells ask)) ++ (32 ∷ (x ++ (10 ∷ rows_line)))))) (awaits_same a ∙ ap (awaits_text cells) m)

-- a listing is its head and its rows
parts : (n m f w r e : List ℕ) → n ++ (32 ∷ (m ++ (32 ∷ (f ++ (32 ∷ (w ++ (10 ∷ (r ++ e)))))))) ≡ ((n ++ (32 ∷ (m ++ (32 ∷ [])))) ++ (f ++ (32 ∷ (w ++ (10 ∷ r))))) ++ e
parts n m f w r e =
    sym (append_assoc (n ++ (32 ∷ (m ++ (32 ∷ [])))) (f ++ (32 ∷ (w ++ (10 ∷ r)))) e
    ∙ append_assoc n (32 ∷ (m ++ (32 ∷ []))) ((f ++ (32 ∷ (w ++ (10 ∷ r)))) ++ e)
    ∙ ap (λ (l : List ℕ). n ++ (32 ∷ l)) (append_assoc m (32 ∷ []) ((f ++ (32 ∷ (w ++ (10 ∷ r)))) ++ e))
    ∙ ap (λ (l : List ℕ). n ++ (32 ∷ (m ++ (32 ∷ l)))) (append_assoc f (32 ∷ (w ++ (10 ∷ r))) e)
    ∙ ap (λ (l : List ℕ). n ++ (32 ∷ (m ++ (32 ∷ (f ++ (32 ∷ l)))))) (append_assoc w (10 ∷ r) e))

-- and with its first line, l
line_parts : (l n m f w r e : List ℕ) → l ++ (n ++ (32 ∷ (m ++ (32 ∷ (f ++ (32 ∷ (w ++ (10 ∷ (r ++ e)))))))))
    ≡ ((l ++ (n ++ (32 ∷ (m ++ (32 ∷ []))))) ++ (f ++ (32 ∷ (w ++ (10 ∷ r))))) ++ e
line_parts l n m f w r e =
    let q : List ℕ = n ++ (32 ∷ (m ++ (32 ∷ []))) in
    let b : List ℕ = f ++ (32 ∷ (w ++ (10 ∷ r))) in
    ap (λ (x : List ℕ). l ++ x) (parts n m f w r e) ∙ sym (append_assoc l (q ++ b) e) ∙ ap (λ (x : List ℕ). x ++ e) (sym (append_assoc l q b))

-- a query of a table that was read starts at one of its scopes; what stands above its rows is short
module _ (cells block ask : List ℕ) (ready : Ready cells block ask) where
  abbrev L : Language
  L = language (rules_of cells)

  abbrev q : Query L
  q = query_in cells ask

  abbrev rows : List Taken
  rows = entries_taken cells q

  abbrev head : List ℕ
  head = query_head cells ask

  abbrev T : List ℕ
  T = listing_text cells q

  listing_parts : T ≡ head ++ joined rows
  unfolding listing_text shown_text entries_text query_head query_text
  listing_parts =
      line_parts (head_line (table_form cells)) (number_text (ask_start ask)) (seek_columns (table_form cells) (ask_name ask)) (found_text (found_for cells q)) (awaits_text cells (awaits L (graph_of cells) q (opens_of cells))) rows_line (entries_text cells q)
      ∙ ap (λ (l : List ℕ). head ++ l) (sym (texts_joined cells q))

  two_digits : (v : ℕ) → v < 64 → length (number_text v) ≤ 2
  two_digits v h = length_below 1 v (let z : 10 ^ 2 ≡ 100 = refl in rw z (omega arith))

  awaited_short : (o : Option (OpenPair L)) → awaits L (graph_of cells) q (opens_of cells) ≡ o → length (awaits_text cells o) ≤ 3
  unfolding awaits_text awaits
  awaited_short none e = omega arith
  awaited_short (some o) e =
      let t = accepted cells ready.asked.read in
      let i = (first_of_some (followed_at L (graph_of cells) q) (PairBefore L) (opens_of cells) {a = o} (t.accepted q ready.asked.starts).opens_ascend e).0 in
      let m = t.scopes_most in
      let n = t.open_at o i in
      let d = two_digits o.at (omega arith) in
      let k = length-append (number_text o.at) (end_text (letters_of cells) o.end ∷ []) in
      omega arith

  found_short : (f : Found) → length (found_text f) ≤ 7
  unfolding found_text
  found_short found_none = omega arith
  found_short found_one = omega arith
  found_short found_several = omega arith

  line_short : (form : Form) → length (head_line form) ≤ 29
  line_short Old = omega arith
  line_short Kinds = omega arith

  seek_short : (form : Form) (x : PackedName) → length (seek_columns form x) ≤ 18
  seek_short Old x = let n = name_length x.high x.low in omega arith
  seek_short Kinds x = let n = name_length x.high x.low in omega arith

  head_short : length head ≤ 128
  unfolding query_head query_text
  head_short =
      let w : List ℕ = awaits_text cells (awaits L (graph_of cells) q (opens_of cells)) in
      let r : List ℕ = found_text (found_for cells q) ++ (32 ∷ (w ++ (10 ∷ rows_line))) in
      let h : List ℕ = head_line (table_form cells) in
      let k : List ℕ = seek_columns (table_form cells) (ask_name ask) in
      let s : List ℕ = number_text (ask_start ask) ++ (32 ∷ (k ++ (32 ∷ []))) in
      let m = (accepted cells ready.asked.read).scopes_most in
      let b = ready.asked.starts in
      let d = two_digits (ask_start ask) (omega arith) in
      let n = seek_short (table_form cells) (ask_name ask) in
      let o = line_short (table_form cells) in
      let f = found_short (found_for cells q) in
      let v = awaited_short (awaits L (graph_of cells) q (opens_of cells)) refl in
      let l0 = length-append h s in
      let l1 = length-append (h ++ s) r in
      let l2 = length-append (number_text (ask_start ask)) (32 ∷ (k ++ (32 ∷ []))) in
      let l3 = length-append k (32 ∷ []) in
      let l4 = length-append (found_text (found_for cells q)) (32 ∷ (w ++ (10 ∷ rows_line))) in
      let l5 = length-append w (10 ∷ rows_line) in
      omega arith

  size_is : length T ≡ length head + length (joined rows)
  size_is = ap length listing_parts ∙ length-append head (joined rows)

  list_short : (out : List ℕ) → length out < length T → (refused 9 ≡ answer (done T) (length out)) × (out ≡ leaves (done T) out)
  list_short out h = (short_answer T (length out) h, short_leaves T out h)

  -- the rows are tallied, with all of the room for their limit
  module _ (out mem : List ℕ) (b : Bounds) (limit : b.limit ≡ length out) (st : State) (taken : st ≡ take_rows b (mem, tally.none) rows) where
    over_is : st.1.over ≡ not (fits b.limit 0 (length (joined rows)))
    over_is = ap (λ (s : State). s.1.over) taken ∙ (tallied b mem rows).over

    -- they alone are too long
    pub list_over : st.1.over ≡ true → (refused 9 ≡ answer (done T) (length out)) × (out ≡ leaves (done T) out)
    list_over e =
        let g : b.limit < 0 + length (joined rows) = fits_false b.limit 0 (length (joined rows)) (tests.not-true (fits b.limit 0 (length (joined rows))) (sym over_is ∙ e)) in
        let z = size_is in
        list_short out (omega arith)

    module _ (still : st.1.over ≡ false) where
      room : length (joined rows) ≤ length out
      room =
          let g : 0 + length (joined rows) ≤ b.limit = fits_true b.limit 0 (length (joined rows)) (tests.not-false (fits b.limit 0 (length (joined rows))) (sym over_is ∙ still)) in
          omega arith

      measured : st.1.bytes ≡ length (joined rows)
      measured = ap (λ (s : State). s.1.bytes) taken ∙ (tallied b mem rows).bytes (let g = room in omega arith)

      -- no sum passes the room
      pub rows_room : st.1.bytes ≤ length out
      rows_room = let r = room in let m = measured in omega arith

      -- the head was written to bytes of its own
      module _ (o h : List ℕ) (n : ℕ) (own : length o ≡ 128) (written : ◌≡◌ {A = Buf} (h, n) (puts (o, 0) head)) where
        head_fit : (n ≡ length head) × (take n h ≡ head)
        head_fit = head_fits o h n head written (let s = head_short in omega arith)

        pub head_within : (n ≤ length h) × (n ≡ length (take n h))
        head_within =
            let x = head_fit in
            let y : n ≡ length (take n h) = x.0 ∙ ap length (sym x.1) in
            let l = length_take_most n h in
            (omega arith, y)

        -- the head does not fit what the rows leave
        pub list_no_head : length out - st.1.bytes < n → (refused 9 ≡ answer (done T) (length out)) × (out ≡ leaves (done T) out)
        list_no_head l =
            let k = head_fit.0 in
            let z = size_is in
            let m = measured in
            let r = room in
            list_short out (omega arith)

        module _ (enough : n ≤ length out - st.1.bytes) where
          all_fits : length head + length (joined rows) ≤ length out
          all_fits = let k = head_fit.0 in let m = measured in let r = room in omega arith

          pub sum_room : n + st.1.bytes ≤ length out
          sum_room = let k = head_fit.0 in let m = measured in let r = all_fits in omega arith

          whole : (c : Buf) → c ≡ puts (puts (out, 0) head) (joined rows) → (done (n + st.1.bytes) ≡ answer (done T) (length out)) × (c.0 ≡ leaves (done T) out)
          whole c e =
              let all : c ≡ puts (out, 0) T = e ∙ sym (puts_append (out, 0) head (joined rows)) ∙ ap (puts (out, 0)) (sym listing_parts) in
              let z = size_is in
              let f = all_fits in
              let i : 0 + length T ≤ length out = omega arith in
              let place : c.1 ≡ 0 + length T = ap (λ (d : Buf). d.1) (all ∙ puts_fits out 0 T i) in
              let k = head_fit.0 in
              let m = measured in
              let r : n + st.1.bytes ≡ c.1 = omega arith in
              let w = whole_put T out c.0 c.1 (omega arith) all in
              (ap {B = Outcome ℕ} (λ (d : ℕ). done d) r ∙ w.0, w.1)

          -- the head is copied first
          module _ (c : Buf) (copied : c ≡ puts (out, 0) (take n h)) where
            head_copied : c ≡ puts (out, 0) head
            head_copied = copied ∙ ap (puts (out, 0)) head_fit.1

            place_is : c.1 ≡ n
            place_is =
                let f = all_fits in
                let k = head_fit.0 in
                let i : 0 + length head ≤ length out = omega arith in
                let p : c.1 ≡ 0 + length head = ap (λ (d : Buf). d.1) (head_copied ∙ puts_fits out 0 head i) in
                omega arith

            behind : ◌≡◌ {A = Buf} (c.0, n) c
            behind = ap (λ (k : ℕ). (c.0, k)) (sym place_is)

            -- the rows that were kept are all, and are copied behind it
            pub list_kept : st.1.bytes ≤ b.kept → st.1.bytes ≤ length mem → (d : Buf) → d ≡ puts (c.0, n) (take st.1.bytes st.0)
                → (done (n + st.1.bytes) ≡ answer (done T) (length out)) × (d.0 ≡ leaves (done T) out)
            list_kept k w d e =
                let m = measured in
                let r = room in
                let text : take st.1.bytes st.0 ≡ joined rows =
                rw m (ap (λ (s : State). take (length (joined rows)) s.0) taken
                ∙ ap (take (length (joined rows))) ((tallied b mem rows).text (omega arith) (omega arith) (omega arith))
                ∙ take_at (joined rows) (drop (length (joined rows)) mem) (length (joined rows)) refl) in
                whole d (e ∙ ap (puts (c.0, n)) text ∙ ap (λ (s : Buf). puts s (joined rows)) (behind ∙ head_copied))

            -- or they are too long to be kept, and a second walk writes them there
            pub list_again : (a : Bounds) → a.limit ≡ length out → a.kept ≡ length out → (d : State)
                → d ≡ take_rows a (c.0, record { bytes = n; entries = 0; over = false; seen = None }) rows
                → (done (n + st.1.bytes) ≡ answer (done T) (length out)) × (d.0 ≡ leaves (done T) out)
            list_again a x y d e =
                let f = all_fits in
                let k = head_fit.0 in
                let same : length c.0 ≡ length out = ap (λ (z : Buf). length z.0) head_copied ∙ puts_length head (out, 0) in
                let text : d.0 ≡ (puts (c.0, n) (joined rows)).0 =
                ap (λ (s : State). s.0) e ∙ rows_text a (c.0, record { bytes = n; entries = 0; over = false; seen = None }) rows refl (omega arith) (omega arith) (omega arith) in
                let w = whole (puts (c.0, n) (joined rows)) (ap (λ (s : Buf). puts s (joined rows)) (behind ∙ head_copied)) in
                (w.0, text ∙ w.1)

-- query i of a table
pub listing_inside : (cells : List ℕ) (i : ℕ) → i < length (queries_of cells) → listing_of cells i ≡ done (listing_text cells (query_at cells i))
unfolding listing_of refuse_if
listing_inside cells i h = rw (lt-leb (length (queries_of cells)) i h)

pub found_inside : (cells : List ℕ) (i : ℕ) → i < length (queries_of cells) → found_at cells i ≡ found_for cells (query_at cells i)
unfolding found_at
found_inside cells i h = rw (lt-leb (length (queries_of cells)) i h, found_at)

pub no_query_lem : (cells : List ℕ) (i : ℕ) → length (queries_of cells) ≤ i → (out : List ℕ)
    → (refused 7 ≡ answer (listing_of cells i) (length out)) × ((out ≡ leaves (listing_of cells i) out) × (found_none ≡ found_at cells i))
unfolding listing_of found_at answer leaves and_then refuse_if
no_query_lem cells i h out = rw (le-leb (length (queries_of cells)) i h, found_at) (refl, (refl, refl))

pub query_listed : (cells : List ℕ) (i : ℕ) → i < length (queries_of cells) → (z : Query (language (rules_of cells))) → z ≡ query_at cells i → (r : Outcome ℕ) (o out : List ℕ) (f : Found)
    → (r ≡ answer (done (listing_text cells z)) (length out)) × ((o ≡ leaves (done (listing_text cells z)) out) × (f ≡ found_for cells z))
    → (r ≡ answer (listing_of cells i) (length out)) × ((o ≡ leaves (listing_of cells i) out) × (f ≡ found_at cells i))
query_listed cells i h z is r o out f e =
    let l : done (listing_text cells z) ≡ listing_of cells i = ap {B = Outcome (List ℕ)} (λ (y : Query (language (rules_of cells))). done (listing_text cells y)) is ∙ sym (listing_inside cells i h) in
    (e.0 ∙ ap (λ (y : Outcome (List ℕ)). answer y (length out)) l, (e.1.0 ∙ ap (λ (y : Outcome (List ℕ)). leaves y out) l, e.1.1 ∙ ap (found_for cells) is ∙ sym (found_inside cells i h)))
