-- One listing taken apart, step by step, and the listings of all queries. Assumes nothing.
use Prim.Native.Nat.{ℕ, ◌+◌, ◌≤◌, ◌<◌}
use mathlib.Core.Path.{◌≡◌, refl, sym, ap, ◌∙◌, subst}
use mathlib.Core.Bool.{not}
use mathlib.Core.Option.{Option}
use mathlib.Core.List.{List, [], ◌∷◌}
use native.Mathlib.Numerals.{add-one}
use native.Mathlib.Omega.{arith}
use lib.Dec.{leb}
use lib.ListN.{length, drop, length-drop, drop_of_length-le}
use lib.Seq.{drop-cons}
use borrow.Author.Tests.{le-leb, lt-leb}
use Rattle.std.specs.declared.option.Option.{Option as Maybe}
use Rattle.std.specs.declared.option.Option.TheVariants.{Some, None as Nothing}
use Rattle.scope_graph.specs.Graph.{Query}
use Rattle.scope_graph.specs.Rows.{PackedName, language}
use Rattle.scope_graph.specs.Computed.{Found}
use Rattle.text_field.specs.Outcome.{Outcome, refused, done, and_then, refuse_if}
use Rattle.graph_rows.specs.Way.{is_empty}
use Rattle.graph_rows.specs.Decode.{rules_of, queries_of}
use Rattle.graph_table.specs.declared.sections.Form.{Form}
use Rattle.graph_table.specs.Sections.{table_form}
use Rattle.board.specs.Queries.{query_at}
use Rattle.follow.specs.Text.{head_line, rows_line}
use Rattle.told.specs.declared.listing.Listing.{Listing}
use Rattle.resolution.specs.declared.text.Found as code
use Rattle.resolution.specs.Asked.{found_meaning}
use Rattle.told.specs.Delivered.{NamedPair, Delivered}
use Rattle.told.specs.Apart.{after, found_here, awaits_here, rows_in, query_columns, listing_here, told_from}
use Rattle.told.specs.Steps.{word_meaning, named_meaning, awaits_meaning, listing_at, listing_meaning, RowsSpan, ListingSpan, is_done}

-- what the answers of its readers tell
module _ (s t : List ℕ) (r : Maybe (code.Found × ℕ)) (e : word_meaning s r ≡ found_here t) where
  pub word_at : (f : code.Found) (next : ℕ) → r ≡ Some (f, next) → found_here t ≡ done (found_meaning f, drop next s)
  unfolding word_meaning
  word_at f next g = sym e ∙ ap (word_meaning s) g

  pub word_absent : r ≡ Nothing → found_here t ≡ refused 10
  unfolding word_meaning
  word_absent g = sym e ∙ ap (word_meaning s) g

module _ (s t : List ℕ) (r : Maybe (Maybe (ℕ × ℕ) × ℕ)) (e : awaits_meaning s r ≡ awaits_here t) where
  pub awaits_at : (a : Maybe (ℕ × ℕ)) (next : ℕ) → r ≡ Some (a, next) → awaits_here t ≡ done (named_meaning a, drop next s)
  unfolding awaits_meaning
  awaits_at a next g = sym e ∙ ap (awaits_meaning s) g

  pub awaits_absent : r ≡ Nothing → awaits_here t ≡ refused 10
  unfolding awaits_meaning
  awaits_absent g = sym e ∙ ap (awaits_meaning s) g

-- each part may be missing
module _ (form : Form) (start : ℕ) (name : PackedName) (t : List ℕ) where
  pub no_names : after (head_line form) t ≡ refused 10 → refused 10 ≡ listing_here form start name t
  unfolding listing_here and_then
  no_names e = rw e

  module _ (t1 : List ℕ) (e1 : after (head_line form) t ≡ done t1) where
    pub no_query_lem : after (query_columns form start name) t1 ≡ refused 10 → refused 10 ≡ listing_here form start name t
    unfolding listing_here and_then
    no_query_lem e = rw (e1, e)

    module _ (t2 : List ℕ) (e2 : after (query_columns form start name) t1 ≡ done t2) where
      pub no_word : found_here t2 ≡ refused 10 → refused 10 ≡ listing_here form start name t
      unfolding listing_here and_then
      no_word e = rw (e1, e2, e)

      module _ (f : Found) (t3 : List ℕ) (e3 : found_here t2 ≡ done (f, t3)) where
        pub no_space : after (32 ∷ []) t3 ≡ refused 10 → refused 10 ≡ listing_here form start name t
        unfolding listing_here and_then
        no_space e = rw (e1, e2, e3, e)

        module _ (t4 : List ℕ) (e4 : after (32 ∷ []) t3 ≡ done t4) where
          pub no_awaits : awaits_here t4 ≡ refused 10 → refused 10 ≡ listing_here form start name t
          unfolding listing_here and_then
          no_awaits e = rw (e1, e2, e3, e4, e)

          module _ (a : Option NamedPair) (t5 : List ℕ) (e5 : awaits_here t4 ≡ done (a, t5)) where
            pub no_title : after (10 ∷ rows_line) t5 ≡ refused 10 → refused 10 ≡ listing_here form start name t
            unfolding listing_here and_then
            no_title e = rw (e1, e2, e3, e4, e5, e)

            pub all_parts : (t6 : List ℕ) → after (10 ∷ rows_line) t5 ≡ done t6
                → listing_here form start name t ≡ done (record { found = f; awaits = a; rows = (rows_in t6).0 }, (rows_in t6).1)
            unfolding listing_here and_then
            all_parts t6 e = rw (e1, e2, e3, e4, e5, e)

-- the whole, by the places of its rows
pub listing_read : (form : Form) (start : ℕ) (name : PackedName) (s t : List ℕ) (l : Listing)
    → listing_here form start name t ≡ done (record { found = found_meaning l.found; awaits = named_meaning l.awaits; rows = (rows_in (drop l.first s)).0 }, (rows_in (drop l.first s)).1)
    → RowsSpan s l.first l.count l.next → listing_meaning s (Some l) ≡ listing_here form start name t
unfolding listing_meaning
listing_read form start name s t l e w = sym (e ∙ ap (λ (z : List ℕ). done (listing_at s l, z)) (sym w.rest))

-- what the answer tells
module _ (form : Form) (start : ℕ) (name : PackedName) (s t : List ℕ) (r : Maybe Listing) (e : listing_meaning s r ≡ listing_here form start name t) where
  pub listing_at_lem : (l : Listing) → r ≡ Some l → listing_here form start name t ≡ done (listing_at s l, drop l.next s)
  unfolding listing_meaning
  listing_at_lem l f = sym e ∙ ap (listing_meaning s) f

  pub listing_absent : r ≡ Nothing → listing_here form start name t ≡ refused 10
  unfolding listing_meaning
  listing_absent f = sym e ∙ ap (listing_meaning s) f

pub span_of : (s : List ℕ) (r : Maybe Listing) (l : Listing) → ListingSpan s r → r ≡ Some l → RowsSpan s l.first l.count l.next
span_of s r l w e = subst (ListingSpan s) e w

-- it is gained with one more before it, or without
pub done_more : (o : Outcome (List Delivered)) (d : Delivered) → is_done (and_then o (λ ds. done (d ∷ ds))) ≡ is_done o
unfolding is_done and_then
done_more (refused n) d = refl
done_more (done ds) d = refl

-- from query i on
module _ (cells : List ℕ) where
  abbrev Q : Type 0
  Q = Query (language (rules_of cells))

  pub queries_from : (i : ℕ) → i < length (queries_of cells) → drop i (queries_of cells) ≡ query_at cells i ∷ drop (i + 1) (queries_of cells)
  unfolding query_at
  queries_from i h = drop-cons (queries_of cells) i _ h ∙ ap (λ (n : ℕ). query_at cells i ∷ drop n (queries_of cells)) (sym (add-one i))

  -- the query as the code holds it, and the file's form
  module _ (s : List ℕ) (i at : ℕ) (h : i < length (queries_of cells)) (q : Q) (same : q ≡ query_at cells i) (form : Form) (is : form ≡ table_form cells) where
    here : told_from cells (drop i (queries_of cells)) (drop at s)
        ≡ and_then (listing_here form q.start q.name (drop at s)) (λ d. and_then (told_from cells (drop (i + 1) (queries_of cells)) d.1) (λ ds. done (d.0 ∷ ds)))
    unfolding told_from
    here =
        ap (λ (l : List Q). told_from cells l (drop at s)) (queries_from i h)
        ∙ ap (λ (p : Q). and_then (listing_here (table_form cells) p.start p.name (drop at s)) (λ d. and_then (told_from cells (drop (i + 1) (queries_of cells)) d.1) (λ ds. done (d.0 ∷ ds)))) (sym same)
        ∙ ap (λ (f : Form). and_then (listing_here f q.start q.name (drop at s)) (λ d. and_then (told_from cells (drop (i + 1) (queries_of cells)) d.1) (λ ds. done (d.0 ∷ ds)))) (sym is)

    pub told_absent : listing_here form q.start q.name (drop at s) ≡ refused 10 → told_from cells (drop i (queries_of cells)) (drop at s) ≡ refused 10
    unfolding and_then
    told_absent e = here ∙ rw e

    pub told_next : (d : Delivered) (next : ℕ) → listing_here form q.start q.name (drop at s) ≡ done (d, drop next s)
        → told_from cells (drop i (queries_of cells)) (drop at s) ≡ and_then (told_from cells (drop (i + 1) (queries_of cells)) (drop next s)) (λ ds. done (d ∷ ds))
    unfolding and_then
    told_next d next e = here ∙ rw e

    pub told_on : (d : Delivered) (next : ℕ) → listing_here form q.start q.name (drop at s) ≡ done (d, drop next s)
        → is_done (told_from cells (drop (i + 1) (queries_of cells)) (drop next s)) ≡ is_done (told_from cells (drop i (queries_of cells)) (drop at s))
    told_on d next e = sym (ap is_done (told_next d next e) ∙ done_more (told_from cells (drop (i + 1) (queries_of cells)) (drop next s)) d)

  -- after the last query
  module _ (s : List ℕ) (i at : ℕ) (h : length (queries_of cells) ≤ i) where
    none_left : told_from cells (drop i (queries_of cells)) (drop at s) ≡ refuse_if (not (is_empty (drop at s))) 10 (done [])
    unfolding told_from
    none_left = ap (λ (l : List Q). told_from cells l (drop at s)) (drop_of_length-le (queries_of cells) {i = i} h)

    pub told_end : leb (length s) at ≡ is_done (told_from cells (drop i (queries_of cells)) (drop at s))
    unfolding is_done refuse_if is_empty
    told_end = by (drop at s) refl ∙ ap is_done (sym none_left)
      where
        by : (l : List ℕ) → drop at s ≡ l → leb (length s) at ≡ is_done (refuse_if {A = List Delivered} (not (is_empty l)) 10 (done []))
        by [] e = le-leb (length s) at (let k = ap length e in let d = length-drop at s in omega arith)
        by (x ∷ l) e = lt-leb (length s) at (let k = ap length e in let d = length-drop at s in omega arith)
