-- What our own program prints for the queries of a file is right. Assumes nothing.
use Prim.Native.Nat.{ℕ, zero, suc, ◌<◌}
use mathlib.Core.Path.{◌≡◌, refl, sym, ap, ◌∙◌, subst}
use mathlib.Core.Bool.{true}
use mathlib.Core.Logic.{⊎_elim}
use mathlib.Core.Option.{Option, some, none}
use mathlib.Core.List.Memᴰ
use mathlib.Core.List.{List, [], ◌∷◌, ◌++◌, map, flat_map}
use native.Mathlib.Omega.{arith}
use lib.Dec.{eqb, leb}
use lib.ListN.{length, get_or, length-map}
use borrow.Author.Tests.{le-leb, ne_eqb}
use Rattle.scope_graph.specs.Language.{◌∈◌, End, stop, by, Language}
use Rattle.scope_graph.specs.Graph.{Graph, Query, OpenPair}
use Rattle.scope_graph.specs.Path.{Entry}
use Rattle.scope_graph.specs.Path.{PathRow as RulesRow}
use Rattle.scope_graph.specs.Rows.{language}
use Rattle.scope_graph.specs.Completion.{PairBefore}
use Rattle.scope_graph.specs.Computed.{found, entries, followed_at, awaits}
use Rattle.scope_graph.specs.Listing.{Accepted}
use Rattle.scope_graph.specs.TakenIn.{Told, RightlyTold}
use Rattle.scope_graph.proofs.Lists.{here, there, and_both, or_right, map_elim, first_of_some}
use Rattle.scope_graph.proofs.TakenIn.{taken_in}
use Rattle.text_field.specs.Bytes.{is_capital}
use Rattle.text_field.specs.Outcome.{done}
use Rattle.text_field.proofs.ByteLaws.{within_bounds}
use Rattle.graph_file.specs.File.{read_cells}
use Rattle.graph_rows.specs.Accepted.{AcceptedTable, EndListed}
use Rattle.graph_rows.specs.Decode.{rules_of, graph_of, opens_of, queries_of, letters_of}
use Rattle.graph_table.specs.Sections.{table_form}
use Rattle.board.specs.Queries.{query_at}
use Rattle.board.proofs.Queries.{get_d_in, accepted}
use Rattle.path_row.specs.Form.{PathRow, most_scope, is_row}
use Rattle.follow.specs.Text.{letter_of, end_text, shown_row}
use Rattle.resolution.specs.Listing.{found_for, listing_text}
use Rattle.judge.specs.Judge.{as_rules_row}
use Rattle.judge.proofs.Listed.{numbered, capital, is_row_lem, rules_row_is}
use Rattle.told.specs.Delivered.{Delivered, is_end, is_named, are_rows, is_delivered, delivered_texts, Printed}
use Rattle.told.specs.Apart.{first_row, listing_here}
use Rattle.told.specs.Promises.{shown_named, shown}
use Rattle.told.proofs.Printing.{listing_back}
use Rattle.told.proofs.Promises.{own_form}
use Rattle.accepting.specs.Tests.{end_named, pair_named, await_named, told_in}
use Rattle.accepting.specs.Promises.{list_at, RightList}

-- a place of a list, and of what is made of each of its elements
get_d_map_in : {A B : Type 0} (f : A → B) (l : List A) (i : ℕ) (a : A) (b : B) → i < length l → get_or (map f l) i b ≡ f (get_or l i a)
get_d_map_in f [] i a b h = absurd (omega arith)
get_d_map_in f (x ∷ l) zero a b h = refl
get_d_map_in f (x ∷ l) (suc i) a b h = get_d_map_in f l i a b (omega arith)

-- what stands in a list stands at a place of it
at_place : {A : Type 0} (l : List A) (d a : A) → a ∈ l → (i : ℕ) × (i < length l) × (get_or l i d ≡ a)
at_place [] d a m = absurd (Memᴰ.not-nil m)
at_place (x ∷ l) d a m = ⊎_elim (λ e. (0, omega arith, sym e)) (λ k. let w = at_place l d a k in let h = w.1 in (suc w.0, omega arith, w.2)) (Memᴰ.cases_cons m)

module _ (text cells : List ℕ) (read : read_cells text ≡ done cells) where
  abbrev L : Language
  L = language (rules_of cells)

  abbrev g : Graph L
  g = graph_of cells

  abbrev opens : List (OpenPair L)
  opens = opens_of cells

  abbrev letters : List ℕ
  letters = letters_of cells

  table : AcceptedTable cells
  table = accepted cells (text, read)

  abbrev own_of : Query L → Delivered
  own_of q = shown cells (found_for cells q) (awaits L g q opens) (entries L g q)

  texts_are : (qs : List (Query L)) → flat_map (listing_text cells) qs ≡ delivered_texts cells qs (map own_of qs)
  unfolding flat_map delivered_texts listing_text
  texts_are [] = refl
  texts_are (q ∷ qs) =
      ap (λ (l : List ℕ). listing_text cells q ++ l) (texts_are qs)
      ∙ ap (λ (l : List ℕ). l ++ delivered_texts cells qs (map own_of qs)) (own_form cells q (found_for cells q) (awaits L g q opens) (entries L g q))

  -- an end of an open pair, by its byte and back
  end_back : (e : End ℕ) → EndListed (rules_of cells).labels e → end_named letters (end_text letters e) ≡ e
  unfolding end_named end_text rules_of is_capital
  end_back stop l = refl
  end_back (by l) h =
      let c = within_bounds 65 90 (letter_of letters l) (capital text cells read l h) in
      rw (ne_eqb (letter_of letters l) 36 (λ z. omega arith), end_named) (ap by (numbered letters table.letters l h))

  end_good : (e : End ℕ) → EndListed (rules_of cells).labels e → is_end (end_text letters e) ≡ true
  unfolding is_end end_text rules_of
  end_good stop l = refl
  end_good (by l) h = or_right (eqb (letter_of letters l) 36) (is_capital (letter_of letters l)) (capital text cells read l h)

  abbrev shown_r : RulesRow L → PathRow
  shown_r r = shown_row letters r.mark r.path.start r.path.hops

  module _ (i : ℕ) (inside : i < length (queries_of cells)) where
    abbrev q : Query L
    q = query_at cells i

    ok : Accepted L g opens q
    unfolding query_at
    ok = table.accepted q (table.starts q (get_d_in (queries_of cells) i _ inside))

    mine : RightlyTold L g opens q (record { found = found L g q; awaits = awaits L g q opens; rows = entries L g q })
    mine = (taken_in L g opens q ok).own

    entry : (r : RulesRow L) → r ∈ entries L g q → Entry L g q r
    entry r m = (mine.rows_are r).0 m

    rows_good : (es : List (RulesRow L)) → ((r : RulesRow L) → r ∈ es → Entry L g q r) → are_rows (map shown_r es) ≡ true
    unfolding are_rows
    rows_good [] h = refl
    rows_good (r ∷ es) h = and_both (is_row (shown_r r)) (are_rows (map shown_r es)) (is_row_lem text cells read i inside r (h r here)) (rows_good es (λ x m. h x (there m)))

    rows_back_lem : (es : List (RulesRow L)) → ((r : RulesRow L) → r ∈ es → Entry L g q r) → map (as_rules_row cells) (map shown_r es) ≡ es
    rows_back_lem [] h = refl
    rows_back_lem (r ∷ es) h =
        let a = rules_row_is text cells read i inside r (h r here) in
        let b = rows_back_lem es (λ x m. h x (there m)) in
        λ j. a j ∷ b j

    -- what is awaited is an open pair
    awaited : (a : Option (OpenPair L)) → awaits L g q opens ≡ a → (is_named (shown_named cells a) ≡ true) × (await_named cells (shown_named cells a) ≡ a)
    unfolding is_named awaits pair_named
    awaited none e = (refl, refl)
    awaited (some o) e =
        let m = (first_of_some (followed_at L g q) (PairBefore L) opens {a = o} ok.opens_ascend e).0 in
        let n = table.open_at o m in
        let s = table.scopes_most in
        let l = table.open_end o m in (
          and_both (leb o.at most_scope) (is_end (end_text letters o.end)) (le-leb o.at most_scope (omega arith)) (end_good o.end l),
          (let k = end_back o.end l in λ j. some (record { at = o.at; end = k j })),
        )

    own_formed : is_delivered (own_of q) ≡ true
    unfolding is_delivered shown
    own_formed =
        and_both (is_named (shown_named cells (awaits L g q opens))) (are_rows (map shown_r (entries L g q))) (awaited (awaits L g q opens) refl).0 (rows_good (entries L g q) entry)

    own_right : RightlyTold L g opens q (told_in cells (own_of q))
    unfolding told_in shown found_for
    own_right =
        let a = (awaited (awaits L g q opens) refl).1 in
        let b = rows_back_lem (entries L g q) entry in
        let same : ◌≡◌ {A = Told L} (record { found = found L g q; awaits = awaits L g q opens; rows = entries L g q })
        (record { found = found L g q; awaits = await_named cells (shown_named cells (awaits L g q opens)); rows = map (as_rules_row cells) (map shown_r (entries L g q)) }) =
        λ j. record { found = found L g q; awaits = sym a j; rows = sym b j } in
        subst (RightlyTold L g opens q) same mine

  own_delivered : (q : Query L) → q ∈ queries_of cells → is_delivered (own_of q) ≡ true
  unfolding query_at
  own_delivered q m =
      let p = at_place (queries_of cells) (record { start = 0; name = record { kind = 0; high = 0; low = 0 } }) q m in
      subst (λ (x : Query L). is_delivered (own_of x) ≡ true) p.2 (own_formed p.0 p.1)

  -- a query's own listing is taken apart as what it says, where no row stands behind it
  pub own_apart : (q : Query L) → q ∈ queries_of cells → (rest : List ℕ) → first_row rest ≡ none
      → listing_here (table_form cells) q.start q.name (listing_text cells q ++ rest) ≡ done (own_of q, rest)
  unfolding listing_text
  own_apart q m rest n =
      ap (λ (l : List ℕ). listing_here (table_form cells) q.start q.name (l ++ rest)) (own_form cells q (found_for cells q) (awaits L g q opens) (entries L g q))
      ∙ listing_back (table_form cells) q.start q.name (own_of q) rest (own_delivered q m) n

  own_printed : Printed cells (map own_of (queries_of cells)) (flat_map (listing_text cells) (queries_of cells))
  own_printed = record {
    one_each = length-map (queries_of cells) own_of;
    formed = λ d m.
        let w = map_elim own_of (queries_of cells) m in
        subst (λ (x : Delivered). is_delivered x ≡ true) (sym w.2) (own_delivered w.0 w.1);
    text = texts_are (queries_of cells);
  }

  at_own : (i : ℕ) → i < length (queries_of cells) → own_of (query_at cells i) ≡ list_at (map own_of (queries_of cells)) i
  unfolding query_at list_at
  at_own i h = sym (get_d_map_in own_of (queries_of cells) i _ _ h)

  pub own_all : (i : ℕ) → i < length (queries_of cells) → RightList cells i (list_at (map own_of (queries_of cells)) i)
  own_all i h = subst (λ (d : Delivered). RightList cells i d) (at_own i h) (own_right i h)

-- so it is accepted
pub own_printing : (text cells : List ℕ) → read_cells text ≡ done cells
    → (ds : List Delivered) × Printed cells ds (flat_map (listing_text cells) (queries_of cells))
    × ((i : ℕ) → i < length (queries_of cells) → RightList cells i (list_at ds i))
own_printing text cells read = (map (own_of text cells read) (queries_of cells), own_printed text cells read, own_all text cells read)
