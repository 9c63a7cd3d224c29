-- Demand 3 over the text: the value of specs/Demand. Assumes nothing.
use Prim.Native.Nat.{ℕ, ◌<◌}
use mathlib.Core.Path.{◌≡◌, refl, sym, ap, subst}
use mathlib.Core.Logic.{◌↔◌}
use mathlib.Core.Option.{Option, some, none}
use mathlib.Core.List.{List, [], ◌∷◌, ◌++◌}
use native.Mathlib.Omega.{arith}
use lib.ListN.{length, length-append}
use borrow.Author.Tests.{lt-ltb, le-ltb, lt-leb}
use Rattle.scope_graph.specs.Language.{Language}
use Rattle.scope_graph.specs.Graph.{Query, OpenPair}
use Rattle.scope_graph.specs.Path.{PathRow}
use Rattle.scope_graph.specs.Rows.{language}
use Rattle.scope_graph.specs.Computed.{entries, awaits}
use Rattle.scope_graph.specs.Listing.{Pairwise, RowBefore}
use Rattle.scope_graph.specs.Promises.{QueryPromises}
use Rattle.scope_graph.proofs.Promises.{promises}
use Rattle.text_field.specs.Number.{number_text}
use Rattle.text_field.proofs.NumberLaws.{length_some}
use Rattle.text_field.specs.Outcome.{done, and_then, refuse_if}
use Rattle.graph_file.specs.File.{read_cells}
use Rattle.text_field.specs.Answer.{answer, written, leaves}
use Rattle.graph_rows.specs.Decode.{rules_of, graph_of, opens_of, queries_of, letters_of, scopes_of}
use Rattle.graph_rows.specs.Accepted.{AcceptedTable}
use Rattle.graph_file.proofs.Promises.{read_accepted}
use Rattle.follow.specs.Text.{end_text}
use Rattle.resolution.specs.Listing.{awaits_text, found_for, listing_text, listing_of, listing_for}
use Rattle.board.specs.Queries.{query_at}
use Rattle.board.proofs.Queries.{get_d_in}
use Rattle.resolution.specs.Demand.{Right, Handed, Demand3}

module _ (cells : List ℕ) where
  abbrev L : Language
  L = language (rules_of cells)

  -- `-` is printed for no pair: a pair has a number and an end, two bytes at least
  dash_none : (o : Option (OpenPair L)) → (awaits_text cells o ≡ 45 ∷ []) ↔ (o ≡ none)
  unfolding awaits_text
  dash_none none = (λ e. refl, λ e. refl)
  dash_none (some o) = (
    λ e.
        let n : length (number_text o.at ++ (end_text (letters_of cells) o.end ∷ [])) ≡ 1 = ap length e in
        let m = length-append (number_text o.at) (end_text (letters_of cells) o.end ∷ []) in
        let k = length_some o.at in
        absurd (omega arith),
    λ e. absurd (let z : ◌≡◌ {A = ℕ} 0 1 = cc in omega arith),
  )

  module _ (t : AcceptedTable cells) (q : Query L) (starts : q.start < scopes_of cells) where
    told : QueryPromises L (graph_of cells) (opens_of cells) q
    told = promises.query L (graph_of cells) (opens_of cells) q (t.accepted q starts)

    -- no row comes before itself, so none that ascend is there twice
    no_repeat : (rows : List (PathRow L)) → Pairwise (RowBefore L) rows → Pairwise (λ r p. ¬ (r ≡ p)) rows
    no_repeat [] a = tt
    no_repeat (r ∷ rows) a = (λ p k e. told.once r (subst (RowBefore L r) (sym e) (a.0 p k)), no_repeat rows a.1)

    pub listing_right : Right cells q (listing_text cells q)
    unfolding listing_text found_for
    listing_right =
        let d = dash_none (awaits L (graph_of cells) q (opens_of cells)) in
        let n = told.awaits_none in
        record {
          rows = entries L (graph_of cells) q;
          found = found_for cells q;
          awaited = awaits L (graph_of cells) q (opens_of cells);
          printed = refl;
          entries = told.entries_are;
          in_order = told.entries_ascend;
          once = no_repeat (entries L (graph_of cells) q) told.entries_ascend;
          found_is = told.found_is;
          awaits_is = told.awaits_is;
          settled = (λ e. n.0 (d.0 e), λ s. d.1 (n.1 s));
        }

pub listing_is : (text cells : List ℕ) → read_cells text ≡ done cells → (i : ℕ) → i < length (queries_of cells) → listing_for text i ≡ done (listing_text cells (query_at cells i))
unfolding listing_for listing_of and_then refuse_if
listing_is text cells e i h = rw (e, lt-leb (length (queries_of cells)) i h)

handed : (text : List ℕ) (i : ℕ) (listing out : List ℕ) → listing_for text i ≡ done listing → Handed text i listing out
unfolding answer leaves written and_then refuse_if
handed text i listing out e = record {
  room = λ h. rw (e, le-ltb (length out) (length listing) h) (refl, refl);
  no_room = λ h. rw (e, lt-ltb (length out) (length listing) h) (refl, refl);
}

pub demand3 : Demand3
unfolding query_at
demand3 text cells e i h out =
    let t = read_accepted text cells e in
    let starts = t.starts (query_at cells i) (get_d_in (queries_of cells) i _ h) in
    (listing_text cells (query_at cells i), listing_right cells t (query_at cells i) starts, handed text i (listing_text cells (query_at cells i)) out (listing_is text cells e i h))
