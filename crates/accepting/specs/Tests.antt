-- The tests of a delivered listing (02, K3). What is delivered goes by letters; the rules go by
-- labels' numbers and turns. That the tests decide what the rules call right says Promises. Assumes
-- nothing: these are definitions.
use Rattle.std.specs.Prelude.{ℕ, Bool, true, false, not, ◌&&◌, List, [], ◌∷◌, map, eqb, length}
use Rattle.std.proofs.Math.Option.{Option, some, none}
use Rattle.scope_graph.specs.Language.{End, stop, by}
use Rattle.scope_graph.specs.Graph.{Query, OpenPair}
use Rattle.scope_graph.specs.Rows.{language, any_of, same_end}
use Rattle.scope_graph.specs.Computed.{entries, followed_at, awaits}
use Rattle.scope_graph.specs.Agree.{Judgement, as_visible, as_shadowed, as_unreached, judgement}
use Rattle.scope_graph.specs.TakenIn.{Told}
use Rattle.scope_graph.specs.Own.{all_of}
use Rattle.graph_rows.specs.Decode.{rules_of, graph_of, opens_of, letters_of}
use Rattle.path_row.specs.Form.{PathRow, row_text}
use Rattle.path_row.specs.Numbering.{label_number}
use Rattle.resolution.specs.Summary.{same_found}
use Rattle.resolution.specs.Listing.{found_for}
use Rattle.judge.specs.Judge.{as_rules_row}
use Rattle.told.specs.Delivered.{NamedPair, Delivered}

-- the same bytes
unfoldable pub same_bytes : List ℕ → List ℕ → Bool
same_bytes [] [] = true
same_bytes [] (y ∷ t) = false
same_bytes (x ∷ s) [] = false
same_bytes (x ∷ s) (y ∷ t) = eqb x y && same_bytes s t

-- Two rows are the same if their texts are. Does the row stand among others? Are all different?
unfoldable pub is_among : PathRow → List PathRow → Bool
is_among r rows = any_of (λ p. same_bytes (row_text r) (row_text p)) rows

unfoldable pub none_twice : List PathRow → Bool
none_twice [] = true
none_twice (r ∷ rows) = not (is_among r rows) && none_twice rows

unfoldable pub is_visible : Judgement → Bool
is_visible as_visible = true
is_visible (as_shadowed n) = false
is_visible as_unreached = false

-- An end by its byte, with the labels' letters given: `$` is the end mark, a letter its label. A
-- letter that is not listed has a number that no open pair of the file has.
unfoldable pub end_named : List ℕ → ℕ → End ℕ
end_named letters x = elim (eqb x 36) [ true ↦ stop | false ↦ by (label_number letters x) ]

module _ (cells : List ℕ) where
  unfoldable pub pair_named : NamedPair → OpenPair (language (rules_of cells))
  pair_named o = record { at = o.at; end = end_named (letters_of cells) o.end }

  abbrev pub await_named : Option NamedPair → Option (OpenPair (language (rules_of cells)))
  await_named none = none
  await_named (some o) = some (pair_named o)

  -- what a listing tells of its query, as the rules have it
  unfoldable pub told_in : Delivered → Told (language (rules_of cells))
  told_in d = record { found = d.found; awaits = await_named d.awaits; rows = map (as_rules_row cells) d.rows }

  unfoldable pub is_open : OpenPair (language (rules_of cells)) → Bool
  is_open o = any_of (λ p. eqb p.at o.at && same_end p.end o.end) (opens_of cells)

  -- nothing is awaited
  unfoldable pub is_settled : Option (OpenPair (language (rules_of cells))) → Bool
  is_settled none = true
  is_settled (some o) = false

  module _ (q : Query (language (rules_of cells))) where
    -- the judge calls the row visible
    unfoldable pub row_visible : PathRow → Bool
    row_visible r = is_visible (judgement (language (rules_of cells)) (graph_of cells) q (as_rules_row cells r))

    -- `-` where our own listing says `-`, else any open pair that is followed
    unfoldable pub may_await : Option NamedPair → Bool
    may_await none = is_settled (awaits (language (rules_of cells)) (graph_of cells) q (opens_of cells))
    may_await (some o) = is_open (pair_named o) && followed_at (language (rules_of cells)) (graph_of cells) q (pair_named o)

    -- every row visible, none twice, as many as there are entries; `found` our own; `awaits` as above
    unfoldable pub is_right : Delivered → Bool
    is_right d =
        all_of row_visible d.rows
        && (none_twice d.rows
        && (eqb (length d.rows) (length (entries (language (rules_of cells)) (graph_of cells) q))
        && (same_found (found_for cells q) d.found && may_await d.awaits)))
