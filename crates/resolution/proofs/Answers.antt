-- What the walk tells of a query of a table that was read: the rows of its entries, and the first
-- open pair that is followed. Assumes nothing.
use Prim.Native.Nat.{ℕ, zero, suc, ◌≤◌, ◌<◌}
use mathlib.Core.Path.{◌≡◌, refl, sym, ap, ◌∙◌}
use mathlib.Core.Bool.{Bool, true, false}
use mathlib.Core.Option.{Option, some}
use mathlib.Core.List.{List, [], ◌∷◌, map}
use native.Mathlib.Omega.{arith}
use borrow.Author.Tests.{lt-ltb}
use lib.ListN.{length}
use Rattle.scope_graph.specs.Language.{◌∈◌, Language}
use Rattle.scope_graph.specs.Graph.{Query, OpenPair}
use Rattle.scope_graph.specs.Rows.{language}
use Rattle.scope_graph.specs.Order.{end_of}
use Rattle.scope_graph.specs.Computed.{entries, first_of, followed_at, awaits}
use Rattle.scope_graph.proofs.Lists.{here, there, map_intro}
use Rattle.graph_rows.specs.Format.{open_section}
use Rattle.graph_rows.specs.Admission.{Row, value}
use Rattle.graph_rows.specs.Decode.{rows_in, rules_of, scopes_of, graph_of, open_pair_of, opens_of}
use Rattle.graph_rows.specs.Accepted.{EndListed}
use Rattle.graph_table.specs.Sections.{part_of, rows_of}
use Rattle.follow.proofs.TallyLaws.{joined}
use Rattle.std.specs.declared.option.Option.{Option as Maybe}
use Rattle.std.specs.declared.option.Option.TheVariants.{Some, None as Nothing}
use Rattle.graph_table.specs.declared.rows.OpenRow.{OpenRow}
use Rattle.resolution.specs.Listing.{entries_text}
use Rattle.resolution.specs.Asked.{Ready, query_in, entries_taken, followed_by, first_followed, awaits_meaning}
use Rattle.resolution.proofs.ListLaws.{joined_map}
use Rattle.resolution.proofs.Walked.{pair_walked}
use Rattle.board.proofs.Queries.{accepted, rows_are}

-- the entries' rows one after the other
pub texts_joined : (cells : List ℕ) (q : Query (language (rules_of cells))) → joined (entries_taken cells q) ≡ entries_text cells q
unfolding entries_taken entries_text
texts_joined cells q = joined_map _ (entries (language (rules_of cells)) (graph_of cells) q)

module _ (cells block ask : List ℕ) (ready : Ready cells block ask) where
  abbrev L : Language
  L = language (rules_of cells)

  abbrev q : Query L
  q = query_in cells ask

  pub pair_is : (at end : ℕ) → at < 64 → end < 9 → followed_by block cells ask at end ≡ followed_at L (graph_of cells) q (record { at = at; end = end_of end })
  unfolding followed_by
  pair_is at end h k = rw (lt-ltb at 64 h, lt-ltb end 9 k, followed_by) (pair_walked cells block ask ready at end h k)

  -- an open row of a table that was read
  pub record Small (row : Row) : Type 0 where
    pub scope : value row 0 < 64
    pub end : value row 1 < 9

  first_is : (rows : List Row) → ((row : Row) → row ∈ rows → Small row)
      → awaits_meaning cells (first_followed block cells ask rows) ≡ first_of (followed_at L (graph_of cells) q) (map (open_pair_of (rules_of cells)) rows)
  unfolding first_followed first_of awaits_meaning open_pair_of
  first_is [] h = refl
  first_is (row ∷ rows) h =
      rw (sym (pair_is (value row 0) (value row 1) (h row here).scope (h row here).end), first_followed, first_of) (one (followed_by block cells ask (value row 0) (value row 1)) (first_is rows (λ x i. h x (there i))))
    where
      one : (t : Bool)
          → awaits_meaning cells (first_followed block cells ask rows) ≡ first_of (followed_at L (graph_of cells) q) (map (open_pair_of (rules_of cells)) rows)
          → awaits_meaning cells (elim t as (λ _. Maybe OpenRow) [ true ↦ Some (record { at = value row 0; end = value row 1 }) | false ↦ first_followed block cells ask rows ])
          ≡ (elim t as (λ _. Option (OpenPair L)) [ true ↦ some (open_pair_of (rules_of cells) row) | false ↦ first_of (followed_at L (graph_of cells) q) (map (open_pair_of (rules_of cells)) rows) ])
      one true e = refl
      one false e = e

  end_small : (n labels : ℕ) → labels ≤ 8 → EndListed labels (end_of n) → n < 9
  unfolding end_of
  end_small zero labels h l = omega arith
  end_small (suc n) labels h l = omega arith

  pub open_small : (row : Row) → row ∈ rows_in open_section cells → Small row
  unfolding open_pair_of opens_of
  open_small row i =
      let t = accepted cells ready.asked.read in
      let m = t.scopes_most in
      let o = open_pair_of (rules_of cells) row in
      let n : value row 0 < scopes_of cells = t.open_at o (map_intro (open_pair_of (rules_of cells)) i) in
      record { scope = omega arith; end = end_small (value row 1) (rules_of cells).labels t.labels (t.open_end o (map_intro (open_pair_of (rules_of cells)) i)) }

  pub awaits_is : (opens : List ℕ) → opens ≡ part_of open_section cells → (r : Maybe OpenRow) → r ≡ first_followed block cells ask (rows_of opens)
      → awaits_meaning cells r ≡ awaits L (graph_of cells) q (opens_of cells)
  unfolding awaits opens_of
  awaits_is opens p r e =
      ap (awaits_meaning cells) (e ∙ ap (λ (l : List ℕ). first_followed block cells ask (rows_of l)) p)
      ∙ rw (rows_are cells ready.asked.read open_section) (first_is (rows_in open_section cells) open_small)

  -- nothing is open
  pub awaits_none : (opens : List ℕ) → opens ≡ part_of open_section cells → length opens ≡ 0 → awaits_meaning cells Nothing ≡ awaits L (graph_of cells) q (opens_of cells)
  unfolding first_followed rows_of
  awaits_none [] p z = awaits_is [] p Nothing refl
  awaits_none (x ∷ opens) p z = absurd (omega arith)
