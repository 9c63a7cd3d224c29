-- `found` from the declarations that the walk over a query's entries noted. Assumes nothing.
use Prim.Native.Nat.{ℕ}
use mathlib.Core.Path.{◌≡◌, refl, sym, ap, ◌∙◌}
use mathlib.Core.Bool.{Bool, true, false, not, ◌&&◌}
use mathlib.Core.List.{List, [], ◌∷◌, map}
use lib.Dec.{eqb}
use Rattle.scope_graph.specs.Language.{Language, Laws}
use Rattle.scope_graph.specs.Graph.{Declaration, Query}
use Rattle.scope_graph.specs.Path.{PathRow, row_declaration}
use Rattle.scope_graph.specs.Rows.{any_of, language}
use Rattle.scope_graph.specs.Computed.{Found, found_none, found_one, found_several, same_declaration, found_of, entries, found}
use Rattle.graph_rows.specs.Decode.{letters_of, rules_of, graph_of}
use Rattle.board.proofs.Queries.{accepted}
use Rattle.follow.specs.declared.Bounds.{Bounds}
use Rattle.follow.specs.declared.Seen.{Seen}
use Rattle.follow.specs.declared.Seen.TheVariants.{None, One, Several}
use Rattle.follow.specs.declared.Tally.{Tally}
use Rattle.follow.specs.Text.{row_text}
use Rattle.follow.specs.Tally.{Taken, noted, is_broken}
use Rattle.follow.proofs.TakeLaws.{noted_all, several_stay}
use Rattle.follow.proofs.TallyLaws.{tallied}
use Rattle.resolution.specs.Listing.{found_for}
use Rattle.resolution.specs.Asked.{Ready, query_in, entries_taken, TallyOf}

-- what they are found to be
unfoldable pub seen_found : Seen → Found
seen_found None = found_none
seen_found (One a m) = found_one
seen_found Several = found_several

module _ (L : Language) (laws : Laws L) (q : Query L) (text : PathRow L → List ℕ) where
  abbrev decl : PathRow L → Declaration L
  decl = row_declaration L q

  abbrev taken : PathRow L → Taken
  taken r = record { at = (decl r).at; mark = r.mark; text = text r }

  -- all are of the name sought, so scope and mark tell
  same_is : (x r : PathRow L) → same_declaration L (decl x) (decl r) ≡ (eqb (decl x).at (decl r).at && eqb x.mark r.mark)
  unfolding same_declaration
  same_is x r = rw (laws.name_self q.name)

  abbrev other : PathRow L → Declaration L → Bool
  other x d = not (same_declaration L (decl x) d)

  -- the first is kept, and each later one held against it
  one_noted : (x : PathRow L) (rs : List (PathRow L))
      → seen_found (noted_all (One (decl x).at x.mark) (map taken rs))
      ≡ (elim (any_of (other x) (map decl rs)) as (λ _. Found) [ true ↦ found_several | false ↦ found_one ])
  unfolding noted_all noted any_of seen_found
  one_noted x [] = refl
  one_noted x (r ∷ rs) =
      rw (same_is x r) (step (eqb (decl x).at (decl r).at && eqb x.mark r.mark) (one_noted x rs))
    where
      step : (b : Bool)
          → seen_found (noted_all (One (decl x).at x.mark) (map taken rs))
          ≡ (elim (any_of (other x) (map decl rs)) as (λ _. Found) [ true ↦ found_several | false ↦ found_one ])
          → seen_found (noted_all (elim b as (λ _. Seen) [ true ↦ One (decl x).at x.mark | false ↦ Several ]) (map taken rs))
          ≡ (elim (elim (not b) as (λ _. Bool) [ true ↦ true | false ↦ any_of (other x) (map decl rs) ]) as (λ _. Found) [ true ↦ found_several | false ↦ found_one ])
      step true e = e
      step false e = ap seen_found (several_stay (map taken rs))

  all_noted : (rs : List (PathRow L)) → seen_found (noted_all None (map taken rs)) ≡ found_of L (map decl rs)
  unfolding noted_all noted found_of seen_found
  all_noted [] = refl
  all_noted (x ∷ rs) = one_noted x rs

module _ (cells block ask : List ℕ) (ready : Ready cells block ask) where
  abbrev L' : Language
  L' = language (rules_of cells)

  abbrev q' : Query L'
  q' = query_in cells ask

  -- unless the walk was broken off, they are those of all entries
  pub tally_found : (bounds : Bounds) (t : Tally) → TallyOf cells q' bounds t → is_broken bounds t ≡ false
      → seen_found t.seen ≡ found_for cells q'
  unfolding entries_taken found_for found
  tally_found bounds t of e =
      ap (λ (s : Tally). seen_found s.seen) (sym of.1)
      ∙ ap seen_found ((tallied bounds of.0 (entries_taken cells q')).seen (rw of.1 e))
      ∙ all_noted L' ((accepted cells ready.asked.read).accepted q' ready.asked.starts).laws q'
      (λ r. row_text (letters_of cells) r.mark r.path.start r.path.hops) (entries L' (graph_of cells) q')
