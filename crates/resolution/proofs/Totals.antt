-- The summary's figures are by the rules: the value of specs/Totals. Assumes nothing.
use Prim.Native.Nat.{ℕ}
use mathlib.Core.Path.{◌≡◌}
use mathlib.Core.List.{List, [], ◌∷◌, map}
use Rattle.scope_graph.specs.Language.{◌∈◌, Language}
use Rattle.scope_graph.specs.Graph.{Query}
use Rattle.scope_graph.specs.Rows.{language}
use Rattle.scope_graph.specs.Listing.{FoundIs}
use Rattle.scope_graph.proofs.Promises.{promises}
use Rattle.scope_graph.proofs.Lists.{here, there}
use Rattle.text_field.specs.Outcome.{done, and_then}
use Rattle.graph_file.specs.File.{read_cells}
use Rattle.graph_rows.specs.Decode.{rules_of, graph_of, opens_of, queries_of}
use Rattle.graph_file.proofs.Promises.{read_accepted}
use Rattle.resolution.specs.Listing.{found_for, summary_of, summary_for}
use Rattle.resolution.specs.Totals.{FoundsAre, SummaryRight}

module _ (cells : List ℕ) where
  abbrev L : Language
  L = language (rules_of cells)

  founds_are : (qs : List (Query L)) → ((q : Query L) → q ∈ qs → FoundIs L (graph_of cells) q (found_for cells q)) → FoundsAre cells qs (map (found_for cells) qs)
  founds_are [] h = tt
  founds_are (q ∷ qs) h = (h q here, founds_are qs (λ p k. h p (there k)))

summary_is : (text cells : List ℕ) → read_cells text ≡ done cells → summary_for text ≡ done (summary_of cells)
unfolding summary_for and_then
summary_is text cells e = rw e

pub summary_right : SummaryRight
unfolding found_for summary_of
summary_right text cells e =
    let t = read_accepted text cells e in
    record {
      founds = map (found_for cells) (queries_of cells);
      founds_are = founds_are cells (queries_of cells)
          (λ q k. (promises.query (language (rules_of cells)) (graph_of cells) (opens_of cells) q (t.accepted q (t.starts q k))).found_is);
      printed = summary_is text cells e;
    }
