-- The verdict on delivered listings (02, K3), for a table and for a text. Assumes nothing: these are
-- definitions.
use Rattle.std.specs.Prelude.{ℕ, suc, true, false, List, [], ◌∷◌}
use Rattle.scope_graph.specs.Graph.{Query}
use Rattle.scope_graph.specs.Rows.{language}
use Rattle.text_field.specs.Outcome.{Outcome, refused, done, and_then}
use Rattle.graph_file.specs.File.{read_cells}
use Rattle.graph_rows.specs.Decode.{rules_of, queries_of}
use Rattle.told.specs.Delivered.{Delivered}
use Rattle.told.specs.Apart.{told_of}
use Rattle.std.specs.declared.result.Result.{Result}
use Rattle.std.specs.declared.result.Result.TheVariants.{Ok, Err}
use Rattle.text_field.specs.declared.refusal.Refusal.{Refusal}
use Rattle.text_field.specs.Refusal.{number_of}
use Rattle.accepting.specs.declared.verdict.Verdict.{Verdict}
use Rattle.accepting.specs.declared.verdict.Verdict.TheVariants.{Accepted, Wrong}
use Rattle.accepting.specs.Tests.{is_right}

-- all listings are right, or the number of the first query, counted from 0, whose listing is wrong
pub data Finding : Type 0 where
  all_right : Finding
  wrong_at : ℕ → Finding

-- what an answer means (01, "Where each language form goes"): a refusal by its number, or what was
-- found
unfoldable pub meaning : Result Verdict Refusal → Outcome Finding
meaning (Ok Accepted) = done all_right
meaning (Ok (Wrong i)) = done (wrong_at i)
meaning (Err r) = refused (number_of r)

module _ (cells : List ℕ) where
  -- the first wrong one, where the queries are numbered from i on
  unfoldable pub first_wrong : ℕ → List (Query (language (rules_of cells))) → List Delivered → Finding
  first_wrong i [] ds = all_right
  first_wrong i (q ∷ qs) [] = all_right
  first_wrong i (q ∷ qs) (d ∷ ds) = elim (is_right cells q d) [ true ↦ first_wrong (suc i) qs ds | false ↦ wrong_at i ]

  -- 10 is tested over the whole text before any listing is
  unfoldable pub accept_of : List ℕ → Outcome Finding
  accept_of lists = and_then (told_of cells lists) (λ ds. done (first_wrong 0 (queries_of cells) ds))

-- for a text: its refusals 1 to 6 first
unfoldable pub accept_for : List ℕ → List ℕ → Outcome Finding
accept_for text lists = and_then (read_cells text) (λ cells. accept_of cells lists)
