-- The promises of specs/Promises: the list of a table that was read, and the reading of its text.
-- Assumes nothing.
use Prim.Native.Nat.{ℕ, ◌<◌}
use mathlib.Core.Path.{◌≡◌, ap, ◌∙◌}
use mathlib.Core.List.{List, [], ◌∷◌, ◌++◌}
use native.Mathlib.Omega.{arith}
use lib.ListN.{get_or}
use Rattle.scope_graph.specs.Language.{◌∈◌}
use Rattle.scope_graph.specs.Rows.{language}
use Rattle.graph_rows.specs.Decode.{rules_of, scopes_of, graph_of, queries_of}
use Rattle.graph_file.specs.File.{WasRead}
use Rattle.was.specs.Order.{scopes_after, met_from, start_in, was_list}
use Rattle.was.specs.Promises.{HoldsEach, ByMeetings, ListsRight, Promises}
use Rattle.was.proofs.Growing.{gathered_longer}
use Rattle.was.proofs.WritingLaws.{text_short}
use Rattle.was.proofs.Tables.{scopes_most, start_below, after_below}
use Rattle.was.proofs.Breadth.{holds_size, breadth_holds, breadth_meets}
use Rattle.was.proofs.OnlyOne.{only_one}
use Rattle.was.proofs.Taken.{reads_right}
use Rattle.was.proofs.Examples.{example_listed}

-- what begins with the start has it first
first_is : (after : ℕ → List ℕ) (start : ℕ) (list : List ℕ) → ByMeetings after start list → get_or list 0 0 ≡ start
first_is after start list b =
    let w = gathered_longer (met_from after b.reached) (start ∷ []) in
    ap (λ (l : List ℕ). get_or l 0 0) (b.parts ∙ ap (λ (l : List ℕ). l ++ b.others) (b.at_first_meeting ∙ w.is))

module _ (cells : List ℕ) (was : WasRead cells) where
  holds : HoldsEach (scopes_of cells) (was_list cells)
  unfolding was_list
  holds =
      breadth_holds (scopes_after (language (rules_of cells)) (graph_of cells).edges) (start_in (queries_of cells)) (scopes_of cells) (scopes_most cells was)
      (after_below cells was) (start_below cells was)

  meets : ByMeetings (scopes_after (language (rules_of cells)) (graph_of cells).edges) (start_in (queries_of cells)) (was_list cells)
  unfolding was_list
  meets =
      breadth_meets (scopes_after (language (rules_of cells)) (graph_of cells).edges) (start_in (queries_of cells)) (scopes_of cells) (scopes_most cells was)
      (after_below cells was) (start_below cells was)

  below : (v : ℕ) → v ∈ was_list cells → v < 64
  below v m = let b = (holds.are v).0 m in let most = scopes_most cells was in omega arith

pub lists_right : ListsRight
lists_right cells was = record {
  each = holds cells was;
  size = holds_size (scopes_of cells) (was_list cells) (holds cells was);
  first = first_is (scopes_after (language (rules_of cells)) (graph_of cells).edges) (start_in (queries_of cells)) (was_list cells) (meets cells was);
  by_meetings = meets cells was;
  text_short =
      let short = text_short (was_list cells) (below cells was) in
      let size = holds_size (scopes_of cells) (was_list cells) (holds cells was) in
      let most = scopes_most cells was in
      omega arith;
}

pub promises : Promises
promises = record { lists = lists_right; only_one = only_one; reads = reads_right; example = example_listed }
