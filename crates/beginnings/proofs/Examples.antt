-- The count on document 01's example, computed by the checker from its text, and on small graphs.
-- Assumes nothing.
use Prim.Native.Nat.{ℕ}
use mathlib.Core.Path.{◌≡◌, refl, ap, ◌∙◌}
use mathlib.Core.Option.{some}
use mathlib.Core.List.{List, [], ◌∷◌, map}
use lib.ListN.{length}
use Rattle.scope_graph.specs.Language.{End, stop, by}
use Rattle.scope_graph.specs.Graph.{Graph}
use Rattle.scope_graph.specs.Rows.{PackedName, Rules, language}
use Rattle.text_field.specs.Outcome.{Outcome, done, and_then, refuse_if}
use Rattle.board.specs.Example.{example_text}
use Rattle.board.proofs.Example.{example_cells, example_read}
use Rattle.resolution.proofs.Marked.{answers}
use Rattle.beginnings.specs.Beginnings.{capped, step_cut, cut_before, beginnings, followed_count, count_of, count_for}
use Rattle.beginnings.specs.Promises.{ExampleCounts}

example_counted : (i : ℕ) → count_for example_text i ≡ count_of example_cells i
unfolding count_for and_then
example_counted i = ap (λ (o : Outcome (List ℕ)). and_then o (λ cells. count_of cells i)) example_read

at_once : (count_of example_cells 0 ≡ done 1) × (count_of example_cells 1 ≡ done 2) × (count_of example_cells 2 ≡ done 2)
unfolding answers capped step_cut cut_before beginnings followed_count count_of refuse_if
at_once = (refl, refl, refl)

pub example_counts : ExampleCounts
example_counts = (example_counted 0 ∙ at_once.0, example_counted 1 ∙ at_once.1, example_counted 2 ∙ at_once.2)

-- Small graphs with one state and the labels 0 and 1, as their edges (from, label, turn, to) and
-- the scopes that declare the name.
abbrev x : PackedName
x = record { kind = 118; high = 1; low = 0 }

abbrev rules : List (End ℕ × End ℕ) → List ℕ → Rules
rules order accept = record {
  labels = 2;
  order = map (λ (p : End ℕ × End ℕ). record { less = p.0; more = p.1 }) order;
  transitions = map (λ (l : ℕ). record { state = 0; label = l; next = 0 }) (0 ∷ 1 ∷ []);
  accept = accept;
}

module _ (r : Rules) where
  abbrev graph : ℕ → List (ℕ × ℕ × ℕ × ℕ) → List ℕ → Graph (language r)
  graph n es ds = record {
    scopes = n;
    edges = map (λ (e : ℕ × ℕ × ℕ × ℕ). record { from = e.0; step = record { label = e.1; turn = some e.2 }; to = e.3 }) es;
    declarations = map (λ (s : ℕ). record { at = s; name = x; mark = 0 }) ds;
  }

  -- how many beginnings the query from scope 0 has
  abbrev Counts : Graph (language r) → ℕ → Type 0
  Counts g n = length (beginnings (language r) g (record { start = 0; name = x })) ≡ n

-- what these compute with
computed : Unit {0}
unfolding answers step_cut cut_before beginnings
computed = tt

-- a lone scope; nothing accepts
lone : Counts (rules [] (0 ∷ [])) (graph (rules [] (0 ∷ [])) 1 [] []) 1
unfolding computed
lone = refl

none_accepts : Counts (rules [] []) (graph (rules [] []) 2 ((0, 0, 0, 1) ∷ []) (0 ∷ 1 ∷ [])) 0
unfolding computed
none_accepts = refl

abbrev ordered : Rules
ordered = rules ((by 0, by 1) ∷ []) (0 ∷ [])

-- a preferred label cuts where a path by it is reached, and else does not
label_cuts : Counts ordered (graph ordered 3 ((0, 0, 0, 1) ∷ (0, 1, 0, 2) ∷ []) (1 ∷ [])) 2
unfolding computed
label_cuts = refl

label_cuts_not : Counts ordered (graph ordered 3 ((0, 0, 0, 1) ∷ (0, 1, 0, 2) ∷ []) (2 ∷ [])) 3
unfolding computed
label_cuts_not = refl

abbrev unordered : Rules
unordered = rules [] (0 ∷ [])

-- at one label a higher turn does (02, K12)
turn_cuts : Counts unordered (graph unordered 3 ((0, 0, 0, 1) ∷ (0, 0, 1, 2) ∷ []) (1 ∷ 2 ∷ [])) 2
unfolding computed
turn_cuts = refl

turn_cuts_not : Counts unordered (graph unordered 3 ((0, 0, 0, 1) ∷ (0, 0, 1, 2) ∷ []) (1 ∷ [])) 3
unfolding computed
turn_cuts_not = refl

-- where `$` is preferred, a step behind a declaration is cut
abbrev stopping : Rules
stopping = rules ((stop, by 0) ∷ []) (0 ∷ [])

stop_cuts : Counts stopping (graph stopping 3 ((0, 0, 0, 1) ∷ (1, 0, 0, 2) ∷ []) (1 ∷ [])) 2
unfolding computed
stop_cuts = refl

-- two routes to one scope are two beginnings; a circle is on no path
routes : Counts unordered (graph unordered 4 ((0, 0, 0, 1) ∷ (0, 1, 0, 2) ∷ (1, 0, 0, 3) ∷ (2, 0, 0, 3) ∷ (3, 0, 0, 0) ∷ []) []) 5
unfolding computed
routes = refl
