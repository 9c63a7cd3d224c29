-- K13's list (02): the scopes breadth-first. It is said here which scope comes next, and not by a
-- queue; Promises says what the whole list is. Assumes nothing: these are definitions.
use Rattle.std.specs.Prelude.{ℕ, zero, suc, Bool, true, false, not, eqb}
use Rattle.std.proofs.Math.Option.{Option, some, none}
use mathlib.Core.List.{List, [], ◌∷◌, ◌++◌, flat_map}
use Rattle.scope_graph.specs.Language.{Language}
use Rattle.scope_graph.specs.Graph.{Edge, Query}
use Rattle.scope_graph.specs.Path.{tos}
use Rattle.scope_graph.specs.Rows.{any_of, language}
use Rattle.scope_graph.specs.Computed.{keep, first_of, hops_at}
use Rattle.scope_graph.specs.Readers.{numbers_below}
use Rattle.graph_rows.specs.Format.{most_scopes}
use Rattle.graph_rows.specs.Decode.{rules_of, scopes_of, graph_of, queries_of}

-- does the list hold the number?
abbrev pub is_listed : ℕ → List ℕ → Bool
is_listed x list = any_of (eqb x) list

-- the scopes that the edges of scope s lead to, in row sequence, whether or not a lawful path goes
-- along them
abbrev pub scopes_after : (L : Language) → List (Edge L) → ℕ → List ℕ
scopes_after L edges s = tos L (hops_at L edges s)

-- the list with a number more, unless it holds it; and with others in turn, each at its first
-- occurrence
unfoldable pub with_new : List ℕ → ℕ → List ℕ
with_new listed x = elim (is_listed x listed) [ true ↦ listed | false ↦ listed ++ (x ∷ []) ]

unfoldable pub gathered : List ℕ → List ℕ → List ℕ
gathered listed [] = listed
gathered listed (x ∷ xs) = gathered (with_new listed x) xs

-- `after` gives for each scope those that its edges lead to.
module _ (after : ℕ → List ℕ) where
  -- what is met from the listed scopes: from the first listed scope on, and at each in row sequence
  unfoldable pub met_from : List ℕ → List ℕ
  met_from listed = flat_map after listed

  -- of what is met from the listed scopes, the first that is not listed itself
  unfoldable pub next_met : List ℕ → Option ℕ
  next_met listed = first_of (λ t. not (is_listed t listed)) (met_from listed)

  -- the listed scopes and at most `left` more, each the one met next; when none is left it ends
  unfoldable pub met : ℕ → List ℕ → List ℕ
  met zero listed = listed
  met (suc left) listed = elim (next_met listed) [ none ↦ listed | some t ↦ met left (listed ++ (t ∷ [])) ]

  -- all that is met from the start. There are 64 scopes at most, so 64 more are enough.
  unfoldable pub met_all : ℕ → List ℕ
  met_all start = met most_scopes (start ∷ [])

-- of n scopes those that are not listed, ascending
unfoldable pub unmet : ℕ → List ℕ → List ℕ
unmet n listed = keep (λ s. not (is_listed s listed)) (numbers_below n)

-- n scopes from the start on: those that are met, then the others
unfoldable pub breadth_first : (ℕ → List ℕ) → ℕ → ℕ → List ℕ
breadth_first after n start = met_all after start ++ unmet n (met_all after start)

-- where it starts: at the first query's start, at scope 0 without queries
unfoldable pub start_in : {L : Language} → List (Query L) → ℕ
start_in [] = 0
start_in (q ∷ queries) = q.start

-- the list of a graph table: at each new number the old one
unfoldable pub was_list : List ℕ → List ℕ
was_list cells =
    breadth_first (scopes_after (language (rules_of cells)) (graph_of cells).edges) (scopes_of cells) (start_in (queries_of cells))
