-- `found` told scope by scope, for code that does not list all entries: at which scopes a visible
-- path ends, and which of them have a second mark. That it is the `found` of the entries stands in
-- Promises. Assumes nothing: these are definitions.
use Rattle.std.specs.Prelude.{ℕ, zero, suc, Bool, true, false, ◌&&◌, List, [], ◌∷◌}
use Rattle.scope_graph.specs.Language.{stop, Language}
use Rattle.scope_graph.specs.Graph.{Graph, Query}
use Rattle.scope_graph.specs.Computed.{Found, found_none, found_one, found_several, marks_at, declares_any, followed_at}

-- the list has a second element
unfoldable pub has_second : {A : Type 0} → List A → Bool
has_second [] = false
has_second (x ∷ []) = false
has_second (x ∷ y ∷ xs) = true

-- `found` with one scope more, given whether a visible path ends there and whether the scope has a
-- second mark
unfoldable pub with_scope : Bool → Bool → Found → Found
with_scope false more f = f
with_scope true more found_none = elim more [ true ↦ found_several | false ↦ found_one ]
with_scope true more found_one = found_several
with_scope true more found_several = found_several

-- `found` as far as the scopes below n say it
unfoldable pub found_among : (ends more : ℕ → Bool) → ℕ → Found
found_among ends more zero = found_none
found_among ends more (suc n) = with_scope (ends n) (more n) (found_among ends more n)

module _ (L : Language) (g : Graph L) (q : Query L) where
  -- A visible path of the query ends at the scope: the scope declares the name, and a path that
  -- stops there is followed, as at an open pair with `$`.
  unfoldable pub ends_at : ℕ → Bool
  ends_at s = declares_any L g.declarations s q.name && followed_at L g q (record { at = s; end = stop })

  -- the scope declares the name with more than one mark
  unfoldable pub several_marks : ℕ → Bool
  several_marks s = has_second (marks_at L g.declarations s q.name)
