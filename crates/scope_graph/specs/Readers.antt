-- Who sees a declaration (02, K5): the scopes from which a query for its name has an entry for this
-- very declaration. The statements are at the end; their proof is in proofs/Readers.antt. Assumes
-- nothing: these are definitions.
use Rattle.std.specs.Prelude.{ℕ, zero, suc, ◌<◌, ◌≡◌, true, ◌↔◌, List, [], ◌∷◌, ◌++◌}
use Rattle.scope_graph.specs.Language.{◌∈◌, Language, Laws}
use Rattle.scope_graph.specs.Graph.{Declaration, Graph, InRange, Query}
use Rattle.scope_graph.specs.Path.{PathRow, row_declaration, Entry}
use Rattle.scope_graph.specs.Computed.{keep}
use Rattle.scope_graph.specs.Ends.{ends_at}
use Rattle.scope_graph.specs.Listing.{Pairwise}

-- 0 to n - 1, ascending
unfoldable pub numbers_below : ℕ → List ℕ
numbers_below zero = []
numbers_below (suc n) = numbers_below n ++ (n ∷ [])

module _ (L : Language) where
  -- the query from scope s for the declaration's name (02, K8: its kind is part of that name),
  -- whether or not the file asks it
  abbrev pub query_for : Declaration L → ℕ → Query L
  query_for d s = record { start = s; name = d.name }

  module _ (g : Graph L) (d : Declaration L) where
    -- Scope s reads d: one of its entries is for d. Two declarations of one name are told apart by
    -- their scope and their mark.
    pub record Reader (s : ℕ) : Type 0 where
      pub scope : s < g.scopes
      pub row : PathRow L
      pub entry : Entry L g (query_for d s) row
      pub ends_in : row_declaration L (query_for d s) row ≡ d

    -- K5's list. A visible path that ends at d's scope has an entry for each declaration of the name
    -- there, so it is enough to ask for the scope.
    unfoldable pub readers : List ℕ
    readers = keep (λ s. ends_at L g (query_for d s) d.at) (numbers_below g.scopes)

    pub record ReadersPromises : Type 0 where
      -- the test of one scope is right
      pub test : (s : ℕ) → s < g.scopes → (ends_at L g (query_for d s) d.at ≡ true) ↔ Reader s
      -- the list holds the readers and no other scope, ascending, so each once
      pub readers_are : (s : ℕ) → (s ∈ readers) ↔ Reader s
      pub ascend : Pairwise ◌<◌ readers

-- for every language with the laws, every graph in range and every declaration of it
abbrev pub ReadersRight : Type 1
ReadersRight = (L : Language) (g : Graph L) → Laws L → InRange L g → (d : Declaration L) → d ∈ g.declarations → ReadersPromises L g d
