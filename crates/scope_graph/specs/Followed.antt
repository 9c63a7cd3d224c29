-- What the search looks at, to say whether an open pair is decisive. *Preferred*, *usable* and
-- *followed* are not terms of document 01; what is proved of them stands in Promises. Assumes
-- nothing: these are definitions.
use Rattle.std.specs.Prelude.{ℕ, ◌≡◌, true, ◌⊎◌, List, [], ◌∷◌}
use Rattle.std.proofs.Math.Option.{some}
use Rattle.scope_graph.specs.Language.{End, stop, by, Language}
use Rattle.scope_graph.specs.Graph.{Graph, Query, OpenPair, Admits}
use Rattle.scope_graph.specs.Path.{Hop, last_from, IsPath, Leads, word, Reached}

module _ (L : Language) where
  -- the hops r are preferred to whatever goes along p and then on by e
  abbrev pub Preferred : List (Hop L) → List (Hop L) → End L.Step → Type 0
  Preferred [] [] e = L.prefers stop e ≡ true
  Preferred (h ∷ r) [] e = L.prefers (by h.step) e ≡ true
  Preferred [] (k ∷ p) e = L.prefers stop (by k.step) ≡ true
  Preferred (h ∷ r) (k ∷ p) e = (L.prefers (by h.step) (by k.step) ≡ true) ⊎ ((h ≡ k) × Preferred r p e)

  -- a path in the state may end here, or go on by the step and still come to an accepting state
  abbrev pub Usable : ℕ → End L.Step → Type 0
  Usable q stop = L.accepts q ≡ true
  Usable q (by t) = (r : ℕ) × (L.next q (L.label t) ≡ some r) × (w : List ℕ) × (f : ℕ) × Leads L r w f × (L.accepts f ≡ true)

  -- a path of the graph comes to the scope, may go on by the end, and nothing reached is preferred
  -- to that
  pub record Followed (g : Graph L) (q : Query L) (s : ℕ) (e : End L.Step) : Type 0 where
    pub hops : List (Hop L)
    pub path : IsPath L g (record { start = q.start; hops = hops })
    pub comes : last_from q.start hops ≡ s
    pub state : ℕ
    pub leads : Leads L 0 (word L hops) state
    pub usable : Usable state e
    pub uncut : (r : List (Hop L)) → Reached L g q (record { start = q.start; hops = r }) → ¬ Preferred r hops e

  -- an open pair is followed if, at its scope, some end that may come there is
  abbrev pub FollowedAt : Graph L → Query L → OpenPair L → Type 0
  FollowedAt g q o = (e : End L.Step) × Admits L o.end e × Followed g q o.at e
