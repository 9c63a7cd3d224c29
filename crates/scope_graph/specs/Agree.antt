-- How far two paths agree, and where a shadowed path was caught (02, K7); and what is proved of
-- both, whose values are in proofs/Agree.antt. Assumes nothing: these are definitions.
use Rattle.std.specs.Prelude.{ℕ, suc, ◌≤◌, ◌≡◌, Bool, true, false, ◌↔◌, List, [], ◌∷◌, map, eqb, ltb, length}
use Rattle.scope_graph.specs.Language.{◌∈◌, stop, Language}
use Rattle.scope_graph.specs.Graph.{Graph, Query, OpenPair}
use Rattle.scope_graph.specs.Path.{Hop, Path, PathRow, MoreSpecific, Reached, Shadowed, MarkDeclared, Entry}
use Rattle.scope_graph.specs.Rows.{Rules}
use Rattle.scope_graph.specs.Rows.{language as language_of}
use Rattle.scope_graph.specs.Computed.{Standing, is_visible, is_shadowed, is_unreached, keep, same_hop, preferred_to, reached_nodes, judged}
use Rattle.scope_graph.specs.Listing.{Accepted}

-- the greatest of some numbers; 0 of none
unfoldable pub most : List ℕ → ℕ
most [] = 0
most (x ∷ xs) = elim (ltb (most xs) x) [ true ↦ x | false ↦ most xs ]

-- 01's three standings, of which *shadowed* carries a number of steps
pub data Judgement : Type 0 where
  as_visible as_unreached : Judgement
  as_shadowed : ℕ → Judgement

-- a standing with that number
unfoldable pub with_steps : Standing → ℕ → Judgement
with_steps is_visible n = as_visible
with_steps is_shadowed n = as_shadowed n
with_steps is_unreached n = as_unreached

module _ (L : Language) where
  -- Is it the same step? By its label and the scope that it comes to, as a path row shows them (01,
  -- "Paths"). Of steps along edges that leave one scope this is all of it, turns included: so says
  -- `one_step` below.
  unfoldable pub same_step : Hop L → Hop L → Bool
  same_step h k = same_hop (λ a b. eqb (L.label a) (L.label b)) h k

  -- how many steps from the front on are the same in both: the count ends where two steps differ or
  -- one path is over
  unfoldable pub agree_hops : List (Hop L) → List (Hop L) → ℕ
  agree_hops [] p = 0
  agree_hops (h ∷ r) [] = 0
  agree_hops (h ∷ r) (k ∷ p) = elim (same_step h k) [ true ↦ suc (agree_hops r p) | false ↦ 0 ]

  -- of two paths; 0 for different starts
  unfoldable pub agree : Path L → Path L → ℕ
  agree r p = elim (eqb r.start p.start) [ true ↦ agree_hops r.hops p.hops | false ↦ 0 ]

  module _ (g : Graph L) (q : Query L) where
    -- *Shadowed* with n steps: some reached path that is more specific agrees with the path in n
    -- steps, and none in more.
    pub record ShadowedWith (p : Path L) (n : ℕ) : Type 0 where
      pub shadowed : Shadowed L g q p
      pub catcher : Path L
      pub reached : Reached L g q catcher
      pub more_specific : MoreSpecific L catcher p
      pub agrees : agree catcher p ≡ n
      pub none_more : (r : Path L) → Reached L g q r → MoreSpecific L r p → agree r p ≤ n

    -- the greatest number of steps in which a reached path that is more specific agrees with one
    -- from the query's start
    unfoldable pub caught : Path L → ℕ
    caught p =
        most (map (λ n. agree_hops n.hops p.hops) (keep (λ n. preferred_to L n.hops p.hops stop) (reached_nodes L g q)))

    -- a path row's standing, with the number that a shadowed one carries
    unfoldable pub judgement : PathRow L → Judgement
    judgement r = with_steps (judged L g q r) (caught r.path)

  -- steps that may stand on edges with the same two scopes are the same at one label
  abbrev pub OneStep : Type 0
  OneStep = (a b : L.Step) → L.Together a b → L.label a ≡ L.label b → a ≡ b

  -- equal paths agree in all steps, paths from different starts in none, and it is the same both
  -- ways
  pub record PathsAgree : Type 0 where
    pub equal : (p : Path L) → agree p p ≡ length p.hops
    pub apart : (r p : Path L) → ¬ (r.start ≡ p.start) → agree r p ≡ 0
    pub symmetric : (r p : Path L) → agree r p ≡ agree p r

  pub record CaughtIs (g : Graph L) (q : Query L) : Type 0 where
    -- along edges that leave one scope, one label and one scope are the same step, turns included
    pub one_step : (s : ℕ) (h k : Hop L) → record { from = s; step = h.step; to = h.to } ∈ g.edges
        → record { from = s; step = k.step; to = k.to } ∈ g.edges → same_step h k ≡ same_hop L.same_step h k
    -- a shadowed path is so with one number, the computed one
    pub shadowed_with : (p : Path L) (n : ℕ) → ShadowedWith g q p n ↔ (Shadowed L g q p × (caught g q p ≡ n))
    -- exactly one judgement holds of each path row, and it is the computed one
    pub visible : (r : PathRow L) → (judgement g q r ≡ as_visible) ↔ Entry L g q r
    pub shadowed : (r : PathRow L) (n : ℕ) → (judgement g q r ≡ as_shadowed n) ↔ (ShadowedWith g q r.path n × MarkDeclared L g q r)
    pub unreached : (r : PathRow L) → (judgement g q r ≡ as_unreached) ↔ (¬ (Reached L g q r.path × MarkDeclared L g q r))

-- all of it, for every language of a file and every accepted graph and query
pub record AgreePromises : Type 1 where
  pub language : (r : Rules) → OneStep (language_of r)
  pub paths : (L : Language) → PathsAgree L
  pub query : (L : Language) (g : Graph L) (opens : List (OpenPair L)) (q : Query L) → Accepted L g opens q → OneStep L → CaughtIs L g q
