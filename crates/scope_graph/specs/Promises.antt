-- What is proved of the rules: each field is a statement, and proofs/Promises.antt has the value.
-- Assumes nothing: these are statements.
use Rattle.std.specs.Prelude.{ℕ, ◌≤◌, ◌≡◌, true, ◌↔◌, List}
use Rattle.std.proofs.Math.Option.{none}
use Rattle.scope_graph.specs.Language.{◌∈◌, stop, Language, Laws}
use Rattle.scope_graph.specs.Graph.{Graph, Query, OpenPair}
use Rattle.scope_graph.specs.Path.{Path, PathRow, row_declaration, MoreSpecific, Reached, Visible, Shadowed, Unreached, MarkDeclared, Entry}
use Rattle.scope_graph.specs.Completion.{Decisive, Settled, Awaits}
use Rattle.scope_graph.specs.Rows.{Rules, RulesPass}
use Rattle.scope_graph.specs.Rows.{language as language_of}
use Rattle.scope_graph.specs.Followed.{Preferred, FollowedAt}
use Rattle.scope_graph.specs.Computed.{is_visible, is_shadowed, is_unreached, more_specific, standing, judged, entries, found, followed_at, awaits}
use Rattle.scope_graph.specs.Listing.{Pairwise, RowBefore, Accepted, FoundIs}
use Rattle.scope_graph.specs.Ends.{found_among, ends_at, several_marks}

-- rules that refusals 3 and 6 let pass give a language with the laws
abbrev pub LanguageLaws : Type 0
LanguageLaws = (r : Rules) → RulesPass r → Laws (language_of r)

module _ (L : Language) where
  -- *more specific* is a strict order, its form by recursion on the hops is the plain reading, and
  -- it is computed
  pub record OrderPromises : Type 0 where
    pub irreflexive : (p : Path L) → ¬ MoreSpecific L p p
    pub transitive : (p r t : Path L) → MoreSpecific L p r → MoreSpecific L r t → MoreSpecific L p t
    pub recursive : (r p : Path L) → r.start ≡ p.start → Preferred L r.hops p.hops stop ↔ MoreSpecific L r p
    pub computed : (r p : Path L) → (more_specific L r p ≡ true) ↔ MoreSpecific L r p

  module _ (g : Graph L) (opens : List (OpenPair L)) (q : Query L) where
    pub record QueryPromises : Type 0 where
      -- exactly one standing holds of each path, and it is the computed one
      pub visible : (p : Path L) → (standing L g q p ≡ is_visible) ↔ Visible L g q p
      pub shadowed : (p : Path L) → (standing L g q p ≡ is_shadowed) ↔ Shadowed L g q p
      pub unreached : (p : Path L) → (standing L g q p ≡ is_unreached) ↔ Unreached L g q p
      -- exactly one standing holds of each path row too, by its path and by whether its mark is
      -- declared at the path's last scope
      pub judged_visible : (r : PathRow L) → (judged L g q r ≡ is_visible) ↔ Entry L g q r
      pub judged_shadowed : (r : PathRow L) → (judged L g q r ≡ is_shadowed) ↔ (Shadowed L g q r.path × MarkDeclared L g q r)
      pub judged_unreached : (r : PathRow L) → (judged L g q r ≡ is_unreached) ↔ (¬ (Reached L g q r.path × MarkDeclared L g q r))
      pub shadowed_by : (p : Path L) → Shadowed L g q p → (r : Path L) × Reached L g q r × MoreSpecific L r p
      -- the computed entries are the entries of the rules, each once, in the listing's order: by
      -- label number, then by scope, whatever the turns (02, K12)
      pub entries_are : (r : PathRow L) → (r ∈ entries L g q) ↔ Entry L g q r
      pub entries_ascend : Pairwise (RowBefore L) (entries L g q)
      pub once : (r : PathRow L) → ¬ RowBefore L r r
      pub found_is : FoundIs L g q (found L g q)
      -- the scopes where visible paths end are the entries'; they and their marks tell the same
      -- `found`
      pub ends_are : (s : ℕ) → (ends_at L g q s ≡ true) ↔ ((r : PathRow L) × Entry L g q r × ((row_declaration L q r).at ≡ s))
      pub found_told : (n : ℕ) → g.scopes ≤ n → found_among (ends_at L g q) (several_marks L g q) n ≡ found L g q
      -- decisive is open and followed; settled is that no pair is decisive; the computed `awaits`
      -- is the first decisive pair, and `-` exactly if settled
      pub decisive : (o : OpenPair L) → Decisive L g opens q o ↔ ((o ∈ opens) × FollowedAt L g q o)
      pub followed : (o : OpenPair L) → (followed_at L g q o ≡ true) ↔ FollowedAt L g q o
      pub settled : Settled L g opens q ↔ ((o : OpenPair L) → ¬ Decisive L g opens q o)
      pub awaits_is : Awaits L g opens q (awaits L g q opens)
      pub awaits_none : (awaits L g q opens ≡ none) ↔ Settled L g opens q

-- all of it, for every language with the laws and every accepted graph and query
pub record Promises : Type 1 where
  pub language : LanguageLaws
  pub order : (L : Language) → Laws L → OrderPromises L
  pub query : (L : Language) (g : Graph L) (opens : List (OpenPair L)) (q : Query L) → Accepted L g opens q → QueryPromises L g opens q
