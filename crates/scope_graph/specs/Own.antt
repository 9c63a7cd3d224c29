-- Every lane keeps its own count: each of some scopes sees one declaration of a name, and no two of
-- them the same. When this holds for good, whatever rows still come, and the tests that tell it; that
-- they do is proved in proofs/Own.antt. Assumes nothing: these are definitions.
use Rattle.std.specs.Prelude.{ℕ, ◌<◌, ◌≡◌, Bool, true, false, not, ◌&&◌, ◌||◌, ◌↔◌, List, [], ◌∷◌, eqb}
use Rattle.std.proofs.Math.Option.{Option, some, none}
use Rattle.scope_graph.specs.Language.{◌∈◌, Language}
use Rattle.scope_graph.specs.Graph.{Graph, Query, OpenPair}
use Rattle.scope_graph.specs.Path.{PathRow, row_declaration, Entry}
use Rattle.scope_graph.specs.Completion.{Completion, Settled}
use Rattle.scope_graph.specs.Computed.{any_below, Found, found_none, found_one, found_several, marks_at, found, awaits}
use Rattle.scope_graph.specs.Listing.{Accepted, FoundIs}
use Rattle.scope_graph.specs.Ends.{ends_at, several_marks}

-- is the test met by every element?
unfoldable pub all_of : {A : Type 0} → (A → Bool) → List A → Bool
all_of f [] = true
all_of f (a ∷ rest) = f a && all_of f rest

-- is it the word `one`? is it `-`?
unfoldable pub is_one : Found → Bool
is_one found_none = false
is_one found_one = true
is_one found_several = false

unfoldable pub is_none : {A : Type 0} → Option A → Bool
is_none none = true
is_none (some a) = false

module _ (L : Language) (x : L.Name) where
  -- the name, asked at a scope
  abbrev pub asked : ℕ → Query L
  asked s = record { start = s; name = x }

  -- both scopes see one and the same declaration of the name
  pub record Share (g : Graph L) (s t : ℕ) : Type 0 where
    pub first : PathRow L
    pub second : PathRow L
    pub first_seen : Entry L g (asked s) first
    pub second_seen : Entry L g (asked t) second
    pub same : row_declaration L (asked s) first ≡ row_declaration L (asked t) second

  -- in this graph each of the scopes has its own: it sees one declaration, by however many paths,
  -- and no other of the scopes sees that one
  pub record OwnIn (g : Graph L) (starts : List ℕ) : Type 0 where
    pub one : (s : ℕ) → s ∈ starts → FoundIs L g (asked s) found_one
    pub apart : (s t : ℕ) → s ∈ starts → t ∈ starts → ¬ (s ≡ t) → ¬ Share g s t

  -- is there a scope where visible paths of both end?
  unfoldable pub meet : Graph L → ℕ → ℕ → Bool
  meet g s t = any_below (λ e. ends_at L g (asked s) e && ends_at L g (asked t) e) g.scopes

  module _ (g : Graph L) (opens : List (OpenPair L)) (starts : List ℕ) where
    -- the sentence: whatever still comes, each has its own
    abbrev pub OwnAlways : Type 0
    OwnAlways = (h : Graph L) → Completion L opens g h → OwnIn h starts

    -- what one can look at today: each has its own, and each listing is settled
    pub record OwnNow : Type 0 where
      pub own : OwnIn g starts
      pub settled : (s : ℕ) → s ∈ starts → Settled L g opens (asked s)

    -- the same in what is computed: the words `one` and `-` of each listing, and no scope where
    -- visible paths of two of them end
    pub record OwnTold : Type 0 where
      pub one : (s : ℕ) → s ∈ starts → found L g (asked s) ≡ found_one
      pub settled : (s : ℕ) → s ∈ starts → awaits L g (asked s) opens ≡ none
      pub no_scope : (s t : ℕ) → s ∈ starts → t ∈ starts → ¬ (s ≡ t)
          → (e : ℕ) → e < g.scopes → ends_at L g (asked s) e ≡ true → ends_at L g (asked t) e ≡ true → ⊥

    -- as one test: has the scope its own for good, and has each?
    unfoldable pub has_own : ℕ → Bool
    has_own s =
        is_one (found L g (asked s))
        && (is_none (awaits L g (asked s) opens) && all_of (λ t. eqb s t || not (meet g s t)) starts)

    unfoldable pub keeps_own : Bool
    keeps_own = all_of has_own starts

    pub record OwnPromises : Type 0 where
      -- The sentence can be looked up today. For a listing that is not settled some completion breaks
      -- it: where a row that matters may come, two declarations of the name may, and the scope sees
      -- both.
      pub always_now : OwnAlways ↔ OwnNow
      pub now_told : OwnNow ↔ OwnTold
      pub told_test : OwnTold ↔ (keeps_own ≡ true)
      -- two of the scopes share a declaration exactly if visible paths of both end at one scope
      pub shares_ends : (s t : ℕ) → s ∈ starts → t ∈ starts
          → Share g s t ↔ ((e : ℕ) × (ends_at L g (asked s) e ≡ true) × (ends_at L g (asked t) e ≡ true))
      -- one declaration is found exactly if visible paths end at one scope, which has one mark
      pub one_ends : (s : ℕ) → s ∈ starts → (found L g (asked s) ≡ found_one)
          ↔ ((e : ℕ) × (e < g.scopes) × (ends_at L g (asked s) e ≡ true) × (several_marks L g (asked s) e ≡ false)
          × ((t : ℕ) → t < g.scopes → ends_at L g (asked s) t ≡ true → t ≡ e))
      pub one_mark : (s e : ℕ) → s ∈ starts → ends_at L g (asked s) e ≡ true
          → (several_marks L g (asked s) e ≡ false) ↔ ((m : ℕ) × (marks_at L g.declarations e x ≡ m ∷ []))

-- all of it, where the graph and each of the queries is accepted
abbrev pub Owns : Type 1
Owns = (L : Language) (x : L.Name) (g : Graph L) (opens : List (OpenPair L)) (starts : List ℕ)
    → ((s : ℕ) → s ∈ starts → Accepted L g opens (asked L x s)) → OwnPromises L x g opens starts
