-- Listings that somebody else made (02, K3): when one is right, and tests that decide it. The
-- statements are at the end; their proof is in proofs/TakenIn.antt. Assumes nothing: these are
-- definitions.
use Rattle.std.specs.Prelude.{◌≡◌, true, ◌↔◌, List, length}
use Rattle.std.proofs.Math.Option.{Option, some, none}
use Rattle.scope_graph.specs.Language.{◌∈◌, Language}
use Rattle.scope_graph.specs.Graph.{Graph, Query, OpenPair}
use Rattle.scope_graph.specs.Path.{PathRow, Entry}
use Rattle.scope_graph.specs.Completion.{Decisive, Settled}
use Rattle.scope_graph.specs.Computed.{Found, is_visible, judged, entries, found, followed_at, awaits}
use Rattle.scope_graph.specs.Listing.{Pairwise, Accepted, FoundIs}

-- all elements are different
abbrev pub NoneTwice : {A : Type 0} → List A → Type 0
NoneTwice xs = Pairwise (λ x y. ¬ (x ≡ y)) xs

module _ (L : Language) where
  -- what a listing says of its query; `awaits` is none where it says `-`
  pub record Told : Type 0 where
    pub found : Found
    pub awaits : Option (OpenPair L)
    pub rows : List (PathRow L)

  module _ (g : Graph L) (opens : List (OpenPair L)) (q : Query L) where
    -- 02, K3: a supplier may name any decisive pair, not only the first
    abbrev pub MayAwait : Option (OpenPair L) → Type 0
    MayAwait none = Settled L g opens q
    MayAwait (some o) = Decisive L g opens q o

    -- 02, K3: the listing is right. Its rows are the query's entries, in whatever sequence.
    pub record RightlyTold (t : Told) : Type 0 where
      pub rows_are : (r : PathRow L) → (r ∈ t.rows) ↔ Entry L g q r
      pub once : NoneTwice t.rows
      pub found_right : FoundIs L g q t.found
      pub may_await : MayAwait t.awaits

    -- the test of `awaits`: `-` where our own listing says `-`, else an open pair that is followed
    abbrev pub AwaitPasses : Option (OpenPair L) → Type 0
    AwaitPasses none = awaits L g q opens ≡ none
    AwaitPasses (some o) = (o ∈ opens) × (followed_at L g q o ≡ true)

    -- the tests of a whole listing: the judge calls every row visible, no row is repeated, there are
    -- as many as there are entries, and `found` is ours
    pub record Passes (t : Told) : Type 0 where
      pub visible : (r : PathRow L) → r ∈ t.rows → judged L g q r ≡ is_visible
      pub all_different : NoneTwice t.rows
      pub count : length t.rows ≡ length (entries L g q)
      pub word : found L g q ≡ t.found
      pub await : AwaitPasses t.awaits

    pub record TakenPromises : Type 0 where
      -- of the rows alone: different entries, as many as there are, are all of them
      pub all_rows : (rs : List (PathRow L)) → ((r : PathRow L) → r ∈ rs → Entry L g q r) → NoneTwice rs
          → length rs ≡ length (entries L g q) → (r : PathRow L) → (r ∈ rs) ↔ Entry L g q r
      pub counted : (rs : List (PathRow L)) → ((r : PathRow L) → (r ∈ rs) ↔ Entry L g q r) → NoneTwice rs
          → length rs ≡ length (entries L g q)
      -- another test of the rows, which never compares two of them: every entry is among them, and
      -- there are no more rows than entries
      pub covered : (rs : List (PathRow L)) → ((r : PathRow L) → Entry L g q r → r ∈ rs) → length rs ≡ length (entries L g q)
          → ((r : PathRow L) → (r ∈ rs) ↔ Entry L g q r) × NoneTwice rs
      -- of `found` and of `awaits` alone
      pub found_word : (f : Found) → (found L g q ≡ f) ↔ FoundIs L g q f
      pub await_pair : (a : Option (OpenPair L)) → AwaitPasses a ↔ MayAwait a
      -- a listing passes exactly if it is right, and our own is right
      pub decides : (t : Told) → Passes t ↔ RightlyTold t
      pub own : RightlyTold (record { found = found L g q; awaits = awaits L g q opens; rows = entries L g q })

-- for every accepted graph and query
abbrev pub TakenIn : Type 1
TakenIn = (L : Language) (g : Graph L) (opens : List (OpenPair L)) (q : Query L) → Accepted L g opens q → TakenPromises L g opens q
