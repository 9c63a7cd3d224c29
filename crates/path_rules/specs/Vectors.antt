-- For each word the positions from which it leads to the end, gathered backwards from the end (02,
-- K6). `after` has the set of positions behind each of ten positions, `labels` their labels; the
-- word's end is number 10. Assumes nothing: these are definitions.
use Rattle.std.specs.Prelude.{ℕ, zero, suc, ◌+◌, ◌/◌, ◌%◌, ◌^◌, Bool, true, false, not, ◌&&◌, List, [], ◌∷◌, eqb, ltb, get_or, set, length, take, replicate}
use Rattle.std.specs.List.{position}
use Rattle.std.specs.declared.option.Option.{Option}
use Rattle.scope_graph.specs.Rows.{any_of}
use Rattle.path_rules.specs.Sets.{has, only_if, gather, meets}
use Rattle.path_rules.specs.declared.vectors.Found.{Found}

-- the set of the word's end alone
abbrev pub end_set : ℕ
end_set = 1024

module _ (after labels : List ℕ) where
  -- the positions of the label that go on into the set v
  unfoldable pub before_cell : ℕ → ℕ → ℕ → ℕ
  before_cell v l p = only_if (eqb (get_or labels p 0) l && meets (get_or after p 0) v) (2 ^ p)

  unfoldable pub before : ℕ → ℕ → ℕ
  before v l = gather (before_cell v l) 10

  -- where the positions of the label in the set s go on to
  unfoldable pub onward_cell : ℕ → ℕ → ℕ → ℕ
  onward_cell s l p = only_if (eqb (get_or labels p 0) l && has s p) (get_or after p 0)

  unfoldable pub onward : ℕ → ℕ → ℕ
  onward s l = gather (onward_cell s l) 10

-- the sets found so far, in the first `count` cells
unfoldable pub vectors_of : Found → List ℕ
vectors_of f = take f.count f.cells

-- is the set a new one, for which there is room?
unfoldable pub is_new : Found → ℕ → Bool
is_new f v = ltb f.count (length f.cells) && not (any_of (eqb v) (take f.count f.cells))

unfoldable pub noted : Found → ℕ → Found
noted f v = elim (is_new f v) [ true ↦ record { cells = set f.cells f.count v; count = f.count + 1 } | false ↦ f ]

-- the end's own set is found first; there are at most 2,048 sets
unfoldable pub first_found : Found
first_found = record { cells = set (replicate 2048 0) 0 end_set; count = 1 }

module _ (after labels : List ℕ) where
  -- turn k: what leads by label k % 8 into set k / 8
  unfoldable pub note_turn : ℕ → Found → Found
  note_turn k f =
      elim (ltb (k / 8) f.count) [ true ↦ noted f (before after labels (get_or f.cells (k / 8) 0) (k % 8)) | false ↦ f ]

  unfoldable pub turns : ℕ → Found → Found
  turns zero f = f
  turns (suc k) f = note_turn k (turns k f)

  -- all of them, by each of 8 labels
  unfoldable pub vectors : Found
  vectors = turns 16384 first_found

-- does v meet both sets, or neither?
unfoldable pub alike_on : ℕ → ℕ → ℕ → Bool
alike_on v a b = elim (meets a v) [ true ↦ meets b v | false ↦ not (meets b v) ]

-- do two sets meet the same ones of a list of sets?
unfoldable pub same_on : List ℕ → ℕ → ℕ → Bool
same_on [] a b = true
same_on (v ∷ vs) a b = elim (alike_on v a b) [ true ↦ same_on vs a b | false ↦ false ]

-- the place of the first set that meets the same of `vs` as t does, if there is one
unfoldable pub place_same : List ℕ → List ℕ → ℕ → Option ℕ
place_same vs ss t = position (λ s. same_on vs s t) ss
