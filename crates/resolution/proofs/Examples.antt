-- A worked example, computed by the checker: a file with kinds (02, K8). One name stands at one
-- scope in two kinds; each query finds its own kind's, and the listing shows the kind. Assumes
-- nothing.
use Prim.Native.Nat.{ℕ}
use mathlib.Core.Path.{◌≡◌, refl}
use mathlib.Core.List.{List, [], ◌∷◌}
use Rattle.text_field.specs.Outcome.{done, and_then, refuse_if}
use Rattle.graph_file.specs.File.{read_cells}
use Rattle.board.proofs.Example.{reads}
use Rattle.resolution.specs.Listing.{found_for, entries_text, listing_text, listing_of}
use Rattle.resolution.proofs.Marked.{answers}

-- `label`, `less more`, `state label next`, `accept` with `0`, `scopes` with `1`, `from label to`,
-- `at kind name mark` with `0 c x 1` and `0 v x 2`, `at open`, `start kind seek` with `0 c x` and
-- `0 v x`
abbrev kind_text : List ℕ
kind_text =
    108 ∷ 97 ∷ 98 ∷ 101 ∷ 108 ∷ 10 ∷
    108 ∷ 101 ∷ 115 ∷ 115 ∷ 32 ∷ 109 ∷ 111 ∷ 114 ∷ 101 ∷ 10 ∷
    115 ∷ 116 ∷ 97 ∷ 116 ∷ 101 ∷ 32 ∷ 108 ∷ 97 ∷ 98 ∷ 101 ∷ 108 ∷ 32 ∷ 110 ∷ 101 ∷ 120 ∷ 116 ∷ 10 ∷
    97 ∷ 99 ∷ 99 ∷ 101 ∷ 112 ∷ 116 ∷ 10 ∷
    48 ∷ 10 ∷
    115 ∷ 99 ∷ 111 ∷ 112 ∷ 101 ∷ 115 ∷ 10 ∷
    49 ∷ 10 ∷
    102 ∷ 114 ∷ 111 ∷ 109 ∷ 32 ∷ 108 ∷ 97 ∷ 98 ∷ 101 ∷ 108 ∷ 32 ∷ 116 ∷ 111 ∷ 10 ∷
    97 ∷ 116 ∷ 32 ∷ 107 ∷ 105 ∷ 110 ∷ 100 ∷ 32 ∷ 110 ∷ 97 ∷ 109 ∷ 101 ∷ 32 ∷ 109 ∷ 97 ∷ 114 ∷ 107 ∷ 10 ∷
    48 ∷ 32 ∷ 99 ∷ 32 ∷ 120 ∷ 32 ∷ 49 ∷ 10 ∷
    48 ∷ 32 ∷ 118 ∷ 32 ∷ 120 ∷ 32 ∷ 50 ∷ 10 ∷
    97 ∷ 116 ∷ 32 ∷ 111 ∷ 112 ∷ 101 ∷ 110 ∷ 10 ∷
    115 ∷ 116 ∷ 97 ∷ 114 ∷ 116 ∷ 32 ∷ 107 ∷ 105 ∷ 110 ∷ 100 ∷ 32 ∷ 115 ∷ 101 ∷ 101 ∷ 107 ∷ 10 ∷
    48 ∷ 32 ∷ 99 ∷ 32 ∷ 120 ∷ 10 ∷
    48 ∷ 32 ∷ 118 ∷ 32 ∷ 120 ∷ 10 ∷ []

abbrev kind_cells : List ℕ
kind_cells = 1 ∷ 3 ∷ 0 ∷ 0 ∷ 0 ∷ 0 ∷ 0 ∷ 4 ∷ 1 ∷ 0 ∷ 0 ∷ 0 ∷ 0 ∷ 6 ∷ 0 ∷ 99 ∷ 8646911284551352320 ∷ 0 ∷ 1 ∷ 6 ∷ 0 ∷ 118 ∷ 8646911284551352320 ∷ 0 ∷ 2 ∷ 8 ∷ 0 ∷ 99 ∷ 8646911284551352320 ∷ 0 ∷ 0 ∷ 8 ∷ 0 ∷ 118 ∷ 8646911284551352320 ∷ 0 ∷ 0 ∷ []

kinds_read : read_cells kind_text ≡ done kind_cells
unfolding reads
kinds_read = refl

-- `start kind seek found awaits`, `0 c x one -`, `mark path`, `1 0`
c_listed : listing_of kind_cells 0
    ≡ done (115 ∷ 116 ∷ 97 ∷ 114 ∷ 116 ∷ 32 ∷ 107 ∷ 105 ∷ 110 ∷ 100 ∷ 32 ∷ 115 ∷ 101 ∷ 101 ∷ 107 ∷ 32 ∷ 102 ∷ 111 ∷ 117 ∷ 110 ∷ 100 ∷ 32 ∷ 97 ∷ 119 ∷ 97 ∷ 105 ∷ 116 ∷ 115 ∷ 10 ∷ 48 ∷ 32 ∷ 99 ∷ 32 ∷ 120 ∷ 32 ∷ 111 ∷ 110 ∷ 101 ∷ 32 ∷ 45 ∷ 10 ∷ 109 ∷ 97 ∷ 114 ∷ 107 ∷ 32 ∷ 112 ∷ 97 ∷ 116 ∷ 104 ∷ 10 ∷ 49 ∷ 32 ∷ 48 ∷ 10 ∷ [])
unfolding answers and_then refuse_if found_for entries_text listing_text listing_of
c_listed = refl

-- the same of `0 v x one -` and `2 0`
v_listed : listing_of kind_cells 1
    ≡ done (115 ∷ 116 ∷ 97 ∷ 114 ∷ 116 ∷ 32 ∷ 107 ∷ 105 ∷ 110 ∷ 100 ∷ 32 ∷ 115 ∷ 101 ∷ 101 ∷ 107 ∷ 32 ∷ 102 ∷ 111 ∷ 117 ∷ 110 ∷ 100 ∷ 32 ∷ 97 ∷ 119 ∷ 97 ∷ 105 ∷ 116 ∷ 115 ∷ 10 ∷ 48 ∷ 32 ∷ 118 ∷ 32 ∷ 120 ∷ 32 ∷ 111 ∷ 110 ∷ 101 ∷ 32 ∷ 45 ∷ 10 ∷ 109 ∷ 97 ∷ 114 ∷ 107 ∷ 32 ∷ 112 ∷ 97 ∷ 116 ∷ 104 ∷ 10 ∷ 50 ∷ 32 ∷ 48 ∷ 10 ∷ [])
unfolding answers and_then refuse_if found_for entries_text listing_text listing_of
v_listed = refl
