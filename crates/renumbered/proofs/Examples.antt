-- A small table renumbered, and back, worked out by the definitions. Assumes nothing.
use Prim.Native.Nat.{ℕ}
use mathlib.Core.Path.{◌≡◌, refl}
use mathlib.Core.List.{List, [], ◌∷◌, ◌++◌}
use Rattle.scope_graph.specs.Readers.{numbers_below}
use Rattle.scope_graph.specs.Renamed.{place_of}
use Rattle.graph_rows.specs.Format.{labels, pairs, transitions, accepts, scope_count, edges, declarations, open_pairs, queries, sections, section_at, has_kinds, has_turns, edge_shape, declaration_shape, query_shape, shapes_of, shape_at}
use Rattle.graph_rows.specs.Admission.{key_less}
use Rattle.graph_rows.specs.Tested.{form_in}
use Rattle.graph_rows.specs.Decode.{kept_if, rows_among, rows_in}
use Rattle.graph_rows.specs.Formed.{cells_of, cells_from, table_of}
use Rattle.graph_change.specs.Changed.{inserted, inserted_all}
use Rattle.renumbered.specs.Renumbered.{is_scope, holds_scope, value_under, values_under, row_under, sequenced, rows_under, renumbered_by, back_of}

-- the label P and three scopes
abbrev begins : List ℕ
begins = 0 ∷ 0 ∷ 80 ∷ 0 ∷ 0 ∷ 0 ∷ 0 ∷ 4 ∷ 3 ∷ 0 ∷ 0 ∷ 0 ∷ 0 ∷ []

-- Edges from 0 to 1, 0 to 2 and 2 to 0, a declaration at 1 and one at 2, `1 $` open, queries from 2
-- and from 0.
abbrev before : List ℕ
before =
    begins
    ++ (5 ∷ 0 ∷ 0 ∷ 1 ∷ 0 ∷ 0 ∷ 5 ∷ 0 ∷ 0 ∷ 2 ∷ 0 ∷ 0 ∷ 5 ∷ 2 ∷ 0 ∷ 0 ∷ 0 ∷ 0 ∷ [])
    ++ (6 ∷ 1 ∷ 118 ∷ 1000 ∷ 0 ∷ 7 ∷ 6 ∷ 2 ∷ 118 ∷ 1000 ∷ 0 ∷ 8 ∷ [])
    ++ (7 ∷ 1 ∷ 0 ∷ 0 ∷ 0 ∷ 0 ∷ [])
    ++ (8 ∷ 2 ∷ 118 ∷ 1000 ∷ 0 ∷ 0 ∷ 8 ∷ 0 ∷ 118 ∷ 1000 ∷ 0 ∷ 0 ∷ [])

-- 2 is the first now, then 0, then 1: the two edges of one scope have changed places, and the two
-- declarations
abbrev was : List ℕ
was = 2 ∷ 0 ∷ 1 ∷ []

abbrev after : List ℕ
after =
    begins
    ++ (5 ∷ 0 ∷ 0 ∷ 1 ∷ 0 ∷ 0 ∷ 5 ∷ 1 ∷ 0 ∷ 0 ∷ 0 ∷ 0 ∷ 5 ∷ 1 ∷ 0 ∷ 2 ∷ 0 ∷ 0 ∷ [])
    ++ (6 ∷ 0 ∷ 118 ∷ 1000 ∷ 0 ∷ 8 ∷ 6 ∷ 2 ∷ 118 ∷ 1000 ∷ 0 ∷ 7 ∷ [])
    ++ (7 ∷ 2 ∷ 0 ∷ 0 ∷ 0 ∷ 0 ∷ [])
    ++ (8 ∷ 0 ∷ 118 ∷ 1000 ∷ 0 ∷ 0 ∷ 8 ∷ 1 ∷ 118 ∷ 1000 ∷ 0 ∷ 0 ∷ [])

renumbered : renumbered_by was before ≡ after
unfolding place_of labels pairs transitions accepts scope_count edges declarations open_pairs queries sections section_at has_kinds has_turns edge_shape declaration_shape query_shape shapes_of shape_at key_less form_in kept_if rows_among rows_in cells_of cells_from table_of inserted inserted_all is_scope holds_scope value_under values_under row_under sequenced rows_under renumbered_by
renumbered = refl

back : back_of was ≡ 1 ∷ 2 ∷ 0 ∷ []
unfolding place_of numbers_below back_of
back = refl

renumbered_back : renumbered_by (1 ∷ 2 ∷ 0 ∷ []) after ≡ before
unfolding place_of labels pairs transitions accepts scope_count edges declarations open_pairs queries sections section_at has_kinds has_turns edge_shape declaration_shape query_shape shapes_of shape_at key_less form_in kept_if rows_among rows_in cells_of cells_from table_of inserted inserted_all is_scope holds_scope value_under values_under row_under sequenced rows_under renumbered_by
renumbered_back = refl
