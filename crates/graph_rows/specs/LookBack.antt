-- The quick test for a repeated edge, as the code makes it: it looks back only through the rows
-- directly above that leave the same scope by the same label, and not at all for a row of turn 0.
-- Refusal 4 does not rest on it: that is `repeats` (specs/Admission). While the rows so far ascend
-- the two agree, which is `RepeatsTold`. Assumes nothing: these are definitions.
use Rattle.std.specs.Prelude.{ℕ, ◌≡◌, List, [], ◌∷◌, Bool, true, false, ◌&&◌, ◌||◌, eqb, ltb}
use Rattle.scope_graph.specs.Listing.{Pairwise}
use Rattle.graph_rows.specs.Format.{apart, section_at, edge_section}
use Rattle.graph_rows.specs.Admission.{Row, value, key_less, same_source, repeats}

-- what an edge row is sorted by, as the code compares it
unfoldable pub edge_key : Row → ℕ × ℕ × ℕ × ℕ
edge_key row = (value row 0, value row 1, value row 3, value row 2)

-- Is the row's edge among those directly above that leave the same scope by the same label?
unfoldable pub found_looking_back : List Row → Row → Bool
found_looking_back [] row = false
found_looking_back (a ∷ above) row = same_source a row && (eqb (value a 2) (value row 2) || found_looking_back above row)

-- Where rows ascend, those of one scope and label stand together, lower turns above higher ones, so
-- a row of turn 0 repeats none.
unfoldable pub quick_repeats : List Row → Row → Bool
quick_repeats own row = ltb 0 (value row 3) && found_looking_back own row

-- The rows so far ascend by the key; they are listed last first.
abbrev pub Ascended : List ℕ → List Row → Type 0
Ascended key own = Pairwise (λ (a b : Row). key_less key b a ≡ true) own

-- So it is with the rows so far of a section in which no edge may stand twice.
abbrev pub SortedSofar : ℕ → List Row → Type 0
SortedSofar k own = apart ≡ (section_at k).sequence → Ascended (section_at k).key own

-- For a row that ascends after rows that do, the quick test finds a repeated edge exactly if there
-- is one.
abbrev pub RepeatsTold : Type 0
RepeatsTold = (own : List Row) (row : Row) → Ascended (section_at edge_section).key (row ∷ own) → quick_repeats own row ≡ repeats own row
