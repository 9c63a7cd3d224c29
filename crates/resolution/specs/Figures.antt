-- How the summary's figures are counted, query by query, and its text in parts. Assumes nothing:
-- these are definitions.
use Rattle.std.specs.Prelude.{ℕ, ◌+◌, ◌≤◌, List, [], ◌∷◌, ◌++◌}
use Rattle.scope_graph.specs.Graph.{Query}
use Rattle.scope_graph.specs.Rows.{language}
use Rattle.scope_graph.specs.Computed.{Found, found_none, found_one, found_several}
use Rattle.text_field.specs.Number.{number_text}
use Rattle.graph_rows.specs.Decode.{rules_of}
use Rattle.resolution.specs.Summary.{summary_line, summary_text}
use Rattle.resolution.specs.declared.sums.Figures.{Figures}
use Rattle.resolution.specs.Listing.{found_for}

unfoldable pub no_figures : Figures
no_figures = record { one = 0; several = 0; none = 0 }

-- one query more, by its `found`
unfoldable pub figures_after : Figures → Found → Figures
figures_after c found_none = record { one = c.one; several = c.several; none = c.none + 1 }
figures_after c found_one = record { one = c.one + 1; several = c.several; none = c.none }
figures_after c found_several = record { one = c.one; several = c.several + 1; none = c.none }

-- these queries more
unfoldable pub figures_over : (cells : List ℕ) → Figures → List (Query (language (rules_of cells))) → Figures
figures_over cells c [] = c
figures_over cells c (q ∷ qs) = figures_over cells (figures_after c (found_for cells q)) qs

-- how many queries were counted; a file has no more than 256
abbrev pub total : Figures → ℕ
total c = c.one + c.several + c.none

abbrev pub Few : Figures → Type 0
Few c = total c ≤ 256

unfoldable pub field_text : ℕ → List ℕ
field_text v = number_text v ++ (32 ∷ [])

unfoldable pub counts_text : Figures → List ℕ
counts_text c = summary_line ++ (field_text (total c) ++ (field_text c.one ++ (field_text c.several ++ field_text c.none)))

-- the summary's text by its figures alone
unfoldable pub figures_text : Figures → List ℕ
figures_text c = summary_text (total c) c.one c.several c.none
