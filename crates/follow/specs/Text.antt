-- The text of a listing (01, "The listing"), from what the rules say. Assumes nothing: these are
-- definitions.
use Rattle.std.specs.Prelude.{ℕ, List, [], ◌∷◌, ◌++◌, map, get_or}
use Rattle.scope_graph.specs.Language.{End, stop, by}
use Rattle.scope_graph.specs.Path.{HopOf}
use Rattle.scope_graph.specs.Turns.{Turned}
use Rattle.scope_graph.specs.Computed.{Found, found_none, found_one, found_several}
use Rattle.scope_graph.specs.Rows.{PackedName}
use Rattle.text_field.specs.Name.{name_text}
use Rattle.graph_table.specs.declared.sections.Form.{Form}
use Rattle.graph_table.specs.declared.sections.Form.TheVariants.{Old, Kinds}
use Rattle.path_row.specs.declared.form.Step.{Step}
use Rattle.path_row.specs.Form.{PathRow, steps_text}
use Rattle.path_row.specs.Form.{row_text as path_row_text}

-- the names line above a query's values, by the file's form: `start seek found awaits`, and for a
-- file with kinds `start kind seek found awaits` (02, K8)
abbrev pub head_line : Form → List ℕ
head_line Old = 115 ∷ 116 ∷ 97 ∷ 114 ∷ 116 ∷ 32 ∷ 115 ∷ 101 ∷ 101 ∷ 107 ∷ 32 ∷ 102 ∷ 111 ∷ 117 ∷ 110 ∷ 100 ∷ 32 ∷ 97 ∷ 119 ∷ 97 ∷ 105 ∷ 116 ∷ 115 ∷ 10 ∷ []
head_line Kinds = 115 ∷ 116 ∷ 97 ∷ 114 ∷ 116 ∷ 32 ∷ 107 ∷ 105 ∷ 110 ∷ 100 ∷ 32 ∷ 115 ∷ 101 ∷ 101 ∷ 107 ∷ 32 ∷ 102 ∷ 111 ∷ 117 ∷ 110 ∷ 100 ∷ 32 ∷ 97 ∷ 119 ∷ 97 ∷ 105 ∷ 116 ∷ 115 ∷ 10 ∷ []

-- what is sought, behind a query's start and a space: in a file with kinds the kind's letter and a
-- space, then the name
abbrev pub seek_columns : Form → PackedName → List ℕ
seek_columns Old x = name_text x.high x.low
seek_columns Kinds x = x.kind ∷ 32 ∷ name_text x.high x.low

-- `mark path`
abbrev pub rows_line : List ℕ
rows_line = 109 ∷ 97 ∷ 114 ∷ 107 ∷ 32 ∷ 112 ∷ 97 ∷ 116 ∷ 104 ∷ 10 ∷ []

-- `none`, `one`, `several`
unfoldable pub found_text : Found → List ℕ
found_text found_none = 110 ∷ 111 ∷ 110 ∷ 101 ∷ []
found_text found_one = 111 ∷ 110 ∷ 101 ∷ []
found_text found_several = 115 ∷ 101 ∷ 118 ∷ 101 ∷ 114 ∷ 97 ∷ 108 ∷ []

-- with the labels' letters given
module _ (letters : List ℕ) where
  -- a label's letter; every label of an accepted file has one
  unfoldable pub letter_of : ℕ → ℕ
  letter_of l = get_or letters l 0

  -- a hop as a path row's step, by its label's letter and its scope; its turn is not shown
  abbrev pub shown_step : HopOf Turned → Step
  shown_step h = record { label = letter_of h.step.label; scope = h.to }

  -- a path, with the mark of what is declared at its end, as a path row (path_row's Form)
  abbrev pub shown_row : ℕ → ℕ → List (HopOf Turned) → PathRow
  shown_row mark start hops = record { mark = mark; start = start; steps = map shown_step hops }

  -- the texts: of hops alone
  unfoldable pub hops_text : List (HopOf Turned) → List ℕ
  hops_text hops = steps_text (map shown_step hops)

  -- a listing's row: a path row and a line feed
  unfoldable pub row_text : ℕ → ℕ → List (HopOf Turned) → List ℕ
  row_text mark start hops = path_row_text (shown_row mark start hops) ++ (10 ∷ [])

  -- an open pair's end: `$` or the letter
  unfoldable pub end_text : End ℕ → ℕ
  end_text stop = 36
  end_text (by l) = letter_of l
