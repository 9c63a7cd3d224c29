-- The text of a gym file in the other form (02, K9): a file with kinds for panels that know none,
-- and the other way; turns as 02, K12, has it. Assumes nothing: these are definitions.
use Rattle.std.specs.Prelude.{ℕ, Bool, ◌||◌, List}
use Rattle.text_field.specs.Outcome.{Outcome, and_then, refuse_if}
use Rattle.graph_rows.specs.Format.{old_form}
use Rattle.graph_file.specs.File.{read_cells, write_text}
use Rattle.graph_rows.specs.Tested.{form_in}
use Rattle.graph_rows.specs.Formed.{other_kinds, other_turns, in_form}
use Rattle.graph_table.specs.Sections.{form_number}
use Rattle.graph_table.specs.declared.sections.Form.{Form}
use Rattle.graph_table.specs.declared.sections.Form.TheVariants.{Old, Kinds}

-- Has the table something that the old form cannot show: a declaration or a query of another kind
-- than `v`, or an edge of another turn than 0?
unfoldable pub unshown : List ℕ → Bool
unshown cells = other_kinds cells || other_turns cells

-- The same rows as a text of the old form: 14 where it cannot show them. A column of zero turns
-- goes.
unfoldable pub old_text : List ℕ → Outcome (List ℕ)
old_text cells = refuse_if (unshown cells) 14 (write_text (in_form old_form cells))

-- The same rows as a text with kinds: in its own form where that shows kinds, so that turns stay,
-- else in the form with kinds alone.
unfoldable pub new_text : List ℕ → Outcome (List ℕ)
new_text cells = write_text (in_form (form_number Kinds (form_in cells)) cells)

-- the one of the two whose form is wanted
unfoldable pub text_in : Form → List ℕ → Outcome (List ℕ)
text_in Old cells = old_text cells
text_in Kinds cells = new_text cells

-- for a text: its refusals 1 to 6 first
unfoldable pub text_of : Form → List ℕ → Outcome (List ℕ)
text_of form text = and_then (read_cells text) (text_in form)

unfoldable pub old_of : List ℕ → Outcome (List ℕ)
old_of text = text_of Old text

unfoldable pub new_of : List ℕ → Outcome (List ℕ)
new_of text = text_of Kinds text
