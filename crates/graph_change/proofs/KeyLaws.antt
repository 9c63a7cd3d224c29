-- Rows compared by the format's key of a section: the key is the section's, and six cells hold a
-- row. Assumes nothing.
use Prim.Native.Nat.{ℕ}
use mathlib.Core.Path.{◌≡◌, refl, sym, ap, ◌∙◌}
use mathlib.Core.Bool.{Bool, true, false, not}
use mathlib.Core.List.{List, ◌∷◌}
use lib.ListN.{length}
use Rattle.scope_graph.proofs.Lists.{true_false}
use Rattle.graph_rows.specs.Format.{section_at}
use Rattle.graph_rows.specs.Admission.{Row, row_of, key_less}
use Rattle.graph_rows.specs.Table.{key_place, key_at}
use Rattle.graph_rows.proofs.FormatLaws.{key_items}
use Rattle.graph_change.specs.Place.{same_key}
use Rattle.graph_change.proofs.Keys.{after_not_same, otherwise}
use Rattle.graph_change.proofs.ChangeLaws.{five_cells}

-- of the cells `other` of a row of section k, and a row of a table
module _ (k o : ℕ) (row other : Row) (five : length row ≡ 5) (is : other ≡ k ∷ row) (at : o ≡ key_place k) (here : Row) where
  held : row_of other ≡ row
  unfolding row_of
  held = ap row_of is ∙ five_cells row five

  key_is : key_at o ≡ (section_at k).key
  key_is = ap key_at at ∙ key_items k

  pub before_given : (r : Bool) → r ≡ key_less (key_at o) here (row_of other) → r ≡ key_less (section_at k).key here row
  before_given r h = h ∙ rw (key_is, held)

  pub given_before : (r : Bool) → r ≡ key_less (key_at o) (row_of other) here → r ≡ key_less (section_at k).key row here
  given_before r h = h ∙ rw (key_is, held)

-- rows of which neither stands before the other have one key
pub neither : (key : List ℕ) (a b : Row) (r : Bool) → key_less key a b ≡ false → r ≡ key_less key b a → not r ≡ same_key key a b
neither key a b true n h = sym (after_not_same key b a (sym h))
neither key a b false n h = by (same_key key a b) refl
  where
    by : (s : Bool) → s ≡ same_key key a b → true ≡ same_key key a b
    by true e = e
    by false e = absurd (true_false (otherwise key a b n (sym e)) (sym h))
