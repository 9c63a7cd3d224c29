-- A listing as somebody delivers it (02, K3): what it says, and its text. That text has the form of
-- our own listings (resolution's `listing_by`); its rows are path rows as refusal 8 has them. Assumes
-- nothing: these are definitions.
use Rattle.std.specs.Prelude.{ℕ, ◌≡◌, Bool, true, ◌&&◌, ◌||◌, eqb, leb, length}
use Rattle.std.proofs.Math.Option.{Option, some, none}
use mathlib.Core.List.{List, [], ◌∷◌, ◌++◌, flat_map}
use Rattle.scope_graph.specs.Language.{◌∈◌}
use Rattle.scope_graph.specs.Graph.{Query}
use Rattle.scope_graph.specs.Rows.{PackedName, language}
use Rattle.scope_graph.specs.Computed.{Found}
use Rattle.text_field.specs.Bytes.{is_capital}
use Rattle.text_field.specs.Number.{number_text}
use Rattle.graph_rows.specs.Decode.{rules_of, queries_of}
use Rattle.graph_table.specs.declared.sections.Form.{Form}
use Rattle.graph_table.specs.Sections.{table_form}
use Rattle.path_row.specs.Form.{PathRow, most_scope, row_text, is_row}
use Rattle.resolution.specs.Listing.{listing_by}

-- an open pair as it is written: its scope, and the byte of its end, `$` or a letter, which need not
-- be one of the file's labels
pub record NamedPair : Type 0 where
  pub at : ℕ
  pub end : ℕ

-- What a listing says of its query: `found`, what it awaits (none for `-`), and its rows, in the
-- sequence in which they stand.
pub record Delivered : Type 0 where
  pub found : Found
  pub awaits : Option NamedPair
  pub rows : List PathRow

unfoldable pub named_text : Option NamedPair → List ℕ
named_text none = 45 ∷ []
named_text (some o) = number_text o.at ++ (o.end ∷ [])

unfoldable pub row_line : PathRow → List ℕ
row_line r = row_text r ++ (10 ∷ [])

-- the text of a listing, for a query by its start and its name
unfoldable pub delivered_text : Form → ℕ → PackedName → Delivered → List ℕ
delivered_text form start name d = listing_by form start name d.found (named_text d.awaits) (flat_map row_line d.rows)

-- What may stand there (02, K3, refusal 10): as an end `$` or a letter A to Z, as its scope a number
-- up to 63, as rows such as refusal 8 lets pass.
unfoldable pub is_end : ℕ → Bool
is_end x = eqb x 36 || is_capital x

unfoldable pub is_named : Option NamedPair → Bool
is_named none = true
is_named (some o) = leb o.at most_scope && is_end o.end

unfoldable pub are_rows : List PathRow → Bool
are_rows [] = true
are_rows (r ∷ rs) = is_row r && are_rows rs

unfoldable pub is_delivered : Delivered → Bool
is_delivered d = is_named d.awaits && are_rows d.rows

module _ (cells : List ℕ) where
  -- the listings of queries, one after the other; the text ends where either of the two lists does
  unfoldable pub delivered_texts : List (Query (language (rules_of cells))) → List Delivered → List ℕ
  delivered_texts [] ds = []
  delivered_texts (q ∷ qs) [] = []
  delivered_texts (q ∷ qs) (d ∷ ds) = delivered_text (table_form cells) q.start q.name d ++ delivered_texts qs ds

  -- The text is the printing of these listings: one for each of the file's queries, in the file's
  -- sequence, and each of the printed form.
  pub record Printed (ds : List Delivered) (lists : List ℕ) : Type 0 where
    pub one_each : length ds ≡ length (queries_of cells)
    pub formed : (d : Delivered) → d ∈ ds → is_delivered d ≡ true
    pub text : lists ≡ delivered_texts (queries_of cells) ds
