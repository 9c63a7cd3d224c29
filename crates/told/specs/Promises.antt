-- What is proved of taking listings apart (02, K3). These are the statements; their proofs are in
-- proofs/Promises. Assumes nothing: these are definitions.
use Rattle.std.specs.Prelude.{ℕ, ◌≡◌, ◌↔◌, List, map}
use Rattle.std.proofs.Math.Option.{Option, some, none}
use Rattle.scope_graph.specs.Graph.{Query, OpenPair}
use Rattle.scope_graph.specs.Path.{PathRow}
use Rattle.scope_graph.specs.Rows.{language}
use Rattle.scope_graph.specs.Computed.{Found}
use Rattle.text_field.specs.Outcome.{refused, done}
use Rattle.graph_rows.specs.Decode.{rules_of, letters_of}
use Rattle.graph_table.specs.Sections.{table_form}
use Rattle.follow.specs.Text.{end_text, shown_row}
use Rattle.resolution.specs.Listing.{shown_text}
use Rattle.told.specs.Delivered.{NamedPair, Delivered, delivered_text, Printed}
use Rattle.told.specs.Apart.{told_of}

-- A text is taken apart as these listings exactly if it is their printing.
abbrev pub TakenApart : Type 0
TakenApart = (cells lists : List ℕ) (ds : List Delivered) → (told_of cells lists ≡ done ds) ↔ Printed cells ds lists

-- So it is the printing of nothing else.
abbrev pub Alone : Type 0
Alone = (cells lists : List ℕ) (ds es : List Delivered) → Printed cells ds lists → Printed cells es lists → ds ≡ es

-- 10 refuses what is no printing, and nothing but 10 refuses.
abbrev pub NoPrinting : Type 0
NoPrinting = (cells lists : List ℕ) (n : ℕ) → (told_of cells lists ≡ refused n) ↔ ((n ≡ 10) × ((ds : List Delivered) → ¬ Printed cells ds lists))

-- what our own listing of a query says, by its letters
abbrev pub shown_pair : (cells : List ℕ) → OpenPair (language (rules_of cells)) → NamedPair
shown_pair cells o = record { at = o.at; end = end_text (letters_of cells) o.end }

abbrev pub shown_named : (cells : List ℕ) → Option (OpenPair (language (rules_of cells))) → Option NamedPair
shown_named cells none = none
shown_named cells (some o) = some (shown_pair cells o)

unfoldable pub shown : (cells : List ℕ) → Found → Option (OpenPair (language (rules_of cells))) → List (PathRow (language (rules_of cells))) → Delivered
shown cells f o rows = record {
  found = f;
  awaits = shown_named cells o;
  rows = map (λ (r : PathRow (language (rules_of cells))). shown_row (letters_of cells) r.mark r.path.start r.path.hops) rows;
}

-- What `resolution` writes is the printing of what it shows.
abbrev pub OwnForm : Type 0
OwnForm = (cells : List ℕ) (q : Query (language (rules_of cells))) (f : Found) (o : Option (OpenPair (language (rules_of cells)))) (rows : List (PathRow (language (rules_of cells))))
    → shown_text cells q f o rows ≡ delivered_text (table_form cells) q.start q.name (shown cells f o rows)

pub record Promises : Type 0 where
  pub taken_apart : TakenApart
  pub alone : Alone
  pub no_printing : NoPrinting
  pub own_form : OwnForm
