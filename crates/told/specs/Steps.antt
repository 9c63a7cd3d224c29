-- What the steps of the code answer: a place after something, a word, a pair, a row's place, a
-- listing by the places of its rows. Assumes nothing: these are definitions.
use Rattle.std.specs.Prelude.{ℕ, ◌+◌, ◌-◌, ◌≤◌, ◌≡◌, Bool, true, false, length, take, drop}
use Rattle.std.proofs.Math.Option.{Option, some, none}
use Rattle.std.specs.declared.option.Option.{Option as Maybe}
use Rattle.std.specs.declared.option.Option.TheVariants.{Some, None as Nothing}
use mathlib.Core.List.{List, flat_map}
use Rattle.scope_graph.specs.Computed.{Found}
use Rattle.text_field.specs.Outcome.{Outcome, refused, done}
use Rattle.path_row.specs.Form.{PathRow, row_here}
use Rattle.resolution.specs.Asked.{found_meaning}
use Rattle.resolution.specs.declared.text.Found as code
use Rattle.told.specs.declared.listing.Listing.{Listing}
use Rattle.told.specs.Delivered.{NamedPair, Delivered, row_line}
use Rattle.told.specs.Apart.{Read, first_row, rows_in}

-- A place in the text s means what stands from there on; that there is none is refusal 10.
unfoldable pub place_meaning : List ℕ → Maybe ℕ → Outcome (List ℕ)
place_meaning s (Some next) = done (drop next s)
place_meaning s Nothing = refused 10

-- so does a place with what was read before it
unfoldable pub word_meaning : List ℕ → Maybe (code.Found × ℕ) → Read Found
word_meaning s (Some (f, next)) = done (found_meaning f, drop next s)
word_meaning s Nothing = refused 10

unfoldable pub named_meaning : Maybe (ℕ × ℕ) → Option NamedPair
named_meaning Nothing = none
named_meaning (Some (at, end)) = some (record { at = at; end = end })

unfoldable pub awaits_meaning : List ℕ → Maybe (Maybe (ℕ × ℕ) × ℕ) → Read (Option NamedPair)
awaits_meaning s (Some (a, next)) = done (named_meaning a, drop next s)
awaits_meaning s Nothing = refused 10

-- the row whose line stands from place `at` up to the LF at `end`, the next line being at `next`
pub record RowStands (s : List ℕ) (at end next : ℕ) : Type 0 where
  pub row : PathRow
  pub read : row_here (take (end - at) (drop at s)) ≡ done row
  pub first : first_row (drop at s) ≡ some (row, drop next s)
  pub from : at ≤ end
  pub grows : next ≡ end + 1
  pub inside : next ≤ length s

abbrev pub RowTold : List ℕ → ℕ → Maybe (ℕ × ℕ) → Type 0
RowTold s at (Some (end, next)) = RowStands s at end next
RowTold s at Nothing = first_row (drop at s) ≡ none

-- the rows from place `at` on, by their number and the place after them
pub record RowsSpan (s : List ℕ) (at count next : ℕ) : Type 0 where
  pub counted : count ≡ length (rows_in (drop at s)).0
  pub rest : drop next s ≡ (rows_in (drop at s)).1
  pub spans : next ≡ at + length (flat_map row_line (rows_in (drop at s)).0)

-- what a listing says, by the place of its first row: its rows are those that stand there
abbrev pub listing_at : List ℕ → Listing → Delivered
listing_at s l = record { found = found_meaning l.found; awaits = named_meaning l.awaits; rows = (rows_in (drop l.first s)).0 }

unfoldable pub listing_meaning : List ℕ → Maybe Listing → Read Delivered
listing_meaning s (Some l) = done (listing_at s l, drop l.next s)
listing_meaning s Nothing = refused 10

abbrev pub ListingSpan : List ℕ → Maybe Listing → Type 0
ListingSpan s (Some l) = RowsSpan s l.first l.count l.next
ListingSpan s Nothing = Unit {0}

-- was it gained, and not refused?
unfoldable pub is_done : {A : Type 0} → Outcome A → Bool
is_done (refused n) = false
is_done (done a) = true
