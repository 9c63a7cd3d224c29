-- How the code asks the walk for a query, and how it holds what it is told: `found` as an enum and
-- `awaits` as an open row, or none. Assumes nothing: these are definitions.
use Rattle.std.specs.Prelude.{ℕ, ◌≤◌, ◌<◌, ◌^◌, ◌≡◌, Bool, true, false, ◌&&◌, ◌||◌, List, [], ◌∷◌, ◌++◌, map, ltb}
use Rattle.std.proofs.Math.Option.{Option, some, none}
use Rattle.std.specs.declared.option.Option.{Option as Maybe}
use Rattle.std.specs.declared.option.Option.TheVariants.{Some, None as Nothing}
use Rattle.scope_graph.specs.Graph.{Query, OpenPair}
use Rattle.scope_graph.specs.Path.{row_declaration}
use Rattle.scope_graph.specs.Rows.{language}
use Rattle.scope_graph.specs.Order.{end_of}
use Rattle.scope_graph.specs.Computed.{Found, found_none, found_one, found_several, entries, awaits}
use Rattle.scope_graph.specs.Ends.{ends_at}
use Rattle.text_field.specs.Number.{number_text}
use Rattle.graph_rows.specs.Admission.{Row, value}
use Rattle.graph_rows.specs.Decode.{rules_of, graph_of, opens_of}
use Rattle.block.specs.Sets.{places_of}
use Rattle.block.specs.Block.{accept_set, usable_set, pair_flag}
use Rattle.block.specs.Ask.{IsAsk, ask_start, ask_name, ask_goal}
use Rattle.search.specs.Tables.{place_flag}
use Rattle.search.specs.Conditions.{free_at, LiveAt, AwayAt}
use Rattle.graph_table.specs.declared.rows.OpenRow.{OpenRow}
use Rattle.graph_table.specs.declared.rows.QueryRow.{QueryRow}
use Rattle.board.specs.Made.{Made}
use Rattle.graph_rows.specs.Format.{declaration_section}
use Rattle.graph_table.specs.Sections.{table_form, part_of}
use Rattle.board.specs.Marks.{DeclaringIs}
use Rattle.board.specs.Queries.{query_from, query_on, Asked}
use Rattle.graph_table.specs.declared.sections.Form.{Form}
use Rattle.follow.specs.declared.Bounds.{Bounds}
use Rattle.follow.specs.declared.Tally.{Tally}
use Rattle.follow.specs.Tally as tally
use Rattle.follow.specs.Tally.{Taken, take_rows}
use Rattle.follow.specs.Text.{head_line, seek_columns, rows_line, found_text, end_text}
use Rattle.follow.specs.Walk.{letter_bytes, followed_in}
use Rattle.resolution.specs.Listing.{awaits_text, entry_text, found_for}
use Rattle.resolution.specs.declared.text.Found as told
use Rattle.resolution.specs.declared.text.Found.TheVariants.{None, One, Several}

-- the query of a query's own block
abbrev pub query_in : (cells ask : List ℕ) → Query (language (rules_of cells))
query_in cells ask = query_from cells (ask_start ask) (ask_name ask)

-- The board of a table that was read, and the ask of a query of it: the scopes that declare the
-- name, and the places worth entering on the way there from where the query starts.
pub record Ready (cells block ask : List ℕ) : Type 0 where
  pub asked : Asked cells (query_in cells ask)
  pub made : Made cells block
  pub size : IsAsk ask
  pub goal : DeclaringIs (part_of declaration_section cells) (ask_name ask) (ask_goal ask)
  pub live : LiveAt block (ask_goal ask) (free_at (ask_start ask)) ask

-- the ask is that of the query
pub record Asking (cells block : List ℕ) (q : QueryRow) (ask : List ℕ) : Type 0 where
  pub ready : Ready cells block ask
  pub query : query_in cells ask ≡ query_on cells q

-- the rows of a query's entries
unfoldable pub entries_taken : (cells : List ℕ) → Query (language (rules_of cells)) → List Taken
entries_taken cells q =
    map
    (λ r. record {
      at = (row_declaration (language (rules_of cells)) q r).at;
      mark = r.mark;
      text = entry_text cells r;
    })
    (entries (language (rules_of cells)) (graph_of cells) q)

-- the tally is that of the entries' rows, taken within bounds, whatever memory was lent for them
abbrev pub TallyOf : (cells : List ℕ) → Query (language (rules_of cells)) → Bounds → Tally → Type 0
TallyOf cells q bounds t = (out : List ℕ) × ((take_rows bounds (out, tally.none) (entries_taken cells q)).1 ≡ t)

-- the first scope from a given one on at which a visible path of the query ends, if there is one
module _ (cells : List ℕ) (q : Query (language (rules_of cells))) (from : ℕ) where
  -- none of these ends one
  pub record NoEnd (to : ℕ) : Type 0 where
    pub none_before : (s : ℕ) → from ≤ s → s < to → s < 64 → ends_at (language (rules_of cells)) (graph_of cells) q s ≡ false

  pub record EndAt (first : ℕ) : Type 0 where
    pub none_before : (s : ℕ) → from ≤ s → s < first → s < 64 → ends_at (language (rules_of cells)) (graph_of cells) q s ≡ false
    pub below : first < 64
    pub on_from : from ≤ first
    pub ends : ends_at (language (rules_of cells)) (graph_of cells) q first ≡ true

  abbrev pub FirstEnd : Maybe ℕ → Type 0
  FirstEnd Nothing = NoEnd 64
  FirstEnd (Some first) = EndAt first

-- `found` as the code holds it
unfoldable pub found_meaning : told.Found → Found
found_meaning None = found_none
found_meaning One = found_one
found_meaning Several = found_several

-- a place that does not show the pair of this scope and end followed: it is away, or what is sought
-- is there itself and stopping is preferred to the end
unfoldable pub barred : List ℕ → ℕ → List ℕ → ℕ → ℕ → ℕ → Bool
barred block goal away at end q = place_flag away at q || (places_of goal (accept_set block) at q && pair_flag block 0 end)

-- a table of the places that are away from a start: no steps lead to them from the start, which is
-- not away itself
pub record AwayFrom (block : List ℕ) (goal start : ℕ) (away : List ℕ) : Type 0 where
  pub closed : AwayAt block goal away
  pub begins : place_flag away start 0 ≡ false

-- Whether an open pair is followed, and the first of the open rows that is. A scope or an end past
-- the tables is not followed.
module _ (block table ask : List ℕ) where
  unfoldable pub followed_by : ℕ → ℕ → Bool
  followed_by at end =
      elim (ltb at 64 && ltb end 9) [ true ↦ followed_in block table ask (2 ^ at) (usable_set block end) end | false ↦ false ]

  unfoldable pub first_followed : List Row → Maybe OpenRow
  first_followed [] = Nothing
  first_followed (row ∷ rows) =
      elim (followed_by (value row 0) (value row 1)) [ true ↦ Some (record { at = value row 0; end = value row 1 }) | false ↦ first_followed rows ]

-- `awaits` as the rules have it, and its text; an end is 0 for the end mark and n + 1 for the label
-- n
unfoldable pub awaits_meaning : (cells : List ℕ) → Maybe OpenRow → Option (OpenPair (language (rules_of cells)))
awaits_meaning cells Nothing = none
awaits_meaning cells (Some o) = some (record { at = o.at; end = end_of o.end })

unfoldable pub awaits_bytes : List ℕ → Maybe OpenRow → List ℕ
awaits_bytes block Nothing = 45 ∷ []
awaits_bytes block (Some o) = number_text o.at ++ (end_text (letter_bytes block) (end_of o.end) ∷ [])

-- a listing up to its rows, by the file's form: the names line with the query, then `found`,
-- `awaits` and the line above the rows
unfoldable pub query_text : Form → List ℕ → List ℕ
query_text form ask = head_line form ++ (number_text (ask_start ask) ++ (32 ∷ (seek_columns form (ask_name ask) ++ (32 ∷ []))))

unfoldable pub head_text : Form → (block ask : List ℕ) → told.Found → Maybe OpenRow → List ℕ
head_text form block ask f a = query_text form ask ++ (found_text (found_meaning f) ++ (32 ∷ (awaits_bytes block a ++ (10 ∷ rows_line))))

-- the same of a query of a table, with `found` and `awaits` as the rules have them
unfoldable pub query_head : (cells ask : List ℕ) → List ℕ
query_head cells ask =
    query_text (table_form cells) ask
    ++ (found_text (found_for cells (query_in cells ask))
    ++ (32 ∷ (awaits_text cells (awaits (language (rules_of cells)) (graph_of cells) (query_in cells ask) (opens_of cells)) ++ (10 ∷ rows_line))))
