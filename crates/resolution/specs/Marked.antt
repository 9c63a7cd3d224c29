-- Document 01's marked trials, M1 to M10: what each asks, over the text of its file and against the
-- rules. The value is in proofs/Marked.antt. Assumes nothing: these are statements. Texts stand as
-- bytes, each line with the comment that it is.
use Rattle.std.specs.Prelude.{ℕ, ◌<◌, ◌≡◌, ◌↔◌, List, [], ◌∷◌, ◌++◌, map, length}
use Rattle.std.proofs.Math.Option.{Option, some, none}
use Rattle.scope_graph.specs.Language.{◌∈◌, End, stop, by}
use Rattle.scope_graph.specs.Graph.{Query, OpenPair}
use Rattle.scope_graph.specs.Path.{PathRow, Reached, Shadowed, MarkDeclared, Entry}
use Rattle.scope_graph.specs.Completion.{Settled, Awaits}
use Rattle.scope_graph.specs.Rows.{Rules, language}
use Rattle.scope_graph.specs.Computed.{Found, found_one, found_several}
use Rattle.scope_graph.specs.Listing.{Pairwise, RowBefore, FoundIs}
use Rattle.text_field.specs.Name.{pack_high, pack_low}
use Rattle.text_field.specs.Outcome.{done}
use Rattle.graph_file.specs.File.{read_cells}
use Rattle.graph_rows.specs.Decode.{rules_of, graph_of, opens_of, queries_of}
use Rattle.resolution.specs.Listing.{listing_for}
use Rattle.board.specs.Queries.{query_at}
use Rattle.board.specs.Example.{hours, service, edge_lines, declaration_lines, query_lines, file_text, example_text}

-- the variants of the example (board's specs/Example)
-- nothing open
abbrev pub closed_text : List ℕ
closed_text = file_text edge_lines declaration_lines [] query_lines

-- open `1 $`
abbrev pub open1_text : List ℕ
open1_text = file_text edge_lines declaration_lines (49 ∷ 32 ∷ 36 ∷ 10 ∷ []) query_lines

-- open `2 P`
abbrev pub open2_p_text : List ℕ
open2_p_text = file_text edge_lines declaration_lines (50 ∷ 32 ∷ 80 ∷ 10 ∷ []) query_lines

-- open `2 I`
abbrev pub open2_i_text : List ℕ
open2_i_text = file_text edge_lines declaration_lines (50 ∷ 32 ∷ 73 ∷ 10 ∷ []) query_lines

-- with `4 hours 41` too
abbrev pub two_marks_text : List ℕ
two_marks_text = file_text edge_lines (declaration_lines ++ (52 ∷ 32 ∷ 104 ∷ 111 ∷ 117 ∷ 114 ∷ 115 ∷ 32 ∷ 52 ∷ 49 ∷ 10 ∷ [])) (51 ∷ 32 ∷ 36 ∷ 10 ∷ []) query_lines

-- with edge `0 P 2` and the query `0 service`
abbrev pub turned_text : List ℕ
turned_text = file_text ((48 ∷ 32 ∷ 80 ∷ 32 ∷ 50 ∷ 10 ∷ []) ++ edge_lines) declaration_lines (51 ∷ 32 ∷ 36 ∷ 10 ∷ []) (48 ∷ 32 ∷ 115 ∷ 101 ∷ 114 ∷ 118 ∷ 105 ∷ 99 ∷ 101 ∷ 10 ∷ [])

-- A path row as its mark, its start and its hops, each a label's number and a scope: I is 0, P is
-- 1. The edge line of these files is the old one, so every turn is 0 (02, K12).
abbrev pub I : ℕ
I = 0

abbrev pub P : ℕ
P = 1

abbrev pub Shown : Type 0
Shown = ℕ × ℕ × List (ℕ × ℕ)

module _ (r : Rules) where
  abbrev pub path_row : Shown → PathRow (language r)
  path_row (m, s, hs) = record { mark = m; path = record { start = s; hops = map (λ h. record { step = record { label = h.0; turn = some 0 }; to = h.1 }) hs } }

  abbrev pub open_pair : Option (ℕ × End ℕ) → Option (OpenPair (language r))
  open_pair none = none
  open_pair (some o) = some (record { at = o.0; end = o.1 })

  -- the query of a start and a name, in a file without kinds: the kind is `v` (02, K8)
  abbrev pub query_for : ℕ → List ℕ → Query (language r)
  query_for s name = record { start = s; name = record { kind = 118; high = pack_high name; low = pack_low name } }

-- `-` stands for settled, a pair for not
abbrev pub Dash : Option (ℕ × End ℕ) → Type 0 → Type 0
Dash none settled = settled
Dash (some o) settled = ¬ settled

-- A listing's bytes: `start seek found awaits`, the line of its values, `mark path`, its rows.
abbrev pub listed : List ℕ → List ℕ → List ℕ
listed values rows =
    (115 ∷ 116 ∷ 97 ∷ 114 ∷ 116 ∷ 32 ∷ 115 ∷ 101 ∷ 101 ∷ 107 ∷ 32 ∷ 102 ∷ 111 ∷ 117 ∷ 110 ∷ 100 ∷ 32 ∷ 97 ∷ 119 ∷ 97 ∷ 105 ∷ 116 ∷ 115 ∷ 10 ∷ [])
    ++ (values ++ ((109 ∷ 97 ∷ 114 ∷ 107 ∷ 32 ∷ 112 ∷ 97 ∷ 116 ∷ 104 ∷ 10 ∷ []) ++ rows))

-- the trials' listings, each by its values and its rows
-- `2 service one -` above `21 2`
abbrev pub service_at2 : List ℕ
service_at2 = listed (50 ∷ 32 ∷ 115 ∷ 101 ∷ 114 ∷ 118 ∷ 105 ∷ 99 ∷ 101 ∷ 32 ∷ 111 ∷ 110 ∷ 101 ∷ 32 ∷ 45 ∷ 10 ∷ []) (50 ∷ 49 ∷ 32 ∷ 50 ∷ 10 ∷ [])

-- `3 service one 3$` above `10 3P1`
abbrev pub service_at3_awaits3 : List ℕ
service_at3_awaits3 = listed (51 ∷ 32 ∷ 115 ∷ 101 ∷ 114 ∷ 118 ∷ 105 ∷ 99 ∷ 101 ∷ 32 ∷ 111 ∷ 110 ∷ 101 ∷ 32 ∷ 51 ∷ 36 ∷ 10 ∷ []) (49 ∷ 48 ∷ 32 ∷ 51 ∷ 80 ∷ 49 ∷ 10 ∷ [])

-- `2 hours one -` above `40 2I4`
abbrev pub hours_at2 : List ℕ
hours_at2 = listed (50 ∷ 32 ∷ 104 ∷ 111 ∷ 117 ∷ 114 ∷ 115 ∷ 32 ∷ 111 ∷ 110 ∷ 101 ∷ 32 ∷ 45 ∷ 10 ∷ []) (52 ∷ 48 ∷ 32 ∷ 50 ∷ 73 ∷ 52 ∷ 10 ∷ [])

-- `3 service one -` above `10 3P1`
abbrev pub service_at3 : List ℕ
service_at3 = listed (51 ∷ 32 ∷ 115 ∷ 101 ∷ 114 ∷ 118 ∷ 105 ∷ 99 ∷ 101 ∷ 32 ∷ 111 ∷ 110 ∷ 101 ∷ 32 ∷ 45 ∷ 10 ∷ []) (49 ∷ 48 ∷ 32 ∷ 51 ∷ 80 ∷ 49 ∷ 10 ∷ [])

-- `3 service one 1$` above `10 3P1`
abbrev pub service_at3_awaits1 : List ℕ
service_at3_awaits1 = listed (51 ∷ 32 ∷ 115 ∷ 101 ∷ 114 ∷ 118 ∷ 105 ∷ 99 ∷ 101 ∷ 32 ∷ 111 ∷ 110 ∷ 101 ∷ 32 ∷ 49 ∷ 36 ∷ 10 ∷ []) (49 ∷ 48 ∷ 32 ∷ 51 ∷ 80 ∷ 49 ∷ 10 ∷ [])

-- `2 hours one 2I` above `40 2I4`
abbrev pub hours_at2_awaits_i : List ℕ
hours_at2_awaits_i = listed (50 ∷ 32 ∷ 104 ∷ 111 ∷ 117 ∷ 114 ∷ 115 ∷ 32 ∷ 111 ∷ 110 ∷ 101 ∷ 32 ∷ 50 ∷ 73 ∷ 10 ∷ []) (52 ∷ 48 ∷ 32 ∷ 50 ∷ 73 ∷ 52 ∷ 10 ∷ [])

-- `2 hours several -` above `40 2I4` and `41 2I4`
abbrev pub hours_twice : List ℕ
hours_twice = listed (50 ∷ 32 ∷ 104 ∷ 111 ∷ 117 ∷ 114 ∷ 115 ∷ 32 ∷ 115 ∷ 101 ∷ 118 ∷ 101 ∷ 114 ∷ 97 ∷ 108 ∷ 32 ∷ 45 ∷ 10 ∷ []) (52 ∷ 48 ∷ 32 ∷ 50 ∷ 73 ∷ 52 ∷ 10 ∷ 52 ∷ 49 ∷ 32 ∷ 50 ∷ 73 ∷ 52 ∷ 10 ∷ [])

-- `0 service one -` above `21 0P2`
abbrev pub service_at0 : List ℕ
service_at0 = listed (48 ∷ 32 ∷ 115 ∷ 101 ∷ 114 ∷ 118 ∷ 105 ∷ 99 ∷ 101 ∷ 32 ∷ 111 ∷ 110 ∷ 101 ∷ 32 ∷ 45 ∷ 10 ∷ []) (50 ∷ 49 ∷ 32 ∷ 48 ∷ 80 ∷ 50 ∷ 10 ∷ [])

-- The text is read and its query i has this start and name. Its entries are exactly these rows, in
-- the listing's order; `found` and `awaits` are these; and the listing is printed as these bytes.
pub record Lists (text : List ℕ) (i start : ℕ) (name : List ℕ) (rows : List Shown) (f : Found) (o : Option (ℕ × End ℕ)) (listing : List ℕ) : Type 0 where
  pub cells : List ℕ
  pub read : read_cells text ≡ done cells
  pub number : i < length (queries_of cells)
  pub query : query_at cells i ≡ query_for (rules_of cells) start name
  pub entries : (r : PathRow (language (rules_of cells)))
      → Entry (language (rules_of cells)) (graph_of cells) (query_at cells i) r ↔ (r ∈ map (path_row (rules_of cells)) rows)
  pub in_order : Pairwise (RowBefore (language (rules_of cells))) (map (path_row (rules_of cells)) rows)
  pub found : FoundIs (language (rules_of cells)) (graph_of cells) (query_at cells i) f
  pub awaits : Awaits (language (rules_of cells)) (graph_of cells) (opens_of cells) (query_at cells i) (open_pair (rules_of cells) o)
  pub settled : Dash o (Settled (language (rules_of cells)) (graph_of cells) (opens_of cells) (query_at cells i))
  pub printed : listing_for text i ≡ done listing

-- The text is read and its query i has this start and name. Of the rows, each with its mark, the
-- first is shadowed, the second an entry, the third unreached.
pub record Judges (text : List ℕ) (i start : ℕ) (name : List ℕ) (a b c : Shown) : Type 0 where
  pub cells : List ℕ
  pub read : read_cells text ≡ done cells
  pub number : i < length (queries_of cells)
  pub query : query_at cells i ≡ query_for (rules_of cells) start name
  pub shadowed : Shadowed (language (rules_of cells)) (graph_of cells) (query_at cells i) (path_row (rules_of cells) a).path
      × MarkDeclared (language (rules_of cells)) (graph_of cells) (query_at cells i) (path_row (rules_of cells) a)
  pub visible : Entry (language (rules_of cells)) (graph_of cells) (query_at cells i) (path_row (rules_of cells) b)
  pub unreached : ¬ (Reached (language (rules_of cells)) (graph_of cells) (query_at cells i) (path_row (rules_of cells) c).path
      × MarkDeclared (language (rules_of cells)) (graph_of cells) (query_at cells i) (path_row (rules_of cells) c))

pub record Marked : Type 0 where
  pub m1 : Lists example_text 0 2 service ((21, 2, []) ∷ []) found_one none service_at2
  pub m2 : Lists example_text 1 3 service ((10, 3, (P, 1) ∷ []) ∷ []) found_one (some (3, stop)) service_at3_awaits3
  pub m3 : Lists example_text 2 2 hours ((40, 2, (I, 4) ∷ []) ∷ []) found_one none hours_at2
  pub m4 : Lists closed_text 1 3 service ((10, 3, (P, 1) ∷ []) ∷ []) found_one none service_at3
  pub m5 : Lists open1_text 1 3 service ((10, 3, (P, 1) ∷ []) ∷ []) found_one (some (1, stop)) service_at3_awaits1
  pub m5_start : Lists open1_text 0 2 service ((21, 2, []) ∷ []) found_one none service_at2
  pub m6 : Lists open2_p_text 2 2 hours ((40, 2, (I, 4) ∷ []) ∷ []) found_one none hours_at2
  pub m7 : Lists open2_i_text 2 2 hours ((40, 2, (I, 4) ∷ []) ∷ []) found_one (some (2, by I)) hours_at2_awaits_i
  pub m8 : Lists two_marks_text 2 2 hours ((40, 2, (I, 4) ∷ []) ∷ (41, 2, (I, 4) ∷ []) ∷ []) found_several none hours_twice
  pub m9 : Lists turned_text 0 0 service ((21, 0, (P, 2) ∷ []) ∷ []) found_one none service_at0
  pub m10 : Judges example_text 0 2 service (10, 2, (P, 1) ∷ []) (21, 2, []) (5, 2, (P, 1) ∷ (P, 0) ∷ [])
