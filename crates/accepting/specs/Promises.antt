-- What is proved of taking listings in (02, K3), over a text. These are the statements; their proofs
-- are in proofs/Promises. Assumes nothing: these are definitions.
use Rattle.std.specs.Prelude.{ℕ, ◌<◌, ◌≡◌, ◌↔◌, length, get_or}
use Rattle.std.proofs.Math.Option.{none}
use mathlib.Core.List.{List, [], flat_map}
use Rattle.scope_graph.specs.Rows.{language}
use Rattle.scope_graph.specs.Computed.{found_none}
use Rattle.scope_graph.specs.TakenIn.{RightlyTold}
use Rattle.text_field.specs.Outcome.{refused, done}
use Rattle.graph_file.specs.File.{read_cells}
use Rattle.graph_rows.specs.Decode.{rules_of, graph_of, opens_of, queries_of}
use Rattle.board.specs.Queries.{query_at}
use Rattle.resolution.specs.Listing.{listing_text}
use Rattle.told.specs.Delivered.{Delivered, Printed}
use Rattle.accepting.specs.Tests.{told_in}
use Rattle.accepting.specs.Verdict.{all_right, wrong_at, accept_for}

-- the listing in place i
unfoldable pub list_at : List Delivered → ℕ → Delivered
list_at ds i = get_or ds i (record { found = found_none; awaits = none; rows = [] })

-- 02, K3, of one listing, by the rules: its rows are the query's entries, each once, in any
-- sequence; `found` is right; under `awaits` stands `-` if the query is settled, else any decisive
-- pair.
abbrev pub RightList : (cells : List ℕ) → ℕ → Delivered → Type 0
RightList cells i d = RightlyTold (language (rules_of cells)) (graph_of cells) (opens_of cells) (query_at cells i) (told_in cells d)

-- Accepted exactly if the text is the printing of listings, one for each query, that are all right.
abbrev pub AcceptedExactly : Type 0
AcceptedExactly = (text cells : List ℕ) → read_cells text ≡ done cells → (lists : List ℕ)
    → (accept_for text lists ≡ done all_right)
    ↔ ((ds : List Delivered) × Printed cells ds lists × ((i : ℕ) → i < length (queries_of cells) → RightList cells i (list_at ds i)))

-- Not accepted, with the number i, exactly if it is the printing of listings of which that of query
-- i is wrong, and all before it are right.
abbrev pub FirstWrong : Type 0
FirstWrong = (text cells : List ℕ) → read_cells text ≡ done cells → (lists : List ℕ) (i : ℕ)
    → (accept_for text lists ≡ done (wrong_at i))
    ↔ ((ds : List Delivered) × Printed cells ds lists × (i < length (queries_of cells)) × (¬ RightList cells i (list_at ds i))
    × ((j : ℕ) → j < i → RightList cells j (list_at ds j)))

-- Refused by the file's own refusal, and of a file that is read by 10, exactly where the text of
-- listings is the printing of none.
abbrev pub AcceptRefused : Type 0
AcceptRefused = (text lists : List ℕ)
    → ((n : ℕ) → read_cells text ≡ refused n → accept_for text lists ≡ refused n)
    × ((cells : List ℕ) → read_cells text ≡ done cells → (n : ℕ)
    → (accept_for text lists ≡ refused n) ↔ ((n ≡ 10) × ((ds : List Delivered) → ¬ Printed cells ds lists)))

-- What our own program prints for a file that is read, its summary left off, is accepted, if each
-- listing is there: none was too long for the program, so no line `refused 9` stands for one.
abbrev pub OwnAccepted : Type 0
OwnAccepted = (text cells : List ℕ) → read_cells text ≡ done cells
    → accept_for text (flat_map (listing_text cells) (queries_of cells)) ≡ done all_right

pub record Promises : Type 0 where
  pub accepted_exactly : AcceptedExactly
  pub first_wrong : FirstWrong
  pub refusals : AcceptRefused
  pub own : OwnAccepted
