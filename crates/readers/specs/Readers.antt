-- Who reads a declaration of a gym file (02, K5): the text that is put out, for a table and for a
-- text. Which scopes those are, the rules say (`readers` of scope_graph). Assumes nothing: these are
-- definitions.
use Rattle.std.specs.Prelude.{ℕ, leb, length, get_or}
use mathlib.Core.List.{List, [], ◌∷◌, ◌++◌, flat_map}
use Rattle.scope_graph.specs.Graph.{Declaration}
use Rattle.scope_graph.specs.Rows.{language}
use Rattle.scope_graph.specs.Readers.{readers}
use Rattle.text_field.specs.Number.{number_text}
use Rattle.text_field.specs.Outcome.{Outcome, done, and_then, refuse_if}
use Rattle.graph_file.specs.File.{read_cells}
use Rattle.graph_rows.specs.Decode.{rules_of, graph_of}

-- a scope on a line of its own
unfoldable pub scope_line : ℕ → List ℕ
scope_line s = number_text s ++ (10 ∷ [])

-- the names line `at`, then the scopes
unfoldable pub readers_text : List ℕ → List ℕ
readers_text scopes = (97 ∷ 116 ∷ 10 ∷ []) ++ flat_map scope_line scopes

module _ (cells : List ℕ) where
  -- the declaration in row i, counted from 0, where there is one
  unfoldable pub declaration_at : ℕ → Declaration (language (rules_of cells))
  declaration_at i = get_or (graph_of cells).declarations i (record { at = 0; name = record { kind = 0; high = 0; low = 0 }; mark = 0 })

  -- 11 where there is no row i
  unfoldable pub readers_of : ℕ → Outcome (List ℕ)
  readers_of i =
      refuse_if (leb (length (graph_of cells).declarations) i) 11
      (done (readers_text (readers (language (rules_of cells)) (graph_of cells) (declaration_at i))))

-- for a text: its refusals 1 to 6 first
unfoldable pub readers_for : List ℕ → ℕ → Outcome (List ℕ)
readers_for text i = and_then (read_cells text) (λ cells. readers_of cells i)
