-- Who reads each declaration of document 01's example, computed by the checker from its text.
-- Assumes nothing.
use Prim.Native.Nat.{ℕ}
use mathlib.Core.Path.{◌≡◌, refl, ap, ◌∙◌}
use mathlib.Core.List.{List, [], ◌∷◌}
use Rattle.scope_graph.specs.Ends.{ends_at}
use Rattle.scope_graph.specs.Readers.{numbers_below, readers}
use Rattle.text_field.specs.Outcome.{Outcome, done, and_then, refuse_if}
use Rattle.board.specs.Example.{example_text}
use Rattle.board.proofs.Example.{example_cells, example_read}
use Rattle.resolution.proofs.Marked.{answers}
use Rattle.readers.specs.Readers.{readers_text, declaration_at, readers_of, readers_for}
use Rattle.readers.specs.Promises.{ExampleReaders}

in_cells_lem : (i : ℕ) → readers_for example_text i ≡ readers_of example_cells i
unfolding readers_for and_then
in_cells_lem i = ap (λ (o : Outcome (List ℕ)). and_then o (λ cells. readers_of cells i)) example_read

at_once :
    (readers_of example_cells 0 ≡ done (readers_text (0 ∷ 1 ∷ 3 ∷ [])))
    × (readers_of example_cells 1 ≡ done (readers_text (1 ∷ 3 ∷ [])))
    × (readers_of example_cells 2 ≡ done (readers_text (2 ∷ [])))
    × (readers_of example_cells 3 ≡ done (readers_text (2 ∷ 4 ∷ [])))
unfolding answers ends_at numbers_below readers declaration_at readers_of refuse_if
at_once = (refl, refl, refl, refl)

pub example_readers : ExampleReaders
example_readers =
    (in_cells_lem 0 ∙ at_once.0, in_cells_lem 1 ∙ at_once.1, in_cells_lem 2 ∙ at_once.2, in_cells_lem 3 ∙ at_once.3)
