-- What the code's answers mean, by places of the text. Assumes nothing: these are definitions.
use Rattle.std.specs.Prelude.{ℕ, List, drop}
use Rattle.text_field.specs.Outcome.{Outcome, refused, done}
use Rattle.std.specs.declared.option.Option.{Option}
use Rattle.std.specs.declared.option.Option.TheVariants.{Some, None}
use Rattle.dot_text.specs.Grammar.{DrawnEdge}
use Rattle.dot_text.specs.Reading.{Taken, Places}

-- where the text goes on
unfoldable pub rest_of : Option ℕ → List ℕ → Outcome (List ℕ)
rest_of (Some next) text = done (drop next text)
rest_of None text = refused 18

-- an edge
unfoldable pub edge_of : Option (ℕ × ℕ × ℕ × ℕ) → List ℕ → Outcome (Taken DrawnEdge)
edge_of (Some (from, letter, to, next)) text =
    done (record { value = record { from = from; letter = letter; to = to }; rest = drop next text })
edge_of None text = refused 18

-- the parts of a drawing
unfoldable pub places_of : Option (ℕ × ℕ) → List ℕ → Outcome Places
places_of (Some (scopes, edges)) text = done (record { scopes = drop scopes text; edges = drop edges text })
places_of None text = refused 18
