-- The scopes of a drawing that is put into a file (02, K14): the file's, each once. Assumes
-- nothing: these are definitions.
use Rattle.std.specs.Prelude.{ℕ, Bool, not, ◌&&◌, List, [], ◌∷◌, eqb, ltb, length}
use Rattle.graph_rows.specs.Admission.{listed}

-- Are the scopes drawn, with those met before, all scopes below the count, each once? Each is below
-- it and not met before, and at the end as many are met as there are.
unfoldable pub scopes_from : ℕ → List ℕ → List ℕ → Bool
scopes_from count met [] = eqb (length met) count
scopes_from count met (s ∷ scopes) = ltb s count && (not (listed s met) && scopes_from count (s ∷ met) scopes)

-- Are they the scopes of a file with so many?
unfoldable pub file_scopes : ℕ → List ℕ → Bool
file_scopes count scopes = scopes_from count [] scopes
