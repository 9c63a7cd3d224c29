-- How the code holds a list: at the front of 64 cells. Assumes nothing: these are definitions.
use Rattle.std.specs.Prelude.{ℕ, ◌≤◌, ◌<◌, ◌≡◌, List, ◌++◌, map, length, take, drop, replicate}
use Rattle.scope_graph.specs.Language.{◌∈◌}
use Rattle.scope_graph.specs.Path.{Distinct}
use Rattle.std.specs.declared.option.Option.{Option}
use Rattle.std.specs.declared.option.Option.TheVariants.{Some, None}
use Rattle.text_field.specs.Outcome.{Outcome, refused, done}
use Rattle.graph_rows.specs.Format.{most_scopes}
use Rattle.graph_table.specs.Rows.{row_hops}

-- the cells with the numbers in place of their first ones
unfoldable pub at_front : List ℕ → List ℕ → List ℕ
at_front numbers cells = numbers ++ drop (length numbers) cells

-- the numbers, then zeros
unfoldable pub in_cells : List ℕ → List ℕ
in_cells numbers = at_front numbers (replicate most_scopes 0)

-- what the reader of a list's text gives: the numbers, then zeros, if it is one
unfoldable pub list_read : Outcome (List ℕ) → Option (List ℕ)
list_read (refused n) = None
list_read (done numbers) = Some (in_cells numbers)

-- the scopes that the edge rows of scope s lead to, by cells
unfoldable pub scopes_by : List ℕ → ℕ → List ℕ
scopes_by edges s = map (λ h. h.to) (row_hops edges s)

-- different numbers below n
pub record Scopes (n : ℕ) (list : List ℕ) : Type 0 where
  pub once : Distinct list
  pub below : (x : ℕ) → x ∈ list → x < n

-- 64 cells that begin with n scopes
pub record Begins (cells : List ℕ) (n : ℕ) : Type 0 where
  pub size : length cells ≡ most_scopes
  pub most : n ≤ most_scopes
  pub scopes : Scopes most_scopes (take n cells)
