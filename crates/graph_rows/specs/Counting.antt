-- What the code counts of the rows so far, and how these counts fit the table. Assumes nothing:
-- these are definitions.
use Rattle.std.specs.Prelude.{ℕ, zero, suc, ◌+◌, ◌*◌, ◌≤◌, ◌<◌, ◌≡◌, eqb}
use Rattle.graph_rows.specs.declared.rows.Counts.{Counts}
use Rattle.graph_rows.specs.Format.{label_section, pair_section, count_section, section_at}
use Rattle.graph_rows.specs.Admission.{counted}

-- The counts fit the first n cells of a table while section k is gone through: labels stand first,
-- order pairs after them; during these two sections nothing else is there yet; and the section's
-- own rows come last.
pub record Placed (k n : ℕ) (c : Counts) : Type 0 where
  pub early : k < 2 → n ≡ 1 + 6 * c.labels + 6 * c.pairs
  pub first : k < 1 → c.pairs ≡ 0
  pub within : 1 + 6 * c.labels + 6 * c.pairs ≤ n
  pub rowed : 1 + 6 * c.rows ≤ n

-- the counts after a row of section k whose first value is v
unfoldable pub counts_after : ℕ → Counts → ℕ → Counts
counts_after k c v = record {
  labels = counted (eqb k label_section) (c.labels + 1) c.labels;
  pairs = counted (eqb k pair_section) (c.pairs + 1) c.pairs;
  scopes = counted (eqb k count_section) v c.scopes;
  rows = c.rows + 1;
}

-- the counts when a section begins
unfoldable pub counts_begun : Counts → Counts
counts_begun c = record { labels = c.labels; pairs = c.pairs; scopes = c.scopes; rows = 0 }

-- Rows of a section were taken, no more than it admits: six cells each, and the counts fit.
pub record RowsTaken (k n cells : ℕ) (after : Counts) : Type 0 where
  pub most : after.rows ≤ (section_at k).most
  pub longer : cells ≡ n + 6 * after.rows
  pub placed : Placed k cells after

-- How many cells a table has at most before section k: the form, and six for each row that the
-- sections above admit.
unfoldable pub room_before : ℕ → ℕ
room_before zero = 1
room_before (suc k) = room_before k + 6 * (section_at k).most
