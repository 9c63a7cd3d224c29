-- The rows so far of a section in which no edge may stand twice ascend, row after row, as the text
-- is read (graph_rows/specs/LookBack). Assumes nothing.
use Prim.Native.Nat.{ℕ, ◌≤◌}
use mathlib.Core.Path.{◌≡◌, ap}
use mathlib.Core.List.{List}
use lib.ListN.{length}
use Rattle.text_field.specs.Outcome.{done}
use Rattle.graph_rows.specs.declared.rows.Counts.{Counts}
use Rattle.graph_rows.specs.Admission.{Row}
use Rattle.graph_rows.specs.LookBack.{SortedSofar}
use Rattle.graph_rows.specs.Way.{Way, Stage, after_row, one_row}
use Rattle.graph_file.specs.File.{reading}
use Rattle.graph_rows.specs.Table.{rows_back, sofar_at}
use Rattle.graph_rows.specs.Counting.{Placed}
use Rattle.graph_file.specs.Reader.{stage_at}
use Rattle.graph_rows.proofs.LookBackLaws.{sorted_on}
use Rattle.graph_file.proofs.StageLaws.{grown, grown_own}
use Rattle.graph_rows.proofs.DecodeWay.{row_split}
use Rattle.graph_rows.proofs.DecodeRows.{passed}

-- a row that was taken was admitted, so it ascends
taken_sorted : (w : Way) (k : ℕ) (g h : Stage) → one_row w k g ≡ done h → SortedSofar k g.sofar.own → SortedSofar k h.sofar.own
unfolding after_row
taken_sorted w k g h e s =
    let r = row_split w k g h e in
    let f = sorted_on k g.sofar r.0.row (passed w.form k g.sofar r.0.row r.2).follow s in
    rw (ap (λ (x : Stage). x.sofar.own) r.3) at f

-- a row that was read
pub read_sorted : (form k n m : ℕ) (t u : List ℕ) (c d : Counts) (text rest : List ℕ) → one_row (reading form) k (stage_at t n c text) ≡ done (stage_at u m d rest)
    → SortedSofar k (rows_back c.rows n t) → SortedSofar k (rows_back d.rows m u)
unfolding stage_at sofar_at
read_sorted form k n m t u c d text rest e s = taken_sorted (reading form) k (stage_at t n c text) (stage_at u m d rest) e s

-- the rows so far stay while the next one is put behind them
pub put_sorted : (k n : ℕ) (t u : List ℕ) (row : Row) (c : Counts) → Placed k n c → n ≤ length t → length row ≡ 5 → u ≡ grown k n t row
    → SortedSofar k (rows_back c.rows n t) → SortedSofar k (rows_back c.rows n u)
put_sorted k n t u row c p fits five e s = rw (e, grown_own k n t row c p fits five) s
