-- The first open row that is followed, as code goes through the rows. Assumes nothing.
use Prim.Native.Nat.{ℕ, ◌<◌}
use mathlib.Core.Path.{◌≡◌, sym, ap, ◌∙◌}
use mathlib.Core.Bool.{Bool, true, false}
use mathlib.Core.List.{List, ◌++◌}
use native.Mathlib.Omega.{arith}
use lib.ListN.{length}
use Rattle.std.specs.declared.option.Option.{Option}
use Rattle.std.specs.declared.option.Option.TheVariants.{Some, None}
use Rattle.graph_rows.specs.Admission.{value, row_of}
use Rattle.graph_table.specs.Sections.{rows_of}
use Rattle.graph_table.specs.declared.rows.OpenRow.{OpenRow}
use Rattle.graph_table.specs.Values.{open_row}
use Rattle.graph_table.proofs.Parts.{rows_next, rows_none, value_cell}
use Rattle.resolution.specs.Asked.{followed_by, first_followed}
use Rattle.resolution.proofs.Chunks.{first_cell, after_chunk, chunk_whole}

module _ (block table ask : List ℕ) (t : List ℕ) where
  pub first_end : length t < 6 → None ≡ first_followed block table ask (rows_of t)
  unfolding first_followed
  first_end h = rw (rows_none t 0 (omega arith))

  module _ (cells rest : List ℕ) (split : t ≡ cells ++ rest) (size : length cells ≡ 6) (row : OpenRow) (e : row ≡ open_row cells 0) where
    at_is : row.at ≡ value (row_of t) 0
    at_is = ap (λ (o : OpenRow). o.at) e ∙ sym (first_cell t cells rest split size 1 (omega arith)) ∙ sym (value_cell t 0 0 (omega arith))

    end_is : row.end ≡ value (row_of t) 1
    end_is = ap (λ (o : OpenRow). o.end) e ∙ sym (first_cell t cells rest split size 2 (omega arith)) ∙ sym (value_cell t 0 1 (omega arith))

    abbrev left : Option OpenRow
    left = first_followed block table ask (rows_of rest)

    abbrev chosen : ℕ → ℕ → Bool → Option OpenRow
    chosen x y b = elim b as (λ _. Option OpenRow) [ true ↦ Some (record { at = x; end = y }) | false ↦ left ]

    step : first_followed block table ask (rows_of t) ≡ chosen row.at row.end (followed_by block table ask row.at row.end)
    unfolding first_followed row_of
    step =
        ap (first_followed block table ask) (rows_next t 0 (let h = chunk_whole t cells rest split size in omega arith))
        ∙ rw (sym at_is, sym end_is, after_chunk t cells rest split size)

    pub first_hit : followed_by block table ask row.at row.end ≡ true → Some row ≡ first_followed block table ask (rows_of t)
    first_hit h = sym (step ∙ ap (chosen row.at row.end) h)

    pub first_miss : followed_by block table ask row.at row.end ≡ false
        → first_followed block table ask (rows_of rest) ≡ first_followed block table ask (rows_of t)
    first_miss h = sym (step ∙ ap (chosen row.at row.end) h)
