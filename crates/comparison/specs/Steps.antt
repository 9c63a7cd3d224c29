-- How the code compares steps over the board's block: the number of an end, a step with the turn
-- that the block's edges have for it, how steps go on, which of two rows' steps are preferred. On
-- the block of a table that was read this is what the rules say (proofs/RowLaws). Assumes nothing:
-- these are definitions.
use Rattle.std.specs.Prelude.{ℕ, suc, List, [], ◌∷◌, Bool, true, false, ◌&&◌, ◌||◌, eqb, ltb}
use Rattle.scope_graph.specs.Language.{End, stop, by}
use Rattle.scope_graph.specs.Turns.{Turned}
use Rattle.block.specs.Block.{block_hops}
use Rattle.search.specs.Tables.{table_order}
use Rattle.path_row.specs.declared.form.Step.{Step}
use Rattle.path_row.specs.Numbering.{label_number, hop_of}
use Rattle.comparison.specs.Compare.{Comparison, which_of}
use Rattle.comparison.specs.Letters.{block_letters}

-- the number of a label as an end, in the block's order: 9, which is no end's, for one past the
-- labels
unfoldable pub label_place : ℕ → ℕ
label_place l = elim (ltb l 8) [ true ↦ suc l | false ↦ 9 ]

-- a step that leaves scope s: its label's number, and its turn by the block's edges (02, K12)
abbrev pub step_at : List ℕ → ℕ → Step → Turned
step_at block s t = (hop_of (block_hops block) (block_letters block) s t).step

-- how steps that leave scope s go on
unfoldable pub end_first : List ℕ → ℕ → List Step → End Turned
end_first block s [] = stop
end_first block s (t ∷ ts) = by (step_at block s t)

-- Is it the same step, by label and scope? Steps that leave one scope then have the same turn.
abbrev pub same_step : List ℕ → Step → Step → Bool
same_step block t u =
    eqb (label_number (block_letters block) t.label) (label_number (block_letters block) u.label) && eqb t.scope u.scope

-- steps against steps that leave the same scope: the part of *more specific* below a shared start
-- (01, "Paths")
unfoldable pub steps_preferred : List ℕ → ℕ → List Step → List Step → Bool
steps_preferred block s [] [] = table_order block stop stop
steps_preferred block s (t ∷ ts) [] = table_order block (by (step_at block s t)) stop
steps_preferred block s [] (u ∷ us) = table_order block stop (by (step_at block s u))
steps_preferred block s (t ∷ ts) (u ∷ us) =
    table_order block (by (step_at block s t)) (by (step_at block s u)) || same_step block t u && steps_preferred block t.scope ts us

-- which of the two is preferred
unfoldable pub steps_compared : List ℕ → ℕ → List Step → List Step → Comparison
steps_compared block s ts us = which_of (steps_preferred block s ts us) (steps_preferred block s us ts)
