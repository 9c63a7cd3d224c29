-- A row as code takes it from the front of rows: six cells, and what stands after them. Assumes
-- nothing.
use Prim.Native.Nat.{ℕ, ◌≤◌, ◌<◌}
use mathlib.Core.Path.{◌≡◌, ap, ◌∙◌}
use mathlib.Core.List.{List, ◌++◌}
use native.Mathlib.Omega.{arith}
use lib.ListN.{length, get_or, drop, length-append, get_or-append}
use lib.Seq.{drop_at}

module _ (t cells rest : List ℕ) (split : t ≡ cells ++ rest) (size : length cells ≡ 6) where
  pub chunk_whole : 6 ≤ length t
  chunk_whole = let a = ap length split ∙ length-append cells rest in omega arith

  pub after_chunk : drop 6 t ≡ rest
  after_chunk = rw split (drop_at cells rest 6 size)

  pub first_cell : (i : ℕ) → i < 6 → get_or t i 0 ≡ get_or cells i 0
  first_cell i h = rw split (get_or-append cells rest 0 i (omega arith))
