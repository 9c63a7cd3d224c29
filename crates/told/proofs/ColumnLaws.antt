-- The columns of a query, as code writes them to bytes of its own. Assumes nothing.
use Prim.Native.Nat.{ℕ, ◌^◌, ◌≤◌, ◌<◌}
use mathlib.Core.Path.{◌≡◌, refl, sym, ap, ◌∙◌}
use mathlib.Core.List.{List, [], ◌∷◌, ◌++◌}
use native.Mathlib.Omega.{arith}
use lib.ListN.{length, take, length-append}
use Rattle.scope_graph.specs.Rows.{PackedName}
use Rattle.text_field.specs.Number.{number_text}
use Rattle.text_field.specs.Buffer.{Buf, puts}
use Rattle.text_field.proofs.NumberLaws.{length_below}
use Rattle.text_field.proofs.CellLaws.{name_length}
use Rattle.graph_table.specs.declared.sections.Form.{Form}
use Rattle.graph_table.specs.declared.sections.Form.TheVariants.{Old, Kinds}
use Rattle.follow.specs.Text.{seek_columns}
use Rattle.resolution.proofs.Buffers.{head_fits, length_take_most}
use Rattle.told.specs.Apart.{query_columns}

-- they are short
module _ (form : Form) (start : ℕ) (x : PackedName) (h : start < 64) where
  seek_short : (f : Form) → length (seek_columns f x) ≤ 18
  seek_short Old = let n = name_length x.high x.low in omega arith
  seek_short Kinds = let n = name_length x.high x.low in omega arith

  columns_short : length (query_columns form start x) ≤ 64
  unfolding query_columns
  columns_short =
      let k : List ℕ = seek_columns form x in
      let d = length_below 1 start (let z : 10 ^ 2 ≡ 100 = refl in rw z (omega arith)) in
      let n = seek_short form in
      let l1 = length-append (number_text start) (32 ∷ (k ++ (32 ∷ []))) in
      let l2 = length-append k (32 ∷ []) in
      omega arith

  -- so they are all that was written
  module _ (o c : List ℕ) (n : ℕ) (room : length o ≡ 64) (e : ◌≡◌ {A = Buf} (c, n) (puts (o, 0) (query_columns form start x))) where
    pub columns_are : take n c ≡ query_columns form start x
    columns_are = (head_fits o c n (query_columns form start x) e (let s = columns_short in omega arith)).1

    pub columns_within : (n ≤ length c) × (n ≡ length (take n c))
    columns_within =
        let f = head_fits o c n (query_columns form start x) e (let s = columns_short in omega arith) in
        let y : n ≡ length (take n c) = f.0 ∙ ap length (sym f.1) in
        let l = length_take_most n c in
        (omega arith, y)
