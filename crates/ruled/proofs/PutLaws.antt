-- Laws of cells and rows put into a table. Assumes nothing.
use Prim.Native.Nat.{ℕ, ◌+◌, ◌-◌, ◌/◌, ◌%◌, ◌≤◌, ◌<◌}
use mathlib.Core.Path.{◌≡◌, refl, sym, ap, ◌∙◌}
use mathlib.Core.Bool.{Bool, false}
use mathlib.Core.List.{List, [], ◌∷◌, ◌++◌, append-nil, append_assoc}
use native.Mathlib.Omega.{arith}
use native.Mathlib.Numerals.{add-one}
use borrow.Rule.Slice.PartMut.{put_mid}
use lib.Dec.{ltb}
use lib.ListN.{length, take, drop}
use lib.Seq.{drop-drop}
use borrow.Author.Tests.{lt-ltb, le-ltb}
use Rattle.std.specs.Option.{option_to_list}
use Rattle.std.specs.declared.option.Option.TheVariants.{Some, None}
use Rattle.text_field.specs.Buffer.{Buf, puts}
use Rattle.text_field.proofs.BufferLaws.{puts_fits, puts_then}
use Rattle.graph_rows.specs.Admission.{Row}
use Rattle.graph_rows.specs.Formed.{cells_of}
use Rattle.ruled.specs.Ruled.{rows_to, is_transition, is_accepting}

-- cells copied over others
pub put_copied : (t cells part : List ℕ) (n : ℕ) → part ≡ cells → n + length cells ≤ length t
    → ◌≡◌ {A = Buf} (put_mid n (n + length cells - n) t part, n + length cells) (puts (t, n) cells)
put_copied t cells part n e h =
    let k : n + length cells - n ≡ length cells = omega arith in
    sym (puts_fits t n cells h ∙ rw (k, e, drop-drop (length cells) n t, append_assoc (take n t) cells (drop (n + length cells) t)))

-- whether a cell has a row
module _ (states labels k to : ℕ) where
  pub no_state : states ≤ k / 8 → false ≡ is_transition states labels k to
  unfolding is_transition
  no_state h = rw (le-ltb (k / 8) states h)

  pub no_label : k / 8 < states → labels ≤ k % 8 → false ≡ is_transition states labels k to
  unfolding is_transition
  no_label h l = rw (lt-ltb (k / 8) states h, le-ltb (k % 8) labels l)

  pub by_target : k / 8 < states → k % 8 < labels → ltb to 16 ≡ is_transition states labels k to
  unfolding is_transition
  by_target h l = rw (lt-ltb (k / 8) states h, lt-ltb (k % 8) labels l)

module _ (states q : ℕ) (accepts : Bool) where
  pub not_accepting : states ≤ q → false ≡ is_accepting states q accepts
  unfolding is_accepting
  not_accepting h = rw (le-ltb q states h)

  pub by_cell : q < states → accepts ≡ is_accepting states q accepts
  unfolding is_accepting
  by_cell h = rw (lt-ltb q states h)

-- rows after rows
pub cells_append : (s : ℕ) (xs ys : List Row) → cells_of s (xs ++ ys) ≡ cells_of s xs ++ cells_of s ys
unfolding cells_of
cells_append s [] ys = refl
cells_append s (row ∷ xs) ys =
    ap (λ (l : List ℕ). s ∷ (row ++ l)) (cells_append s xs ys)
    ∙ ap (λ (l : List ℕ). s ∷ l) (sym (append_assoc row (cells_of s xs) (cells_of s ys)))

pub rows_start : (f : ℕ → List Row) (s : ℕ) (b : Buf) → b ≡ puts b (cells_of s (rows_to f 0))
unfolding rows_to cells_of puts
rows_start f s b = refl

pub rows_more : (f : ℕ → List Row) (s k : ℕ) (b c d : Buf) → c ≡ puts b (cells_of s (rows_to f k)) → d ≡ puts c (cells_of s (f k)) → d ≡ puts b (cells_of s (rows_to f (k + 1)))
unfolding rows_to
rows_more f s k b c d e g =
    puts_then b c d (cells_of s (rows_to f k)) (cells_of s (f k)) e g
    ∙ ap (puts b) (sym (cells_append s (rows_to f k) (f k)))
    ∙ ap (λ (j : ℕ). puts b (cells_of s (rows_to f j))) (sym (add-one k))

-- a row that may be missing
pub row_put : (s : ℕ) (row : Row) (rows : List Row) (b c : Buf) → option_to_list (Some row) ≡ rows → c ≡ puts b (s ∷ row) → c ≡ puts b (cells_of s rows)
unfolding cells_of
row_put s row rows b c e p = rw (sym e) (p ∙ ap (λ (l : List ℕ). puts b (s ∷ l)) (sym (append-nil row)))

pub row_left : (s : ℕ) (rows : List Row) (b : Buf) → option_to_list {X = Row} None ≡ rows → b ≡ puts b (cells_of s rows)
unfolding cells_of puts
row_left s rows b e = rw (sym e)
