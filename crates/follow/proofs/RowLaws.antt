-- Laws of the path that the walk holds, and of a row's text and size. Assumes nothing.
use mathlib.Core.Path.{◌≡◌, refl, sym, ap, ◌∙◌}
use mathlib.Core.List.{List, [], ◌∷◌, ◌++◌, map, append_assoc, append-nil}
use Prim.Native.Nat.{ℕ, suc, ◌+◌, ◌*◌, ◌/◌, ◌%◌, ◌≤◌, ◌<◌, min}
use native.Mathlib.Omega.{arith}
use native.Mathlib.Numerals.{add-one}
use lib.ListN.{length, get_or, set, take, drop, length-append, length-take, get_or-map}
use lib.Seq.{get_or-take, get_or-drop, take-suc, take-suc-set, take_all}
use lib.Dec.{leb}
use borrow.Author.Tests.{leb-true, leb-false}
use mathlib.Core.Bool.{true, false}
use mathlib.Core.Logic.{⊎_elim}
use Rattle.scope_graph.proofs.Lists.{Two}
use Rattle.scope_graph.specs.Path.{HopOf}
use Rattle.scope_graph.specs.Turns.{Turned}
use Rattle.text_field.specs.Number.{number_text}
use Rattle.text_field.proofs.NumberLaws.{length_below}
use Rattle.block.specs.Layout.{LETTER}
use Rattle.block.specs.Block.{scope_of, label_of, turn_of, hop_of, letter_cell}
use Rattle.path_row.specs.Form.{front_text, step_text, steps_text}
use Rattle.path_row.specs.Form.{row_text as path_row_text}
use Rattle.follow.specs.Text.{letter_of, hops_text, row_text}
use Rattle.follow.specs.declared.Path.{Path}
use Rattle.follow.specs.Walk.{path_hops, letter_bytes}
use Rattle.follow.specs.Steps.{hops_size, path_size}

map_append : {A B : Type 0} (f : A → B) (xs ys : List A) → map f (xs ++ ys) ≡ map f xs ++ map f ys
map_append f [] ys = refl
map_append {A} {B} f (x ∷ xs) ys = ap (λ (z : List B). f x ∷ z) (map_append f xs ys)

-- the first hops of a path's cells
unfoldable pub first_hops : List ℕ → ℕ → List (HopOf Turned)
first_hops hops i = map hop_of (take i hops)

pub path_is : (p : Path) → path_hops p ≡ first_hops p.hops p.depth
unfolding path_hops first_hops
path_is p = refl

module _ (hops : List ℕ) where
  pub first_none : first_hops hops 0 ≡ []
  unfolding first_hops
  first_none = refl

  -- the hops up to i + 1
  pub first_step_lem : (i x : ℕ) → i < length hops → x ≡ get_or hops i 0 → first_hops hops (i + 1) ≡ first_hops hops i ++ (hop_of x ∷ [])
  unfolding first_hops
  first_step_lem i x h e = rw (add-one i, take-suc hops i 0 h, e) (map_append hop_of (take i hops) (get_or hops i 0 ∷ []))

  -- all that are held
  pub all_hops : (i : ℕ) → length hops ≤ i → first_hops hops i ≡ map hop_of hops
  unfolding first_hops
  all_hops i h = rw (take_all i hops h)

  first_more : (depth x : ℕ) → depth < length hops → first_hops (set hops depth x) (suc depth) ≡ first_hops hops depth ++ (hop_of x ∷ [])
  unfolding first_hops
  first_more depth x h = rw (take-suc-set hops depth x h) (map_append hop_of (take depth hops) (x ∷ []))

-- a path's hops, no more than it has places
pub held_hops : (p : Path) (k : ℕ) → length p.hops ≡ 64 → k ≡ min p.depth 64 → map hop_of (take k p.hops) ≡ path_hops p
unfolding path_hops
held_hops p k h e =
    ⊎_elim
    (λ (y : leb p.depth 64 ≡ true). let same : k ≡ p.depth = omega (arith, leb-true p.depth 64 y) in rw same)
    (λ (y : leb p.depth 64 ≡ false). let past = leb-false p.depth 64 y in rw (take_all k p.hops (omega arith), take_all p.depth p.hops (omega arith)))
    (Two (leb p.depth 64))

-- the path's cells hold a hop whole
hop_narrow : (x : ℕ) → hop_of (x % 65536) ≡ hop_of x
unfolding hop_of turn_of
hop_narrow x =
    let to : x % 65536 % 64 ≡ x % 64 = omega arith in
    let label : x % 65536 / 64 % 8 ≡ x / 64 % 8 = eight (x / 64) (x / 65536) (x % 65536 / 64) (omega arith) in
    let turn : x % 65536 / 512 % 128 ≡ x / 512 % 128 = most (x / 512) (x / 65536) (x % 65536 / 512) (omega arith) in
    rw (to, label, turn)
  where
    eight : (a q m : ℕ) → a ≡ 1024 * q + m → m % 8 ≡ a % 8
    eight a q m e = omega arith

    most : (a q m : ℕ) → a ≡ 128 * q + m → m % 128 ≡ a % 128
    most a q m e = omega arith

-- one hop more is put on the path
pub path_more : (p : Path) (x y depth : ℕ) → p.depth < length p.hops → y ≡ x % 65536 → depth ≡ suc p.depth
    → path_hops (record { hops = set p.hops p.depth y; depth = depth }) ≡ path_hops p ++ (hop_of x ∷ [])
unfolding path_hops first_hops
path_more p x y depth h e d =
    rw (d, e) (first_more p.hops p.depth (x % 65536) h ∙ ap (λ (k : HopOf Turned). path_hops p ++ (k ∷ [])) (hop_narrow x))

size_append : (hs ks : List (HopOf Turned)) → hops_size (hs ++ ks) ≡ hops_size hs + hops_size ks
unfolding hops_size
size_append [] ks = omega arith
size_append (h ∷ hs) ks = omega (arith, size_append hs ks)

-- a label's letter, as it is read of the block
pub letter_is : (block : List ℕ) (l x : ℕ) → l < 8 → x ≡ letter_cell block l % 256 → x ≡ letter_of (letter_bytes block) l
unfolding letter_of letter_bytes letter_cell
letter_is block l x h e =
    e
    ∙ sym (get_or-map (λ x. x % 256) (take 8 (drop LETTER block)) l 0
    ∙ ap (λ (z : ℕ). z % 256) (get_or-take 8 (drop LETTER block) l 0 h ∙ get_or-drop LETTER block l 0))

module _ (letters : List ℕ) where
  hops_append : (hs ks : List (HopOf Turned)) → hops_text letters (hs ++ ks) ≡ hops_text letters hs ++ hops_text letters ks
  unfolding hops_text steps_text
  hops_append [] ks = refl
  hops_append (h ∷ hs) ks =
      let t : List ℕ = step_text (letter_of letters h.step.label) h.to
      in ap (λ (z : List ℕ). t ++ z) (hops_append hs ks) ∙ sym (append_assoc t (hops_text letters hs) (hops_text letters ks))

  pub hops_one : (x l v : ℕ) → l ≡ letter_of letters (label_of x) → v ≡ scope_of x → hops_text letters (hop_of x ∷ []) ≡ step_text l v
  unfolding hops_text steps_text hop_of
  hops_one x l v e f = rw (e, f, append-nil)

  pub hops_none : (hops : List ℕ) → hops_text letters (first_hops hops 0) ≡ []
  unfolding hops_text steps_text
  hops_none hops = ap (hops_text letters) (first_none hops)

  pub hops_step : (hops : List ℕ) (i x : ℕ) → i < length hops → x ≡ get_or hops i 0
      → hops_text letters (first_hops hops (i + 1)) ≡ hops_text letters (first_hops hops i) ++ hops_text letters (hop_of x ∷ [])
  hops_step hops i x h e = ap (hops_text letters) (first_step_lem hops i x h e) ∙ hops_append (first_hops hops i) (hop_of x ∷ [])

  -- a row, in its three parts
  pub row_parts : (mark start : ℕ) (hops : List (HopOf Turned))
      → row_text letters mark start hops ≡ (front_text mark start ++ hops_text letters hops) ++ (10 ∷ [])
  unfolding row_text path_row_text hops_text
  row_parts mark start hops = refl

  hops_size_lem : (hs : List (HopOf Turned)) → length (hops_text letters hs) ≡ hops_size hs
  unfolding hops_text step_text steps_text hops_size
  hops_size_lem [] = refl
  hops_size_lem (h ∷ hs) = omega (arith, length-append (number_text h.to) (hops_text letters hs), hops_size_lem hs)

  row_size : (mark start : ℕ) (hops : List (HopOf Turned)) → length (number_text mark) + path_size start hops ≡ length (row_text letters mark start hops)
  unfolding path_size front_text
  row_size mark start hops =
      sym (ap length (row_parts mark start hops)
      ∙ simp length-append (omega (arith, hops_size_lem hops)))

  -- the mark's digits, and the rest
  pub row_sum : (mark start : ℕ) (hops : List (HopOf Turned)) (a k : ℕ) → a ≡ length (number_text mark) → k ≡ path_size start hops → a + k ≡ length (row_text letters mark start hops)
  row_sum mark start hops a k d e = rw (d, e) (row_size mark start hops)

-- a number that a cell holds has twenty digits at most
pub number_most : (v : ℕ) → v < 18446744073709551616 → length (number_text v) ≤ 20
number_most v h = length_below 19 v (omega arith)

-- the size, hop by hop
module _ (hops : List ℕ) where
  pub size_none : hops_size (first_hops hops 0) ≡ 0
  unfolding hops_size
  size_none = ap hops_size (first_none hops)

  pub size_step : (i x k : ℕ) → i < length hops → x ≡ get_or hops i 0 → k ≡ 1 + length (number_text (scope_of x)) → hops_size (first_hops hops (i + 1)) ≡ hops_size (first_hops hops i) + k
  unfolding hops_size hop_of
  size_step i x k h e f = ap hops_size (first_step_lem hops i x h e) ∙ size_append (first_hops hops i) (hop_of x ∷ []) ∙ omega arith

  -- a scope has two digits at most
  pub size_most : (depth : ℕ) → hops_size (first_hops hops depth) ≤ 3 * length hops
  unfolding first_hops hops_size hop_of
  size_most depth = omega (arith, each (take depth hops), length-take depth hops)
    where
      each : (xs : List ℕ) → hops_size (map hop_of xs) ≤ 3 * length xs
      each [] = omega arith
      each (x ∷ xs) = omega (arith, each xs, length_below 1 (x % 64) (omega arith))

module _ (p : Path) where
  pub path_most : hops_size (path_hops p) ≤ 3 * length p.hops
  path_most = rw (path_is p) (size_most p.hops p.depth)

  pub row_most : (start : ℕ) → start < 18446744073709551616 → path_size start (path_hops p) ≤ 22 + 3 * length p.hops
  unfolding path_size
  row_most start h = omega (arith, path_most, number_most start h)
