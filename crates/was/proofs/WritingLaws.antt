-- The list's text as it is written, line by line. Assumes nothing.
use Prim.Native.Nat.{ℕ, ◌+◌, ◌*◌, ◌≤◌, ◌<◌}
use mathlib.Core.Path.{◌≡◌, ap, ◌∙◌}
use mathlib.Core.List.{List, [], ◌∷◌, ◌++◌, flat_map, append-nil}
use native.Mathlib.Omega.{arith}
use native.Mathlib.Numerals.{add-one}
use lib.ListN.{length, get_or, take, length-append}
use lib.Seq.{take-suc, take_all}
use Rattle.scope_graph.specs.Language.{◌∈◌}
use Rattle.scope_graph.proofs.Lists.{here, there}
use Rattle.text_field.specs.Number.{number_text}
use Rattle.text_field.proofs.NumberLaws.{length_below}
use Rattle.was.specs.WasText.{was_line, number_line, was_text}
use Rattle.was.proofs.Meeting.{flat_append}

-- the lines of the first i numbers
abbrev pub lines_to : List ℕ → ℕ → List ℕ
lines_to list i = flat_map number_line (take i list)

pub lines_next : (list : List ℕ) (i : ℕ) → i < length list → lines_to list (i + 1) ≡ lines_to list i ++ number_line (get_or list i 0)
unfolding flat_map
lines_next list i h =
    ap (λ (k : ℕ). lines_to list k) (add-one i) ∙ ap (flat_map number_line) (take-suc list i 0 h)
    ∙ flat_append number_line (take i list) (get_or list i 0 ∷ [])
    ∙ ap (λ (l : List ℕ). lines_to list i ++ l) (append-nil (number_line (get_or list i 0)))

pub lines_all : (list : List ℕ) (i : ℕ) → length list ≤ i → was_line ++ lines_to list i ≡ was_text list
unfolding was_text
lines_all list i h = ap (λ (l : List ℕ). was_line ++ flat_map number_line l) (take_all i list h)

-- a scope's line has three bytes at most, so 64 scopes have 192
line_short : (v : ℕ) → v < 64 → length (number_line v) ≤ 3
unfolding number_line
line_short v h = let n = length_below 1 v (omega arith) in let l = length-append (number_text v) (10 ∷ []) in omega arith

lines_short : (l : List ℕ) → ((v : ℕ) → v ∈ l → v < 64) → length (flat_map number_line l) ≤ 3 * length l
unfolding flat_map
lines_short [] h = omega arith
lines_short (v ∷ l) h =
    let one = line_short v (h v here) in
    let rest = lines_short l (λ x m. h x (there m)) in
    let sum = length-append (number_line v) (flat_map number_line l) in
    omega arith

pub text_short : (l : List ℕ) → ((v : ℕ) → v ∈ l → v < 64) → length (was_text l) ≤ 4 + 3 * length l
unfolding was_text
text_short l h = let n = lines_short l h in omega arith
