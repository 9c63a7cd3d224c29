-- The text of the readers as it grows scope by scope, and how long it can be. Assumes nothing.
use Prim.Native.Nat.{ℕ, ◌+◌, ◌*◌, ◌≤◌, ◌<◌}
use mathlib.Core.Path.{◌≡◌, refl, sym, ap, ◌∙◌}
use mathlib.Core.Bool.{Bool, true, false}
use mathlib.Core.List.{List, [], ◌∷◌, ◌++◌, flat_map, append_assoc, append-nil}
use native.Mathlib.Omega.{arith}
use native.Mathlib.Numerals.{add-one}
use lib.ListN.{length, length-append}
use Rattle.scope_graph.specs.Language.{◌∈◌}
use Rattle.scope_graph.specs.Computed.{keep}
use Rattle.scope_graph.specs.Readers.{numbers_below}
use Rattle.scope_graph.proofs.Lists.{here, there}
use Rattle.text_field.specs.Number.{number_text}
use Rattle.text_field.proofs.NumberLaws.{length_below}
use Rattle.readers.specs.Readers.{scope_line, readers_text}

keep_append : {A : Type 0} (f : A → Bool) (l k : List A) → keep f (l ++ k) ≡ keep f l ++ keep f k
unfolding keep
keep_append f [] k = refl
keep_append {A} f (x ∷ l) k = by (f x) (keep_append f l k)
  where
    by : (t : Bool) → keep f (l ++ k) ≡ keep f l ++ keep f k
        → ◌≡◌ {A = List A} (elim t as (λ _. List A) [ true ↦ x ∷ keep f (l ++ k) | false ↦ keep f (l ++ k) ])
        ((elim t as (λ _. List A) [ true ↦ x ∷ keep f l | false ↦ keep f l ]) ++ keep f k)
    by true e = ap (λ (z : List A). x ∷ z) e
    by false e = e

lines_append : (l k : List ℕ) → flat_map scope_line (l ++ k) ≡ flat_map scope_line l ++ flat_map scope_line k
unfolding flat_map
lines_append [] k = refl
lines_append (x ∷ l) k =
    ap (λ (z : List ℕ). scope_line x ++ z) (lines_append l k) ∙ sym (append_assoc (scope_line x) (flat_map scope_line l) (flat_map scope_line k))

-- the lines of those of the first n scopes that pass a test
module _ (test : ℕ → Bool) where
  abbrev pub lines_to : ℕ → List ℕ
  lines_to n = flat_map scope_line (keep test (numbers_below n))

  -- one scope more
  kept_one : (n : ℕ) (t : Bool) → test n ≡ t
      → ◌≡◌ {A = List ℕ} (keep test (n ∷ [])) (elim t as (λ _. List ℕ) [ true ↦ n ∷ [] | false ↦ [] ])
  unfolding keep
  kept_one n t e = rw (e, keep)

  more : (n : ℕ) → lines_to (n + 1) ≡ lines_to n ++ flat_map scope_line (keep test (n ∷ []))
  unfolding numbers_below
  more n =
      ap lines_to (add-one n)
      ∙ ap (flat_map scope_line) (keep_append test (numbers_below n) (n ∷ []))
      ∙ lines_append (keep test (numbers_below n)) (keep test (n ∷ []))

  pub lines_none : lines_to 0 ≡ []
  unfolding numbers_below keep flat_map
  lines_none = refl

  pub lines_passed : (n : ℕ) → test n ≡ false → lines_to (n + 1) ≡ lines_to n
  unfolding flat_map
  lines_passed n f = more n ∙ ap (λ (l : List ℕ). lines_to n ++ flat_map scope_line l) (kept_one n false f) ∙ append-nil (lines_to n)

  pub lines_read : (n : ℕ) → test n ≡ true → lines_to (n + 1) ≡ lines_to n ++ scope_line n
  unfolding flat_map
  lines_read n t =
      more n
      ∙ ap (λ (l : List ℕ). lines_to n ++ flat_map scope_line l) (kept_one n true t)
      ∙ ap (λ (l : List ℕ). lines_to n ++ l) (append-nil (scope_line n))

  -- the names line before them
  pub text_whole : (n m : ℕ) → n ≡ m → (97 ∷ 116 ∷ 10 ∷ []) ++ lines_to n ≡ readers_text (keep test (numbers_below m))
  unfolding readers_text
  text_whole n m all = ap (λ (k : ℕ). 97 ∷ 116 ∷ 10 ∷ lines_to k) all

-- a scope's line has three bytes at most, so 64 scopes have 192
line_short : (s : ℕ) → s < 64 → length (scope_line s) ≤ 3
unfolding scope_line
line_short s h = let n = length_below 1 s (omega arith) in let l = length-append (number_text s) (10 ∷ []) in omega arith

lines_short : (l : List ℕ) → ((s : ℕ) → s ∈ l → s < 64) → length (flat_map scope_line l) ≤ 3 * length l
unfolding flat_map
lines_short [] h = omega arith
lines_short (s ∷ l) h =
    let one = line_short s (h s here) in
    let rest = lines_short l (λ x m. h x (there m)) in
    let sum = length-append (scope_line s) (flat_map scope_line l) in
    omega arith

pub text_short : (scopes : List ℕ) → ((s : ℕ) → s ∈ scopes → s < 64) → length (readers_text scopes) ≤ 3 + 3 * length scopes
unfolding readers_text
text_short scopes h = let l = lines_short scopes h in omega arith
