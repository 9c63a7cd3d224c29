-- Laws of the key that rows are sorted by. Assumes nothing.
use Prim.Native.Nat.{ℕ, ◌<◌}
use mathlib.Core.Path.{◌≡◌, ◌∙◌}
use mathlib.Core.Bool.{true, false≢true}
use mathlib.Core.Logic.{◌⊎◌, inl, inr, ⊎_elim}
use mathlib.Core.List.Memᴰ
use mathlib.Core.List.{List, [], ◌∷◌}
use native.Mathlib.Omega.{arith}
use lib.Dec.{eqb, ltb}
use borrow.Author.Tests.{ltb-true, eqb-true, lt-ltb, eq-eqb}
use Rattle.scope_graph.specs.Language.{◌∈◌}
use Rattle.scope_graph.proofs.Lists.{and_left, and_right, and_both, or_cases, or_left, or_right}
use Rattle.graph_rows.specs.Admission.{Row, value, key_less, ascends}
use Rattle.graph_rows.specs.LookBack.{Ascended}

-- The first row stands before the second by a key: it is less at the first place where they differ.
abbrev pub KeyBefore : List ℕ → Row → Row → Type 0
KeyBefore [] a b = ⊥
KeyBefore (c ∷ key) a b = (value a c < value b c) ⊎ ((value a c ≡ value b c) × KeyBefore key a b)

pub key_before : (key : List ℕ) (a b : Row) → key_less key a b ≡ true → KeyBefore key a b
unfolding key_less
key_before [] a b h = absurd (false≢true h)
key_before (c ∷ key) a b h =
    ⊎_elim (λ l. inl (ltb-true _ _ l))
    (λ r. inr (eqb-true _ _ (and_left _ _ r), key_before key a b (and_right (eqb (value a c) (value b c)) _ r)))
    (or_cases (ltb (value a c) (value b c)) _ h)

pub before_key : (key : List ℕ) (a b : Row) → KeyBefore key a b → key_less key a b ≡ true
unfolding key_less
before_key [] a b h = absurd h
before_key (c ∷ key) a b (inl h) = or_left (ltb (value a c) (value b c)) _ (lt-ltb _ _ h)
before_key (c ∷ key) a b (inr h) = or_right (ltb (value a c) (value b c)) _ (and_both _ _ (eq-eqb _ _ h.0) (before_key key a b h.1))

pub key_then : (key : List ℕ) (a b c : Row) → KeyBefore key a b → KeyBefore key b c → KeyBefore key a c
key_then [] a b c h k = h
key_then (p ∷ key) a b c (inl h) (inl k) = inl (omega arith)
key_then (p ∷ key) a b c (inl h) (inr k) = inl (let e = k.0 in omega arith)
key_then (p ∷ key) a b c (inr h) (inl k) = inl (let e = h.0 in omega arith)
key_then (p ∷ key) a b c (inr h) (inr k) = inr (h.0 ∙ k.0, key_then key a b c h.1 k.1)

-- The last of the rows above, if there is any, stands before the row.
abbrev pub LastBefore : List ℕ → List Row → Row → Type 0
LastBefore key [] row = Unit {0}
LastBefore key (last ∷ above) row = KeyBefore key last row

pub last_before : (key : List ℕ) (own : List Row) (row : Row) → ascends key own row ≡ true → LastBefore key own row
unfolding ascends
last_before key [] row h = tt
last_before key (last ∷ above) row h = key_before key last row h

pub last_then : (key : List ℕ) (own : List Row) (row later : Row) → LastBefore key own row → KeyBefore key row later → LastBefore key own later
last_then key [] row later h k = tt
last_then key (last ∷ above) row later h k = key_then key last row later h k

-- A row that ascends from the last of the rows so far stands behind them all.
pub ascended_row : (key : List ℕ) (own : List Row) (row : Row) → Ascended key own → ascends key own row ≡ true → Ascended key (row ∷ own)
unfolding ascends
ascended_row key [] row h a = ((λ b m. absurd (Memᴰ.not-nil m)), h)
ascended_row key (last ∷ above) row h a = (behind, h)
  where
    behind : (b : Row) → b ∈ (last ∷ above) → key_less key b row ≡ true
    behind b m =
        ⊎_elim (λ e. rw e a)
        (λ n. before_key key b row (key_then key b last row (key_before key b last (h.0 b n)) (key_before key last row a)))
        (Memᴰ.cases_cons m)
