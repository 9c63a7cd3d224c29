-- Tables of states, what it means that one decides a language, and how states are numbered (02,
-- K6). Assumes nothing: these are definitions.
use Rattle.std.specs.Prelude.{ℕ, suc, ◌/◌, ◌<◌, ◌≡◌, Bool, true, ◌↔◌, List, [], ◌∷◌, ◌++◌, length}
use Rattle.std.proofs.Math.Option.{Option, some, none}

-- where a word leads from a state
unfoldable pub leads_to : (ℕ → ℕ → Option ℕ) → ℕ → List ℕ → Option ℕ
leads_to next q [] = some q
leads_to next q (l ∷ w) = elim (next q l) [ none ↦ none | some r ↦ leads_to next r w ]

-- a word leads from the start, state 0, to an accepting state
abbrev pub Accepted : (ℕ → ℕ → Option ℕ) → (ℕ → Bool) → List ℕ → Type 0
Accepted next accepts w = (f : ℕ) × (leads_to next 0 w ≡ some f) × (accepts f ≡ true)

-- the word is over labels numbered below n
abbrev pub Over : ℕ → List ℕ → Type 0
Over n [] = Unit {0}
Over n (l ∷ w) = (l < n) × Over n w

-- of the words over n labels, a table of m states accepts those of P and no other
pub record Decides (n : ℕ) (P : List ℕ → Type 0) (m : ℕ) (next : ℕ → ℕ → Option ℕ) (accepts : ℕ → Bool) : Type 0 where
  pub start : 0 < m
  pub inside : (q l r : ℕ) → q < m → l < n → next q l ≡ some r → r < m
  pub words : (w : List ℕ) → Over n w → P w ↔ Accepted next accepts w

-- The targets of the cells state * 8 + label, in sequence, 16 for none, and how many states are met
-- by then: a breadth-first walk by label number meets the states in the sequence of their numbers.
-- Each cell's own state is met before it; its target is none, one that is met, or the next number.
-- This is for at most 16 states: from a seventeenth on, 16 would be a state too.
pub data Met : List ℕ → ℕ → Type 0 where
  start : Met [] 1
  nowhere : (rs : List ℕ) (c : ℕ) → Met rs c → length rs / 8 < c → Met (rs ++ 16 ∷ []) c
  again : (rs : List ℕ) (c r : ℕ) → Met rs c → length rs / 8 < c → r < c → Met (rs ++ r ∷ []) c
  new : (rs : List ℕ) (c : ℕ) → Met rs c → length rs / 8 < c → Met (rs ++ c ∷ []) (suc c)
