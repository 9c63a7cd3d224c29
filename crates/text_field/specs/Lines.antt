-- The lines of a text, each ended by one LF (document 01, "The gym file"; 02's lists and logs, K3,
-- K10 and K13, are read by lines too). Assumes nothing: these are definitions, and statements whose
-- proofs are in proofs/LineLaws.
use Rattle.std.specs.Prelude.{◌≡◌, List, [], ◌∷◌, ◌++◌, Bool, true, false, not, ◌&&◌, ◌↔◌, ℕ, ◌+◌, ◌-◌, ◌≤◌, eqb, length, take, drop}
use Rattle.std.specs.declared.option.Option.TheVariants.{Some, None}
use Rattle.std.specs.declared.option.Option.{Option}

-- a line read from place `at` on: the bytes before its LF and with it become places
unfoldable pub line_placed : ℕ → Option (ℕ × ℕ) → Option (ℕ × ℕ)
line_placed at (Some (end, next)) = Some (at + end, at + next)
line_placed at None = None

-- the line at the start of the bytes: how many bytes stand before its LF, and how many it takes
-- with the LF; none if there is no LF
unfoldable pub line_here : List ℕ → Option (ℕ × ℕ)
line_here [] = None
line_here (x ∷ rest) = elim (eqb x 10) [ true ↦ Some (0, 1) | false ↦ line_placed 1 (line_here rest) ]

-- Is there no LF among the bytes?
unfoldable pub no_lf : List ℕ → Bool
no_lf [] = true
no_lf (x ∷ rest) = not (eqb x 10) && no_lf rest

-- A line stands in the text from place `at` up to the LF at place `end`: from `at` on the text is
-- the line, the LF and what stands from `next` on; the line holds no LF; and so `next`, where the
-- next line begins, is greater than `at`.
pub record LineAt (text : List ℕ) (at end next : ℕ) : Type 0 where
  pub whole : drop at text ≡ take (end - at) (drop at text) ++ (10 ∷ drop next text)
  pub bare : no_lf (take (end - at) (drop at text)) ≡ true
  pub from : at ≤ end
  pub grows : next ≡ end + 1
  pub inside : next ≤ length text

-- a line is told exactly where it stands
abbrev pub LineTold : Type 0
LineTold = (text : List ℕ) (at end next : ℕ) → (line_placed at (line_here (drop at text)) ≡ Some (end, next)) ↔ LineAt text at end next

-- and that there is none, exactly if no LF follows
abbrev pub NoLineTold : Type 0
NoLineTold = (text : List ℕ) (at : ℕ) → (line_placed at (line_here (drop at text)) ≡ None) ↔ (no_lf (drop at text) ≡ true)
