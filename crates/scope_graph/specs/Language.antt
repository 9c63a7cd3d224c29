-- What the rules take from a file before there is a graph: labels and ends, the order, the
-- automaton, names. What requests of document 02 vary (a kind beside the name, K8, a turn beside
-- the label, K12) is a field here, so that the rules are stated once. Assumes nothing: these are
-- definitions.
use Rattle.std.specs.Prelude.{ℕ, ◌<◌, ◌≡◌, Bool, true, false}
use Rattle.std.proofs.Math.Option.{Option, some}
use mathlib.Core.List.{List, Memᴰ}

infix 40 ◌∈◌
-- a stands in the list l
abbrev pub ◌∈◌ : {A : Type 0} → A → List A → Type 0
◌∈◌ a l = Memᴰ a l

-- 01, "The gym file": how a path goes on at a scope. It stops there (the end mark `$`), or goes on
-- by a step.
pub data End (A : Type 0) : Type 0 where
  stop : End A
  by : A → End A

-- 01, "The gym file". `Step` is what an edge carries: in document 01 its label alone. (A step of a
-- path in 01's sense, a label and a scope, is a hop in Path.)
pub record Language : Type 1 where
  pub Step : Type 0
  pub same_step : Step → Step → Bool
  -- a step's label, and how many labels are listed: they are numbered from 0
  pub label : Step → ℕ
  pub labels : ℕ
  pub Name : Type 0
  pub same_name : Name → Name → Bool
  -- the order pairs and, at one label, the turns (02, K12), as a test of two ends: is the one
  -- preferred to the other?
  pub prefers : End Step → End Step → Bool
  -- the automaton: how many states there are, the next one from a state by a label, if any, and
  -- which accept. Paths begin in state 0.
  pub states : ℕ
  pub next : ℕ → ℕ → Option ℕ
  pub accepts : ℕ → Bool
  -- A step of the given label that stands for all of that label: whichever of the listed steps, or
  -- `$`, is preferred to it is preferred to every step of the label.
  pub strongest : List Step → ℕ → Step
  -- may two edges with the same two scopes carry these steps? In document 01 always.
  pub Together : Step → Step → Type 0
  -- may an edge carry the step? In document 01 always.
  pub Carried : Step → Type 0

-- What the theorems rely on. The tests of equality are right; the preference is irreflexive and
-- transitive (01's refusal 6; turns are numbers); transitions speak of listed labels and states
-- (refusal 3);
-- `strongest` is what its comment says, and an edge may carry it; an edge may stand beside itself.
pub record Laws (L : Language) : Type 0 where
  pub step_same : (a b : L.Step) → L.same_step a b ≡ true → a ≡ b
  pub step_self : (a : L.Step) → L.same_step a a ≡ true
  pub name_same : (a b : L.Name) → L.same_name a b ≡ true → a ≡ b
  pub name_self : (a : L.Name) → L.same_name a a ≡ true
  pub irreflexive : (a : End L.Step) → L.prefers a a ≡ false
  pub transitive : (a b c : End L.Step) → L.prefers a b ≡ true → L.prefers b c ≡ true → L.prefers a c ≡ true
  pub next_label : (q l r : ℕ) → L.next q l ≡ some r → l < L.labels
  pub next_state : (q l r : ℕ) → L.next q l ≡ some r → r < L.states
  pub strongest_label : (ts : List L.Step) (l : ℕ) → L.label (L.strongest ts l) ≡ l
  pub strongest_carried : (ts : List L.Step) (l : ℕ) → L.Carried (L.strongest ts l)
  pub strongest_stop : (ts : List L.Step) (t : L.Step)
      → L.prefers stop (by (L.strongest ts (L.label t))) ≡ true → L.prefers stop (by t) ≡ true
  pub strongest_by : (ts : List L.Step) (t u : L.Step) → u ∈ ts
      → L.prefers (by u) (by (L.strongest ts (L.label t))) ≡ true → L.prefers (by u) (by t) ≡ true
  pub together_self : (a : L.Step) → L.Together a a
