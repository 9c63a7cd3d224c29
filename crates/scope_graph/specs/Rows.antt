-- The language of a gym file (01, "The gym file"): labels, order pairs, transitions and accept rows
-- as they stand in the file. Assumes nothing: these are definitions.
use Rattle.std.specs.Prelude.{ℕ, ◌<◌, ◌≡◌, Bool, true, false, ◌&&◌, ◌||◌, List, [], ◌∷◌, eqb}
use Rattle.std.proofs.Math.Option.{Option, some, none}
use Rattle.scope_graph.specs.Language.{◌∈◌, End, stop, by, Language}
use Rattle.scope_graph.specs.Turns.{Turned, same_turned, label_end, later_step, above}

-- a row `less more`: `less` is the end that is preferred
pub record OrderPair : Type 0 where
  pub less : End ℕ
  pub more : End ℕ

-- a row `state label next`
pub record Transition : Type 0 where
  pub state : ℕ
  pub label : ℕ
  pub next : ℕ

-- What the rules call a name: a kind and a name (02, K8). The kind is its letter's byte; the name
-- is two numbers, its first eight bytes and its last eight, big end first, with zeros for bytes
-- that it lacks.
pub record PackedName : Type 0 where
  pub kind : ℕ
  pub high : ℕ
  pub low : ℕ

-- the first five sections of a file, but for the number of scopes
pub record Rules : Type 0 where
  pub labels : ℕ
  pub order : List OrderPair
  pub transitions : List Transition
  pub accept : List ℕ

-- tests of equality
unfoldable pub same_end : End ℕ → End ℕ → Bool
same_end stop stop = true
same_end stop (by k) = false
same_end (by l) stop = false
same_end (by l) (by k) = eqb l k

unfoldable pub same_name : PackedName → PackedName → Bool
same_name x y = eqb x.kind y.kind && (eqb x.high y.high && eqb x.low y.low)

-- is the test met by an element?
unfoldable pub any_of : {A : Type 0} → (A → Bool) → List A → Bool
any_of f [] = false
any_of f (x ∷ xs) = elim (f x) [ true ↦ true | false ↦ any_of f xs ]

-- is there a row that prefers the one end to the other?
unfoldable pub preferred_by : List OrderPair → End ℕ → End ℕ → Bool
preferred_by rows a b = any_of (λ row. same_end row.less a && same_end row.more b) rows

-- the next state by the first row of that state and label: rows ascend, so there is one at the most
unfoldable pub next_by : List Transition → ℕ → ℕ → Option ℕ
next_by [] q l = none
next_by (t ∷ ts) q l = elim (eqb t.state q && eqb t.label l) [ true ↦ some t.next | false ↦ next_by ts q l ]

-- The order pairs compare labels; at one label the higher turn is preferred. Of two edges with the
-- same two scopes those of one label have one turn: a file's row repeats no from, label and to, nor
-- does a completion's. An edge row has a turn, and a completion's may be any number (02, K12).
abbrev pub language : Rules → Language
language r = record {
  Step = Turned;
  same_step = same_turned;
  label = λ t. t.label;
  labels = r.labels;
  Name = PackedName;
  same_name = same_name;
  prefers = λ a b. preferred_by r.order (label_end a) (label_end b) || later_step a b;
  states = 16;
  next = next_by r.transitions;
  accepts = λ q. any_of (eqb q) r.accept;
  strongest = λ ts l. record { label = l; turn = some (above ts) };
  Together = λ t u. t.label ≡ u.label → t.turn ≡ u.turn;
  Carried = λ t. (n : ℕ) × (t.turn ≡ some n);
}

-- The order that 01's refusal 6 lets pass.
pub record OrderPasses (rows : List OrderPair) : Type 0 where
  pub apart : (a : End ℕ) → ¬ (record { less = a; more = a } ∈ rows)
  pub closed : (a b c : End ℕ) → record { less = a; more = b } ∈ rows → record { less = b; more = c } ∈ rows → record { less = a; more = c } ∈ rows

-- what refusals 3 and 6 leave, as far as the laws need it
pub record RulesPass (r : Rules) : Type 0 where
  pub order : OrderPasses r.order
  pub labels : (t : Transition) → t ∈ r.transitions → t.label < r.labels
  pub states : (t : Transition) → t ∈ r.transitions → t.next < 16
