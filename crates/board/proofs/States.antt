-- The automaton's tables are the automaton's: the next state, the states from which transitions
-- lead on, the states in which an end is usable. Assumes nothing.
use Prim.Native.Nat.{ℕ, zero, suc, ◌≤◌, ◌<◌}
use mathlib.Core.Path.{◌≡◌, refl, sym, ap, ◌∙◌, fun_ext}
use mathlib.Core.Bool.{Bool, true, false, ◌||◌}
use mathlib.Core.Logic.{⊎_elim}
use mathlib.Core.Option.{Option, some, none}
use mathlib.Core.List.{List, map}
use native.Mathlib.Omega.{arith}
use lib.Dec.{eqb}
use Rattle.scope_graph.specs.Language.{◌∈◌}
use Rattle.scope_graph.specs.Rows.{any_of, Transition, next_by, Rules, language}
use Rattle.scope_graph.specs.Order.{end_of}
use Rattle.scope_graph.specs.Graph.{Graph, Query}
use Rattle.scope_graph.specs.Computed.{any_below, leads_on, usable, open_end}
use Rattle.scope_graph.proofs.Rows.{next_by_row}
use Rattle.graph_rows.specs.Admission.{Row}
use Rattle.graph_rows.specs.Decode.{transition_of}
use Rattle.block.specs.Sets.{has_state}
use Rattle.block.specs.Block.{state_of, next_cell}
use Rattle.block.proofs.SetLaws.{state_past, states_none}
use Rattle.block.proofs.BlockLaws.{state_some, state_none, next_no_state, next_no_label}
use Rattle.board.specs.Tables.{state_cell, leads_into, round_flag, round_set, hopes_after, hopeful_set, usable_flag, usable_states}
use Rattle.graph_table.proofs.Tests.{below_or, or_false}
use Rattle.board.proofs.Sets.{states_are}
use Rattle.board.proofs.StateCells.{above_miss}

-- the next state
state_cell_lem : (o : Option ℕ) → ((r : ℕ) → o ≡ some r → r < 16) → state_of (state_cell o) ≡ o
unfolding state_cell
state_cell_lem none h = state_none 16 (omega arith)
state_cell_lem (some r) h = state_some r (h r refl)

option_none : (o : Option ℕ) → ((r : ℕ) → o ≡ some r → ⊥) → o ≡ none
option_none none h = refl
option_none (some r) h = absurd (h r refl)

module _
    (block : List ℕ)
    (rows : List Row)
    (cells : (q l : ℕ) → q < 16 → l < 8 → next_cell block q l ≡ state_cell (next_by (map transition_of rows) q l))
    (states : (t : Transition) → t ∈ map transition_of rows → t.state < 16)
    (labels : (t : Transition) → t ∈ map transition_of rows → t.label < 8)
    (nexts : (t : Transition) → t ∈ map transition_of rows → t.next < 16)
  where
    past : (q l : ℕ) → ((r : ℕ) → next_by (map transition_of rows) q l ≡ some r → ⊥) → next_cell block q l ≡ 16
        → state_of (next_cell block q l) ≡ next_by (map transition_of rows) q l
    past q l h e = ap state_of e ∙ state_none 16 (omega arith) ∙ sym (option_none _ h)

    pub next_is : (q l : ℕ) → state_of (next_cell block q l) ≡ next_by (map transition_of rows) q l
    next_is q l =
        ⊎_elim
        (λ (h : q < 16). ⊎_elim
        (λ (k : l < 8). ap state_of (cells q l h k) ∙ state_cell_lem _ (λ r e. nexts _ (next_by_row (map transition_of rows) q l r e)))
        (λ (k : 8 ≤ l). past q l (λ r e. let z = labels _ (next_by_row (map transition_of rows) q l r e) in omega arith) (next_no_label block q l k))
        (below_or l 8))
        (λ (h : 16 ≤ q). past q l (λ r e. let z = states _ (next_by_row (map transition_of rows) q l r e) in omega arith) (next_no_state block q l h))
        (below_or q 16)

-- what a test says of the state behind a transition
unfoldable behind : (ℕ → Bool) → Option ℕ → Bool
behind f none = false
behind f (some r) = f r

behind_is : (f : ℕ → Bool) (o : Option ℕ) → behind f o ≡ (elim o as (λ _. Bool) [ none ↦ false | some r ↦ f r ])
unfolding behind
behind_is f none = refl
behind_is f (some r) = refl

behind_equal : (f g : ℕ → Bool) (o : Option ℕ) → ((r : ℕ) → o ≡ some r → f r ≡ g r) → behind f o ≡ behind g o
unfolding behind
behind_equal f g none h = refl
behind_equal f g (some r) h = h r refl

set_behind : (set r : ℕ) → has_state set r ≡ behind (has_state set) (state_of r)
unfolding behind
set_behind set r =
    ⊎_elim (λ (h : r < 16). sym (ap (behind (has_state set)) (state_some r h)))
    (λ (h : 16 ≤ r). state_past set r h ∙ sym (ap (behind (has_state set)) (state_none r h)))
    (below_or r 16)

-- tests below a bound
below_more : (f : ℕ → Bool) (m n : ℕ) → m ≤ n → ((l : ℕ) → m ≤ l → f l ≡ false) → any_below f n ≡ any_below f m
below_more f m zero h k = ap (any_below f) (omega arith)
below_more f m (suc n) h k =
    ⊎_elim (λ (i : n < m). ap (any_below f) (omega arith)) (λ (i : m ≤ n). above_miss f n (k n i) ∙ below_more f m n i k) (below_or n m)

or_is : (a b : Bool) → (a || b) ≡ (elim a as (λ _. Bool) [ true ↦ true | false ↦ b ])
or_is true b = refl
or_is false b = refl

module _ (r : Rules) where
  -- what a test says behind a transition by the rules
  abbrev ruled : (ℕ → Bool) → ℕ → ℕ → Bool
  ruled f q l = elim (next_by r.transitions q l) as (λ _. Bool) [ none ↦ false | some s ↦ f s ]

  none_past : (f : ℕ → Bool) (q l : ℕ) → ((s : ℕ) → next_by r.transitions q l ≡ some s → ⊥) → ruled f q l ≡ false
  unfolding behind
  none_past f q l h = sym (behind_is f (next_by r.transitions q l)) ∙ ap (behind f) (option_none (next_by r.transitions q l) h)

  module _ (few : r.labels ≤ 8) (listed : (t : Transition) → t ∈ r.transitions → t.label < r.labels) where
    label_past : (f : ℕ → Bool) (q l : ℕ) → r.labels ≤ l → ruled f q l ≡ false
    label_past f q l i = none_past f q l (λ s e. let z = listed _ (next_by_row r.transitions q l s e) in omega arith)

    -- an end past the labels is usable nowhere
    pub usable_past : (g : Graph (language r)) (query : Query (language r)) (q end : ℕ) → 9 ≤ end → usable (language r) q (open_end (language r) g query (end_of end)) ≡ false
    unfolding usable open_end end_of
    usable_past g query q zero h = absurd (omega arith)
    usable_past g query q (suc l) h = label_past (leads_on (language r) 16) q l (omega arith)

module _
    (r : Rules)
    (next : ℕ → ℕ → ℕ)
    (accept : ℕ)
    (next_eq : (q l : ℕ) → state_of (next q l) ≡ next_by r.transitions q l)
    (accept_eq : (q : ℕ) → has_state accept q ≡ any_of (eqb q) r.accept)
    (few : r.labels ≤ 8)
    (states : (t : Transition) → t ∈ r.transitions → t.state < 16)
    (listed : (t : Transition) → t ∈ r.transitions → t.label < r.labels)
    (nexts : (t : Transition) → t ∈ r.transitions → t.next < 16)
  where
    -- a set that is a test's, one transition before it
    set_step : (set : ℕ) (f : ℕ → Bool) → ((s : ℕ) → s < 16 → has_state set s ≡ f s) → (q l : ℕ) → has_state set (next q l) ≡ ruled r f q l
    set_step set f same q l =
        set_behind set (next q l)
        ∙ ap (behind (has_state set)) (next_eq q l)
        ∙ behind_equal _ f (next_by r.transitions q l) (λ s e. same s (nexts _ (next_by_row r.transitions q l s e)))
        ∙ behind_is f (next_by r.transitions q l)

    abbrev hopes : ℕ → ℕ
    hopes n = hopes_after next accept n

    round_is : (n q : ℕ) → q < 16 → has_state (hopes (suc n)) q ≡ (any_of (eqb q) r.accept || any_below (λ l. has_state (hopes n) (next q l)) 8)
    unfolding hopes_after round_set round_flag leads_into
    round_is n q h = states_are (round_flag next accept (hopes n)) q h ∙ rw (accept_eq q)

    none_first : (c : ℕ) → has_state (hopes 0) c ≡ false
    unfolding hopes_after
    none_first c = states_none c

    hope_is : (n q : ℕ) → q < 16 → has_state (hopes (suc n)) q ≡ leads_on (language r) n q
    unfolding leads_on any_below
    hope_is zero q h =
        round_is 0 q h
        ∙ ap (λ b. any_of (eqb q) r.accept || b)
        (below_more (λ l. has_state (hopes 0) (next q l)) 0 8 (omega arith) (λ l i. none_first (next q l)))
        ∙ or_false _
    hope_is (suc n) q h =
        round_is (suc n) q h
        ∙ ap (λ (f : ℕ → Bool). any_of (eqb q) r.accept || any_below f 8)
        (fun_ext (λ l. set_step (hopes (suc n)) (leads_on (language r) n) (λ s i. hope_is n s i) q l))
        ∙ ap (λ b. any_of (eqb q) r.accept || b)
        (below_more (ruled r (leads_on (language r) n) q) r.labels 8 few (λ l i. label_past r few listed (leads_on (language r) n) q l i))
        ∙ or_is (any_of (eqb q) r.accept) (any_below (ruled r (leads_on (language r) n) q) r.labels)

    -- from no state past the last does a transition lead on
    hope_past : (n q : ℕ) → 16 ≤ q → leads_on (language r) n q ≡ false
    unfolding leads_on any_below
    hope_past zero q h = sym (accept_eq q) ∙ state_past accept q h
    hope_past (suc n) q h =
        rw (sym (accept_eq q) ∙ state_past accept q h, leads_on)
        (below_more (ruled r (leads_on (language r) n) q) 0 r.labels (omega arith)
        (λ l i. none_past r (leads_on (language r) n) q l (λ s e. let z = states _ (next_by_row r.transitions q l s e) in omega arith)))

    hopeful_below : (q : ℕ) → q < 16 → has_state (hopeful_set next accept) q ≡ leads_on (language r) 16 q
    unfolding hopeful_set
    hopeful_below q h = hope_is 16 q h

    pub hopeful_is : (q : ℕ) → has_state (hopeful_set next accept) q ≡ leads_on (language r) 16 q
    hopeful_is q =
        ⊎_elim (hopeful_below q) (λ (h : 16 ≤ q). state_past (hopeful_set next accept) q h ∙ sym (hope_past 16 q h)) (below_or q 16)

    -- an end is usable by the sets as by the rules
    module _ (g : Graph (language r)) (query : Query (language r)) where
      abbrev usable_by : ℕ → ℕ → Bool
      usable_by q end = usable (language r) q (open_end (language r) g query (end_of end))

      flag_is : (q end : ℕ) → usable_flag next accept (hopeful_set next accept) q end ≡ usable_by q end
      unfolding usable_flag usable open_end end_of
      flag_is q zero = accept_eq q
      flag_is q (suc l) = set_step (hopeful_set next accept) (leads_on (language r) 16) (λ s h. hopeful_is s) q l

      state_no : (q end : ℕ) → 16 ≤ q → usable_by q end ≡ false
      unfolding usable open_end end_of
      state_no q zero h = sym (accept_eq q) ∙ state_past accept q h
      state_no q (suc l) h =
          none_past r (leads_on (language r) 16) q l (λ s e. let z = states _ (next_by_row r.transitions q l s e) in omega arith)

      pub usable_is : (q end : ℕ) → has_state (usable_states next accept (hopeful_set next accept) end) q ≡ usable_by q end
      unfolding usable_states
      usable_is q end =
          ⊎_elim (λ (h : q < 16). states_are (λ p. usable_flag next accept (hopeful_set next accept) p end) q h ∙ flag_is q end)
          (λ (h : 16 ≤ q). state_past (usable_states next accept (hopeful_set next accept) end) q h ∙ sym (state_no q end h))
          (below_or q 16)
