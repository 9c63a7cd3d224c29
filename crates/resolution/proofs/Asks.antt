-- The ask that is made of a query is ready: its tables and cells are what the walk asks for.
-- Assumes nothing.
use Prim.Native.Nat.{ℕ, ◌+◌, ◌≤◌, ◌<◌}
use mathlib.Core.Path.{◌≡◌, refl, sym, ap, ◌∙◌, fun_ext}
use mathlib.Core.Bool.{Bool, true, false, not, ◌&&◌}
use mathlib.Core.Logic.{⊎_elim}
use mathlib.Core.List.{List}
use native.Mathlib.Omega.{arith}
use borrow.Author.Tests.{ltb-true, ltb-false}
use lib.Dec.{eqb, ltb}
use lib.ListN.{length, get_or, set, length-set}
use lib.Seq.{get_or-set_same, get_or-set_other}
use Rattle.scope_graph.specs.Graph.{Query}
use Rattle.scope_graph.specs.Rows.{PackedName, language}
use Rattle.graph_rows.specs.Decode.{rules_of}
use Rattle.block.specs.Sets.{has_scope, has_state}
use Rattle.block.specs.Block.{accept_set}
use Rattle.block.specs.Ask.{FROM, KIND, HIGH, LOW, GOAL, ask_start, ask_name, ask_goal}
use Rattle.block.proofs.SetLaws.{scopes_all, scope_past}
use Rattle.search.specs.Live.{any_way}
use Rattle.search.specs.Board.{without}
use Rattle.search.specs.Tables.{place_flag}
use Rattle.search.specs.Conditions.{free_at, LiveAt, WorthAt}
use Rattle.graph_table.specs.declared.rows.QueryRow.{QueryRow}
use Rattle.graph_table.specs.Values.{packed}
use Rattle.board.specs.Made.{Made}
use Rattle.graph_rows.specs.Format.{declaration_section}
use Rattle.graph_table.specs.Sections.{part_of}
use Rattle.board.specs.Marks.{DeclaringIs}
use Rattle.graph_table.proofs.Tests.{below_or}
use Rattle.follow.specs.declared.Task.{Task}
use Rattle.follow.specs.declared.Task.TheVariants.{Entries, Place}
use Rattle.resolution.specs.Asked.{query_in, Ready, Asking, AwayFrom}
use Rattle.board.specs.Queries.{query_on, Asked}
use Rattle.board.proofs.Queries.{accepted}

-- one cell more is copied
pub copy_turn : (tables ask : List ℕ) (i : ℕ) → i < length ask → ((j : ℕ) → j < i → get_or ask j 0 ≡ get_or tables j 0)
    → (j : ℕ) → j < i + 1 → get_or (set ask i (get_or tables i 0)) j 0 ≡ get_or tables j 0
copy_turn tables ask i h same j k =
    ⊎_elim (λ (l : j < i). get_or-set_other ask i j (get_or tables i 0) 0 (λ e. absurd (omega arith)) ∙ same j l)
    (λ (l : i ≤ j).
    let e : j ≡ i = omega arith in
    rw e (get_or-set_same ask i (get_or tables i 0) 0 h))
    (below_or j i)

-- the query's five cells behind its tables
module _ (tables ask : List ℕ) (q : QueryRow) (goal : ℕ) (size : length ask ≡ 197) (same : (j : ℕ) → j < 192 → get_or ask j 0 ≡ get_or tables j 0) where
  abbrev x : PackedName
  x = packed q.name

  -- the ask as one cell after the other is set
  abbrev started : List ℕ
  started = set ask FROM q.start

  abbrev kinded : List ℕ
  kinded = set started KIND x.kind

  abbrev highed : List ℕ
  highed = set kinded HIGH x.high

  abbrev named : List ℕ
  named = set highed LOW x.low

  abbrev whole : List ℕ
  whole = set named GOAL goal

  whole_size : length whole ≡ 197
  whole_size = simp length-set size

  -- a cell of the ask, where it is not one of the last four that were set
  before_goal : (j : ℕ) → j < GOAL → get_or whole j 0 ≡ get_or named j 0
  before_goal j h = get_or-set_other named GOAL j goal 0 (λ e. absurd (omega arith))

  before_low : (j : ℕ) → j < LOW → get_or whole j 0 ≡ get_or highed j 0
  before_low j h = before_goal j (omega arith) ∙ get_or-set_other highed LOW j x.low 0 (λ e. absurd (omega arith))

  before_high : (j : ℕ) → j < HIGH → get_or whole j 0 ≡ get_or kinded j 0
  before_high j h = before_low j (omega arith) ∙ get_or-set_other kinded HIGH j x.high 0 (λ e. absurd (omega arith))

  before_kind : (j : ℕ) → j < KIND → get_or whole j 0 ≡ get_or started j 0
  before_kind j h = before_high j (omega arith) ∙ get_or-set_other started KIND j x.kind 0 (λ e. absurd (omega arith))

  whole_start : ask_start whole ≡ q.start
  unfolding ask_start
  whole_start = before_kind FROM (omega arith) ∙ get_or-set_same ask FROM q.start 0 (omega arith)

  whole_name : ask_name whole ≡ x
  unfolding ask_name
  whole_name =
      let k : get_or whole KIND 0 ≡ x.kind =
      before_high KIND (omega arith) ∙ get_or-set_same started KIND x.kind 0 (simp length-set (omega arith)) in
      let h : get_or whole HIGH 0 ≡ x.high =
      before_low HIGH (omega arith) ∙ get_or-set_same kinded HIGH x.high 0 (simp length-set (omega arith)) in
      let l : get_or whole LOW 0 ≡ x.low =
      before_goal LOW (omega arith) ∙ get_or-set_same highed LOW x.low 0 (simp length-set (omega arith)) in
      λ i. record { kind = k i; high = h i; low = l i }

  whole_goal : ask_goal whole ≡ goal
  unfolding ask_goal
  whole_goal = get_or-set_same named GOAL goal 0 (simp length-set (omega arith))

  whole_cells : (j : ℕ) → j < 192 → get_or whole j 0 ≡ get_or tables j 0
  whole_cells j h = before_kind j (omega arith) ∙ get_or-set_other ask FROM j q.start 0 (λ e. absurd (omega arith)) ∙ same j h

  whole_places : ◌≡◌ {A = ℕ → ℕ → Bool} (place_flag whole) (place_flag tables)
  unfolding place_flag
  whole_places = fun_ext (λ s. fun_ext (λ q. one s q (ltb s 64) refl))
    where
      one : (s q : ℕ) (t : Bool) → ltb s 64 ≡ t
          → ◌≡◌ {A = Bool} (elim t as (λ _. Bool) [ true ↦ has_state (get_or whole s 0) q | false ↦ false ]) (elim t as (λ _. Bool) [ true ↦ has_state (get_or tables s 0) q | false ↦ false ])
      one s q true t = let b = ltb-true s 64 t in ap (λ (x : ℕ). has_state x q) (whole_cells s (omega arith))
      one s q false t = refl

  -- all scopes but the start are free
  free_is : (free : ℕ) → ((u : ℕ) → has_scope free u ≡ (has_scope 18446744073709551615 u && not (eqb u q.start))) → has_scope free ≡ free_at q.start
  unfolding free_at without
  free_is free e = fun_ext (λ u. e u ∙ ap (λ (b : Bool). b && not (eqb u q.start)) (every u (ltb u 64) refl))
    where
      every : (u : ℕ) (t : Bool) → ltb u 64 ≡ t → has_scope 18446744073709551615 u ≡ ltb u 64
      every u true t = scopes_all u (ltb-true u 64 t) ∙ sym t
      every u false t = scope_past 18446744073709551615 u (ltb-false u 64 t) ∙ sym t

  module _ (cells block : List ℕ) (made : Made cells block) (asked : Asked cells (query_on cells q)) (goal_is : DeclaringIs (part_of declaration_section cells) x goal) (free : ℕ)
      (taken : (u : ℕ) → has_scope free u ≡ (has_scope 18446744073709551615 u && not (eqb u q.start))) (live : LiveAt block goal (has_scope free) tables) where
    ready : Ready cells block whole
    ready = record {
      asked = rw (whole_start, whole_name) asked;
      made = made;
      size = whole_size;
      goal = rw (whole_goal, whole_name) goal_is;
      live = rw (whole_goal, whole_start, whole_places, ← free_is free taken) live;
    }

    pub ask_made : Asking cells block q whole
    ask_made = record { ready = ready; query = rw (whole_start, whole_name) }

-- a query of a table that was read starts below 64
pub asked_small : (cells : List ℕ) (q : Query (language (rules_of cells))) → Asked cells q → q.start < 64
asked_small cells q asked =
    let m = (accepted cells asked.read).scopes_most in
    let s = asked.starts in
    omega arith

-- a table of what is away, for the ask's own cells
pub away_asked : (block ask : List ℕ) (goal start : ℕ) (away : List ℕ) → goal ≡ ask_goal ask → start ≡ ask_start ask
    → AwayFrom block goal start away → AwayFrom block (ask_goal ask) (ask_start ask) away
away_asked block ask goal start away g s from = rw (← g, ← s) from

-- what a ready ask gives the walk
module _ (cells block ask : List ℕ) (ready : Ready cells block ask) where
  pub start_small : ask_start ask < 64
  start_small = asked_small cells (query_in cells ask) ready.asked

  -- a table that is closed for any step is closed for steps that are not cut
  pub entries_worth : WorthAt block (ask_goal ask) (ask_goal ask) (accept_set block) (free_at (ask_start ask)) ask
  unfolding any_way
  entries_worth = record { asked = ready.live.asked; back = λ s q h r below m f n w l. ready.live.back s q h r below m f n refl l }

-- a walk over entries is none that seeks a place
pub not_place : {n : ℕ} → ◌≡◌ {A = Task} Entries Place → n ≡ 0
not_place e = let z : ◌≡◌ {A = ℕ} 0 1 = cc in absurd (omega arith)
