-- `found` by the scopes where visible paths of a query end, as the code looks for them. Assumes
-- nothing.
use Prim.Native.Nat.{ℕ, ◌+◌, ◌≤◌, ◌<◌}
use Rattle.std.specs.declared.option.Option.{Option as Maybe}
use Rattle.std.specs.declared.option.Option.TheVariants.{Some, None as Nothing}
use Rattle.std.specs.Option.{MatchOption}
use mathlib.Core.Path.{◌≡◌, sym, ap, ◌∙◌}
use mathlib.Core.Bool.{Bool, true, false}
use mathlib.Core.Logic.{inl, inr, ⊎_elim}
use mathlib.Core.List.{List, []}
use native.Mathlib.Omega.{arith}
use lib.Dec.{eqb}
use borrow.Author.Tests.{eqb-true, eqb-false}
use Rattle.scope_graph.specs.Language.{Language}
use Rattle.scope_graph.specs.Graph.{Graph, Query}
use Rattle.scope_graph.specs.Rows.{PackedName, language}
use Rattle.scope_graph.specs.Order.{end_of}
use Rattle.scope_graph.specs.Computed.{Found, found_none, found_one, found_several, declares_any}
use Rattle.scope_graph.specs.Listing.{Accepted}
use Rattle.scope_graph.specs.Ends.{has_second, ends_at, several_marks}
use Rattle.scope_graph.proofs.Lists.{Two, true_false}
use Rattle.scope_graph.proofs.Among.{Among}
use Rattle.scope_graph.proofs.Ends.{declared_ends, undeclared_ends, found_among_lem}
use Rattle.graph_rows.specs.Format.{declaration_section}
use Rattle.graph_rows.specs.Decode.{rules_of, graph_of, opens_of}
use Rattle.graph_rows.specs.Accepted.{AcceptedTable}
use Rattle.block.specs.Sets.{has_scope}
use Rattle.block.specs.Block.{usable_set}
use Rattle.block.specs.Ask.{ask_name, ask_goal}
use Rattle.graph_table.specs.Sections.{part_of}
use Rattle.graph_table.proofs.Tests.{below_or}
use Rattle.board.specs.Marks.{marks_in}
use Rattle.board.proofs.Board.{goal_eq}
use Rattle.board.proofs.Queries.{accepted, sound}
use Rattle.follow.specs.Walk.{followed_in}
use Rattle.resolution.specs.declared.text.Found.TheVariants.{None, One, Several}
use Rattle.resolution.specs.Listing.{found_for}
use Rattle.resolution.specs.Asked.{Ready, query_in, NoEnd, EndAt, FirstEnd, found_meaning}
use Rattle.resolution.proofs.Walked.{marks_part}
use Rattle.resolution.proofs.Answers.{pair_is}
use Rattle.resolution.proofs.Unfollowed.{by_walk}

-- the search for the next end, whatever it is
module _ (cells ask : List ℕ) where
  abbrev pub ended : ℕ → Bool
  ended = ends_at (language (rules_of cells)) (graph_of cells) (query_in cells ask)

  -- what a search over the scopes tells
  pub searched : (from : ℕ) (r : Maybe ℕ)
      → MatchOption r ((k : ℕ) → from ≤ k → k < 64 → ended k ≡ false) (λ i. (from ≤ i) × (i < 64) × (ended i ≡ true) × ((k : ℕ) → from ≤ k → k < i → ended k ≡ false))
      → FirstEnd cells (query_in cells ask) from r
  searched from Nothing h = record { none_before = λ s a b c. h s a c }
  searched from (Some i) h = record { none_before = λ s a b c. h.3 s a b; below = h.1; on_from = h.0; ends = h.2 }

module _ (cells block ask : List ℕ) (ready : Ready cells block ask) where
  abbrev L : Language
  L = language (rules_of cells)

  abbrev g : Graph L
  g = graph_of cells

  abbrev q : Query L
  q = query_in cells ask

  t : AcceptedTable cells
  t = accepted cells ready.asked.read

  so : Accepted L g (opens_of cells) q
  so = t.accepted q ready.asked.starts

  goal_is : (s : ℕ) → has_scope (ask_goal ask) s ≡ declares_any L g.declarations s q.name
  goal_is s = goal_eq cells (sound cells ready.asked.read) q.name (ask_goal ask) ready.goal s

  -- does a visible path end at the scope? Not where the name is not declared; else the walk tells
  module _ (s goal : ℕ) (is-goal : goal ≡ ask_goal ask) (has : Bool) (is-has : has ≡ has_scope goal s) where
    declared : declares_any L g.declarations s q.name ≡ has
    declared = sym (is-has ∙ ap (λ (x : ℕ). has_scope x s) is-goal ∙ goal_is s)

    pub end_undeclared : has ≡ false → false ≡ ends_at L g q s
    end_undeclared e = sym (undeclared_ends L so.laws g q s (declared ∙ e))

    pub end_walked : s < 64 → has ≡ true → (scopes : ℕ) → ((u : ℕ) → has_scope scopes u ≡ eqb u s) → (states : ℕ) → states ≡ usable_set block 0
        → (r : Bool) → r ≡ followed_in block cells ask scopes states 0 → r ≡ ends_at L g q s
    unfolding end_of
    end_walked h e scopes one states is r w =
        by_walk block cells ask s 0 [] h (omega arith) scopes one states is r w
        ∙ pair_is cells block ask ready s 0 h (omega arith)
        ∙ sym (declared_ends L so.laws g q s (declared ∙ e))

  -- the ends that were met tell `found`
  abbrev told : Found → Type 0
  told f = Among (ends_at L g q) (several_marks L g q) 64 f

  few : g.scopes ≤ 64
  unfolding graph_of
  few = t.scopes_most

  found_by : (f : Found) → told f → f ≡ found_for cells q
  unfolding found_for
  found_by f a = sym ((found_among_lem L so.laws g q so.in_range so.starts so.declarations_ascend 64 few f).1 a)

  -- what the code sees of a scope's marks
  pub second_seen : (s : ℕ) (rows : List ℕ) (x : PackedName) → rows ≡ part_of declaration_section cells → x ≡ ask_name ask
      → (r : Bool) → r ≡ has_second (marks_in rows s x) → several_marks L g q s ≡ r
  unfolding several_marks
  second_seen s rows x part n r e =
      sym (e
      ∙ ap (λ (y : List ℕ). has_second (marks_in y s x)) part
      ∙ ap (λ (y : PackedName). has_second (marks_in (part_of declaration_section cells) s y)) n
      ∙ ap has_second (marks_part cells block ask ready s))

  pub ends_none : NoEnd cells q 0 64 → found_meaning None ≡ found_for cells q
  unfolding found_meaning
  ends_none is = found_by found_none (λ s k. is.none_before s (omega arith) k k)

  module _ (first : ℕ) (is : EndAt cells q 0 first) where
    pub ends_second : several_marks L g q first ≡ true → found_meaning Several ≡ found_for cells q
    unfolding found_meaning
    ends_second e = found_by found_several (inl (first, is.below, is.ends, e))

    pub ends_two : (next : ℕ) → EndAt cells q (first + 1) next → found_meaning Several ≡ found_for cells q
    unfolding found_meaning
    ends_two next more = found_by found_several (inr (first, next, (let k = more.on_from in omega arith), more.below, is.ends, more.ends))

    pub ends_one : NoEnd cells q (first + 1) 64 → several_marks L g q first ≡ false → found_meaning One ≡ found_for cells q
    unfolding found_meaning
    ends_one more e = found_by found_one (first, is.below, is.ends, e, alone)
      where
        alone : (t : ℕ) → t < 64 → ends_at L g q t ≡ true → t ≡ first
        alone t k m =
            ⊎_elim (λ z. eqb-true t first z)
            (λ z.
            let n = eqb-false t first z in
            ⊎_elim (λ (l : t < first). absurd (true_false m (is.none_before t (omega arith) l k)))
            (λ (l : first ≤ t). absurd (true_false m (more.none_before t (omega arith) k k)))
            (below_or t first))
            (Two (eqb t first))
