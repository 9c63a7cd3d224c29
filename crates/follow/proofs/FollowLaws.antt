-- Laws of the walk: what a node and a hop give, and that nothing lies behind a hop that is passed
-- over. Assumes nothing.
use mathlib.Core.Path.{◌≡◌, refl, sym, ap, ◌∙◌}
use mathlib.Core.Bool.{Bool, true, false, not, ◌&&◌, ◌||◌}
use mathlib.Core.Logic.{◌⊎◌, inl, inr, ⊎_elim}
use mathlib.Core.Option.{Option, some, none}
use mathlib.Core.List.{List, [], ◌∷◌, ◌++◌, map, flat_map, append_assoc, append-nil}
use Prim.Native.Nat.{ℕ, suc, ◌+◌, ◌≤◌, ◌<◌}
use native.Mathlib.Numerals.{add-one}
use Rattle.scope_graph.specs.Language.{by}
use Rattle.scope_graph.specs.Order.{end_of}
use Rattle.scope_graph.specs.Path.{HopOf}
use Rattle.scope_graph.specs.Turns.{Turned}
use Rattle.scope_graph.specs.Computed.{NodeOf}
use Rattle.scope_graph.proofs.Lists.{Two}
use Rattle.block.specs.Sets.{has_scope, ALL_LABELS, places_of}
use Rattle.block.specs.Block.{state_of, next_cell, first_edge, edge_cell, hop_of, hops_on, block_hops}
use Rattle.block.specs.Ask.{ask_start, ask_goal}
use Rattle.block.proofs.BlockLaws.{state_cell_lem, state_some, on_more, block_hops_in}
use Rattle.search.specs.Board.{Board, without, cut_here, node_at, after, own_hit, hop_hits, hits_from}
use Rattle.search.specs.Live.{open_way}
use Rattle.search.specs.Tables.{place_flag, plain_end, table_order, table_board}
use Rattle.search.specs.Conditions.{WorthAt, way_of}
use Rattle.search.specs.Steps.{worth_state, Entered}
use Rattle.search.specs.declared.Node.{Node}
use Rattle.search.proofs.RulesLists.{flat_map_no}
use Rattle.search.proofs.Closed.{closed_hits, without_within}
use Rattle.search.proofs.Cells.{place_state}
use Rattle.search.proofs.HopLaws.{hop_yes, worthy, idle, all_dead}
use Rattle.search.proofs.Leads.{taken_is, Behind}
use Rattle.follow.specs.declared.Task.{Task}
use Rattle.follow.specs.declared.Task.TheVariants.{Entries, Place}
use Rattle.follow.specs.declared.Aim.{Aim}
use Rattle.follow.specs.Tally.{Taken}
use Rattle.follow.specs.Walk.{letter_bytes, marks_at, entry_rows, place_row, place_rows, places_from, rows_from}
use Rattle.follow.specs.Steps.{own_rows, hop_rows, end_cut, FollowedEdge, NextFollowed}

flat_map_append : {A B : Type 0} (f : A → List B) (l k : List A) → flat_map f (l ++ k) ≡ flat_map f l ++ flat_map f k
unfolding flat_map
flat_map_append f [] k = refl
flat_map_append {A} {B} f (x ∷ l) k =
    ap (λ (z : List B). f x ++ z) (flat_map_append f l k) ∙ sym (append_assoc (f x) (flat_map f l) (flat_map f k))

flat_map_flat_map : {A B C : Type 0} (f : B → List C) (g : A → List B) (l : List A)
    → flat_map f (flat_map g l) ≡ flat_map (λ x. flat_map f (g x)) l
unfolding flat_map
flat_map_flat_map f g [] = refl
flat_map_flat_map {A} {B} {C} f g (x ∷ l) =
    flat_map_append f (g x) (flat_map g l) ∙ ap (λ (z : List C). flat_map f (g x) ++ z) (flat_map_flat_map f g l)

flat_map_map : {A B C : Type 0} (f : B → List C) (g : A → B) (k : A → List C) (l : List A) → ((x : A) → f (g x) ≡ k x)
    → flat_map f (map g l) ≡ flat_map k l
unfolding flat_map
flat_map_map f g k [] h = refl
flat_map_map f g k (x ∷ l) h = rw (h x, flat_map_map f g k l h)

module _ (block table ask : List ℕ) (aim : Aim) where
  -- the board of the block, what a place gives, and the places from a scope on
  abbrev board : Board Turned
  board = table_board block (ask_goal ask)

  abbrev share : List (HopOf Turned) → NodeOf Turned → List Taken
  share hops k = place_rows block table ask aim.task hops k

  abbrev hits : ℕ → (ℕ → Bool) → ℕ → ℕ → List (NodeOf Turned)
  hits fuel free s q = places_from block table ask aim.scopes aim.states aim.end fuel free s q

  abbrev from : List (HopOf Turned) → ℕ → (ℕ → Bool) → ℕ → ℕ → List Taken
  from hops fuel free s q = rows_from block table ask aim hops fuel free s q

  -- a place behind a hop
  share_after : (task : Task) (hops : List (HopOf Turned)) (h : HopOf Turned) (k : NodeOf Turned)
      → place_rows block table ask task hops (after board h k) ≡ place_rows block table ask task (hops ++ (h ∷ [])) k
  unfolding place_rows after
  share_after Entries hops h k =
      ap (λ (z : List (HopOf Turned)). entry_rows (letter_bytes block) (ask_start ask) z k.at (marks_at block table ask k.at))
      (sym (append_assoc hops (h ∷ []) k.hops))
  share_after Place hops h k = refl

  -- a node behind a path
  module _ (hops : List (HopOf Turned)) (n : Node) where
    abbrev own : Bool → List Taken
    own passed = own_rows block table ask aim hops n passed

    abbrev along : HopOf Turned → List Taken
    along h = hop_rows block table ask aim hops n h

    abbrev rest : ℕ → List Taken
    rest p = flat_map along (hops_on block n.scope p)

    -- its own rows, where it is passed over and where it is not
    pub own_passed : (passed : Bool) → passed ≡ true → own passed ≡ []
    unfolding own_rows
    own_passed passed e = rw (e, own_rows)

    pub own_place_lem : (passed : Bool) → passed ≡ false → aim.task ≡ Place → own passed ≡ place_row ∷ []
    unfolding own_rows place_rows
    own_place_lem passed e t = rw (e, own_rows, t, place_rows)

    pub own_entries : (passed : Bool) → passed ≡ false → aim.task ≡ Entries
        → own passed ≡ entry_rows (letter_bytes block) (ask_start ask) hops n.scope (marks_at block table ask n.scope)
    unfolding own_rows place_rows
    own_entries passed e t = rw (e, own_rows, t, place_rows, append-nil)

    -- `passed` says whether it is passed over: it is not asked for, or the end sought is cut there
    abbrev Passed : Bool → Type 0
    Passed passed =
        passed ≡ (not (places_of aim.scopes aim.states n.scope n.state)
        || cut_here board (table_order block) n.left (has_scope n.free) n.scope n.state (plain_end (end_of aim.end)))

    abbrev own_hit_lem : List (NodeOf Turned)
    own_hit_lem =
        own_hit board (table_order block) (places_of aim.scopes aim.states) (plain_end (end_of aim.end)) n.left (has_scope n.free)
        n.scope n.state

    own_is : (passed : Bool) → Passed passed → flat_map (share hops) own_hit_lem ≡ own passed
    unfolding own_hit own_rows node_at flat_map
    own_is passed is =
        at (places_of aim.scopes aim.states n.scope n.state)
        (cut_here board (table_order block) n.left (has_scope n.free) n.scope n.state (plain_end (end_of aim.end)))
        ∙ ap own (sym is)
      where
        at : (asked cut : Bool)
            → flat_map (share hops)
            (elim (asked && not cut) as (λ _. List (NodeOf Turned)) [ true ↦ node_at board n.scope n.state ∷ [] | false ↦ [] ])
            ≡ own (not asked || cut)
        at false cut = refl
        at true true = refl
        at true false = append-nil (share hops (record { hops = []; at = n.scope; state = n.state }))

    -- its own rows, and then hop by hop
    pub rows_on : n.scope < 64 → (passed : Bool) → Passed passed → (p : ℕ) → p ≡ first_edge block n.scope
        → from hops (suc n.left) (has_scope n.free) n.scope n.state ≡ own passed ++ rest p
    unfolding rows_from places_from hits_from hop_rows table_board
    rows_on inside passed is p first =
        flat_map_append (share hops) own_hit_lem (flat_map behind (block_hops block n.scope))
        ∙ ap (λ (z : List Taken). z ++ flat_map (share hops) (flat_map behind (block_hops block n.scope))) (own_is passed is)
        ∙ ap (λ (z : List Taken). own passed ++ z)
        (flat_map_flat_map (share hops) behind (block_hops block n.scope)
        ∙ ap (flat_map along) (block_hops_in block n.scope inside ∙ ap (hops_on block n.scope) (sym first)))
      where
        behind : HopOf Turned → List (NodeOf Turned)
        behind h =
            hop_hits board (table_order block) (places_of aim.scopes aim.states) (plain_end (end_of aim.end))
            (λ t r. hits n.left (without (has_scope n.free) t) t r) n.left (has_scope n.free) n.scope n.state h

    -- one hop
    module _ (h : HopOf Turned) where
      abbrev found : List (NodeOf Turned)
      found =
          hop_hits board (table_order block) (places_of aim.scopes aim.states) (plain_end (end_of aim.end))
          (λ t r. hits n.left (without (has_scope n.free) t) t r) n.left (has_scope n.free) n.scope n.state h

      nothing : found ≡ [] → along h ≡ []
      unfolding hop_rows flat_map
      nothing e = ap (flat_map (share hops)) e

      hit_cut : end_cut block ask n (by h.step) ≡ true → found ≡ []
      unfolding hop_hits
      hit_cut c = rw (c, hop_hits)

      hit_taken : has_scope n.free h.to ≡ false → found ≡ []
      unfolding hop_hits
      hit_taken f = at (Two (end_cut block ask n (by h.step)))
        where
          at : (end_cut block ask n (by h.step) ≡ true) ⊎ (end_cut block ask n (by h.step) ≡ false) → found ≡ []
          at (inl c) = hit_cut c
          at (inr c) = rw (c, f, hop_hits)

      module _ (uncut : end_cut block ask n (by h.step) ≡ false) (f : has_scope n.free h.to ≡ true) where
        hit_stuck : state_of (next_cell block n.state h.step.label) ≡ none → found ≡ []
        unfolding hop_hits table_board
        hit_stuck k = rw (uncut, f, k, hop_hits)

        hit_enter : (r : ℕ) → state_of (next_cell block n.state h.step.label) ≡ some r
            → found ≡ map (after board h) (hits n.left (without (has_scope n.free) h.to) h.to r)
        unfolding hop_hits table_board
        hit_enter r k = rw (uncut, f, k, hop_hits)

      -- behind a place that a closed table lacks there is nothing
      module _ (onward : List ℕ) (closed : WorthAt block (ask_goal ask) aim.scopes aim.states (has_scope n.free) onward) where
        hit_dead : place_flag onward h.to (next_cell block n.state h.step.label) ≡ false → found ≡ []
        unfolding places_from way_of open_way table_board
        hit_dead d =
            at (Two (end_cut block ask n (by h.step))) (Two (has_scope n.free h.to)) (state_of (next_cell block n.state h.step.label)) refl
          where
            at : (end_cut block ask n (by h.step) ≡ true) ⊎ (end_cut block ask n (by h.step) ≡ false)
                → (has_scope n.free h.to ≡ true) ⊎ (has_scope n.free h.to ≡ false)
                → (o : Option ℕ) → state_of (next_cell block n.state h.step.label) ≡ o → found ≡ []
            at (inl c) f o k = hit_cut c
            at (inr c) (inr f) o k = hit_taken f
            at (inr c) (inl f) none k = hit_stuck c f k
            at (inr c) (inl f) (some r) k =
                hit_enter c f r k
                ∙ ap (map (after board h))
                (closed_hits board (has_scope n.free) (place_flag onward) (table_order block) (places_of aim.scopes aim.states)
                (plain_end (end_of aim.end)) closed n.left (without (has_scope n.free) h.to) h.to r
                (without_within (has_scope n.free) (has_scope n.free) h.to (λ t y. y)) f
                (rw (state_cell_lem (next_cell block n.state h.step.label) r k) at d))

        hop_idle : 16 ≤ worth_state block onward n.free n.state ALL_LABELS h → along h ≡ []
        hop_idle w =
            nothing
            (⊎_elim (λ e. hit_dead (all_dead block n.state h e onward)) (⊎_elim hit_taken hit_dead)
            (idle block onward n.free n.state ALL_LABELS h w))

      hop_cut : end_cut block ask n (by h.step) ≡ true → along h ≡ []
      hop_cut c = nothing (hit_cut c)

      -- any other is entered
      hop_enter : (onward : List ℕ) (m : Node) → end_cut block ask n (by h.step) ≡ false
          → worth_state block onward n.free n.state ALL_LABELS h < 16
          → Entered n h (worth_state block onward n.free n.state ALL_LABELS h) m
          → along h ≡ from (hops ++ (h ∷ [])) (suc m.left) (has_scope m.free) m.scope m.state
      unfolding hop_rows rows_from
      hop_enter onward m uncut good in-m =
          let w = worthy block onward n.free n.state ALL_LABELS h good in
          let cell = next_cell block n.state h.step.label in
          let is = hop_yes block onward n.free n.state ALL_LABELS h w.asked w.free_to w.held in
          ap (flat_map (share hops))
          (hit_enter uncut w.free_to cell (state_some cell (place_state onward h.to cell w.held)))
          ∙ flat_map_map (share hops) (after board h) (share (hops ++ (h ∷ [])))
          (hits n.left (without (has_scope n.free) h.to) h.to cell) (share_after aim.task hops h)
          ∙ sym (rw (in-m.left, in-m.scope, in-m.state, is, taken_is n.free h.to m.free in-m.free))

    -- with no hop left nothing is entered
    rest_over : n.left ≡ 0 → (p : ℕ) → rest p ≡ []
    unfolding hop_rows hop_hits places_from hits_from flat_map
    rest_over e p = flat_map_no along (hops_on block n.scope p) (λ h m. nothing h (none_entered h))
      where
        none_entered : (h : HopOf Turned) → found h ≡ []
        none_entered h =
            at (Two (end_cut block ask n (by h.step))) (Two (has_scope n.free h.to)) (state_of (next_cell block n.state h.step.label)) refl
          where
            at : (end_cut block ask n (by h.step) ≡ true) ⊎ (end_cut block ask n (by h.step) ≡ false)
                → (has_scope n.free h.to ≡ true) ⊎ (has_scope n.free h.to ≡ false)
                → (o : Option ℕ) → state_of (next_cell block n.state h.step.label) ≡ o → found h ≡ []
            at (inl c) f o k = hit_cut h c
            at (inr c) (inr f) o k = hit_taken h f
            at (inr c) (inl f) none k = hit_stuck h c f k
            at (inr c) (inl f) (some r) k = hit_enter h c f r k ∙ rw e

    -- the hop of edge p, which is followed, and those after it
    pub rest_enter : (onward : List ℕ) (p : ℕ) → FollowedEdge block ask onward n p → (m : Node) → Behind block onward n ALL_LABELS p m
        → (deeper : List (HopOf Turned)) (x : ℕ) → x ≡ edge_cell block p → deeper ≡ hops ++ (hop_of x ∷ [])
        → rest p ≡ from deeper (suc m.left) (has_scope m.free) m.scope m.state ++ rest (p + 1)
    unfolding flat_map
    rest_enter onward p here m behind deeper x edge more =
        ap (flat_map along) (on_more block n.scope p here.inside)
        ∙ rw (add-one p)
        (ap (λ (z : List Taken). z ++ rest (suc p))
        (hop_enter (hop_of (edge_cell block p)) onward m here.uncut behind.good behind.enters
        ∙ ap (λ (z : List (HopOf Turned)). from z (suc m.left) (has_scope m.free) m.scope m.state)
        (sym (more ∙ ap (λ (z : ℕ). hops ++ (hop_of z ∷ [])) edge))))

    -- all rows are some that come first, and those from edge q on
    module _ (q : ℕ) (whole first : List Taken) (so_far : whole ≡ first ++ rest q) where
      ends : rest q ≡ [] → whole ≡ first
      ends e = so_far ∙ ap (λ (z : List Taken). first ++ z) e ∙ append-nil first

      -- no hop may be entered
      pub rest_ends : n.left ≡ 0 → whole ≡ first
      rest_ends e = ends (rest_over e q)

      -- the next that is followed is edge j, or none is
      module _ (onward : List ℕ) (closed : WorthAt block (ask_goal ask) aim.scopes aim.states (has_scope n.free) onward)
          (j : ℕ) (next : NextFollowed block ask onward n q j) where
        rest_skip : rest q ≡ rest j
        rest_skip =
            ap (flat_map along) next.past.split
            ∙ flat_map_append along next.past.skipped (hops_on block n.scope j)
            ∙ ap (λ (z : List Taken). z ++ rest j)
            (flat_map_no along next.past.skipped
            (λ h m. ⊎_elim (hop_idle h onward closed) (hop_cut h) (next.past.idle h m)))

        pub rest_last : first_edge block (suc n.scope) ≤ j → whole ≡ first
        unfolding flat_map
        rest_last e = ends (rest_skip ∙ ap (flat_map along) (next.none e))

        pub rest_further : whole ≡ first ++ rest j
        rest_further = so_far ∙ ap (λ (z : List Taken). first ++ z) rest_skip
