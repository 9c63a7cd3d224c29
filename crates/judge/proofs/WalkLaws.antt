-- Laws of going along a path row's steps, one by one: what is left of them, and whether they lead
-- to what is sought. Assumes nothing.
use mathlib.Core.Path.{◌≡◌, refl, sym, ap, ◌∙◌}
use mathlib.Core.Bool.{Bool, true, false}
use mathlib.Core.Logic.{◌⊎◌, inl, inr}
use mathlib.Core.List.{List, [], ◌∷◌}
use Prim.Native.Nat.{ℕ, ◌+◌, ◌≤◌, ◌<◌}
use native.Mathlib.Omega.{arith}
use native.Mathlib.Numerals.{add-one}
use lib.ListN.{length, get_or, drop, drop_of_length-le}
use lib.Seq.{drop-cons}
use Rattle.scope_graph.specs.Path.{HopOf}
use Rattle.scope_graph.specs.Turns.{Turned}
use Rattle.scope_graph.proofs.Lists.{Two}
use Rattle.block.specs.Sets.{has_scope, places_of}
use Rattle.block.specs.Block.{next_cell, accept_set, block_hops}
use Rattle.block.proofs.BlockLaws.{state_some, state_none}
use Rattle.search.specs.declared.Node.{Node}
use Rattle.search.specs.Board.{without, leads_to, among, reached_by}
use Rattle.search.specs.Tables.{table_board}
use Rattle.graph_table.specs.declared.rows.QueryRow.{QueryRow}
use Rattle.graph_table.specs.Sections.{rows_of}
use Rattle.path_row.specs.declared.form.Step.{Step}
use Rattle.path_row.specs.Form.{no_step}
use Rattle.path_row.specs.Numbering.{label_number, hop_of, hops_of}
use Rattle.comparison.specs.Letters.{block_letters}
use Rattle.judge.specs.LastCut.{leads_by}
use Rattle.judge.specs.Steps.{has_mark, hop_to, has_hop, step_hops, state_on, state_along, Behind, row_reached}
use Rattle.judge.proofs.HopLaws.{on_taken, on_free, free_is}

-- the hops of the steps from step i on
module _ (block : List ℕ) (ts : List Step) (i s : ℕ) where
  pub hops_end : length ts ≤ i → step_hops block (drop i ts) s ≡ []
  unfolding hops_of
  hops_end h = rw (drop_of_length-le ts {i = i} h)

  pub hops_on_lem : i < length ts → (y : Step) → y ≡ get_or ts i no_step → (l : ℕ) → l ≡ label_number (block_letters block) y.label
      → step_hops block (drop i ts) s ≡ hop_to block s l y.scope ∷ step_hops block (drop (i + 1) ts) y.scope
  unfolding hops_of hop_of
  hops_on_lem h y e l k = rw (add-one) (rw (drop-cons ts i no_step h, ← e, k))

-- where a hop leads
module _ (block : List ℕ) (goal : ℕ) (n : Node) (l t r : ℕ) (is : r ≡ state_on block n (hop_to block n.scope l t)) {A : Type 0} (other : A) (enter : ℕ → ℕ → A) where
  abbrev leads : A
  leads = leads_by (table_board block goal) other enter (has_scope n.free) n.state (hop_to block n.scope l t)

  pub leads_no : 16 ≤ r → leads ≡ other
  unfolding leads_by table_board
  leads_no h = at (Two (has_scope n.free t))
    where
      at : (has_scope n.free t ≡ true) ⊎ (has_scope n.free t ≡ false) → leads ≡ other
      at (inr f) = rw (f, leads_by)
      at (inl f) = rw (f, leads_by, state_none (next_cell block n.state l) (omega (arith, is ∙ on_free block n l t f)))

  pub leads_on : r < 16 → leads ≡ enter t r
  unfolding leads_by table_board
  leads_on h = at (Two (has_scope n.free t))
    where
      at : (has_scope n.free t ≡ true) ⊎ (has_scope n.free t ≡ false) → leads ≡ enter t r
      at (inr f) = absurd (omega (arith, is ∙ on_taken block n l t f))
      at (inl f) =
          let e : r ≡ next_cell block n.state l = is ∙ on_free block n l t f in
          rw (f, leads_by, state_some (next_cell block n.state l) (omega arith), ← e)

-- does the row lead on by a hop?
module _ (block decls : List ℕ) (goal : ℕ) (x : QueryRow) (mark : ℕ) (n : Node) where
  abbrev pub reached : Node → List (HopOf Turned) → Bool
  reached = row_reached block decls goal x mark

  module _ (l t r : ℕ) (is : r ≡ state_along block n (hop_to block n.scope l t)) (hs : List (HopOf Turned)) where
    abbrev enter : ℕ → ℕ → Bool
    enter t' r' = reached_by (table_board block goal) (without (has_scope n.free) t') t' r' hs

    abbrev beyond : Bool
    beyond = leads_by (table_board block goal) false enter (has_scope n.free) n.state (hop_to block n.scope l t)

    abbrev by_edge : Bool → Bool
    by_edge u = elim u as (λ _. Bool) [ false ↦ false | true ↦ beyond ]

    abbrev state_by : Bool → ℕ
    state_by u = elim u as (λ _. ℕ) [ true ↦ state_on block n (hop_to block n.scope l t) | false ↦ 16 ]

    by_edge_lem : reached_by (table_board block goal) (has_scope n.free) n.scope n.state (hop_to block n.scope l t ∷ hs)
        ≡ by_edge (has_hop (hop_to block n.scope l t) (block_hops block n.scope))
    unfolding reached_by leads_to leads_by among has_hop table_board
    by_edge_lem = refl

    pub reach_no : 16 ≤ r → reached n (hop_to block n.scope l t ∷ hs) ≡ false
    unfolding row_reached state_along
    reach_no h = rw (by_edge_lem ∙ at (has_hop (hop_to block n.scope l t) (block_hops block n.scope)) is)
      where
        at : (u : Bool) → r ≡ state_by u → by_edge u ≡ false
        at false k = refl
        at true k = leads_no block goal n l t r k false enter h

    pub reach_on : r < 16 → (left : ℕ) (m : Node) → Behind n t r left m → reached n (hop_to block n.scope l t ∷ hs) ≡ reached m hs
    unfolding row_reached state_along
    reach_on h left m b =
        rw (by_edge_lem ∙ at (has_hop (hop_to block n.scope l t) (block_hops block n.scope)) is, b.scope, b.state, free_is n m t r left b)
      where
        at : (u : Bool) → r ≡ state_by u → by_edge u ≡ enter t r
        at false k = absurd (omega arith)
        at true k = leads_on block goal n l t r k false enter h

  -- where the path ends
  module _ (u : Bool) (e : u ≡ places_of goal (accept_set block) n.scope n.state) where
    pub end_no : u ≡ false → false ≡ reached n []
    unfolding row_reached reached_by table_board
    end_no h = rw (← e, h)

    pub end_yes : u ≡ true → has_mark x mark n.scope (rows_of decls) ≡ reached n []
    unfolding row_reached reached_by table_board
    end_yes h = rw (← e, h)

  -- a row is reached along its steps from step i on
  module _ (ts : List Step) (i : ℕ) where
    abbrev pub reaches : Node → ℕ → Bool
    reaches m j = reached m (step_hops block (drop j ts) m.scope)

    pub reaches_end : (u : Bool) → u ≡ reached n [] → length ts ≤ i → u ≡ reaches n i
    reaches_end u e h = rw (hops_end block ts i n.scope h) e

    module _ (h : i < length ts) (y : Step) (e : y ≡ get_or ts i no_step) (l : ℕ) (k : l ≡ label_number (block_letters block) y.label)
        (r : ℕ) (is : r ≡ state_along block n (hop_to block n.scope l y.scope)) where
      abbrev behind_it : ℕ → List (HopOf Turned)
      behind_it s = step_hops block (drop (i + 1) ts) s

      pub reaches_no : 16 ≤ r → reaches n i ≡ false
      reaches_no g = rw (hops_on_lem block ts i n.scope h y e l k) (reach_no l y.scope r is (behind_it y.scope) g)

      pub reaches_on : r < 16 → (more : ℕ) (m : Node) → Behind n y.scope r more m → reaches n i ≡ reaches m (i + 1)
      reaches_on g more m b =
          ap (reached n) (hops_on_lem block ts i n.scope h y e l k)
          ∙ reach_on l y.scope r is (behind_it y.scope) g more m b
          ∙ ap (λ (s : ℕ). reached m (behind_it s)) (sym b.scope)
