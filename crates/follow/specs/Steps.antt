-- What the steps of the walk's code answer: a row's size, a node's own rows, a hop's rows, and
-- which hops are passed over. Assumes nothing: these are definitions.
use Rattle.std.specs.Prelude.{ℕ, suc, ◌+◌, ◌≤◌, ◌<◌, ◌≡◌, ◌⊎◌, Bool, true, false, length}
use mathlib.Core.List.{List, [], ◌∷◌, ◌++◌, flat_map}
use Rattle.scope_graph.specs.Language.{◌∈◌, End, by}
use Rattle.scope_graph.specs.Order.{end_of}
use Rattle.scope_graph.specs.Path.{HopOf}
use Rattle.scope_graph.specs.Turns.{Turned}
use Rattle.text_field.specs.Number.{number_text}
use Rattle.block.specs.Sets.{has_scope, ALL_LABELS, places_of}
use Rattle.block.specs.Block.{first_edge, edge_cell, hop_of, hops_on}
use Rattle.block.specs.Ask.{ask_goal}
use Rattle.search.specs.Board.{without, cut_here, hop_hits}
use Rattle.search.specs.Tables.{plain_end, table_order, table_board}
use Rattle.search.specs.Steps.{worth_state}
use Rattle.search.specs.Conditions.{Known}
use Rattle.search.specs.declared.Node.{Node}
use Rattle.search.specs.declared.Learnt.{Learnt}
use Rattle.follow.specs.declared.Aim.{Aim}
use Rattle.follow.specs.declared.Task.TheVariants.{Place}
use Rattle.follow.specs.Tally.{Taken}
use Rattle.follow.specs.Walk.{place_rows, places_from}

-- how long the hops of a row are, whatever the letters, and a row without its mark
unfoldable pub hops_size : List (HopOf Turned) → ℕ
hops_size [] = 0
hops_size (h ∷ hs) = 1 + length (number_text h.to) + hops_size hs

unfoldable pub path_size : ℕ → List (HopOf Turned) → ℕ
path_size start hops = length (number_text start) + hops_size hops + 2

-- where places are sought there is no room for rows: each is only counted
abbrev pub NoRoom : Aim → Type 0
NoRoom aim = aim.task ≡ Place → aim.bounds.limit ≡ 0

-- with the board's block, the graph table and the ask
module _ (block table ask : List ℕ) (aim : Aim) (hops : List (HopOf Turned)) (n : Node) where
  -- a node's own rows, unless it is passed over
  unfoldable pub own_rows : Bool → List Taken
  own_rows passed =
      elim passed [
        | true ↦ []
        | false ↦ place_rows block table ask aim.task hops (record { hops = []; at = n.scope; state = n.state })
      ]

  -- what lies behind one of its hops
  unfoldable pub hop_rows : HopOf Turned → List Taken
  hop_rows h =
      flat_map (place_rows block table ask aim.task hops)
      (hop_hits (table_board block (ask_goal ask)) (table_order block) (places_of aim.scopes aim.states) (plain_end (end_of aim.end))
      (λ t r. places_from block table ask aim.scopes aim.states aim.end n.left (without (has_scope n.free) t) t r)
      n.left (has_scope n.free) n.scope n.state h)

-- an end is cut at a node
abbrev pub end_cut : List ℕ → List ℕ → Node → End Turned → Bool
end_cut block ask n e =
    cut_here (table_board block (ask_goal ask)) (table_order block) n.left (has_scope n.free) n.scope n.state e

-- what was learnt by asking about the step of the edge with this cell: whether it is cut
pub record Told (block ask : List ℕ) (n : Node) (x : ℕ) (learnt : Learnt) : Type 0 where
  pub known : Known block (ask_goal ask) n learnt.known
  pub cut : end_cut block ask n (by (hop_of x).step) ≡ learnt.cut

-- From edge p of the node's scope on up to edge r, each hop is worth nothing or its step is cut.
pub record Skipped (block ask onward : List ℕ) (n : Node) (p r : ℕ) : Type 0 where
  pub on : p ≤ r
  pub skipped : List (HopOf Turned)
  pub split : hops_on block n.scope p ≡ skipped ++ hops_on block n.scope r
  pub idle : (h : HopOf Turned) → h ∈ skipped
      → (16 ≤ worth_state block onward n.free n.state ALL_LABELS h) ⊎ (end_cut block ask n (by h.step) ≡ true)

-- Edge number p is followed: it stands before the end of the node's edges, its hop is worth
-- entering, and its step is not cut.
pub record FollowedEdge (block ask onward : List ℕ) (n : Node) (p : ℕ) : Type 0 where
  pub inside : p < first_edge block (suc n.scope)
  pub worth : worth_state block onward n.free n.state ALL_LABELS (hop_of (edge_cell block p)) < 16
  pub uncut : end_cut block ask n (by (hop_of (edge_cell block p)).step) ≡ false

-- Edge number r is the next that is followed, or none is left.
pub record NextFollowed (block ask onward : List ℕ) (n : Node) (p r : ℕ) : Type 0 where
  pub past : Skipped block ask onward n p r
  pub found : r < first_edge block (suc n.scope) → FollowedEdge block ask onward n r
  pub none : first_edge block (suc n.scope) ≤ r → hops_on block n.scope r ≡ []
