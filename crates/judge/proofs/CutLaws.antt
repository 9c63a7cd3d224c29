-- Laws of the ends that are cut along a path row's steps, and of the last of their places. Assumes
-- nothing.
use mathlib.Core.Path.{◌≡◌, refl, sym, ap, ◌∙◌}
use mathlib.Core.Bool.{Bool, true, false, and-false}
use mathlib.Core.Option.{Option, some, none}
use mathlib.Core.List.{List, [], ◌∷◌}
use Prim.Native.Nat.{ℕ, zero, suc, ◌+◌, ◌-◌, ◌≤◌, ◌<◌}
use native.Mathlib.Omega.{arith}
use native.Mathlib.Numerals.{add-one}
use lib.ListN.{length, get_or, drop}
use Rattle.scope_graph.specs.Language.{End, stop, by}
use Rattle.scope_graph.specs.Order.{end_of}
use Rattle.scope_graph.specs.Path.{HopOf}
use Rattle.scope_graph.specs.Turns.{Turned, label_end}
use Rattle.block.specs.Sets.{has_scope}
use Rattle.block.specs.Block.{first_edge, edge_cell, hop_of}
use Rattle.block.proofs.BlockLaws.{pair_no_second}
use Rattle.block.proofs.EdgeLaws.{EdgeTo}
use Rattle.search.specs.declared.Node.{Node}
use Rattle.search.specs.Board.{without, cut_here}
use Rattle.search.specs.Tables.{end_number, plain_end, table_order, table_board}
use Rattle.search.proofs.RulesLists.{any_of_no}
use Rattle.path_row.specs.declared.form.Step.{Step}
use Rattle.path_row.specs.Form.{no_step}
use Rattle.path_row.specs.Numbering.{label_number}
use Rattle.path_row.proofs.TurnLaws.{never_earlier}
use Rattle.comparison.specs.Letters.{block_letters}
use Rattle.std.specs.declared.option.Option.TheVariants.{Some, None}
use Rattle.judge.specs.LastCut.{caught_at, deeper, latest, later_of, leads_by, last_cut}
use Rattle.judge.specs.Steps.{hop_to, step_hops, state_on, Behind, end_cut, row_last}
use Rattle.judge.proofs.HopLaws.{free_is}
use Rattle.judge.proofs.WalkLaws.{hops_end, hops_on_lem, leads_no, leads_on}

module _ (block : List ℕ) (goal : ℕ) (n : Node) where
  -- what is learnt of an end tells
  pub end_told : (e : End Turned) (u : Bool)
      → u ≡ cut_here (table_board block goal) (table_order block) n.left (has_scope n.free) n.scope n.state e
      → u ≡ end_cut block goal n e
  unfolding end_cut
  end_told e u k = k

  -- no end is preferred to one past the labels that has no turn, so that is not cut
  end_never : (c : ℕ) → 9 ≤ c → (x : End Turned) → table_order block x (plain_end (end_of c)) ≡ false
  unfolding table_order end_number end_of plain_end
  end_never zero h x = absurd (omega arith)
  end_never (suc c) h x =
      rw (pair_no_second block (end_number (label_end x)) (suc c) h, never_earlier (record { label = c; turn = none }) x refl)

  end_not : (c : ℕ) → 9 ≤ c → end_cut block goal n (plain_end (end_of c)) ≡ false
  unfolding end_cut cut_here
  end_not c h =
      rw (end_never c h stop, and-false ((table_board block goal).here n.scope n.state))
      (any_of_no _ ((table_board block goal).hops n.scope) (λ y m. rw (end_never c h (by y.step))))

  pub label_not : (l : ℕ) → 8 ≤ l → end_cut block goal n (plain_end (by l)) ≡ false
  unfolding end_of
  label_not l h = end_not (suc l) (omega arith)

  pub label_end_lem : (l : ℕ) → end_cut block goal n (plain_end (end_of (l + 1))) ≡ end_cut block goal n (plain_end (by l))
  unfolding end_of
  label_end_lem l = rw (add-one l)

  stop_end : row_last block goal n [] ≡ deeper none (end_cut block goal n (plain_end (end_of 0)))
  unfolding end_of plain_end end_cut row_last last_cut
  stop_end = refl

  -- a step by the edge that it goes along, and by its label alone where there is none
  module _ (l t p end : ℕ) (e : EdgeTo block n.scope l t p) (is : end ≡ first_edge block (suc n.scope)) where
    abbrev due : Bool
    due = end_cut block goal n (by (hop_to block n.scope l t).step)

    pub step_plain : end ≤ p → end_cut block goal n (plain_end (by l)) ≡ due
    unfolding plain_end
    step_plain h = rw (e.none_is (omega arith))

    pub step_edge : p < end → (x : ℕ) → x ≡ edge_cell block p → (u : Bool)
        → u ≡ cut_here (table_board block goal) (table_order block) n.left (has_scope n.free) n.scope n.state (by (hop_of x).step)
        → u ≡ due
    unfolding end_cut
    step_edge h x f u k =
        k ∙ ap (λ (z : HopOf Turned). end_cut block goal n (by z.step)) (ap hop_of f ∙ e.is (omega arith))

  -- the last place behind a hop, or where it goes
  module _ (l t : ℕ) (hs : List (HopOf Turned)) (u : Bool) (k : u ≡ end_cut block goal n (by (hop_to block n.scope l t).step))
      (r : ℕ) (is : r ≡ state_on block n (hop_to block n.scope l t)) where
    abbrev enter : ℕ → ℕ → Option ℕ
    enter t' r' = last_cut (table_board block goal) (table_order block) n.left (without (has_scope n.free) t') t' r' hs stop

    split : row_last block goal n (hop_to block n.scope l t ∷ hs)
        ≡ deeper (leads_by (table_board block goal) none enter (has_scope n.free) n.state (hop_to block n.scope l t)) u
    unfolding row_last end_cut last_cut
    split = rw k

    hop_no : 16 ≤ r → row_last block goal n (hop_to block n.scope l t ∷ hs) ≡ deeper none u
    hop_no g = split ∙ ap (λ (z : Option ℕ). deeper z u) (leads_no block goal n l t r is none enter g)

    hop_beyond : r < 16 → row_last block goal n (hop_to block n.scope l t ∷ hs) ≡ deeper (enter t r) u
    hop_beyond g = split ∙ ap (λ (z : Option ℕ). deeper z u) (leads_on block goal n l t r is none enter g)

    hop_last : r < 16 → n.left ≡ 0 → row_last block goal n (hop_to block n.scope l t ∷ hs) ≡ deeper none u
    unfolding last_cut
    hop_last g z = hop_beyond g ∙ rw z

    hop_on_lem : r < 16 → (n.left ≡ 0 → ⊥) → (m : Node) → Behind n t r (n.left - 1) m
        → row_last block goal n (hop_to block n.scope l t ∷ hs) ≡ deeper (row_last block goal m hs) u
    unfolding row_last
    hop_on_lem g z m b =
        let one : n.left ≡ suc m.left = omega (arith, b.left_is) in
        hop_beyond g ∙ rw (one, b.scope, b.state, free_is n m t r (n.left - 1) b)

-- what the code keeps
pub nothing_yet : (o : Option ℕ) → later_of (caught_at None) 0 o ≡ o
unfolding caught_at later_of
nothing_yet none = refl
nothing_yet (some n) = ap some (let z : 0 + n ≡ n = omega arith in z)

pub kept_on : (last : Option ℕ) (u : Bool) (place : ℕ) → u ≡ false → last ≡ latest last u place
unfolding latest
kept_on last u place e = rw e

pub kept_here : (last : Option ℕ) (u : Bool) (place : ℕ) → u ≡ true → caught_at (Some place) ≡ latest last u place
unfolding latest caught_at
kept_here last u place e = rw e

module _ (last : Option ℕ) (i : ℕ) (u : Bool) where
  here_last : later_of last i (deeper none u) ≡ latest last u i
  unfolding later_of deeper latest
  here_last = at u
    where
      at : (b : Bool) → later_of last i (deeper none b) ≡ latest last b i
      at true = ap some (let z : i + 0 ≡ i = omega arith in z)
      at false = refl

  on_later : (o : Option ℕ) → later_of last i (deeper o u) ≡ later_of (latest last u i) (i + 1) o
  unfolding later_of deeper
  on_later none = here_last
  on_later (some n) = ap some (let z : i + suc n ≡ (i + 1) + n = omega arith in z)

-- along the steps from step i on, where `last` is kept of the places before it
module _ (block : List ℕ) (goal : ℕ) (n : Node) (ts : List Step) (i : ℕ) (last : Option ℕ) where
  abbrev pub lasts : Node → ℕ → Option ℕ
  lasts m j = row_last block goal m (step_hops block (drop j ts) m.scope)

  pub lasts_end : (u : Bool) → u ≡ end_cut block goal n (plain_end (end_of 0)) → length ts ≤ i → latest last u i ≡ later_of last i (lasts n i)
  lasts_end u f h =
      sym (ap (later_of last i) (ap (row_last block goal n) (hops_end block ts i n.scope h) ∙ stop_end block goal n ∙ ap (deeper none) (sym f)) ∙ here_last last i u)

  module _ (h : i < length ts) (y : Step) (e : y ≡ get_or ts i no_step) (l : ℕ) (k : l ≡ label_number (block_letters block) y.label)
      (u : Bool) (c : u ≡ end_cut block goal n (by (hop_to block n.scope l y.scope).step)) (r : ℕ) (is : r ≡ state_on block n (hop_to block n.scope l y.scope)) where
    abbrev rest : List (HopOf Turned)
    rest = step_hops block (drop (i + 1) ts) y.scope

    opens : lasts n i ≡ row_last block goal n (hop_to block n.scope l y.scope ∷ rest)
    opens = ap (row_last block goal n) (hops_on_lem block ts i n.scope h y e l k)

    no_more : row_last block goal n (hop_to block n.scope l y.scope ∷ rest) ≡ deeper none u → latest last u i ≡ later_of last i (lasts n i)
    no_more z = sym (ap (later_of last i) (opens ∙ z) ∙ here_last last i u)

    pub lasts_no : 16 ≤ r → latest last u i ≡ later_of last i (lasts n i)
    lasts_no g = no_more (hop_no block goal n l y.scope rest u c r is g)

    pub lasts_last : r < 16 → n.left ≡ 0 → latest last u i ≡ later_of last i (lasts n i)
    lasts_last g z = no_more (hop_last block goal n l y.scope rest u c r is g z)

    pub lasts_on : r < 16 → (n.left ≡ 0 → ⊥) → (m : Node) → Behind n y.scope r (n.left - 1) m → (o : Option ℕ) → o ≡ latest last u i
        → later_of o (i + 1) (lasts m (i + 1)) ≡ later_of last i (lasts n i)
    lasts_on g z m b o oe =
        rw oe
        (ap (λ (s : ℕ). later_of (latest last u i) (i + 1) (row_last block goal m (step_hops block (drop (i + 1) ts) s))) b.scope
        ∙ sym (ap (later_of last i) (opens ∙ hop_on_lem block goal n l y.scope rest u c r is g z m b) ∙ on_later last i u (row_last block goal m rest)))
