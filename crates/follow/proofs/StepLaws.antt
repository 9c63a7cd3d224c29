-- Laws of the hops that the walk passes over on the way to the next that it follows. Assumes
-- nothing.
use mathlib.Core.Path.{◌≡◌, refl, sym, ap, ◌∙◌}
use mathlib.Core.Bool.{Bool, true, false}
use mathlib.Core.Logic.{◌⊎◌, inl, inr, ⊎_elim}
use mathlib.Core.List.Memᴰ
use mathlib.Core.List.{List, [], ◌∷◌, ◌++◌, append_assoc}
use Prim.Native.Nat.{ℕ, suc, ◌+◌, ◌≤◌, ◌<◌}
use native.Mathlib.Omega.{arith}
use native.Mathlib.Numerals.{add-one}
use Rattle.scope_graph.specs.Language.{by}
use Rattle.scope_graph.specs.Order.{end_of}
use Rattle.scope_graph.specs.Path.{HopOf}
use Rattle.scope_graph.specs.Turns.{Turned}
use Rattle.block.specs.Sets.{has_scope, ALL_LABELS}
use Rattle.block.specs.Block.{Bounds, turn_cell, first_edge, edge_cell, label_of, hop_of, hops_on}
use Rattle.block.specs.Ask.{ask_goal}
use Rattle.block.proofs.BlockLaws.{on_none}
use Rattle.search.specs.Board.{cut_here}
use Rattle.search.specs.Tables.{plain_end, table_order, table_board}
use Rattle.search.specs.Steps.{worth_state}
use Rattle.search.proofs.HopLaws.{NextHop}
use Rattle.search.specs.Conditions.{Known}
use Rattle.search.specs.declared.Learnt.{Learnt}
use Rattle.search.specs.declared.Node.{Node}
use Rattle.search.proofs.LaterLaws.{step_by_label, step_highest}
use Rattle.follow.specs.Steps.{end_cut, Told, Skipped, NextFollowed}

module _ (block ask onward : List ℕ) (n : Node) (p : ℕ) where
  -- none yet
  pub skip_none : Skipped block ask onward n p p
  skip_none = record { on = omega arith; skipped = []; split = refl; idle = λ h m. absurd (Memᴰ.not-nil m) }

  -- more hops, that are worth nothing
  pub skip_idle : (i r : ℕ) → Skipped block ask onward n p i → NextHop block onward n ALL_LABELS i r → Skipped block ask onward n p r
  skip_idle i r past next = record {
    on = omega (arith, past.on, next.on);
    skipped = past.skipped ++ next.skipped;
    split =
        past.split ∙ ap (λ (z : List (HopOf Turned)). past.skipped ++ z) next.split
        ∙ sym (append_assoc past.skipped next.skipped (hops_on block n.scope r));
    idle = λ h m. ⊎_elim (past.idle h) (λ t. inl (next.idle h t)) (Memᴰ.append_cases past.skipped m);
  }

  -- one more, whose step is cut
  pub skip_cut : (k i : ℕ) → Skipped block ask onward n p i → NextHop block onward n ALL_LABELS k i → i < first_edge block (suc n.scope)
      → end_cut block ask n (by (hop_of (edge_cell block i)).step) ≡ true → Skipped block ask onward n p (i + 1)
  skip_cut k i past here inside cut = rw (add-one i) (record {
    on = omega (arith, past.on);
    skipped = past.skipped ++ (hop_of (edge_cell block i) ∷ []);
    split =
        past.split ∙ ap (λ (z : List (HopOf Turned)). past.skipped ++ z) (here.found inside)
        ∙ sym (append_assoc past.skipped (hop_of (edge_cell block i) ∷ []) (hops_on block n.scope (suc i)));
    idle = λ h m. ⊎_elim (past.idle h) (λ t. ⊎_elim (first h) (λ u. absurd (Memᴰ.not-nil u)) (Memᴰ.cases_cons t))
        (Memᴰ.append_cases past.skipped m);
  })
    where
      first : (h : HopOf Turned) → h ≡ hop_of (edge_cell block i)
          → (16 ≤ worth_state block onward n.free n.state ALL_LABELS h) ⊎ (end_cut block ask n (by h.step) ≡ true)
      first h e = inr (rw e cut)

  -- the next that is followed
  pub next_is : (k r : ℕ) → Skipped block ask onward n p r → NextHop block onward n ALL_LABELS k r
      → (r < first_edge block (suc n.scope) → end_cut block ask n (by (hop_of (edge_cell block r)).step) ≡ false)
      → NextFollowed block ask onward n p r
  next_is k r past here uncut = record {
    past = past;
    found = λ inside. record { inside = inside; worth = here.worth inside; uncut = uncut inside };
    none = here.none;
  }

  -- past the node's edges none is left
  pub next_none : first_edge block (suc n.scope) ≤ p → NextFollowed block ask onward n p p
  next_none past = record {
    past = skip_none;
    found = λ inside. absurd (omega (arith, past, inside));
    none = on_none block n.scope p;
  }

-- the step of edge number i, by its cell, as the code asks about it
pub step_cut_lem : (block ask : List ℕ) (n : Node) (i x goal : ℕ) (cut : Bool) → x ≡ edge_cell block i → goal ≡ ask_goal ask
    → cut ≡ cut_here (table_board block goal) (table_order block) n.left (has_scope n.free) n.scope n.state (by (hop_of x).step)
    → end_cut block ask n (by (hop_of (edge_cell block i)).step) ≡ cut
step_cut_lem block ask n i x goal cut e g says = sym (rw (e, g) at says)

-- the same where all turns are 0: it is cut as its label is
pub label_cut : (block ask : List ℕ) (n : Node) (i x goal : ℕ) (cut : Bool) → Bounds block → turn_cell block ≡ 0 → x ≡ edge_cell block i → goal ≡ ask_goal ask
    → cut ≡ cut_here (table_board block goal) (table_order block) n.left (has_scope n.free) n.scope n.state (plain_end (end_of (label_of x + 1)))
    → end_cut block ask n (by (hop_of (edge_cell block i)).step) ≡ cut
label_cut block ask n i x goal cut bounds none e g says = step_cut_lem block ask n i x goal cut e g (by_cases cut refl)
  where
    by_cases : (b : Bool) → cut ≡ b → cut ≡ cut_here (table_board block goal) (table_order block) n.left (has_scope n.free) n.scope n.state (by (hop_of x).step)
    by_cases true c = c ∙ sym (step_by_label block goal n x (sym says ∙ c))
    by_cases false c = c ∙ sym (step_highest block goal n x bounds (omega (arith, none)) (sym says ∙ c))

-- what is learnt by asking about a step's label, where all turns are 0
pub label_told : (block ask : List ℕ) (n : Node) (x : ℕ) (learnt : Learnt) → Bounds block → turn_cell block ≡ 0 → Known block (ask_goal ask) n learnt.known
    → learnt.cut ≡ cut_here (table_board block (ask_goal ask)) (table_order block) n.left (has_scope n.free) n.scope n.state (plain_end (end_of (label_of x + 1)))
    → Told block ask n x learnt
label_told block ask n x learnt bounds none known says = record { known = known; cut = sym (by_cases learnt.cut refl) }
  where
    by_cases : (b : Bool) → learnt.cut ≡ b → learnt.cut ≡ end_cut block ask n (by (hop_of x).step)
    by_cases true c = c ∙ sym (step_by_label block (ask_goal ask) n x (sym says ∙ c))
    by_cases false c = c ∙ sym (step_highest block (ask_goal ask) n x bounds (omega (arith, none)) (sym says ∙ c))
