-- Steps of the code that holds the steps of one row against those of another, over plain lists.
-- Assumes nothing.
use mathlib.Core.Path.{◌≡◌, refl, sym, ap, ◌∙◌}
use mathlib.Core.Bool.{Bool, true, false, ◌&&◌, ◌||◌, or-false}
use mathlib.Core.List.{List, [], ◌∷◌}
use Prim.Native.Nat.{ℕ, suc, ◌+◌, ◌≤◌, ◌<◌}
use native.Mathlib.Omega.{arith}
use native.Mathlib.Numerals.{add-one}
use lib.ListN.{length, get_or, drop, drop_of_length-le}
use lib.Seq.{drop-cons}
use Rattle.scope_graph.specs.Language.{stop, by}
use Rattle.scope_graph.specs.Path.{HopOf}
use Rattle.scope_graph.specs.Turns.{Turned, turn_by}
use Rattle.scope_graph.specs.Order.{turn_meaning, meaning}
use Rattle.std.specs.declared.option.Option.{Option}
use Rattle.std.specs.declared.option.Option.TheVariants.{Some, None}
use Rattle.scope_graph.specs.declared.End.{End as CodeEnd}
use Rattle.scope_graph.specs.declared.End.TheVariants.{Stop, Label}
use Rattle.block.specs.Block.{first_edge, edge_cell, turn_of, block_hops}
use Rattle.block.specs.Block.{hop_of as edge_hop}
use Rattle.block.proofs.BlockLaws.{block_hops_past}
use Rattle.block.proofs.EdgeLaws.{EdgeTo}
use Rattle.search.specs.Tables.{table_order}
use Rattle.path_row.specs.declared.form.Step.{Step}
use Rattle.path_row.specs.Form.{no_step}
use Rattle.path_row.specs.Numbering.{label_number, hop_of}
use Rattle.comparison.specs.Letters.{block_letters}
use Rattle.comparison.specs.Steps.{end_first, step_at, same_step, steps_preferred}

-- a step's turn, by the edge that was looked up
module _ (block : List ℕ) (s label to : ℕ) where
  pub turn_past : 64 ≤ s → turn_meaning None ≡ turn_by (block_hops block s) label to
  unfolding turn_meaning turn_by
  turn_past h = rw (block_hops_past block s h)

  module _ (p end : ℕ) (e : EdgeTo block s label to p) (is : end ≡ first_edge block (suc s)) where
    pub turn_none : end ≤ p → turn_meaning None ≡ turn_by (block_hops block s) label to
    unfolding turn_meaning
    turn_none h = sym (e.none_is (omega arith))

    pub turn_edge : p < end → (x n : ℕ) → x ≡ edge_cell block p → n ≡ turn_of x → turn_meaning (Some n) ≡ turn_by (block_hops block s) label to
    unfolding turn_meaning edge_hop
    turn_edge h x n f g = rw (g, f) (ap (λ (k : HopOf Turned). k.step.turn) (e.is (omega arith)))

opened : (ts : List Step) (i : ℕ) → i < length ts → drop i ts ≡ get_or ts i no_step ∷ drop (i + 1) ts
opened ts i h = rw (add-one) (drop-cons ts i no_step h)

-- how steps go on from step i
module _ (block : List ℕ) (s : ℕ) (ts : List Step) (i : ℕ) where
  pub end_stop : length ts ≤ i → meaning Stop ≡ end_first block s (drop i ts)
  unfolding end_first meaning
  end_stop h = rw (drop_of_length-le ts {i = i} h)

  pub end_label : i < length ts → (x : Step) → x ≡ get_or ts i no_step → (n : ℕ) (u : Option ℕ)
      → n ≡ label_number (block_letters block) x.label → turn_meaning u ≡ turn_by (block_hops block s) n x.scope → meaning (Label n u) ≡ end_first block s (drop i ts)
  unfolding end_first meaning hop_of
  end_label h x e n u g k = rw (opened ts i h, ← e, k, ← g)

module _ (block : List ℕ) (s : ℕ) where
  -- what decides where the ends do not
  abbrev further : List Step → List Step → Bool
  further [] us = false
  further (t ∷ ts) [] = false
  further (t ∷ ts) (u ∷ us) = same_step block t u && steps_preferred block t.scope ts us

  further_none : (ts : List Step) → further ts [] ≡ false
  further_none [] = refl
  further_none (t ∷ ts) = refl

  ends_first : (ts us : List Step) → steps_preferred block s ts us ≡ (table_order block (end_first block s ts) (end_first block s us) || further ts us)
  unfolding steps_preferred end_first
  ends_first [] [] = sym (or-false (table_order block stop stop))
  ends_first [] (u ∷ us) = sym (or-false (table_order block stop (by (step_at block s u))))
  ends_first (t ∷ ts) [] = sym (or-false (table_order block (by (step_at block s t)) stop))
  ends_first (t ∷ ts) (u ∷ us) = refl

  module _ (a b : List Step) (i : ℕ) where
    abbrev left : List Step
    left = drop i a

    abbrev right : List Step
    right = drop i b

    abbrev here : Bool
    here = steps_preferred block s left right

    -- where the steps of a have ended the two ends decide
    pub preferred_ends : length a ≤ i → (eb : CodeEnd) → meaning eb ≡ end_first block s right → (u : Bool) → u ≡ table_order block (meaning Stop) (meaning eb) → here ≡ u
    unfolding meaning end_first
    preferred_ends h eb f u m =
        ends_first left right ∙ rw (drop_of_length-le a {i = i} h, ← f, ← m) (or-false u)

    module _ (ea eb : CodeEnd) (fa : meaning ea ≡ end_first block s left) (fb : meaning eb ≡ end_first block s right) (u : Bool) (m : u ≡ table_order block (meaning ea) (meaning eb)) where
      split : here ≡ (u || further left right)
      split = ends_first left right ∙ rw (← fa, ← fb, ← m)

      pub preferred_here : u ≡ true → here ≡ true
      preferred_here f = split ∙ rw f

      module _ (f : u ≡ false) where
        onward : here ≡ further left right
        onward = split ∙ rw f

        pub preferred_stops : length b ≤ i → here ≡ false
        preferred_stops h = onward ∙ rw (drop_of_length-le b {i = i} h) (further_none left)

        module _ (h : i < length a) (k : i < length b) (v : Bool) (e : v ≡ same_step block (get_or a i no_step) (get_or b i no_step)) where
          abbrev behind : Bool
          behind = steps_preferred block (get_or a i no_step).scope (drop (i + 1) a) (drop (i + 1) b)

          both_on : here ≡ (v && behind)
          both_on = onward ∙ rw (opened a i h, opened b i k, ← e)

          pub preferred_apart : v ≡ false → here ≡ false
          preferred_apart z = both_on ∙ rw z

          pub preferred_on : v ≡ true → here ≡ behind
          preferred_on z = both_on ∙ rw z
