-- Where no step is cut: what is sought is nowhere, or nothing is preferred to a step. Assumes
-- nothing.
use Prim.Native.Nat.{ℕ, ◌+◌, ◌%◌, ◌≤◌, ◌<◌}
use mathlib.Core.Path.{◌≡◌, refl, sym, ap, ◌∙◌}
use mathlib.Core.Logic.{⊎_elim}
use mathlib.Core.Bool.{Bool, true, false, ◌&&◌, and-false, false≢true}
use mathlib.Core.Option.{Option, some, none}
use mathlib.Core.List.{List}
use native.Mathlib.Omega.{arith}
use borrow.Author.Tests.{ltb-true, ltb-false, eqb-true, eqb-false}
use lib.Dec.{eqb, ltb}
use lib.ListN.{get_or, take, drop, length, length-drop}
use lib.Seq.{length-take-le}
use Rattle.std.specs.List.{AllWithin}
use Rattle.std.proofs.lemmas.List.Edits.{get_or-between}
use Rattle.scope_graph.specs.Language.{◌∈◌, stop, by}
use Rattle.scope_graph.specs.Path.{HopOf}
use Rattle.scope_graph.specs.Turns.{Turned, later, later_step}
use Rattle.scope_graph.proofs.Lists.{Two}
use Rattle.block.specs.Sets.{has_bit}
use Rattle.block.specs.Layout.{BETTER, IsBlock}
use Rattle.block.specs.Block.{Bounds, turn_cell, turn_of, edge_cell, hop_of, pair_flag, block_hops, accept_set}
use Rattle.block.proofs.SetLaws.{bits_none, places_none}
use Rattle.block.proofs.BlockLaws.{pair_no_second, hops_scope}
use Rattle.block.proofs.EdgeLaws.{edge_of}
use Rattle.search.specs.Board.{Board, without, leads_to, exists_from, hop_leads, cut_here}
use Rattle.search.specs.Live.{Closed, any_way}
use Rattle.search.specs.Tables.{table_order, table_board}
use Rattle.search.proofs.Closed.{closed_exists}
use Rattle.search.proofs.CutEnds.{better_is}
use Rattle.search.proofs.RulesLists.{any_of_no}
use Rattle.beginnings.specs.Steps.{Uncut}

-- no end is preferred to one whose cell is empty
pub unordered_at : (block : List ℕ) (c : ℕ) → c < 9 → get_or block (BETTER + c) 0 % 512 ≡ 0 → (a : ℕ) → pair_flag block a c ≡ false
unordered_at block c h e a = sym (better_is block c h a) ∙ ap (λ (x : ℕ). has_bit x a) e ∙ bits_none a

abbrev pub UnorderedTo : List ℕ → ℕ → Type 0
UnorderedTo block k = (a c : ℕ) → c < k → pair_flag block a c ≡ false

pub unordered_more : (block : List ℕ) (k : ℕ) → k < 9 → get_or block (BETTER + k) 0 % 512 ≡ 0 → UnorderedTo block k → UnorderedTo block (k + 1)
unordered_more block k h e so a c m =
    ⊎_elim (λ y. let is : c ≡ k = eqb-true c k y in rw is (unordered_at block k h e a))
    (λ y. let other : c ≡ k → ⊥ = eqb-false c k y in so a c (omega arith)) (Two (eqb c k))

pub unordered_all : (block : List ℕ) (k : ℕ) → 9 ≤ k → UnorderedTo block k → (a c : ℕ) → pair_flag block a c ≡ false
unordered_all block k h so a c =
    ⊎_elim (λ y. let m : c < 9 = ltb-true c 9 y in so a c (omega arith)) (λ y. pair_no_second block a c (ltb-false c 9 y)) (Two (ltb c 9))

-- as code goes through the cells of the order
pub unordered_cells : (block : List ℕ) → IsBlock block → AllWithin (λ x. x % 512 ≡ 0) (take 9 (drop BETTER block)) 0 (length (take 9 (drop BETTER block)))
    → (a c : ℕ) → pair_flag block a c ≡ false
unordered_cells block size h =
    let n : length (take 9 (drop BETTER block)) ≡ 9 = length-take-le 9 (drop BETTER block) (omega (arith, length-drop BETTER block)) in
    unordered_all block 9 (omega arith) (λ a c m. unordered_at block c m (sym (ap (λ x. x % 512) (get_or-between block BETTER (BETTER + 9) c 0 (omega arith))) ∙ h c 0 (omega arith) (omega arith)) a)

-- what is sought is nowhere
module _ (block : List ℕ) where
  abbrev b : Board Turned
  b = table_board block 0

  nowhere : Closed b b.here (any_way b) (λ t. true) (λ s q. false)
  unfolding table_board
  nowhere = record {
    asked = λ s q e. absurd (false≢true (sym (places_none (accept_set block) s q) ∙ e));
    back = λ s q h r own m f e v y. y;
  }

  leads_nowhere : (fuel : ℕ) (free : ℕ → Bool) (q : ℕ) (h : HopOf Turned) → hop_leads b fuel free q h ≡ false
  unfolding hop_leads leads_to
  leads_nowhere fuel free q h = at (free h.to) (b.next q h.step)
    where
      at : (f : Bool) (o : Option ℕ)
          → ◌≡◌ {A = Bool} (elim f as (λ _. Bool) [ false ↦ false | true ↦ elim o as (λ _. Bool) [ none ↦ false | some r ↦ exists_from b fuel (without free h.to) h.to r ] ]) false
      at false o = refl
      at true none = refl
      at true (some r) = closed_exists b (λ t. true) (λ s q. false) nowhere fuel (without free h.to) h.to r (λ t y. refl) refl refl

  pub uncut_nowhere : Uncut block 0
  unfolding cut_here table_board
  uncut_nowhere fuel free s q h m =
      rw (places_none (accept_set block) s q)
      (any_of_no _ (block_hops block s) (λ k y. ap (λ (x : Bool). table_order block (by k.step) (by h.step) && x) (leads_nowhere fuel free q k) ∙ and-false (table_order block (by k.step) (by h.step))))

-- nothing is preferred to a step
module _ (block : List ℕ) (goal : ℕ) (bounds : Bounds block) (unturned : turn_cell block ≡ 0) (unordered : (a c : ℕ) → pair_flag block a c ≡ false) where
  turn_none : (s : ℕ) (k : HopOf Turned) → k ∈ block_hops block s → k.step.turn ≡ some 0
  unfolding hop_of
  turn_none s k m =
      let e = edge_of block s k m in
      let low : turn_of (edge_cell block e.number) ≡ 0 = omega (arith, bounds.turns s e.number (hops_scope block s k m) e.before) in
      ap (λ (y : HopOf Turned). y.step.turn) e.is ∙ ap some low

  not_preferred : (s : ℕ) (k h : HopOf Turned) → k ∈ block_hops block s → h ∈ block_hops block s → table_order block (by k.step) (by h.step) ≡ false
  unfolding table_order later_step later
  not_preferred s k h m n =
      rw (unordered _ _, turn_none s k m, turn_none s h n) (and-false (eqb k.step.label h.step.label))

  stop_not : (h : HopOf Turned) → table_order block stop (by h.step) ≡ false
  unfolding table_order later_step
  stop_not h = rw (unordered _ _)

  pub uncut_unordered : Uncut block goal
  unfolding cut_here table_board
  uncut_unordered fuel free s q h m =
      rw (stop_not h, and-false ((table_board block goal).here s q))
      (any_of_no _ (block_hops block s) (λ k y. rw (not_preferred s k h y m)))
