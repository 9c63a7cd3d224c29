-- Which ends are cut, from which ends lead on; what is known of a node's ends. Assumes nothing.
use mathlib.Core.Path.{◌≡◌, refl, sym, ap, ◌∙◌, subst}
use mathlib.Core.Logic.{◌⊎◌, inl, inr, ⊎_elim}
use mathlib.Core.Bool.{Bool, true, false, not, ◌&&◌, and-false, or-false, false≢true}
use mathlib.Core.Option.{Option, some, none}
use mathlib.Core.List.{List}
use Prim.Native.Nat.{ℕ, zero, suc, ◌+◌, ◌-◌, ◌/◌, ◌%◌, ◌^◌, ◌≤◌, ◌<◌}
use native.Mathlib.Omega.{arith}
use native.Mathlib.Nat.{mod-lt, lt_of_lt_of_le}
use native.Mathlib.Numerals.{add-one}
use borrow.Author.Tests.{eq-eqb, eqb-true, ltb-true, ltb-false, not-false}
use lib.Bits.{bit_and, bit_or, bit_xor}
use lib.Dec.{eqb, ltb}
use lib.ListN.{get_or}
use lib.Pow.{shr-shr, shr_lt, field, mod-mod-pow, pow_mono}
use Rattle.scope_graph.specs.Language.{End, stop, by}
use Rattle.scope_graph.specs.Order.{end_of}
use Rattle.scope_graph.specs.Path.{HopOf}
use Rattle.scope_graph.specs.Turns.{Turned, later, label_end, later_step}
use Rattle.scope_graph.proofs.Lists.{Two, and_left, and_right, and_both, or_cases, or_left, or_right, not_true, true_false, any_of_intro, any_of_elim}
use Rattle.block.specs.Layout.{BETTER}
use Rattle.block.specs.Sets.{has_bit, has_scope, has_label, places_of}
use Rattle.block.specs.Block.{accept_set, pair_flag, block_hops}
use Rattle.block.proofs.SetLaws.{bits_or, bits_less, bits_none, bits_common, scope_in, labels_single}
use Rattle.block.proofs.BlockLaws.{pair_in, pair_no_first, pair_no_second, pair_first}
use Rattle.search.specs.declared.Node.{Node}
use Rattle.search.specs.Board.{Board, hop_leads, cut_here}
use Rattle.search.specs.Tables.{plain_end, table_order, end_number, table_board}
use Rattle.search.specs.Conditions.{behind_end, Known}
use Rattle.search.specs.Steps.{leads_by}
use Rattle.search.proofs.RulesLists.{any_of_same}

-- an end's number and back
end_number_lem : (c : ℕ) → end_number (end_of c) ≡ c
unfolding end_number end_of
end_number_lem zero = refl
end_number_lem (suc n) = refl

pub end_label : (l : ℕ) → end_of (l + 1) ≡ by l
unfolding end_of
end_label l = rw (add-one l)

-- an end by its label alone: its label, and no step is later than it
pub plain_label : (e : End ℕ) → label_end (plain_end e) ≡ e
unfolding plain_end
plain_label stop = refl
plain_label (by l) = refl

later_none : (o : Option ℕ) → later o none ≡ false
unfolding later
later_none none = refl
later_none (some n) = refl

pub later_plain : (a : End Turned) (e : End ℕ) → later_step a (plain_end e) ≡ false
unfolding later_step plain_end
later_plain stop e = refl
later_plain (by t) stop = refl
later_plain (by t) (by l) = rw (later_none t.turn) (and-false (eqb t.label l))

-- so ends compare to it as the order pairs have it
pub order_plain : (block : List ℕ) (a : End Turned) (c : ℕ) → table_order block a (plain_end (end_of c)) ≡ pair_flag block (end_number (label_end a)) c
unfolding table_order
order_plain block a c =
    rw (later_plain a (end_of c), plain_label (end_of c), end_number_lem c) (or-false (pair_flag block (end_number (label_end a)) c))

-- what lies at an end: here, or behind the hops of its label
module _ (block : List ℕ) (goal : ℕ) (n : Node) (a : ℕ) where
  -- does what is sought lie at the node's end with number a?
  abbrev pub behind : Bool
  behind = behind_end (table_board block goal) n.left (has_scope n.free) n.scope n.state a

  pub behind_stop : a ≡ 0 → behind ≡ places_of goal (accept_set block) n.scope n.state
  unfolding behind_end table_board
  behind_stop e = rw e

  -- by the set of its one label
  pub behind_by : (labels : ℕ) → (a ≡ 0 → ⊥) → a < 9 → ((u : ℕ) → has_scope labels u ≡ eqb u (a - 1))
      → behind ≡ leads_by (table_board block goal) n labels (block_hops block n.scope)
  unfolding behind_end table_board
  behind_by labels h below one = at a h below one
    where
      at : (k : ℕ) → (k ≡ 0 → ⊥) → k < 9 → ((u : ℕ) → has_scope labels u ≡ eqb u (k - 1))
          → behind_end (table_board block goal) n.left (has_scope n.free) n.scope n.state k
          ≡ leads_by (table_board block goal) n labels (block_hops block n.scope)
      at zero k m is = absurd (k refl)
      at (suc l) k m is =
          let same : suc l - 1 ≡ l = omega arith in
          let own : (u : ℕ) → has_label labels u ≡ eqb u l = labels_single labels l (omega arith) (λ u. rw same at (is u)) in
          any_of_same _ _ (block_hops block n.scope)
          (λ y t. ap (λ (b : Bool). b && hop_leads (table_board block goal) n.left (has_scope n.free) n.state y) (sym (own y.step.label)))

module _ (b : Board Turned) (block : List ℕ) (fuel : ℕ) (free : ℕ → Bool) (s q c : ℕ) where
  abbrev by_hop : HopOf Turned → Bool
  by_hop h = table_order block (by h.step) (plain_end (end_of c)) && hop_leads b fuel free q h

  abbrev by_stop : Bool
  by_stop = b.here s q && table_order block stop (plain_end (end_of c))

  -- an end that leads on and is preferred cuts
  pub cut_yes : (a : ℕ) → a < 9 → pair_flag block a c ≡ true → behind_end b fuel free s q a ≡ true
      → cut_here b (table_order block) fuel free s q (plain_end (end_of c)) ≡ true
  unfolding cut_here behind_end end_number
  cut_yes zero h k m = or_left by_stop _ (and_both (b.here s q) _ m (order_plain block stop c ∙ k))
  cut_yes (suc l) h k m =
      let found = any_of_elim (λ y. eqb y.step.label l && hop_leads b fuel free q y) (b.hops s) m in
      let hop = found.0 in
      let is : hop.step.label ≡ l = eqb-true hop.step.label l (and_left (eqb hop.step.label l) _ found.2) in
      let pair : pair_flag block (suc hop.step.label) c ≡ true = rw is k in
      let first : table_order block (by hop.step) (plain_end (end_of c)) ≡ true = order_plain block (by hop.step) c ∙ pair in
      or_right by_stop _ (any_of_intro by_hop {a = hop} {l = b.hops s} found.1
      (and_both (table_order block (by hop.step) (plain_end (end_of c))) (hop_leads b fuel free q hop) first
      (and_right (eqb hop.step.label l) (hop_leads b fuel free q hop) found.2)))

  -- and nothing else does
  cut_some : cut_here b (table_order block) fuel free s q (plain_end (end_of c)) ≡ true
      → (a : ℕ) × (a < 9) × (pair_flag block a c ≡ true) × (behind_end b fuel free s q a ≡ true)
  unfolding cut_here behind_end end_number
  cut_some e =
      ⊎_elim
      (λ y. (0, omega arith, sym (order_plain block stop c) ∙ and_right (b.here s q) (table_order block stop (plain_end (end_of c))) y, and_left (b.here s q) (table_order block stop (plain_end (end_of c))) y))
      (λ y.
      let found = any_of_elim by_hop (b.hops s) y in
      let hop = found.0 in
      let first : pair_flag block (suc hop.step.label) c ≡ true =
      sym (order_plain block (by hop.step) c) ∙ and_left (table_order block (by hop.step) (plain_end (end_of c))) (hop_leads b fuel free q hop) found.2 in
      let below : suc hop.step.label < 9 = pair_first block (suc hop.step.label) c first in (
        suc hop.step.label,
        below,
        first,
        any_of_intro (λ y. eqb y.step.label hop.step.label && hop_leads b fuel free q y) {a = hop} {l = b.hops s} found.1
            (and_both (eqb hop.step.label hop.step.label) (hop_leads b fuel free q hop) (eq-eqb hop.step.label hop.step.label refl)
            (and_right (table_order block (by hop.step) (plain_end (end_of c))) (hop_leads b fuel free q hop) found.2)),
      ))
      (or_cases by_stop _ e)

  -- if no end of the nine both leads on and is preferred, none is
  pub cut_none : ((a : ℕ) → a < 9 → pair_flag block a c ≡ true → behind_end b fuel free s q a ≡ false)
      → cut_here b (table_order block) fuel free s q (plain_end (end_of c)) ≡ false
  cut_none h =
      not_true (cut_here b (table_order block) fuel free s q (plain_end (end_of c))) (λ y.
      let found = cut_some y in
      true_false found.3 (h found.0 found.1 found.2))

  -- to an end past the ninth none is preferred
  pub cut_past : 9 ≤ c → cut_here b (table_order block) fuel free s q (plain_end (end_of c)) ≡ false
  cut_past h = cut_none (λ a m k. absurd (false≢true (sym (pair_no_second block a c h) ∙ k)))

-- the ends preferred to one, as a set: nine bits of a cell
abbrev pub Better : List ℕ → ℕ → ℕ → Type 0
Better block c r = (a : ℕ) → has_bit r a ≡ pair_flag block a c

bits_low : (x a j : ℕ) → 9 ≡ j + 1 + a → has_bit (x % 512) a ≡ has_bit x a
unfolding has_bit
bits_low x a j e =
    let whole : x % 512 / 2 ^ a ≡ x / 2 ^ a % 2 ^ (j + 1) =
    subst (λ (k : ℕ). x % 2 ^ k / 2 ^ a ≡ x / 2 ^ a % 2 ^ (j + 1)) (sym e) (field x (j + 1) a) in
    rw (whole, mod-mod-pow (x / 2 ^ a) j 1)

bits_high : (x a : ℕ) → 9 ≤ a → has_bit (x % 512) a ≡ false
unfolding has_bit
bits_high x a h =
    let small : x % 512 < 2 ^ a = lt_of_lt_of_le (mod-lt x (omega arith)) (pow_mono {i = 9} h) in
    let same : 0 + a ≡ a = omega arith in
    let none : x % 512 / 2 ^ a < 1 = shr_lt 0 a (rw same small) in
    let zero_is : x % 512 / 2 ^ a ≡ 0 = omega arith in
    rw zero_is

pub better_is : (block : List ℕ) (c : ℕ) → c < 9 → Better block c (get_or block (BETTER + c) 0 % 512)
better_is block c h a = at (Two (ltb a 9))
  where
    at : (ltb a 9 ≡ true) ⊎ (ltb a 9 ≡ false) → has_bit (get_or block (BETTER + c) 0 % 512) a ≡ pair_flag block a c
    at (inl e) =
        let below : a < 9 = ltb-true a 9 e in
        bits_low (get_or block (BETTER + c) 0) a (8 - a) (omega arith) ∙ sym (pair_in block a c below h)
    at (inr e) =
        let past : 9 ≤ a = ltb-false a 9 e in
        bits_high (get_or block (BETTER + c) 0) a past ∙ sym (pair_no_first block a c past)

-- what is known of a node's ends
module _ (block : List ℕ) (goal : ℕ) (n : Node) where
  -- a set with no bits says nothing, a union what both say
  pub known_none : Known block goal n 0
  known_none = record {
    leads = λ a h e. absurd (false≢true (sym (bits_none a) ∙ e));
    leads_not = λ a h e. absurd (false≢true (sym (bits_none (16 + a)) ∙ e));
  }

  known_or : (x y : ℕ) → Known block goal n x → Known block goal n y → Known block goal n (bit_or x y)
  known_or x y k m = record {
    leads = λ a h e. ⊎_elim (k.leads a h) (m.leads a h) (or_cases (has_bit x a) (has_bit y a) (sym (bits_or x y a) ∙ e));
    leads_not = λ a h e. ⊎_elim (k.leads_not a h) (m.leads_not a h) (or_cases (has_bit x (16 + a)) (has_bit y (16 + a)) (sym (bits_or x y (16 + a)) ∙ e));
  }

  -- one end more, by the set of one number
  module _ (out a r i : ℕ) (known : Known block goal n out) (below : a < 9) (one : (u : ℕ) → has_scope r u ≡ eqb u i) where
    is_one_lem : (u : ℕ) → u < 64 → has_bit r u ≡ true → u ≡ i
    is_one_lem u h e = eqb-true u i (sym (one u) ∙ scope_in r u h ∙ e)

    pub known_yes : i ≡ a → behind block goal n a ≡ true → Known block goal n (bit_or out r)
    known_yes j e = known_or out r known (record {
      leads = λ k h m. let same : k ≡ a = is_one_lem k (omega arith) m ∙ j in rw same e;
      leads_not = λ k h m. let same : 16 + k ≡ a = is_one_lem (16 + k) (omega arith) m ∙ j in absurd (omega arith);
    })

    pub known_no : i ≡ 16 + a → behind block goal n a ≡ false → Known block goal n (bit_or out r)
    known_no j e = known_or out r known (record {
      leads = λ k h m. let same : k ≡ 16 + a = is_one_lem k (omega arith) m ∙ j in absurd (omega arith);
      leads_not = λ k h m. let both : 16 + k ≡ 16 + a = is_one_lem (16 + k) (omega arith) m ∙ j in let same : k ≡ a = omega arith in rw same e;
    })

  -- what is known, and the ends preferred to the one with number c
  module _ (known c first : ℕ) (is : Known block goal n known) (better : Better block c first) where
    abbrev pub cut : Bool
    cut = cut_here (table_board block goal) (table_order block) n.left (has_scope n.free) n.scope n.state (plain_end (end_of c))

    -- if one of them is known to lead on, the end is cut
    pub cut_known : known < 2 ^ 64 → first < 2 ^ 64 → (bit_and known first ≡ 0 → ⊥) → cut ≡ true
    cut_known h k common =
        let e = bits_common 64 known first h k common in
        let first_is : pair_flag block e.0 c ≡ true = sym (better e.0) ∙ e.3 in
        let below : e.0 < 9 = pair_first block e.0 c first_is in
        cut_yes (table_board block goal) block n.left (has_scope n.free) n.scope n.state c e.0 below first_is (is.leads e.0 below e.2)

    -- those that are left to ask about
    abbrev pub left_over : ℕ
    left_over = bit_xor first (bit_and first (known / 2 ^ 16))

    shifted : (a : ℕ) → has_bit (known / 2 ^ 16) a ≡ has_bit known (16 + a)
    unfolding has_bit
    shifted a = rw (shr-shr known 16 a)

    pub left_preferred : (a : ℕ) → has_bit left_over a ≡ true → pair_flag block a c ≡ true
    left_preferred a h = sym (better a) ∙ and_left (has_bit first a) _ (sym (bits_less first (known / 2 ^ 16) a) ∙ h)

    pub left_not : (a : ℕ) → a < 9 → has_bit left_over a ≡ false → pair_flag block a c ≡ true → behind block goal n a ≡ false
    left_not a below h k =
        let has : has_bit first a ≡ true = better a ∙ k in
        let gone : (true && not (has_bit known (16 + a))) ≡ false = rw (has, shifted a) at (sym (bits_less first (known / 2 ^ 16) a) ∙ h) in
        is.leads_not a below (not-false (has_bit known (16 + a)) gone)

    pub left_none : left_over ≡ 0 → cut ≡ false
    left_none e =
        cut_none (table_board block goal) block n.left (has_scope n.free) n.scope n.state c
        (λ a below k. left_not a below (rw e (bits_none a)) k)
