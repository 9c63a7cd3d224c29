-- Steps of the code that takes a path row apart, over plain lists. Assumes nothing.
use mathlib.Core.Path.{◌≡◌, refl, sym, ap, ◌∙◌}
use mathlib.Core.Bool.{Bool, true, false, not}
use mathlib.Core.List.{List, [], ◌∷◌}
use Prim.Native.Nat.{ℕ, zero, suc, ◌+◌, ◌-◌, ◌≤◌, ◌<◌}
use native.Mathlib.Numerals.{add-one}
use native.Mathlib.Nat.{zero-add}
use native.Mathlib.Omega.{arith}
use borrow.Author.Tests.{ne_eqb, eq-eqb, lt-ltb, le-ltb}
use lib.ListN.{length, get_or, drop, drop_of_length-le}
use lib.Seq.{drop-cons, drop-drop}
use Rattle.std.specs.declared.option.Option.{Option}
use Rattle.std.specs.declared.option.Option.TheVariants.{Some, None}
use Rattle.std.proofs.lemmas.Option.{some_pair_parts, same_Some}
use Rattle.text_field.specs.Bytes.{is_capital}
use Rattle.text_field.specs.Number.{number_placed, number_here, number_meaning}
use Rattle.text_field.specs.Outcome.{refused, done, and_then, refuse_if}
use Rattle.graph_rows.specs.Way.{starts_with, is_empty}
use Rattle.path_row.specs.declared.form.Step.{Step}
use Rattle.path_row.specs.Form.{most_mark, most_scope, most_steps, at_most, number_up_to, step_by, step_here, steps_of, after_steps, steps_width, step_placed, step_meaning, step_from, front, head_meaning, start_by, mark_by, head_here, row_by, row_here, row_meaning, row_in_large}
use Rattle.path_row.proofs.FormLaws.{most_in, most_past, up_found, step_on, step_off, head_on, head_off, steps_on, steps_off, after_on, after_off, width_on, width_off}

-- a number read at a place is held to its limit
module _ (at most : ℕ) where
  pub up_none : (r a : Option (ℕ × ℕ)) → a ≡ number_placed at r → a ≡ None → None ≡ number_placed at (at_most most r)
  unfolding number_placed at_most
  up_none None a e f = refl
  up_none (Some (v, w)) a e f = absurd (let z : ◌≡◌ {A = ℕ} 0 1 = cc in omega arith)

  pub up_past : (r a : Option (ℕ × ℕ)) (v next : ℕ) → a ≡ number_placed at r → a ≡ Some (v, next) → most < v → None ≡ number_placed at (at_most most r)
  unfolding number_placed
  up_past None a v next e f h = absurd (let z : ◌≡◌ {A = ℕ} 0 1 = cc in omega arith)
  up_past (Some (u, w)) a v next e f h = let p = (some_pair_parts u v (at + w) next (sym e ∙ f)).0 in rw (most_past most u w (omega arith))

  pub up_in : (r a : Option (ℕ × ℕ)) (v next : ℕ) → a ≡ number_placed at r → a ≡ Some (v, next) → v ≤ most → Some (v, next) ≡ number_placed at (at_most most r)
  unfolding number_placed
  up_in None a v next e f h = absurd (let z : ◌≡◌ {A = ℕ} 0 1 = cc in omega arith)
  up_in (Some (u, w)) a v next e f h = let p = (some_pair_parts u v (at + w) next (sym e ∙ f)).0 in rw (most_in most u w (omega arith)) (sym f ∙ e)

placed_none : (p at x : ℕ) (r : Option (ℕ × ℕ)) → number_placed p r ≡ None → None ≡ step_placed at (step_by x r)
unfolding number_placed step_placed step_by
placed_none p at x None e = refl
placed_none p at x (Some (v, w)) e = absurd (let z : ◌≡◌ {A = ℕ} 0 1 = cc in omega arith)

placed_some : (at x v next : ℕ) (r : Option (ℕ × ℕ)) → number_placed (at + 1) r ≡ Some (v, next) → Some (record { label = x; scope = v }, next) ≡ step_placed at (step_by x r)
unfolding number_placed step_placed step_by
placed_some at x v next None e = absurd (let z : ◌≡◌ {A = ℕ} 0 1 = cc in omega arith)
placed_some at x v next (Some (u, w)) e =
    let p = some_pair_parts u v (at + 1 + w) next e
    in let k : next ≡ at + suc w = omega (arith, p.1)
    in rw (p.0, k)

placed_value : (at u w v next : ℕ) → number_placed at (Some (u, w)) ≡ Some (v, next) → u ≡ v
unfolding number_placed
placed_value at u w v next e = (some_pair_parts u v (at + w) next e).0

no_number : (at v next : ℕ) → number_placed at None ≡ Some (v, next) → ⊥
unfolding number_placed
no_number at v next e = let z : ◌≡◌ {A = ℕ} 0 1 = cc in omega arith

placed_small : (at most : ℕ) (r : Option (ℕ × ℕ)) (v next : ℕ) → number_placed at (at_most most r) ≡ Some (v, next) → v ≤ most
placed_small at most r v next e = by (at_most most r) refl e
  where
    by : (t : Option (ℕ × ℕ)) → at_most most r ≡ t → number_placed at t ≡ Some (v, next) → v ≤ most
    by None f g = absurd (no_number at v next g)
    by (Some (u, w)) f g = let q = up_found most r u w f in omega (arith, q.small, placed_value at u w v next g)

-- the step at a place
module _ (s : List ℕ) (at : ℕ) where
  pub step_end : length s ≤ at → None ≡ step_placed at (step_here (drop at s))
  unfolding step_placed step_here
  step_end h = rw (drop_of_length-le s {i = at} h)

  here : at < length s → drop at s ≡ get_or s at 0 ∷ drop (at + 1) s
  here h = rw (add-one) (drop-cons s at 0 h)

  pub step_other : (t : Bool) → at < length s → t ≡ is_capital (get_or s at 0) → t ≡ false → None ≡ step_placed at (step_here (drop at s))
  unfolding step_placed
  step_other t h e f = rw (here h, step_off (get_or s at 0) (drop (at + 1) s) (sym e ∙ f))

  module _ (t : Bool) (a : Option (ℕ × ℕ)) (h : at < length s) (e : t ≡ is_capital (get_or s at 0)) (f : t ≡ true) (g : a ≡ number_placed (at + 1) (number_up_to most_scope (drop (at + 1) s))) where
    opened : step_here (drop at s) ≡ step_by (get_or s at 0) (number_up_to most_scope (drop (at + 1) s))
    opened = ap step_here (here h) ∙ step_on (get_or s at 0) (drop (at + 1) s) (sym e ∙ f)

    pub step_bare : a ≡ None → None ≡ step_placed at (step_here (drop at s))
    step_bare n = rw opened (placed_none (at + 1) at (get_or s at 0) (number_up_to most_scope (drop (at + 1) s)) (sym g ∙ n))

    pub step_taken : (v next : ℕ) → a ≡ Some (v, next) → Some (record { label = get_or s at 0; scope = v }, next) ≡ step_placed at (step_here (drop at s))
    step_taken v next n = rw opened (placed_some at (get_or s at 0) v next (number_up_to most_scope (drop (at + 1) s)) (sym g ∙ n))

    pub scope_small : (v next : ℕ) → a ≡ Some (v, next) → v ≤ 63
    unfolding number_up_to
    scope_small v next n = placed_small (at + 1) most_scope (number_here (drop (at + 1) s)) v next (sym g ∙ n)

-- the front of a row
placed_front : (r : Option (ℕ × ℕ)) → number_placed 0 r ≡ r
unfolding number_placed
placed_front None = refl
placed_front (Some (v, w)) = ap (λ (k : ℕ). Some (v, k)) (zero-add w)

no_space : (s : List ℕ) (i : ℕ) → length s ≤ i → starts_with 32 (drop i s) ≡ false
unfolding starts_with
no_space s i h = rw (drop_of_length-le s {i = i} h)

other_byte : (s : List ℕ) (i : ℕ) → i < length s → (get_or s i 0 ≡ 32 → ⊥) → starts_with 32 (drop i s) ≡ false
unfolding starts_with
other_byte s i h n = rw (drop-cons s i 0 h) (ne_eqb (get_or s i 0) 32 n)

a_space : (s : List ℕ) (i : ℕ) → i < length s → get_or s i 0 ≡ 32 → starts_with 32 (drop i s) ≡ true
unfolding starts_with
a_space s i h e = rw (drop-cons s i 0 h) (eq-eqb (get_or s i 0) 32 e)

start_none : (m b : ℕ) (r : Option (ℕ × ℕ)) → number_placed b r ≡ None → refused 8 ≡ start_by m b r
unfolding number_placed number_meaning and_then start_by
start_none m b None e = refl
start_none m b (Some (v, w)) e = absurd (let z : ◌≡◌ {A = ℕ} 0 1 = cc in omega arith)

start_some : (m b v next : ℕ) (r : Option (ℕ × ℕ)) → number_placed b r ≡ Some (v, next) → done (front m v next) ≡ start_by m b r
unfolding number_placed number_meaning and_then start_by
start_some m b v next None e = absurd (let z : ◌≡◌ {A = ℕ} 0 1 = cc in omega arith)
start_some m b v next (Some (u, w)) e = let p = some_pair_parts u v (b + w) next e in rw (p.0, p.1)

markless : (s : List ℕ) → refused 8 ≡ mark_by None s
unfolding mark_by number_meaning and_then
markless s = refl

module _ (s : List ℕ) (a : Option (ℕ × ℕ)) (e : a ≡ number_placed 0 (number_up_to most_mark s)) where
  is_mark : head_here s ≡ mark_by a s
  unfolding head_here
  is_mark = ap (λ (r : Option (ℕ × ℕ)). mark_by r s) (sym (placed_front (number_up_to most_mark s)) ∙ sym e)

  pub head_none : a ≡ None → head_meaning None ≡ head_here s
  unfolding head_meaning
  head_none n = rw (is_mark, n) (markless s)

  module _ (m i : ℕ) (n : a ≡ Some (m, i)) where
    marked : head_here s ≡ mark_by (Some (m, i)) s
    marked = is_mark ∙ ap (λ (r : Option (ℕ × ℕ)). mark_by r s) n

    pub head_short : length s ≤ i → head_meaning None ≡ head_here s
    unfolding head_meaning
    head_short h = sym (marked ∙ head_off m i s (no_space s i h))

    pub head_other : i < length s → (get_or s i 0 ≡ 32 → ⊥) → head_meaning None ≡ head_here s
    unfolding head_meaning
    head_other h k = sym (marked ∙ head_off m i s (other_byte s i h k))

    module _ (h : i < length s) (k : get_or s i 0 ≡ 32) (b : Option (ℕ × ℕ)) (f : b ≡ number_placed (i + 1) (number_up_to most_scope (drop (i + 1) s))) where
      opened_head : head_here s ≡ start_by m (i + 1) (number_up_to most_scope (drop (i + 1) s))
      opened_head = marked ∙ head_on m i s (a_space s i h k)

      pub head_bare : b ≡ None → head_meaning None ≡ head_here s
      unfolding head_meaning
      head_bare j = rw opened_head (start_none m (i + 1) (number_up_to most_scope (drop (i + 1) s)) (sym f ∙ j))

      pub head_whole : (v next : ℕ) → b ≡ Some (v, next) → head_meaning (Some (m, v, next)) ≡ head_here s
      unfolding head_meaning
      head_whole v next j = rw opened_head (start_some m (i + 1) v next (number_up_to most_scope (drop (i + 1) s)) (sym f ∙ j))

-- the meanings tell the answers of the step's reader apart
pub same_step_lem : (a b : Option (Step × ℕ)) → step_meaning a ≡ step_meaning b → a ≡ b
unfolding step_meaning
same_step_lem (Some (s, n)) (Some (t, k)) e =
    let q = same_Some (record { label = s.label; scope = s.scope; next = n }) (record { label = t.label; scope = t.scope; next = k }) e
    in λ i. Some (record { label = (q i).label; scope = (q i).scope }, (q i).next)
same_step_lem (Some (s, n)) None e = absurd (let z : ◌≡◌ {A = ℕ} 0 1 = cc in omega arith)
same_step_lem None (Some (t, k)) e = absurd (let z : ◌≡◌ {A = ℕ} 0 1 = cc in omega arith)
same_step_lem None None e = refl

-- the steps from a place on: one more, or no more
record Placed (s : List ℕ) (i : ℕ) (t : Step) (next : ℕ) : Type 0 where
  width : ℕ
  here : step_here (drop i s) ≡ Some (t, width)
  place : i + width ≡ next

placed_step : (s : List ℕ) (i : ℕ) (t : Step) (next : ℕ) (r : Option (Step × ℕ)) → step_here (drop i s) ≡ r → step_placed i r ≡ Some (t, next) → Placed s i t next
unfolding step_placed
placed_step s i t next None e f = absurd (let z : ◌≡◌ {A = ℕ} 0 1 = cc in omega arith)
placed_step s i t next (Some (u, w)) e f =
    let p = some_pair_parts u t (i + w) next f
    in record { width = w; here = e ∙ rw p.0; place = p.1 }

unplaced : (i : ℕ) (r : Option (Step × ℕ)) → step_placed i r ≡ None → r ≡ None
unfolding step_placed
unplaced i None e = refl
unplaced i (Some (u, w)) e = absurd (let z : ◌≡◌ {A = ℕ} 0 1 = cc in omega arith)

no_steps : (n : ℕ) (s : List ℕ) → step_here s ≡ None → steps_of n s ≡ []
unfolding steps_of
no_steps zero s e = refl
no_steps (suc n) s e = steps_off n s e

no_width : (n : ℕ) (s : List ℕ) → step_here s ≡ None → steps_width n s ≡ 0
unfolding steps_width
no_width zero s e = refl
no_width (suc n) s e = width_off n s e

-- what stands after the steps is what is left where they end
after_width : (n : ℕ) (s : List ℕ) → drop (steps_width n s) s ≡ after_steps n s
unfolding steps_width after_steps
after_width zero s = refl
after_width (suc n) s = by (step_here s) refl (λ w. after_width n (drop w s))
  where
    by : (r : Option (Step × ℕ)) → step_here s ≡ r → ((w : ℕ) → drop (steps_width n (drop w s)) (drop w s) ≡ after_steps n (drop w s)) → drop (steps_width (suc n) s) s ≡ after_steps (suc n) s
    by None e onward = rw (width_off n s e, after_off n s e)
    by (Some (t, w)) e onward = rw (width_on n s t w e, after_on n s t w e) (sym (drop-drop (steps_width n (drop w s)) w s) ∙ onward w)

module _ (s : List ℕ) (i left : ℕ) (a : Option (Step × ℕ)) (e : step_meaning a ≡ step_from i s) where
  module _ (t : Step) (next : ℕ) (f : a ≡ Some (t, next)) (h : 1 ≤ left) where
    found_here_lem : Placed s i t next
    found_here_lem = placed_step s i t next (step_here (drop i s)) refl (sym (same_step_lem a (step_placed i (step_here (drop i s))) e) ∙ f)

    one_more_lem : left ≡ suc (left - 1)
    one_more_lem = omega arith

    onward : drop found_here_lem.width (drop i s) ≡ drop next s
    onward = drop-drop found_here_lem.width i s ∙ ap (λ (k : ℕ). drop k s) found_here_lem.place

    pub steps_next : steps_of left (drop i s) ≡ t ∷ steps_of (left - 1) (drop next s)
    steps_next =
        ap (λ (k : ℕ). steps_of k (drop i s)) one_more_lem
        ∙ steps_on (left - 1) (drop i s) t found_here_lem.width found_here_lem.here
        ∙ ap (λ (z : List ℕ). t ∷ steps_of (left - 1) z) onward

    pub width_next : i + steps_width left (drop i s) ≡ next + steps_width (left - 1) (drop next s)
    width_next =
        let w : steps_width left (drop i s) ≡ found_here_lem.width + steps_width (left - 1) (drop next s) =
        ap (λ (k : ℕ). steps_width k (drop i s)) one_more_lem
        ∙ width_on (left - 1) (drop i s) t found_here_lem.width found_here_lem.here
        ∙ ap (λ (z : List ℕ). found_here_lem.width + steps_width (left - 1) z) onward
        in omega (arith, found_here_lem.place)

  pub steps_none : a ≡ None → steps_of left (drop i s) ≡ []
  steps_none f = no_steps left (drop i s) (unplaced i (step_here (drop i s)) (sym (same_step_lem a (step_placed i (step_here (drop i s))) e) ∙ f))

  pub width_none : a ≡ None → i + steps_width left (drop i s) ≡ i
  width_none f = let w : steps_width left (drop i s) ≡ 0 = no_width left (drop i s) (unplaced i (step_here (drop i s)) (sym (same_step_lem a (step_placed i (step_here (drop i s))) e) ∙ f)) in omega arith

-- Going through the steps from place `at` on: place i is come to, and `left` more may be taken.
pub record Going (s : List ℕ) (at i left : ℕ) : Type 0 where
  pub few : left ≤ 63
  pub counted : length (steps_of most_steps (drop at s)) ≡ (63 - left) + length (steps_of left (drop i s))
  pub placed : at + steps_width most_steps (drop at s) ≡ i + steps_width left (drop i s)

pub going_first : (s : List ℕ) (at : ℕ) → Going s at at 63
going_first s at = record { few = omega arith; counted = omega arith; placed = refl }

-- what the walk says where it ends
abbrev pub WalkEnds : List ℕ → ℕ → ℕ → ℕ → Type 0
WalkEnds s at count i = (count ≡ length (steps_of most_steps (drop at s))) × (i ≡ at + steps_width most_steps (drop at s))

module _ (s : List ℕ) (at i left : ℕ) (g : Going s at i left) (a : Option (Step × ℕ)) (e : step_meaning a ≡ step_from i s) where
  pub going_on : (t : Step) (next : ℕ) → a ≡ Some (t, next) → 1 ≤ left → Going s at next (left - 1)
  going_on t next f h =
      record { few = omega (arith, g.few); counted = g.counted ∙ rw (steps_next s i left a e t next f h) (omega (arith, g.few)); placed = g.placed ∙ width_next s i left a e t next f h }

  pub going_stops : a ≡ None → WalkEnds s at (63 - left) i
  going_stops f =
      let n : length (steps_of left (drop i s)) ≡ 0 = ap length (steps_none s i left a e f)
      in (omega (arith, g.counted), sym (g.placed ∙ width_none s i left a e f))

pub going_full : (s : List ℕ) (at i left : ℕ) → Going s at i left → left ≤ 0 → WalkEnds s at 63 i
unfolding steps_of steps_width
going_full s at i zero g h = (omega (arith, g.counted), omega (arith, g.placed))
going_full s at i (suc n) g h = absurd (omega arith)

-- a row in the large
module _ (s : List ℕ) where
  pub row_long : 256 < length s → row_meaning None ≡ row_in_large s
  unfolding row_meaning row_in_large row_here and_then refuse_if
  row_long h = rw (lt-ltb 256 (length s) h, refuse_if)

  module _ (l : length s ≤ 256) where
    short : row_here s ≡ and_then (head_here s) (λ h. row_by h s)
    unfolding row_here refuse_if
    short = rw (le-ltb 256 (length s) l, refuse_if)

    pub row_headless : (a : Option (ℕ × ℕ × ℕ)) → head_meaning a ≡ head_here s → a ≡ None → row_meaning None ≡ row_in_large s
    unfolding row_meaning row_in_large head_meaning and_then
    row_headless a e f = rw (short, ← e, f)

    module _ (a : Option (ℕ × ℕ × ℕ)) (e : head_meaning a ≡ head_here s) (m v w : ℕ) (f : a ≡ Some (m, v, w)) (count i : ℕ) (g : WalkEnds s w count i) where
      ended : drop i s ≡ after_steps most_steps (drop w s)
      ended = ap (λ (k : ℕ). drop k s) g.1 ∙ sym (drop-drop (steps_width most_steps (drop w s)) w s) ∙ after_width most_steps (drop w s)

      judged : (t : Bool) → not (is_empty (drop i s)) ≡ t → row_here s ≡ refuse_if t 8 (done (record { mark = m; start = v; steps = steps_of most_steps (drop w s) }))
      unfolding row_by head_meaning and_then
      judged t h = short ∙ rw (← e, f, ← ended, h)

      pub row_more : i < length s → row_meaning None ≡ row_in_large s
      unfolding row_meaning row_in_large and_then refuse_if is_empty
      row_more h = rw (judged true (rw (drop-cons s i 0 h)))

      pub row_whole : length s ≤ i → row_meaning (Some (m, v, count)) ≡ row_in_large s
      unfolding row_meaning row_in_large and_then refuse_if is_empty
      row_whole h = rw (judged false (rw (drop_of_length-le s {i = i} h)), g.0)
