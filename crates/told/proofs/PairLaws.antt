-- What stands under `awaits`. Assumes nothing.
use Prim.Native.Nat.{ℕ, ◌+◌, ◌≤◌, ◌<◌}
use mathlib.Core.Path.{◌≡◌, refl, sym, ap, ◌∙◌}
use mathlib.Core.Bool.{true, false}
use mathlib.Core.Option.{some, none}
use mathlib.Core.List.{List, [], ◌∷◌}
use native.Mathlib.Omega.{arith}
use lib.ListN.{length, get_or, drop}
use lib.Seq.{drop-drop}
use Rattle.std.proofs.lemmas.Option.{some_pair_parts}
use Rattle.std.specs.declared.option.Option.{Option as Maybe}
use Rattle.std.specs.declared.option.Option.TheVariants.{Some, None as Nothing}
use Rattle.text_field.specs.Number.{number_here, number_placed}
use Rattle.text_field.specs.Outcome.{refused, done, and_then}
use Rattle.text_field.proofs.Steps.{drop_next, drop_end}
use Rattle.path_row.specs.Form.{most_scope, number_up_to}
use Rattle.path_row.proofs.Steps.{up_none, up_past, up_in}
use Rattle.told.specs.Delivered.{is_end}
use Rattle.told.specs.Apart.{after, end_by, pair_by, dash_here}

-- the end at a place
module _ (v x : ℕ) (rest : List ℕ) where
  pub end_on : is_end x ≡ true → end_by v (x ∷ rest) ≡ done (some (record { at = v; end = x }), rest)
  unfolding end_by
  end_on e = rw (e, end_by)

  pub end_off : is_end x ≡ false → end_by v (x ∷ rest) ≡ refused 10
  unfolding end_by
  end_off e = rw (e, end_by)

module _ (s : List ℕ) (v at : ℕ) where
  pub end_none : length s ≤ at → refused 10 ≡ end_by v (drop at s)
  unfolding end_by
  end_none h = rw (drop_end s at h)

  pub end_other : at < length s → is_end (get_or s at 0) ≡ false → refused 10 ≡ end_by v (drop at s)
  end_other h e = sym (ap (end_by v) (drop_next s at h) ∙ end_off v (get_or s at 0) (drop (at + 1) s) e)

  pub end_some : at < length s → is_end (get_or s at 0) ≡ true → done (some (record { at = v; end = get_or s at 0 }), drop (at + 1) s) ≡ end_by v (drop at s)
  end_some h e = sym (ap (end_by v) (drop_next s at h) ∙ end_on v (get_or s at 0) (drop (at + 1) s) e)

-- the scope before it
module _ (s : List ℕ) (at : ℕ) where
  none_here : (r : Maybe (ℕ × ℕ)) → Nothing ≡ number_placed at r → refused 10 ≡ pair_by r (drop at s)
  unfolding pair_by number_placed
  none_here Nothing e = refl
  none_here (Some (v, w)) e = absurd (let z : ◌≡◌ {A = ℕ} 0 1 = cc in omega arith)

  some_here : (r : Maybe (ℕ × ℕ)) (v next : ℕ) → Some (v, next) ≡ number_placed at r → end_by v (drop next s) ≡ pair_by r (drop at s)
  unfolding pair_by number_placed
  some_here Nothing v next e = absurd (let z : ◌≡◌ {A = ℕ} 0 1 = cc in omega arith)
  some_here (Some (u, w)) v next e =
      let p = some_pair_parts v u next (at + w) e in
      rw (p.0, p.1, drop-drop)

  module _ (a : Maybe (ℕ × ℕ)) (e : a ≡ number_placed at (number_here (drop at s))) where
    pub pair_none : a ≡ Nothing → refused 10 ≡ pair_by (number_up_to most_scope (drop at s)) (drop at s)
    unfolding number_up_to
    pair_none f = none_here (number_up_to most_scope (drop at s)) (up_none at most_scope (number_here (drop at s)) a e f)

    pub pair_past : (v next : ℕ) → a ≡ Some (v, next) → 63 < v → refused 10 ≡ pair_by (number_up_to most_scope (drop at s)) (drop at s)
    unfolding number_up_to
    pair_past v next f h = none_here (number_up_to most_scope (drop at s)) (up_past at most_scope (number_here (drop at s)) a v next e f h)

    pub pair_in : (v next : ℕ) → a ≡ Some (v, next) → v ≤ 63 → end_by v (drop next s) ≡ pair_by (number_up_to most_scope (drop at s)) (drop at s)
    unfolding number_up_to
    pair_in v next f h = some_here (number_up_to most_scope (drop at s)) v next (up_in at most_scope (number_here (drop at s)) a v next e f h)

-- `-` before it
module _ (t : List ℕ) where
  pub dash_none : after (45 ∷ []) t ≡ refused 10 → dash_here t ≡ refused 10
  unfolding dash_here and_then
  dash_none e = rw e

  pub dash_some : (rest : List ℕ) → after (45 ∷ []) t ≡ done rest → dash_here t ≡ done (none, rest)
  unfolding dash_here and_then
  dash_some rest e = rw e
