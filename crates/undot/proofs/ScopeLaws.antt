-- The loop over the scopes of a drawing: how far it has come, one turn, and its ends. Assumes
-- nothing.
use Prim.Native.Nat.{ℕ, zero, suc, ◌+◌, ◌≤◌, ◌<◌}
use mathlib.Core.Path.{◌≡◌, refl, sym, ap, ◌∙◌}
use mathlib.Core.List.{List, [], ◌∷◌}
use mathlib.Core.Bool.{Bool, true, false, ◌||◌}
use mathlib.Core.Logic.{⊎_elim}
use native.Mathlib.Omega.{arith}
use lib.Dec.{eqb}
use lib.ListN.{length, get_or, set, replicate, length-set, length-replicate}
use lib.Seq.{get_or-set_same, get_or-set_other}
use borrow.Author.Tests.{lt-ltb, le-ltb, eqb-true, eqb-false}
use Rattle.scope_graph.proofs.Lists.{Two}
use Rattle.text_field.specs.Outcome.{refused, done}
use Rattle.graph_rows.specs.Admission.{listed}
use Rattle.dot_text.specs.Reading.{Taken, scope_next, scopes_next}
use Rattle.dot_text.proofs.StatementLaws.{scope_shrinks, scopes_none, scopes_some}
use Rattle.undot.specs.Scopes.{scopes_from, file_scopes}

-- How far the loop has come over the text s of the scopes that are left: which were met, as a list
-- and as marks, and that what is left gives the whole. Each scope has taken a byte of the text.
pub record Meeting (count : ℕ) (whole : Bool) (bytes : ℕ) (marks : List Bool) (number : ℕ) (s : List ℕ) : Type 0 where
  pub met : List ℕ
  pub size : number ≡ length met
  pub marked : (x : ℕ) → x < 64 → get_or marks x false ≡ listed x met
  pub cells : length marks ≡ 64
  pub taken : number + length s ≤ bytes
  pub left : scopes_from count met (scopes_next s).value ≡ whole

none_marked : (k x : ℕ) → ◌≡◌ {A = Bool} (get_or (replicate k false) x false) false
none_marked zero x = refl
none_marked (suc k) zero = refl
none_marked (suc k) (suc x) = none_marked k x

pub meeting_first : (count bytes : ℕ) (s : List ℕ) → length s ≤ bytes → Meeting count (file_scopes count (scopes_next s).value) bytes (replicate 64 false) 0 s
unfolding file_scopes listed
meeting_first count bytes s h = record {
  met = [];
  size = refl;
  marked = λ x k. none_marked 64 x;
  cells = length-replicate 64 false;
  taken = omega arith;
  left = refl;
}

module _ (count : ℕ) (whole : Bool) (bytes : ℕ) (marks : List Bool) (number : ℕ) (s : List ℕ) (few : count ≤ 64) (m : Meeting count whole bytes marks number s) where
  -- no scope is left
  pub meeting_done : scope_next s ≡ refused 18 → eqb number count ≡ whole
  unfolding scopes_from
  meeting_done e =
      ap (λ (n : ℕ). eqb n count) m.size ∙ ap (λ (z : Taken (List ℕ)). scopes_from count m.met z.value) (sym (scopes_none s e)) ∙ m.left

  module _ (x : Taken ℕ) (e : scope_next s ≡ done x) where
    this : scopes_from count m.met (x.value ∷ (scopes_next x.rest).value) ≡ whole
    this = ap (λ (z : Taken (List ℕ)). scopes_from count m.met z.value) (sym (scopes_some s x e)) ∙ m.left

    -- a scope past the count
    pub meeting_past : count ≤ x.value → false ≡ whole
    unfolding scopes_from
    meeting_past h = sym (rw (le-ltb x.value count h)) ∙ this

    module _ (below : x.value < count) where
      pub meeting_inside : x.value < 64
      meeting_inside = omega arith

      -- one that was met
      pub meeting_again : get_or marks x.value false ≡ true → false ≡ whole
      unfolding scopes_from
      meeting_again h = sym (rw (lt-ltb x.value count below, sym (m.marked x.value (omega arith)) ∙ h)) ∙ this

      pub meeting_fewer : length x.rest < length s
      meeting_fewer = scope_shrinks s x e

      -- a new one
      pub meeting_on : get_or marks x.value false ≡ false → Meeting count whole bytes (set marks x.value true) (number + 1) x.rest
      unfolding scopes_from listed
      meeting_on h =
          let fewer = meeting_fewer in
          record {
            met = x.value ∷ m.met;
            size = omega (arith, m.size);
            marked = λ y k. marked y k;
            cells = length-set marks x.value true ∙ m.cells;
            taken = omega (arith, m.taken);
            left = sym (rw (lt-ltb x.value count below, sym (m.marked x.value (omega arith)) ∙ h)) ∙ this;
          }
        where
          marked : (y : ℕ) → y < 64 → get_or (set marks x.value true) y false ≡ (eqb x.value y || listed y m.met)
          marked y k =
              ⊎_elim
              (λ (q : eqb x.value y ≡ true). rw (q, ← eqb-true x.value y q) (get_or-set_same marks x.value true false (omega (arith, m.cells))))
              (λ (q : eqb x.value y ≡ false). rw q (get_or-set_other marks x.value y true false (λ z. eqb-false x.value y q (sym z)) ∙ m.marked y k))
              (Two (eqb x.value y))
