-- The rows of a section are those of its part, where the section numbers ascend; and the hops along
-- the edge rows. Assumes nothing.
use Prim.Native.Nat.{ℕ, suc, ◌+◌, ◌-◌, ◌≤◌, ◌<◌}
use mathlib.Core.Path.{◌≡◌, refl, sym, ap, ◌∙◌}
use mathlib.Core.Bool.{Bool, true, false}
use mathlib.Core.Logic.{⊎_elim}
use mathlib.Core.List.{List, [], ◌∷◌, map}
use native.Mathlib.Omega.{arith}
use native.Mathlib.Nat.{sub-zero}
use lib.Dec.{eqb}
use lib.ListN.{take, drop}
use lib.Seq.{drop-drop, take-add}
use borrow.Author.Tests.{eq-eqb, ne_eqb}
use Rattle.scope_graph.specs.Path.{HopOf}
use Rattle.scope_graph.specs.Turns.{Turned}
use Rattle.scope_graph.specs.Rows.{Rules, language}
use Rattle.scope_graph.specs.Computed.{keep, hops_at}
use Rattle.graph_rows.specs.Admission.{Row}
use Rattle.graph_rows.specs.Decode.{kept_if, rows_among, rows_in, edge_of}
use Rattle.graph_table.specs.Rows.{hop_to, if_own, all_hops}
use Rattle.graph_table.specs.Sections.{leading, start_of, part_of, rows_of, SectionsAscend}
use Rattle.board.specs.Promises.{PartIs}
use Rattle.graph_table.proofs.Tests.{below_or}
use Rattle.graph_table.proofs.Leading.{leading_yes, leading_no}

module _ (k s a b c d e : ℕ) (l : List ℕ) where
  among_other : (s ≡ k → ⊥) → rows_among k (s ∷ a ∷ b ∷ c ∷ d ∷ e ∷ l) ≡ rows_among k l
  unfolding rows_among kept_if
  among_other h = rw (ne_eqb s k h)

  among_same : s ≡ k → rows_among k (s ∷ a ∷ b ∷ c ∷ d ∷ e ∷ l) ≡ (a ∷ b ∷ c ∷ d ∷ e ∷ []) ∷ rows_among k l
  unfolding rows_among kept_if
  among_same h = rw (eq-eqb s k h)

-- from a later section on there is no row of section k, and no row before it
among_none : (k m : ℕ) (l : List ℕ) → SectionsAscend m l → k < m → rows_among k l ≡ []
unfolding rows_among
among_none k m [] h i = refl
among_none k m (s ∷ []) h i = refl
among_none k m (s ∷ a ∷ []) h i = refl
among_none k m (s ∷ a ∷ b ∷ []) h i = refl
among_none k m (s ∷ a ∷ b ∷ c ∷ []) h i = refl
among_none k m (s ∷ a ∷ b ∷ c ∷ d ∷ []) h i = refl
among_none k m (s ∷ a ∷ b ∷ c ∷ d ∷ e ∷ l) h i =
    let n = h.0 in
    among_other k s a b c d e l (λ x. omega arith) ∙ among_none k s l h.1 (omega arith)

leading_none : (k m : ℕ) (l : List ℕ) → SectionsAscend m l → k ≤ m → leading 0 k l ≡ 0
unfolding leading
leading_none k m [] h i = refl
leading_none k m (s ∷ []) h i = refl
leading_none k m (s ∷ a ∷ []) h i = refl
leading_none k m (s ∷ a ∷ b ∷ []) h i = refl
leading_none k m (s ∷ a ∷ b ∷ c ∷ []) h i = refl
leading_none k m (s ∷ a ∷ b ∷ c ∷ d ∷ []) h i = refl
leading_none k m (s ∷ a ∷ b ∷ c ∷ d ∷ e ∷ l) h i = let n = h.0 in leading_no 0 k (s ∷ a ∷ b ∷ c ∷ d ∷ e ∷ l) (omega arith) (omega arith)

-- the part between two counts of leading cells
unfoldable pub between : ℕ → ℕ → List ℕ → List ℕ
between x y l = take (y - x) (drop x l)

pub between_later : (s a b c d e x y : ℕ) (l : List ℕ) → between (6 + x) (6 + y) (s ∷ a ∷ b ∷ c ∷ d ∷ e ∷ l) ≡ between x y l
unfolding between
between_later s a b c d e x y l =
    let z : 6 + y - (6 + x) ≡ y - x = omega arith in
    ap (λ n. take n (drop (6 + x) (s ∷ a ∷ b ∷ c ∷ d ∷ e ∷ l))) z ∙ ap (take (y - x)) (sym (drop-drop x 6 (s ∷ a ∷ b ∷ c ∷ d ∷ e ∷ l)))

between_first : (s a b c d e y : ℕ) (l : List ℕ) → rows_of (between 0 (6 + y) (s ∷ a ∷ b ∷ c ∷ d ∷ e ∷ l)) ≡ (a ∷ b ∷ c ∷ d ∷ e ∷ []) ∷ rows_of (between 0 y l)
unfolding rows_of between
between_first s a b c d e y l = rw (sub-zero (6 + y), sub-zero y, take-add 6 y (s ∷ a ∷ b ∷ c ∷ d ∷ e ∷ l))

between_none : (l : List ℕ) → rows_of (between 0 0 l) ≡ []
unfolding rows_of between
between_none l = refl

part_six : (k s a b c d e : ℕ) (l : List ℕ) → SectionsAscend s l → rows_among k l ≡ rows_of (between (leading 0 k l) (leading 0 (suc k) l) l)
    → rows_among k (s ∷ a ∷ b ∷ c ∷ d ∷ e ∷ l) ≡ rows_of (between (leading 0 k (s ∷ a ∷ b ∷ c ∷ d ∷ e ∷ l)) (leading 0 (suc k) (s ∷ a ∷ b ∷ c ∷ d ∷ e ∷ l)) (s ∷ a ∷ b ∷ c ∷ d ∷ e ∷ l))
part_six k s a b c d e l h i =
    ⊎_elim
    (λ (y : s < k).
    rw (leading_yes 0 k (s ∷ a ∷ b ∷ c ∷ d ∷ e ∷ l) (omega arith) y, leading_yes 0 (suc k) (s ∷ a ∷ b ∷ c ∷ d ∷ e ∷ l) (omega arith) (omega arith))
    (among_other k s a b c d e l (λ x. omega arith) ∙ i ∙ ap rows_of (sym (between_later s a b c d e (leading 0 k l) (leading 0 (suc k) l) l))))
    (λ (n : k ≤ s). ⊎_elim
    (λ (y : k < s).
    rw (leading_no 0 k (s ∷ a ∷ b ∷ c ∷ d ∷ e ∷ l) (omega arith) n, leading_no 0 (suc k) (s ∷ a ∷ b ∷ c ∷ d ∷ e ∷ l) (omega arith) (omega arith))
    (among_other k s a b c d e l (λ x. omega arith) ∙ among_none k s l h y ∙ sym (between_none (s ∷ a ∷ b ∷ c ∷ d ∷ e ∷ l))))
    (λ (m : s ≤ k).
    let z : rows_among k l ≡ rows_of (between 0 (leading 0 (suc k) l) l) = rw (leading_none k s l h n) at i in
    rw (leading_no 0 k (s ∷ a ∷ b ∷ c ∷ d ∷ e ∷ l) (omega arith) n, leading_yes 0 (suc k) (s ∷ a ∷ b ∷ c ∷ d ∷ e ∷ l) (omega arith) (omega arith))
    (among_same k s a b c d e l (omega arith) ∙ ap (λ (r : List Row). (a ∷ b ∷ c ∷ d ∷ e ∷ []) ∷ r) z ∙ sym (between_first s a b c d e (leading 0 (suc k) l) l)))
    (below_or k s))
    (below_or s k)

part_among : (k m : ℕ) (l : List ℕ) → SectionsAscend m l → rows_among k l ≡ rows_of (between (leading 0 k l) (leading 0 (suc k) l) l)
unfolding rows_among leading rows_of between
part_among k m [] h = refl
part_among k m (s ∷ []) h = refl
part_among k m (s ∷ a ∷ []) h = refl
part_among k m (s ∷ a ∷ b ∷ []) h = refl
part_among k m (s ∷ a ∷ b ∷ c ∷ []) h = refl
part_among k m (s ∷ a ∷ b ∷ c ∷ d ∷ []) h = refl
part_among k m (s ∷ a ∷ b ∷ c ∷ d ∷ e ∷ l) h = part_six k s a b c d e l h.1 (part_among k s l h.1)

-- section k's rows are the rows of its part
pub rows_in_part : PartIs
unfolding rows_in part_of start_of rows_among rows_of between
rows_in_part [] h k = refl
rows_in_part (f ∷ l) h k =
    let z : leading 0 (suc k) l - leading 0 k l ≡ suc (leading 0 (suc k) l) - suc (leading 0 k l) = omega arith in
    part_among k 0 l h ∙ ap (λ n. rows_of (take n (drop (leading 0 k l) l))) z

-- the hops along edge rows
kept_hops : {A B : Type 0} (f : A → B) (b : Bool) (x : A) (xs : List A)
    → map f (elim b as (λ _. List A) [ true ↦ x ∷ xs | false ↦ xs ]) ≡ (elim b as (λ _. List B) [ true ↦ f x ∷ map f xs | false ↦ map f xs ])
kept_hops f true x xs = refl
kept_hops f false x xs = refl

pub all_hops_lem : (r : Rules) (l : List ℕ) (s : ℕ) → all_hops l s ≡ hops_at (language r) (map (edge_of r) (rows_of l)) s
unfolding all_hops if_own hops_at edge_of rows_of keep
all_hops_lem r [] s = refl
all_hops_lem r (o ∷ []) s = refl
all_hops_lem r (o ∷ a ∷ []) s = refl
all_hops_lem r (o ∷ a ∷ b ∷ []) s = refl
all_hops_lem r (o ∷ a ∷ b ∷ c ∷ []) s = refl
all_hops_lem r (o ∷ a ∷ b ∷ c ∷ d ∷ []) s = refl
all_hops_lem r (o ∷ a ∷ b ∷ c ∷ d ∷ e ∷ l) s = ap (λ (z : List (HopOf Turned)). if_own s a (hop_to b d c ∷ z) z) (all_hops_lem r l s) ∙ sym (kept_hops _ (eqb a s) (edge_of r (a ∷ b ∷ c ∷ d ∷ e ∷ [])) _)
