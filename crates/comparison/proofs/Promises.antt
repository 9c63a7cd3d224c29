-- The value of specs/Promises. Assumes nothing.
use Prim.Native.Nat.{ℕ, ◌≤◌}
use mathlib.Core.Path.{◌≡◌, refl, sym, ap, ◌∙◌}
use mathlib.Core.Bool.{Bool, true, false}
use mathlib.Core.Logic.{◌↔◌}
use mathlib.Core.List.{List}
use native.Mathlib.Omega.{arith}
use lib.ListN.{length}
use borrow.Author.Tests.{le-ltb}
use Rattle.text_field.specs.Outcome.{done, and_then, refuse_if}
use Rattle.graph_file.specs.File.{read_cells}
use Rattle.graph_rows.specs.Decode.{rules_of}
use Rattle.graph_file.proofs.Promises.{read_accepted}
use Rattle.scope_graph.specs.Language.{Language}
use Rattle.scope_graph.specs.Rows.{language}
use Rattle.scope_graph.specs.Promises.{OrderPromises}
use Rattle.scope_graph.proofs.Lists.{true_false}
use Rattle.scope_graph.proofs.Promises.{promises}
use Rattle.path_row.specs.Form.{PathRow, row_here}
use Rattle.path_row.specs.Numbering.{path_in}
use Rattle.comparison.specs.Compare.{first, second, neither, Told, which_of, row_before, comparison, agreement, told, compare_rows, compare_answer}
use Rattle.comparison.specs.Promises.{SaysWhich, which_in, CompareIs, SaysHowFar, AgreeIs}
use Rattle.comparison.proofs.AgreeLaws.{agreement_apart, agreement_same, turns_same}

-- two tests that are two claims, of which one at most holds
module _ {P Q : Type 0} where
  by_tests_lem : (x y : Bool) → ((x ≡ true) ↔ P) → ((y ≡ true) ↔ Q) → (P → Q → ⊥)
      → ((done (which_of x y) ≡ done first) ↔ P) × ((done (which_of x y) ≡ done second) ↔ Q) × ((done (which_of x y) ≡ done neither) ↔ ((¬ P) × (¬ Q)))
  unfolding which_of
  by_tests_lem true y u v one = (
    (λ e. u.0 refl, λ p. refl),
    (λ e. absurd (let z : ◌≡◌ {A = ℕ} 0 1 = cc in omega arith), λ q. absurd (one (u.0 refl) q)),
    (λ e. absurd (let z : ◌≡◌ {A = ℕ} 0 1 = cc in omega arith), λ n. absurd (n.0 (u.0 refl))),
  )
  by_tests_lem false true u v one = (
    (λ e. absurd (let z : ◌≡◌ {A = ℕ} 0 1 = cc in omega arith), λ p. absurd (true_false (u.1 p) refl)),
    (λ e. v.0 refl, λ q. refl),
    (λ e. absurd (let z : ◌≡◌ {A = ℕ} 0 1 = cc in omega arith), λ n. absurd (n.1 (v.0 refl))),
  )
  by_tests_lem false false u v one = (
    (λ e. absurd (let z : ◌≡◌ {A = ℕ} 0 1 = cc in omega arith), λ p. absurd (true_false (u.1 p) refl)),
    (λ e. absurd (let z : ◌≡◌ {A = ℕ} 0 1 = cc in omega arith), λ q. absurd (true_false (v.1 q) refl)),
    (λ e. (λ p. true_false (u.1 p) refl, λ q. true_false (v.1 q) refl), λ n. refl),
  )

module _ (cells : List ℕ) (p q : PathRow) where
  abbrev L : Language
  L = language (rules_of cells)

  compared : OrderPromises L → SaysWhich cells p q (done (comparison cells p q))
  unfolding comparison row_before
  compared order =
      let tests = by_tests_lem (row_before cells p q) (row_before cells q p) (order.computed (path_in cells p) (path_in cells q)) (order.computed (path_in cells q) (path_in cells p))
      (λ less more. order.irreflexive (path_in cells p) (order.transitive (path_in cells p) (path_in cells q) (path_in cells p) less more)) in
      record { first_is = tests.0; second_is = tests.1; neither_is = tests.2 }

-- rows that are read and fit are compared
answered : (text cells a b : List ℕ) (n m : ℕ) (p q : PathRow) → read_cells text ≡ done cells → row_here a ≡ done p → row_here b ≡ done q
    → length p.steps ≤ n → length q.steps ≤ m → compare_answer text a b n m ≡ done (told cells p q)
unfolding compare_answer compare_rows and_then refuse_if
answered text cells a b n m p q e f g h k = rw (e, f, g, le-ltb n (length p.steps) h, le-ltb m (length q.steps) k)

pub compare_is : CompareIs
unfolding which_in told
compare_is text cells a b n m p q e f g h k =
    rw (answered text cells a b n m p q e f g h k)
    (compared cells p q (promises.order (language (rules_of cells)) (promises.language (rules_of cells) (read_accepted text cells e).rules)))

-- and their number is how far they agree
how_far : (cells : List ℕ) (p q : PathRow) → SaysHowFar cells p q (agreement cells p q)
unfolding agreement
how_far cells p q = record {
  by_rules = refl;
  by_letters = agreement_same cells p q;
  turns_same = turns_same cells p q;
  apart = agreement_apart cells p q;
}

told_steps : (t : Told) (cells : List ℕ) (p q : PathRow) → done t ≡ done (told cells p q) → t.steps ≡ agreement cells p q
unfolding told
told_steps t cells p q e = let z : t ≡ told cells p q = cc in ap (λ (x : Told). x.steps) z

pub agree_is : AgreeIs
agree_is text cells a b n m p q e f g h k t is =
    rw (told_steps t cells p q (sym is ∙ answered text cells a b n m p q e f g h k)) (how_far cells p q)
