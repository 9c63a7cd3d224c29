-- What a number tells of a count holds with the scopes that were let go, and with any number of
-- hops that is enough. Assumes nothing.
use Prim.Native.Nat.{ℕ, suc, ◌≤◌}
use mathlib.Core.Path.{◌≡◌, sym, ap, ◌∙◌}
use mathlib.Core.Bool.{Bool, true}
use mathlib.Core.List.{List}
use native.Mathlib.Omega.{arith}
use lib.ListN.{length}
use Rattle.scope_graph.specs.Order.{end_of}
use Rattle.block.specs.Sets.{has_scope, places_of}
use Rattle.block.specs.Ask.{ask_goal}
use Rattle.search.specs.Tables.{plain_end, table_order, table_board}
use Rattle.search.proofs.CutEnds.{cut_past}
use Rattle.follow.specs.Walk.{places_from}
use Rattle.beginnings.specs.Beginnings.{capped}
use Rattle.beginnings.specs.Tables.{hopes_in}
use Rattle.beginnings.specs.Steps.{ALL_SCOPES, Few, Covers, Flooded, Uncut, Tells, behind, Recalls}
use Rattle.beginnings.proofs.Few.{few_less}
use Rattle.beginnings.proofs.Narrow.{Enclosed, enclosed_same, narrow_hits}
use Rattle.beginnings.proofs.Fewer.{hits_fewer}
use Rattle.beginnings.proofs.Tells.{capped_grows, tells_is}

module _ (block near ask : List ℕ) where
  covered : Covers block near → (free s r : ℕ) → Flooded near free s r → Enclosed (table_board block (ask_goal ask)) (has_scope free) (has_scope r) s
  unfolding table_board
  covered all free s r f = record {
    less = f.less;
    first = λ h m e. f.first h.to (all s h m) e;
    on = λ u h o m e. f.on u h.to o (all u h m) e;
  }

  pub behind_narrow : (n m : ℕ) (free few : ℕ → Bool) (s q : ℕ) → Few n few → Few m few → Enclosed (table_board block (ask_goal ask)) free few s
      → behind block ask (suc n) free s q ≡ behind block ask (suc m) few s q
  unfolding behind places_from
  behind_narrow n m free few s q f k c =
      ap length (narrow_hits (table_board block (ask_goal ask)) (table_order block) (places_of ALL_SCOPES (hopes_in block)) (plain_end (end_of 9)) n m free few s q f k c)

  behind_fewer : Uncut block (ask_goal ask) → (fuel : ℕ) (few free : ℕ → Bool) (s q : ℕ) → ((t : ℕ) → few t ≡ true → free t ≡ true)
      → behind block ask fuel few s q ≤ behind block ask fuel free s q
  unfolding behind places_from table_board
  behind_fewer uncut fuel few free s q w =
      hits_fewer (table_board block (ask_goal ask)) (table_order block) (places_of ALL_SCOPES (hopes_in block)) (plain_end (end_of 9)) uncut
      (λ n f t r. cut_past (table_board block (ask_goal ask)) block n f t r 9 (omega arith)) fuel few free s q w

  -- with the scopes that were let go
  pub tells_wide : (n free s q r v : ℕ) → Flooded near free s r → Few n (has_scope free)
      → Tells block near (ask_goal ask) (behind block ask (suc n) (has_scope r) s q) v
      → Tells block near (ask_goal ask) (behind block ask (suc n) (has_scope free) s q) v
  tells_wide n free s q r v f few told =
      let less = few_less n (has_scope r) (has_scope free) f.less few in
      record {
        most = told.most;
        exact = λ c. told.exact c ∙ ap capped (sym (behind_narrow n n (has_scope free) (has_scope r) s q less less (covered c free s r f)));
        below = λ u. omega (arith, told.below u, capped_grows _ _ (behind_fewer u (suc n) (has_scope r) (has_scope free) s q f.less));
      }

  -- with any number of hops
  pub tells_any : (n free s q v : ℕ) → Few n (has_scope free) → Tells block near (ask_goal ask) (behind block ask (suc n) (has_scope free) s q) v
      → Recalls block near ask free s q v
  tells_any n free s q v few told m k =
      tells_is block near (ask_goal ask) _ _ v (behind_narrow n m (has_scope free) (has_scope free) s q few k (enclosed_same (table_board block (ask_goal ask)) (has_scope free) s)) told
