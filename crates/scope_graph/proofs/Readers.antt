-- Proves specs/Readers (02, K5): the list of a declaration's readers has them all and no other scope.
-- Assumes nothing.
use Prim.Native.Nat.{ℕ, zero, suc, ◌<◌}
use native.Mathlib.Omega.{arith}
use mathlib.Core.Path.{◌≡◌, ap}
use mathlib.Core.Bool.{true}
use mathlib.Core.Logic.{◌↔◌, ⊎_elim}
use mathlib.Core.List.Memᴰ
use mathlib.Core.List.{[], ◌∷◌}
use lib.Dec.{eqb}
use borrow.Author.Tests.{eqb-true, eqb-false}
use Rattle.scope_graph.specs.Language.{◌∈◌, Language, Laws}
use Rattle.scope_graph.specs.Graph.{Declaration, Graph, InRange}
use Rattle.scope_graph.specs.Ends.{ends_at}
use Rattle.scope_graph.specs.Listing.{Pairwise}
use Rattle.scope_graph.specs.Readers.{numbers_below, query_for, Reader, readers, ReadersPromises, ReadersRight}
use Rattle.scope_graph.proofs.Lists.{Two, keep_intro, keep_elim, keep_pairwise, pairwise_append}
use Rattle.scope_graph.proofs.Ends.{ends_entry, entry_ends}

pub numbers_elim : (n s : ℕ) → s ∈ numbers_below n → s < n
unfolding numbers_below
numbers_elim zero s m = absurd (Memᴰ.not-nil m)
numbers_elim (suc n) s m =
    ⊎_elim (λ k. let z = numbers_elim n s k in omega arith) (λ k. let e = Memᴰ.eq_of_singleton k in omega arith)
    (Memᴰ.append_cases (numbers_below n) m)

pub numbers_intro : (n s : ℕ) → s < n → s ∈ numbers_below n
unfolding numbers_below
numbers_intro zero s h = absurd (omega arith)
numbers_intro (suc n) s h =
    ⊎_elim (λ e. Memᴰ.append_right (numbers_below n) (Memᴰ.head (eqb-true s n e)))
    (λ e. let k = eqb-false s n e in Memᴰ.append_left (n ∷ []) (numbers_intro n s (omega arith))) (Two (eqb s n))

pub numbers_ascend : (n : ℕ) → Pairwise ◌<◌ (numbers_below n)
unfolding numbers_below
numbers_ascend zero = tt
numbers_ascend (suc n) =
    pairwise_append ◌<◌ (numbers_below n) (n ∷ []) (numbers_ascend n) ((λ y m. absurd (Memᴰ.not-nil m)), tt)
    (λ a b m k. let e = Memᴰ.eq_of_singleton k in let z = numbers_elim n a m in omega arith)

module _ (L : Language) (g : Graph L) (laws : Laws L) (range : InRange L g) (d : Declaration L) (stands : d ∈ g.declarations) where
  test : (s : ℕ) → s < g.scopes → (ends_at L g (query_for L d s) d.at ≡ true) ↔ Reader L g d s
  test s h = (
    λ e. let r = ends_entry L laws g (query_for L d s) range h d.at d.mark e stands in
        record { scope = h; row = r.0; entry = r.1; ends_in = r.2 },
    λ r. rw (ap (λ (z : Declaration L). z.at) r.ends_in) at (entry_ends L laws g (query_for L d s) range h r.row r.entry),
  )

  pub readers_promises : ReadersPromises L g d
  unfolding readers
  readers_promises = record {
    test = test;
    readers_are = λ s. (
      λ m. let k = keep_elim _ (numbers_below g.scopes) m in (test s (numbers_elim g.scopes s k.0)).0 k.1,
      λ r. keep_intro _ (numbers_intro g.scopes s r.scope) ((test s r.scope).1 r),
    );
    ascend = keep_pairwise ◌<◌ _ (numbers_below g.scopes) (numbers_ascend g.scopes);
  }

pub readers_right : ReadersRight
readers_right = readers_promises
