-- Proves specs/TakenIn (02, K3): a listing passes the tests exactly if it is right. Assumes nothing.
use native.Mathlib.Omega.{arith}
use mathlib.Core.Path.{◌≡◌, subst}
use mathlib.Core.Logic.{◌↔◌}
use mathlib.Core.Option.{Option, some, none}
use mathlib.Core.List.{List}
use lib.ListN.{length}
use Rattle.scope_graph.specs.Language.{◌∈◌, Language}
use Rattle.scope_graph.specs.Graph.{Graph, Query, OpenPair}
use Rattle.scope_graph.specs.Path.{PathRow, Entry}
use Rattle.scope_graph.specs.Completion.{Awaits}
use Rattle.scope_graph.specs.Computed.{Found, entries, found, awaits}
use Rattle.scope_graph.specs.Listing.{RowBefore, Accepted, FoundIs}
use Rattle.scope_graph.specs.Promises.{QueryPromises}
use Rattle.scope_graph.specs.TakenIn.{NoneTwice, MayAwait, AwaitPasses, TakenPromises, TakenIn}
use Rattle.scope_graph.proofs.Lists.{pairwise_weaken}
use Rattle.scope_graph.proofs.Sequences.{once_length, once_all, once_too}
use Rattle.scope_graph.proofs.Found.{one_found}
use Rattle.scope_graph.proofs.Promises.{query}

module _ (L : Language) (g : Graph L) (opens : List (OpenPair L)) (q : Query L) (ok : Accepted L g opens q) where
  p : QueryPromises L g opens q
  p = query L g opens q ok

  entries_once : NoneTwice (entries L g q)
  entries_once =
      pairwise_weaken (RowBefore L) _ (entries L g q) (λ a b _ _ k e. p.once b (rw e at k)) p.entries_ascend

  all_rows : (rs : List (PathRow L)) → ((r : PathRow L) → r ∈ rs → Entry L g q r) → NoneTwice rs
      → length rs ≡ length (entries L g q) → (r : PathRow L) → (r ∈ rs) ↔ Entry L g q r
  all_rows rs each once count r = (
    each r,
    λ e. once_all rs (entries L g q) once (λ x m. (p.entries_are x).1 (each x m)) (omega arith) r ((p.entries_are r).1 e),
  )

  counted : (rs : List (PathRow L)) → ((r : PathRow L) → (r ∈ rs) ↔ Entry L g q r) → NoneTwice rs
      → length rs ≡ length (entries L g q)
  counted rs are once =
      let a = once_length rs (entries L g q) once (λ x m. (p.entries_are x).1 ((are x).0 m)) in
      let b = once_length (entries L g q) rs entries_once (λ x m. (are x).1 ((p.entries_are x).0 m)) in
      omega arith

  covered : (rs : List (PathRow L)) → ((r : PathRow L) → Entry L g q r → r ∈ rs) → length rs ≡ length (entries L g q)
      → ((r : PathRow L) → (r ∈ rs) ↔ Entry L g q r) × NoneTwice rs
  covered rs has count = (
    (λ r. (λ m. (p.entries_are r).0 (once_all (entries L g q) rs entries_once inside (omega arith) r m), has r)),
    once_too (entries L g q) rs entries_once inside (omega arith),
  )
    where
      inside : (r : PathRow L) → r ∈ entries L g q → r ∈ rs
      inside r m = has r ((p.entries_are r).0 m)

  found_word : (f : Found) → (found L g q ≡ f) ↔ FoundIs L g q f
  found_word f = (λ e. subst (FoundIs L g q) e p.found_is, λ h. one_found L ok.laws g q (found L g q) f p.found_is h)

  await_pair : (a : Option (OpenPair L)) → AwaitPasses L g opens q a ↔ MayAwait L g opens q a
  await_pair none = p.awaits_none
  await_pair (some o) = (
    λ t. (p.decisive o).1 (t.0, (p.followed o).0 t.1),
    λ d. let t = (p.decisive o).0 d in (t.0, (p.followed o).1 t.1),
  )

  -- our own `awaits` is one that may stand there
  own_await : (a : Option (OpenPair L)) → Awaits L g opens q a → MayAwait L g opens q a
  own_await none w = p.settled.1 w
  own_await (some o) w = w.0

  pub taken_promises : TakenPromises L g opens q
  taken_promises = record {
    all_rows = all_rows;
    counted = counted;
    covered = covered;
    found_word = found_word;
    await_pair = await_pair;
    decides = λ t. (
      λ w. record {
        rows_are = all_rows t.rows (λ r m. (p.judged_visible r).0 (w.visible r m)) w.all_different w.count;
        once = w.all_different;
        found_right = (found_word t.found).0 w.word;
        may_await = (await_pair t.awaits).0 w.await;
      },
      λ w. record {
        visible = λ r m. (p.judged_visible r).1 ((w.rows_are r).0 m);
        all_different = w.once;
        count = counted t.rows w.rows_are w.once;
        word = (found_word t.found).1 w.found_right;
        await = (await_pair t.awaits).1 w.may_await;
      },
    );
    own = record {
      rows_are = p.entries_are;
      once = entries_once;
      found_right = p.found_is;
      may_await = own_await (awaits L g q opens) p.awaits_is;
    };
  }

pub taken_in : TakenIn
taken_in = taken_promises
