-- The count over a text: it is right for each query of a text that is read, and refused as the text
-- is. Assumes nothing.
use Prim.Native.Nat.{ℕ, ◌≤◌, ◌<◌}
use mathlib.Core.Path.{◌≡◌, refl, sym, ap}
use mathlib.Core.Logic.{⊎_elim}
use mathlib.Core.Option.{Option}
use mathlib.Core.List.{List, [], ◌∷◌, map}
use native.Mathlib.Omega.{arith}
use borrow.Author.Tests.{lt-ltb, le-ltb, lt-leb, le-leb, ltb-true, ltb-false}
use lib.Dec.{ltb}
use lib.ListN.{length, length-map}
use Rattle.scope_graph.specs.Language.{◌∈◌, Language}
use Rattle.scope_graph.specs.Graph.{Graph, InRange, Query}
use Rattle.scope_graph.specs.Path.{HopOf, Hop, Along}
use Rattle.scope_graph.specs.Turns.{Turned}
use Rattle.scope_graph.specs.Rows.{Rules, language}
use Rattle.scope_graph.specs.Computed.{Node}
use Rattle.scope_graph.specs.Listing.{Pairwise, Accepted}
use Rattle.scope_graph.proofs.Lists.{Two, pairwise_weaken, map_pairwise}
use Rattle.scope_graph.proofs.Rows.{next_by_row}
use Rattle.text_field.specs.Outcome.{done, and_then, refuse_if}
use Rattle.graph_file.specs.File.{read_cells}
use Rattle.graph_rows.specs.Decode.{rules_of, graph_of, opens_of, queries_of}
use Rattle.graph_file.proofs.Promises.{read_accepted}
use Rattle.board.specs.Queries.{query_at}
use Rattle.board.proofs.Queries.{get_d_in}
use Rattle.beginnings.specs.Beginnings.{MOST, capped, OneEdge, beginnings, followed_count, count_of, count_for}
use Rattle.beginnings.specs.Promises.{CappedIs, OneEdgeRow, steps_of, RightCount, CountedRight, CountRefused}
use Rattle.beginnings.proofs.Listed.{beginnings_are, each_once, few}

capped_below : (n : ℕ) → n < MOST → capped n ≡ n
unfolding capped
capped_below n h = rw (lt-ltb n MOST h, capped)

capped_past : (n : ℕ) → MOST ≤ n → capped n ≡ MOST
unfolding capped
capped_past n h = rw (le-ltb n MOST h, capped)

pub capped_is : CappedIs
capped_is n = (λ h. capped_below n (omega arith), λ h. capped_past n (omega arith))

capped_few : (n : ℕ) → capped n ≤ n
capped_few n =
    ⊎_elim (λ e. let z = capped_below n (ltb-true n MOST e) in omega arith)
    (λ e. let h = ltb-false n MOST e in let z = capped_past n h in omega arith)
    (Two (ltb n MOST))

-- the rows' labels are those that occur
one_edge : (cells : List ℕ) → OneEdgeRow cells → OneEdge (language (rules_of cells)) (graph_of cells)
one_edge cells one e f m k same a b =
    one e f m k same _ _ (next_by_row (rules_of cells).transitions a.0 e.step.label a.1 a.2)
    (next_by_row (rules_of cells).transitions b.0 f.step.label b.1 b.2) refl refl

-- along edges, labels and scopes tell the turns
hop_eq : {l k s r : ℕ} {t u : Option ℕ} → l ≡ k → t ≡ u → s ≡ r
    → ◌≡◌ {A = HopOf Turned} (record { step = record { label = l; turn = t }; to = s }) (record { step = record { label = k; turn = u }; to = r })
hop_eq a b c = rw (a, b, c)

module _ (r : Rules) (g : Graph (language r)) (range : InRange (language r) g) where
  same_steps : (s : ℕ) (p o : List (HopOf Turned)) → Along (language r) g s p → Along (language r) g s o → steps_of p ≡ steps_of o → p ≡ o
  same_steps s [] [] a b e = refl
  same_steps s [] (k ∷ o) a b e = absurd (let z : ◌≡◌ {A = ℕ} 0 1 = cc in omega arith)
  same_steps s (h ∷ p) [] a b e = absurd (let z : ◌≡◌ {A = ℕ} 0 1 = cc in omega arith)
  same_steps s (h ∷ p) (k ∷ o) a b e =
      let first : ◌≡◌ {A = ℕ × ℕ} (h.step.label, h.to) (k.step.label, k.to) = cc in
      let rest : steps_of p ≡ steps_of o = cc in
      let label : h.step.label ≡ k.step.label = ap (λ (x : ℕ × ℕ). x.0) first in
      let scope : h.to ≡ k.to = ap (λ (x : ℕ × ℕ). x.1) first in
      let turn : h.step.turn ≡ k.step.turn = range.together _ _ a.0 b.0 refl scope label in
      let hop : h ≡ k = hop_eq label turn scope in
      let tail : p ≡ o = same_steps h.to p o a.1 (rw (← scope) at b.1) rest in
      cc

module _ (cells : List ℕ) (q : Query (language (rules_of cells))) (a : Accepted (language (rules_of cells)) (graph_of cells) (opens_of cells) q) where
  abbrev L : Language
  L = language (rules_of cells)

  abbrev listed : List (Node L)
  listed = beginnings L (graph_of cells) q

  abbrev paths : List (List (Hop L))
  paths = map (λ (n : Node L). n.hops) listed

  path : (p : List (Hop L)) → p ∈ paths → Along L (graph_of cells) q.start p
  path p m = ((beginnings_are L (graph_of cells) (opens_of cells) q a p).0 m).path.along

  once : Pairwise (λ (p r : List (Hop L)). ¬ (steps_of p ≡ steps_of r)) paths
  once =
      pairwise_weaken (λ (p r : List (Hop L)). ¬ (p ≡ r)) _ paths
      (λ p r m k apart e. apart (same_steps (rules_of cells) (graph_of cells) a.in_range q.start p r (path p m) (path r k) e))
      (map_pairwise (λ (p r : List (Hop L)). ¬ (p ≡ r)) (λ (n : Node L). n.hops) listed (each_once L (graph_of cells) (opens_of cells) q a))

  right : RightCount cells q (capped (length listed))
  unfolding graph_of
  right = record {
    paths = paths;
    beginnings = beginnings_are L (graph_of cells) (opens_of cells) q a;
    once = once;
    number = ap capped (sym (length-map listed (λ (n : Node L). n.hops)));
    few = λ one.
        let all = few L (graph_of cells) (opens_of cells) q a (one_edge cells one) in
        let kept = capped_few (length listed) in
        omega arith;
  }

pub count_done : (text cells : List ℕ) → read_cells text ≡ done cells → (i : ℕ) → i < length (queries_of cells) → count_for text i ≡ done (followed_count cells i)
unfolding count_for count_of and_then refuse_if
count_done text cells e i h = rw (e, lt-leb (length (queries_of cells)) i h)

pub counted_right : CountedRight
unfolding query_at followed_count
counted_right text cells e i h =
    let t = read_accepted text cells e in
    let starts = t.starts (query_at cells i) (get_d_in (queries_of cells) i _ h) in
    (followed_count cells i, count_done text cells e i h, right cells (query_at cells i) (t.accepted (query_at cells i) starts))

pub count_refused : CountRefused
unfolding count_for count_of and_then refuse_if
count_refused text i = (λ n e. rw e, λ cells e h. rw (e, le-leb (length (queries_of cells)) i h))
