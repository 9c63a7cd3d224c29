-- `past_query` meets its contract: the columns are written to bytes of its own first. Assumes
-- nothing.
use Prim.Native.Nat.{ℕ}
use mathlib.Core.Path.{ap, ◌∙◌}
use mathlib.Core.List.{List}
use lib.ListN.{drop, replicate, length-replicate}
use Rattle.graph_table.specs.Values.{packed}
use Rattle.told.specs.Apart.{after}
use Rattle.told.proofs.ColumnLaws.{columns_are, columns_within}
use Rattle.told.proofs.places.past_query.Goals as goal

pub slice_bounds-columns-end : goal.slice_bounds-columns-end
slice_bounds-columns-end c = (columns_within c.args.form c.args.q.start (packed c.args.q.name) c.requires.scope (replicate 64 0) _ _ (length-replicate {A = ℕ} 64 0) c.put_columns-n.ensures.written).0

pub slice_bounds-past-end : goal.slice_bounds-past-end
slice_bounds-past-end c = (columns_within c.args.form c.args.q.start (packed c.args.q.name) c.requires.scope (replicate 64 0) _ _ (length-replicate {A = ℕ} 64 0) c.put_columns-n.ensures.written).1

pub returns : goal.returns
returns c = record { answer = c.past.ensures.answer ∙ ap (λ (l : List ℕ). after l (drop c.args.at c.args.s.now)) (columns_are c.args.form c.args.q.start (packed c.args.q.name) c.requires.scope (replicate 64 0) _ _ (length-replicate {A = ℕ} 64 0) c.put_columns-n.ensures.written) }
