-- `renumbering::alone::list_answer` answers for the list alone. Assumes nothing.
use Prim.Native.Nat.{ℕ}
use borrow.Author.Rules.{rules}
use Rattle.renumbering.specs.Alone.{list_size}
use Rattle.renumbering.proofs.AloneLaws.{one_alone}
use Rattle.renumbering.proofs.alone.list_answer.Goals as goal

pub returns : goal.returns
unfolding list_size
returns g c = record { answer = λ number. one_alone number (λ (s : ℕ × ℕ). s.1) c.args.sizes c.map.result _ (λ s n h. search rules) c.map.ensures.cases }
