-- `end_leads` meets its contract: the end mark leads where the path may stop, a label where a hop
-- with it leads on; the nearest way is one of those. Assumes nothing.
use mathlib.Core.Path.{sym, ◌∙◌}
use Rattle.block.proofs.BlockLaws.{block_hops_in}
use Rattle.search.proofs.CutEnds.{behind_stop, behind_by}
use Rattle.search.proofs.ends.end_leads.Goals as goal

pub returns-then-a-eq0 : goal.returns-then-a-eq0
returns-then-a-eq0 c = record { answer = c.is_goal.ensures.answer ∙ sym (behind_stop _ _ _ _ c.if-a-eq0.true) }

pub returns-then-straight : goal.returns-then-straight
returns-then-straight c = record { answer = sym (behind_by _ _ _ _ _ c.if-a-eq0.false c.requires.end c.single-labels.ensures.answer ∙ c.straight.ensures.leads c.if-straight.true) }

pub exists_from-requires : goal.exists_from-requires
exists_from-requires c = record { bounds = c.requires.bounds; table = c.requires.table; inside = c.requires.inside; live = c.requires.live }

pub returns : goal.returns
returns c = record {
  answer = rw (c.edges_from.ensures.answer, sym (block_hops_in c.args.block.now c.args.n.scope c.requires.inside.scope)) at c.exists_from.ensures.answer
      ∙ sym (behind_by _ _ _ _ _ c.if-a-eq0.false c.requires.end c.single-labels.ensures.answer);
}
