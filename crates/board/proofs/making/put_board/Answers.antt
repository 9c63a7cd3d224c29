use Rattle.board.proofs.FillLaws.{starts_are, made}
use borrow.Author.Rules.{rules}
use Rattle.board.proofs.making.put_board.Goals as goal

pub put_rules-requires : goal.put_rules-requires
put_rules-requires c = record { places = starts_are _ _ c.starts-at.ensures.answer }

pub put_graph-requires : goal.put_graph-requires
put_graph-requires c = record { places = starts_are _ _ c.starts-at.ensures.answer }

pub rows_at-requires : goal.rows_at-requires
rows_at-requires c = record { places = starts_are _ _ c.starts-at.ensures.answer; section = search rules }

pub rows_at-requires-2 : goal.rows_at-requires-2
rows_at-requires-2 c = record { places = starts_are _ _ c.starts-at.ensures.answer; section = search rules }

pub returns : goal.returns
returns c = record { made = made _ _ _ _ c.put_rules.ensures.put c.put_graph.ensures.put c.put_hints.ensures.only }
