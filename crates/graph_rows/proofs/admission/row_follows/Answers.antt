use lib.ListN.{drop}
use mathlib.Core.Path.{sym, ap, ◌∙◌}
use Rattle.graph_rows.specs.Format.{section_at}
use Rattle.graph_rows.specs.Admission.{row_of}
use Rattle.graph_rows.specs.Table.{letters_at, rows_back, sequence_meaning}
use Rattle.graph_rows.proofs.AdmissionLaws.{sorted_edges, follows_ascending, follows_edge, follows_once, follows_free}
use Rattle.graph_rows.proofs.admission.row_follows.Goals as goal

pub stands_apart-requires : goal.stands_apart-requires
unfolding sequence_meaning
stands_apart-requires c = record { room = c.requires.room; ascended = sorted_edges c.args.k (rows_back c.args.rows c.args.p c.args.table.now) c.requires.sorted (sym (ap sequence_meaning c.in-Apart.is) ∙ c.sequence_of.ensures.answer) }

pub returns-in-Ascending : goal.returns-in-Ascending
unfolding sequence_meaning
returns-in-Ascending c = record { answer = c.ascends.ensures.answer ∙ sym (follows_ascending _ _ _ _ _ (sym (ap sequence_meaning c.in-Ascending.is) ∙ c.sequence_of.ensures.answer)) }

pub returns-in-Apart : goal.returns-in-Apart
unfolding sequence_meaning
returns-in-Apart c = record { answer = c.stands_apart.ensures.answer ∙ sym (follows_edge _ _ _ _ (sym (ap sequence_meaning c.in-Apart.is) ∙ c.sequence_of.ensures.answer)) }

pub returns-in-Once : goal.returns-in-Once
unfolding sequence_meaning
returns-in-Once c = record { answer = c.unlisted.ensures.answer ∙ sym (follows_once (section_at c.args.k).sequence (section_at c.args.k).key (letters_at c.args.labels (drop 1 c.args.table.now)) (rows_back c.args.rows c.args.p c.args.table.now) (row_of (drop c.args.p c.args.table.now)) (sym (ap sequence_meaning c.in-Once.is) ∙ c.sequence_of.ensures.answer) ∙ rw (← c.value_at.ensures.answer)) }

pub returns-in-Free : goal.returns-in-Free
unfolding sequence_meaning
returns-in-Free c = record { answer = sym (follows_free _ _ _ _ _ (sym (ap sequence_meaning c.in-Free.is) ∙ c.sequence_of.ensures.answer)) }
