use mathlib.Core.Path.{sym, ap}
use native.Mathlib.Omega.{arith}
use lib.ListN.{get_or-eq_default}
use Rattle.graph_rows.specs.Format.{Section, labels, pairs, transitions, accepts, scope_count, edges, declarations, open_pairs, queries, sections, past_last, section_at}
use Rattle.graph_rows.specs.Table.{sequence_meaning}
use Rattle.graph_rows.proofs.FormatLaws.{sequence_at}
use Rattle.graph_rows.proofs.format.sequence_of.Goals as goal

pub returns-in-0 : goal.returns-in-0
unfolding sequence_meaning section_at sections past_last labels pairs transitions accepts scope_count edges declarations open_pairs queries
returns-in-0 c = record { answer = sequence_at c.args.k 0 c.in-0.is }

pub returns-in-1 : goal.returns-in-1
unfolding sequence_meaning section_at sections past_last labels pairs transitions accepts scope_count edges declarations open_pairs queries
returns-in-1 c = record { answer = sequence_at c.args.k 1 c.in-1.is }

pub returns-in-2 : goal.returns-in-2
unfolding sequence_meaning section_at sections past_last labels pairs transitions accepts scope_count edges declarations open_pairs queries
returns-in-2 c = record { answer = sequence_at c.args.k 2 c.in-2.is }

pub returns-in-3 : goal.returns-in-3
unfolding sequence_meaning section_at sections past_last labels pairs transitions accepts scope_count edges declarations open_pairs queries
returns-in-3 c = record { answer = sequence_at c.args.k 3 c.in-3.is }

pub returns-in-4 : goal.returns-in-4
unfolding sequence_meaning section_at sections past_last labels pairs transitions accepts scope_count edges declarations open_pairs queries
returns-in-4 c = record { answer = sequence_at c.args.k 4 c.in-4.is }

pub returns-in-5 : goal.returns-in-5
unfolding sequence_meaning section_at sections past_last labels pairs transitions accepts scope_count edges declarations open_pairs queries
returns-in-5 c = record { answer = sequence_at c.args.k 5 c.in-5.is }

pub returns-in-6 : goal.returns-in-6
unfolding sequence_meaning section_at sections past_last labels pairs transitions accepts scope_count edges declarations open_pairs queries
returns-in-6 c = record { answer = sequence_at c.args.k 6 c.in-6.is }

pub returns-in-7 : goal.returns-in-7
unfolding sequence_meaning section_at sections past_last labels pairs transitions accepts scope_count edges declarations open_pairs queries
returns-in-7 c = record { answer = sequence_at c.args.k 7 c.in-7.is }

pub returns-in-8 : goal.returns-in-8
unfolding sequence_meaning section_at sections past_last labels pairs transitions accepts scope_count edges declarations open_pairs queries
returns-in-8 c = record { answer = sequence_at c.args.k 8 c.in-8.is }

pub returns-in_default : goal.returns-in_default
unfolding sequence_meaning section_at sections past_last labels pairs transitions accepts scope_count edges declarations open_pairs queries
returns-in_default c = record { answer = ap (λ (s : Section). s.sequence) (sym (get_or-eq_default sections past_last {n = c.args.k} (omega arith))) }
