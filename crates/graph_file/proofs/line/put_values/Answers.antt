use Rattle.graph_file.proofs.LineLaws.{one_value, two_values}
use Rattle.graph_file.proofs.line.put_values.Goals as goal

pub returns-in-One : goal.returns-in-One
returns-in-One c = record { written = one_value c.args.values c.args.row.now c.args.c _ c.from-c.ensures _ _ c.in-One.is c.put_value.ensures.written }

pub returns-in-Two : goal.returns-in-Two
returns-in-Two c = record { written = two_values c.args.values c.args.row.now c.args.c _ c.from-c.ensures _ _ _ _ c.in-Two.is c.put_value-in-Two.ensures.written c.put_value-in-Two-2.ensures.written }
