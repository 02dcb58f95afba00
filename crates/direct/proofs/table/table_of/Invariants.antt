use Rattle.std.proofs.Common.{◌≡◌, drop}
use Rattle.direct.specs.Table.{table_from, table_of}
use Rattle.direct.proofs.table.table_of.Given as goal

abbrev pub invariant-loop-a : goal.invariant-loop-a
invariant-loop-a l = table_from l.table (drop l.a-index l.items) ≡ table_of l.items
