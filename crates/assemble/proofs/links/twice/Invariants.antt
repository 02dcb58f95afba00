-- The invariant: from i on a label stands twice where one does at all.
-- Assumes nothing.
use mathlib.Core.Path.{◌≡◌}
use lib.ListN.{drop}
use Rattle.assemble.specs.Assembly.{doubled}
use Rattle.assemble.specs.Reading.{labels_in}
use Rattle.assemble.proofs.links.twice.Given as goal

abbrev pub invariant-loop-i : goal.invariant-loop-i
invariant-loop-i l = doubled (drop l.i (labels_in l.entries)) ≡ doubled (labels_in l.entries)
