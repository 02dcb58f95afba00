-- The invariant: what the forms that are left read is what all read.
-- Assumes nothing.
use mathlib.Core.Path.{◌≡◌}
use lib.ListN.{drop}
use Rattle.assemble.specs.Grammar.{forms, tried}
use Rattle.assemble.specs.Reading.{seen}
use Rattle.assemble.proofs.forms.instruction.Given as goal

abbrev pub invariant-loop-f : goal.invariant-loop-f
invariant-loop-f l = seen (tried (drop l.f forms) l.s) ≡ seen (tried forms l.s)
