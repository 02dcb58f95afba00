-- The rule of the table: each entry is its byte's two digits. `refl` is the test, computed over all 256 of them.
-- Assumes nothing.
use mathlib.Core.Path.{refl}
use borrow.Author.Rules.{rules}
use Rattle.isa.specs.Format.{digit_pair}
use Rattle.isa.proofs.Pairs.{each_pair}
use Rattle.isa.proofs.table.digit_pair.Goals as goal

pub returns : goal.returns
unfolding digit_pair
returns c = each_pair _ c.args.b (search rules) c.entry.ensures refl
