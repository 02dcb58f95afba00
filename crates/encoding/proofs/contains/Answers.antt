-- Assumes nothing.
use mathlib.Core.Path.{◌∙◌}
use Rattle.encoding.proofs.Members.{any-member}
use Rattle.encoding.proofs.contains.Goals as goal

pub returns : goal.returns
returns c = c.contains.ensures.value ∙ any-member c.args.b c.args.s.now
