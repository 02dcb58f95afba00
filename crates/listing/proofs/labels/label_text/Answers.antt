-- Assumes nothing.
use lib.Dec.{lit≤}
use Rattle.isa.specs.Text.{ascii}
use Rattle.isa.proofs.Fills.{filled_whole}
use Rattle.listing.specs.Listing.{label_text}
use Rattle.listing.proofs.labels.label_text.Goals as goal

pub returns-then-on : goal.returns-then-on
unfolding label_text
returns-then-on c = rw c.if-on.true (filled_whole _ (ascii "Lyz:") (lit≤ tt) c.format.ensures)

pub returns-else-on : goal.returns-else-on
unfolding label_text
returns-else-on c = rw c.if-on.false c.from_bytes.ensures
