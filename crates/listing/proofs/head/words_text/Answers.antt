-- Assumes nothing.
use borrow.Author.Tests.{eq-eqb, ne_eqb}
use Rattle.listing.specs.Listing.{words_text}
use Rattle.listing.proofs.head.words_text.Goals as goal

pub returns-then-n-eq1 : goal.returns-then-n-eq1
unfolding words_text
returns-then-n-eq1 c = simp (eq-eqb _ _ c.if-n-eq1.true) c.from_bytes.ensures

pub returns-else-n-eq1 : goal.returns-else-n-eq1
unfolding words_text
returns-else-n-eq1 c = simp (ne_eqb _ _ c.if-n-eq1.false) c.from_bytes-else-n-eq1.ensures
