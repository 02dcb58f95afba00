-- Assumes nothing.
use borrow.Author.Tests.{eq-eqb, ne_eqb, lt-ltb, le-ltb}
use Rattle.listing.proofs.calls.listing_length.Goals as goal

pub returns-then-n-eq1 : goal.returns-then-n-eq1
returns-then-n-eq1 c = simp (eq-eqb _ _ c.if-n-eq1.true)

pub returns-then-n-lt10 : goal.returns-then-n-lt10
returns-then-n-lt10 c = simp (ne_eqb _ _ c.if-n-eq1.false, lt-ltb _ _ c.if-n-lt10.true)

pub returns-then-n-lt100 : goal.returns-then-n-lt100
returns-then-n-lt100 c = simp (ne_eqb _ _ c.if-n-eq1.false, le-ltb _ _ c.if-n-lt10.false, lt-ltb _ _ c.if-n-lt100.true)

pub returns : goal.returns
returns c = simp (ne_eqb _ _ c.if-n-eq1.false, le-ltb _ _ c.if-n-lt10.false, le-ltb _ _ c.if-n-lt100.false)
