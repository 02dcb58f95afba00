-- Assumes nothing.
use Prim.Native.Nat.{◌/◌}
use native.Mathlib.Omega.{arith}
use borrow.Author.Tests.{lt-ltb, le-ltb}
use Rattle.isa.specs.Format.{decimal}
use Rattle.listing.proofs.head.decimal_text.Goals as goal

pub returns-then-n-lt10 : goal.returns-then-n-lt10
unfolding decimal
returns-then-n-lt10 c = simp (lt-ltb _ _ c.if-n-lt10.true) c.from_bytes.ensures

pub returns-then-n-lt100 : goal.returns-then-n-lt100
unfolding decimal
returns-then-n-lt100 c =
    let n = c.args.n in
    simp (le-ltb n 10 c.if-n-lt10.false, lt-ltb (n / 10) 10 (omega arith)) c.from_bytes-then-n-lt100.ensures

pub returns : goal.returns
unfolding decimal
returns c =
    let n = c.args.n in
    simp (le-ltb n 10 c.if-n-lt10.false, le-ltb (n / 10) 10 (omega arith), lt-ltb (n / 10 / 10) 10 (omega arith)) c.from_bytes-2.ensures
