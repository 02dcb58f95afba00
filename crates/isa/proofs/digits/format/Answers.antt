-- Assumes nothing.
use native.Mathlib.Omega.{arith}
use mathlib.Core.Path.{◌≡◌, refl}
use lib.ListN.{length}
use Rattle.isa.specs.Text.{padded}
use Rattle.isa.specs.Format.{fill}
use Rattle.isa.proofs.Texts.{filled_next, filled_text}
use Rattle.isa.proofs.Fills.{length-fill, get_d_fill}
use Rattle.isa.proofs.digits.format.Goals as goal

pub loop-i-init : goal.loop-i-init
unfolding padded
loop-i-init c = refl

pub loop-i-preserved : goal.loop-i-preserved
loop-i-preserved c =
    let s = c.args in
    let l = c.loop-i in
    let xs = fill s.word s.template.now in
    let n : length xs ≡ length s.template.now = length-fill s.word s.template.now in
    rw (c.filled.ensures, c.digits_of-digits.ensures, ← (get_d_fill s.word s.template.now l.i)) (filled_next 32 xs l.i (omega arith) (omega arith) l.invariant)

pub returns : goal.returns
returns c =
    let s = c.args in
    let xs = fill s.word s.template.now in
    let e : c.loop-i.i ≡ c.min-n.result = omega arith in
    let n : length xs ≡ length s.template.now = length-fill s.word s.template.now in
    filled_text 32 xs 32 c.min-n.result (omega (arith, c.min-n.ensures)) (rw e at c.loop-i.invariant)
