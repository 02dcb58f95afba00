-- Assumes nothing.
use mathlib.Core.Path.{◌≡◌, sym, ap, ◌∙◌}
use Prim.Native.Nat.{ℕ, ◌-◌}
use native.Mathlib.Nat.{sub-zero}
use native.Mathlib.Omega.{arith}
use Rattle.encoding.specs.Bytes.{over, big_endian}
use Rattle.encoding.proofs.Written.{over_nil}
use Rattle.encoding.proofs.Loops.{put_turn}
use Rattle.encoding.proofs.put_digits.Goals as goal

pub loop-i-init : goal.loop-i-init
loop-i-init c = rw sub-zero

pub loop-i-preserved : goal.loop-i-preserved
loop-i-preserved c =
    let l = c.loop-i in
    let a = c.args in
    put_turn l.out a.at a.width l.i l.left (omega arith) (omega arith) ∙ l.invariant

pub returns : goal.returns
unfolding big_endian
returns c =
    let l = c.loop-i in
    let at = c.args.at in
    let e : c.args.width - l.i ≡ 0 = omega arith in
    sym (over_nil l.out at) ∙ ap (λ (k : ℕ). over l.out at (big_endian k l.left)) (sym e) ∙ l.invariant
