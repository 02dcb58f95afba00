-- Assumes nothing.
use mathlib.Core.Path.{◌≡◌, sym, ap, ◌∙◌}
use mathlib.Core.List.{◌++◌}
use Prim.Native.Nat.{ℕ, suc, ◌+◌, ◌*◌, ◌-◌}
use native.Mathlib.Nat.{add-zero, sub-zero}
use native.Mathlib.Omega.{arith}
use lib.ListN.{length, take, drop}
use Rattle.encoding.specs.Bytes.{numbers}
use Rattle.encoding.proofs.Loops.{word_at, numbers-turn, numbers-done}
use Rattle.encoding.proofs.get_each.Goals as goal

pub loop-i-init : goal.loop-i-init
loop-i-init c = rw (add-zero, sub-zero)

pub loop-i-preserved : goal.loop-i-preserved
loop-i-preserved c =
    let l = c.loop-i in
    let a = c.args in
    let e : length a.out.now - l.i ≡ suc (length a.out.now - (l.i + 1)) = omega arith in
    rw (c.from_be_bytes.ensures, word_at a.bytes.now (a.at + 2 * l.i))
    (numbers-turn 2 a.bytes.now l.out a.at l.i (length a.out.now - (l.i + 1)) (omega arith)
    ∙ ap (λ (k : ℕ). take l.i l.out ++ numbers 2 k (drop (a.at + 2 * l.i) a.bytes.now)) (sym e)
    ∙ l.invariant)

pub returns : goal.returns
returns c =
    let l = c.loop-i in
    let a = c.args in
    sym (numbers-done 2 (drop (a.at + 2 * l.i) a.bytes.now) l.out l.i (length a.out.now) (omega arith) (omega arith)) ∙ l.invariant
