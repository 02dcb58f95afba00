-- Assumes nothing.
use mathlib.Core.Path.{sym, ◌∙◌}
use Prim.Native.Nat.{◌+◌, ◌*◌}
use native.Mathlib.Nat.{add-zero, sub-zero, zero-add}
use native.Mathlib.Omega.{arith}
use lib.ListN.{length, get_or}
use Rattle.encoding.proofs.Written.{each_turn, each_done}
use Rattle.encoding.proofs.Numbers.{length-big_endian, big_endians_each}
use Rattle.encoding.proofs.put_each.Invariants.{piece}
use Rattle.encoding.proofs.put_each.Goals as goal

pub loop-i-init : goal.loop-i-init
loop-i-init c =
    let words = c.args.words.now in
    rw (add-zero, sub-zero, big_endians_each 2 words 0 (length words) (zero-add (length words)))

pub loop-i-preserved : goal.loop-i-preserved
loop-i-preserved c =
    let l = c.loop-i in
    let a = c.args in
    let words = a.words.now in
    rw (c.put_digits.ensures, c.from.ensures)
    (each_turn 2 (piece words) l.out a.at l.i (length words) (length-big_endian 2 (get_or words l.i 0)) (omega arith) (omega arith) ∙ l.invariant)

pub returns : goal.returns
returns c =
    let l = c.loop-i in
    let a = c.args in
    let words = a.words.now in
    sym (each_done (piece words) l.out (a.at + 2 * l.i) l.i (length words) (omega arith)) ∙ l.invariant
