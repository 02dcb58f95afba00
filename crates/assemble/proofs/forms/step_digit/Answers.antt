use native.Mathlib.Omega.{arith}
use native.Mathlib.Nat.{mul-le-mul}
use native.Mathlib.Numerals.{add-one}
use mathlib.Core.Path.{◌≡◌, sym}
use borrow.Author.Tests.{ltb-true, ltb-false}
use lib.ListN.{length, get_or, drop_of_length-le}
use lib.Seq.{drop-cons}
use Prim.Native.Nat.{◌≤◌, ◌<◌, ◌*◌}
use Rattle.assemble.specs.Reading.{keyed}
use Rattle.assemble.proofs.Steps.{hex-none, hex-some}
use Rattle.assemble.proofs.forms.step_digit.Goals as goal

pub returns-in_err-get : goal.returns-in_err-get
unfolding keyed
returns-in_err-get c =
    let a = c.args in
    let past : length a.s.now ≤ a.spot.at = ltb-false _ _ (sym c.in_err-get.ensures.lookup.0) in
    rw c.from_residual.ensures (record { inside = tt; light = tt; reads = λ t. rw (drop_of_length-le a.s.now {i = a.spot.at} past) })

pub returns-in_err-d : goal.returns-in_err-d
unfolding keyed
returns-in_err-d c =
    let a = c.args in
    let there : a.spot.at < length a.s.now = ltb-true _ _ (sym c.in_ok-get.ensures.lookup.0) in
    let byte : c.in_ok-get.field-0.now ≡ get_or a.s.now a.spot.at 0 = c.in_ok-get.ensures.lookup.4 (omega arith) 0 in
    let none = hex-none (get_or a.s.now a.spot.at 0) (rw byte at c.in_err-d.ensures) in
    rw c.from_residual-in_err-d.ensures (record { inside = tt; light = tt; reads = λ t. rw (drop-cons a.s.now a.spot.at 0 there, none) })

pub returns : goal.returns
unfolding keyed
returns c =
    let a = c.args in
    let there : a.spot.at < length a.s.now = ltb-true _ _ (sym c.in_ok-get.ensures.lookup.0) in
    let byte : c.in_ok-get.field-0.now ≡ get_or a.s.now a.spot.at 0 = c.in_ok-get.ensures.lookup.4 (omega arith) 0 in
    let some = hex-some (get_or a.s.now a.spot.at 0) c.in_ok-d.d (rw byte at c.in_ok-d.ensures) in
    let below : c.in_ok-d.d < 16 = rw some.1 (ltb-true _ _ some.0) in
    let counts : a.m * c.in_ok-d.d ≤ 4096 * 15 = mul-le-mul {n₂ = 4096} {m₂ = 15} (omega arith) (omega arith) in
    record { inside = omega (arith, there); light = omega (arith, counts); reads = λ t. rw (add-one, drop-cons a.s.now a.spot.at 0 there, some.1, some.0) }
