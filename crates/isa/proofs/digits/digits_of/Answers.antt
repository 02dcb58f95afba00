use Prim.Native.Nat.{ℕ, zero, suc, ◌+◌, ◌*◌, ◌-◌, ◌/◌, ◌%◌, ◌≤◌, ◌<◌}
use native.Mathlib.Omega.{arith}
use native.Mathlib.Nat.{div-div-eq-div-mul}
use mathlib.Core.Path.{◌≡◌, refl, ap}
use mathlib.Core.List.{List}
use lib.ListN.{set}
use Rattle.isa.specs.Format.{digit_pair}
use Rattle.isa.proofs.Pairs.{low_pair}
use Rattle.isa.proofs.digits.digits_of.Invariants.{Turned}
use Rattle.isa.proofs.digits.digits_of.Goals as goal

bound : (w left : ℕ) (digits : List ℕ) (rest : ℕ) → Turned w left digits rest → left ≤ 2
bound w zero digits rest t = omega arith
bound w (suc zero) digits rest t = omega arith
bound w (suc (suc zero)) digits rest t = omega arith
bound w (suc (suc (suc n))) digits rest t = absurd t

turn : (w left : ℕ) (digits : List ℕ) (rest : ℕ) {p : ℕ} → 0 < left → p ≡ digit_pair (rest % 256) → Turned w left digits rest
    → Turned w (left - 1) (set (set digits (2 * (left - 1)) (p / 256)) (2 * (left - 1) + 1) (p % 256)) (rest / 256)
turn w zero digits rest h e t = absurd (omega arith)
turn w (suc zero) digits rest h e t =
    let k = low_pair (w / 256) (rw t.1 at e) in
    let a : w / 256 / 16 ≡ w / 4096 = div-div-eq-div-mul w 256 16 in
    rw (t.0, k.0, k.1, a)
turn w (suc (suc zero)) digits rest h e t =
    let k = low_pair w (rw t.1 at e) in
    (rw (t.0, k.0, k.1), ap (λ (n : ℕ). n / 256) t.1)
turn w (suc (suc (suc n))) digits rest h e t = absurd t

pub loop-left-init : goal.loop-left-init
loop-left-init c = (refl, refl)

pub overflow_mul-digits : goal.overflow_mul-digits
overflow_mul-digits c =
    let few : c.loop-left.left ≤ 2 =
    let l = c.loop-left in bound c.args.word l.left l.digits l.rest l.invariant in
    let b = few in omega arith

pub bounds-digits-left : goal.bounds-digits-left
bounds-digits-left c =
    let few : c.loop-left.left ≤ 2 =
    let l = c.loop-left in bound c.args.word l.left l.digits l.rest l.invariant in
    let b = few in omega arith

pub overflow_mul-digits-in-loop-left : goal.overflow_mul-digits-in-loop-left
overflow_mul-digits-in-loop-left c =
    let few : c.loop-left.left ≤ 2 =
    let l = c.loop-left in bound c.args.word l.left l.digits l.rest l.invariant in
    let b = few in omega arith

pub overflow_add-digits : goal.overflow_add-digits
overflow_add-digits c =
    let few : c.loop-left.left ≤ 2 =
    let l = c.loop-left in bound c.args.word l.left l.digits l.rest l.invariant in
    let b = few in omega arith

pub bounds-digits-left-in-loop-left : goal.bounds-digits-left-in-loop-left
bounds-digits-left-in-loop-left c =
    let few : c.loop-left.left ≤ 2 =
    let l = c.loop-left in bound c.args.word l.left l.digits l.rest l.invariant in
    let b = few in omega arith

pub loop-left-preserved : goal.loop-left-preserved
loop-left-preserved c =
    let l = c.loop-left in
    turn c.args.word l.left l.digits l.rest c.loop-left-test.true c.digit_pair-pair.ensures l.invariant

pub returns : goal.returns
returns c =
    let l = c.loop-left in
    let z : l.left ≡ 0 = omega arith in
    rw z at l.invariant
