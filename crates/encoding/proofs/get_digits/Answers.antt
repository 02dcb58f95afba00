-- Assumes nothing.
use mathlib.Core.Path.{◌≡◌, refl, ap, ◌∙◌}
use mathlib.Core.List.{List}
use Prim.Native.Nat.{ℕ, ◌+◌, ◌-◌, ◌≤◌, ◌<◌}
use native.Mathlib.Omega.{arith}
use borrow.Author.Rules.{rules}
use lib.ListN.{length, take, drop, get_or}
use Rattle.std.proofs.lemmas.List.Edits.{length-between, get_or-between}
use Rattle.encoding.specs.Bytes.{number}
use Rattle.encoding.proofs.Loops.{room, number-turn, below-turn}
use Rattle.encoding.proofs.get_digits.Goals as goal

width_of : (d : List ℕ) (at w : ℕ) → at + w ≤ length d → length (take (at + w - at) (drop at d)) ≡ w
width_of d at w h =
    let e : at + w - at ≡ w = omega arith in
    length-between d at (at + w) h ∙ e

pub loop-byte-init : goal.loop-byte-init
unfolding number
loop-byte-init c = (refl, search rules)

pub overflow_mul-read : goal.overflow_mul-read
overflow_mul-read c =
    let w = width_of c.args.bytes.now c.args.at c.args.width c.requires.0 in
    omega (arith, room c.loop-byte.byte-index (omega (arith, w)))

pub overflow_add-read : goal.overflow_add-read
overflow_add-read c =
    let w = width_of c.args.bytes.now c.args.at c.args.width c.requires.0 in
    let e = get_or-between c.args.bytes.now c.args.at (c.args.at + c.args.width) c.loop-byte.byte-index 0 (omega (arith, w)) in
    omega (arith, e, c.type_inv.bytes (c.args.at + c.loop-byte.byte-index), room c.loop-byte.byte-index (omega (arith, w)))

pub loop-byte-preserved : goal.loop-byte-preserved
loop-byte-preserved c =
    let l = c.loop-byte in
    let a = c.args in
    let w = width_of a.bytes.now a.at a.width c.requires.0 in
    let e : c.from.result ≡ get_or a.bytes.now (a.at + l.byte-index) 0 =
    c.from.ensures ∙ get_or-between a.bytes.now a.at (a.at + a.width) l.byte-index 0 (omega (arith, w)) in
    let b : c.from.result < 256 = omega (arith, c.type_inv.bytes (a.at + l.byte-index)) in
    (rw e (number-turn a.bytes.now a.at l.byte-index l.read l.invariant.0), below-turn l.byte-index l.read c.from.result l.invariant.1 b)

pub returns : goal.returns
returns c =
    let l = c.loop-byte in
    let a = c.args in
    let w = width_of a.bytes.now a.at a.width c.requires.0 in
    let e : l.byte-index ≡ a.width = omega (arith, w) in
    (l.invariant.0 ∙ ap (λ (k : ℕ). number k (drop a.at a.bytes.now)) e, rw e at l.invariant.1)
