-- Assumes nothing.
use Prim.Native.Nat.{ℕ, ◌*◌}
use native.Mathlib.Omega.{arith}
use mathlib.Core.Path.{◌≡◌, ap, ◌∙◌}
use mathlib.Core.List.{List}
use lib.ListN.{length}
use Rattle.std.specs.Prelude.{Result, Ok}
use Rattle.encoding.specs.Bytes.{big_endians, written}
use Rattle.encoding.specs.Answer.{outcome}
use Rattle.encoding.specs.Refusal.{told}
use Rattle.encoding.specs.declared.refusal.Refusal.{Refusal}
use Rattle.assemble.specs.Assembly.{image}
use Rattle.assemble.proofs.Steps.{passed_on}
use Rattle.assemble.proofs.Answers.{Said, said, bytes-refused, bytes-short, bytes-written}
use Rattle.assemble.proofs.calls.assemble_bytes.Goals as goal

pub returns-in_err-image : goal.returns-in_err-image
returns-in_err-image c =
    let s = c.args in
    let e = c.in_err-image.field-0.0 in
    ap (λ (r : Result ℕ Refusal). outcome (told r) s.out.now) (passed_on c.from_residual.result e c.from_residual.ensures.1) ∙ bytes-refused s.text.now s.out.now e c.in_err-image.ensures

pub overflow_mul-size : goal.overflow_mul-size
overflow_mul-size c =
    let clean : Said c.args.text.now c.in_ok-image.image = said c.args.text.now c.in_ok-image.image c.in_ok-image.ensures in
    record { fits = omega (arith, clean.few) }

pub returns-then-out-size : goal.returns-then-out-size
returns-then-out-size c =
    let s = c.args in
    let clean : Said s.text.now c.in_ok-image.image = said s.text.now c.in_ok-image.image c.in_ok-image.ensures in
    bytes-short s.text.now s.out.now clean.clean (omega (arith, clean.long))

pub shared_ref_as_front-put_words : goal.shared_ref_as_front-put_words
shared_ref_as_front-put_words c =
    let clean : Said c.args.text.now c.in_ok-image.image = said c.args.text.now c.in_ok-image.image c.in_ok-image.ensures in
    omega (arith, clean.few, clean.room)

pub returns : goal.returns
returns c =
    let s = c.args in
    let a = c.in_ok-image.image in
    let clean : Said s.text.now a = said s.text.now a c.in_ok-image.ensures in
    let e : 2 * a.count ≡ 2 * length (image s.text.now) = ap (λ (n : ℕ). 2 * n) clean.long in
    let w = c.put_words.ensures ∙ ap (λ (ws : List ℕ). written s.out.now 0 (big_endians 2 ws)) clean.words in
    (λ i. outcome (told (Ok (e i))) (w i)) ∙ bytes-written s.text.now s.out.now clean.clean (omega (arith, e, c.if-out-size.false))
