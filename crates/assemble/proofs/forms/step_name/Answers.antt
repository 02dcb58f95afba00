use native.Mathlib.Omega.{arith}
use mathlib.Core.Path.{◌≡◌, sym, ap, ◌∙◌}
use borrow.Author.Rules.{rules}
use lib.ListN.{drop}
use Rattle.std.specs.Prelude.{Some, None}
use Rattle.assemble.specs.Grammar.{front, is_name_byte}
use Rattle.assemble.specs.Reading.{keyed, label_key, Passed}
use Rattle.assemble.proofs.Steps.{front-all, label-none, label-some}
use Rattle.assemble.proofs.forms.step_name.Goals as goal
use Rattle.assemble.proofs.forms.step_name.Goals.{After-skip-end}

pub slice_bounds-label_key-count : goal.slice_bounds-label_key-count
slice_bounds-label_key-count c =
    let p : Passed is_name_byte c.args.s.now c.args.spot.at c.skip-end.result = c.skip-end.ensures is_name_byte (λ b r e. search rules) in
    p.ahead

pub slice_bounds-label_key-start : goal.slice_bounds-label_key-start
slice_bounds-label_key-start c =
    let p : Passed is_name_byte c.args.s.now c.args.spot.at c.skip-end.result = c.skip-end.ensures is_name_byte (λ b r e. search rules) in
    omega (arith, p.ahead)

pub slice_bounds-label_key-end : goal.slice_bounds-label_key-end
slice_bounds-label_key-end c =
    let p : Passed is_name_byte c.args.s.now c.args.spot.at c.skip-end.result = c.skip-end.ensures is_name_byte (λ b r e. search rules) in
    omega (arith, p.ahead, p.inside)

pub label_key-requires : goal.label_key-requires
label_key-requires c =
    let p : Passed is_name_byte c.args.s.now c.args.spot.at c.skip-end.result = c.skip-end.ensures is_name_byte (λ b r e. search rules) in
    rw p.passed (front-all is_name_byte (drop c.args.spot.at c.args.s.now))

pub returns-in_err-key : goal.returns-in_err-key
unfolding keyed
returns-in_err-key c =
    let a = c.args in
    let p : Passed is_name_byte a.s.now a.spot.at c.skip-end.result = c.skip-end.ensures is_name_byte (λ b r e. search rules) in
    let k : label_key (front is_name_byte (drop a.spot.at a.s.now)) ≡ None = sym (c.label_key.ensures ∙ ap label_key p.passed) ∙ c.in_err-key.was in
    rw c.from_residual.ensures (record { inside = tt; light = tt; reads = λ t. rw (label-none (front is_name_byte (drop a.spot.at a.s.now)) k) })

pub returns : goal.returns
unfolding keyed
returns c =
    let a = c.args in
    let p : Passed is_name_byte a.s.now a.spot.at c.skip-end.result = c.skip-end.ensures is_name_byte (λ b r e. search rules) in
    let k : label_key (front is_name_byte (drop a.spot.at a.s.now)) ≡ Some c.in_ok-key.key = sym (c.label_key.ensures ∙ ap label_key p.passed) ∙ c.in_ok-key.was in
    let z = label-some (front is_name_byte (drop a.spot.at a.s.now)) c.in_ok-key.key k in
    record { inside = p.inside; light = search rules; reads = λ t. rw (p.left, z.1, z.0) }
