use native.Mathlib.Omega.{arith}
use mathlib.Core.Path.{◌≡◌, sym, ◌∙◌}
use Prim.Native.Nat.{◌≤◌, ◌<◌}
use borrow.Author.Tests.{ltb-true, ltb-false}
use lib.ListN.{length, get_or, get_or-eq_default}
use Rattle.assemble.specs.Grammar.{is_name_byte}
use Rattle.assemble.proofs.Steps.{front-all, passed_front}
use Rattle.assemble.proofs.Rows.{no_colon, with_colon, some_always}
use Rattle.assemble.proofs.lines.colon_label.Goals as goal

pub returns-in_err-get : goal.returns-in_err-get
returns-in_err-get c =
    let s = c.args.s.now in
    let e = c.args.end in
    let past : length s ≤ e = ltb-false _ _ (sym c.in_err-get.ensures.lookup.0) in
    let z : get_or s e 0 ≡ 0 = get_or-eq_default s 0 {n = e} past in
    rw c.from_residual.ensures (record { key = no_colon s e c.requires (λ q. omega (arith, q, z)); inside = tt })

pub returns-then-branch-ne58 : goal.returns-then-branch-ne58
returns-then-branch-ne58 c =
    let s = c.args.s.now in
    let e = c.args.end in
    let byte : c.in_ok-get.field-0.now ≡ get_or s e 0 = c.in_ok-get.ensures.lookup.4 (omega arith) 0 in
    record { key = no_colon s e c.requires (λ q. c.if-branch-ne58.true (byte ∙ q)); inside = tt }

pub label_key-requires : goal.label_key-requires
label_key-requires c =
    let s = c.args.s.now in
    rw (passed_front c.requires) (front-all is_name_byte s)

pub returns : goal.returns
returns c =
    let s = c.args.s.now in
    let e = c.args.end in
    let there : e < length s = ltb-true _ _ (sym c.in_ok-get.ensures.lookup.0) in
    let byte : c.in_ok-get.field-0.now ≡ get_or s e 0 = c.in_ok-get.ensures.lookup.4 (omega arith) 0 in
    record { key = with_colon s e c.requires (sym byte ∙ c.if-branch-ne58.false) c.label_key.ensures; inside = some_always c.label_key.result there }
