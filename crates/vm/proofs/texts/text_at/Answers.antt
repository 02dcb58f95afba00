-- Assumes nothing.
use Prim.Native.Nat.{◌+◌, ◌-◌, ◌*◌}
use native.Mathlib.Omega.{arith}
use mathlib.Core.Path.{◌≡◌, sym, ◌∙◌}
use lib.ListN.{get_or, take, drop}
use Rattle.trace.proofs.Rings.{text_at_lem}
use Rattle.vm.proofs.texts.text_at.Goals as goal

pub returns : goal.returns
returns c =
    let a = c.args in
    let o = a.at * 32 in
    let w : o + 32 - o ≡ 32 = omega arith in
    let b = c.copy_from_slice.ensures.after ∙ (λ j. take (w j) (drop o a.columns.now)) ∙ sym (text_at_lem a.columns.now a.at (omega arith) (omega arith)) in
    λ j. record { bytes = b j; len = get_or a.lengths.now a.at 0 }
