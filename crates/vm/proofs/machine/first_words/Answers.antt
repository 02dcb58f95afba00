-- Assumes nothing.
use Prim.Native.Nat.{min, ◌-◌}
use native.Mathlib.Omega.{arith}
use mathlib.Core.Path.{◌≡◌, ◌∙◌}
use mathlib.Core.List.{◌++◌}
use lib.ListN.{length, take, replicate}
use Rattle.std.proofs.lemmas.List.{take_min, drop-replicate}
use Rattle.isa.specs.Sizes.{memory_words}
use Rattle.vm.proofs.machine.first_words.Goals as goal

pub returns : goal.returns
returns g c =
    let all = c.args.all.now in
    let n : c.min-n.result ≡ min memory_words (length all) = omega (arith, c.min-n.ensures) in
    let front = c.copy_from_slice.ensures.after ∙ (λ i. take (n i) all) ∙ take_min memory_words all in
    let z : memory_words - c.min-n.result ≡ memory_words - length all = omega (arith, c.min-n.ensures) in
    let back = drop-replicate c.min-n.result memory_words c.args.none ∙ (λ i. replicate (z i) c.args.none) in
    λ i. front i ++ back i
