-- Assumes nothing.
use native.Mathlib.Omega.{arith}
use Prim.Native.Nat.{ℕ}
use mathlib.Core.List.{List}
use mathlib.Core.Path.{◌≡◌, ap, ◌∙◌}
use lib.ListN.{length, take, drop}
use Rattle.isa.specs.Format.{fill, hex4}
use Rattle.encoding.proofs.Written.{written-fits}
use Rattle.listing.specs.Listing.{line_back}
use Rattle.listing.proofs.Lines.{length_back}
use Rattle.listing.proofs.line.put_back.Goals as goal

pub returns : goal.returns
unfolding line_back fill
returns c =
    let s = c.args in
    let l : length (line_back s.address s.word) ≡ 11 = length_back s.address s.word in
    let p : c.copy_from_slice.new.self ≡ take 2 (drop 2 (hex4 s.address)) = c.copy_from_slice.ensures.after ∙ ap (λ (d : List ℕ). take 2 (drop 2 d)) c.digits_of-place.ensures in
    let q : c.copy_from_slice-2.new.self ≡ hex4 s.word = c.copy_from_slice-2.ensures.after ∙ c.digits_of-digits.ensures in
    rw (p, q) at c.put_bytes.ensures
    ∙ written-fits s.out.now s.at (line_back s.address s.word) (omega (arith, l, c.requires))
