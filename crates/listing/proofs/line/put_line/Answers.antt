-- Assumes nothing.
use Prim.Native.Nat.{◌+◌}
use native.Mathlib.Omega.{arith}
use mathlib.Core.Path.{◌≡◌, ◌∙◌}
use lib.ListN.{length}
use Rattle.encoding.proofs.Written.{over-over}
use Rattle.listing.specs.Listing.{line_front, line_back, line}
use Rattle.listing.proofs.Lines.{length_front}
use Rattle.listing.proofs.line.put_line.Goals as goal

pub returns : goal.returns
unfolding line
returns c =
    let s = c.args in
    let f = line_front s.count s.on s.address s.word in
    let l : length f ≡ 34 = length_front s.count s.on s.address s.word in
    c.put_back.ensures ∙ rw c.put_front.ensures (over-over s.out.now s.at f (line_back s.address s.word) (s.at + 34) (omega (arith, c.requires)) (omega arith))
