-- Assumes nothing.
use Prim.Native.Nat.{◌≤◌, ◌+◌}
use native.Mathlib.Omega.{arith}
use mathlib.Core.Path.{◌≡◌, refl}
use lib.ListN.{length}
use Rattle.listing.specs.Listing.{label_text, listing_text, line_front}
use Rattle.listing.proofs.Lines.{text-length, label-short, listing_short, columns}
use Rattle.listing.proofs.line.put_front.Goals as goal

pub put_column-requires : goal.put_column-requires
put_column-requires c =
    let s = c.args in
    let l : c.label_text.result.len ≡ length (label_text s.on s.address) = text-length (label_text s.on s.address) c.label_text.ensures in
    let k : length (label_text s.on s.address) ≤ 4 = label-short s.on s.address in
    (omega arith, omega arith, omega arith)

pub put_column-requires-2 : goal.put_column-requires-2
put_column-requires-2 c =
    let s = c.args in
    let l : c.listing_text.result.len ≡ length (listing_text s.count s.word) = text-length (listing_text s.count s.word) c.listing_text.ensures in
    let k : length (listing_text s.count s.word) ≤ 26 = listing_short s.count s.word in
    (omega arith, omega arith, omega (arith, c.put_column.auto))

pub returns : goal.returns
unfolding line_front
returns c =
    let s = c.args in
    let k : length (label_text s.on s.address) ≤ 4 = label-short s.on s.address in
    columns s.out.now s.at 8 26 (s.at + 8) (label_text s.on s.address) (listing_text s.count s.word) (omega arith) refl (omega (arith, c.requires))
    c.label_text.ensures c.listing_text.ensures c.put_column.ensures c.put_column-2.ensures
