-- Assumes nothing.
use Prim.Native.Nat.{◌≤◌}
use native.Mathlib.Omega.{arith}
use mathlib.Core.Path.{◌≡◌}
use lib.ListN.{length}
use Rattle.isa.specs.Format.{decimal}
use Rattle.listing.specs.Listing.{words_text, head_start, head_end, head_length}
use Rattle.listing.proofs.Lines.{text-length}
use Rattle.listing.proofs.Listings.{decimal-short, words-short, head_at_least, head_over}
use Rattle.listing.proofs.head.put_head.Goals as goal

pub put_text-p-requires : goal.put_text-p-requires
put_text-p-requires c =
    let n = c.args.n in
    let l : c.decimal_text.result.len ≡ length (decimal 3 n) = text-length (decimal 3 n) c.decimal_text.ensures in
    let k : length (decimal 3 n) ≤ 3 = decimal-short n in
    let h : 186 ≤ head_length n = head_at_least n in
    (omega arith, omega (arith, c.put_bytes.auto, c.requires))

pub put_text-q-requires : goal.put_text-q-requires
put_text-q-requires c =
    let n = c.args.n in
    let t : c.decimal_text.result.len ≡ length (decimal 3 n) = text-length (decimal 3 n) c.decimal_text.ensures in
    let u : c.words_text.result.len ≡ length (words_text n) = text-length (words_text n) c.words_text.ensures in
    let k : length (decimal 3 n) ≤ 3 = decimal-short n in
    let m : length (words_text n) ≤ 24 = words-short n in
    let h : 186 ≤ head_length n = head_at_least n in
    (omega arith, omega (arith, c.put_text-p.ensures.0, c.put_text-p.auto, c.put_bytes.auto, c.requires))

pub returns : goal.returns
unfolding head_start head_end
returns c =
    head_over c.args.out.now c.args.n c.requires.0 c.decimal_text.ensures c.words_text.ensures c.put_bytes.ensures c.put_text-p.ensures c.put_text-q.ensures c.put_bytes-2.ensures
