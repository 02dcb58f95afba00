-- Assumes nothing.
use Prim.Native.Nat.{◌≤◌}
use native.Mathlib.Omega.{arith}
use mathlib.Core.Path.{◌≡◌, refl, sym, ◌∙◌}
use lib.ListN.{length, take}
use lib.Seq.{length-take-le}
use Rattle.isa.specs.Text.{text_of}
use Rattle.encoding.proofs.Written.{written-fits}
use borrow.Author.Rules.{rules}
use Rattle.listing.proofs.head.put_text.Goals as goal

pub slice_bounds-bytes-end : goal.slice_bounds-bytes-end
slice_bounds-bytes-end c =
    let thirty_two : length c.args.t.bytes ≡ 32 = search rules in
    let holds : c.args.t.len ≤ length c.args.t.bytes = rw thirty_two (omega arith) in
    holds

pub slice_bounds-put_bytes-end : goal.slice_bounds-put_bytes-end
slice_bounds-put_bytes-end c =
    let thirty_two : length c.args.t.bytes ≡ 32 = search rules in
    let holds : c.args.t.len ≤ length c.args.t.bytes = rw thirty_two (omega arith) in
    sym (length-take-le c.args.t.len c.args.t.bytes holds)

pub returns : goal.returns
unfolding text_of
returns c =
    let thirty_two : length c.args.t.bytes ≡ 32 = search rules in
    let holds : c.args.t.len ≤ length c.args.t.bytes = rw thirty_two (omega arith) in
    let t = c.args.t in
    let l : length (take t.len t.bytes) ≡ t.len = length-take-le t.len t.bytes holds in
    (refl, c.put_bytes.ensures ∙ written-fits c.args.out.now c.args.at (take t.len t.bytes) (rw l c.requires.1))
