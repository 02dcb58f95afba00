-- Assumes nothing.
use Prim.Native.Nat.{◌≤◌, ◌-◌}
use native.Mathlib.Omega.{arith}
use mathlib.Core.Path.{◌≡◌, sym}
use lib.ListN.{length, replicate}
use lib.Seq.{length-take-le}
use Rattle.listing.proofs.Lines.{column}
use borrow.Author.Rules.{rules}
use Rattle.listing.proofs.line.put_column.Goals as goal

pub slice_bounds-bytes-end : goal.slice_bounds-bytes-end
slice_bounds-bytes-end c =
    let thirty_two : length c.args.t.bytes ≡ 32 = search rules in
    let holds : c.args.t.len ≤ length c.args.t.bytes = rw thirty_two (omega arith) in
    holds

pub slice_bounds-put_bytes-end : goal.slice_bounds-put_bytes-end
slice_bounds-put_bytes-end c =
    let thirty_two : length c.args.t.bytes ≡ 32 = search rules in
    let holds : c.args.t.len ≤ length c.args.t.bytes = rw thirty_two (omega arith) in
    sym (length-take-le c.args.t.len c.args.t.bytes holds)

pub slice_bounds-put_bytes-end-2 : goal.slice_bounds-put_bytes-end-2
slice_bounds-put_bytes-end-2 c =
    sym (length-take-le (c.args.width - c.args.t.len) (replicate 26 32) (omega (arith, c.requires)))

pub returns : goal.returns
returns c =
    let thirty_two : length c.args.t.bytes ≡ 32 = search rules in
    let holds : c.args.t.len ≤ length c.args.t.bytes = rw thirty_two (omega arith) in
    column c.args.out.now c.args.at c.args.width c.args.t c.requires.0 c.requires.1 c.requires.2 holds c.put_bytes.ensures c.put_bytes-2.ensures
