-- Assumes nothing.
use Prim.Native.Nat.{ℕ, ◌+◌, ◌*◌, ◌≤◌, ◌<◌}
use native.Mathlib.Nat.{mul-le-mul_left}
use native.Mathlib.Omega.{arith}
use lib.ListN.{length, get_or}
use Rattle.encoding.specs.Bytes.{big_endian}
use Rattle.encoding.proofs.Numbers.{length-big_endian}
use Rattle.marks.specs.Owners.{hidden_from}
use Rattle.secret.specs.Widths.{value_length}
use Rattle.secret.specs.Report.{value_records}
use Rattle.secret.proofs.Shows.{length-value}
use Rattle.report.proofs.Turns.{rows_first, rows_turn, rows_last}
use Rattle.report.proofs.rows.put_values.Invariants.{piece}
use Rattle.report.proofs.rows.put_values.Goals as goal

-- so much room is left before turn i
room : (w at len : ℕ) {i n : ℕ} → i < n → at + w * n ≤ len → at + w * i + w ≤ len
room w at len {i} h k = let m = mul-le-mul_left w h in omega arith

pub loop-i-init : goal.loop-i-init
loop-i-init c =
    let a = c.args in
    rows_first (value_length a.width) (piece a.clearance a.kind a.width a.values.now a.marks.now) (length a.values.now) a.out.now a.at

pub loop-i-preserved : goal.loop-i-preserved
loop-i-preserved c =
    let a = c.args in
    let v = a.values.now in
    let m = a.marks.now in
    let l = c.loop-i in
    rows_turn (value_length a.width) (piece a.clearance a.kind a.width v m) (length v) a.out.now a.at l.i l.out
    (length-value (hidden_from a.clearance) a.kind (big_endian a.width l.i) (get_or m l.i 0) (get_or v l.i 0) (length-big_endian a.width l.i)) (omega arith) c.requires.0 l.invariant c.put_value.ensures

pub returns : goal.returns
unfolding value_records
returns c =
    let a = c.args in
    let v = a.values.now in
    let l = c.loop-i in
    rows_last (value_length a.width) (piece a.clearance a.kind a.width v a.marks.now) (length v) a.out.now a.at l.i l.out (omega arith) l.invariant
