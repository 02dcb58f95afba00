-- A number of 64 bits has 20 digits at most, and they are those of `decimal 20`.
use Rattle.std.proofs.Common.{◌≡◌, ◌≤◌, length, length-append, arith}
use Rattle.isa.specs.Format.{decimal}
use Rattle.answer.proofs.Lines.{few, count, numbered}
use Rattle.answer.proofs.put_numbered.Goals as goal

pub returns : goal.returns
returns c =
    let a = c.args in
    let d = c.decimal-count in
    let s : d.result ≤ 20 = few a.n d.result (omega arith) d.ensures.len in
    let l : length (decimal 20 a.n) ≡ d.result = count a.n (omega arith) d.ensures.len d.ensures.digits in
    record {
      value = simp length-append (omega arith);
      upper_bound = omega arith;
      line_after = numbered a.n (omega arith) d.ensures.len d.ensures.digits a.line.now a.text.now a.at (omega arith) c.put_bytes.ensures c.put_bytes-2.ensures;
    }
