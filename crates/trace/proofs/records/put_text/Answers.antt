use Rattle.std.proofs.Common.{◌≡◌, ◌+◌, ◌-◌, ◌*◌, length, arith}
use lib.Seq.{drop-drop}
use Rattle.isa.specs.Sizes.{text_width}
use Rattle.encoding.specs.Bytes.{over}
use Rattle.trace.proofs.records.put_text.Goals as goal

pub returns : goal.returns
unfolding over
returns c =
    let a = c.args in
    let w : a.at * text_width + text_width - a.at * text_width ≡ length a.t.bytes = omega arith in
    rw (c.copy_from_slice.ensures.after, w, drop-drop)
