use mathlib.Core.Path.{refl, ap, ◌∙◌}
use native.Mathlib.Numerals.{add-one}
use native.Mathlib.Omega.{arith}
use lib.ListN.{length, get_or, take}
use lib.Seq.{take-suc}
use Rattle.isa.specs.Word.{byte_yz, decode_word}
use Rattle.listing.specs.Listing.{refers}
use Rattle.listing.proofs.Lines.{labels-none, labels-more, length-noted}
use Rattle.listing.proofs.labels.labels.Goals as goal

pub loop-word-init : goal.loop-word-init
loop-word-init c = (labels-none, refl)

pub loop-word-preserved : goal.loop-word-preserved
loop-word-preserved c =
    let ws = c.args.words.now in
    let i = c.loop-word.word-index in
    let t = c.loop-word.table in
    let w = get_or ws i 0 in
    let v = c.loop-word.invariant in (
      rw (c.note.ensures, add-one, take-suc ws i 0 (omega arith)) (labels-more t (take i ws) w v.0 v.1 (omega arith)),
      ap length c.note.ensures ∙ length-noted (refers (decode_word w)) t (byte_yz w) ∙ v.1,
    )
