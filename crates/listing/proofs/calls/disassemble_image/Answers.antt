-- Assumes nothing.
use Rattle.listing.proofs.Listings.{refused_1, refused_5, whole}
use Rattle.listing.proofs.calls.disassemble_image.Goals as goal

pub returns-then-n-gt-LISTING_WORDS : goal.returns-then-n-gt-LISTING_WORDS
returns-then-n-gt-LISTING_WORDS c =
    let s = c.args in
    refused_1 s.words.now s.out.now c.if-n-gt-LISTING_WORDS.true

pub returns-then-out-size : goal.returns-then-out-size
returns-then-out-size c =
    let s = c.args in
    refused_5 s.words.now s.out.now c.if-n-gt-LISTING_WORDS.false c.listing_length-size.ensures c.if-out-size.true

pub returns : goal.returns
returns c =
    let s = c.args in
    whole s.words.now s.out.now c.if-n-gt-LISTING_WORDS.false c.listing_length-size.ensures c.if-out-size.false c.put_head-at.ensures c.put_lines.ensures
