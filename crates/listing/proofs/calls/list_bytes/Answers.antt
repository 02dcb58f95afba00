-- Assumes nothing.
use Prim.Native.Nat.{ℕ, ◌/◌, ◌≤◌}
use native.Mathlib.Omega.{arith}
use mathlib.Core.List.{List}
use mathlib.Core.Path.{◌≡◌, sym, ap, ◌∙◌}
use lib.ListN.{length, take, replicate, length-append}
use lib.Seq.{length-take-le}
use Rattle.encoding.specs.Bytes.{read_words}
use Rattle.encoding.proofs.Numbers.{length-numbers}
use Rattle.listing.specs.Listing.{listing_words, listing_outcome}
use Rattle.listing.proofs.Listings.{words_read, part_back, bytes_1, bytes_5, bytes_6, bytes_listed}
use Rattle.listing.proofs.calls.list_bytes.Goals as goal

pub returns-then-n-gt-LISTING_WORDS : goal.returns-then-n-gt-LISTING_WORDS
returns-then-n-gt-LISTING_WORDS c = bytes_1 c.args.image.now c.args.out.now c.if-n-gt-LISTING_WORDS.true

pub returns-then-out-listing_length : goal.returns-then-out-listing_length
returns-then-out-listing_length c = bytes_5 c.args.image.now c.args.out.now c.if-n-gt-LISTING_WORDS.false c.listing_length.ensures c.if-out-listing_length.true

pub returns-then-image-ne0 : goal.returns-then-image-ne0
returns-then-image-ne0 c = bytes_6 c.args.image.now c.args.out.now c.if-n-gt-LISTING_WORDS.false c.listing_length.ensures c.if-out-listing_length.false c.if-image-ne0.true

pub slice_bounds-get_words-end : goal.slice_bounds-get_words-end
slice_bounds-get_words-end c = sym (length-take-le (length c.args.image.now / 2) (replicate listing_words 0) c.if-n-gt-LISTING_WORDS.false)

-- how many words were read
read_length : (image : List ℕ) {ws : List ℕ} → length image / 2 ≤ listing_words → ws ≡ read_words image 0 (take (length image / 2) (replicate listing_words 0)) → length ws ≡ length image / 2
read_length image h e = ap length (words_read image (replicate listing_words 0) h e) ∙ length-numbers 2 (length image / 2) image

pub slice_bounds-words-end-2 : goal.slice_bounds-words-end-2
slice_bounds-words-end-2 c =
    let l : length c.get_words.new.out ≡ length c.args.image.now / 2 = read_length c.args.image.now c.if-n-gt-LISTING_WORDS.false c.get_words.ensures in
    rw length-append (omega arith)

pub slice_bounds-disassemble_image-end : goal.slice_bounds-disassemble_image-end
slice_bounds-disassemble_image-end c =
    let n = length c.args.image.now / 2 in
    let l : length c.get_words.new.out ≡ n = read_length c.args.image.now c.if-n-gt-LISTING_WORDS.false c.get_words.ensures in
    sym (ap length (part_back n (replicate listing_words 0) c.get_words.new.out l) ∙ l)

pub returns : goal.returns
returns c =
    let s = c.args in
    let n = length s.image.now / 2 in
    let h = c.if-n-gt-LISTING_WORDS.false in
    let l : length c.get_words.new.out ≡ n = read_length s.image.now h c.get_words.ensures in
    c.disassemble_image.ensures
    ∙ ap (λ (ws : List ℕ). listing_outcome ws s.out.now) (part_back n (replicate listing_words 0) c.get_words.new.out l ∙ words_read s.image.now (replicate listing_words 0) h c.get_words.ensures)
    ∙ bytes_listed s.image.now s.out.now h c.listing_length.ensures c.if-out-listing_length.false c.if-image-ne0.false
