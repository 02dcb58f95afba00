-- What the assembler's calls answer (02, Change 4; the numbers as in 01, section 1).
-- Assumes nothing.
use Rattle.std.specs.Prelude.{ℕ, zero, suc, ◌*◌, cond, List, eqb, ltb, length, Result, Ok, Err}
use Rattle.isa.specs.Text.{padded}
use Rattle.encoding.specs.Bytes.{over, big_endians}
use Rattle.encoding.specs.Answer.{Outcome, outcome, Told, unless_refused}
use Rattle.encoding.specs.Refusal.{told}
use Rattle.encoding.specs.declared.refusal.Refusal.{Refusal}
use Rattle.encoding.specs.declared.refusal.Refusal.TheVariants.{Grammar, Label, WordCount}
use Rattle.listing.specs.Listing.{listing_words}
use Rattle.assemble.specs.Assembly.{refusal, image}
use Rattle.assemble.specs.declared.Assembled.{Assembled}

-- the refusal of a text by its number, which is 11, 12 or 13
abbrev pub text_refusal : ℕ → Refusal
text_refusal n = cond (eqb n 11) Grammar (cond (eqb n 12) Label WordCount)

-- a refusal by its number; where that is 0, for none, the words with zeros behind them
unfoldable pub answered : ℕ → List ℕ → Result Assembled Refusal
answered zero ws = Ok (record { words = padded listing_words ws; count = length ws })
answered (suc n) ws = Err (text_refusal (suc n))

-- the whole answer: the refusal, or the image where there is none
unfoldable pub assembled : List ℕ → Result Assembled Refusal
assembled t = answered (refusal t) (image t)

-- the image's words, 2 bytes each
abbrev pub image_bytes : List ℕ → List ℕ
image_bytes t = big_endians 2 (image t)

-- into a lent buffer: the text's refusal, then 5 where there is no room for the bytes
abbrev pub bytes_refusal : List ℕ → ℕ → ℕ
bytes_refusal t room = cond (eqb (refusal t) 0) (cond (ltb room (2 * length (image t))) 5 0) (refusal t)

-- the bytes stand at the start of the buffer, and what stands behind them is kept
unfoldable pub bytes_outcome : List ℕ → List ℕ → Outcome Told
bytes_outcome t out =
    unless_refused (bytes_refusal t (length out)) out (outcome (told (Ok (2 * length (image t)))) (over out 0 (image_bytes t)))
