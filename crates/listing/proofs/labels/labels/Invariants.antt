-- The invariant: the table says of each address whether the words so far give it a label.
-- Assumes nothing.
use mathlib.Core.Path.{◌≡◌}
use lib.ListN.{length, take}
use Rattle.listing.specs.Listing.{listing_words}
use Rattle.listing.proofs.Lines.{Labels}
use Rattle.listing.proofs.labels.labels.Given as goal

abbrev pub invariant-loop-word : goal.invariant-loop-word
invariant-loop-word l = Labels l.table (take l.word-index l.words) × (length l.table ≡ listing_words)
