-- The invariant: what is done of the image, with what is left, is the whole, and behind it there are zeros; from i on a label is missing where one is at all.
-- Assumes nothing.
use Rattle.assemble.specs.Reading.{labels_in, words_in, refers_in}
use Rattle.assemble.proofs.Linking.{Resolving}
use Rattle.assemble.proofs.links.resolve.Given as goal

abbrev pub invariant-loop-i : goal.invariant-loop-i
invariant-loop-i l = Resolving (words_in l.entries) (labels_in l.entries) (refers_in l.entries) l.out l.i
