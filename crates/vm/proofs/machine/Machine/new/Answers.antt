-- No image is an image of zeros.
-- Assumes nothing.
use Rattle.vm.specs.Calls.{image_words}
use Rattle.vm.proofs.machine.Machine.new.Goals as goal

pub returns : goal.returns
unfolding image_words
returns c = c.switched_on.ensures
