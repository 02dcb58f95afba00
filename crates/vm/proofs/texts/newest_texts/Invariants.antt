-- The invariant: the newest texts so far are in their places.
-- Assumes nothing.
use mathlib.Core.Path.{◌≡◌}
use Rattle.trace.specs.Trace.{live_texts, take_last, texts_in}
use Rattle.vm.proofs.Newest.{placed}
use Rattle.vm.proofs.texts.newest_texts.Given as goal

abbrev pub invariant-loop-i : goal.invariant-loop-i
invariant-loop-i l = l.texts ≡ placed l.i (take_last l.n (live_texts l.ring.start l.ring.len (texts_in l.columns) l.lengths))
