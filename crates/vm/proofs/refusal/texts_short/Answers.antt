-- The live lengths are those from `from` on, and where they go round the ring's end, those from its start on too.
-- Assumes nothing.
use Prim.Native.Nat.{◌%◌}
use native.Mathlib.Omega.{arith}
use mathlib.Core.Path.{◌∙◌}
use borrow.Author.Rules.{rules}
use Rattle.trace.specs.Trace.{live_lengths}
use Rattle.trace.proofs.Checks.{short_linear, short_round}
use Rattle.vm.proofs.refusal.texts_short.Goals as goal

pub returns-then-end-le-TRACE_LIMIT : goal.returns-then-end-le-TRACE_LIMIT
unfolding live_lengths
returns-then-end-le-TRACE_LIMIT c = let s = c in let a = s.args in
    c.short_between.ensures ∙ short_linear a.lengths.now (a.start % 512) a.n (search rules) c.if-end-le-TRACE_LIMIT.true

pub returns : goal.returns
unfolding live_lengths
returns c = let s = c in let a = s.args in
    short_round a.lengths.now (a.start % 512) a.n (search rules) (omega arith) s.requires c.if-end-le-TRACE_LIMIT.false c.short_between-first.ensures c.short_between-second.ensures
